use mathlib.Core.Path.{◌≡◌}
use Prim.Native.Nat.{◌+◌, ◌≤◌}
use Rattle.terms.specs.Names.{code}
use Rattle.rules.specs.Catalogue.{types, level}
use Rattle.catalogue.proofs.lineage.level.Given as goal

abbrev pub invariant-loop-u : goal.invariant-loop-u
invariant-loop-u l = (l.u ≤ types l.cat) × (l.l + level l.cat (code l.u) ≡ level l.cat (code l.initial.u))

abbrev pub decreases-loop-u : goal.decreases-loop-u
decreases-loop-u l = l.u
