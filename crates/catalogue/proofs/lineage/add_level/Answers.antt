use mathlib.Core.Path.{ap, ◌∙◌}
use Prim.Native.Nat.{ℕ, ◌*◌}
use native.Mathlib.Omega.{arith}
use Rattle.rules.specs.Block.{byte}
use Rattle.catalogue.proofs.Levels.{above_before, above-few, levels-more}
use Rattle.catalogue.proofs.lineage.add_level.Goals as goal

pub bounds-row-above : goal.bounds-row-above
bounds-row-above c = omega (
  arith,
  above_before c.args.cat.now c.args.row.now c.args.t.0 c.wide-above.result
      c.requires.0 c.requires.1
      (c.wide-above.ensures.0 ∙ ap (λ (k : ℕ). byte c.args.cat.now (8 * k)) c.wide.ensures.0),
  c.requires.0.few,
)

pub overflow_add-row : goal.overflow_add-row
overflow_add-row c = omega (
  arith,
  above-few c.args.cat.now c.args.row.now c.args.t.0 c.wide-above.result
      c.requires.0 c.requires.1
      (c.wide-above.ensures.0 ∙ ap (λ (k : ℕ). byte c.args.cat.now (8 * k))
      c.wide.ensures.0) c.requires.2,
)

pub returns : goal.returns
returns c = rw c.wide-2.ensures.0 (levels-more c.args.cat.now c.args.row.now c.args.t.0 c.wide-above.result c.requires.0
    c.requires.1 (c.wide-above.ensures.0 ∙ ap (λ (k : ℕ). byte c.args.cat.now (8 * k)) c.wide.ensures.0) c.requires.2)
