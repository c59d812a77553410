use Rattle.catalogue.proofs.Levels.{levels-none}
use mathlib.Core.Path.{ap, ◌∙◌}
use Rattle.std.specs.Ordering.{is_lt, is_eq}
use native.Mathlib.Omega.{arith}
use Rattle.twins.proofs.Listing.{row_new}
use Rattle.twins.proofs.Passing.{onward-start, onward-stop, onward-twin, onward-other, onward-end}
use Rattle.twins.proofs.pass_row.Goals as goal
use Rattle.twins.proofs.pass_row.Goals.{in-Equal, in-Greater}

pub levels-requires : goal.levels-requires
levels-requires c = (c.requires.0.sound.catalogue, levels-none c.args.cat.now)

pub loop-at-init : goal.loop-at-init
loop-at-init c = onward-start _ _ _ _

pub stands_to-requires : goal.stands_to-requires
stands_to-requires c = (
  c.requires.0,
  c.requires.1,
  omega (
    arith,
    (row_new c.requires.0
        c.requires.2).within,
  ),
  c.levels.ensures,
)

pub returns-in-Less : goal.returns-in-Less
returns-in-Less c =
    onward-stop (row_new c.requires.0 c.requires.2) _ _ (omega arith) c.loop-at-test.true c.stands_to.ensures
    (ap is_lt c.in-Less.is) ∙ c.loop-at.invariant

pub loop-at-preserved : goal.loop-at-preserved
loop-at-preserved c =
    let r = row_new c.requires.0 c.requires.2 in
    elim c.match-stands_to.branch [
      | in-Equal w ↦
          onward-twin r _ _ (omega arith) c.loop-at-test.true c.stands_to.ensures (ap is_lt w.in-Equal.is) (ap is_eq w.in-Equal.is) w.taken-is
          ∙ c.loop-at.invariant
      | in-Greater w ↦
          onward-other r _ _ (omega arith) c.loop-at-test.true c.stands_to.ensures (ap is_lt w.in-Greater.is) (ap is_eq w.in-Greater.is) w.taken-is
          ∙ c.loop-at.invariant
    ]

pub returns : goal.returns
returns c = onward-end (row_new c.requires.0 c.requires.2) _ _ (omega arith) (omega (arith, (row_new c.requires.0 c.requires.2).many))
    c.loop-at-test.false ∙ c.loop-at.invariant
