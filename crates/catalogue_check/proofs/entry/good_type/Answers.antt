use Rattle.std.proofs.Common.{refl, sym}
use native.Mathlib.Omega.{arith}
use Rattle.rules.specs.Catalogue.{good_type}
use Rattle.catalogue.proofs.Chains.{clash}
use Rattle.catalogue_check.proofs.Levelled.{ordered-more}
use Rattle.catalogue_check.proofs.EntryTests.{entry-parent}
use Rattle.catalogue_check.proofs.entry.good_type.Goals as goal

pub returns-then-not-good_entry : goal.returns-then-not-good_entry
unfolding good_type
returns-then-not-good_entry c = (rw (← c.if-not-good_entry.ensures), λ e. absurd (clash e refl))

pub add_level-requires : goal.add_level-requires
add_level-requires c = (
  ordered-more c.args.cat.now c.args.levels.now c.args.t.0 c.requires (entry-parent _ _ (sym c.if-not-good_entry.ensures)),
  c.requires.some,
  c.requires.before.levels,
)

pub returns : goal.returns
unfolding good_type
returns c = (
  rw (← c.if-not-good_entry.ensures, c.wide.ensures.0, c.add_level.ensures.each c.args.t.0 (omega arith)),
  λ e. record {
    ordered = ordered-more c.args.cat.now c.args.levels.now c.args.t.0 c.requires (entry-parent _ _ (sym c.if-not-good_entry.ensures));
    levels = c.add_level.ensures;
  },
)
