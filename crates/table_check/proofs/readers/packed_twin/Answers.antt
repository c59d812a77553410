use mathlib.Core.Path.{sym, ◌∙◌}
use Rattle.table_check.proofs.Before.{fits_next, last-in, next-in, last-at, next-at}
use Rattle.table_check.proofs.Twins.{unique-follows, multiple-follows}
use Rattle.table_check.proofs.readers.packed_twin.Goals as goal

pub start_before-requires-2 : goal.start_before-requires-2
start_before-requires-2 c = fits_next c.requires

pub holds_at-requires : goal.holds_at-requires
holds_at-requires c = (
  last-in c.requires c.start_before.ensures c.start_before-2.ensures c.fact-from.ensures.0 c.fact-long.ensures.0,
  next-in
      c.requires c.start_before.ensures c.start_before-2.ensures c.fact-from.ensures.0 c.fact-long.ensures.0,
)

pub returns-then-fact-eq5 : goal.returns-then-fact-eq5
returns-then-fact-eq5 c = unique-follows _ _ _ (last-at c.requires c.start_before.ensures c.start_before-2.ensures c.fact-from.ensures.0
    c.fact-long.ensures.0) (next-at c.requires c.start_before.ensures c.start_before-2.ensures c.fact-from.ensures.0
    c.fact-long.ensures.0) (sym c.fact.ensures.0 ∙ c.if-fact-eq5.true) c.holds_at.ensures

pub holds_at-requires-else-fact-eq5 : goal.holds_at-requires-else-fact-eq5
holds_at-requires-else-fact-eq5 c = (
  next-in c.requires c.start_before.ensures c.start_before-2.ensures c.fact-from.ensures.0 c.fact-long.ensures.0,
  last-in
      c.requires c.start_before.ensures c.start_before-2.ensures c.fact-from.ensures.0 c.fact-long.ensures.0,
)

pub returns-else-fact-eq5 : goal.returns-else-fact-eq5
returns-else-fact-eq5 c = multiple-follows _ _ _ (last-at c.requires c.start_before.ensures c.start_before-2.ensures c.fact-from.ensures.0
    c.fact-long.ensures.0) (next-at c.requires c.start_before.ensures c.start_before-2.ensures c.fact-from.ensures.0
    c.fact-long.ensures.0) (λ z. c.if-fact-eq5.false (c.fact.ensures.0 ∙ z)) c.holds_at-else-fact-eq5.ensures
