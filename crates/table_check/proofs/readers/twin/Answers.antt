use mathlib.Core.Path.{sym, ◌∙◌}
use Rattle.table_check.proofs.Before.{fits_next}
use Rattle.table_check.proofs.Twins.{other-type, no_key, packed-key, smaller-key, equal-key, greater-key}
use Rattle.table_check.proofs.readers.twin.Goals as goal

pub code_before-requires : goal.code_before-requires
code_before-requires c = (fits_next c.requires, c.requires.some)

pub returns-then-code_before-t : goal.returns-then-code_before-t
returns-then-code_before-t c = other-type c.requires c.code_before.ensures c.if-code_before-t.true

pub returns-then-fact-eq0 : goal.returns-then-fact-eq0
returns-then-fact-eq0 c = no_key c.requires c.code_before.ensures c.if-code_before-t.false c.fact.ensures.0 c.if-fact-eq0.true

pub returns-then-kind-gt2 : goal.returns-then-kind-gt2
returns-then-kind-gt2 c = packed-key c.requires c.code_before.ensures c.if-code_before-t.false c.fact-kind.result c.fact-kind.ensures.0 c.if-kind-gt2.true
    c.packed_twin.ensures

pub returns-in-Less : goal.returns-in-Less
returns-in-Less c =
    smaller-key c.requires c.code_before.ensures c.if-code_before-t.false c.fact-kind.result c.fact-kind.ensures.0 c.if-kind-gt2.false
    (sym c.in-Less.is ∙ c.key_order.ensures)

pub returns-in-Equal : goal.returns-in-Equal
returns-in-Equal c =
    equal-key c.requires c.code_before.ensures c.if-code_before-t.false c.fact-kind.result c.fact-kind.ensures.0 c.if-kind-gt2.false
    c.fact.ensures.0 c.if-fact-eq0.false (sym c.in-Equal.is ∙ c.key_order.ensures)

pub returns-in-Greater : goal.returns-in-Greater
returns-in-Greater c =
    greater-key c.requires c.code_before.ensures c.if-code_before-t.false c.fact-kind.result c.fact-kind.ensures.0 c.if-kind-gt2.false
    c.fact.ensures.0 c.if-fact-eq0.false (sym c.in-Greater.is ∙ c.key_order.ensures)
