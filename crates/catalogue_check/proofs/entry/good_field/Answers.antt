use Rattle.std.proofs.Common.{sym, ◌∙◌}
use Rattle.catalogue_check.proofs.EntryTests.{field-no-span, field-last}
use Rattle.catalogue_check.proofs.entry.good_field.Goals as goal

pub returns-else-good_span : goal.returns-else-good_span
returns-else-good_span c = c.if-good_span.false ∙ field-no-span c.args.cat.now c.args.f.0 _ c.field_type-t.ensures (sym c.if-is_type.ensures) _ _ _
    c.field_start-start.ensures c.field_length-long.ensures c.data_length.ensures (sym c.if-good_span.ensures)

pub returns-then-good_span : goal.returns-then-good_span
returns-then-good_span c = field-last c.args.cat.now c.args.f.0 _ c.field_type-t.ensures (sym c.if-is_type.ensures) _ _ _
    c.field_start-start.ensures c.field_length-long.ensures c.data_length.ensures (sym c.if-good_span.ensures) _ c.field_value.ensures _ c.good_value.ensures
