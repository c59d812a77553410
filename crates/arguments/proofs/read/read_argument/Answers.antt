use native.Mathlib.Omega.{arith}
use mathlib.Core.Path.{refl, sym, ◌∙◌}
use Rattle.rules.specs.Arguments.{good_next, is_field_of}
use Rattle.arguments.proofs.Branches.{type-missing, type-bad, operator-missing, operator-none, operator-bad, field-missing, field-bad}
use Rattle.arguments.proofs.Branches.{value-short, value-bytes, value-number, value-bad, value-good, next-is}
use Rattle.arguments.proofs.read.read_argument.Goals as goal

pub returns-then-list-at : goal.returns-then-list-at
unfolding good_next is_field_of
returns-then-list-at c = type-missing c.args.cat.now c.args.list.now c.args.before c.args.at c.if-list-at.true

pub returns-then-not-is_next : goal.returns-then-not-is_next
unfolding good_next is_field_of
returns-then-not-is_next c = type-bad c.args.cat.now c.args.list.now c.args.before c.args.at
    (sym c.is_next.ensures ∙ c.if-not-is_next.true)

pub returns-then-list-at-2 : goal.returns-then-list-at-2
unfolding good_next is_field_of
returns-then-list-at-2 c = operator-missing c.args.cat.now c.args.list.now c.args.before c.args.at
    (sym c.is_next.ensures ∙ c.if-not-is_next.false) c.if-list-at-2.true

pub returns-then-o-eq0 : goal.returns-then-o-eq0
unfolding good_next is_field_of
returns-then-o-eq0 c = operator-none c.args.cat.now c.args.list.now c.args.before c.args.at
    (sym c.is_next.ensures ∙ c.if-not-is_next.false) c.if-list-at-2.false c.if-o-eq0.true c.argument_at.ensures

pub returns-then-o-gt6 : goal.returns-then-o-gt6
unfolding good_next is_field_of
returns-then-o-gt6 c = operator-bad c.args.cat.now c.args.list.now c.args.before c.args.at
    (sym c.is_next.ensures ∙ c.if-not-is_next.false) c.if-list-at-2.false c.if-o-eq0.false
    (omega arith)

pub returns-then-list-at-3 : goal.returns-then-list-at-3
unfolding good_next is_field_of
returns-then-list-at-3 c =
    field-missing c.args.cat.now c.args.list.now c.args.before c.args.at
    (sym c.is_next.ensures ∙ c.if-not-is_next.false) c.if-list-at-2.false c.if-o-eq0.false c.if-o-gt6.false
    c.if-list-at-3.true

pub returns-then-not-is_field_of : goal.returns-then-not-is_field_of
unfolding good_next is_field_of
returns-then-not-is_field_of c =
    field-bad c.args.cat.now c.args.list.now c.args.before c.args.at
    (sym c.is_next.ensures ∙ c.if-not-is_next.false) c.if-list-at-2.false c.if-o-eq0.false c.if-o-gt6.false c.if-list-at-3.false
    (sym c.is_field_of.ensures ∙ c.if-not-is_field_of.true)

pub returns-then-list-next : goal.returns-then-list-next
unfolding good_next is_field_of
returns-then-list-next c =
    value-bad c.args.cat.now c.args.list.now c.args.before c.args.at
    (sym c.is_next.ensures ∙ c.if-not-is_next.false) c.if-list-at-2.false c.if-o-eq0.false c.if-o-gt6.false c.if-list-at-3.false
    (sym c.is_field_of.ensures ∙ c.if-not-is_field_of.false) c.argument_at-a.ensures c.field_value-w.ensures
    (value-short _ _ _ _ c.if-list-next.true) refl

pub returns-then-w-ne1 : goal.returns-then-w-ne1
unfolding good_next is_field_of
returns-then-w-ne1 c =
    value-good c.args.cat.now c.args.list.now c.args.before c.args.at
    (sym c.is_next.ensures ∙ c.if-not-is_next.false) c.if-list-at-2.false c.if-o-eq0.false c.if-o-gt6.false c.if-list-at-3.false
    (sym c.is_field_of.ensures ∙ c.if-not-is_field_of.false) c.argument_at-a.ensures c.field_value-w.ensures
    (value-bytes _ _ _ _ c.if-list-next.false c.if-w-ne1.true) refl

pub slice_bounds-is_number-count : goal.slice_bounds-is_number-count
slice_bounds-is_number-count c =
    omega (
      arith,
      next-is c.args.cat.now c.args.list.now c.args.at
          c.if-o-eq0.false
          c.argument_at-a.ensures,
    )

pub slice_bounds-is_number-start : goal.slice_bounds-is_number-start
slice_bounds-is_number-start c =
    omega (
      arith,
      next-is c.args.cat.now c.args.list.now c.args.at
          c.if-o-eq0.false
          c.argument_at-a.ensures,
    )

pub returns-then-not-is_number : goal.returns-then-not-is_number
unfolding good_next is_field_of
returns-then-not-is_number c =
    value-bad c.args.cat.now c.args.list.now c.args.before c.args.at
    (sym c.is_next.ensures ∙ c.if-not-is_next.false) c.if-list-at-2.false c.if-o-eq0.false c.if-o-gt6.false c.if-list-at-3.false
    (sym c.is_field_of.ensures ∙ c.if-not-is_field_of.false) c.argument_at-a.ensures c.field_value-w.ensures
    (c.is_number.ensures ∙ value-number _ _ _ _ c.if-list-next.false c.if-w-ne1.false) c.if-not-is_number.true

pub returns : goal.returns
unfolding good_next is_field_of
returns c =
    value-good c.args.cat.now c.args.list.now c.args.before c.args.at
    (sym c.is_next.ensures ∙ c.if-not-is_next.false) c.if-list-at-2.false c.if-o-eq0.false c.if-o-gt6.false c.if-list-at-3.false
    (sym c.is_field_of.ensures ∙ c.if-not-is_field_of.false) c.argument_at-a.ensures c.field_value-w.ensures
    (c.is_number.ensures ∙ value-number _ _ _ _ c.if-list-next.false c.if-w-ne1.false) c.if-not-is_number.false
