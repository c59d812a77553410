use mathlib.Core.Path.{◌∙◌}
use native.Mathlib.Omega.{arith}
use Rattle.twins.proofs.Keys.{key-area, keyed-bytes, valued-start, keyed-value}
use Rattle.twins.proofs.is_keyed.Goals as goal

pub returns-then-w-eq0 : goal.returns-then-w-eq0
returns-then-w-eq0 c = keyed-bytes c.requires c.key_value-w.ensures c.if-w-eq0.true

pub overflow_sub-from : goal.overflow_sub-from
overflow_sub-from c = omega (
  arith,
  valued-start c.requires
      c.key_value-w.ensures c.if-w-eq0.false,
  c.wide-from.ensures.0 ∙
      c.key_start.ensures,
)

pub slice_bounds-is_value-end : goal.slice_bounds-is_value-end
slice_bounds-is_value-end c = omega (
  arith,
  key-area
      c.requires,
  c.wide-from.ensures.0 ∙
      c.key_start.ensures,
  c.wide-long.ensures.0 ∙ c.key_length.ensures,
)

pub returns : goal.returns
returns c = c.is_value.ensures ∙ keyed-value c.requires c.key_value-w.ensures c.if-w-eq0.false
    (c.wide-from.ensures.0 ∙ c.key_start.ensures) (c.wide-long.ensures.0 ∙ c.key_length.ensures)
