use native.Mathlib.Omega.{arith}
use mathlib.Core.Path.{◌∙◌}
use Rattle.changes.proofs.Keys.{key-none, key-bounds, key-held, key-same}
use Rattle.changes.proofs.held.has_key.Goals as goal

pub returns-then-long-eq0 : goal.returns-then-long-eq0
returns-then-long-eq0 c = key-none c.requires.0 c.requires.1 c.requires.2 c.args.area.now c.requires.3 _
    (c.wide-long.ensures.0 ∙ c.key_length.ensures) c.if-long-eq0.true

pub overflow_sub-a : goal.overflow_sub-a
overflow_sub-a c = omega (
  arith,
  key-bounds c.requires.0
      c.requires.1
      c.requires.2 c.args.area.now
      c.requires.3 _
      (c.wide-long.ensures.0 ∙ c.key_length.ensures) _
      (c.wide-start.ensures.0 ∙ c.key_start.ensures) c.if-long-eq0.false,
)

pub slice_bounds-own-end : goal.slice_bounds-own-end
slice_bounds-own-end c = omega (
  arith,
  key-bounds c.requires.0
      c.requires.1
      c.requires.2 c.args.area.now
      c.requires.3 _
      (c.wide-long.ensures.0 ∙ c.key_length.ensures) _
      (c.wide-start.ensures.0 ∙ c.key_start.ensures) c.if-long-eq0.false,
)

pub data_part-requires : goal.data_part-requires
data_part-requires c =
    key-held c.requires.0 c.requires.1 c.requires.2 c.args.area.now c.requires.3 _ (c.wide-long.ensures.0 ∙ c.key_length.ensures) _
    (c.wide-start.ensures.0 ∙ c.key_start.ensures) c.if-long-eq0.false

pub returns : goal.returns
returns c =
    c.are_same.ensures ∙ key-same c.requires.0 c.requires.1 c.requires.2 c.args.area.now c.requires.3 _
    (c.wide-long.ensures.0 ∙ c.key_length.ensures) _ (c.wide-start.ensures.0 ∙ c.key_start.ensures) c.if-long-eq0.false
    c.data_part.ensures
