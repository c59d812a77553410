use Rattle.std.proofs.Common.{◌≡◌, rules, ap, ◌∙◌, Err}
use lib.Dec.{eqb}
use Rattle.std.specs.Slice.Iter.{split_inclusive_rest}
use Rattle.std.proofs.lemmas.Fn.{always_returns_same}
use Rattle.dbd_read.proofs.LineEnds.{line_cut, cut_short}
use Rattle.dbd_read.proofs.LinesRead.{before-first, numbered_by, line-bad, line-good, end_none, end_whole}
use Rattle.dbd_read.proofs.lines.read_lines.Goals as goal

pub loop-part-init : goal.loop-part-init
loop-part-init c =
    before-first _ _ _ _ c.requires
    (ap split_inclusive_rest c.into_iter-part-iterator.ensures.into_iter_gives ∙ c.split_inclusive-part-items.ensures.rest)

pub returns-in_err-map_err : goal.returns-in_err-map_err
returns-in_err-map_err c =
    let i = c.in-Some.ensures.steps.1 in
    let k = i.2 (λ b. eqb b 0x0A) (always_returns_same _ _ _ (λ a r f k. search rules)) in
    let l = line_cut _ _ c.in-Some.part c.in-Some.ensures.steps.0 i.0 i.1 k.1 _ c.as_slice.ensures c.strip_suffix.result c.strip_suffix.ensures.cases
    c.in-Some.ensures.steps.2 _ c.unwrap_or-words.ensures in
    let q : c.from_residual.result ≡ Err c.in_err-map_err.field-0.0 = search rules in
    rw q (line-bad _ _ _ _ _ _ _ _ _ c.loop-part.invariant l _ _ _ c.take_line.ensures
    (numbered_by _ _ _ c.map_err.ensures.cases (λ f e k. search rules)) c.in_err-map_err.was)

pub loop-part-preserved : goal.loop-part-preserved
loop-part-preserved c =
    let i = c.in-Some.ensures.steps.1 in
    let k = i.2 (λ b. eqb b 0x0A) (always_returns_same _ _ _ (λ a r f k. search rules)) in
    let l = line_cut _ _ c.in-Some.part c.in-Some.ensures.steps.0 i.0 i.1 k.1 _ c.as_slice.ensures c.strip_suffix.result c.strip_suffix.ensures.cases
    c.in-Some.ensures.steps.2 _ c.unwrap_or-words.ensures in
    let s = cut_short _ _ c.in-Some.part c.in-Some.ensures.steps.0 i.0 i.1 k.1 _ c.as_slice.ensures c.strip_suffix.result c.strip_suffix.ensures.cases
    c.in-Some.ensures.steps.2 in
    line-good _ _ _ _ _ _ _ _ _ c.loop-part.invariant l _ _ _ c.take_line.ensures
    (numbered_by _ _ _ c.map_err.ensures.cases (λ f e k. search rules)) c.in_ok-map_err.was s

pub returns-then-draft-eq0 : goal.returns-then-draft-eq0
returns-then-draft-eq0 c = end_none _ _ _ _ _ c.in-None.ensures.steps.0 c.loop-part.invariant c.if-draft-eq0.true

pub returns : goal.returns
returns c = end_whole _ _ _ _ _ c.in-None.ensures.steps.0 c.loop-part.invariant c.if-draft-eq0.false
