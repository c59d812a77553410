use Rattle.std.proofs.Common.{◌-◌, arith}
use Rattle.table_check.proofs.Before.{fits-less}
use Rattle.table_check.proofs.Reading.{group-starts, group-ends, group-stops, group-goes}
use Rattle.table_check.proofs.Reading.{segment-starts, segment-ends, segment-low, segment-high, segment-other, segment-goes}
use Rattle.table_check.proofs.readers.+group_segment.Goals as goal

pub group-loop-rest-init : goal.group-loop-rest-init
group-loop-rest-init t c = (c.requires.fits, c.requires.some, omega arith, group-starts c.requires)

pub group-segment-rest-requires : goal.group-segment-rest-requires
group-segment-rest-requires t c = (omega arith, (fits-less c.loop-rest.invariant.0 (c.loop-rest.rest - 1) (omega arith), c.requires.least))

pub group-returns-then-rest-eq0 : goal.group-returns-then-rest-eq0
group-returns-then-rest-eq0 t c = (
  omega arith,
  group-ends c.loop-rest.invariant.0 c.loop-rest.invariant.1 c.loop-rest.invariant.3 c.segment-rest.ensures.1 c.if-rest-eq0.true,
)

pub group-returns-then-not-twin : goal.group-returns-then-not-twin
group-returns-then-not-twin t c = (
  omega arith,
  group-stops c.loop-rest.invariant.0 c.loop-rest.invariant.1 c.loop-rest.invariant.3 c.segment-rest.ensures.1 (omega arith)
      c.twin.ensures c.if-not-twin.true,
)

pub group-loop-rest-preserved : goal.group-loop-rest-preserved
group-loop-rest-preserved t c = (
  fits-less c.loop-rest.invariant.0 c.segment-rest.result (omega arith),
  omega arith,
  omega arith,
  group-goes c.loop-rest.invariant.0 c.loop-rest.invariant.1 c.loop-rest.invariant.3 c.segment-rest.ensures.1 (omega arith)
      c.twin.ensures c.if-not-twin.false,
)

pub segment-loop-rest-init : goal.segment-loop-rest-init
segment-loop-rest-init t c = (c.requires.0, omega arith, segment-starts)

pub segment-returns-then-u-c : goal.segment-returns-then-u-c
segment-returns-then-u-c t c = (
  c.loop-rest.invariant.1,
  segment-low c.loop-rest.invariant.2 c.loop-rest.invariant.0 c.loop-rest-test.true c.requires.1 c.code_before-u.ensures
      c.if-u-c.true,
)

pub segment-returns-then-u-gt32 : goal.segment-returns-then-u-gt32
segment-returns-then-u-gt32 t c = (
  c.loop-rest.invariant.1,
  segment-high c.loop-rest.invariant.2 c.loop-rest.invariant.0 c.loop-rest-test.true c.requires.1 c.code_before-u.ensures
      c.if-u-gt32.true,
)

pub segment-returns-then-fact-p : goal.segment-returns-then-fact-p
segment-returns-then-fact-p t c = (
  c.loop-rest.invariant.1,
  segment-other c.loop-rest.invariant.2 c.loop-rest.invariant.0 c.loop-rest-test.true c.requires.1 c.code_before-u.ensures
      c.fact.ensures.0 c.if-fact-p.true,
)

pub segment-loop-rest-preserved : goal.segment-loop-rest-preserved
segment-loop-rest-preserved t c = (
  fits-less c.loop-rest.invariant.0 c.group-rest.result (omega arith),
  omega arith,
  segment-goes c.loop-rest.invariant.2 c.loop-rest.invariant.0 c.loop-rest-test.true c.requires.1 c.code_before-u.ensures
      c.if-u-c.false c.fact.ensures.0 c.if-fact-p.false c.group-rest.ensures.1,
)

pub segment-returns : goal.segment-returns
segment-returns t c = (c.loop-rest.invariant.1, segment-ends c.loop-rest.invariant.2 (omega arith))
