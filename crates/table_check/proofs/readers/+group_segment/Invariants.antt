use Rattle.std.proofs.Common.{◌+◌, ◌*◌, ◌≤◌}
use Rattle.table_check.specs.Readers.{Fits, GroupAt, SegmentAt}
use Rattle.table_check.proofs.readers.+group_segment.Given as goal

abbrev pub decreases-group : goal.decreases-group
decreases-group l = 2 * l.left

abbrev pub decreases-segment : goal.decreases-segment
decreases-segment l = 2 * l.left + 1

abbrev pub invariant-group-loop-rest : goal.invariant-group-loop-rest
invariant-group-loop-rest l = Fits l.cells l.facts l.rest × (1 ≤ l.rest) × (l.rest ≤ l.left) × GroupAt l.cells l.facts l.v.0 l.left l.rest

abbrev pub decreases-group-loop-rest : goal.decreases-group-loop-rest
decreases-group-loop-rest l = l.rest

abbrev pub invariant-segment-loop-rest : goal.invariant-segment-loop-rest
invariant-segment-loop-rest l = Fits l.cells l.facts l.rest × (l.rest ≤ l.left) × SegmentAt l.cells l.facts l.p.0 l.left l.c l.rest

abbrev pub decreases-segment-loop-rest : goal.decreases-segment-loop-rest
decreases-segment-loop-rest l = l.rest
