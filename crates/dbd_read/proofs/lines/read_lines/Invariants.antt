use Rattle.std.specs.Slice.Iter.{split_inclusive_rest}
use Rattle.dbd_read.proofs.LinesRead.{Before}
use Rattle.dbd_read.proofs.lines.read_lines.Given as goal

abbrev pub invariant-loop-part : goal.invariant-loop-part
invariant-loop-part l = Before l.text (split_inclusive_rest l.part-iterator) l.draft l.levels l.line
