use Rattle.std.proofs.Common.{◌+◌, ◌∙◌, arith}
use Rattle.cells.proofs.Start.{inside-less}
use Rattle.cells.proofs.Located.{end_whole, end-past, end_short}
use Rattle.cells.proofs.runs.+end_from.Goals as goal

pub passed-end-requires : goal.passed-end-requires
passed-end-requires t c = (inside-less c.requires (c.args.i + 512) (omega (arith, c.if-left-le512.false)), omega arith)

pub returns-then-end-next : goal.returns-then-end-next
returns-then-end-next t c =
    end_short _ _ _ _ 512 _ _ _ (omega (arith, c.if-left-le512.false)) (end_whole _ _ _ _ 512 _ _ c.passed-end.ensures) c.if-end-next.true

pub returns : goal.returns
returns t c =
    c.end_from.ensures ∙ end-past _ _ _ _ 512 _ _ _ (omega (arith, c.if-left-le512.false))
    (end_whole _ _ _ _ 512 _ _ c.passed-end.ensures) c.if-end-next.false
