use native.Mathlib.Omega.{arith}
use borrow.Author.Tests.{le-leb, lt-leb}
use Rattle.listing.proofs.Lines.{size_small, list-ready, answer-short, listed-line}
use Rattle.gets.proofs.OneList.{ready-alone}
use Rattle.listing.proofs.next_line.Goals as goal
use Rattle.listing.proofs.next_line.Goals.{then-done, else-done}

pub read_next-a-requires : goal.read_next-a-requires
read_next-a-requires c = (list-ready _ _ _ c.requires.0, (ready-alone (list-ready _ _ _ c.requires.0)).1, size_small _ _ _ c.requires.0)

pub cell_line-long-requires : goal.cell_line-long-requires
cell_line-long-requires c =
    let short = answer-short _ _ _ c.requires.0 c.read_next-a.result _ c.read_next-a.ensures in
    (omega arith, omega (arith, c.requires.1))

pub returns : goal.returns
returns c =
    let line = listed-line _ _ _ c.requires.0 c.read_next-a.result _ c.read_next-a.ensures (λ i. omega (arith, c.type_inv.tab i)) c.number-done.result
    c.number-done.ensures c.args.out.now c.if-done.long c.if-done.out in
    elim c.if-done.branch [
      | then-done w ↦
          line (rw (w.long-is, w.out-is) (omega (arith, c.requires.1, w.last_line-long.ensures.1, w.last_line-long.ensures.0.long)))
          (rw (w.long-is, w.out-is, le-leb 10 c.number-done.result w.if-done.true) w.last_line-long.ensures.0)
      | else-done w ↦
          let short = answer-short _ _ _ c.requires.0 c.read_next-a.result _ c.read_next-a.ensures in
          line (rw (w.long-is, w.out-is) (omega (arith, c.requires.1, w.cell_line-long.ensures.1, w.cell_line-long.ensures.0.long)))
          (rw (w.long-is, w.out-is, lt-leb 10 c.number-done.result w.if-done.false) w.cell_line-long.ensures.0)
    ]
