use native.Mathlib.Omega.{arith}
use mathlib.Core.Path.{ap}
use Prim.Native.Nat.{ℕ}
use lib.ListN.{take}
use lib.Seq.{length-take-le}
use Rattle.terms.specs.declared.CellNumber.{CellNumber}
use Rattle.rules.specs.Listing.{cell_line, decimal, hex}
use Rattle.listing.proofs.Written.{wrote_then, wrote_as}
use Rattle.listing.proofs.cell_line.Goals as goal

pub returns : goal.returns
unfolding cell_line
returns c = (
  wrote_then (wrote_then (wrote_then (wrote_then
      (wrote_then (wrote_as c.put_decimal-cell_end.ensures.0
      (ap (λ (n : CellNumber). decimal n.0) c.cell.ensures))
      (wrote_then c.put_byte-type_start.ensures
      (wrote_as c.put_decimal-type_end.ensures.0
      (ap decimal c.wide.ensures.0))))
      (wrote_then c.put_byte-level_start.ensures
      (wrote_as c.put_decimal-level_end.ensures.0
      (ap decimal c.wide-2.ensures.0)))) (wrote_then c.put_byte-status_start.ensures
      c.put_letters-status_end.ensures.0))
      (wrote_then c.put_byte-data_start.ensures (wrote_as c.put_hex-data_end.ensures.0
      (ap (λ (n : ℕ). hex (take n c.args.area.now))
      c.wide-long.ensures.0))))
      c.put_byte.ensures,
  omega (
    arith,
    length-take-le c.wide-long.result
        c.args.area.now (omega (
          arith,
          c.requires.0,
          c.wide-long.ensures.0,
        )),
    c.wide-long.ensures.0,
    c.put_decimal-cell_end.ensures.1,
    c.put_byte-type_start.ensures.place,
    c.put_decimal-type_end.ensures.1,
    c.put_byte-level_start.ensures.place,
    c.put_decimal-level_end.ensures.1,
    c.put_byte-status_start.ensures.place,
    c.put_letters-status_end.ensures.1,
    c.put_byte-data_start.ensures.place,
    c.put_hex-data_end.ensures.1,
    c.put_byte.ensures.place,
  ),
)
