-- The cells counted from the last one: where the cell begins from which on so many are left, and that it lies within the slice. Assumes nothing.
use mathlib.Core.Path.{◌≡◌, refl, ap, ap₂}
use Prim.Native.Nat.{ℕ, ◌+◌, ◌-◌, ◌*◌, ◌<◌, ◌≤◌}
use native.Mathlib.Nat.{mul-le-mul_right}
use native.Mathlib.Omega.{arith}
use lib.ListN.{length}
use Rattle.rules.specs.Block.{Bytes, byte, part}
use Rattle.rules.specs.Order.{order}
use Rattle.cells.proofs.Start.{start-made, inside-less}
use Rattle.table_check.specs.Readers.{fact, start_before, key_before, Fits, Follows}

module _ {cells facts : Bytes} {left : ℕ} (f : Fits cells facts left) where
  pub fits-less : (k : ℕ) → k ≤ left → Fits cells facts k
  fits-less k l = record { inside = inside-less f.inside k l; keys = f.keys }

  -- what the code works out of the size that it has read
  pub cells_in : (size : ℕ) → size ≡ byte facts 0 → left * size ≤ length cells
  cells_in size e =
      let z : left * size ≡ left * byte facts 0 = ap (λ (s : ℕ). left * s) e in
      omega (arith, start-made cells (byte facts 0) left, f.inside.within)

  -- the cell, its first byte, and the key that a cell of type v has lie within the slice
  pub cell_in : 1 ≤ left → start_before cells facts left + byte facts 0 ≤ length cells
  cell_in l =
      let m : 1 * byte facts 0 ≤ left * byte facts 0 = mul-le-mul_right (byte facts 0) l in
      omega (arith, cells_in (byte facts 0) refl)

  pub code_in : 1 ≤ left → start_before cells facts left < length cells
  code_in l = omega (arith, cell_in l, f.inside.some)

  pub key_in : (v : ℕ) → 1 ≤ left → start_before cells facts left + fact facts v 2 + fact facts v 3 ≤ length cells
  key_in v l = omega (arith, cell_in l, f.keys v)

-- the keys of a cell and of a later one, where the code has found the two to begin, at x and y, and read the key's place
module _ {cells facts : Bytes} {v last left : ℕ} (w : Follows cells facts v last left) where
  pub fits_next : Fits cells facts left
  fits_next = fits-less w.fits left w.behind

  pub some-last : 1 ≤ last
  some-last = omega (arith, w.some, w.behind)

  module _ {x y start long : ℕ} (a : x ≡ start_before cells facts last) (b : y ≡ start_before cells facts left) (p : start ≡ fact facts v 2)
      (q : long ≡ fact facts v 3) where
    pub last-in : x + start + long ≤ length cells
    last-in = omega (arith, key_in w.fits v some-last, a, p, q)

    pub next-in : y + start + long ≤ length cells
    next-in = omega (arith, key_in fits_next v w.some, b, p, q)

    pub last-at : part cells (x + start) long ≡ key_before cells facts v last
    unfolding key_before
    last-at = rw (a, p, q)

    pub next-at : part cells (y + start) long ≡ key_before cells facts v left
    unfolding key_before
    next-at = rw (b, p, q)

    -- both as the code cuts them out
    pub both-cut : order (part cells (x + start) (x + start + long - (x + start))) (part cells (y + start) (y + start + long - (y + start)))
        ≡ order (key_before cells facts v last) (key_before cells facts v left)
    both-cut =
        let n : x + start + long - (x + start) ≡ long = omega arith in
        let m : y + start + long - (y + start) ≡ long = omega arith in
        rw (n, m) (ap₂ order last-at next-at)
