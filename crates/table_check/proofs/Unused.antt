-- The bytes that no segment uses, cell by cell. Assumes nothing.
use mathlib.Core.Path.{◌≡◌, refl, ap, sym, ◌∙◌}
use mathlib.Core.Bool.{true}
use Prim.Native.Nat.{ℕ, suc, ◌+◌, ◌-◌, ◌<◌, ◌≤◌}
use native.Mathlib.Omega.{arith}
use lib.ListN.{length, drop, length-drop}
use lib.Seq.{take_all}
use Rattle.terms.specs.declared.TypeCode.{TypeCode}
use Rattle.rules.specs.Block.{Bytes, part, every, zeros}
use Rattle.rules.specs.Catalogue.{length_of}
use Rattle.rules.specs.Cells.{segment}
use Rattle.rules.specs.Table.{count, cell_start, type_at, listing, padded}
use Rattle.cells.specs.Lent.{Sized, start_of}
use Rattle.cells.proofs.Start.{start_is}
use Rattle.cells.proofs.Located.{type-of}

-- cell i, whose type the code has read as t and whose data length as w
module _ {cat tab : Bytes} {size : ℕ} (s : Sized cat tab size) (i : ℕ) (l : i < count tab)
    {t : TypeCode} (e : t ≡ (segment (listing cat tab) i).code) {w : ℕ} (h : w ≡ length_of cat t) where
  pad-is : (at : ℕ) → at ≡ start_of tab size i → padded cat tab i ≡ zeros (part tab (suc at + w) (size - suc w))
  unfolding padded
  pad-is at b =
      let a : length_of cat (type_at cat tab i) ≡ w = ap (length_of cat) (sym (e ∙ type-of cat tab i l)) ∙ sym h in
      rw (a, b, start_is s i, ← s.is)

  pub pad-none : size ≤ 1 + w → true ≡ padded cat tab i
  unfolding zeros every
  pad-none m = let z : size - suc w ≡ 0 = omega arith in sym (pad-is (start_of tab size i) refl ∙ rw z)

  -- at is where the code has found the cell to begin
  pub pad-some : (at : ℕ) → at ≡ start_of tab size i → zeros (part tab (at + (1 + w)) (at + size - (at + (1 + w)))) ≡ padded cat tab i
  pad-some at b =
      let x : at + (1 + w) ≡ suc at + w = omega arith in
      let y : at + size - (at + (1 + w)) ≡ size - suc w = omega arith in
      rw (y, x) (sym (pad-is at b))

-- the free cells are all that follows the first n
pub free-is : {cat tab : Bytes} {size : ℕ} → Sized cat tab size → (n from : ℕ) → n ≡ count tab → from ≡ start_of tab size n
    → zeros (part tab from (length tab - from)) ≡ zeros (drop (cell_start cat (count tab)) tab)
free-is {cat} {tab} {size} s n from e f =
    let a : from ≡ cell_start cat (count tab) = f ∙ start_is s n ∙ ap (cell_start cat) e in
    ap zeros (take_all (length tab - from) (drop from tab) (simp length-drop (omega arith)) ∙ ap (λ (k : ℕ). drop k tab) a)
