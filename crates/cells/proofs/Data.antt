-- What lies in a cell: its type, and its data, of which a key or a field is a part. Assumes nothing.
use mathlib.Core.Path.{◌≡◌, refl, ap, sym, ◌∙◌}
use mathlib.Core.Bool.{true}
use mathlib.Core.List.{[], ◌∷◌}
use Prim.Native.Nat.{ℕ, zero, suc, ◌+◌, ◌-◌, ◌<◌, ◌≤◌}
use native.Mathlib.Omega.{arith}
use lib.ListN.{length, take, drop, length-drop}
use lib.Seq.{take-take, drop-drop, length-take-le}
use Rattle.terms.specs.declared.TypeCode.{TypeCode}
use Rattle.terms.specs.Names.{code}
use Rattle.rules.specs.Block.{Bytes, byte, part}
use Rattle.rules.specs.Catalogue.{length_of, key_start, key_length, is_type, good_catalogue}
use Rattle.rules.specs.Cells.{segment, segment_of, key}
use Rattle.rules.specs.Table.{count, cell_size, type_at, segment_at, listing}
use Rattle.rules.proofs.Cells.{listing-at}
use Rattle.cells.specs.Lent.{Sized, Inside, InData, start_of}
use Rattle.cells.proofs.Entries.{key_in, length-in}
use Rattle.cells.proofs.Start.{start_is, start-in, inside-sized, inside-less}
use Rattle.cells.proofs.Located.{type-of}

-- a part of the front of a list is a part of the list
pub part-front : (n k L : ℕ) (xs : Bytes) → k + n ≤ L → part (take L xs) k n ≡ part xs k n
part-front n zero L xs h = take-take n L xs (omega arith)
part-front n (suc k) zero xs h = absurd (omega arith)
part-front n (suc k) (suc L) [] h = refl
part-front n (suc k) (suc L) (x ∷ xs) h = part-front n k L xs (omega arith)

-- n bytes from byte `at + k` on are those from data byte k on, counted from 1, of a cell that begins at `at` and has L of them
part_in : (at k n L : ℕ) (tab : Bytes) → k + n ≤ suc L → (k ≡ 0 → n ≡ 0) → part tab (at + k) n ≡ part (take L (drop (suc at) tab)) (k - 1) n
part_in at zero n L tab h z = let e : n ≡ 0 = z refl in rw e
part_in at (suc k) n L tab h z =
    let a : suc k - 1 ≡ k = omega arith in
    let b : at + suc k ≡ suc at + k = omega arith in
    rw (a, b, part-front n k L (drop (suc at) tab) (omega arith), drop-drop k (suc at) tab)

module _ {cat tab : Bytes} {size : ℕ} (s : Sized cat tab size) (i : ℕ) (l : i < count tab) where
  -- the cell lies within the slice
  pub cell-inside : Inside tab size i
  cell-inside = inside-less (inside-sized s) i (omega arith)

  pub cell-ends : start_of tab size i + size ≤ length tab
  cell-ends = start-in (inside-sized s) i l

  -- its first byte, where the code has found it to begin, is its type
  pub code_of : (at : ℕ) → at ≡ start_of tab size i → code (byte tab at) ≡ (segment (listing cat tab) i).code
  unfolding type_at
  code_of at e = ap (λ (n : ℕ). code (byte tab n)) (e ∙ start_is s i) ∙ sym (type-of cat tab i l)

  -- the data stand behind it
  bytes-at : (at : ℕ) → at ≡ start_of tab size i → (segment (listing cat tab) i).bytes ≡ part tab (suc at) (length_of cat (segment (listing cat tab) i).code)
  unfolding segment_at segment_of type_at
  bytes-at at e = rw (e, start_is s i, listing-at cat tab i l)

-- a part of a cell's data
module _ {cat tab : Bytes} {size i start long : ℕ} (d : InData cat tab size i start long) where
  abbrev held : Bytes
  held = (segment (listing cat tab) i).bytes

  pub data-in : start_of tab size i + start + long ≤ length tab
  unfolding cell_size
  data-in = omega (arith, d.last, length-in cat d.good _ d.known, d.sized.is, start-in (inside-sized d.sized) i d.cell)

  -- it stands at `start` behind where the code has found the cell to begin
  pub data_of : (at : ℕ) → at ≡ start_of tab size i → part tab (at + start) (at + start + long - (at + start)) ≡ part held (start - 1) long
  data_of at e =
      let n : at + start + long - (at + start) ≡ long = omega arith in
      rw n (part_in at start long (length_of cat (segment (listing cat tab) i).code) tab d.last d.first
      ∙ ap (λ (b : Bytes). part b (start - 1) long) (sym (bytes-at d.sized i d.cell at e)))

  -- and has as many bytes as were asked for
  pub data-long : length (part held (start - 1) long) ≡ long
  data-long =
      let a : ℕ = start_of tab size i + start in
      ap length (sym (data_of (start_of tab size i) refl)) ∙ length-take-le (a + long - a) (drop a tab) (omega (arith, length-drop a tab, data-in)) ∙ omega arith

-- the key of a cell and all its data; the code has read its type as t, and the start and the length
module _ {cat tab : Bytes} {size i : ℕ} (s : Sized cat tab size) (g : good_catalogue cat ≡ true) (l : i < count tab)
    {t : TypeCode} (e : t ≡ (segment (listing cat tab) i).code) (h : is_type cat t ≡ true) where
  pub key-data : {start long : ℕ} → start ≡ key_start cat t → long ≡ key_length cat t → InData cat tab size i start long
  key-data p q =
      let k = key_in cat g t h in
      record { sized = s; good = g; cell = l; known = rw (← e) h; first = λ z. q ∙ k.1 (sym p ∙ z); last = rw (← e) (omega (arith, k.0)) }

  pub key-part : {start long : ℕ} → start ≡ key_start cat t → long ≡ key_length cat t
      → part (segment (listing cat tab) i).bytes (start - 1) long ≡ key cat (segment (listing cat tab) i)
  unfolding key
  key-part p q = rw (p, q, e)

  pub whole-data : {long : ℕ} → long ≡ length_of cat t → InData cat tab size i 1 long
  whole-data q = record { sized = s; good = g; cell = l; known = rw (← e) h; first = λ z. absurd (omega arith); last = rw (← e) (omega arith) }

  pub whole_part : {long : ℕ} → long ≡ length_of cat t → part (segment (listing cat tab) i).bytes (1 - 1) long ≡ (segment (listing cat tab) i).bytes
  whole_part q =
      let n : ℕ = length_of cat (segment (listing cat tab) i).code in
      rw (q, e, bytes-at s i l (start_of tab size i) refl) (take-take n n (drop (suc (start_of tab size i)) tab) (omega arith))

  pub whole_long : {long : ℕ} → long ≡ length_of cat t → length (segment (listing cat tab) i).bytes ≡ long
  whole_long q = ap length (sym (whole_part q)) ∙ data-long (whole-data q)
