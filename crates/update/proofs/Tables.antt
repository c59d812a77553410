-- The bytes that the three changes leave are those of the table with the other cells. Assumes nothing.
use mathlib.Core.Path.{◌≡◌, sym, ap, ◌∙◌}
use mathlib.Core.Bool.{true}
use mathlib.Core.List.{◌∷◌, ◌++◌}
use Prim.Native.Nat.{ℕ, suc, ◌+◌, ◌-◌, ◌*◌, ◌≤◌, ◌<◌}
use native.Mathlib.Nat.{mul-le-mul_right, add-mul}
use native.Mathlib.Omega.{arith}
use lib.ListN.{length, take, drop, replicate}
use lib.Seq.{length-take-le}
use borrow.Rule.Slice.PartMut.{mid_of, put_mid}
use Rattle.terms.specs.declared.TypeCode.{TypeCode}
use Rattle.rules.specs.Block.{Bytes, word_bytes, part}
use Rattle.rules.specs.Catalogue.{length_of, is_type}
use Rattle.rules.specs.Cells.{segment, segment_of, arriving}
use Rattle.rules.specs.Table.{count, cell_size, cell_start, type_at, listing, cell_bytes}
use Rattle.cells.specs.Lent.{Inside, start_of}
use Rattle.cells.specs.Sound.{Sound}
use Rattle.cells.proofs.Start.{start_is, inside-sized, inside-less}
use Rattle.cells.proofs.Located.{type-of, sound-inside}
use Rattle.cells.proofs.Data.{data-in, whole-data}
use Rattle.encoding.specs.Determined.{IsBytes}
use Rattle.rules.proofs.Entries.{length-cell}
use Rattle.encoding.proofs.Bytes.{cells-split, table-known, insert-bytes, delete-bytes, replace-data}
use Rattle.blocks.specs.Moves.{moved_up, moved_down}
use Rattle.update.specs.Edits.{with_cell, with_data, without_cells, Insertable, Replaceable, Removable}
use Rattle.blocks.proofs.Lent.{put-part}
use Rattle.update.proofs.Parts.{up_room, up-cell, down-cleared, counted}

module _ {cat tab : Bytes} {size : ℕ} (s : Sound cat tab size) where
  -- where cell k begins, by the numbers of the encoding
  begins : (k : ℕ) → start_of tab size k ≡ 8 + k * size
  unfolding cell_start
  begins k = start_is s.sized k ∙ ap (λ (n : ℕ). 8 + k * n) (sym s.sized.is)

  -- a cells of b of them, and the others
  split : (a b : ℕ) → a ≤ b → b * size ≡ a * size + (b - a) * size
  split a b l = rw s.sized.is (cells-split cat a b l)

  -- as many cells as are in use lie within the slice
  pub used-inside : (k : ℕ) → k ≤ count tab → Inside tab size k
  used-inside k l = inside-less (inside-sized s.sized) k l

-- the count written in a block whose first bytes, up to a cell, are those of tab
counted-to : (tab b q w : Bytes) (at k : ℕ) → at ≡ 8 + k → at ≤ length tab → b ≡ take at tab ++ q
    → take 6 b ++ (w ++ drop 8 b) ≡ take 6 tab ++ (w ++ (take k (drop 8 tab) ++ q))
counted-to tab b q w at k h l e = counted tab b q w k (omega arith) (e ∙ ap (λ (j : ℕ). take j tab ++ q) h)

-- ISRT: n and long are the count and the length as the code has them, y what comes back of the bytes moved up, cell what is written behind them
module _ {cat tab area : Bytes} {size r : ℕ} {t : TypeCode} (s : Insertable cat tab size r t area) where
  -- the cells in use and the new one lie within the slice
  pub new-inside : (k : ℕ) → k ≤ suc (count tab) → Inside tab size k
  new-inside k l = sound-inside s.sound k (omega (arith, s.free))

  -- the area has the data, and the cell has room for it behind the code
  pub insert-fits : (long : ℕ) → long ≡ length_of cat t → (long ≤ length area) × (long < size)
  insert-fits long f = (omega (arith, s.long), omega (arith, length-cell cat t s.known, s.sound.sized.is))

  -- start and end are where the code has found the new cell to begin and the cells to end
  module _ (n start end : ℕ) (e : n ≡ count tab) (a : start ≡ start_of tab size r) (z : end ≡ start_of tab size (n + 1)) where
    pub insert-end : (start + size ≤ end) × (end ≤ length tab)
    insert-end =
        let f : r * size ≤ n * size = mul-le-mul_right size (omega (arith, s.place)) in
        let g : (n + 1) * size ≡ n * size + size = omega (arith, add-mul n 1 size) in
        (omega (arith, begins s.sound r, begins s.sound (n + 1)), omega (arith, (new-inside (n + 1) (omega arith)).within))

    inserted-bytes : IsBytes tab → with_cell cat tab r t area
        ≡ take 6 tab ++ (word_bytes (n + 1) ++ (part tab 8 (r * size) ++ (cell_bytes cat (arriving cat t area)
        ++ (part tab start ((count tab - r) * size) ++ drop end tab))))
    unfolding with_cell
    inserted-bytes bytes =
        let m : n + 1 ≡ suc (count tab) = omega arith in
        rw (a ∙ begins s.sound r, z ∙ begins s.sound (n + 1), m, s.sound.sized.is)
        (insert-bytes cat tab s.sound.table bytes r (arriving cat t area) s.place s.free)

    pub insert-is : IsBytes tab → (long : ℕ) (y cell tab' : Bytes) → long ≡ length_of cat t
        → (let b : Bytes = put_mid start (end - start) tab y in
        let d : Bytes = put_mid start (start + size - start) b cell in
        y ≡ moved_up size (mid_of start (end - start) tab)
        → cell ≡ t.0 ∷ take long area ++ replicate (length (mid_of start (start + size - start) b) - suc (length (take long area))) 0
        → tab' ≡ take 6 d ++ (word_bytes (n + 1) ++ drop 8 d)
        → tab' ≡ with_cell cat tab r t area)
    unfolding cell_bytes arriving segment_of
    insert-is bytes long y cell tab' f g h i =
        let b : Bytes = put_mid start (end - start) tab y in
        let d : Bytes = put_mid start (start + size - start) b cell in
        let l = insert-end in
        let k : end - start - size ≡ (count tab - r) * size =
        let g : (n + 1) * size ≡ count tab * size + size = add-mul n 1 size ∙ ap (λ (j : ℕ). j * size + 1 * size) e ∙ omega arith in
        omega (arith, begins s.sound r, begins s.sound (n + 1), split s.sound r (count tab) s.place) in
        let c : cell ≡ cell_bytes cat (arriving cat t area) =
        h ∙ ap (λ (j : ℕ). t.0 ∷ take long area ++ replicate (j - suc (length (take long area))) 0)
        (up_room tab y start end size l.0 l.1 g ∙ s.sound.sized.is)
        ∙ ap (λ (j : ℕ). t.0 ∷ take j area ++ replicate (cell_size cat - suc (length (take j area))) 0) f in
        let front : Bytes → Bytes = λ (x : Bytes). take 6 tab ++ (word_bytes (n + 1) ++ (part tab 8 (r * size) ++ x)) in
        i ∙ counted-to tab d _ (word_bytes (n + 1)) start (r * size) (a ∙ begins s.sound r) (omega arith) (up-cell tab y start end size l.0 l.1 g cell)
        ∙ ap (λ (x : Bytes). front (x ++ (take (end - start - size) (drop start tab) ++ drop end tab))) c
        ∙ ap (λ (j : ℕ). front (cell_bytes cat (arriving cat t area) ++ (take j (drop start tab) ++ drop end tab))) k
        ∙ sym (inserted-bytes bytes)

-- REPL: t and long are the cell's type and its length as the code has them, at is where the cell begins, y what comes back of the data
module _ {cat tab area : Bytes} {size i : ℕ} (s : Replaceable cat tab size i area) (t : TypeCode) (t-is : t ≡ (segment (listing cat tab) i).code)
    (long at : ℕ) (e : long ≡ length_of cat t) (a : at ≡ start_of tab size i) where
  type-is : t ≡ type_at cat tab i
  type-is = t-is ∙ type-of cat tab i s.used

  -- the cell's data lies within the slice, and the area has as much
  pub replace-end : (at + 1 + long ≤ length tab) × (long ≤ length area)
  replace-end =
      let k : is_type cat t ≡ true = ap (is_type cat) type-is ∙ table-known cat tab s.sound.table i s.used in
      (omega (arith, data-in (whole-data s.sound.sized s.sound.catalogue s.used t-is k e)), omega (arith, s.long, ap (length_of cat) t-is))

  pub replace-is : IsBytes tab → (y : Bytes)
      → (let start : ℕ = at + 1 in
      y ≡ take long area ++ drop (length (take long area)) (mid_of start (start + long - start) tab)
      → put_mid start (start + long - start) tab y ≡ with_data cat tab i area)
  unfolding with_data
  replace-is bytes y f =
      let start : ℕ = at + 1 in
      let l = replace-end in
      let b : start ≡ suc (cell_start cat i) = omega (arith, start_is s.sound.sized i) in
      let k : long ≡ length_of cat (type_at cat tab i) = e ∙ ap (length_of cat) type-is in
      put-part tab (take long area) y start (start + long) (omega (arith, length-take-le long area l.1)) (omega arith) l.0 f
      ∙ ap (λ (j : ℕ). take j tab ++ (take long area ++ drop (j + long) tab)) b
      ∙ ap (λ (j : ℕ). take (suc (cell_start cat i)) tab ++ (take j area ++ drop (suc (cell_start cat i) + j) tab)) k
      ∙ sym (replace-data cat tab s.sound.table bytes i area s.used (omega (arith, l.1)))

-- DLET: n is the count as the code has it; start, next and end are where the run begins and ends, and where the cells end; y is what comes back
-- of the bytes moved down, z what comes back of those cleared
module _ {cat tab : Bytes} {size i e : ℕ} (s : Removable cat tab size i e) (n start next end : ℕ) (f : n ≡ count tab)
    (a : start ≡ start_of tab size i) (b : next ≡ start_of tab size e) (c : end ≡ start_of tab size n) where
  -- the run lies within the cells in use; how many bytes it has, and how many stand behind it
  pub remove-end : (start ≤ next) × (start + (next - start) ≤ end) × (end ≤ length tab)
      × (next - start ≡ (e - i) * size) × (end - start - (next - start) ≡ (n - e) * size)
  remove-end =
      let x : e * size ≡ i * size + (e - i) * size = split s.sound i e s.order in
      let y : n * size ≡ e * size + (n - e) * size = split s.sound e n (omega (arith, s.used)) in
      let p : start ≡ 8 + i * size = a ∙ begins s.sound i in
      let q : next ≡ 8 + e * size = b ∙ begins s.sound e in
      let r : end ≡ 8 + n * size = c ∙ begins s.sound n in
      (omega arith, omega arith, omega (arith, (used-inside s.sound n (omega arith)).within), omega arith, omega arith)

  removed-bytes : IsBytes tab → without_cells cat tab i e
      ≡ take 6 tab ++ (word_bytes (n - (e - i)) ++ (part tab 8 (i * size)
      ++ (part tab next ((n - e) * size) ++ (replicate ((e - i) * size) 0 ++ drop end tab))))
  unfolding without_cells
  removed-bytes bytes =
      rw (b ∙ begins s.sound e, c ∙ begins s.sound n, f, s.sound.sized.is) (delete-bytes cat tab s.sound.table bytes i e s.order s.used)

  pub remove-is : IsBytes tab → (y z tab' : Bytes)
      → (let gap : ℕ = next - start in
      let d : Bytes = put_mid start (end - start) tab y in
      let g : Bytes = put_mid (end - gap) (end - (end - gap)) d z in
      y ≡ moved_down gap (mid_of start (end - start) tab)
      → z ≡ replicate (length (mid_of (end - gap) (end - (end - gap)) d)) 0
      → tab' ≡ take 6 g ++ (word_bytes (n - (e - i)) ++ drop 8 g)
      → tab' ≡ without_cells cat tab i e)
  remove-is bytes y z tab' u v w =
      let gap : ℕ = next - start in
      let d : Bytes = put_mid start (end - start) tab y in
      let g : Bytes = put_mid (end - gap) (end - (end - gap)) d z in
      let l = remove-end in
      let m : start + gap ≡ next = omega (arith, l.0) in
      let front : Bytes → Bytes = λ (x : Bytes). take 6 tab ++ (word_bytes (n - (e - i)) ++ (part tab 8 (i * size) ++ x)) in
      w ∙ counted-to tab g _ (word_bytes (n - (e - i))) start (i * size) (a ∙ begins s.sound i) (omega arith)
      (down-cleared tab y start end gap l.1 l.2 u z v)
      ∙ ap (λ (j : ℕ). front (take (end - start - gap) (drop j tab) ++ (replicate gap 0 ++ drop end tab))) m
      ∙ ap (λ (j : ℕ). front (take j (drop next tab) ++ (replicate gap 0 ++ drop end tab))) l.4
      ∙ ap (λ (j : ℕ). front (part tab next ((n - e) * size) ++ (replicate j 0 ++ drop end tab))) l.3
      ∙ sym (removed-bytes bytes)
