-- The bytes of a table from its cells, and what a change of the cells does to the bytes. Assumes nothing.
use mathlib.Core.Path.{◌≡◌, refl, ap, sym, ◌∙◌}
use mathlib.Core.Bool.{true}
use mathlib.Core.List.{List, [], ◌∷◌, ◌++◌, map, flat_map, append_assoc}
use Prim.Native.Nat.{ℕ, zero, suc, ◌+◌, ◌-◌, ◌*◌, ◌/◌, ◌%◌, ◌<◌, ◌≤◌}
use native.Mathlib.Omega.{arith}
use native.Mathlib.Nat.{zero-mul, add-mul, mul-le-mul_right, mul-add-div, div-eq_of_lt, mul-add-mod_self_left, mod-eq_of_lt}
use lib.Dec.{leb, eqb}
use lib.ListN.{length, take, drop, set, replicate, length-append, length-drop, length-set, length-replicate, replicate-append-replicate, take-append-drop}
use lib.Seq.{drop-cons, take-append-add, drop-append-add, take-add, take-take, drop-drop, length-take-le, set_split, take-suc, append_snoc}
use borrow.Author.Tests.{leb-true, eqb-true}
use Rattle.terms.specs.declared.TypeCode.{TypeCode}
use Rattle.forest.specs.Numbers.{range}
use Rattle.forest.specs.Forest.{forest_of}
use Rattle.forest.proofs.Forest.{cells-forest}
use Rattle.forest.specs.Good.{both_left}
use Rattle.forest.specs.Formed.{formed-cells}
use Rattle.rules.specs.Block.{Bytes, byte, word, word_bytes, part, zeros, marked}
use Rattle.rules.specs.Catalogue.{parent_of, length_of, is_type}
use Rattle.rules.specs.Cells.{Segment, segment, blank, segment_of, arriving, keyed, type_number, is_child, siblings, segment_level, good_listing}
use Rattle.rules.specs.Table.{count, cell_size, cell_start, room, type_at, segment_at, listing, good_room, padded, good_table, cell_bytes, table_bytes}
use Rattle.rules.proofs.Every.{every-at}
use Rattle.rules.proofs.Cells.{listing-at, listing-length}
use Rattle.encoding.specs.Determined.{IsBytes, All, Fits}
use Rattle.rules.proofs.Joined.{three, four}
use Rattle.rules.proofs.Table.{Tested, table-tests, cell-keyed}
use Rattle.rules.proofs.Entries.{length-cell, cell-some}
use Rattle.encoding.proofs.Lists.{zeros-all, front, bytes_take, bytes_drop, drop-take, drop-row, all_append, all-at, all_of}

module _ (cat : Bytes) where
  -- the bytes of a row of cells
  abbrev pub row_bytes : List Segment → Bytes
  row_bytes cs = flat_map (cell_bytes cat) cs

  -- every cell has C bytes
  pub cell-length : (s : Segment) → Fits cat s → length (cell_bytes cat s) ≡ cell_size cat
  unfolding cell_bytes
  cell-length s f =
      let k : ℕ = cell_size cat - suc (length s.bytes) in
      omega (arith, length-append s.bytes (replicate k 0), length-replicate {A = ℕ} k 0, f.long, length-cell cat s.code f.known)

  -- a segment from the front of an area that is long enough
  module _ (t : TypeCode) (area : Bytes) (l : length_of cat t ≤ length area) where
    segment-fits : is_type cat t ≡ true → IsBytes area → keyed cat (segment_of cat t area) ≡ true → Fits cat (segment_of cat t area)
    unfolding segment_of
    segment-fits k h v =
        record { known = k; long = omega (arith, length-take-le (length_of cat t) area l); bytes = bytes_take (length_of cat t) area h; valued = v }

    new-cell : cell_bytes cat (segment_of cat t area) ≡ t.0 ∷ (take (length_of cat t) area ++ replicate (cell_size cat - suc (length_of cat t)) 0)
    unfolding cell_bytes segment_of
    new-cell =
        ap (λ (n : ℕ). t.0 ∷ (take (length_of cat t) area ++ replicate (cell_size cat - suc n) 0)) (length-take-le (length_of cat t) area l)

    -- the same of a segment that arrives in the area
    pub arriving-fits : is_type cat t ≡ true → IsBytes area → keyed cat (arriving cat t area) ≡ true → Fits cat (arriving cat t area)
    unfolding arriving
    arriving-fits k h v = segment-fits k h v

    arriving-cell : cell_bytes cat (arriving cat t area) ≡ t.0 ∷ (take (length_of cat t) area ++ replicate (cell_size cat - suc (length_of cat t)) 0)
    unfolding arriving
    arriving-cell = new-cell

  -- the bytes of cells, by the number of cells
  pub row-length : (cs : List Segment) → All (Fits cat) cs → length (row_bytes cs) ≡ length cs * cell_size cat
  unfolding flat_map
  row-length [] a = sym (zero-mul (cell_size cat))
  row-length (s ∷ cs) a = omega (arith, length-append (cell_bytes cat s) (row_bytes cs), cell-length s a.0, row-length cs a.1)

  one_more : (i : ℕ) (s : Segment) → Fits cat s → suc i * cell_size cat ≡ length (cell_bytes cat s) + i * cell_size cat
  one_more i s f = omega (arith, cell-length s f)

  pub row-take : (i : ℕ) (cs : List Segment) → All (Fits cat) cs → i ≤ length cs → take (i * cell_size cat) (row_bytes cs) ≡ row_bytes (take i cs)
  unfolding flat_map
  row-take zero cs a l = rw (zero-mul (cell_size cat))
  row-take (suc i) [] a l = absurd (omega arith)
  row-take (suc i) (s ∷ cs) a l =
      ap (λ (k : ℕ). take k (cell_bytes cat s ++ row_bytes cs)) (one_more i s a.0)
      ∙ take-append-add (cell_bytes cat s) (row_bytes cs) (i * cell_size cat)
      ∙ ap (λ (r : Bytes). cell_bytes cat s ++ r) (row-take i cs a.1 (omega arith))

  pub row_drop : (i : ℕ) (cs : List Segment) → All (Fits cat) cs → i ≤ length cs → drop (i * cell_size cat) (row_bytes cs) ≡ row_bytes (drop i cs)
  unfolding flat_map
  row_drop zero cs a l = rw (zero-mul (cell_size cat))
  row_drop (suc i) [] a l = absurd (omega arith)
  row_drop (suc i) (s ∷ cs) a l =
      ap (λ (k : ℕ). drop k (cell_bytes cat s ++ row_bytes cs)) (one_more i s a.0)
      ∙ drop-append-add (cell_bytes cat s) (row_bytes cs) (i * cell_size cat)
      ∙ row_drop i cs a.1 (omega arith)

  pub row-append : (xs ys : List Segment) → row_bytes (xs ++ ys) ≡ row_bytes xs ++ row_bytes ys
  unfolding flat_map
  row-append [] ys = refl
  row-append (x ∷ xs) ys = ap (λ (r : Bytes). cell_bytes cat x ++ r) (row-append xs ys) ∙ sym (append_assoc (cell_bytes cat x) (row_bytes xs) (row_bytes ys))

  -- the bytes of b cells are those of a cells and of the others
  pub cells-split : (a b : ℕ) → a ≤ b → b * cell_size cat ≡ a * cell_size cat + (b - a) * cell_size cat
  cells-split a b l = let z : b ≡ a + (b - a) = omega arith in ap (λ (k : ℕ). k * cell_size cat) z ∙ add-mul a (b - a) (cell_size cat)

  -- each segment of a well-formed listing has a type of the catalogue
  abbrev Known : Segment → Type 0
  Known s = is_type cat s.code ≡ true

  known_more : (p : ℕ) (c : Segment) (xs ys : List Segment) → is_child cat p c ≡ true → All Known xs → All Known ys → All Known (c ∷ xs ++ ys)
  unfolding is_child
  known_more p c xs ys h a b = (both_left (is_type cat c.code) (eqb (parent_of cat c.code).0 p) h, all_append Known xs ys a b)

  pub listing-known : (cs : List Segment) → good_listing cat cs ≡ true → All Known cs
  unfolding good_listing
  listing-known cs e =
      rw (cells-forest (segment_level cat) cs)
      at (formed-cells type_number (is_child cat) (siblings cat) (All Known) tt known_more 0 (forest_of (segment_level cat) cs) e)

  module _ (tab : Bytes) (good : good_table cat tab ≡ true) where
    -- what the check has tested
    tests : Tested cat tab
    tests = table-tests cat tab good

    room-parts : (leb 8 (length tab) ≡ true) × (eqb (length tab) (cell_start cat (room cat tab)) ≡ true) × (leb (room cat tab) 4096 ≡ true)
    unfolding good_room
    room-parts = three (leb 8 (length tab)) (eqb (length tab) (cell_start cat (room cat tab))) (leb (room cat tab) 4096) tests.roomy

    pub table-length : length tab ≡ 8 + room cat tab * cell_size cat
    unfolding cell_start
    table-length = eqb-true (length tab) (cell_start cat (room cat tab)) room-parts.1

    pub table-room : room cat tab ≤ 4096
    table-room = leb-true (room cat tab) 4096 room-parts.2

    pub table-count : count tab ≤ room cat tab
    table-count = leb-true (count tab) (room cat tab) tests.few

    pub table-listing : good_listing cat (listing cat tab) ≡ true
    table-listing = tests.cells

    -- the first k cells lie within the block
    pub table-within : (k : ℕ) → k ≤ room cat tab → 8 + k * cell_size cat ≤ length tab
    table-within k l = omega (arith, table-length, mul-le-mul_right (cell_size cat) l)

    pub code_at : (i : ℕ) → i < count tab → (segment (listing cat tab) i).code ≡ type_at cat tab i
    unfolding segment_at segment_of
    code_at i l = ap (λ (s : Segment). s.code) (listing-at cat tab i l)

    pub table-known : (i : ℕ) → i < count tab → is_type cat (type_at cat tab i) ≡ true
    table-known i l =
        let h : is_type cat (segment (listing cat tab) i).code ≡ true =
        all-at Known blank (listing cat tab) i (listing-known (listing cat tab) table-listing) (omega (arith, listing-length cat tab)) in
        rw (code_at i l) at h

    -- a cell's bytes, from the block
    module _ (i : ℕ) (l : i < count tab) where
      cell_in : cell_start cat i + cell_size cat ≤ length tab
      unfolding cell_start
      cell_in = omega (arith, table-within (suc i) (omega (arith, table-count)))

      data-in : length_of cat (type_at cat tab i) ≤ length (drop (suc (cell_start cat i)) tab)
      data-in = omega (arith, length-drop (suc (cell_start cat i)) tab, cell_in, length-cell cat (type_at cat tab i) (table-known i l))

      pub table-padded : part tab (suc (cell_start cat i) + length_of cat (type_at cat tab i)) (cell_size cat - suc (length_of cat (type_at cat tab i)))
          ≡ replicate (cell_size cat - suc (length_of cat (type_at cat tab i))) 0
      unfolding padded
      table-padded =
          let a : ℕ = suc (cell_start cat i) + length_of cat (type_at cat tab i) in
          let r : ℕ = cell_size cat - suc (length_of cat (type_at cat tab i)) in
          let h : zeros (part tab a r) ≡ true = every-at (padded cat tab) 0 (count tab) i tests.filled (omega arith) (omega arith) in
          let k : length (part tab a r) ≡ r =
          length-take-le r (drop a tab) (omega (arith, length-drop a tab, cell_in, length-cell cat (type_at cat tab i) (table-known i l))) in
          zeros-all (part tab a r) h ∙ ap (λ (n : ℕ). replicate n 0) k

      pub table-cell : cell_bytes cat (segment_at cat tab i) ≡ take (cell_size cat) (drop (cell_start cat i) tab)
      unfolding segment_at type_at
      table-cell =
          let a : ℕ = cell_start cat i in
          let L : ℕ = length_of cat (type_at cat tab i) in
          let r : ℕ = cell_size cat - suc L in
          let D : Bytes = drop (suc a) tab in
          let z : cell_size cat ≡ suc (L + r) = omega (arith, length-cell cat (type_at cat tab i) (table-known i l)) in
          let e : take (cell_size cat) (drop a tab) ≡ byte tab a ∷ (take L D ++ replicate r 0) =
          ap (λ (n : ℕ). take n (drop a tab)) z ∙ ap (take (suc (L + r))) (drop-cons tab a 0 (omega (arith, cell_in, cell-some cat)))
          ∙ ap (◌∷◌ (byte tab a)) (take-add L r D ∙ ap (λ (b : Bytes). take L D ++ b) (ap (take r) (drop-drop L (suc a) tab) ∙ table-padded)) in
          new-cell (type_at cat tab i) D data-in ∙ sym e

      pub cell-fits : IsBytes tab → Fits cat (segment_at cat tab i)
      unfolding segment_at
      cell-fits h =
          segment-fits (type_at cat tab i) (drop (suc (cell_start cat i)) tab) data-in (table-known i l) (bytes_drop (suc (cell_start cat i)) tab h)
          (rw (listing-at cat tab i l) at (cell-keyed cat tab good i l))

    pub table_fits : IsBytes tab → All (Fits cat) (listing cat tab)
    table_fits h =
        all_of (Fits cat) blank (listing cat tab)
        (λ i l. let k : i < count tab = omega (arith, listing-length cat tab) in rw (listing-at cat tab i k) (cell-fits i k h))

    -- the bytes of k cells from cell i on
    cells-from : (i k : ℕ) → i + k ≤ count tab → row_bytes (map (segment_at cat tab) (range i k)) ≡ take (k * cell_size cat) (drop (cell_start cat i) tab)
    unfolding flat_map cell_start
    cells-from i zero l = rw (zero-mul (cell_size cat))
    cells-from i (suc k) l =
        let C : ℕ = cell_size cat in
        let a : ℕ = cell_start cat i in
        let z : C + k * C ≡ suc k * C = omega arith in
        let y : a + C ≡ cell_start cat (suc i) = omega arith in
        ap (λ (r : Bytes). r ++ row_bytes (map (segment_at cat tab) (range (suc i) k))) (table-cell i (omega arith))
        ∙ ap (λ (r : Bytes). take C (drop a tab) ++ r) (cells-from (suc i) k (omega arith))
        ∙ sym (ap (λ (n : ℕ). take n (drop a tab)) (sym z) ∙ take-add C (k * C) (drop a tab)
        ∙ ap (λ (r : Bytes). take C (drop a tab) ++ take (k * C) r) (drop-drop C a tab ∙ ap (λ (n : ℕ). drop n tab) y))

    -- the cells' bytes and the free cells' zeros, from the block
    pub table-row : row_bytes (listing cat tab) ≡ take (count tab * cell_size cat) (drop 8 tab)
    unfolding listing cell_start
    table-row =
        let z : 8 + 0 * cell_size cat ≡ 8 = omega arith in
        cells-from 0 (count tab) (omega arith) ∙ ap (λ (n : ℕ). take (count tab * cell_size cat) (drop n tab)) z

    pub table-free : replicate ((room cat tab - count tab) * cell_size cat) 0 ≡ drop (count tab * cell_size cat) (drop 8 tab)
    unfolding cell_start
    table-free =
        let n : ℕ = count tab in
        let b : Bytes = drop (8 + n * cell_size cat) tab in
        let z : length b ≡ (room cat tab - n) * cell_size cat =
        omega (arith, length-drop (8 + n * cell_size cat) tab, table-length, cells-split n (room cat tab) table-count) in
        sym (drop-drop (n * cell_size cat) 8 tab ∙ zeros-all b tests.free ∙ ap (λ (k : ℕ). replicate k 0) z)

    -- the first six bytes; the count's two
    pub table-head : 0x48 ∷ 0x44 ∷ 0x54 ∷ 0 ∷ 1 ∷ cell_size cat ∷ [] ≡ take 6 tab
    unfolding marked
    table-head =
        let h = four (eqb (byte tab 0) 0x48) (eqb (byte tab 1) 0x44) (eqb (byte tab 2) 0x54) (eqb (word tab 3) 1) tests.mark in
        let e0 : byte tab 0 ≡ 0x48 = eqb-true (byte tab 0) 0x48 h.0 in
        let e1 : byte tab 1 ≡ 0x44 = eqb-true (byte tab 1) 0x44 h.1 in
        let e2 : byte tab 2 ≡ 0x54 = eqb-true (byte tab 2) 0x54 h.2 in
        let w : word tab 3 ≡ 1 = eqb-true (word tab 3) 1 h.3 in
        let e3 : byte tab 3 ≡ 0 = omega arith in
        let e4 : byte tab 4 ≡ 1 = omega arith in
        let e5 : byte tab 5 ≡ cell_size cat = eqb-true (byte tab 5) (cell_size cat) tests.size in
        let e : map (byte tab) (range 0 6) ≡ 0x48 ∷ 0x44 ∷ 0x54 ∷ 0 ∷ 1 ∷ cell_size cat ∷ [] = rw (e0, e1, e2, e3, e4, e5) in
        sym (ap (take 6) (front tab 0 6 (omega (arith, table-length))) ∙ e)

    pub count-bytes : IsBytes tab → word_bytes (count tab) ≡ part tab 6 2
    unfolding count
    count-bytes h =
        let a : ℕ = byte tab 6 in
        let b : ℕ = byte tab 7 in
        let d : (256 * a + b) / 256 ≡ a = mul-add-div (omega arith) a b ∙ omega (arith, div-eq_of_lt (h 7)) in
        let r : (256 * a + b) % 256 ≡ b = mul-add-mod_self_left 256 a b ∙ mod-eq_of_lt (h 7) in
        let e : word_bytes (256 * a + b) ≡ a ∷ b ∷ [] = rw (d, r) in
        e ∙ sym (ap (take 2) (front tab 6 2 (omega (arith, table-length))))

    -- other cells in the same table
    pub table-other : (cs : List Segment)
        → table_bytes cat (room cat tab) cs ≡ take 6 tab ++ (word_bytes (length cs) ++ (row_bytes cs ++ replicate ((room cat tab - length cs) * cell_size cat) 0))
    unfolding table_bytes
    table-other cs = ap (λ (h : Bytes). h ++ (word_bytes (length cs) ++ (row_bytes cs ++ replicate ((room cat tab - length cs) * cell_size cat) 0))) table-head

    -- the cells and the free cells are all behind the header
    row-body : row_bytes (listing cat tab) ++ replicate ((room cat tab - count tab) * cell_size cat) 0 ≡ drop 8 tab
    row-body =
        let k : ℕ = count tab * cell_size cat in
        ap (λ (b : Bytes). b ++ replicate ((room cat tab - count tab) * cell_size cat) 0) table-row ∙ ap (λ (b : Bytes). take k (drop 8 tab) ++ b) table-free
        ∙ take-append-drop k (drop 8 tab)

    -- a table's bytes are those of its cells in its room
    pub table-bytes : IsBytes tab → table_bytes cat (room cat tab) (listing cat tab) ≡ tab
    table-bytes h =
        let m : ℕ = room cat tab in
        let row : List Segment = listing cat tab in
        table-other row
        ∙ ap (λ (n : ℕ). take 6 tab ++ (word_bytes n ++ (row_bytes row ++ replicate ((m - n) * cell_size cat) 0))) (listing-length cat tab)
        ∙ ap (λ (b : Bytes). take 6 tab ++ (word_bytes (count tab) ++ b)) row-body
        ∙ ap (λ (b : Bytes). take 6 tab ++ (b ++ drop 8 tab)) (count-bytes h)
        ∙ ap (λ (b : Bytes). take 6 tab ++ (part tab 6 2 ++ b)) (sym (drop-drop 2 6 tab))
        ∙ ap (λ (b : Bytes). take 6 tab ++ b) (take-append-drop 2 (drop 6 tab))
        ∙ take-append-drop 6 tab

    -- the bytes that other cells give the same table, from their number and their rows
    table-changed : (cs : List Segment) (k : ℕ) (b : Bytes) → length cs ≡ k → row_bytes cs ++ replicate ((room cat tab - k) * cell_size cat) 0 ≡ b
        → table_bytes cat (room cat tab) cs ≡ take 6 tab ++ (word_bytes k ++ b)
    table-changed cs k b e h =
        table-other cs ∙ ap (λ (n : ℕ). take 6 tab ++ (word_bytes n ++ (row_bytes cs ++ replicate ((room cat tab - n) * cell_size cat) 0))) e
        ∙ ap (λ (r : Bytes). take 6 tab ++ (word_bytes k ++ r)) h

    -- the free cells from cell k on
    pub free-from : (k : ℕ) → count tab ≤ k → k ≤ room cat tab → replicate ((room cat tab - k) * cell_size cat) 0 ≡ drop (8 + k * cell_size cat) tab
    free-from k l m =
        let C : ℕ = cell_size cat in
        let n : ℕ = count tab in
        let M : ℕ = room cat tab in
        let y : (M - n) * C ≡ (k - n) * C + (M - k) * C = omega (arith, cells-split n M table-count, cells-split n k l, cells-split k M m) in
        let z : 8 + (n * C + (k - n) * C) ≡ 8 + k * C = omega (arith, cells-split n k l) in
        sym (drop-row ((k - n) * C) ((M - k) * C) 0) ∙ ap (λ (j : ℕ). drop ((k - n) * C) (replicate j 0)) (sym y) ∙ ap (drop ((k - n) * C)) table-free
        ∙ drop-drop ((k - n) * C) (n * C) (drop 8 tab) ∙ drop-drop (n * C + (k - n) * C) 8 tab ∙ ap (λ (j : ℕ). drop j tab) z

    -- the cells from cell i on, and all the free cells
    part-tail : (i : ℕ) → i ≤ count tab
        → part tab (8 + i * cell_size cat) ((count tab - i) * cell_size cat) ++ replicate ((room cat tab - count tab) * cell_size cat) 0
        ≡ drop (8 + i * cell_size cat) tab
    part-tail i l =
        let a : ℕ = 8 + i * cell_size cat in
        let k : ℕ = (count tab - i) * cell_size cat in
        let z : a + k ≡ 8 + count tab * cell_size cat = omega (arith, cells-split i (count tab) l) in
        rw (free-from (count tab) (omega arith) table-count)
        (ap (λ (b : Bytes). take k (drop a tab) ++ b) (ap (λ (j : ℕ). drop j tab) (sym z) ∙ sym (drop-drop k a tab)) ∙ take-append-drop k (drop a tab))

    -- with k cells fewer, the zeros of k more free cells
    more-free : (k : ℕ) → k ≤ count tab → (room cat tab - (count tab - k)) * cell_size cat ≡ k * cell_size cat + (room cat tab - count tab) * cell_size cat
    more-free k l =
        let z : room cat tab - (count tab - k) - k ≡ room cat tab - count tab = omega (arith, table-count) in
        cells-split k (room cat tab - (count tab - k)) (omega (arith, table-count)) ∙ ap (λ (j : ℕ). k * cell_size cat + j * cell_size cat) z

    free_more : (k : ℕ) → k ≤ count tab
        → replicate ((room cat tab - (count tab - k)) * cell_size cat) 0 ≡ replicate (k * cell_size cat) 0 ++ drop (8 + count tab * cell_size cat) tab
    free_more k l =
        ap (λ (j : ℕ). replicate j 0) (more-free k l) ∙ sym (replicate-append-replicate (k * cell_size cat) ((room cat tab - count tab) * cell_size cat) 0)
        ∙ ap (λ (b : Bytes). replicate (k * cell_size cat) 0 ++ b) (free-from (count tab) (omega arith) table-count)

    module _ (bytes : IsBytes tab) where
      -- the first i cells; the cells from i on
      pub row_first : (i : ℕ) → i ≤ count tab → row_bytes (take i (listing cat tab)) ≡ part tab 8 (i * cell_size cat)
      row_first i l =
          sym (row-take i (listing cat tab) (table_fits bytes) (omega (arith, listing-length cat tab))) ∙ ap (take (i * cell_size cat)) table-row
          ∙ take-take (i * cell_size cat) (count tab * cell_size cat) (drop 8 tab) (mul-le-mul_right (cell_size cat) l)

      pub row_last : (i : ℕ) → i ≤ count tab → row_bytes (drop i (listing cat tab)) ≡ part tab (8 + i * cell_size cat) ((count tab - i) * cell_size cat)
      row_last i l =
          let C : ℕ = cell_size cat in
          let n : ℕ = count tab in
          sym (row_drop i (listing cat tab) (table_fits bytes) (omega (arith, listing-length cat tab))) ∙ ap (drop (i * C)) table-row
          ∙ ap (λ (k : ℕ). drop (i * C) (take k (drop 8 tab))) (cells-split i n l) ∙ drop-take (i * C) ((n - i) * C) (drop 8 tab)
          ∙ ap (take ((n - i) * C)) (drop-drop (i * C) 8 tab)

      -- the cells from i on and the free cells are the block's tail
      pub row-tail : (i : ℕ) → i ≤ count tab
          → row_bytes (drop i (listing cat tab)) ++ replicate ((room cat tab - count tab) * cell_size cat) 0 ≡ drop (8 + i * cell_size cat) tab
      row-tail i l = rw (row_last i l) (part-tail i l)

      -- a cell put in before cell r; the cells behind it move up by one
      pub insert-bytes : (r : ℕ) (x : Segment) → r ≤ count tab → count tab < room cat tab
          → table_bytes cat (room cat tab) (take r (listing cat tab) ++ x ∷ drop r (listing cat tab))
          ≡ take 6 tab ++ (word_bytes (suc (count tab)) ++ (part tab 8 (r * cell_size cat) ++ (cell_bytes cat x
          ++ (part tab (8 + r * cell_size cat) ((count tab - r) * cell_size cat) ++ drop (8 + suc (count tab) * cell_size cat) tab))))
      unfolding flat_map
      insert-bytes r x l m =
          let cs : List Segment = listing cat tab in
          table-changed (take r cs ++ x ∷ drop r cs) (suc (count tab)) _
          (omega (
            arith,
            length-append (take r cs) (x ∷ drop r cs),
            length-take-le r cs (omega (arith, listing-length cat tab)),
            length-drop r cs,
            listing-length cat tab,
          ))
          (rw (row-append (take r cs) (x ∷ drop r cs), row_first r l, row_last r l, free-from (suc (count tab)) (omega arith) m)
          (simp append_assoc))

      -- the cells from i to e taken out; those behind move down, and as many become zero
      pub delete-bytes : (i e : ℕ) → i ≤ e → e ≤ count tab
          → table_bytes cat (room cat tab) (take i (listing cat tab) ++ drop e (listing cat tab))
          ≡ take 6 tab ++ (word_bytes (count tab - (e - i)) ++ (part tab 8 (i * cell_size cat)
          ++ (part tab (8 + e * cell_size cat) ((count tab - e) * cell_size cat)
          ++ (replicate ((e - i) * cell_size cat) 0 ++ drop (8 + count tab * cell_size cat) tab))))
      delete-bytes i e l m =
          let cs : List Segment = listing cat tab in
          table-changed (take i cs ++ drop e cs) (count tab - (e - i)) _
          (omega (
            arith,
            length-append (take i cs) (drop e cs),
            length-take-le i cs (omega (arith, listing-length cat tab)),
            length-drop e cs,
            listing-length cat tab,
          ))
          (rw (row-append (take i cs) (drop e cs), row_first i (omega arith), row_last e m, free_more (e - i) (omega arith)) (simp append_assoc))

      -- cell i replaced
      pub replace-bytes : (i : ℕ) (x : Segment) → i < count tab
          → table_bytes cat (room cat tab) (set (listing cat tab) i x)
          ≡ take 6 tab ++ (word_bytes (count tab) ++ (part tab 8 (i * cell_size cat) ++ (cell_bytes cat x ++ drop (8 + suc i * cell_size cat) tab)))
      unfolding flat_map
      replace-bytes i x l =
          let cs : List Segment = listing cat tab in
          table-changed (set cs i x) (count tab) _ (length-set cs i x ∙ listing-length cat tab)
          (rw (
            set_split cs i x (omega (arith, listing-length cat tab)),
            row-append (take i cs) (x ∷ drop (suc i) cs),
            row_first i (omega arith),
            ← row-tail (suc i) l,
          )
          (simp append_assoc))

      -- the count's bytes and all before cell i stay
      pub replace-cell : (i : ℕ) (x : Segment) → i < count tab
          → table_bytes cat (room cat tab) (set (listing cat tab) i x)
          ≡ take (8 + i * cell_size cat) tab ++ (cell_bytes cat x ++ drop (8 + suc i * cell_size cat) tab)
      replace-cell i x l =
          let k : ℕ = i * cell_size cat in
          let t : Bytes = cell_bytes cat x ++ drop (8 + suc i * cell_size cat) tab in
          replace-bytes i x l ∙ ap (λ (w : Bytes). take 6 tab ++ (w ++ (part tab 8 k ++ t))) (count-bytes bytes)
          ∙ sym (rw (take-add 8 k tab, take-add 6 2 tab) (simp append_assoc))

      -- as REPL stores them (R43): new data in the cell, whose type's code and zeros stay
      pub replace-data : (i : ℕ) (area : Bytes) → i < count tab → length_of cat (type_at cat tab i) ≤ length area
          → table_bytes cat (room cat tab) (set (listing cat tab) i (arriving cat (segment (listing cat tab) i).code area))
          ≡ take (suc (cell_start cat i)) tab
          ++ (take (length_of cat (type_at cat tab i)) area ++ drop (suc (cell_start cat i) + length_of cat (type_at cat tab i)) tab)
      unfolding cell_start type_at
      replace-data i area l a =
          let t : TypeCode = type_at cat tab i in
          let A : ℕ = cell_start cat i in
          let L : ℕ = length_of cat t in
          let r : ℕ = cell_size cat - suc L in
          let X : Bytes = take L area in
          let E : Bytes = drop (8 + suc i * cell_size cat) tab in
          let P : Bytes = part tab (suc A + L) r in
          let z : 8 + suc i * cell_size cat ≡ suc A + L + r = omega (arith, length-cell cat t (table-known i l)) in
          let e : P ++ E ≡ drop (suc A + L) tab =
          ap (λ (k : ℕ). P ++ drop k tab) z ∙ ap (λ (b : Bytes). P ++ b) (sym (drop-drop r (suc A + L) tab)) ∙ take-append-drop r (drop (suc A + L) tab) in
          let c : cell_bytes cat (arriving cat t area) ++ E ≡ byte tab A ∷ (X ++ drop (suc A + L) tab) =
          ap (λ (b : Bytes). b ++ E) (arriving-cell t area a ∙ ap (λ (b : Bytes). byte tab A ∷ (X ++ b)) (sym (table-padded i l)))
          ∙ ap (◌∷◌ (byte tab A)) (append_assoc X P E ∙ ap (λ (b : Bytes). X ++ b) e) in
          ap (λ (u : TypeCode). table_bytes cat (room cat tab) (set (listing cat tab) i (arriving cat u area))) (code_at i l)
          ∙ replace-cell i (arriving cat t area) l ∙ ap (λ (b : Bytes). take A tab ++ b) c
          ∙ sym (append_snoc (take A tab) (byte tab A) (X ++ drop (suc A + L) tab))
          ∙ ap (λ (b : Bytes). b ++ (X ++ drop (suc A + L) tab)) (sym (take-suc tab A 0 (omega (arith, cell_in i l, cell-some cat))))
