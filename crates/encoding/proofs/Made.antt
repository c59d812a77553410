-- The table made of cells that fit, read again. Assumes nothing.
use mathlib.Core.Path.{◌≡◌, refl, ap, sym, ◌∙◌}
use mathlib.Core.Bool.{true}
use mathlib.Core.List.{List, [], ◌∷◌, ◌++◌, flat_map, append_assoc}
use Prim.Native.Nat.{ℕ, suc, ◌+◌, ◌-◌, ◌*◌, ◌/◌, ◌%◌, ◌<◌, ◌≤◌}
use native.Mathlib.Omega.{arith}
use native.Mathlib.Nat.{mul-le-mul_right, mul-div_cancel, div-add-mod, div-lt_iff_lt-mul, mod-lt}
use lib.Dec.{eqb}
use lib.ListN.{length, take, drop, replicate, length-append, length-replicate}
use lib.Seq.{drop-cons, take_at, drop_at, drop-append-le, drop-drop, get_or-drop, ext_get_or}
use borrow.Author.Tests.{le-leb, eq-eqb}
use Rattle.terms.specs.declared.TypeCode.{TypeCode}
use Rattle.terms.specs.Names.{code}
use Rattle.rules.specs.Block.{Bytes, byte, word_bytes, part, every, zeros, marked}
use Rattle.rules.specs.Catalogue.{length_of, good_catalogue}
use Rattle.rules.specs.Cells.{Segment, segment, blank, segment_of, keyed, good_listing}
use Rattle.rules.specs.Table.{count, cell_size, cell_start, room, type_at, segment_at, listing, good_room, padded, good_table, cell_bytes, table_bytes}
use Rattle.rules.proofs.Cells.{listing-at, listing-length}
use Rattle.encoding.specs.Determined.{IsBytes, All, Fits}
use Rattle.rules.proofs.Every.{zeros-row}
use Rattle.rules.proofs.Table.{tests-table}
use Rattle.rules.proofs.Entries.{cell-some, cell-most, type-low}
use Rattle.encoding.proofs.Lists.{every_of, every-all, bytes-none, bytes-all, bytes-cons, bytes-append, bytes-zeros, all-at}
use Rattle.encoding.proofs.Bytes.{row_bytes, cells-split, row-length, row_drop}

module _ (cat : Bytes) (m : ℕ) (cs : List Segment) where
  abbrev made : Bytes
  made = table_bytes cat m cs

  abbrev free : Bytes
  free = replicate ((m - length cs) * cell_size cat) 0

  pub made-body : drop 8 made ≡ row_bytes cat cs ++ free
  unfolding table_bytes
  made-body = refl

  made-mark : marked 0x54 made ≡ true
  unfolding marked table_bytes
  made-mark = refl

  made-size : eqb (byte made 5) (cell_size cat) ≡ true
  unfolding table_bytes
  made-size = eq-eqb (cell_size cat) (cell_size cat) refl

  pub made-count : count made ≡ length cs
  unfolding table_bytes count
  made-count = div-add-mod (length cs) 256

  module _ (fits : All (Fits cat) cs) (few : length cs ≤ m) where
    pub made-length : length made ≡ 8 + m * cell_size cat
    unfolding table_bytes
    made-length =
        omega (
          arith,
          length-append (row_bytes cat cs) free,
          row-length cat cs fits,
          length-replicate {A = ℕ} ((m - length cs) * cell_size cat) 0,
          cells-split cat (length cs) m few,
        )

    pub made-room : room cat made ≡ m
    unfolding room
    made-room =
        let z : length made - 8 ≡ m * cell_size cat = omega (arith, made-length) in
        ap (λ (k : ℕ). k / cell_size cat) z ∙ mul-div_cancel m (cell-some cat)

    -- cell i and all behind it
    module _ (i : ℕ) (l : i < length cs) where
      abbrev after : Bytes
      after = row_bytes cat (drop (suc i) cs) ++ free

      abbrev pad : Bytes
      pad = replicate (cell_size cat - suc (length (segment cs i).bytes)) 0

      abbrev from : ℕ
      from = cell_start cat i

      data-length : length (segment cs i).bytes ≡ length_of cat (segment cs i).code
      data-length = omega (arith, (all-at (Fits cat) blank cs i fits l).long)

      made-from : drop from made ≡ (segment cs i).code.0 ∷ ((segment cs i).bytes ++ (pad ++ after))
      unfolding cell_start flat_map cell_bytes
      made-from =
          let k : ℕ = i * cell_size cat in
          let s : Segment = segment cs i in
          sym (drop-drop k 8 made) ∙ ap (drop k) made-body
          ∙ drop-append-le k (row_bytes cat cs) free
          (omega (arith, row-length cat cs fits, mul-le-mul_right (cell_size cat) (let h : i ≤ length cs = omega arith in h)))
          ∙ ap (λ (b : Bytes). b ++ free) (row_drop cat i cs fits (omega arith) ∙ ap (row_bytes cat) (drop-cons cs i blank l))
          ∙ append_assoc (cell_bytes cat s) (row_bytes cat (drop (suc i) cs)) free
          ∙ ap (◌∷◌ s.code.0) (append_assoc s.bytes pad after)

      made-data : drop (suc from) made ≡ (segment cs i).bytes ++ (pad ++ after)
      made-data = let z : suc from ≡ from + 1 = omega arith in ap (λ (k : ℕ). drop k made) z ∙ sym (drop-drop 1 from made) ∙ ap (drop 1) made-from

      pub made-type : type_at cat made i ≡ (segment cs i).code
      unfolding type_at
      made-type =
          let z : from ≡ from + 0 = omega arith in
          ap (λ (k : ℕ). code (byte made k)) z ∙ sym (ap code (get_or-drop from made 0 0)) ∙ ap (λ (b : Bytes). code (byte b 0)) made-from

      pub made-segment : segment_at cat made i ≡ segment cs i
      unfolding segment_at segment_of
      made-segment =
          let s : Segment = segment cs i in
          ap (λ (t : TypeCode). segment_of cat t (drop (suc from) made)) made-type
          ∙ ap (λ (b : Bytes). record { code = s.code; bytes = b })
          (ap (take (length_of cat s.code)) made-data ∙ take_at s.bytes (pad ++ after) (length_of cat s.code) data-length)

      pub made-padded : padded cat made i ≡ true
      unfolding padded
      made-padded =
          let s : Segment = segment cs i in
          let L : ℕ = length_of cat s.code in
          let r : ℕ = cell_size cat - suc L in
          let e : part made (suc from + L) r ≡ pad =
          ap (take r) (sym (drop-drop L (suc from) made) ∙ ap (drop L) made-data ∙ drop_at s.bytes (pad ++ after) L data-length)
          ∙ take_at pad after r (length-replicate (cell_size cat - suc (length s.bytes)) 0 ∙ ap (λ (k : ℕ). cell_size cat - suc k) data-length) in
          ap (λ (t : TypeCode). zeros (part made (suc from + length_of cat t) (cell_size cat - suc (length_of cat t)))) made-type
          ∙ ap zeros e ∙ zeros-row (cell_size cat - suc (length s.bytes))

    pub made-listing : listing cat made ≡ cs
    made-listing =
        let n : length (listing cat made) ≡ length cs = listing-length cat made ∙ made-count in
        ext_get_or blank (listing cat made) cs n (λ i l. listing-at cat made i (omega (arith, made-count)) ∙ made-segment i (omega arith))

    pub made-free : drop (cell_start cat (length cs)) made ≡ free
    unfolding cell_start
    made-free =
        sym (drop-drop (length cs * cell_size cat) 8 made) ∙ ap (drop (length cs * cell_size cat)) made-body
        ∙ drop_at (row_bytes cat cs) free (length cs * cell_size cat) (row-length cat cs fits)

    room-good : m ≤ 4096 → good_room cat made ≡ true
    unfolding good_room cell_start
    room-good low =
        let e : length made ≡ 8 + room cat made * cell_size cat = made-length ∙ ap (λ (k : ℕ). 8 + k * cell_size cat) (sym made-room) in
        rw (
          le-leb 8 (length made) (omega (arith, e)),
          eq-eqb (length made) (8 + room cat made * cell_size cat) e,
          le-leb (room cat made) 4096 (omega (arith, made-room)),
        )

    -- the check takes it, where its cells are well formed and its room is not too large
    pub made-good : m ≤ 4096 → good_listing cat cs ≡ true → good_table cat made ≡ true
    made-good low shaped =
        tests-table cat made (record {
          roomy = room-good low;
          mark = made-mark;
          size = made-size;
          few = le-leb (count made) (room cat made) (omega (arith, made-count, made-room));
          filled = every_of (padded cat made) 0 (count made) (λ i a b. made-padded i (omega (arith, made-count)));
          free = ap (λ (k : ℕ). zeros (drop (cell_start cat k) made)) made-count ∙ ap zeros made-free ∙ zeros-row ((m - length cs) * cell_size cat);
          keys = ap (every (keyed cat)) made-listing ∙ every-all (Fits cat) (keyed cat) (λ s f. f.valued) cs fits;
          cells = ap (good_listing cat) made-listing ∙ shaped;
        })

  -- it is a slice of bytes
  module _ (g : good_catalogue cat ≡ true) where
    cell-bytes : (s : Segment) → Fits cat s → IsBytes (cell_bytes cat s)
    unfolding cell_bytes
    cell-bytes s f =
        bytes-cons s.code.0 (s.bytes ++ replicate (cell_size cat - suc (length s.bytes)) 0) (type-low cat g s.code f.known)
        (bytes-append s.bytes (replicate (cell_size cat - suc (length s.bytes)) 0) f.bytes (bytes-zeros (cell_size cat - suc (length s.bytes))))

    row-bytes : (xs : List Segment) → All (Fits cat) xs → IsBytes (row_bytes cat xs)
    unfolding flat_map
    row-bytes [] a = bytes-none
    row-bytes (s ∷ xs) a = bytes-append (cell_bytes cat s) (row_bytes cat xs) (cell-bytes s a.0) (row-bytes xs a.1)

    head_bytes : length cs < 65536 → IsBytes (0x48 ∷ 0x44 ∷ 0x54 ∷ 0 ∷ 1 ∷ cell_size cat ∷ word_bytes (length cs))
    head_bytes l =
        let hi : length cs / 256 < 256 = (div-lt_iff_lt-mul {k = 256} {x = length cs} {y = 256} (omega arith)).1 l in
        let lo : length cs % 256 < 256 = mod-lt (length cs) (omega arith) in
        bytes-all (0x48 ∷ 0x44 ∷ 0x54 ∷ 0 ∷ 1 ∷ cell_size cat ∷ word_bytes (length cs)) (omega (arith, cell-most cat g))

    pub made_bytes : All (Fits cat) cs → length cs < 65536 → IsBytes made
    unfolding table_bytes
    made_bytes fits l =
        bytes-append (0x48 ∷ 0x44 ∷ 0x54 ∷ 0 ∷ 1 ∷ cell_size cat ∷ word_bytes (length cs)) (row_bytes cat cs ++ free) (head_bytes l)
        (bytes-append (row_bytes cat cs) free (row-bytes cs fits) (bytes-zeros ((m - length cs) * cell_size cat)))
