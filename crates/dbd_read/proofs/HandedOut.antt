-- What the reader hands out: a fault with its line, or the two blocks, written piece by piece to the front of two buffers. Assumes nothing.
use mathlib.Core.Path.{◌≡◌, refl, ap, sym, ◌∙◌}
use mathlib.Core.Bool.{Bool, true, false, ◌&&◌}
use mathlib.Core.List.{[], ◌++◌, append_assoc}
use Prim.Native.Nat.{ℕ, ◌+◌, ◌-◌, ◌*◌, ◌<◌, ◌≤◌, min}
use native.Mathlib.Omega.{arith}
use lib.Dec.{ltb, leb, eqb}
use lib.ListN.{length, take, drop, set, length-append, length-drop, length-set}
use lib.Seq.{sets, sets-eq, take_at, drop_at, drop-drop, set-append_left, length-take-le}
use borrow.Rule.Slice.PartMut.{mid_of}
use borrow.Author.Tests.{ltb-true, ltb-false, le-leb, lt-leb, ne_eqb}
use Rattle.terms.specs.Choice.{pick}
use Rattle.rules.specs.Block.{Bytes, byte, part}
use Rattle.rules.specs.Catalogue.{types, fields}
use Rattle.statements.specs.Draft.{header, rows, catalogue_of, names_of}
use Rattle.statements.specs.Dbd.{Reading, given, dbd_read}
use Rattle.statements.specs.Lent.{onto, high, handed_out, read_into, read_back}
use Rattle.statements.proofs.Rows.{joined-rows, rows-length, part_then}
use Rattle.dbd_draft.specs.declared.Fault.{Fault}
use Rattle.dbd_draft.specs.Kept.{draft_of, fault_of}
use Rattle.dbd_read.specs.Reading.{Wide, Counted}
use Rattle.dbd_read.proofs.LinesRead.{some_fault}

-- a line as 32 bits can tell it: one too great for them is told as their greatest
capped : (n : ℕ) (t : Bool) → ltb 4294967295 n ≡ t → min n 4294967295 ≡ pick t 4294967295 n
capped n true e = omega (arith, ltb-true 4294967295 n e)
capped n false e = omega (arith, ltb-false 4294967295 n e)

pub high-capped : (n m : ℕ) → m ≡ min n 4294967295 → 4294967296 * m ≡ high n
unfolding high
high-capped n m e = ap (λ (k : ℕ). 4294967296 * k) (e ∙ capped n (ltb 4294967295 n) refl)

-- bytes at the front of a buffer, more behind them, and one of them changed
pub onto-first : (c x : Bytes) → length x ≤ length c → sets c 0 x ≡ onto x c
unfolding onto
onto-first c x h = let z : 0 + length x ≡ length x = omega arith in sets-eq x c 0 (omega arith) ∙ rw z

length-onto : (c x : Bytes) → length x ≤ length c → length (onto x c) ≡ length c
unfolding onto
length-onto c x h = length-append x (drop (length x) c) ∙ simp length-drop (omega arith)

pub onto-more : (c x y : Bytes) (k : ℕ) → length x ≡ k → k + length y ≤ length c → sets (onto x c) k y ≡ onto (x ++ y) c
unfolding onto
onto-more c x y k e h =
    let l : length (x ++ drop (length x) c) ≡ length c = length-onto c x (omega arith) in
    let n : length (x ++ y) ≡ k + length y = length-append x y ∙ ap (λ (m : ℕ). m + length y) e in
    let f : take k (x ++ drop (length x) c) ≡ x = take_at x (drop (length x) c) k e in
    let g : drop (k + length y) (x ++ drop (length x) c) ≡ drop (length (x ++ y)) c =
    sym (drop-drop (length y) k (x ++ drop (length x) c)) ∙ ap (drop (length y)) (drop_at x (drop (length x) c) k e)
    ∙ drop-drop (length y) (length x) c ∙ ap (λ (m : ℕ). drop m c) (sym (length-append x y)) in
    sets-eq y (x ++ drop (length x) c) k (omega arith)
    ∙ ap (λ (t : Bytes). t ++ y ++ drop (k + length y) (x ++ drop (length x) c)) f ∙ ap (λ (t : Bytes). x ++ y ++ t) g

pub onto-set : (c x : Bytes) (i v : ℕ) → i < length x → set (onto x c) i v ≡ onto (set x i v) c
unfolding onto
onto-set c x i v h = set-append_left x (drop (length x) c) i v h ∙ ap (λ (k : ℕ). set x i v ++ drop k c) (sym (length-set x i v))

-- R80: the three answers, by their tests
out-fault : (r : Reading) (cat names : Bytes) → eqb r.fault 0 ≡ false → read_back (r.fault + high r.line) cat names ≡ handed_out r cat names
unfolding handed_out
out-fault r cat names e = rw (handed_out, e)

out-short : (r : Reading) (cat names : Bytes) → eqb r.fault 0 ≡ true
    → (leb (length r.catalogue) (length cat) && leb (length r.names) (length names)) ≡ false → read_back 28 cat names ≡ handed_out r cat names
unfolding handed_out
out-short r cat names e f = rw (handed_out, e, f)

out-whole : (r : Reading) (cat names : Bytes) → eqb r.fault 0 ≡ true
    → (leb (length r.catalogue) (length cat) && leb (length r.names) (length names)) ≡ true
    → read_back (256 * r.types + 65536 * r.fields) (onto r.catalogue cat) (onto r.names names) ≡ handed_out r cat names
unfolding handed_out
out-whole r cat names e f = rw (handed_out, e, f)

-- R80: a fault
pub fault-out : (f : Fault) (n r : ℕ) (cat names : Bytes) (a : Reading)
    → record { fault = fault_of f; line = n; types = 0; fields = 0; catalogue = []; names = [] } ≡ a → r ≡ fault_of f + high n
    → read_back r cat names ≡ handed_out a cat names
fault-out f n r cat names a e g =
    let x : Reading = record { fault = fault_of f; line = n; types = 0; fields = 0; catalogue = []; names = [] } in
    ap (λ (m : ℕ). read_back m cat names) g ∙ out-fault x cat names (ne_eqb (fault_of f) 0 (λ z. omega (arith, some_fault f)))
    ∙ ap (λ (y : Reading). handed_out y cat names) e

-- a draft that is wide enough, as the two blocks: pieces of its array
module _ (b : Bytes) (w : Wide b) where
  pub part-long : (i n : ℕ) → i + n ≤ 1296 → length (part b i n) ≡ n
  part-long i n h = length-take-le n (drop i b) (simp length-drop (omega (arith, w.long)))

  front-is : part b 0 (8 + 8 * types b) ≡ header 0x43 (types b) (fields b) ++ part b 8 (8 * types b)
  front-is = sym (part_then b 0 8 (8 * types b)) ∙ ap (λ (t : Bytes). t ++ part b 8 (8 * types b)) w.headed

  pub catalogue-is : catalogue_of (draft_of b) ≡ part b 0 (8 + 8 * types b) ++ part b 264 (4 * fields b)
  unfolding catalogue_of draft_of
  catalogue-is =
      rw (rows-length 8 b 8 (types b), rows-length 4 b 264 (fields b), joined-rows 8 b 8 (types b), joined-rows 4 b 264 (fields b))
      (ap (λ (t : Bytes). t ++ part b 264 (4 * fields b)) (sym front-is))

  base-is : pick (eqb (byte b 520) 0) [] (part b 520 8) ≡ part b 520 8
  base-is = rw (ne_eqb (byte b 520) 0 (λ e. omega (arith, w.based)))

  pub names-is : names_of (draft_of b) ≡ header 0x4E (types b) (fields b) ++ part b 520 (8 + 8 * types b) ++ part b 784 (8 * fields b)
  unfolding names_of draft_of
  names-is =
      rw (rows-length 8 b 8 (types b), rows-length 4 b 264 (fields b), joined-rows 8 b 528 (types b), joined-rows 8 b 784 (fields b), base-is)
      (ap (λ (t : Bytes). t ++ part b 784 (8 * fields b))
      (append_assoc (header 0x4E (types b) (fields b)) (part b 520 8) (part b 528 (8 * types b))
      ∙ ap (λ (t : Bytes). header 0x4E (types b) (fields b) ++ t) (part_then b 520 8 (8 * types b))))

  pub catalogue-long : length (catalogue_of (draft_of b)) ≡ 8 + 8 * types b + 4 * fields b
  catalogue-long =
      ap length catalogue-is ∙ length-append (part b 0 (8 + 8 * types b)) (part b 264 (4 * fields b))
      ∙ rw (part-long 0 (8 + 8 * types b) (omega (arith, w.few)), part-long 264 (4 * fields b) (omega (arith, w.few_fields)))

  header-long : (l t f : ℕ) → length (header l t f) ≡ 8
  unfolding header
  header-long l t f = refl

  pub names-long : length (names_of (draft_of b)) ≡ 8 + (8 + 8 * types b) + 8 * fields b
  names-long =
      ap length names-is ∙ length-append (header 0x4E (types b) (fields b) ++ part b 520 (8 + 8 * types b)) (part b 784 (8 * fields b))
      ∙ ap (λ (k : ℕ). k + length (part b 784 (8 * fields b))) (length-append (header 0x4E (types b) (fields b)) (part b 520 (8 + 8 * types b)))
      ∙ rw (
        header-long 0x4E (types b) (fields b),
        part-long 520 (8 + 8 * types b) (omega (arith, w.few)),
        part-long 784 (8 * fields b) (omega (arith, w.few_fields)),
      )

  -- the two writes of the one, and the four of the other
  module _ (cat c d : Bytes) (room : 8 + 8 * types b + 4 * fields b ≤ length cat) where
    pub catalogue-written : c ≡ sets cat 0 (part b 0 (8 + 8 * types b)) → d ≡ sets c (8 + 8 * types b) (part b 264 (4 * fields b))
        → d ≡ onto (catalogue_of (draft_of b)) cat
    catalogue-written e f =
        let l : length (part b 0 (8 + 8 * types b)) ≡ 8 + 8 * types b = part-long 0 (8 + 8 * types b) (omega (arith, w.few)) in
        let m : length (part b 264 (4 * fields b)) ≡ 4 * fields b = part-long 264 (4 * fields b) (omega (arith, w.few_fields)) in
        f ∙ ap (λ (t : Bytes). sets t (8 + 8 * types b) (part b 264 (4 * fields b))) (e ∙ onto-first cat (part b 0 (8 + 8 * types b)) (omega arith))
        ∙ onto-more cat (part b 0 (8 + 8 * types b)) (part b 264 (4 * fields b)) (8 + 8 * types b) l (omega arith)
        ∙ ap (λ (t : Bytes). onto t cat) (sym catalogue-is)

  renamed : set (part b 0 8) 2 0x4E ≡ header 0x4E (types b) (fields b)
  unfolding header
  renamed = ap (λ (t : Bytes). set t 2 0x4E) w.headed

  module _ (names c d e : Bytes) (room : 8 + (8 + 8 * types b) + 8 * fields b ≤ length names) where
    pub names-written : c ≡ sets names 0 (part b 0 8) → d ≡ sets (set c 2 0x4E) 8 (part b 520 (8 + 8 * types b))
        → e ≡ sets d (8 + (8 + 8 * types b)) (part b 784 (8 * fields b)) → e ≡ onto (names_of (draft_of b)) names
    names-written f g h =
        let k : length (part b 0 8) ≡ 8 = part-long 0 8 (omega arith) in
        let l : length (part b 520 (8 + 8 * types b)) ≡ 8 + 8 * types b = part-long 520 (8 + 8 * types b) (omega (arith, w.few)) in
        let m : length (part b 784 (8 * fields b)) ≡ 8 * fields b = part-long 784 (8 * fields b) (omega (arith, w.few_fields)) in
        let n : length (header 0x4E (types b) (fields b)) ≡ 8 = header-long 0x4E (types b) (fields b) in
        let x : length (header 0x4E (types b) (fields b) ++ part b 520 (8 + 8 * types b)) ≡ 8 + (8 + 8 * types b) =
        length-append (header 0x4E (types b) (fields b)) (part b 520 (8 + 8 * types b)) ∙ rw (n, l) in
        let y : set c 2 0x4E ≡ onto (header 0x4E (types b) (fields b)) names =
        ap (λ (t : Bytes). set t 2 0x4E) (f ∙ onto-first names (part b 0 8) (omega arith))
        ∙ onto-set names (part b 0 8) 2 0x4E (omega arith) ∙ ap (λ (t : Bytes). onto t names) renamed in
        let z : d ≡ onto (header 0x4E (types b) (fields b) ++ part b 520 (8 + 8 * types b)) names =
        g ∙ ap (λ (t : Bytes). sets t 8 (part b 520 (8 + 8 * types b))) y
        ∙ onto-more names (header 0x4E (types b) (fields b)) (part b 520 (8 + 8 * types b)) 8 n (omega arith) in
        h ∙ ap (λ (t : Bytes). sets t (8 + (8 + 8 * types b)) (part b 784 (8 * fields b))) z
        ∙ onto-more names (header 0x4E (types b) (fields b) ++ part b 520 (8 + 8 * types b)) (part b 784 (8 * fields b)) (8 + (8 + 8 * types b)) x (omega arith)
        ∙ ap (λ (t : Bytes). onto t names) (sym names-is)

  -- R80: no room for the one, none for the other, and room for both
  module _ (cat names : Bytes) where
    pub no_room : length cat < 8 + 8 * types b + 4 * fields b → read_back 28 cat names ≡ handed_out (given (draft_of b)) cat names
    unfolding given
    no_room h =
        let e : leb (length (catalogue_of (draft_of b))) (length cat) ≡ false =
        lt-leb (length (catalogue_of (draft_of b))) (length cat) (omega (arith, catalogue-long)) in
        out-short (given (draft_of b)) cat names refl (ap (λ (t : Bool). t && leb (length (names_of (draft_of b))) (length names)) e)

    module _ (room : 8 + 8 * types b + 4 * fields b ≤ length cat) where
      fits_cat : leb (length (catalogue_of (draft_of b))) (length cat) ≡ true
      fits_cat = le-leb (length (catalogue_of (draft_of b))) (length cat) (omega (arith, catalogue-long))

      tests : (x : Bool) → leb (length (names_of (draft_of b))) (length names) ≡ x
          → (leb (length (catalogue_of (draft_of b))) (length cat) && leb (length (names_of (draft_of b))) (length names)) ≡ x
      tests x e = ap (λ (t : Bool). t && leb (length (names_of (draft_of b))) (length names)) fits_cat ∙ e

      pub no-room-names : length names < 8 + (8 + 8 * types b) + 8 * fields b → read_back 28 cat names ≡ handed_out (given (draft_of b)) cat names
      unfolding given
      no-room-names h =
          out-short (given (draft_of b)) cat names refl (tests false (lt-leb (length (names_of (draft_of b))) (length names) (omega (arith, names-long))))

      counted : (256 * length (rows 8 b 8 (types b)) + 65536 * length (rows 4 b 264 (fields b))) ≡ 256 * types b + 65536 * fields b
      counted = rw (rows-length 8 b 8 (types b), rows-length 4 b 264 (fields b))

      pub both_out : 8 + (8 + 8 * types b) + 8 * fields b ≤ length names → (c d : Bytes)
          → c ≡ onto (catalogue_of (draft_of b)) cat → d ≡ onto (names_of (draft_of b)) names
          → read_back (256 * types b + 65536 * fields b) c d ≡ handed_out (given (draft_of b)) cat names
      unfolding given draft_of
      both_out h c d e f =
          let n : ℕ = 256 * length (rows 8 b 8 (types b)) + 65536 * length (rows 4 b 264 (fields b)) in
          ap (λ (m : ℕ). read_back m c d) (sym counted)
          ∙ ap (λ (t : Bytes). read_back n t d) e
          ∙ ap (λ (t : Bytes). read_back n (onto (catalogue_of (draft_of b)) cat) t) f
          ∙ out-whole (given (draft_of b)) cat names refl (tests true (le-leb (length (names_of (draft_of b))) (length names) (omega (arith, names-long))))

pub counted-by : (b : Bytes) (top last : ℕ) → Wide b → top ≡ byte b 5 → last ≡ byte b 6 → Counted b top last
unfolding types fields
counted-by b top last w e f = record { fits = w; types = e; fields = f }

-- the pieces as the code takes them, T and F being numbers there
module _ (b : Bytes) (top last : ℕ) (k : Counted b top last) where
  pub top-few : top ≤ 32
  top-few = omega (arith, k.types, k.fits.few)

  pub last-few : last ≤ 64
  last-few = omega (arith, k.fields, k.fits.few_fields)

  pub catalogue-put : (cat c d : Bytes) → 8 + 8 * top + 4 * last ≤ length cat → c ≡ sets cat 0 (take (8 + 8 * top) b)
      → d ≡ sets c (8 + 8 * top) (mid_of 264 (264 + 4 * last - 264) b) → d ≡ onto (catalogue_of (draft_of b)) cat
  catalogue-put cat c d room e f =
      let z : 264 + 4 * last - 264 ≡ 4 * last = omega arith in
      catalogue-written b k.fits cat c d (omega (arith, k.types, k.fields)) (rw k.types at e) (rw (z, k.types, k.fields) at f)

  pub names-put : (names c d e : Bytes) → 16 + 8 * top + 8 * last ≤ length names → c ≡ sets names 0 (take 8 b)
      → d ≡ sets (set c 2 0x4E) 8 (mid_of 520 (528 + 8 * top - 520) b) → e ≡ sets d (16 + 8 * top) (mid_of 784 (784 + 8 * last - 784) b)
      → e ≡ onto (names_of (draft_of b)) names
  names-put names c d e room f g h =
      let x : 528 + 8 * top - 520 ≡ 8 + 8 * top = omega arith in
      let y : 16 + 8 * top ≡ 8 + (8 + 8 * top) = omega arith in
      let z : 784 + 8 * last - 784 ≡ 8 * last = omega arith in
      names-written b k.fits names c d e (omega (arith, k.types, k.fields)) f (rw (x, k.types) at g) (rw (y, z, k.types, k.fields) at h)

  -- R80, by these numbers
  module _ (cat names : Bytes) where
    pub out-no-room : length cat < 8 + 8 * top + 4 * last → read_back 28 cat names ≡ handed_out (given (draft_of b)) cat names
    out-no-room h = no_room b k.fits cat names (omega (arith, k.types, k.fields))

    module _ (room : 8 + 8 * top + 4 * last ≤ length cat) where
      pub out-no-names : length names < 16 + 8 * top + 8 * last → read_back 28 cat names ≡ handed_out (given (draft_of b)) cat names
      out-no-names h = no-room-names b k.fits cat names (omega (arith, k.types, k.fields)) (omega (arith, k.types, k.fields))

      pub out_both : 16 + 8 * top + 8 * last ≤ length names → (c d : Bytes) → c ≡ onto (catalogue_of (draft_of b)) cat → d ≡ onto (names_of (draft_of b)) names
          → read_back (256 * top + 65536 * last) c d ≡ handed_out (given (draft_of b)) cat names
      out_both h c d e f =
          rw (k.types, k.fields) (both_out b k.fits cat names (omega (arith, k.types, k.fields)) (omega (arith, k.types, k.fields)) c d e f)

-- what is handed out of a text's reading is the answer
pub read-into : (text cat names : Bytes) (a : Reading) → a ≡ dbd_read text → handed_out a cat names ≡ read_into text cat names
unfolding read_into
read-into text cat names a e = ap (λ (r : Reading). handed_out r cat names) e
