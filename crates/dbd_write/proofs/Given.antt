-- What the writer's checks give it, and its three answers (R82, R83). Assumes nothing.
use Rattle.std.specs.Prelude.{Some}
use mathlib.Core.Path.{◌≡◌, refl, ap, sym, ◌∙◌}
use mathlib.Core.Bool.{true, false, ◌&&◌}
use mathlib.Core.List.{[], ◌∷◌, ◌++◌, map}
use Prim.Native.Nat.{ℕ, ◌+◌, ◌*◌, ◌<◌, ◌≤◌}
use native.Mathlib.Nat.{zero-add}
use native.Mathlib.Omega.{arith}
use lib.Dec.{eqb}
use lib.ListN.{length, drop}
use lib.Seq.{sets, sets-eq}
use borrow.Author.Tests.{lt-leb, le-leb, le-ltb, eqb-true}
use borrow.Rule.Slice.PartMut.{mid_of, put_mid}
use Rattle.forest.specs.Good.{on, off, is}
use Rattle.forest.specs.Numbers.{range}
use Rattle.forest.specs.Types as Types
use Rattle.rules.specs.Block.{Bytes, byte, every, marked}
use Rattle.rules.specs.Catalogue.{types, fields, good_type, good_field, good_header, good_catalogue}
use Rattle.rules.proofs.Joined.{three, six}
use Rattle.rules.proofs.Entries.{HeaderFacts, header_of}
use Rattle.rules.proofs.Catalogue.{par, good-lower}
use Rattle.statements.specs.Lines.{text_of}
use Rattle.statements.specs.Dbd.{spelled, name_at, good_name, is_plain, good_names, could_give, statements, dbd_write}
use Rattle.statements.specs.Lent.{onto, high, text_into, write_into, written_back}
use Rattle.dbd_write.specs.Wrote.{Wrote, Fit, Lower}

module _ (cat names : Bytes) where
  could-checks : could_give cat names ≡ true → (good_catalogue cat && is_plain cat && good_names cat names) ≡ true
  unfolding could_give
  could-checks g = elim (is (good_catalogue cat && is_plain cat && good_names cat names)) [
    | on e ↦ e
    | off e ↦ e ∙ (rw (could_give, e) at g)
  ]

  names-long : good_names cat names ≡ true → length names ≡ 16 + 8 * types cat + 8 * fields cat
  unfolding good_names
  names-long g =
      let q = six (eqb (length names) (16 + 8 * types cat + 8 * fields cat)) (marked 0x4E names) (eqb (byte names 5) (types cat))
      (eqb (byte names 6) (fields cat)) (eqb (byte names 7) 0) (every (λ i. good_name (name_at names i)) (range 0 (1 + types cat + fields cat))) g in
      eqb-true (length names) (16 + 8 * types cat + 8 * fields cat) q.0

  good-header : good_catalogue cat ≡ true → HeaderFacts cat
  unfolding good_catalogue
  good-header g = header_of cat (three (good_header cat) (every (good_type cat) (range 1 (types cat))) (every (good_field cat) (range 1 (fields cat))) g).0

  pub given-fit : could_give cat names ≡ true → Fit cat names
  given-fit g =
      let q = three (good_catalogue cat) (is_plain cat) (good_names cat names) (could-checks g) in
      let h : HeaderFacts cat = good-header q.0 in
      record { few = h.types-most; few_fields = h.fields-most; long = names-long q.2 }

  -- R7: a parent comes before its child
  pub given-lower : could_give cat names ≡ true → Lower cat
  given-lower g = λ k a b.
      let q = three (good_catalogue cat) (is_plain cat) (good_names cat names) (could-checks g) in
      omega (arith, Types.lower-at (par cat) (types cat) k (good-lower cat q.0) a b)

-- what is written nowhere leaves everything as it was
pub lent_none : (text y : Bytes) → length y ≡ length (mid_of 0 0 text) → put_mid 0 0 text y ≡ text
lent_none text [] e = refl
lent_none text (x ∷ y) e = absurd (omega arith)

-- the answers: CX, AB, and the text with its length
module _ (cat names text : Bytes) where
  abbrev whole : Bytes
  whole = text_of (map spelled (statements cat names))

  pub answer-none : could_give cat names ≡ false → written_back 20 text ≡ write_into cat names text
  unfolding write_into dbd_write text_into
  answer-none e = rw (dbd_write, e)

  some-text : could_give cat names ≡ true → write_into cat names text ≡ text_into (Some whole) text
  unfolding write_into dbd_write
  some-text e = rw (dbd_write, e)

  pub answer-short : (n : ℕ) (t : Bytes) → could_give cat names ≡ true → n ≡ 0 + length whole → t ≡ text → length t < n
      → written_back 28 t ≡ write_into cat names text
  unfolding text_into
  answer-short n t g p e h =
      let l : length text < length whole = omega (arith, ap length e) in
      let z : text_into (Some whole) text ≡ written_back 28 text = rw (text_into, lt-leb (length whole) (length text) l) in
      ap (written_back 28) e ∙ sym z ∙ sym (some-text g)

  pub answer-text : (n m : ℕ) (t u : Bytes) → could_give cat names ≡ true → n ≡ 0 + length whole → n < 200000 → t ≡ text → n ≤ length t
      → Wrote 0 whole t m u → written_back (4294967296 * n) u ≡ write_into cat names text
  unfolding text_into onto high
  answer-text n m t u g p s e h w =
      let l : length whole ≤ length text = omega (arith, ap length e) in
      let q : n ≡ length whole = omega arith in
      let y : u ≡ whole ++ drop (length whole) text =
      w.bytes (omega (arith, w.place)) ∙ ap (λ (b : Bytes). sets b 0 whole) e ∙ sets-eq whole text 0 (omega arith) ∙ rw zero-add in
      let x : 4294967296 * n ≡ high (length whole) = ap (λ (k : ℕ). 4294967296 * k) q ∙ rw (le-ltb 4294967295 (length whole) (omega arith)) in
      let z : text_into (Some whole) text ≡ written_back (high (length whole)) (onto whole text) = rw (text_into, le-leb (length whole) (length text) l) in
      ap (λ (b : Bytes). written_back (4294967296 * n) b) y ∙ ap (λ (k : ℕ). written_back k (onto whole text)) x ∙ sym z ∙ sym (some-text g)
