-- What holds of a block and a list that the reader could have given (R82), as facts. Assumes nothing.
use mathlib.Core.Path.{◌≡◌, sym, ◌∙◌}
use mathlib.Core.Bool.{Bool, true, false, ◌&&◌, ◌||◌}
use Prim.Native.Nat.{ℕ, suc, ◌+◌, ◌-◌, ◌*◌, ◌<◌, ◌≤◌}
use native.Mathlib.Omega.{arith}
use lib.Dec.{ltb, leb, eqb}
use borrow.Author.Tests.{eqb-true, leb-true, ltb-true, ne_eqb}
use lib.ListN.{length, take}
use Rattle.terms.specs.Names.{code, field}
use Rattle.forest.specs.Good.{on, off, is}
use Rattle.rules.specs.Block.{Bytes, byte, word, part, zeros, marked}
use Rattle.rules.specs.Catalogue.{types, fields, field_byte, field_type, key_kind, good_field, good_header, good_catalogue}
use Rattle.rules.proofs.Every.{every-at}
use Rattle.rules.proofs.Joined.{two, three, six, seven}
use Rattle.statements.specs.Draft.{header, rows, own_names}
use Rattle.statements.specs.Dbd.{name_at, good_name, distinct, is_plain, good_names, differ, ascending, key_field, keys_listed, could_give}
use Rattle.statements.proofs.Words.{clash}
use Rattle.dbd_laws.proofs.AgainBlock.{header-bytes}

pub record Facts (c n : Bytes) : Type 0 where
  pub good : good_catalogue c ≡ true
  pub head : take 8 c ≡ header 0x43 (types c) (fields c)
  pub field-good : (f : ℕ) → 1 ≤ f → f ≤ fields c → good_field c f ≡ true
  pub type-zeros : (k : ℕ) → 1 ≤ k → k ≤ types c → zeros (part c (8 * k + 5) 3) ≡ true
  pub field-zero : (f : ℕ) → 1 ≤ f → f ≤ fields c → field_byte c (field f) 3 ≡ 0
  pub names-long : length n ≡ 16 + 8 * types c + 8 * fields c
  pub names-head : take 8 n ≡ header 0x4E (types c) (fields c)
  pub name : (i : ℕ) → i < 1 + types c + fields c → good_name (name_at n i) ≡ true
  pub segments-differ : distinct (rows 8 n 16 (types c)) ≡ true
  pub fields-differ : (k : ℕ) → 1 ≤ k → k ≤ types c
      → distinct (own_names k (rows 4 c (8 + 8 * types c) (fields c)) (rows 8 n (16 + 8 * types c) (fields c))) ≡ true
  pub ascends : (f : ℕ) → 1 ≤ f → f < fields c → (field_type c (field f)).0 ≤ (field_type c (field (suc f))).0
  pub listed : (k : ℕ) → 1 ≤ k → k ≤ types c → (key_kind c (code k) ≡ 0 → ⊥) → 0 < key_field c k

module _ (c n : Bytes) where
  could-on : (good_catalogue c && is_plain c && good_names c n) ≡ true → could_give c n ≡ (differ c n && ascending c && keys_listed c)
  unfolding could_give
  could-on h = rw (could_give, h)

  could-off : (good_catalogue c && is_plain c && good_names c n) ≡ false → could_give c n ≡ false
  unfolding could_give
  could-off h = rw (could_give, h)

  record Tests : Type 0 where
    good : good_catalogue c ≡ true
    plain : is_plain c ≡ true
    names : good_names c n ≡ true
    apart : differ c n ≡ true
    rising : ascending c ≡ true
    keys : keys_listed c ≡ true

  tests-of : could_give c n ≡ true → Tests
  tests-of g = elim (is (good_catalogue c && is_plain c && good_names c n)) [
    | on h ↦
        let p = three (good_catalogue c) (is_plain c) (good_names c n) h in
        let q = three (differ c n) (ascending c) (keys_listed c) (sym (could-on h) ∙ g) in
        record { good = p.0; plain = p.1; names = p.2; apart = q.0; rising = q.1; keys = q.2 }
    | off h ↦ clash (sym (could-off h) ∙ g)
  ]

  head_of : good_catalogue c ≡ true → take 8 c ≡ header 0x43 (types c) (fields c)
  unfolding good_catalogue good_header types fields
  head_of g =
      let p = three (good_header c) _ _ g in
      let q = seven (leb 8 (length c)) (marked 0x43 c) _ _ _ (eqb (byte c 7) 0) _ p.0 in
      header-bytes 0x43 c (leb-true 8 (length c) q.0) q.1 (eqb-true (byte c 7) 0 q.5)

  field-good-of : good_catalogue c ≡ true → (f : ℕ) → 1 ≤ f → f ≤ fields c → good_field c f ≡ true
  unfolding good_catalogue
  field-good-of g f a b =
      let p = three (good_header c) _ _ g in
      every-at (good_field c) 1 (fields c) f p.2 a (omega arith)

  zeros_of : is_plain c ≡ true → ((k : ℕ) → 1 ≤ k → k ≤ types c → zeros (part c (8 * k + 5) 3) ≡ true)
      × ((f : ℕ) → 1 ≤ f → f ≤ fields c → field_byte c (field f) 3 ≡ 0)
  unfolding is_plain
  zeros_of e =
      let p = three (eqb (word c 3) 1) _ _ e in (
        λ k a b. every-at (λ x. zeros (part c (8 * x + 5) 3)) 1 (types c) k p.1 a (omega arith),
        λ f a b. eqb-true (field_byte c (field f) 3) 0 (every-at (λ x. eqb (field_byte c (field x) 3) 0) 1 (fields c) f p.2 a (omega arith)),
      )

  record Named : Type 0 where
    long : length n ≡ 16 + 8 * types c + 8 * fields c
    top : take 8 n ≡ header 0x4E (types c) (fields c)
    each : (i : ℕ) → i < 1 + types c + fields c → good_name (name_at n i) ≡ true

  named-of : good_names c n ≡ true → Named
  unfolding good_names
  named-of e =
      let p = six (eqb (length n) (16 + 8 * types c + 8 * fields c)) (marked 0x4E n) (eqb (byte n 5) (types c)) (eqb (byte n 6) (fields c))
      (eqb (byte n 7) 0) _ e in
      let l : length n ≡ 16 + 8 * types c + 8 * fields c = eqb-true (length n) (16 + 8 * types c + 8 * fields c) p.0 in
      let t : byte n 5 ≡ types c = eqb-true (byte n 5) (types c) p.2 in
      let f : byte n 6 ≡ fields c = eqb-true (byte n 6) (fields c) p.3 in
      record {
        long = l;
        top = header-bytes 0x4E n (omega arith) p.1 (eqb-true (byte n 7) 0 p.4) ∙ rw (t, f);
        each = λ i b. every-at (λ x. good_name (name_at n x)) 0 (1 + types c + fields c) i p.5 (omega arith) (omega arith);
      }

  or-second : (a b : Bool) → (a || b) ≡ true → a ≡ false → b ≡ true
  or-second true b e f = clash (sym f)
  or-second false b e f = e

  pub facts-of : could_give c n ≡ true → Facts c n
  unfolding differ ascending keys_listed
  facts-of g =
      let t = tests-of g in
      let w = named-of t.names in
      let z = zeros_of t.plain in
      record {
        good = t.good;
        head = head_of t.good;
        field-good = field-good-of t.good;
        type-zeros = z.0;
        field-zero = z.1;
        names-long = w.long;
        names-head = w.top;
        name = w.each;
        segments-differ = (two (distinct (rows 8 n 16 (types c))) _ t.apart).0;
        fields-differ = λ k a b. every-at (λ x. distinct (own_names x (rows 4 c (8 + 8 * types c) (fields c)) (rows 8 n (16 + 8 * types c) (fields c))))
            1 (types c) k (two (distinct (rows 8 n 16 (types c))) _ t.apart).1 a (omega arith);
        ascends = λ f a b. leb-true (field_type c (field f)).0 (field_type c (field (suc f))).0
            (every-at (λ x. leb (field_type c (field x)).0 (field_type c (field (suc x))).0) 1 (fields c - 1) f t.rising a (omega arith));
        listed = λ k a b h. ltb-true 0 (key_field c k)
            (or-second (eqb (key_kind c (code k)) 0) (ltb 0 (key_field c k))
            (every-at (λ x. eqb (key_kind c (code x)) 0 || ltb 0 (key_field c x)) 1 (types c) k t.keys a (omega arith)) (ne_eqb (key_kind c (code k)) 0 h));
      }
