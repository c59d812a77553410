-- The ways through one statement that have no fault (R78), and the entry of a type before and behind its key. Assumes nothing.
use mathlib.Core.Path.{◌≡◌, refl, ap, sym, ◌∙◌}
use mathlib.Core.Bool.{Bool, true, false, ◌&&◌, not}
use mathlib.Core.List.{[], ◌∷◌}
use Prim.Native.Nat.{ℕ, zero, suc, ◌+◌, ◌*◌, ◌<◌, ◌≤◌}
use native.Mathlib.Omega.{arith}
use lib.Dec.{ltb, leb, eqb}
use borrow.Author.Tests.{le-leb, eqb-true}
use lib.ListN.{length, take}
use Rattle.terms.specs.Choice.{pick}
use Rattle.terms.specs.Names.{code}
use Rattle.rules.specs.Block.{Bytes, byte, part, every, zeros, same_bytes}
use Rattle.rules.specs.Catalogue.{types, type_byte, key_kind, key_start, key_length, good_type, good_field}
use Rattle.rules.proofs.Entries.{header-facts}
use Rattle.statements.specs.Words.{filled}
use Rattle.statements.specs.Statement.{segm, field, no_parent}
use Rattle.statements.specs.Draft.{Draft, catalogue_of, place_of, has, own_names, with_type, with_field, goes, ruled_type, ruled_field, begun, is_keyed, taken}
use Rattle.statements.specs.Dbd.{key_field}
use Rattle.statements.proofs.Words.{every_in, every-head, every-tail}
use Rattle.dbd_laws.proofs.AgainBlock.{part-eight, part-byte}
use Rattle.dbd_laws.proofs.AgainFacts.{Facts}

-- the ways through that have no fault
pub taken-segm : (d : Draft) (n p : Bytes) (l : ℕ) → begun d ≡ true → (same_bytes p no_parent && ltb 0 (length d.types)) ≡ false
    → has (filled n) d.segment_names ≡ false → (not (same_bytes p no_parent) && eqb (place_of (filled p) d.segment_names) 0) ≡ false
    → taken d (segm n p l) ≡ ruled_type (with_type d (filled n) (place_of (filled p) d.segment_names) l)
unfolding taken
taken-segm d n p l a b e f = rw (taken, a, b, e, f)

pub taken-field : (d : Draft) (n : Bytes) (k l s : ℕ) → eqb (length d.types) 0 ≡ false → (ltb 0 k && is_keyed d) ≡ false
    → has (filled n) (own_names (length d.types) d.fields d.field_names) ≡ false
    → taken d (field n k l s) ≡ ruled_field (with_field d (filled n) k l s)
unfolding taken
taken-field d n k l s a b e = rw (taken, a, b, e)

pub ruled-type : (d : Draft) → length d.types ≤ 32 → good_type (catalogue_of d) (length d.types) ≡ true → ruled_type d ≡ goes d
unfolding ruled_type
ruled-type d l g = rw (le-leb (length d.types) 32 l, g)

pub ruled-field : (d : Draft) → length d.fields ≤ 64 → good_field (catalogue_of d) (length d.fields) ≡ true → ruled_field d ≡ goes d
unfolding ruled_field
ruled-field d l g = rw (le-leb (length d.fields) 64 l, g)

pub and_right : (a b : Bool) → b ≡ false → (a && b) ≡ false
and_right true b e = e
and_right false b e = refl

pub and_left : (a b : Bool) → a ≡ false → (a && b) ≡ false
and_left a b e = rw e

-- zeros, byte by byte
pub zeros-take : (n : ℕ) (xs : Bytes) → ((j : ℕ) → j < n → byte xs j ≡ 0) → zeros (take n xs) ≡ true
unfolding zeros every
zeros-take zero xs h = refl
zeros-take (suc n) [] h = refl
zeros-take (suc n) (x ∷ xs) h =
    let z : x ≡ 0 = h 0 (omega arith) in
    every_in (λ y. eqb y 0) x (take n xs) (rw z) ∙ zeros-take n xs (λ j l. h (suc j) (omega arith))

zeros-byte : (xs : Bytes) (j : ℕ) → zeros xs ≡ true → byte xs j ≡ 0
unfolding zeros
zeros-byte [] j e = refl
zeros-byte (x ∷ xs) zero e = eqb-true x 0 (every-head (λ y. eqb y 0) x xs e)
zeros-byte (x ∷ xs) (suc j) e = zeros-byte xs j (every-tail (λ y. eqb y 0) x xs e)

module _ (c n : Bytes) where
  -- the entry of type k + 1 behind its SEGM, and with its key
  abbrev pub opened : ℕ → Bytes
  opened k = type_byte c (code (suc k)) 0 ∷ type_byte c (code (suc k)) 1 ∷ 0 ∷ 0 ∷ 0 ∷ 0 ∷ 0 ∷ 0 ∷ []

  abbrev pub keyed : ℕ → Bytes
  keyed k =
      type_byte c (code (suc k)) 0 ∷ type_byte c (code (suc k)) 1 ∷ key_kind c (code (suc k)) ∷ key_start c (code (suc k)) ∷ key_length c (code (suc k))
      ∷ 0 ∷ 0 ∷ 0 ∷ []

  -- and with fields up to m
  abbrev pub entry_at : ℕ → ℕ → Bytes
  entry_at k m = pick (leb (key_field c (suc k)) m) (keyed k) (opened k)

  pub entry-long : (k m : ℕ) → length (entry_at k m) ≡ 8
  entry-long k m = long (leb (key_field c (suc k)) m)
    where
      long : (b : Bool) → length (pick b (keyed k) (opened k)) ≡ 8
      long true = refl
      long false = refl

  pub entry_length : (k m : ℕ) → byte (entry_at k m) 1 ≡ type_byte c (code (suc k)) 1
  entry_length k m = same (leb (key_field c (suc k)) m)
    where
      same : (b : Bool) → byte (pick b (keyed k) (opened k)) 1 ≡ type_byte c (code (suc k)) 1
      same true = refl
      same false = refl

  module _ (facts : Facts c n) where
    pub types-size : (k : ℕ) → k < types c → 8 * suc k + 8 ≤ length c
    types-size k l = let h = header-facts c facts.good in omega arith

    type-zero : (k j : ℕ) → k < types c → j < 3 → byte c (8 * suc k + 5 + j) ≡ 0
    type-zero k j l m =
        sym (part-byte c (8 * suc k + 5) 3 j m) ∙ zeros-byte (part c (8 * suc k + 5) 3) j (facts.type-zeros (suc k) (omega arith) (omega arith))

    -- with its key the entry is the block's own
    pub keyed-whole : (k : ℕ) → k < types c → keyed k ≡ part c (8 + 8 * k) 8
    unfolding type_byte key_kind key_start key_length
    keyed-whole k l =
        let z : 8 * suc k ≡ 8 + 8 * k = omega arith in
        let a : byte c (8 * suc k + 5) ≡ 0 = (let y : 8 * suc k + 5 + 0 ≡ 8 * suc k + 5 = omega arith in rw y at (type-zero k 0 l (omega arith))) in
        let b : byte c (8 * suc k + 6) ≡ 0 = (let y : 8 * suc k + 5 + 1 ≡ 8 * suc k + 6 = omega arith in rw y at (type-zero k 1 l (omega arith))) in
        let d : byte c (8 * suc k + 7) ≡ 0 = (let y : 8 * suc k + 5 + 2 ≡ 8 * suc k + 7 = omega arith in rw y at (type-zero k 2 l (omega arith))) in
        sym (part-eight c (8 * suc k) (types-size k l) ∙ rw (a, b, d)) ∙ ap (λ (x : ℕ). part c x 8) z
