-- An entry of a type without its key yet, and an entry of a field, in a block that has the bytes of a good one. Assumes nothing.
use mathlib.Core.Path.{◌≡◌, refl, ap, ◌∙◌}
use mathlib.Core.Bool.{Bool, true, ◌&&◌}
use mathlib.Core.List.{List, ◌∷◌}
use Prim.Native.Nat.{ℕ, zero, suc, ◌+◌, ◌-◌, ◌*◌, ◌<◌, ◌≤◌}
use native.Mathlib.Omega.{arith}
use lib.Dec.{leb, eqb}
use lib.ListN.{length}
use borrow.Author.Tests.{le-leb}
use Rattle.terms.specs.Choice.{pick}
use Rattle.terms.specs.Names.{code, field}
use Rattle.forest.specs.Numbers.{is_in}
use Rattle.forest.specs.Types as Types
use Rattle.rules.specs.Block.{Bytes, part, zeros}
use Rattle.rules.specs.Catalogue.{types, length_of, key_kind, key_start, key_length, key_value, lineage, level, is_type}
use Rattle.rules.specs.Catalogue.{field_type, field_start, field_length, field_value, field_byte}
use Rattle.rules.specs.Catalogue.{good_key, good_parent, good_type, good_field}
use Rattle.rules.proofs.Joined.{three, six}
use Rattle.rules.proofs.Catalogue.{par}
use Rattle.rules.proofs.Entries.{type-range}

all-six : (a b c d e f : Bool) → a ≡ true → b ≡ true → c ≡ true → d ≡ true → e ≡ true → f ≡ true → (a && b && c && d && e && f) ≡ true
all-six a b c d e f p q r s t u = rw (p, q, r, s, t, u)

all_three : (a b c : Bool) → a ≡ true → b ≡ true → c ≡ true → (a && b && c) ≡ true
all_three a b c p q r = rw (p, q, r)

-- the same parents give the same types above
lineage-from : (p q : ℕ → ℕ) (top : ℕ) → Types.lower q top ≡ true → ((u : ℕ) → 1 ≤ u → u ≤ top → p u ≡ q u)
    → (n u : ℕ) → u ≤ top → Types.lineage_from p n u ≡ Types.lineage_from q n u
unfolding Types.lineage_from
lineage-from p q top low h zero u l = refl
lineage-from p q top low h (suc n) zero l = refl
lineage-from p q top low h (suc n) (suc u) l =
    let e : p (suc u) ≡ q (suc u) = h (suc u) (omega arith) l in
    let b : q (suc u) < suc u = Types.lower-at q top (suc u) low (omega arith) l in
    ap (◌∷◌ (suc u)) (ap (Types.lineage_from p n) e ∙ lineage-from p q top low h n (q (suc u)) (omega arith))

module _ (a c : Bytes) (k : ℕ) (low : Types.lower (par c) k ≡ true) (same : (u : ℕ) → 1 ≤ u → u ≤ k → par a u ≡ par c u) where
  lineage-same : (u : ℕ) → u ≤ k → lineage a (code u) ≡ lineage c (code u)
  unfolding lineage Types.lineage
  lineage-same u l = lineage-from (par a) (par c) k low same u u l

  level-same : level a (code k) ≡ level c (code k)
  unfolding level
  level-same = ap length (lineage-same k (omega arith))

  parent-same : 1 ≤ k → good_parent a k ≡ good_parent c k
  unfolding good_parent
  parent-same l =
      let e : par a k ≡ par c k = same k l (omega arith) in
      let f : lineage a (code (k - 1)) ≡ lineage c (code (k - 1)) = lineage-same (k - 1) (omega arith) in
      ap (λ (x : ℕ). pick (eqb k 1) (eqb x 0) (is_in x (lineage a (code (k - 1))))) e
      ∙ ap (λ (x : List ℕ). pick (eqb k 1) (eqb (par c k) 0) (is_in (par c k) x)) f

  -- R78: a type right behind its SEGM, which has no key yet
  pub type-again : 1 ≤ k → length_of a (code k) ≡ length_of c (code k) → key_kind a (code k) ≡ 0 → key_start a (code k) ≡ 0 → key_length a (code k) ≡ 0
      → key_value a (code k) ≡ 0 → zeros (part a (8 * k + 5) 2) ≡ true → good_type c k ≡ true → good_type a k ≡ true
  unfolding good_type good_key
  type-again l e k0 s0 l0 v0 z g =
      let p = six (good_parent c k) (leb 1 (length_of c (code k))) (leb (length_of c (code k)) 120) (good_key c (code k))
      (zeros (part c (8 * k + 5) 2)) (leb (level c (code k)) 15) g in
      all-six (good_parent a k) (leb 1 (length_of a (code k))) (leb (length_of a (code k)) 120) (good_key a (code k))
      (zeros (part a (8 * k + 5) 2)) (leb (level a (code k)) 15)
      (parent-same l ∙ p.0) (ap (leb 1) e ∙ p.1) (ap (λ (x : ℕ). leb x 120) e ∙ p.2) (rw (k0, s0, l0, v0)) z (ap (λ (x : ℕ). leb x 15) level-same ∙ p.5)

-- R78: a field of one of the types so far
pub field-again : (a c : Bytes) (f : ℕ) → ((j : ℕ) → j < 4 → field_byte a (field f) j ≡ field_byte c (field f) j) → (field_type c (field f)).0 ≤ types a
    → length_of a (field_type c (field f)) ≡ length_of c (field_type c (field f)) → good_field c f ≡ true → good_field a f ≡ true
unfolding good_field is_type field_type field_start field_length field_value
field-again a c f same l e g =
    let p = three (is_type c (field_type c (field f))) _ _ g in
    let r = type-range c (field_type c (field f)) p.0 in
    rw (same 0 (omega arith), same 1 (omega arith), same 2 (omega arith), same 3 (omega arith), e)
    (rw (le-leb 1 (field_byte c (field f) 0) r.0, le-leb (field_byte c (field f) 0) (types a) l, p.1, p.2))
