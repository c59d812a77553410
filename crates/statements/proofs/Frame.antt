-- The entry of a type is judged by the bytes of the block up to its end, where the types before it have their parents before them. Assumes nothing.
use mathlib.Core.Path.{◌≡◌, refl, ap, sym, ◌∙◌}
use mathlib.Core.Bool.{Bool, true, false, ◌&&◌}
use mathlib.Core.List.{List, [], ◌∷◌}
use Prim.Native.Nat.{ℕ, zero, suc, ◌+◌, ◌-◌, ◌*◌, ◌<◌, ◌≤◌}
use native.Mathlib.Omega.{arith}
use lib.Dec.{leb, eqb}
use lib.ListN.{length, get_or, take, drop}
use lib.Seq.{get_or-drop}
use borrow.Author.Tests.{lt-ltb}
use Rattle.terms.specs.Choice.{pick}
use Rattle.terms.specs.Names.{code}
use Rattle.forest.specs.Forest.{inside, outside, side}
use Rattle.forest.specs.Good.{on, off, is}
use Rattle.forest.specs.Numbers.{range, is_in}
use Rattle.forest.specs.Types as Types
use Rattle.rules.specs.Block.{Bytes, byte, part, every, zeros}
use Rattle.rules.specs.Catalogue.{type_byte, parent_of, length_of, key_kind, key_start, key_length, key_value, lineage, level, good_key, good_parent, good_type}
use Rattle.rules.proofs.Catalogue.{par, parent-low}
use Rattle.rules.proofs.Every.{every_in, every-out, every-at}
use Rattle.rules.proofs.Joined.{six}

zeros-cons : (x : ℕ) (xs : Bytes) → zeros (x ∷ xs) ≡ (eqb x 0 && zeros xs)
unfolding zeros
zeros-cons x xs = elim (is (eqb x 0)) [
  | on h ↦ rw h (every_in (λ y. eqb y 0) x xs h)
  | off h ↦ rw h (every-out (λ y. eqb y 0) x xs h)
]

zeros-nil : zeros [] ≡ true
unfolding zeros every
zeros-nil = refl

and-true : (b : Bool) → (b && true) ≡ b
and-true true = refl
and-true false = refl

zeros-first : (xs : Bytes) → zeros (take 3 xs) ≡ (eqb (get_or xs 0 0) 0 && (eqb (get_or xs 1 0) 0 && eqb (get_or xs 2 0) 0))
zeros-first [] = zeros-nil
zeros-first (x ∷ []) = simp (zeros-cons, zeros-nil, and-true)
zeros-first (x ∷ (y ∷ [])) = simp (zeros-cons, zeros-nil, and-true)
zeros-first (x ∷ (y ∷ (z ∷ xs))) = simp (zeros-cons, zeros-nil, and-true)

zeros-front : (xs : Bytes) → zeros (take 2 xs) ≡ (eqb (get_or xs 0 0) 0 && eqb (get_or xs 1 0) 0)
zeros-front [] = zeros-nil
zeros-front (x ∷ []) = simp (zeros-cons, zeros-nil, and-true)
zeros-front (x ∷ (y ∷ xs)) = simp (zeros-cons, zeros-nil, and-true)

-- three bytes of a block, each by itself; past its end there is nothing, which reads as 0
pub zeros-three : (b : Bytes) (i : ℕ) → zeros (part b i 3) ≡ (eqb (byte b i) 0 && (eqb (byte b (i + 1)) 0 && eqb (byte b (i + 2)) 0))
zeros-three b i =
    let z : i + 0 ≡ i = omega arith in
    zeros-first (drop i b) ∙ simp (get_or-drop, z)

-- those that end the entry of a type
pub ending-zeros : (b : Bytes) (k : ℕ)
    → zeros (part b (8 * k + 5) 3) ≡ (eqb (type_byte b (code k) 5) 0 && (eqb (type_byte b (code k) 6) 0 && eqb (type_byte b (code k) 7) 0))
unfolding type_byte
ending-zeros b k =
    let y : 8 * k + 5 + 1 ≡ 8 * k + 6 = omega arith in
    let z : 8 * k + 5 + 2 ≡ 8 * k + 7 = omega arith in
    zeros-three b (8 * k + 5) ∙ rw (y, z)

-- and those of them that stand before the value type
pub spare-zeros : (b : Bytes) (k : ℕ) → zeros (part b (8 * k + 5) 2) ≡ (eqb (type_byte b (code k) 5) 0 && eqb (type_byte b (code k) 6) 0)
unfolding type_byte
spare-zeros b k =
    let y : 8 * k + 5 + 0 ≡ 8 * k + 5 = omega arith in
    let z : 8 * k + 5 + 1 ≡ 8 * k + 6 = omega arith in
    zeros-front (drop (8 * k + 5) b) ∙ simp (get_or-drop, y, z)

-- no type 0 has a parent
parent-zero : (cat : Bytes) → good_parent cat 0 ≡ false
unfolding good_parent lineage Types.lineage Types.lineage_from
parent-zero cat = refl

type-no-parent : (cat : Bytes) (k : ℕ) → good_parent cat k ≡ false → good_type cat k ≡ false
unfolding good_type
type-no-parent cat k e = rw e

module _ (cat : Bytes) where
  -- a good entry has a good parent
  pub type-parent : (k : ℕ) → good_type cat k ≡ true → good_parent cat k ≡ true
  unfolding good_type
  type-parent k h =
      (six (good_parent cat k) (leb 1 (length_of cat (code k))) (leb (length_of cat (code k)) 120) (good_key cat (code k)) (zeros (part cat (8 * k + 5) 2))
      (leb (level cat (code k)) 15) h).0

  -- so do the types up to k, where those before it do and k has a good parent
  pub lower-on : (k : ℕ) → Types.lower (par cat) (k - 1) ≡ true → good_parent cat k ≡ true → Types.lower (par cat) k ≡ true
  lower-on zero l e = refl
  lower-on (suc k) l e =
      let z : suc k - 1 ≡ k = omega arith in
      let m : Types.lower (par cat) k ≡ true = rw z at l in
      rw (lt-ltb (par cat (suc k)) (suc k) (parent-low cat k m e), m)

  pub lower-more : (k : ℕ) → Types.lower (par cat) k ≡ true → good_type cat (suc k) ≡ true → Types.lower (par cat) (suc k) ≡ true
  lower-more k l e = rw (lt-ltb (par cat (suc k)) (suc k) (parent-low cat k l (type-parent (suc k) e)), l)

  -- all of them do, where all are good
  pub lower-each : (k : ℕ) → ((u : ℕ) → 1 ≤ u → u ≤ k → good_type cat u ≡ true) → Types.lower (par cat) k ≡ true
  lower-each zero g = refl
  lower-each (suc k) g = lower-more k (lower-each k (λ u a b. g u a (omega arith))) (g (suc k) (omega arith) (omega arith))

  pub lower-every : (k : ℕ) → every (good_type cat) (range 1 k) ≡ true → Types.lower (par cat) k ≡ true
  lower-every k g = lower-each k (λ u a b. every-at (good_type cat) 1 k u g a (omega arith))

-- two blocks that name the same parents for the types up to k
module _ (a b : Bytes) (k : ℕ) (same : (u : ℕ) → 1 ≤ u → u ≤ k → par a u ≡ par b u) where
  lineage-from : (top : ℕ) → top ≤ k → Types.lower (par a) top ≡ true → (n u : ℕ) → u ≤ top → Types.lineage_from (par a) n u ≡ Types.lineage_from (par b) n u
  unfolding Types.lineage_from
  lineage-from top l low zero u m = refl
  lineage-from top l low (suc n) zero m = refl
  lineage-from top l low (suc n) (suc u) m =
      let h : par a (suc u) < suc u = Types.lower-at (par a) top (suc u) low (omega arith) m in
      ap (◌∷◌ (suc u)) (lineage-from top l low n (par a (suc u)) (omega arith) ∙ ap (Types.lineage_from (par b) n) (same (suc u) (omega arith) (omega arith)))

  pub lineage-same : (top u : ℕ) → top ≤ k → Types.lower (par a) top ≡ true → u ≤ top → lineage a (code u) ≡ lineage b (code u)
  unfolding lineage Types.lineage
  lineage-same top u l low m = lineage-from top l low u u m

  pub lower-same : (n : ℕ) → n ≤ k → Types.lower (par a) n ≡ Types.lower (par b) n
  lower-same zero l = refl
  lower-same (suc n) l = rw (same (suc n) (omega arith) l, lower-same n (omega arith))

  module _ (low : Types.lower (par a) (k - 1) ≡ true) where
    parent-as : 1 ≤ k → good_parent a k ≡ good_parent b k
    unfolding good_parent
    parent-as o =
        ap (λ (x : ℕ). pick (eqb k 1) (eqb x 0) (is_in x (lineage a (code (k - 1))))) (same k o (omega arith))
        ∙ ap (λ (xs : List ℕ). pick (eqb k 1) (eqb (par b k) 0) (is_in (par b k) xs)) (lineage-same (k - 1) (k - 1) (omega arith) low (omega arith))

    pub good_parent-same : good_parent a k ≡ good_parent b k
    good_parent-same = elim (side 0 k) [
      | inside o ↦ parent-as (omega arith)
      | outside o ↦ (let z : k ≡ 0 = omega arith in rw z (parent-zero a ∙ sym (parent-zero b)))
    ]

    -- the level, where the parent is good
    pub level-same : good_parent a k ≡ true → level a (code k) ≡ level b (code k)
    unfolding level
    level-same g = ap length (lineage-same k k (omega arith) (lower-on a k low g) (omega arith))

-- two blocks with the same entries up to type k
module _ (a b : Bytes) (k : ℕ) (same : (u j : ℕ) → 1 ≤ u → u ≤ k → j < 8 → type_byte a (code u) j ≡ type_byte b (code u) j) where
  pub par-same : (u : ℕ) → 1 ≤ u → u ≤ k → par a u ≡ par b u
  unfolding parent_of
  par-same u o l = same u 0 o l (omega arith)

  pub length_of-same : (u : ℕ) → 1 ≤ u → u ≤ k → length_of a (code u) ≡ length_of b (code u)
  unfolding length_of
  length_of-same u o l = same u 1 o l (omega arith)

  pub good_key-same : 1 ≤ k → good_key a (code k) ≡ good_key b (code k)
  unfolding good_key key_kind key_start key_length key_value length_of
  good_key-same o =
      simp (
        same k 1 o (omega arith) (omega arith),
        same k 2 o (omega arith) (omega arith),
        same k 3 o (omega arith) (omega arith),
        same k 4 o (omega arith) (omega arith),
        same k 7 o (omega arith) (omega arith),
      )

  pub zeros-same : 1 ≤ k → zeros (part a (8 * k + 5) 2) ≡ zeros (part b (8 * k + 5) 2)
  zeros-same o = spare-zeros a k ∙ (rw (same k 5 o (omega arith) (omega arith), same k 6 o (omega arith) (omega arith)) (sym (spare-zeros b k)))

  module _ (low : Types.lower (par a) (k - 1) ≡ true) where
    whole : 1 ≤ k → good_parent a k ≡ true → good_type a k ≡ good_type b k
    unfolding good_type
    whole o g =
        simp (good_parent-same a b k par-same low, length_of-same k o (omega arith), good_key-same o, zeros-same o, level-same a b k par-same low g)

    pub good_type-entries : good_type a k ≡ good_type b k
    good_type-entries = elim (is (good_parent a k)) [
      | on g ↦ elim (side 0 k) [
        | inside o ↦ whole (omega arith) g
        | outside o ↦ (let z : k ≡ 0 = omega arith in rw z (type-no-parent a 0 (parent-zero a) ∙ sym (type-no-parent b 0 (parent-zero b))))
      ]
      | off g ↦ type-no-parent a k g ∙ sym (type-no-parent b k (sym (good_parent-same a b k par-same low) ∙ g))
    ]

-- a good entry that gets another key
module _ (a b : Bytes) (k : ℕ) (same : (u : ℕ) → 1 ≤ u → u ≤ k → par a u ≡ par b u) (low : Types.lower (par a) (k - 1) ≡ true) where
  pub good_type-keyed : good_type a k ≡ true → length_of a (code k) ≡ length_of b (code k) → good_key b (code k) ≡ true → zeros (part b (8 * k + 5) 2) ≡ true
      → good_type b k ≡ true
  unfolding good_type
  good_type-keyed g l e z =
      let p =
      six (good_parent a k) (leb 1 (length_of a (code k))) (leb (length_of a (code k)) 120) (good_key a (code k)) (zeros (part a (8 * k + 5) 2))
      (leb (level a (code k)) 15) g in
      rw (← good_parent-same a b k same low, ← level-same a b k same low p.0, ← l, p.0, p.1, p.2, e, z, p.5)

-- the same by bytes: those of the header do not count
pub good_type-from : (a b : Bytes) (k : ℕ) → Types.lower (par a) (k - 1) ≡ true → ((i : ℕ) → 8 ≤ i → i < 8 * k + 8 → byte a i ≡ byte b i)
    → good_type a k ≡ good_type b k
unfolding type_byte
good_type-from a b k low same = good_type-entries a b k (λ u j o l m. same (8 * u + j) (omega arith) (omega arith)) low

-- the law
pub good_type-same : (a b : Bytes) (k : ℕ) → Types.lower (par a) (k - 1) ≡ true → ((i : ℕ) → i < 8 * k + 8 → byte a i ≡ byte b i) → good_type a k ≡ good_type b k
good_type-same a b k low same = good_type-from a b k low (λ i l m. same i m)
