-- What a good catalogue gives to the laws of the forest: parents come before children, and the check of the cells is the reader of rows.
-- Assumes nothing.
use mathlib.Core.Path.{◌≡◌, refl, ap}
use mathlib.Core.Bool.{Bool, true, false, ◌&&◌, ◌||◌}
use mathlib.Core.List.{List}
use Prim.Native.Nat.{ℕ, zero, suc, ◌+◌, ◌-◌, ◌*◌, ◌<◌, ◌≤◌}
use native.Mathlib.Omega.{arith}
use lib.Dec.{leb, eqb}
use borrow.Author.Tests.{lt-ltb, ne_eqb, eqb-true}
use Rattle.terms.specs.Choice.{pick}
use Rattle.terms.specs.Names.{code}
use Rattle.forest.specs.Good.{on, off, is, both_left, both_right, good}
use Rattle.forest.proofs.Good.{formed-good}
use Rattle.forest.specs.Numbers.{range, is_in}
use Rattle.forest.specs.Types as Types
use Rattle.rules.specs.Block.{Bytes, every, zeros, part}
use Rattle.rules.specs.Catalogue.{types, fields, parent_of, length_of, lineage, level, is_type, good_key}
use Rattle.rules.specs.Catalogue.{good_parent, good_type, good_field, good_header, good_catalogue}
use Rattle.rules.specs.Cells.{Segment, type_number, is_child, siblings, good_listing}
use Rattle.rules.proofs.Every.{every-at}

or_right : (a b : Bool) → (a || b) ≡ true → a ≡ false → b ≡ true
or_right true b e f = absurd (let z : ◌≡◌ {A = ℕ} 1 0 = ap (λ (c : Bool). pick c 1 0) f in omega arith)
or_right false b e f = e

module _ (par : ℕ → ℕ) (top : ℕ) (low : Types.lower par top ≡ true) where
  -- the types above a type come before it
  pub lineage-le : (n u x : ℕ) → u ≤ top → is_in x (Types.lineage_from par n u) ≡ true → x ≤ u
  unfolding Types.lineage_from
  lineage-le zero u x l e = absurd (let z : ◌≡◌ {A = ℕ} 0 1 = ap (λ (c : Bool). pick c 1 0) e in omega arith)
  lineage-le (suc n) zero x l e = absurd (let z : ◌≡◌ {A = ℕ} 0 1 = ap (λ (c : Bool). pick c 1 0) e in omega arith)
  lineage-le (suc n) (suc u) x l e = elim (is (eqb x (suc u))) [
    | on h ↦ (let z : x ≡ suc u = eqb-true x (suc u) h in omega arith)
    | off h ↦
        let h2 : par (suc u) < suc u = Types.lower-at par top (suc u) low (omega arith) l in
        omega (arith, lineage-le n (par (suc u)) x (omega arith) (or_right (eqb x (suc u)) (is_in x (Types.lineage_from par n (par (suc u)))) e h))
  ]

module _ (cat : Bytes) where
  abbrev pub par : ℕ → ℕ
  par u = (parent_of cat (code u)).0

  -- a good parent comes before its child, where the types before are in order
  pub parent-low : (k : ℕ) → Types.lower par k ≡ true → good_parent cat (suc k) ≡ true → par (suc k) < suc k
  unfolding good_parent lineage Types.lineage
  parent-low zero low e = let z : par 1 ≡ 0 = eqb-true (par 1) 0 e in omega arith
  parent-low (suc k) low e =
      let m : suc (suc k) - 1 ≡ suc k = omega arith in
      let f : is_in (par (suc (suc k))) (Types.lineage_from par (suc k) (suc k)) ≡ true = rw (ne_eqb (suc (suc k)) 1 (λ z. omega arith), m) at e in
      omega (arith, lineage-le par (suc k) low (suc k) (suc k) (par (suc (suc k))) (omega arith) f)

  module _ (g : good_catalogue cat ≡ true) where
    pub good-type : (u : ℕ) → 1 ≤ u → u ≤ types cat → good_type cat u ≡ true
    unfolding good_catalogue
    good-type u a b =
        every-at (good_type cat) 1 (types cat) u
        (both_right (good_header cat) (every (good_type cat) (range 1 (types cat)))
        (both_left (good_header cat && every (good_type cat) (range 1 (types cat))) (every (good_field cat) (range 1 (fields cat))) g)) a (omega arith)

    first_of : (a b c d e f : Bool) → (a && b && c && d && e && f) ≡ true → a ≡ true
    first_of true b c d e f h = refl
    first_of false b c d e f h = h

    pub good-parent : (u : ℕ) → 1 ≤ u → u ≤ types cat → good_parent cat u ≡ true
    unfolding good_type
    good-parent u a b =
        first_of (good_parent cat u) (leb 1 (length_of cat (code u))) (leb (length_of cat (code u)) 120) (good_key cat (code u)) (zeros (part cat (8 * u + 5) 2))
        (leb (level cat (code u)) 15) (good-type u a b)

    pub lower-to : (k : ℕ) → k ≤ types cat → Types.lower par k ≡ true
    lower-to zero l = refl
    lower-to (suc k) l =
        let i : Types.lower par k ≡ true = lower-to k (omega arith) in
        rw (lt-ltb (par (suc k)) (suc k) (parent-low k i (good-parent (suc k) (omega arith) l)), i)

    -- LAW 21: in a good catalogue each type has a parent before it
    pub good-lower : Types.lower par (types cat) ≡ true
    good-lower = lower-to (types cat) (omega arith)

    -- LAW 22: the check of the cells is the reader of rows, twin group by twin group (forest: Good, Groups)
    pub listing-reader : (cs : List Segment) → good_listing cat cs ≡ good (type_number) (is_child cat) (siblings cat) cs
    unfolding good_listing is_child is_type level lineage Types.level
    listing-reader cs =
        formed-good (type_number) (is_child cat) (siblings cat)
        (λ p s h. Types.rise par (types cat) good-lower p (type_number s) h)
        (λ p q s h k. Types.one par (types cat) good-lower p q (type_number s) h k)
        (Types.level par)
        (λ p s h. Types.deeper par (types cat) good-lower p (type_number s) h) cs
