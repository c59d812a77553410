-- A cell matches a completed list exactly when it has the last type and its row satisfies what the list asks of each type. From that: the tests of a
-- list, of a list beneath it and of both joined nest. Assumes nothing.
use mathlib.Core.Path.{◌≡◌, refl, ap, sym, ◌∙◌}
use mathlib.Core.Bool.{Bool, true, false, ◌&&◌, and-true}
use mathlib.Core.List.{List, [], ◌∷◌, ◌++◌, map, reverse, reverse_aux, reverse-reverse}
use Prim.Native.Nat.{ℕ, ◌<◌}
use native.Mathlib.Omega.{arith}
use lib.Dec.{eqb}
use lib.ListN.{length, get_or}
use borrow.Author.Tests.{eq-eqb, eqb-true}
use Rattle.terms.specs.declared.TypeCode.{TypeCode}
use Rattle.terms.specs.declared.Argument.{Argument}
use Rattle.terms.specs.Names.{code}
use Rattle.forest.specs.Good.{on, off, is, both_left, both_right, is_nil}
use Rattle.forest.specs.Numbers.{ancestor-run}
use Rattle.rules.specs.Block.{Bytes, every}
use Rattle.rules.specs.Catalogue.{lineage, is_type, type_beneath, good_catalogue}
use Rattle.rules.specs.Cells.{Segment, segment, level_at, run_at, end_at, row_at, good_listing}
use Rattle.rules.specs.Arguments.{Asked, Level, asked_of, complete, last_argument, get_levels}
use Rattle.rules.specs.Matching.{satisfies, agrees, path_to, agree, matches}
use Rattle.rules.proofs.Every.{every_in, every-cons, every_append}
use Rattle.catalogue.proofs.Hierarchy.{type-range, lineage-up, level-least}
use Rattle.arguments.specs.Sound.{Downward}
use Rattle.arguments.proofs.Complete.{complete-length}
use Rattle.cells.proofs.Located.{end_after, end-within}
use Rattle.report_loops.specs.Plain.{heeds, meets}
use Rattle.arguments.proofs.Cut.{moved}
use Rattle.report_loops.proofs.Asked.{All, last-type, asked-heeds, Asks}
use Rattle.report_loops.proofs.Rows.{typ, row-types, row-above, row-through}
use Rattle.report_loops.proofs.Nest.{Nests}

-- two tests that hold together are one
same_test : (a b : Bool) → (a ≡ true → b ≡ true) → (b ≡ true → a ≡ true) → a ≡ b
same_test true b f h = sym (f refl)
same_test false true f h = h refl
same_test false false f h = refl

module _ (p : ℕ → Bool) where
  every-turned : (xs r : List ℕ) → every p (reverse_aux xs r) ≡ (every p xs && every p r)
  unfolding every
  every-turned [] r = refl
  every-turned (x ∷ xs) r = every-turned xs (x ∷ r) ∙ rw (every-cons p x r, every-cons p x xs) (turn (every p xs) (p x) (every p r))
    where
      turn : (a b c : Bool) → (a && (b && c)) ≡ ((b && a) && c)
      turn true true c = refl
      turn true false c = refl
      turn false true c = refl
      turn false false c = refl

  every-reverse : (xs : List ℕ) → every p (reverse xs) ≡ every p xs
  unfolding every
  every-reverse xs = every-turned xs [] ∙ and-true (every p xs)

  every-all : (xs : List ℕ) → All (λ x. p x ≡ true) xs → every p xs ≡ true
  unfolding every
  every-all [] h = refl
  every-all (x ∷ xs) h = every_in p x xs h.0 ∙ every-all xs h.1

every-same : (p q : ℕ → Bool) → ((x : ℕ) → p x ≡ q x) → (xs : List ℕ) → every p xs ≡ every q xs
unfolding every
every-same p q h [] = refl
every-same p q h (x ∷ xs) = every-cons p x xs ∙ rw (h x, every-same p q h xs) (sym (every-cons q x xs))

every-both : (p q r : ℕ → Bool) → ((x : ℕ) → p x ≡ (q x && r x)) → (xs : List ℕ) → every p xs ≡ (every q xs && every r xs)
unfolding every
every-both p q r h [] = refl
every-both p q r h (x ∷ xs) = every-cons p x xs ∙ rw (h x, every-both p q r h xs, every-cons q x xs, every-cons r x xs) (mix (q x) (r x) (every q xs) (every r xs))
  where
    mix : (a b c d : Bool) → ((a && b) && (c && d)) ≡ ((a && c) && (b && d))
    mix true true c d = refl
    mix true false true d = refl
    mix true false false d = refl
    mix false b c d = refl

map_turned : (f : ℕ → ℕ) (xs r : List ℕ) → map f (reverse_aux xs r) ≡ reverse_aux (map f xs) (map f r)
map_turned f [] r = refl
map_turned f (x ∷ xs) r = map_turned f xs (x ∷ r)

-- a completed list is not empty
pub levels-some : (cat : Bytes) → good_catalogue cat ≡ true → (list : Bytes) (ar : List Argument) (t : TypeCode) → is_type cat t ≡ true → 0 < length (complete cat list ar t)
levels-some cat g list ar t h = let r = type-range cat t h in omega (arith, complete-length cat list ar t, level-least cat g t r.0 r.1)

module _ (cat : Bytes) (cs : List Segment) where
  -- the segment of cell j satisfies what is asked of its type
  abbrev pub content : (TypeCode → Asked) → ℕ → Bool
  content asked j = satisfies cat (segment cs j) (asked (segment cs j).code)

  module _ (asked : TypeCode → Asked) where
    abbrev level_of : ℕ → Level
    level_of u = record { code = code u; asked = asked (code u) }

    agree-in : (l : Level) (ls : List Level) (i : ℕ) (path : List ℕ) → agrees cat l (segment cs i) ≡ true → agree cat cs (l ∷ ls) (i ∷ path) ≡ agree cat cs ls path
    unfolding agree
    agree-in l ls i path e = rw (agree, e)

    agree-out : (l : Level) (ls : List Level) (i : ℕ) (path : List ℕ) → agrees cat l (segment cs i) ≡ false → agree cat cs (l ∷ ls) (i ∷ path) ≡ false
    unfolding agree
    agree-out l ls i path e = rw (agree, e)

    -- one level: the type, and what is asked of it
    agrees-to : (u i : ℕ) → agrees cat (level_of u) (segment cs i) ≡ true → (typ cs i ≡ u) × (content asked i ≡ true)
    unfolding agrees
    agrees-to u i e =
        let z : u ≡ typ cs i = eqb-true u (typ cs i) (both_left (eqb u (typ cs i)) (satisfies cat (segment cs i) (asked (code u))) e) in
        (sym z, rw z at (both_right (eqb u (typ cs i)) (satisfies cat (segment cs i) (asked (code u))) e))

    agrees_from : (i : ℕ) → content asked i ≡ true → agrees cat (level_of (typ cs i)) (segment cs i) ≡ true
    unfolding agrees
    agrees_from i e = rw (eq-eqb (typ cs i) (typ cs i) refl) e

    agree-to : (us path : List ℕ) → agree cat cs (map level_of us) path ≡ true → (map (typ cs) path ≡ us) × (every (content asked) path ≡ true)
    unfolding agree every
    agree-to [] [] e = (refl, refl)
    agree-to [] (i ∷ path) e = absurd (let z : ◌≡◌ {A = ℕ} 0 1 = cc in omega arith)
    agree-to (u ∷ us) [] e = absurd (let z : ◌≡◌ {A = ℕ} 0 1 = cc in omega arith)
    agree-to (u ∷ us) (i ∷ path) e = elim (is (agrees cat (level_of u) (segment cs i))) [
      | on h ↦
          let a = agrees-to u i h in
          let r = agree-to us path (sym (agree-in (level_of u) (map level_of us) i path h) ∙ e) in
          (ap (λ (x : ℕ). x ∷ map (typ cs) path) a.0 ∙ ap (◌∷◌ u) r.0, every_in (content asked) i path a.1 ∙ r.1)
      | off h ↦ absurd (let f : agree cat cs (map level_of (u ∷ us)) (i ∷ path) ≡ false = agree-out (level_of u) (map level_of us) i path h in let z : ◌≡◌ {A = ℕ} 0 1 = cc in omega arith)
    ]

    agree-from : (path : List ℕ) → every (content asked) path ≡ true → agree cat cs (map level_of (map (typ cs) path)) path ≡ true
    unfolding agree every
    agree-from [] e = refl
    agree-from (i ∷ path) e =
        let f : (content asked i && every (content asked) path) ≡ true = sym (every-cons (content asked) i path) ∙ e in
        agree-in (level_of (typ cs i)) (map level_of (map (typ cs) path)) i path (agrees_from i (both_left (content asked i) (every (content asked) path) f))
        ∙ agree-from path (both_right (content asked i) (every (content asked) path) f)

  matches-agree : (ls : List Level) (i : ℕ) → 0 < length ls → matches cat cs ls i ≡ agree cat cs ls (path_to cat cs i)
  unfolding matches
  matches-agree [] i h = absurd (omega arith)
  matches-agree (l ∷ ls) i h = refl

  first-type : (i x : ℕ) (r : List ℕ) → map (typ cs) (row_at cat cs i) ≡ x ∷ r → typ cs i ≡ x
  unfolding row_at
  first-type i x r e = ap (λ (xs : List ℕ). get_or xs 0 0) e

  -- the last type, and what is asked of each segment of the row
  abbrev pub fulfils : (TypeCode → Asked) → TypeCode → ℕ → Bool
  fulfils asked t i = eqb (typ cs i) t.0 && every (content asked) (row_at cat cs i)

  module _ (g : good_catalogue cat ≡ true) (w : good_listing cat cs ≡ true) where
    -- LAW: R28, of a completed list
    pub matches-is : (list : Bytes) (ar : List Argument) (t : TypeCode) (i : ℕ) → is_type cat t ≡ true → i < length cs
        → matches cat cs (complete cat list ar t) i ≡ fulfils (asked_of cat list ar) t i
    unfolding complete path_to
    matches-is list ar t i h l =
        let A : TypeCode → Asked = asked_of cat list ar in
        let row : List ℕ = row_at cat cs i in
        let r = type-range cat t h in
        let up : lineage cat t ≡ t.0 ∷ _ = lineage-up cat g t r.0 r.1 in
        matches-agree (map (level_of A) (reverse (lineage cat t))) i (levels-some cat g list ar t h)
        ∙ same_test (agree cat cs (map (level_of A) (reverse (lineage cat t))) (reverse row)) (fulfils A t i)
        (λ e.
        let a = agree-to A (reverse (lineage cat t)) (reverse row) e in
        let y : map (typ cs) row ≡ lineage cat t = sym (reverse-reverse (map (typ cs) row)) ∙ ap reverse (sym (map_turned (typ cs) row []) ∙ a.0) ∙ reverse-reverse (lineage cat t) in
        let z : typ cs i ≡ t.0 = first-type i t.0 _ (y ∙ up) in
        rw (eq-eqb (typ cs i) t.0 z, ← every-reverse (content A) row) a.1)
        (λ e.
        let z : typ cs i ≡ t.0 = eqb-true (typ cs i) t.0 (both_left (eqb (typ cs i) t.0) (every (content A) row) e) in
        let y : map (typ cs) (reverse row) ≡ reverse (lineage cat t) = map_turned (typ cs) row [] ∙ ap reverse (row-types cat cs g w i l ∙ ap (λ (u : ℕ). lineage cat (code u)) z) in
        ap (λ (us : List ℕ). agree cat cs (map (level_of A) us) (reverse row)) (sym y)
        ∙ agree-from A (reverse row) (every-reverse (content A) row ∙ both_right (eqb (typ cs i) t.0) (every (content A) row) e))

    -- LAW: so the test of the calls is the plain one
    pub matches-meets : (list : Bytes) (ar : List Argument) → Downward cat list (code 0) ar → (i : ℕ) → i < length cs → matches cat cs (get_levels cat list ar) i ≡ meets cat list cs ar i
    unfolding matches
    matches-meets list [] d i l = refl
    matches-meets list (a ∷ ar) d i l =
        let t : TypeCode = (last_argument (a ∷ ar)).code in
        matches-is list (a ∷ ar) t i (last-type cat list g (a ∷ ar) refl d) l
        ∙ ap (λ (b : Bool). eqb (typ cs i) t.0 && b)
        (every-same (content (asked_of cat list (a ∷ ar))) (λ j. every (heeds cat list (segment cs j)) (a ∷ ar)) (λ j. asked-heeds cat list g (segment cs j) (code 0) (a ∷ ar) d) (row_at cat cs i))

    -- the three tests, of a list cut in two: l and m are the arguments of its parts
    module _ (one two : Bytes) (l m : List Argument) (A : Asks cat one two l m) where
      abbrev t₁ : TypeCode
      t₁ = (last_argument l).code

      abbrev t₂ : TypeCode
      t₂ = (last_argument m).code

      abbrev asked₁ : TypeCode → Asked
      asked₁ = asked_of cat one l

      abbrev asked₂ : TypeCode → Asked
      asked₂ = asked_of cat two m

      abbrev asked₃ : TypeCode → Asked
      asked₃ = asked_of cat (one ++ two) (l ++ map (moved (length one)) m)

      -- in the run of a cell of the first part's last type, the first part asks of a row what it asks of that cell's
      row_same : (p k : ℕ) → k < length cs → p < k → k < end_at cat cs p → typ cs p ≡ t₁.0 → every (content asked₁) (row_at cat cs k) ≡ every (content asked₁) (row_at cat cs p)
      row_same p k x y z e =
          let h = row-through cat cs g w p k x y z in
          let c : every (content asked₁) (k ∷ h.0) ≡ true = every-all (content asked₁) (k ∷ h.0) (unasked (k ∷ h.0) h.2) in
          ap (every (content asked₁)) h.1 ∙ every_append (content asked₁) (k ∷ h.0) (row_at cat cs p) ∙ ap (λ (b : Bool). b && every (content asked₁) (row_at cat cs p)) c
        where
          unasked : (xs : List ℕ) → All (λ i. typ cs p < typ cs i) xs → All (λ i. content asked₁ i ≡ true) xs
          unasked [] a = tt
          unasked (i ∷ xs) a = (ap (satisfies cat (segment cs i)) (A.past (segment cs i).code (omega (arith, a.0))), unasked xs a.1)

      joined_is : (k : ℕ) → fulfils asked₃ t₂ k ≡ (eqb (typ cs k) t₂.0 && (every (content asked₁) (row_at cat cs k) && every (content asked₂) (row_at cat cs k)))
      joined_is k = ap (λ (b : Bool). eqb (typ cs k) t₂.0 && b) (every-both (content asked₃) (content asked₁) (content asked₂) (λ j. A.both (segment cs j).code (segment cs j)) (row_at cat cs k))

      of-type : (asked : TypeCode → Asked) (t : TypeCode) (p : ℕ) → fulfils asked t p ≡ true → (typ cs p ≡ t.0) × (every (content asked) (row_at cat cs p) ≡ true)
      of-type asked t p e = (eqb-true (typ cs p) t.0 (both_left (eqb (typ cs p) t.0) (every (content asked) (row_at cat cs p)) e), both_right (eqb (typ cs p) t.0) (every (content asked) (row_at cat cs p)) e)

      apart : (p q : ℕ) → q < length cs → fulfils asked₁ t₁ p ≡ true → fulfils asked₁ t₁ q ≡ true → p < q → q < end_at cat cs p → ⊥
      apart p q n x y u v = omega (arith, (row-through cat cs g w p q n u v).2.0, (of-type asked₁ t₁ p x).0, (of-type asked₁ t₁ q y).0)

      below : (p k : ℕ) → k < length cs → fulfils asked₁ t₁ p ≡ true → p < k → k < end_at cat cs p → fulfils asked₂ t₂ k ≡ fulfils asked₃ t₂ k
      below p k n s y z =
          let a = of-type asked₁ t₁ p s in
          sym (joined_is k ∙ ap (λ (b : Bool). eqb (typ cs k) t₂.0 && (b && every (content asked₂) (row_at cat cs k))) (row_same p k n y z a.0 ∙ a.1))

      above : (k : ℕ) → k < length cs → fulfils asked₃ t₂ k ≡ true → (p : ℕ) × (fulfils asked₁ t₁ p ≡ true) × (p < k) × (k < end_at cat cs p)
      unfolding type_beneath end_at run_at
      above k n s =
          let r : List ℕ = row_at cat cs k in
          let j : (eqb (typ cs k) t₂.0 && (every (content asked₁) r && every (content asked₂) r)) ≡ true = sym (joined_is k) ∙ s in
          let e : typ cs k ≡ t₂.0 = eqb-true (typ cs k) t₂.0 (both_left (eqb (typ cs k) t₂.0) (every (content asked₁) r && every (content asked₂) r) j) in
          let c : every (content asked₁) r ≡ true = both_left (every (content asked₁) r) (every (content asked₂) r) (both_right (eqb (typ cs k) t₂.0) (every (content asked₁) r && every (content asked₂) r) j) in
          let f = row-above cat cs g w k t₁.0 n (ap (λ (u : ℕ). type_beneath cat (code u) t₁) e ∙ A.beneath) in
          let a = ancestor-run (level_at cat cs) (length cs) f.0 k n f.1 in
          (f.0, rw (eq-eqb (typ cs f.0) t₁.0 f.2) (sym (row_same f.0 k n a.0 a.1 f.2) ∙ c), a.0, a.1)

      fulfil-nests : Nests (length cs) (end_at cat cs) (fulfils asked₁ t₁) (fulfils asked₂ t₂) (fulfils asked₃ t₂)
      fulfil-nests = record {
        later = λ p x. end_after cat cs p;
        among = λ p x. end-within cat cs p x;
        apart = apart;
        below = below;
        above = above;
      }

-- tests that agree on the cells nest alike
nests-same : (n : ℕ) (end : ℕ → ℕ) (a b c x y z : ℕ → Bool) → ((i : ℕ) → i < n → x i ≡ a i) → ((i : ℕ) → i < n → y i ≡ b i) → ((i : ℕ) → i < n → z i ≡ c i)
    → Nests n end a b c → Nests n end x y z
nests-same n end a b c x y z f g h N = record {
  later = N.later;
  among = N.among;
  apart = λ p q l s t u v. N.apart p q l (sym (f p (omega arith)) ∙ s) (sym (f q l) ∙ t) u v;
  below = λ p k l s u v. g k l ∙ N.below p k l (sym (f p (omega arith)) ∙ s) u v ∙ sym (h k l);
  above = λ k l s. let r = N.above k l (sym (h k l) ∙ s) in (r.0, f r.0 (omega (arith, r.2)) ∙ r.1, r.2, r.3);
}

pub get-levels : (cat list : Bytes) (ar : List Argument) → is_nil ar ≡ false → get_levels cat list ar ≡ complete cat list ar (last_argument ar).code
get-levels cat list [] e = absurd (let z : ◌≡◌ {A = ℕ} 0 1 = cc in omega arith)
get-levels cat list (a ∷ ar) e = refl

nil-append : (l m : List Argument) → is_nil l ≡ false → is_nil (l ++ m) ≡ false
nil-append [] m e = absurd (let z : ◌≡◌ {A = ℕ} 0 1 = cc in omega arith)
nil-append (a ∷ l) m e = refl

-- LAW C: the tests of a list cut in two nest
pub tests-nest : (cat : Bytes) (cs : List Segment) → good_catalogue cat ≡ true → good_listing cat cs ≡ true → (one two : Bytes) (l m : List Argument) → is_nil l ≡ false → is_nil m ≡ false → Asks cat one two l m
    → Nests (length cs) (end_at cat cs) (matches cat cs (get_levels cat one l)) (matches cat cs (get_levels cat two m)) (matches cat cs (get_levels cat (one ++ two) (l ++ map (moved (length one)) m)))
tests-nest cat cs g w one two l m x y A =
    let t₁ : TypeCode = (last_argument l).code in
    let t₂ : TypeCode = (last_argument m).code in
    let j : List Argument = l ++ map (moved (length one)) m in
    rw (get-levels cat one l x, get-levels cat two m y, get-levels cat (one ++ two) j (nil-append l (map (moved (length one)) m) x), A.last)
    (nests-same (length cs) (end_at cat cs)
    (fulfils cat cs (asked_of cat one l) t₁) (fulfils cat cs (asked_of cat two m) t₂) (fulfils cat cs (asked_of cat (one ++ two) j) t₂)
    (matches cat cs (complete cat one l t₁)) (matches cat cs (complete cat two m t₂)) (matches cat cs (complete cat (one ++ two) j t₂))
    (λ i h. matches-is cat cs g w one l t₁ i A.first-type h) (λ i h. matches-is cat cs g w two m t₂ i A.second_type h) (λ i h. matches-is cat cs g w (one ++ two) j t₂ i A.second_type h)
    (fulfil-nests cat cs g w one two l m A))
