-- A list that tests nothing above its last type t: a cell matches exactly when it has type t and agrees by itself, since the types on its path are
-- those above t. Assumes nothing.
use Rattle.std.specs.Prelude.{Some, None, Option}
use mathlib.Core.Path.{◌≡◌, refl, ap, sym, ◌∙◌, subst}
use mathlib.Core.Bool.{Bool, true, false, ◌&&◌}
use mathlib.Core.List.{List, [], ◌∷◌}
use mathlib.Core.Logic.{◌⊎◌, inl, inr}
use Prim.Native.Nat.{ℕ, zero, suc, ◌+◌, ◌-◌, ◌<◌, ◌≤◌}
use native.Mathlib.Omega.{arith}
use lib.Dec.{eqb}
use lib.ListN.{length, drop}
use borrow.Author.Tests.{eq-eqb, ne_eqb, eqb-true, eqb-false}
use Rattle.terms.specs.declared.TypeCode.{TypeCode}
use Rattle.terms.specs.Choice.{pick}
use Rattle.terms.specs.Names.{code, cell}
use Rattle.forest.specs.Good.{on, off, is, both_left, both_right}
use Rattle.forest.specs.Numbers.{ancestors, is_in, ancestor-run}
use Rattle.rules.specs.Block.{Bytes, every}
use Rattle.rules.specs.Catalogue.{parent_of, lineage, level, type_beneath}
use Rattle.rules.specs.Cells.{Segment, segment, level_at, run_at, end_at}
use Rattle.rules.specs.Table.{count, listing}
use Rattle.rules.specs.Arguments.{Asked, implied, unqualified, qualified, Level, list_read, asked_of}
use Rattle.rules.specs.Matching.{satisfies, first_match}
use Rattle.rules.proofs.Cells.{listing-length}
use Rattle.rules.proofs.Every.{every_in, every-out}
use Rattle.catalogue.proofs.Hierarchy.{lineage-up, beneath-later, beneath-trans}
use Rattle.cells.proofs.Ancestry.{sound-listing, run-beneath}
use Rattle.arguments.specs.Sound.{Wanted, Implied, Named, wanted_of, meaning}
use Rattle.arguments.specs.Alone.{alone_of}
use Rattle.arguments.proofs.Complete.{asked-wanted}
use Rattle.arguments.proofs.Entries.{alone-entry, alone-others}
use Rattle.search.specs.Good.{Good, Lone}
use Rattle.search.specs.Stretch.{levels, is_plain, plain_above, agrees_alone, matches_alone, stretch, stretch_above, stretch_before, Carried}
use Rattle.search.proofs.Rows.{back-parts}
use Rattle.search.proofs.Carry.{tried, tried-le, length-row, stretch-row, full-agrees, head_agrees}
use Rattle.search.proofs.Branches.{steps, level-some, own_in, agrees-cell, stretch-on, stretch-off, carried-cell, turn-found, turn-next}
use Rattle.search.proofs.Within.{sound-good}

differ : true ≡ false → ⊥
differ e = let z : ◌≡◌ {A = ℕ} 1 0 = ap (λ (b : Bool). pick b 1 0) e in omega arith

-- what holds of each holds of one of them
every_one : (p : ℕ → Bool) (xs : List ℕ) (x : ℕ) → every p xs ≡ true → is_in x xs ≡ true → p x ≡ true
every_one p [] x e h = absurd (differ (sym h))
every_one p (y ∷ xs) x e h = elim (is (p y)) [
  | on a ↦ elim (is (eqb x y)) [
    | on b ↦ (let z : x ≡ y = eqb-true x y b in rw z a)
    | off b ↦ every_one p xs x (sym (every_in p y xs a) ∙ e) (rw b at h)
  ]
  | off a ↦ absurd (differ (sym e ∙ every-out p y xs a))
]

-- what holds of each one in it holds of each
every-each : (p : ℕ → Bool) (xs : List ℕ) → ((x : ℕ) → is_in x xs ≡ true → p x ≡ true) → every p xs ≡ true
unfolding every
every-each p [] f = refl
every-each p (y ∷ xs) f = every_in p y xs (f y (rw (eq-eqb y y refl))) ∙ every-each p xs (λ x h. f x (elim (is (eqb x y)) [
  | on a ↦ rw a
  | off a ↦ rw a h
]))

pub plain-satisfies : (cat : Bytes) (s : Segment) (a : Asked) → is_plain a ≡ true → satisfies cat s a ≡ true
plain-satisfies cat s implied h = refl
plain-satisfies cat s unqualified h = refl
plain-satisfies cat s (qualified o f v) h = absurd (differ (sym h))

-- nothing is tested of a type that the list leaves out or names only
plain-wanted : (cat list : Bytes) (u : TypeCode) → (wanted_of (list_read cat list).arguments u ≡ Implied) ⊎ (wanted_of (list_read cat list).arguments u ≡ Named None)
    → is_plain (asked_of cat list (list_read cat list).arguments u) ≡ true
plain-wanted cat list u w = ap is_plain (asked-wanted cat list (list_read cat list).arguments u) ∙ (elim w [
  | inl x ↦ ap (λ (v : Wanted). is_plain (meaning cat list v)) x
  | inr x ↦ ap (λ (v : Wanted). is_plain (meaning cat list v)) x
])

-- LAW: where the list tests nothing but type t it tests nothing above it, since each type above t has a smaller code
pub lone-own : {cat tab list : Bytes} {size : ℕ} {t : TypeCode} → Good cat tab list size t → 0 < t.0 → (a : Option ℕ) (e : ℕ)
    → a ≡ alone_of t (list_read cat list).arguments → a ≡ Some e → Lone cat list t e
unfolding plain_above type_beneath
lone-own {cat} {tab} {list} {size} {t} g s a e f x = record {
  plain = every-each (λ u. is_plain (asked_of cat list (list_read cat list).arguments (code u))) (lineage cat (parent_of cat t)) (λ u h.
      plain-wanted cat list (code u)
      (alone-others t (list_read cat list).arguments e (sym f ∙ x) (code u) (λ z. omega (arith, (beneath-later cat g.catalogue t (code u) s g.known h).1))));
  entry = alone-entry t (list_read cat list).arguments e (sym f ∙ x);
}

-- whether a cell matches by itself: u is its type, as the code has read it
module _ (cat list : Bytes) (t : TypeCode) (s : Segment) (u : TypeCode) (e : u ≡ s.code) where
  pub alone-type : (u.0 ≡ t.0 → ⊥) → false ≡ matches_alone cat list t s
  unfolding matches_alone
  alone-type n = rw (← e, ne_eqb u.0 t.0 n)

module _ {cat tab list : Bytes} {size : ℕ} {t : TypeCode} (g : Good cat tab list size t) (s : 0 < t.0) (q : plain_above cat list t ≡ true) where
  abbrev cs : List Segment
  cs = listing cat tab

  abbrev ls : List Level
  ls = levels cat list t

  abbrev lev : ℕ → ℕ
  lev = level_at cat cs

  abbrev type_of : ℕ → TypeCode
  type_of i = (segment cs i).code

  -- a type of the lineage is t or above it
  own-or-above : (u : TypeCode) → is_in u.0 (lineage cat t) ≡ true → (u.0 ≡ t.0) ⊎ (type_beneath cat t u ≡ true)
  unfolding type_beneath
  own-or-above u e =
      let z : is_in u.0 (t.0 ∷ lineage cat (parent_of cat t)) ≡ true = ap (is_in u.0) (sym (lineage-up cat g.catalogue t s g.known)) ∙ e in
      elim (is (eqb u.0 t.0)) [
        | on a ↦ inl (eqb-true u.0 t.0 a)
        | off a ↦ inr (rw a at z)
      ]

  above_in : (u : TypeCode) → type_beneath cat t u ≡ true → is_in u.0 (lineage cat t) ≡ true
  unfolding type_beneath
  above_in u e = ap (is_in u.0) (lineage-up cat g.catalogue t s g.known) ∙ (elim (is (eqb u.0 t.0)) [
    | on a ↦ rw a
    | off a ↦ rw a e
  ])

  -- a cell of a type above t agrees
  above-agrees : (p : ℕ) → type_beneath cat t (type_of p) ≡ true → agrees_alone cat list t (segment cs p) ≡ true
  unfolding agrees_alone plain_above type_beneath
  above-agrees p e =
      let a : is_plain (asked_of cat list (list_read cat list).arguments (type_of p)) ≡ true =
      every_one (λ u. is_plain (asked_of cat list (list_read cat list).arguments (code u))) (lineage cat (parent_of cat t)) (type_of p).0 q e in
      rw (above_in (type_of p) e) (plain-satisfies cat (segment cs p) (asked_of cat list (list_read cat list).arguments (type_of p)) a)

  above-tried : (i : ℕ) → stretch_above cat cs ls i ≡ tried cat cs ls (ancestors lev i)
  unfolding stretch_above
  above-tried i = refl

  -- so that the path to a cell of type t, or of one above it, agrees down to its parent
  above-full : (n i : ℕ) → i < n → i < count tab → is_in (type_of i).0 (lineage cat t) ≡ true → suc (stretch_above cat cs ls i) ≡ lev i
  unfolding end_at run_at
  above-full zero i l h e = absurd (omega arith)
  above-full (suc n) i l h e = elim (back-parts lev (lev i) i) [
    | inl f ↦ omega (arith, length-row cat cs ls (count tab) (steps g) i h, ap length f, above-tried i, tried-le cat cs ls (ancestors lev i))
    | inr r ↦
        let p : ℕ = r.0 in
        let a : is_in p (ancestors lev i) ≡ true = rw (r.3, eq-eqb p p refl) in
        let m : i < length cs = omega (arith, listing-length cat tab) in
        let w = ancestor-run lev (length cs) p i m a in
        let b : type_beneath cat (type_of i) (type_of p) ≡ true = run-beneath cat cs g.catalogue (sound-listing (sound-good g)) i m p w.0 w.1 in
        let d : type_beneath cat t (type_of p) ≡ true = (elim (own-or-above (type_of i) e) [
          | inl z ↦ subst (λ (x : ℕ). type_beneath cat (code x) (type_of p) ≡ true) z b
          | inr z ↦ beneath-trans cat g.catalogue t (type_of i) (type_of p) s g.known z b
        ]) in
        let h' : p < count tab = omega (arith, r.1) in
        let k : suc (stretch_above cat cs ls p) ≡ lev p = above-full n p (omega (arith, r.1)) h' (above_in (type_of p) d) in
        let c : Carried cat cs ls p (stretch_above cat cs ls p) = record { short = λ x. refl; full = λ x. k } in
        let o : lev p ≡ stretch cat cs ls p = stretch-on g p (stretch_above cat cs ls p) (lev p) h' refl c (omega arith) (above-agrees p d) in
        omega (
          arith,
          length-row cat cs ls (count tab) (steps g) i h,
          length-row cat cs ls (count tab) (steps g) p h',
          ap length r.3,
          above-tried i,
          ap (tried cat cs ls) r.3,
          stretch-row cat cs ls (count tab) (steps g) p,
        )
  ]

  module _ (i to : ℕ) (h : i < to) (w : to ≤ count tab) where
    small : i < count tab
    small = omega arith

    -- a cell of another type does not match
    other-type : ((type_of i).0 ≡ t.0 → ⊥) → lev i ≡ level cat t → stretch cat cs ls i ≡ level cat t → ⊥
    unfolding level_at agrees_alone
    other-type n a b =
        let f : head_agrees cat cs (drop (lev i - 1) ls) i ≡ true =
        full-agrees cat cs ls (count tab) (steps g) i (stretch_before cat cs ls i) small (carried-cell g i (stretch_before cat cs ls i) small refl) (b ∙ sym a) in
        let A : Asked = asked_of cat list (list_read cat list).arguments (type_of i) in
        let k : (is_in (type_of i).0 (lineage cat t) && satisfies cat (segment cs i) A) ≡ true = sym (agrees-cell g i 0 (lev i) small refl) ∙ f in
        elim (own-or-above (type_of i) (both_left (is_in (type_of i).0 (lineage cat t)) (satisfies cat (segment cs i) A) k)) [
          | inl z ↦ n z
          | inr z ↦ omega (arith, (beneath-later cat g.catalogue t (type_of i) s g.known z).2)
        ]

    module _ (z : (type_of i).0 ≡ t.0) where
      own-level : lev i ≡ level cat t
      unfolding level_at
      own-level = ap (λ (x : ℕ). level cat (code x)) z

      own-full : suc (stretch_above cat cs ls i) ≡ lev i
      own-full = above-full (suc i) i (omega arith) small (own_in g (type_of i) s z)

      own-carried : Carried cat cs ls i (stretch_above cat cs ls i)
      own-carried = record { short = λ x. refl; full = λ x. own-full }

      own_on : agrees_alone cat list t (segment cs i) ≡ true → lev i ≡ stretch cat cs ls i
      own_on y = stretch-on g i (stretch_above cat cs ls i) (lev i) small refl own-carried (omega (arith, own-full)) y

      own-off : agrees_alone cat list t (segment cs i) ≡ false → lev i - 1 ≡ stretch cat cs ls i
      own-off y = stretch-off g i (stretch_above cat cs ls i) (lev i) small refl own-carried (omega (arith, own-full)) y

    module _ (b : Bool) (f : b ≡ matches_alone cat list t (segment cs i)) where
      -- LAW: a cell that has the last type and satisfies the last argument matches
      pub alone-here : b ≡ true → Some (cell i) ≡ first_match cat cs ls i to
      unfolding matches_alone
      alone-here y =
          let m : (eqb (type_of i).0 t.0 && agrees_alone cat list t (segment cs i)) ≡ true = sym f ∙ y in
          let z : (type_of i).0 ≡ t.0 = eqb-true (type_of i).0 t.0 (both_left (eqb (type_of i).0 t.0) (agrees_alone cat list t (segment cs i)) m) in
          let o : lev i ≡ stretch cat cs ls i = own_on z (both_right (eqb (type_of i).0 t.0) (agrees_alone cat list t (segment cs i)) m) in
          turn-found g i (lev i) (stretch cat cs ls i) (level cat t) to h w s refl refl refl (own-level z) (sym o ∙ own-level z)

      -- LAW: and no other does
      pub alone-next : b ≡ false → first_match cat cs ls (i + 1) to ≡ first_match cat cs ls i to
      unfolding matches_alone
      alone-next y = turn-next g i (lev i) (stretch cat cs ls i) (level cat t) to h w s refl refl refl (elim (is (eqb (type_of i).0 t.0)) [
        | on x ↦ (λ a c.
            let z : (type_of i).0 ≡ t.0 = eqb-true (type_of i).0 t.0 x in
            let m : agrees_alone cat list t (segment cs i) ≡ false = rw x at (sym f ∙ y) in
            omega (arith, own-off z m, level-some g i small))
        | off x ↦ other-type (eqb-false (type_of i).0 t.0 x)
      ])
