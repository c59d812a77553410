-- The arguments of a sound list: their types go down, their tests are good, and what they ask lies along the last one's lineage. Assumes nothing.
use mathlib.Core.Path.{◌≡◌, refl, ap, sym, ◌∙◌}
use mathlib.Core.Bool.{true, false}
use mathlib.Core.List.{List, [], ◌∷◌}
use Prim.Native.Nat.{ℕ, zero, suc, ◌+◌, ◌<◌, ◌≤◌}
use native.Mathlib.Omega.{arith}
use lib.ListN.{length}
use borrow.Author.Tests.{eqb-true, eqb-false}
use Rattle.terms.specs.declared.TypeCode.{TypeCode}
use Rattle.terms.specs.declared.FieldNumber.{FieldNumber}
use Rattle.terms.specs.declared.Operator.{Operator}
use Rattle.terms.specs.declared.Argument.{Argument}
use Rattle.terms.specs.declared.Status.TheVariants.{Blank}
use Rattle.terms.specs.Names.{code, same_type, Qualification, test}
use Rattle.forest.specs.Forest.{inside, outside, side}
use Rattle.forest.specs.Good.{on, off, is, is_nil}
use Rattle.forest.specs.Numbers.{is_in}
use Rattle.rules.specs.Block.{Bytes, byte, every}
use Rattle.rules.specs.Catalogue.{lineage, is_type, good_catalogue}
use Rattle.rules.specs.Arguments.{ListRead, list_read, last_argument}
use Rattle.arguments.specs.Sound.{Wanted, Implied, Named, SoundList, GoodTest, GoodQualification, rest, next_at, wanted_of, Downward}
use Rattle.arguments.proofs.Rest.{ended, rest-whole, rest_end, step, step-rest, step-fault}
use Rattle.arguments.proofs.Walk.{wanted-here, wanted-next}
use Rattle.arguments.proofs.Above.{type-last, next-type, next-beneath, above-own, above-beneath, above-above, beneath-below}

module _ (cat list : Bytes) where
  down-from : (n : ℕ) (before : TypeCode) (at : ℕ) → length list ≤ at + n → (rest cat list before at).fault ≡ Blank → Downward cat list before (rest cat list before at).arguments
  down-from zero before at l e = rw (rest_end cat list before at (omega arith)) tt
  down-from (suc n) before at l e = elim (side at (length list)) [
    | outside h ↦ rw (rest_end cat list before at h) tt
    | inside h ↦
        let s = step cat list before at h e in
        rw (step-rest cat list before at h e) (s.type, s.test, down-from n (code (byte list at)) (next_at cat list at) (omega (arith, s.onward)) (step-fault cat list before at h e))
  ]

  -- LAW: the types of a sound list go down, each beneath the one before, and its tests are good
  pub sound-down : SoundList cat list → Downward cat list (code 0) (list_read cat list).arguments
  sound-down s = rw (rest-whole cat list) at (down-from (length list) (code 0) 0 (omega arith) (ap (λ (l : ListRead). l.fault) (rest-whole cat list) ∙ s.read))

  -- LAW: no bytes, no arguments; and some, where there are some
  pub list-empty : length list ≡ 0 → list_read cat list ≡ ended Blank
  list-empty e = sym (rest-whole cat list) ∙ rest_end cat list (code 0) 0 (omega arith)

  pub list-filled : SoundList cat list → 0 < length list → is_nil (list_read cat list).arguments ≡ false
  list-filled s h = sym (ap (λ (l : ListRead). is_nil l.arguments) (rest-whole cat list)) ∙ ap (λ (l : ListRead). is_nil l.arguments) (step-rest cat list (code 0) 0 h (ap (λ (l : ListRead). l.fault) (rest-whole cat list) ∙ s.read))

  down-types : (before : TypeCode) (ar : List Argument) → Downward cat list before ar → every (λ (a : Argument). is_type cat a.code) ar ≡ true
  unfolding every
  down-types before [] d = refl
  down-types before (a ∷ ar) d = rw (every, next-type cat list before a.code d.0) (down-types a.code ar d.2)

  -- LAW: each argument's type is in 1..T
  pub sound-types : SoundList cat list → every (λ (a : Argument). is_type cat a.code) (list_read cat list).arguments ≡ true
  sound-types s = down-types (code 0) (list_read cat list).arguments (sound-down s)

  -- what is known of one argument of a sound list: its type is one, its test is good, and it lies along the lineage of the last
  pub record Asks (last : TypeCode) (t : TypeCode) (q : Qualification) : Type 0 where
    pub type : is_type cat t ≡ true
    pub test : GoodQualification cat list t q
    pub along : is_in t.0 (lineage cat last) ≡ true

  module _ (g : good_catalogue cat ≡ true) where
    down-last : (before : TypeCode) (a : Argument) (ar : List Argument) → Downward cat list before (a ∷ ar)
        → Asks (last_argument (a ∷ ar)).code (last_argument (a ∷ ar)).code (last_argument (a ∷ ar)).qualification
    down-last before a [] d = let t = next-type cat list before a.code d.0 in record { type = t; test = d.1; along = above-own cat g a.code t }
    down-last before a (b ∷ ar) d = down-last a.code b ar d.2

    down-first : (before : TypeCode) (a : Argument) (ar : List Argument) → Downward cat list before (a ∷ ar) → Asks (last_argument (a ∷ ar)).code a.code a.qualification
    down-first before a [] d = down-last before a [] d
    down-first before a (b ∷ ar) d =
        let i = down-first a.code b ar d.2 in
        let t = next-type cat list before a.code d.0 in
        let l = down-last a.code b ar d.2 in
        record {
          type = t;
          test = d.1;
          along = above-above cat g (last_argument (b ∷ ar)).code b.code a.code (type-last cat (last_argument (b ∷ ar)).code l.type) i.along
              (above-beneath cat g b.code a.code i.type (next-beneath cat list a.code b.code d.2.0 t));
        }

    down-ascend : (before : TypeCode) (a : Argument) (ar : List Argument) → Downward cat list before (a ∷ ar) → a.code.0 ≤ (last_argument (a ∷ ar)).code.0
    down-ascend before a [] d = omega arith
    down-ascend before a (b ∷ ar) d =
        let t = next-type cat list before a.code d.0 in
        let u = next-type cat list a.code b.code d.2.0 in
        omega (arith, down-ascend a.code b ar d.2, beneath-below cat g b.code a.code u (next-beneath cat list a.code b.code d.2.0 t))

    down-wanted-last : (before : TypeCode) (a : Argument) (ar : List Argument) → Downward cat list before (a ∷ ar)
        → wanted_of (a ∷ ar) (last_argument (a ∷ ar)).code ≡ Named (last_argument (a ∷ ar)).qualification
    down-wanted-last before a [] d = wanted-here a [] a.code refl
    down-wanted-last before a (b ∷ ar) d =
        let t = next-type cat list before a.code d.0 in
        let u = next-type cat list a.code b.code d.2.0 in
        let l = beneath-below cat g b.code a.code u (next-beneath cat list a.code b.code d.2.0 t) in
        wanted-next a (b ∷ ar) (last_argument (b ∷ ar)).code (λ e. omega (arith, l, e, down-ascend a.code b ar d.2)) ∙ down-wanted-last a.code b ar d.2

    named_here : (before : TypeCode) (a : Argument) (ar : List Argument) (t : TypeCode) (q : Qualification) → Downward cat list before (a ∷ ar) → a.code.0 ≡ t.0
        → wanted_of (a ∷ ar) t ≡ Named q → Asks (last_argument (a ∷ ar)).code t q
    named_here before a ar t q d e w =
        let z : a.code ≡ t = ap code e in
        let h = wanted-here a ar t e in
        let y : a.qualification ≡ q = cc in
        rw (sym z, sym y) (down-first before a ar d)

    down-named : (before : TypeCode) (ar : List Argument) (t : TypeCode) (q : Qualification) → Downward cat list before ar → wanted_of ar t ≡ Named q → Asks (last_argument ar).code t q
    unfolding wanted_of
    down-named before [] t q d w = absurd (let z : ◌≡◌ {A = ℕ} 0 1 = cc in omega arith)
    down-named before (a ∷ []) t q d w = elim (is (same_type a.code t)) [
      | on e ↦ named_here before a [] t q d (eqb-true a.code.0 t.0 e) w
      | off e ↦ (let h : wanted_of (a ∷ []) t ≡ Implied = wanted-next a [] t (eqb-false a.code.0 t.0 e) in absurd (let z : ◌≡◌ {A = ℕ} 0 1 = cc in omega arith))
    ]
    down-named before (a ∷ (b ∷ ar)) t q d w = elim (is (same_type a.code t)) [
      | on e ↦ named_here before a (b ∷ ar) t q d (eqb-true a.code.0 t.0 e) w
      | off e ↦ down-named a.code (b ∷ ar) t q d.2 (sym (wanted-next a (b ∷ ar) t (eqb-false a.code.0 t.0 e)) ∙ w)
    ]

  module _ (s : SoundList cat list) where
    -- LAW: a list that is not empty has a last argument, and asks of its type what that says
    at_last : (ar : List Argument) → is_nil ar ≡ false → Downward cat list (code 0) ar → Asks (last_argument ar).code (last_argument ar).code (last_argument ar).qualification
    at_last [] n d = absurd (let z : ◌≡◌ {A = ℕ} 0 1 = cc in omega arith)
    at_last (a ∷ ar) n d = down-last s.catalogue (code 0) a ar d

    pub last-asks : 0 < length list
        → Asks (last_argument (list_read cat list).arguments).code (last_argument (list_read cat list).arguments).code (last_argument (list_read cat list).arguments).qualification
    last-asks h = at_last (list_read cat list).arguments (list-filled s h) (sound-down s)

    wanted-at-last : (ar : List Argument) → is_nil ar ≡ false → Downward cat list (code 0) ar → wanted_of ar (last_argument ar).code ≡ Named (last_argument ar).qualification
    wanted-at-last [] n d = absurd (let z : ◌≡◌ {A = ℕ} 0 1 = cc in omega arith)
    wanted-at-last (a ∷ ar) n d = down-wanted-last s.catalogue (code 0) a ar d

    pub last-wanted : 0 < length list → wanted_of (list_read cat list).arguments (last_argument (list_read cat list).arguments).code ≡ Named (last_argument (list_read cat list).arguments).qualification
    last-wanted h = wanted-at-last (list_read cat list).arguments (list-filled s h) (sound-down s)

    module _ (t : TypeCode) where
      -- LAW: what the list names a type with
      pub wanted-asks : (q : Qualification) → wanted_of (list_read cat list).arguments t ≡ Named q → Asks (last_argument (list_read cat list).arguments).code t q
      wanted-asks q w = down-named s.catalogue (code 0) (list_read cat list).arguments t q (sound-down s) w

      pub wanted-test : (o : Operator) (f : FieldNumber) (v : ℕ) → wanted_of (list_read cat list).arguments t ≡ Named (test o f v) → GoodTest cat list t o f v
      wanted-test o f v w = (wanted-asks (test o f v) w).test

      outside_of : (w : Wanted) → wanted_of (list_read cat list).arguments t ≡ w → is_in t.0 (lineage cat (last_argument (list_read cat list).arguments).code) ≡ false → w ≡ Implied
      outside_of Implied e o = refl
      outside_of (Named q) e o = absurd (let h = (wanted-asks q e).along in let z : ◌≡◌ {A = ℕ} 0 1 = cc in omega arith)

      -- LAW: of a type outside the last one's lineage it asks nothing
      pub wanted-outside : is_in t.0 (lineage cat (last_argument (list_read cat list).arguments).code) ≡ false → wanted_of (list_read cat list).arguments t ≡ Implied
      wanted-outside o = outside_of (wanted_of (list_read cat list).arguments t) refl o
