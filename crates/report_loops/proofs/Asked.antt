-- What a list cut in two asks: of types up to the first part's last type, what the first part asks; of types past it, what the second asks.
-- Assumes nothing.
use mathlib.Core.Path.{◌≡◌, refl, ap, sym, ◌∙◌}
use mathlib.Core.Bool.{true, false, ◌&&◌, ◌||◌, and-true}
use mathlib.Core.List.{List, [], ◌∷◌, ◌++◌, map}
use Prim.Native.Nat.{ℕ, ◌<◌, ◌≤◌}
use native.Mathlib.Omega.{arith}
use lib.Dec.{eqb}
use lib.ListN.{length}
use borrow.Author.Tests.{ne_eqb, eqb-true}
use Rattle.terms.specs.declared.TypeCode.{TypeCode}
use Rattle.terms.specs.declared.Argument.{Argument}
use Rattle.terms.specs.Names.{code, same_type}
use Rattle.forest.specs.Forest.{inside, outside, side}
use Rattle.forest.specs.Good.{on, off, is, is_nil, both_right}
use Rattle.rules.specs.Block.{Bytes, every}
use Rattle.rules.specs.Catalogue.{is_type, type_beneath, good_catalogue}
use Rattle.rules.specs.Cells.{Segment}
use Rattle.rules.specs.Arguments.{implied, good_next, meant, asked_of, last_argument}
use Rattle.rules.specs.Matching.{satisfies}
use Rattle.rules.proofs.Every.{every-cons}
use Rattle.catalogue.proofs.Hierarchy.{beneath-trans}
use Rattle.arguments.specs.Sound.{Downward}
use Rattle.arguments.proofs.Above.{type-first, type-last, next-type, next-beneath, beneath-below}
use Rattle.report_loops.specs.Plain.{heeds}
use Rattle.arguments.proofs.Cut.{moved, behind, same-meant, moved-meant}

abbrev pub All : {X : Type 0} → (X → Type 0) → List X → Type 0
All P [] = Unit {0}
All P (x ∷ xs) = P x × All P xs

-- no argument is for type t
abbrev Missing : TypeCode → List Argument → Type 0
Missing t ar = All (λ (a : Argument). (a.code.0 ≡ t.0) → ⊥) ar

all-to : {X : Type 0} (P Q : X → Type 0) (xs : List X) → ((x : X) → P x → Q x) → All P xs → All Q xs
all-to P Q [] f h = tt
all-to P Q (x ∷ xs) f h = (f x h.0, all-to P Q xs f h.1)

-- the last argument's type
pub last_code : (a : Argument) (ar : List Argument) → (last_argument (a ∷ ar)).code ≡ behind a.code ar
last_code a [] = refl
last_code a (b ∷ ar) = last_code b ar

behind-append : (t : TypeCode) (l m : List Argument) → behind t (l ++ m) ≡ behind (behind t l) m
behind-append t [] m = refl
behind-append t (a ∷ l) m = behind-append a.code l m

behind_moved : (k : ℕ) (t : TypeCode) (l : List Argument) → behind t (map (moved k) l) ≡ behind t l
behind_moved k t [] = refl
behind_moved k t (a ∷ l) = behind_moved k a.code l

-- the types of a list go down
module _ (cat list : Bytes) (g : good_catalogue cat ≡ true) where
  next-later : (before t : TypeCode) → good_next cat list before t ≡ true → before.0 < t.0
  unfolding good_next
  next-later before t h = elim (is (eqb before.0 0)) [
    | on e ↦ (let z : before.0 ≡ 0 = eqb-true before.0 0 e in omega (arith, type-first cat t (next-type cat list before t h)))
    | off e ↦
        let b : (eqb before.0 0 || type_beneath cat t before) ≡ true = both_right (is_type cat t) (eqb before.0 0 || type_beneath cat t before) h in
        beneath-below cat g t before (next-type cat list before t h) (rw e at b)
  ]

  down-past : (x : ℕ) (before : TypeCode) (ar : List Argument) → x ≤ before.0 → Downward cat list before ar → All (λ (a : Argument). x < a.code.0) ar
  down-past x before [] l d = tt
  down-past x before (a ∷ ar) l d =
      let h : before.0 < a.code.0 = next-later before a.code d.0 in
      (omega arith, down-past x a.code ar (omega arith) d.2)

  down-upto : (before : TypeCode) (ar : List Argument) → Downward cat list before ar → (before.0 ≤ (behind before ar).0) × All (λ (a : Argument). a.code.0 ≤ (behind before ar).0) ar
  down-upto before [] d = (omega arith, tt)
  down-upto before (a ∷ ar) d =
      let h : before.0 < a.code.0 = next-later before a.code d.0 in
      let r = down-upto a.code ar d.2 in
      (omega (arith, r.0), (r.0, r.1))

  down-type : (before : TypeCode) (a : Argument) (ar : List Argument) → Downward cat list before (a ∷ ar) → is_type cat (behind a.code ar) ≡ true
  down-type before a [] d = next-type cat list before a.code d.0
  down-type before a (b ∷ ar) d = down-type a.code b ar d.2

  pub last-type : (ar : List Argument) → is_nil ar ≡ false → Downward cat list (code 0) ar → is_type cat (last_argument ar).code ≡ true
  last-type [] e d = absurd (let z : ◌≡◌ {A = ℕ} 0 1 = cc in omega arith)
  last-type (a ∷ ar) e d = rw (last_code a ar) (down-type (code 0) a ar d)

  -- the last type of a list is beneath the type before it
  down-beneath : (before : TypeCode) (a : Argument) (ar : List Argument) → is_type cat before ≡ true → Downward cat list before (a ∷ ar) → type_beneath cat (behind a.code ar) before ≡ true
  down-beneath before a [] t d = next-beneath cat list before a.code d.0 t
  down-beneath before a (b ∷ ar) t d =
      let u : TypeCode = behind b.code ar in
      let h : is_type cat u ≡ true = down-type a.code b ar d.2 in
      beneath-trans cat g u a.code before (type-first cat u h) (type-last cat u h)
      (down-beneath a.code b ar (next-type cat list before a.code d.0) d.2) (next-beneath cat list before a.code d.0 t)

down-split : (cat list : Bytes) (before : TypeCode) (l m : List Argument) → Downward cat list before (l ++ m) → Downward cat list (behind before l) m
down-split cat list before [] m d = d
down-split cat list before (a ∷ l) m d = down-split cat list a.code l m d.2

module _ (cat list : Bytes) (t : TypeCode) where
  asked_in : (a : Argument) (ar : List Argument) → same_type a.code t ≡ true → asked_of cat list (a ∷ ar) t ≡ meant cat list a.qualification
  unfolding asked_of
  asked_in a ar e = rw (asked_of, e)

  asked-out : (a : Argument) (ar : List Argument) → same_type a.code t ≡ false → asked_of cat list (a ∷ ar) t ≡ asked_of cat list ar t
  unfolding asked_of
  asked-out a ar e = rw (asked_of, e)

  asked-none : (ar : List Argument) → Missing t ar → asked_of cat list ar t ≡ implied
  unfolding asked_of
  asked-none [] n = refl
  asked-none (a ∷ ar) n = asked-out a ar (ne_eqb a.code.0 t.0 n.0) ∙ asked-none ar n.1

-- what is asked of a type, and every argument for it: the types of a list are each named once
module _ (cat list : Bytes) (g : good_catalogue cat ≡ true) (s : Segment) where
  heeds-none : (ar : List Argument) → Missing s.code ar → every (heeds cat list s) ar ≡ true
  unfolding every
  heeds-none [] n = refl
  heeds-none (a ∷ ar) n = every-cons (heeds cat list s) a ar ∙ rw (ne_eqb a.code.0 s.code.0 n.0, heeds-none ar n.1)

  pub asked-heeds : (before : TypeCode) (ar : List Argument) → Downward cat list before ar → satisfies cat s (asked_of cat list ar s.code) ≡ every (heeds cat list s) ar
  unfolding asked_of every
  asked-heeds before [] d = refl
  asked-heeds before (a ∷ ar) d = elim (is (same_type a.code s.code)) [
    | on e ↦
        let z : a.code.0 ≡ s.code.0 = eqb-true a.code.0 s.code.0 e in
        let n : Missing s.code ar = all-to (λ (c : Argument). a.code.0 < c.code.0) (λ (c : Argument). (c.code.0 ≡ s.code.0) → ⊥) ar (λ c p q. omega arith) (down-past cat list g a.code.0 a.code ar (omega arith) d.2) in
        rw (asked_in cat list s.code a ar e, every-cons (heeds cat list s) a ar, e, heeds-none ar n) (sym (and-true (satisfies cat s (meant cat list a.qualification))))
    | off e ↦ rw (asked-out cat list s.code a ar e, every-cons (heeds cat list s) a ar, e) (asked-heeds a.code ar d.2)
  ]

-- what the arguments of the first part ask in the whole list, and those of the second
module _ (cat one two : Bytes) (t : TypeCode) where
  asked-first : (before : TypeCode) (l m : List Argument) → Downward cat one before l → Missing t m → asked_of cat (one ++ two) (l ++ m) t ≡ asked_of cat one l t
  unfolding asked_of
  asked-first before [] m d n = asked-none cat (one ++ two) t m n
  asked-first before (a ∷ l) m d n = elim (is (same_type a.code t)) [
    | on e ↦ asked_in cat (one ++ two) t a (l ++ m) e ∙ same-meant cat one two a.code a.qualification d.1 ∙ sym (asked_in cat one t a l e)
    | off e ↦ asked-out cat (one ++ two) t a (l ++ m) e ∙ asked-first a.code l m d.2 n ∙ sym (asked-out cat one t a l e)
  ]

  asked-moved : (m : List Argument) → asked_of cat (one ++ two) (map (moved (length one)) m) t ≡ asked_of cat two m t
  unfolding asked_of
  asked-moved [] = refl
  asked-moved (b ∷ m) = elim (is (same_type b.code t)) [
    | on e ↦ asked_in cat (one ++ two) t (moved (length one) b) (map (moved (length one)) m) e ∙ moved-meant cat one two b.qualification ∙ sym (asked_in cat two t b m e)
    | off e ↦ asked-out cat (one ++ two) t (moved (length one) b) (map (moved (length one)) m) e ∙ asked-moved m ∙ sym (asked-out cat two t b m e)
  ]

  asked-second : (l m : List Argument) → Missing t l → asked_of cat (one ++ two) (l ++ map (moved (length one)) m) t ≡ asked_of cat two m t
  asked-second [] m n = asked-moved m
  asked-second (a ∷ l) m n = asked-out cat (one ++ two) t a (l ++ map (moved (length one)) m) (ne_eqb a.code.0 t.0 n.0) ∙ asked-second l m n.1

-- LAW: what the whole list asks of a segment is what both parts ask; l and m are the arguments of the two
pub record Asks (cat one two : Bytes) (l m : List Argument) : Type 0 where
  pub first-type : is_type cat (last_argument l).code ≡ true
  pub second_type : is_type cat (last_argument m).code ≡ true
  pub beneath : type_beneath cat (last_argument m).code (last_argument l).code ≡ true
  -- the last type of the whole list is that of the second part
  pub last : (last_argument (l ++ map (moved (length one)) m)).code ≡ (last_argument m).code
  -- the first part asks nothing of a type past its last
  pub past : (t : TypeCode) → (last_argument l).code.0 < t.0 → asked_of cat one l t ≡ implied
  pub both : (t : TypeCode) (s : Segment) → satisfies cat s (asked_of cat (one ++ two) (l ++ map (moved (length one)) m) t)
      ≡ (satisfies cat s (asked_of cat one l t) && satisfies cat s (asked_of cat two m t))

module _ (cat one two : Bytes) (g : good_catalogue cat ≡ true) where
  pub asks : (l m : List Argument) → is_nil l ≡ false → is_nil m ≡ false → Downward cat one (code 0) l → Downward cat two (code 0) m
      → Downward cat (one ++ two) (code 0) (l ++ map (moved (length one)) m) → Asks cat one two l m
  asks [] m x y d₁ d₂ d = absurd (let z : ◌≡◌ {A = ℕ} 0 1 = cc in omega arith)
  asks (a ∷ l) [] x y d₁ d₂ d = absurd (let z : ◌≡◌ {A = ℕ} 0 1 = cc in omega arith)
  asks (a ∷ l) (b ∷ m) x y d₁ d₂ d =
      let k : ℕ = length one in
      let t₁ : TypeCode = behind a.code l in
      let e₁ : (last_argument (a ∷ l)).code ≡ t₁ = last_code a l in
      let e₂ : (last_argument (b ∷ m)).code ≡ behind b.code m = last_code b m in
      let d' : Downward cat (one ++ two) t₁ (map (moved k) (b ∷ m)) = down-split cat (one ++ two) (code 0) (a ∷ l) (map (moved k) (b ∷ m)) d in
      let h₁ : is_type cat t₁ ≡ true = down-type cat one g (code 0) a l d₁ in
      let upto : All (λ (c : Argument). c.code.0 ≤ t₁.0) (a ∷ l) = (down-upto cat one g (code 0) (a ∷ l) d₁).1 in
      let past : All (λ (c : Argument). t₁.0 < c.code.0) (map (moved k) (b ∷ m)) = down-past cat (one ++ two) g t₁.0 t₁ (map (moved k) (b ∷ m)) (omega arith) d' in
      let none₁ : (t : TypeCode) → t₁.0 < t.0 → asked_of cat one (a ∷ l) t ≡ implied = λ t h. asked-none cat one t (a ∷ l) (all-to (λ (c : Argument). c.code.0 ≤ t₁.0) (λ (c : Argument). (c.code.0 ≡ t.0) → ⊥) (a ∷ l) (λ c p q. omega arith) upto) in
      record {
        first-type = last-type cat one g (a ∷ l) x d₁;
        second_type = last-type cat two g (b ∷ m) y d₂;
        beneath = rw (e₁, e₂) (ap (λ (t : TypeCode). type_beneath cat t t₁) (sym (behind_moved k b.code m)) ∙ down-beneath cat (one ++ two) g t₁ (moved k b) (map (moved k) m) h₁ d');
        last = last_code a (l ++ map (moved k) (b ∷ m)) ∙ behind-append a.code l (map (moved k) (b ∷ m)) ∙ behind_moved k b.code m ∙ sym e₂;
        past = λ t h. none₁ t (rw e₁ at h);
        both = λ t c. elim (side t₁.0 t.0) [
          | inside h ↦ (
              let n : Missing t (a ∷ l) = all-to (λ (c : Argument). c.code.0 ≤ t₁.0) (λ (c : Argument). (c.code.0 ≡ t.0) → ⊥) (a ∷ l) (λ c p q. omega arith) upto in
              rw (asked-second cat one two t (a ∷ l) (b ∷ m) n, none₁ t h))
          | outside h ↦ (
              let n : Missing t (map (moved k) (b ∷ m)) = all-to (λ (c : Argument). t₁.0 < c.code.0) (λ (c : Argument). (c.code.0 ≡ t.0) → ⊥) (map (moved k) (b ∷ m)) (λ c p q. omega arith) past in
              rw (asked-first cat one two t (code 0) (a ∷ l) (map (moved k) (b ∷ m)) d₁ n, ← asked-moved cat one two t (b ∷ m), asked-none cat (one ++ two) t (map (moved k) (b ∷ m)) n)
              (sym (and-true (satisfies cat c (asked_of cat one (a ∷ l) t)))))
        ];
      }
