-- What an entry says of its type, for those who ask by it. Assumes nothing.
use Rattle.std.specs.Prelude.{None, Some}
use mathlib.Core.Path.{◌≡◌, refl, ap, sym, ◌∙◌, subst}
use mathlib.Core.Bool.{true, false, not}
use mathlib.Core.List.{List, [], ◌∷◌, ◌++◌, append-nil}
use mathlib.Core.Logic.{◌⊎◌, inl, inr}
use Prim.Native.Nat.{ℕ, ◌+◌, ◌-◌, ◌<◌, ◌≤◌}
use native.Mathlib.Omega.{arith}
use lib.Dec.{eqb}
use lib.ListN.{length}
use borrow.Author.Tests.{ne_eqb, eqb-true, eqb-false}
use Rattle.terms.specs.declared.TypeCode.{TypeCode}
use Rattle.terms.specs.declared.Argument.{Argument}
use Rattle.terms.specs.Names.{same_type, Qualification}
use Rattle.forest.specs.Good as Good
use Rattle.rules.specs.Block.{Bytes, every}
use Rattle.rules.specs.Catalogue.{good_catalogue}
use Rattle.rules.specs.Cells.{Segment}
use Rattle.rules.specs.Arguments.{list_read, asked_of, meant, is_qualified}
use Rattle.rules.specs.Matching.{satisfies, is_implied}
use Rattle.catalogue.proofs.Hierarchy.{field-facts}
use Rattle.arguments.specs.Sound.{SoundList, GoodQualification, Wanted, Implied, Named, wanted_of, meaning}
use Rattle.arguments.specs.Asked.{Pair, entry_for, test_at}
use Rattle.arguments.specs.Alone.{is_alone, alone_of}
use Rattle.arguments.proofs.Sound.{list-empty}
use Rattle.arguments.proofs.Walk.{wanted-here, wanted-next}
use Rattle.arguments.proofs.Complete.{asked-wanted}
use Rattle.rules.proofs.Every.{every_in, every-out}
use Rattle.arguments.proofs.Cut.{same-meant, moved-meant}
use Rattle.arguments.proofs.Placed.{PlacedWanted, GoodWanted, wanted-placed, wanted-good, or_else, moved_wanted, pair-wanted}

-- LAW: a list by itself, with an empty one behind it
pub pair-alone : (cat list : Bytes) → SoundList cat list → Pair cat list []
pair-alone cat list s = record {
  first = s;
  second = record { catalogue = s.catalogue; read = rw (list-empty cat [] refl) };
  joined = rw append-nil s;
}

-- what a list wants, by its entry: a value begins at byte 3 at least, so that 1 and 2 are no test's
module _ (cat list : Bytes) where
  wanted-least : (w : Wanted) → PlacedWanted list w → 1 ≤ entry_for 0 w
  wanted-least Implied h = omega arith
  wanted-least (Named None) h = omega arith
  wanted-least (Named (Some x)) h = omega (arith, h.0)

  wanted-implied : (w : Wanted) → PlacedWanted list w → eqb (entry_for 0 w) 1 ≡ is_implied (meaning cat list w)
  wanted-implied Implied h = refl
  wanted-implied (Named None) h = refl
  wanted-implied (Named (Some x)) h = ne_eqb (0 + x.value) 1 (λ z. omega (arith, h.0))

  wanted-free : (w : Wanted) → PlacedWanted list w → entry_for 0 w < 3 → (s : Segment) → true ≡ satisfies cat s (meaning cat list w)
  wanted-free Implied h l s = refl
  wanted-free (Named None) h l s = refl
  wanted-free (Named (Some x)) h l s = absurd (omega (arith, h.0))

-- what two lists want, a and b, as one list: a test of the first has its value, of a byte at least, within it, and one of the second lies behind
module _ (cat one two : Bytes) (g : good_catalogue cat ≡ true) (u : TypeCode) where
  first_of : (a b : Wanted) → GoodWanted cat one u a → PlacedWanted one a → PlacedWanted two b → (e : ℕ) → e ≡ entry_for 0 (or_else a (moved_wanted (length one) b)) → 3 ≤ e
      → e < length one
      → GoodQualification cat one u (test_at one e) × (meant cat one (test_at one e) ≡ meaning cat (one ++ two) (or_else a (moved_wanted (length one) b)))
  first_of (Named None) b h p q e i l m = absurd (omega arith)
  first_of (Named (Some x)) b h p q e i l m =
      let z : x.value ≡ e = omega arith in
      subst (λ (t : Qualification). GoodQualification cat one u t × (meant cat one t ≡ meant cat (one ++ two) (Some x))) (p.1 ∙ ap (test_at one) z)
      (h, sym (same-meant cat one two u (Some x) h))
  first_of Implied Implied h p q e i l m = absurd (omega arith)
  first_of Implied (Named None) h p q e i l m = absurd (omega arith)
  first_of Implied (Named (Some x)) h p q e i l m = absurd (omega arith)

  second-of : (a b : Wanted) → GoodWanted cat one u a → GoodWanted cat two u b → PlacedWanted two b → (e : ℕ) → e ≡ entry_for 0 (or_else a (moved_wanted (length one) b)) → 3 ≤ e
      → length one ≤ e
      → (3 ≤ e - length one) × GoodQualification cat two u (test_at two (e - length one))
      × (meant cat two (test_at two (e - length one)) ≡ meaning cat (one ++ two) (or_else a (moved_wanted (length one) b)))
  second-of (Named None) b h k q e i l m = absurd (omega arith)
  second-of (Named (Some x)) b h k q e i l m = absurd (omega (arith, h.within, (field-facts cat g x.field h.first h.last).long-least))
  second-of Implied Implied h k q e i l m = absurd (omega arith)
  second-of Implied (Named None) h k q e i l m = absurd (omega arith)
  second-of Implied (Named (Some x)) h k q e i l m =
      let z : x.value ≡ e - length one = omega arith in (
        omega (arith, q.0),
        subst (λ (t : Qualification). GoodQualification cat two u t) (q.1 ∙ ap (test_at two) z) k,
        ap (meant cat two) (sym (q.1 ∙ ap (test_at two) z)) ∙ sym (moved-meant cat one two (Some x)),
      )

-- what the two lists want as one
abbrev both : Bytes → Bytes → Bytes → TypeCode → Wanted
both cat one two u = wanted_of (list_read cat (one ++ two)).arguments u

module _ {cat one two : Bytes} (p : Pair cat one two) (u : TypeCode) (e : ℕ) (is : e ≡ entry_for 0 (wanted_of (list_read cat (one ++ two)).arguments u)) where
  -- LAW: an entry of 1 is a level that is left out; one below 3 tests nothing
  pub entry-least : 1 ≤ e
  entry-least = rw is (wanted-least cat (one ++ two) (both cat one two u) (wanted-placed cat (one ++ two) u p.joined))

  pub entry-implied : eqb e 1 ≡ is_implied (asked_of cat (one ++ two) (list_read cat (one ++ two)).arguments u)
  entry-implied = rw (asked-wanted, is) (wanted-implied cat (one ++ two) (both cat one two u) (wanted-placed cat (one ++ two) u p.joined))

  pub entry_free : e < 3 → (s : Segment) → true ≡ satisfies cat s (asked_of cat (one ++ two) (list_read cat (one ++ two)).arguments u)
  entry_free h s = rw asked-wanted (wanted-free cat (one ++ two) (both cat one two u) (wanted-placed cat (one ++ two) u p.joined) (rw is at h) s)

  -- LAW: one of 3 and more is where a test's value begins, in the first list or in the second
  pub test-first : 3 ≤ e → e < length one
      → GoodQualification cat one u (test_at one e) × (meant cat one (test_at one e) ≡ asked_of cat (one ++ two) (list_read cat (one ++ two)).arguments u)
  test-first a b = rw (asked-wanted cat (one ++ two) (list_read cat (one ++ two)).arguments u, pair-wanted cat one two u p)
      (first_of cat one two p.first.catalogue u (wanted_of (list_read cat one).arguments u) (wanted_of (list_read cat two).arguments u)
      (wanted-good cat one u p.first) (wanted-placed cat one u p.first) (wanted-placed cat two u p.second) e
      (rw (pair-wanted cat one two u p) at is) a b)

  pub test-second : 3 ≤ e → length one ≤ e
      → (3 ≤ e - length one) × GoodQualification cat two u (test_at two (e - length one))
      × (meant cat two (test_at two (e - length one)) ≡ asked_of cat (one ++ two) (list_read cat (one ++ two)).arguments u)
  test-second a b = rw (asked-wanted cat (one ++ two) (list_read cat (one ++ two)).arguments u, pair-wanted cat one two u p)
      (second-of cat one two p.first.catalogue u (wanted_of (list_read cat one).arguments u) (wanted_of (list_read cat two).arguments u)
      (wanted-good cat one u p.first) (wanted-good cat two u p.second) (wanted-placed cat two u p.second) e
      (rw (pair-wanted cat one two u p) at is) a b)

-- an argument for another type than t
not_tested : (t : TypeCode) (a : Argument) → is_alone t a ≡ true → (a.code.0 ≡ t.0 → ⊥) → a.qualification ≡ None
not_tested t a h n = free a.qualification (rw (ne_eqb a.code.0 t.0 n) at h)
  where
    free : (q : Qualification) → (not (is_qualified q) ≡ true) → q ≡ None
    free None e = refl
    free (Some x) e = absurd (let z : ◌≡◌ {A = ℕ} 0 1 = cc in omega arith)

-- each argument for another type tests nothing, so the first one for it does not either
others : (t u : TypeCode) (ar : List Argument) → every (is_alone t) ar ≡ true → (u.0 ≡ t.0 → ⊥) → (wanted_of ar u ≡ Implied) ⊎ (wanted_of ar u ≡ Named None)
unfolding wanted_of
others t u [] h n = inl refl
others t u (a ∷ ar) h n = elim (Good.is (is_alone t a)) [
  | Good.off x ↦ absurd (let z : false ≡ true = sym (every-out (is_alone t) a ar x) ∙ h in let y : ◌≡◌ {A = ℕ} 0 1 = cc in omega arith)
  | Good.on x ↦ elim (Good.is (same_type a.code u)) [
    | Good.on y ↦
        let z : a.code.0 ≡ u.0 = eqb-true a.code.0 u.0 y in
        inr (wanted-here a ar u z ∙ ap Named (not_tested t a x (λ k. n (sym z ∙ k))))
    | Good.off y ↦ rw (wanted-next a ar u (eqb-false a.code.0 u.0 y)) (others t u ar (sym (every_in (is_alone t) a ar x) ∙ h) n)
  ]
]

-- LAW: where nothing but type t is tested, the answer is its entry, and every other type is left out or named only
module _ (t : TypeCode) (ar : List Argument) (e : ℕ) (is : alone_of t ar ≡ Some e) where
  alone-told : (every (is_alone t) ar ≡ true) × (e ≡ entry_for 0 (wanted_of ar t))
  unfolding alone_of
  alone-told = elim (Good.is (every (is_alone t) ar)) [
    | Good.on h ↦ (h, (let z = rw h at is in cc))
    | Good.off h ↦ absurd (let z = rw h at is in let y : ◌≡◌ {A = ℕ} 0 1 = cc in omega arith)
  ]

  pub alone-entry : e ≡ entry_for 0 (wanted_of ar t)
  alone-entry = alone-told.1

  pub alone-others : (u : TypeCode) → (u.0 ≡ t.0 → ⊥) → (wanted_of ar u ≡ Implied) ⊎ (wanted_of ar u ≡ Named None)
  alone-others u n = others t u ar alone-told.0 n
