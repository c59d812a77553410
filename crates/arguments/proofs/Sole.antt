-- Lists that test nothing but one type, one argument at a time, and two of them as one. Assumes nothing.
use Rattle.terms.specs.Names.{Qualification}
use Rattle.std.specs.Prelude.{None, Some, Option}
use mathlib.Core.Path.{◌≡◌, refl, ap, sym, ◌∙◌}
use mathlib.Core.Bool.{Bool, true, false, ◌&&◌}
use mathlib.Core.List.{List, [], ◌∷◌, ◌++◌, map}
use Prim.Native.Nat.{ℕ, ◌<◌, ◌≤◌}
use native.Mathlib.Omega.{arith}
use lib.ListN.{length}
use borrow.Author.Tests.{eq-eqb, ne_eqb}
use Rattle.terms.specs.declared.TypeCode.{TypeCode}
use Rattle.terms.specs.declared.Argument.{Argument}
use Rattle.terms.specs.Choice.{pick}
use Rattle.forest.specs.Good.{on, off, is}
use Rattle.rules.specs.Block.{Bytes, every}
use Rattle.rules.specs.Arguments.{list_read, is_qualified}
use Rattle.arguments.specs.Sound.{SoundList, untested, wanted_of}
use Rattle.arguments.specs.Asked.{Pair, marked, entry_for, set_once}
use Rattle.arguments.specs.Alone.{is_alone, alone_behind, alone_of}
use Rattle.rules.proofs.Every.{every_in, every-out, every_append, every_map}
use Rattle.arguments.proofs.Cut.{moved_test, moved}
use Rattle.arguments.proofs.Walk.{Walked, left, walked_start, left-start, left_end, walked_next, left-next}
use Rattle.arguments.proofs.Placed.{placed_at, wanted-placed, pair-arguments, pair-wanted}
use Rattle.arguments.proofs.Once.{marked_other, once-end, once-here, once-kept, once-passed, once-joined}

module _ (base : ℕ) (t : TypeCode) (e : ℕ) where
  -- where no argument is left, nothing more is tested
  pub alone-end : Some e ≡ alone_behind base t [] e
  unfolding alone_behind every
  alone-end = ap Some (sym (once-end base t.0 e))

  module _ (a : Argument) (ar : List Argument) where
    -- another type: tested, or named only
    module _ (n : a.code.0 ≡ t.0 → ⊥) where
      pub alone-other : is_qualified a.qualification ≡ true → None ≡ alone_behind base t (a ∷ ar) e
      unfolding alone_behind
      alone-other q = rw (every-out (is_alone t) a ar (rw (ne_eqb a.code.0 t.0 n, q)))

      pub alone-passed : is_qualified a.qualification ≡ false → alone_behind base t ar e ≡ alone_behind base t (a ∷ ar) e
      unfolding alone_behind
      alone-passed q = rw (every_in (is_alone t) a ar (rw (ne_eqb a.code.0 t.0 n, q)), once-passed base t.0 e a ar n)

    -- the type itself: its entry is set here, or was before
    module _ (y : a.code.0 ≡ t.0) where
      own : is_alone t a ≡ true
      own = rw (eq-eqb a.code.0 t.0 y)

      pub alone-here : e ≡ 1 → (marked base a.qualification ≡ 1 → ⊥) → alone_behind base t ar (marked base a.qualification) ≡ alone_behind base t (a ∷ ar) e
      unfolding alone_behind
      alone-here i m = rw (every_in (is_alone t) a ar own, once-here base t.0 e a ar y i m)

      pub alone-kept : (e ≡ 1 → ⊥) → alone_behind base t ar e ≡ alone_behind base t (a ∷ ar) e
      unfolding alone_behind
      alone-kept i = rw (every_in (is_alone t) a ar own, once-kept base t.0 e a ar i)

-- the walk has come to byte `at`, and what it has before it answers as the whole list
pub record Telling (cat list : Bytes) (base : ℕ) (t : TypeCode) (first e : ℕ) (at : ℕ) : Type 0 where
  pub walk : Walked cat list at
  pub same : alone_behind base t (left walk) e ≡ alone_behind base t (list_read cat list).arguments first

module _ (cat list : Bytes) (base : ℕ) (t : TypeCode) (first : ℕ) where
  pub telling-start : SoundList cat list → Telling cat list base t first first 0
  telling-start s = record { walk = walked_start cat list s; same = rw (left-start cat list s) }

  module _ (e : ℕ) (at : ℕ) (m : Telling cat list base t first e at) where
    pub telling-end : length list ≤ at → Some e ≡ alone_behind base t (list_read cat list).arguments first
    telling-end h = alone-end base t e ∙ sym (ap (λ (ar : List Argument). alone_behind base t ar e) (left_end cat list at h m.walk)) ∙ m.same

    onward : at < length list → List Argument
    onward h = left (walked_next cat list at h m.walk)

    module _ (h : at < length list) {a : Argument} (y : a ≡ untested cat list at) where
      taken : alone_behind base t (a ∷ onward h) e ≡ alone_behind base t (list_read cat list).arguments first
      unfolding onward
      taken =
          ap (λ (b : Argument). alone_behind base t (b ∷ onward h) e) y ∙ sym (ap (λ (ar : List Argument). alone_behind base t ar e) (left-next cat list at h m.walk))
          ∙ m.same

      told : (v : ℕ) → alone_behind base t (onward h) v ≡ alone_behind base t (a ∷ onward h) e → Telling cat list base t first v a.next
      unfolding onward
      told v z = let q = z ∙ taken in rw y (record { walk = walked_next cat list at h m.walk; same = q })

      pub telling-other : (a.code.0 ≡ t.0 → ⊥) → is_qualified a.qualification ≡ true → None ≡ alone_behind base t (list_read cat list).arguments first
      telling-other n q = alone-other base t e a (onward h) n q ∙ taken

      pub telling-passed : (a.code.0 ≡ t.0 → ⊥) → is_qualified a.qualification ≡ false → Telling cat list base t first e a.next
      telling-passed n q = told e (alone-passed base t e a (onward h) n q)

      pub telling-here : a.code.0 ≡ t.0 → e ≡ 1 → {v : ℕ} → v ≡ marked base a.qualification → Telling cat list base t first v a.next
      telling-here k i w =
          rw w (told (marked base a.qualification) (alone-here base t e a (onward h) k i (rw y (marked_other list base (untested cat list at).qualification (placed_at list at)))))

      pub telling-kept : a.code.0 ≡ t.0 → (e ≡ 1 → ⊥) → Telling cat list base t first e a.next
      telling-kept k i = told e (alone-kept base t e a (onward h) k i)

-- moved arguments test what they tested
moved-tested : (k : ℕ) (q : Qualification) → is_qualified (moved_test k q) ≡ is_qualified q
moved-tested k None = refl
moved-tested k (Some x) = refl

-- LAW: two lists as one test nothing but type t where each does
module _ (cat one two : Bytes) (t : TypeCode) (p : Pair cat one two) where
  -- since moving an argument changes neither its type nor whether it tests
  all-joined : every (is_alone t) (list_read cat (one ++ two)).arguments ≡ (every (is_alone t) (list_read cat one).arguments && every (is_alone t) (list_read cat two).arguments)
  all-joined =
      let l : List Argument = (list_read cat one).arguments in
      let m : List Argument = (list_read cat two).arguments in
      ap (every (is_alone t)) (pair-arguments cat one two p)
      ∙ every_append (is_alone t) l (map (moved (length one)) m)
      ∙ ap (λ (b : Bool). every (is_alone t) l && b) (every_map (is_alone t) (moved (length one)) m (λ a. rw (moved-tested (length one) a.qualification)))

  module _ {r : Option ℕ} (e : r ≡ alone_behind 0 t (list_read cat one).arguments 1) where
    pub joined-others : r ≡ None → None ≡ alone_of t (list_read cat (one ++ two)).arguments
    unfolding alone_behind alone_of
    joined-others o = elim (is (every (is_alone t) (list_read cat one).arguments)) [
      | on y ↦ absurd (let z = rw y at e in let k : ◌≡◌ {A = ℕ} 0 1 = cc in omega arith)
      | off y ↦ rw (all-joined, y)
    ]

    own-joined : {n : ℕ} → r ≡ Some n → alone_behind (length one) t (list_read cat two).arguments n ≡ alone_of t (list_read cat (one ++ two)).arguments
    unfolding alone_behind alone_of set_once
    own-joined {n} o = elim (is (every (is_alone t) (list_read cat one).arguments)) [
      | off y ↦ absurd (let z = rw y at e in let k : ◌≡◌ {A = ℕ} 0 1 = cc in omega arith)
      | on y ↦
          let z = rw y at e in
          let k : n ≡ entry_for 0 (wanted_of (list_read cat one).arguments t) = cc in
          rw (all-joined, y, k, pair-wanted cat one two t p)
          (ap (λ (x : ℕ). pick (every (is_alone t) (list_read cat two).arguments) (Some x) None)
          (once-joined one (length one) (wanted_of (list_read cat one).arguments t) (wanted_of (list_read cat two).arguments t) (wanted-placed cat one t p.first)))
    ]

    pub joined-own : {n : ℕ} → r ≡ Some n → {s : Option ℕ} → s ≡ alone_behind (length one) t (list_read cat two).arguments n → s ≡ alone_of t (list_read cat (one ++ two)).arguments
    joined-own o h = h ∙ own-joined o
