-- Bytes of an argument written into a list's buffer, and what spoils it: one law for each branch of the code. Assumes nothing.
use mathlib.Core.Path.{◌≡◌, refl, sym, ◌∙◌}
use mathlib.Core.List.{[], ◌∷◌, ◌++◌, append_assoc}
use Prim.Native.Nat.{ℕ, suc, ◌+◌, ◌-◌, ◌<◌, ◌≤◌}
use native.Mathlib.Omega.{arith}
use native.Mathlib.Numerals.{add-one}
use lib.ListN.{length, take, drop, set, length-append, length-drop, length-set}
use lib.Seq.{sets-eq, length-take-le, take_at, drop_at, drop-drop}
use borrow.Author.Tests.{le-leb, lt-leb, eq-eqb, ne_eqb}
use borrow.Rule.Slice.PartMut.{put_mid, mid_len}
use Rattle.terms.specs.Names.{field}
use Rattle.rules.specs.Block.{Bytes}
use Rattle.rules.specs.Catalogue.{field_length}
use Rattle.blocks.proofs.Lent.{lent-tail}
use Rattle.parts.specs.Lists.{built, written, spoiled, with_argument, list_all, list_test}

pub first-set : (b : Bytes) (x : ℕ) → 0 < length b → set b 0 x ≡ x ∷ drop 1 b
first-set [] x h = absurd (omega arith)
first-set (y ∷ b) x h = refl

-- two stores, and three with a tail that was lent behind them
pub two-written : (b : Bytes) (at x y : ℕ) → at + 2 ≤ length b → set (set b at x) (at + 1) y ≡ written b at (x ∷ y ∷ [])
unfolding written
two-written b at x y h = rw (add-one at) (sets-eq (x ∷ y ∷ []) b at h)

abbrev pub three_set : Bytes → ℕ → ℕ → ℕ → ℕ → Bytes
three_set b at x y z = set (set (set b at x) (at + 1) y) (at + 2) z

three-set : (b : Bytes) (at x y z : ℕ) → at + 3 ≤ length b → three_set b at x y z ≡ (take at b ++ (x ∷ y ∷ z ∷ [])) ++ drop (at + 3) b
three-set b at x y z h =
    let e : at + 2 ≡ suc (suc at) = omega arith in
    rw (add-one at, e) (sets-eq (x ∷ y ∷ z ∷ []) b at h)

module _ (b : Bytes) (at x y z : ℕ) (v : Bytes) (room : at + 3 + length v ≤ length b) where
  front : length (take at b ++ (x ∷ y ∷ z ∷ [])) ≡ at + 3
  front = omega (arith, length-append (take at b) (x ∷ y ∷ z ∷ []), length-take-le at b (omega arith))

  pub test-written : (w : Bytes) → w ≡ v ++ drop (length v) (take (length (three_set b at x y z) - (at + 3)) (drop (at + 3) (three_set b at x y z)))
      → put_mid (at + 3) (length (three_set b at x y z) - (at + 3)) (three_set b at x y z) w ≡ written b at (x ∷ y ∷ z ∷ v)
  unfolding written
  test-written w e =
      let p : Bytes = take at b ++ (x ∷ y ∷ z ∷ []) in
      let s : three_set b at x y z ≡ p ++ drop (at + 3) b = three-set b at x y z (omega arith) in
      let k : at + 3 + length v ≡ at + suc (suc (suc (length v))) = omega arith in
      lent-tail (λ (t : Bytes). v ++ drop (length v) t) (three_set b at x y z) w (at + 3) e
      ∙ rw (s, take_at p (drop (at + 3) b) (at + 3) front, drop_at p (drop (at + 3) b) (at + 3) front, drop-drop, k) (simp append_assoc)

  -- the tail has room for v, and the whole keeps its length
  pub test-room : length v ≤ length (take (length (three_set b at x y z) - (at + 3)) (drop (at + 3) (three_set b at x y z)))
  test-room =
      let l : length (three_set b at x y z) ≡ length b = simp length-set in
      omega (arith, mid_len (at + 3) (length (three_set b at x y z)) (three_set b at x y z) (omega arith))

  pub test-length : length (written b at (x ∷ y ∷ z ∷ v)) ≡ length b
  unfolding written
  test-length = simp (length-append, length-drop) (omega (arith, length-take-le at b (omega arith)))

-- the branches of `list_all` and `list_test`: no operator, a value of another length, no room, done
module _ (b : Bytes) (used : ℕ) where
  pub room-none : (argument : Bytes) → 1845 < used + length argument → spoiled b ≡ with_argument b used argument
  unfolding with_argument
  room-none argument h = rw (lt-leb (used + length argument) 1845 h)

  pub room-some : (argument : Bytes) → used + length argument ≤ 1845
      → built (used + length argument) (written b used argument) ≡ with_argument b used argument
  unfolding with_argument
  room-some argument h = rw (le-leb (used + length argument) 1845 h)

  pub all_none : (code : ℕ) → 1843 < used → spoiled b ≡ list_all b used code
  unfolding list_all
  all_none code h = room-none (code ∷ 0 ∷ []) (omega arith)

  pub all-some : (code : ℕ) (w : Bytes) → used ≤ 1843 → w ≡ written b used (code ∷ 0 ∷ []) → built (used + 2) w ≡ list_all b used code
  unfolding list_all
  all-some code w h e = rw e (room-some (code ∷ 0 ∷ []) (omega arith))

  module _ (cat : Bytes) (code operator f : ℕ) (value : Bytes) where
    pub test-none : operator ≡ 0 → spoiled b ≡ list_test cat b used code operator f value
    unfolding list_test
    test-none e = rw (eq-eqb operator 0 e)

    module _ (some : operator ≡ 0 → ⊥) (long : ℕ) (has : long ≡ field_length cat (field f)) where
      pub test-unlike : (length value ≡ long → ⊥) → spoiled b ≡ list_test cat b used code operator f value
      unfolding list_test
      test-unlike h = rw (ne_eqb operator 0 some, ne_eqb (length value) (field_length cat (field f)) (λ e. h (e ∙ sym has)))

      module _ (like : length value ≡ long) where
        tested : list_test cat b used code operator f value ≡ with_argument b used (code ∷ operator ∷ f ∷ value)
        unfolding list_test
        tested = rw (ne_eqb operator 0 some, eq-eqb (length value) (field_length cat (field f)) (like ∙ has))

        pub test-cut : 1842 < used + long → spoiled b ≡ list_test cat b used code operator f value
        test-cut h = room-none (code ∷ operator ∷ f ∷ value) (omega arith) ∙ sym tested

        pub test-some : (w : Bytes) → used + long ≤ 1842 → w ≡ written b used (code ∷ operator ∷ f ∷ value)
            → built (used + 3 + long) w ≡ list_test cat b used code operator f value
        test-some w h e =
            let k : used + 3 + long ≡ used + length (code ∷ operator ∷ f ∷ value) = omega arith in
            rw (k, e) (room-some (code ∷ operator ∷ f ∷ value) (omega arith)) ∙ sym tested
