-- A part of a block that was lent and is back, said of the whole block. Assumes nothing.
use mathlib.Core.Path.{◌≡◌, sym, ap, ◌∙◌}
use mathlib.Core.List.{[], ◌++◌, append-nil}
use Prim.Native.Nat.{ℕ, ◌+◌, ◌-◌, ◌≤◌}
use native.Mathlib.Omega.{arith}
use lib.ListN.{length, take, drop, length-drop, drop_of_length-le, take-append-drop}
use lib.Seq.{take_at, drop_at, take_all, drop-drop, length-take-le}
use borrow.Rule.Slice.PartMut.{mid_of, put_mid, mid_len}
use Rattle.rules.specs.Block.{Bytes}

-- b is what lies before the part, the part m from byte a to byte e, and what lies behind it
module _ (b p m q : Bytes) (a e : ℕ) (is : b ≡ p ++ (m ++ q)) (start : length p ≡ a) (end : a + length m ≡ e) where
  behind : drop a b ≡ m ++ q
  behind = ap (drop a) is ∙ drop_at p (m ++ q) a start

  long : length m ≡ e - a
  long = omega arith

  -- what is lent
  pub lent : mid_of a (e - a) b ≡ m
  lent = ap (take (e - a)) behind ∙ take_at m q (e - a) long

  -- and what the whole is when y comes back in its place
  pub back : (y : Bytes) → put_mid a (e - a) b y ≡ p ++ (y ++ q)
  back y =
      ap (λ (t : Bytes). t ++ (y ++ drop (e - a) (drop a b))) (ap (take a) is ∙ take_at p (m ++ q) a start)
      ∙ ap (λ (t : Bytes). p ++ (y ++ t)) (ap (drop (e - a)) behind ∙ drop_at m q (e - a) long)

-- every block has such parts
pub cut : (b : Bytes) (a e : ℕ) → a ≤ e → b ≡ take a b ++ (take (e - a) (drop a b) ++ drop e b)
cut b a e l =
    let z : a + (e - a) ≡ e = omega arith in
    sym (take-append-drop a b)
    ∙ ap (λ (t : Bytes). take a b ++ t)
    (sym (take-append-drop (e - a) (drop a b))
    ∙ ap (λ (t : Bytes). take (e - a) (drop a b) ++ t) (drop-drop (e - a) a b ∙ ap (λ (k : ℕ). drop k b) z))

-- z is written over, all of it
pub anew : (s z y : Bytes) → length z ≤ length s → y ≡ s ++ drop (length s) z → y ≡ s
anew s z y l e = e ∙ ap (λ (t : Bytes). s ++ t) (drop_of_length-le z {i = length s} l) ∙ append-nil s

-- a part all of whose bytes are written anew
pub put-part : (tab from y : Bytes) (start end : ℕ) → length from ≡ end - start → start ≤ end → end ≤ length tab
    → y ≡ from ++ drop (length from) (mid_of start (end - start) tab) → put_mid start (end - start) tab y ≡ take start tab ++ (from ++ drop end tab)
put-part tab from y start end f l in-tab e =
    let n : length (mid_of start (end - start) tab) ≡ end - start = mid_len start end tab in-tab in
    back tab (take start tab) (mid_of start (end - start) tab) (drop end tab) start end (cut tab start end l)
    (length-take-le start tab (omega arith)) (omega arith) y
    ∙ ap (λ (t : Bytes). take start tab ++ (t ++ drop end tab)) (anew from (mid_of start (end - start) tab) y (omega arith) e)

-- a tail that was lent, said of the whole: F is what the callee did to it
pub lent-tail : (F : Bytes → Bytes) (a y : Bytes) (at : ℕ) → y ≡ F (take (length a - at) (drop at a))
    → put_mid at (length a - at) a y ≡ take at a ++ F (drop at a)
lent-tail F a y at e =
    let w : take (length a - at) (drop at a) ≡ drop at a = take_all (length a - at) (drop at a) (simp length-drop (omega arith)) in
    let z : drop (length a - at) (drop at a) ≡ [] = drop_of_length-le (drop at a) {i = length a - at} (simp length-drop (omega arith)) in
    simp (z, append-nil) (ap (λ (t : Bytes). take at a ++ t) (e ∙ ap F w))
