-- A table whose rows each name their own line holds each of them once. Assumes nothing.
use Rattle.std.specs.Prelude.{Some}
use mathlib.Core.Path.{◌≡◌, ap}
use mathlib.Core.Bool.{Bool, true, false, ◌&&◌}
use mathlib.Core.List.{List, [], ◌∷◌}
use Prim.Native.Nat.{ℕ, zero, suc, ◌+◌}
use native.Mathlib.Omega.{arith}
use lib.Dec.{T, eqb, eqb→eq}
use Rattle.terms.specs.Paper.{printed_row}

both : (a b : Bool) → T (a && b) → T a × T b
both true b h = (tt, h)
both false b h = absurd h

module _ {A : Type 0} (line : A → ℕ) where
  -- the rows name lines k, k + 1 and so on
  abbrev pub in_line : ℕ → List A → Bool
  in_line k [] = true
  in_line k (r ∷ rs) = eqb (line r) k && in_line (suc k) rs

  in-line : (k : ℕ) (rs : List A) → T (in_line k rs) → (i : ℕ) (r : A) → printed_row rs i ≡ Some r → k + i ≡ line r
  in-line k [] h i r e = cc
  in-line k (q ∷ rs) h zero r e =
      let same : q ≡ r = cc in
      let here : line q ≡ k = eqb→eq _ _ (both (eqb (line q) k) (in_line (suc k) rs) h).0 in
      let there : line q ≡ line r = ap line same in
      omega arith
  in-line k (q ∷ rs) h (suc i) r e =
      let later : suc k + i ≡ line r = in-line (suc k) rs (both (eqb (line q) k) (in_line (suc k) rs) h).1 i r e in
      omega arith

  -- LAW: where the rows name lines 0, 1 and so on, a row stands in the line that it names, and in no other
  pub own_line : (rs : List A) → T (in_line 0 rs) → (i : ℕ) (r : A) → printed_row rs i ≡ Some r → i ≡ line r
  own_line rs h i r e = let at : 0 + i ≡ line r = in-line 0 rs h i r e in omega arith
