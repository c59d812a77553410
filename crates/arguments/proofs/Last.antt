-- The last type of two lists as one: the second's, unless that is empty. Assumes nothing.
use mathlib.Core.Path.{◌≡◌, refl, ap, sym, ◌∙◌}
use mathlib.Core.Bool.{false}
use mathlib.Core.List.{List, [], ◌∷◌, ◌++◌, map, append-nil}
use Prim.Native.Nat.{ℕ, ◌<◌}
use native.Mathlib.Omega.{arith}
use lib.ListN.{length}
use Rattle.terms.specs.declared.Argument.{Argument}
use Rattle.forest.specs.Good.{is_nil}
use Rattle.rules.specs.Block.{Bytes}
use Rattle.rules.specs.Arguments.{list_read, last_argument}
use Rattle.arguments.specs.Asked.{Pair}
use Rattle.arguments.proofs.Sound.{list-filled}
use Rattle.arguments.proofs.Cut.{moved}
use Rattle.arguments.proofs.Placed.{pair-arguments}

-- what stands before others is not last
last-append : (l : List Argument) (b : Argument) (m : List Argument) → last_argument (l ++ b ∷ m) ≡ last_argument (b ∷ m)
last-append [] b m = refl
last-append (a ∷ []) b m = refl
last-append (a ∷ (c ∷ l)) b m = last-append (c ∷ l) b m

-- moving an argument changes no type
last-moved : (k : ℕ) (b : Argument) (m : List Argument) → (last_argument (map (moved k) (b ∷ m))).code ≡ (last_argument (b ∷ m)).code
last-moved k b [] = refl
last-moved k b (c ∷ m) = last-moved k c m

-- behind these arguments stand others, moved
pub last-behind : (k : ℕ) (l m : List Argument) → is_nil m ≡ false → (last_argument (l ++ map (moved k) m)).code ≡ (last_argument m).code
last-behind k l [] n = absurd (let z : ◌≡◌ {A = ℕ} 0 1 = cc in omega arith)
last-behind k l (b ∷ m) n = ap (λ (a : Argument). a.code) (last-append l (moved k b) (map (moved k) m)) ∙ last-moved k b m

-- LAW: the second list empty, so that the two are the first; and not empty, so that it has a last argument
module _ (cat one : Bytes) where
  pub last-first : (two : Bytes) → length two ≡ 0 → {a : Argument} → a ≡ last_argument (list_read cat one).arguments
      → a.code ≡ (last_argument (list_read cat (one ++ two)).arguments).code
  last-first [] z e = rw (append-nil one) (ap (λ (a : Argument). a.code) e)
  last-first (b ∷ two) z e = absurd (omega arith)

  pub last-second : (two : Bytes) → Pair cat one two → (length two ≡ 0 → ⊥) → {a : Argument} → a ≡ last_argument (list_read cat two).arguments
      → a.code ≡ (last_argument (list_read cat (one ++ two)).arguments).code
  last-second two p n e =
      let l : List Argument = (list_read cat one).arguments in
      let m : List Argument = (list_read cat two).arguments in
      let h : 0 < length two = omega (arith, n) in
      ap (λ (a : Argument). a.code) e
      ∙ sym (last-behind (length one) l m (list-filled cat two p.second h))
      ∙ sym (ap (λ (ar : List Argument). (last_argument ar).code) (pair-arguments cat one two p))
