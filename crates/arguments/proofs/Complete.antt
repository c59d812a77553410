-- A completed list, level by level. Assumes nothing.
use mathlib.Core.Path.{◌≡◌, refl, ◌∙◌}
use mathlib.Core.List.{List, [], ◌∷◌, map, reverse}
use Prim.Native.Nat.{ℕ, zero, suc, ◌<◌}
use native.Mathlib.Omega.{arith}
use lib.ListN.{length, get_or, length-map, length-reverse}
use Rattle.terms.specs.declared.TypeCode.{TypeCode}
use Rattle.terms.specs.declared.Argument.{Argument}
use Rattle.terms.specs.Names.{code, same_type}
use Rattle.forest.specs.Good.{on, off, is}
use Rattle.rules.specs.Block.{Bytes}
use Rattle.rules.specs.Catalogue.{lineage, level}
use Rattle.rules.specs.Arguments.{Level, asked_of, complete}
use Rattle.arguments.specs.Sound.{wanted_of, meaning}

module _ (cat list : Bytes) where
  -- LAW: what a completed list asks of a type is what the list wants of it
  pub asked-wanted : (ar : List Argument) (t : TypeCode) → asked_of cat list ar t ≡ meaning cat list (wanted_of ar t)
  unfolding asked_of wanted_of
  asked-wanted [] t = refl
  asked-wanted (a ∷ ar) t = elim (is (same_type a.code t)) [
    | on e ↦ rw (asked_of, wanted_of, e)
    | off e ↦ rw (asked_of, wanted_of, e) (asked-wanted ar t)
  ]

get_d-in : {A B : Type 0} (f : A → B) (xs : List A) (k : ℕ) (d : B) (e : A) → k < length xs → get_or (map f xs) k d ≡ f (get_or xs k e)
get_d-in f [] k d e h = absurd (omega arith)
get_d-in f (x ∷ xs) zero d e h = refl
get_d-in f (x ∷ xs) (suc k) d e h = get_d-in f xs k d e (omega arith)

-- the k-th type from the root down to t, counted from 0
abbrev pub type_of_level : Bytes → TypeCode → ℕ → TypeCode
type_of_level cat t k = code (get_or (reverse (lineage cat t)) k 0)

module _ (cat list : Bytes) (ar : List Argument) (t : TypeCode) where
  -- LAW: a completed list has a level for each type from the root down
  pub complete-length : length (complete cat list ar t) ≡ level cat t
  unfolding complete level
  complete-length = length-map (reverse (lineage cat t)) (λ u. record { code = code u; asked = asked_of cat list ar (code u) }) ∙ length-reverse (lineage cat t)

  -- LAW: and this is its level k
  pub complete-at : (k : ℕ) (d : Level) → k < level cat t
      → get_or (complete cat list ar t) k d ≡ record { code = type_of_level cat t k; asked = asked_of cat list ar (type_of_level cat t k) }
  unfolding complete level
  complete-at k d h = get_d-in (λ u. record { code = code u; asked = asked_of cat list ar (code u) }) (reverse (lineage cat t)) k d 0 (rw length-reverse h)
