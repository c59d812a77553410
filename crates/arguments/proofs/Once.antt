-- A type's entry, one argument at a time: the first that names the type sets it, and no later one changes it. Assumes nothing.
use Rattle.std.specs.Prelude.{None, Some}
use mathlib.Core.Path.{◌≡◌, sym}
use mathlib.Core.List.{List, [], ◌∷◌}
use Prim.Native.Nat.{ℕ, ◌+◌, ◌<◌}
use native.Mathlib.Omega.{arith}
use lib.Dec.{eqb}
use lib.ListN.{length}
use borrow.Author.Tests.{eq-eqb, ne_eqb, eqb-true, eqb-false}
use Rattle.terms.specs.declared.Argument.{Argument}
use Rattle.terms.specs.Choice.{pick}
use Rattle.terms.specs.Names.{code, Qualification}
use Rattle.forest.specs.Good.{on, off, is}
use Rattle.rules.specs.Block.{Bytes, byte}
use Rattle.arguments.specs.Sound.{Wanted, Implied, Named, Room, qualification_at, untested, wanted_of}
use Rattle.arguments.specs.Asked.{marked, entry_for, set_once}
use Rattle.arguments.proofs.Walk.{wanted-here, wanted-next}
use Rattle.arguments.proofs.Placed.{Placed, PlacedWanted, or_else, moved_wanted, entry-moved}

-- a value begins at byte 3 at least, so that an argument's entry is never 1
pub marked_other : (list : Bytes) (base : ℕ) (q : Qualification) → Placed list q → marked base q ≡ 1 → ⊥
marked_other list base None h e = omega arith
marked_other list base (Some x) h e = omega (arith, h.0)

fits-at : (list : Bytes) (base at : ℕ) → base + length list < 65536 → Room list at → marked base (qualification_at list at) < 65536
unfolding qualification_at
fits-at list base at l r = elim (is (eqb (byte list (at + 1)) 0)) [
  | on e ↦ rw e (omega arith)
  | off e ↦ rw e (omega (arith, r.number (eqb-false (byte list (at + 1)) 0 e)))
]

-- LAW: the offset fits, for the field number before the value lies within the list
pub marked-fits : (cat list : Bytes) (base at : ℕ) → base + length list < 65536 → Room list at → {a : Argument} → a ≡ untested cat list at
    → marked base a.qualification < 65536
marked-fits cat list base at l r e = rw e (fits-at list base at l r)

module _ (base : ℕ) (u e : ℕ) where
  -- LAW: where no argument is left, the entry stays
  pub once-end : set_once base [] u e ≡ e
  unfolding set_once wanted_of
  once-end = elim (is (eqb e 1)) [
    | on h ↦ rw h (sym (eqb-true e 1 h))
    | off h ↦ rw h
  ]

  module _ (a : Argument) (ar : List Argument) where
    -- LAW: it is set here, kept, or passed by
    pub once-here : a.code.0 ≡ u → e ≡ 1 → (marked base a.qualification ≡ 1 → ⊥) → set_once base ar u (marked base a.qualification) ≡ set_once base (a ∷ ar) u e
    unfolding set_once
    once-here h i n = rw (ne_eqb (marked base a.qualification) 1 n, eq-eqb e 1 i, wanted-here a ar (code u) h)

    pub once-kept : (e ≡ 1 → ⊥) → set_once base ar u e ≡ set_once base (a ∷ ar) u e
    unfolding set_once
    once-kept n = rw (ne_eqb e 1 n)

    pub once-passed : (a.code.0 ≡ u → ⊥) → set_once base ar u e ≡ set_once base (a ∷ ar) u e
    unfolding set_once
    once-passed n = rw (wanted-next a ar (code u) n)

-- LAW: the second list's turn comes where the first leaves the type out
pub once-joined : (list : Bytes) (k : ℕ) (a b : Wanted) → PlacedWanted list a
    → pick (eqb (entry_for 0 a) 1) (entry_for k b) (entry_for 0 a) ≡ entry_for 0 (or_else a (moved_wanted k b))
once-joined list k Implied b h = sym (entry-moved k b)
once-joined list k (Named q) b h = rw (ne_eqb (marked 0 q) 1 (marked_other list 0 q h))
