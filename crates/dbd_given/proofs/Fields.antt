-- The key's field: the first field of its type that has the key's start and length (R81). Assumes nothing.
use mathlib.Core.Path.{◌≡◌, refl, sym}
use mathlib.Core.Bool.{Bool, ◌&&◌}
use mathlib.Core.List.{map}
use Prim.Native.Nat.{ℕ, zero, suc}
use native.Mathlib.Omega.{arith}
use lib.Dec.{ltb}
use borrow.Author.Tests.{lt-ltb}
use Rattle.std.specs.List.{find}
use Rattle.std.specs.Option.{is_some}
use Rattle.terms.specs.declared.FieldNumber.{FieldNumber}
use Rattle.terms.specs.Names.{field}
use Rattle.forest.specs.Good.{on, off, is}
use Rattle.forest.specs.Numbers.{range}
use Rattle.statements.specs.Dbd.{first_of, those}
use Rattle.dbd_given.specs.Numbered.{numbered}

pub is_some-numbered : (n : ℕ) → is_some (numbered n) ≡ ltb 0 n
is_some-numbered zero = refl
is_some-numbered (suc n) = sym (lt-ltb 0 (suc n) (omega arith))

pub find-numbered : (p q : ℕ → Bool) (a n : ℕ)
    → find (λ (f : FieldNumber). p f.0 && q f.0) (map field (range (suc a) n)) ≡ numbered (first_of q (those p (range (suc a) n)))
unfolding first_of those
find-numbered p q a zero = refl
find-numbered p q a (suc n) = elim (is (p (suc a))) [
  | on e ↦ elim (is (q (suc a))) [
    | on h ↦ rw (e, h, first_of)
    | off h ↦ rw (e, h, first_of) (find-numbered p q (suc a) n)
  ]
  | off e ↦ rw e (find-numbered p q (suc a) n)
]
