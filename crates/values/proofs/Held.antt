-- A test of two packed values at their places: what the code cuts out there, and what the test answers (R90). Assumes nothing.
use Rattle.std.specs.declared.cmp.Ordering.{Ordering}
use mathlib.Core.Path.{◌≡◌, refl, ap, ◌∙◌}
use mathlib.Core.Bool.{Bool, true, false}
use Prim.Native.Nat.{ℕ, ◌+◌, ◌-◌, ◌≤◌}
use native.Mathlib.Omega.{arith}
use lib.ListN.{length, drop, length-drop}
use lib.Seq.{length-take-le}
use Rattle.terms.specs.declared.Operator.{Operator}
use Rattle.terms.specs.Operators.{holds}
use Rattle.rules.specs.Block.{Bytes, part}
use Rattle.rules.specs.Packed.{is_number, packed_order}
use Rattle.rules.proofs.Values.{is-packed, value-packed}
use Rattle.values.specs.Lent.{Numbers, tested}

-- from byte i on up to byte i + long are `long` bytes
whole : (i long : ℕ) → i + long - i ≡ long
whole i long = omega arith

pub cut-long : (b : Bytes) (i long : ℕ) → i + long ≤ length b → length (part b i (i + long - i)) ≡ long
cut-long b i long h = rw (whole i long) (length-take-le long (drop i b) (simp length-drop (omega arith)))

module _ (o : Operator) (a b : Bytes) (i j long : ℕ) where
  -- what is no number satisfies no operator
  pub no_number : is_number (part a i (i + long - i)) ≡ false → false ≡ tested 1 o (part a i long) (part b j long)
  no_number e =
      let x : is_number (part a i long) ≡ false = rw (whole i long) at e in
      rw (is-packed 1 (part a i long) refl, x)

  -- LAW: a number stands to a number as the operator says, which is the whole test
  pub number-held : {r : Ordering} {q : Bool} → is_number (part a i (i + long - i)) ≡ true
      → (Numbers (part a i (i + long - i)) (part b j (j + long - j)) → r ≡ packed_order (part a i (i + long - i)) (part b j (j + long - j)))
      → q ≡ holds o r → is_number (part b j long) ≡ true → q ≡ tested 1 o (part a i long) (part b j long)
  number-held {r} e f g n =
      let x : is_number (part a i long) ≡ true = rw (whole i long) at e in
      let y : Numbers (part a i long) (part b j long) → r ≡ packed_order (part a i long) (part b j long) = rw (whole i long, whole j long) at f in
      g ∙ rw (is-packed 1 (part a i long) refl, x, value-packed 1 (part a i long) (part b j long) refl) (ap (holds o) (y (record { first = x; second = n })))
