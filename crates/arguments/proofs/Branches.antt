-- One argument, by the tests it passes: what each leaves of `argument_at`. Assumes nothing.
use Rattle.std.specs.Prelude.{Err, Ok}
use mathlib.Core.Path.{◌≡◌, ap, sym, ◌∙◌}
use mathlib.Core.Bool.{Bool, true, false, not, ◌&&◌}
use Prim.Native.Nat.{ℕ, ◌+◌, ◌-◌, ◌<◌, ◌≤◌}
use native.Mathlib.Omega.{arith}
use lib.Dec.{ltb, leb}
use lib.ListN.{length}
use borrow.Author.Tests.{lt-ltb, le-ltb, le-leb, lt-leb, leb-true, eq-eqb, ne_eqb}
use Rattle.terms.specs.declared.TypeCode.{TypeCode}
use Rattle.terms.specs.declared.Argument.{Argument}
use Rattle.terms.specs.declared.Status.TheVariants.{AC, AJ, AK}
use Rattle.terms.specs.Choice.{pick}
use Rattle.terms.specs.Names.{code, field}
use Rattle.forest.specs.Forest.{inside, outside, side}
use Rattle.forest.specs.Good.{on, off, is}
use Rattle.blocks.proofs.PastTheEnd.{byte_past}
use Rattle.rules.specs.Block.{Bytes, byte, part}
use Rattle.rules.specs.Packed.{is_number}
use Rattle.rules.specs.Order.{is_value}
use Rattle.rules.specs.Catalogue.{field_length, field_value, is_type}
use Rattle.rules.specs.Arguments.{good_next, is_field_of, argument_at}
use Rattle.rules.proofs.Joined.{two}
use Rattle.rules.proofs.Values.{is-packed, is-bytes}
use Rattle.arguments.specs.Sound.{qualification_at, next_at, untested, Room}

-- an argument that its operator ends, and one with a test
module _ (list : Bytes) (at : ℕ) (h : at + 1 < length list) where
  pub room-none : byte list (at + 1) ≡ 0 → Room list at
  room-none z = record { operator = h; number = λ d. absurd (d z) }

  pub room-test : at + 2 < length list → Room list at
  room-test k = record { operator = h; number = λ d. k }

pub next-test : (cat list : Bytes) (at : ℕ) → (byte list (at + 1) ≡ 0 → ⊥) → next_at cat list at ≡ at + 3 + field_length cat (field (byte list (at + 2)))
unfolding next_at
next-test cat list at z = simp (ne_eqb (byte list (at + 1)) 0 z)

-- the same of an argument that was decoded there
pub next-is : (cat list : Bytes) (at : ℕ) → (byte list (at + 1) ≡ 0 → ⊥) → {a : Argument} → a ≡ untested cat list at
    → a.next ≡ at + 3 + field_length cat (field (byte list (at + 2)))
next-is cat list at z e = ap (λ (b : Argument). b.next) e ∙ next-test cat list at z

-- R90: whether the value of an argument with a test is one of its field's value type
abbrev pub value_at : Bytes → Bytes → ℕ → Bool
value_at cat list at = is_value (field_value cat (field (byte list (at + 2)))) (part list (at + 3) (field_length cat (field (byte list (at + 2)))))

-- the same of the bytes from `from` to before `to`, if the list has them
unfoldable pub has_value : ℕ → Bytes → ℕ → ℕ → Bool
has_value w list from to = leb to (length list) && is_value w (part list from (to - from))

-- a branch of the code each
module _ (w : ℕ) (list : Bytes) (from to : ℕ) where
  pub value-short : length list < to → false ≡ has_value w list from to
  unfolding has_value
  value-short l = rw (lt-leb to (length list) l)

  pub value_in : has_value w list from to ≡ true → (to ≤ length list) × (is_value w (part list from (to - from)) ≡ true)
  unfolding has_value
  value_in v = let p = two (leb to (length list)) (is_value w (part list from (to - from))) v in (leb-true to (length list) p.0, p.1)

  module _ (l : to ≤ length list) where
    of-value : has_value w list from to ≡ is_value w (part list from (to - from))
    unfolding has_value
    of-value = rw (le-leb to (length list) l)

    pub value-bytes : (w ≡ 1 → ⊥) → true ≡ has_value w list from to
    value-bytes n = sym (of-value ∙ is-bytes w (part list from (to - from)) (ne_eqb w 1 n))

    pub value-number : w ≡ 1 → is_number (part list from (to - from)) ≡ has_value w list from to
    value-number e = sym (of-value ∙ is-packed w (part list from (to - from)) (eq-eqb w 1 e))

module _ (cat list : Bytes) (before : TypeCode) (at : ℕ) where
  pub type-bad : good_next cat list before (code (byte list at)) ≡ false → Err AC ≡ argument_at cat list before at
  unfolding argument_at
  type-bad n = simp n

  -- past the end there is no type
  pub type-missing : length list ≤ at → Err AC ≡ argument_at cat list before at
  unfolding good_next is_type
  type-missing h = type-bad (simp (sym (byte_past list at h)))

  module _ (n : good_next cat list before (code (byte list at)) ≡ true) where
    pub operator-missing : length list ≤ at + 1 → Err AJ ≡ argument_at cat list before at
    unfolding argument_at
    operator-missing h = simp (n, le-leb (length list) (at + 1) h)

    module _ (h : at + 1 < length list) where
      pub operator-none : {a : Argument} → byte list (at + 1) ≡ 0 → a ≡ untested cat list at → Ok a ≡ argument_at cat list before at
      unfolding argument_at qualification_at next_at
      operator-none z e =
          let y : Ok (untested cat list at) ≡ argument_at cat list before at = simp (n, lt-leb (length list) (at + 1) h, eq-eqb (byte list (at + 1)) 0 z) in
          ap Ok e ∙ y

      module _ (z : byte list (at + 1) ≡ 0 → ⊥) where
        pub operator-bad : 6 < byte list (at + 1) → Err AJ ≡ argument_at cat list before at
        unfolding argument_at
        operator-bad o = simp (n, lt-leb (length list) (at + 1) h, ne_eqb (byte list (at + 1)) 0 z, lt-ltb 6 (byte list (at + 1)) o)

        module _ (o : byte list (at + 1) ≤ 6) where
          pub field-missing : length list ≤ at + 2 → Err AJ ≡ argument_at cat list before at
          unfolding argument_at
          field-missing k = simp (n, lt-leb (length list) (at + 1) h, ne_eqb (byte list (at + 1)) 0 z, le-ltb 6 (byte list (at + 1)) o, le-leb (length list) (at + 2) k)

          module _ (k : at + 2 < length list) where
            pub field-bad : is_field_of cat list (code (byte list at)) (field (byte list (at + 2))) ≡ false → Err AK ≡ argument_at cat list before at
            unfolding argument_at
            field-bad f = simp (n, lt-leb (length list) (at + 1) h, ne_eqb (byte list (at + 1)) 0 z, le-ltb 6 (byte list (at + 1)) o, lt-leb (length list) (at + 2) k, f)

            module _ (f : is_field_of cat list (code (byte list at)) (field (byte list (at + 2))) ≡ true) where
              -- behind the field number: what the tests of the value leave
              behind-field : argument_at cat list before at
                  ≡ pick (ltb (length list) (at + 3 + field_length cat (field (byte list (at + 2))))) (Err AJ)
                  (pick (not (value_at cat list at)) (Err AJ) (Ok (untested cat list at)))
              unfolding argument_at qualification_at next_at
              behind-field = simp (
                n,
                lt-leb (length list) (at + 1) h,
                ne_eqb (byte list (at + 1)) 0 z,
                le-ltb 6 (byte list (at + 1)) o,
                lt-leb (length list) (at + 2) k,
                f,
              )

              -- as a test of one thing
              pub behind-value : argument_at cat list before at
                  ≡ pick (has_value (field_value cat (field (byte list (at + 2)))) list (at + 3) (next_at cat list at)) (Ok (untested cat list at)) (Err AJ)
              unfolding has_value
              behind-value =
                  let x : next_at cat list at ≡ at + 3 + field_length cat (field (byte list (at + 2))) = next-test cat list at z in
                  let y : next_at cat list at - (at + 3) ≡ field_length cat (field (byte list (at + 2))) = omega (arith, x) in
                  elim (side (length list) (next_at cat list at)) [
                    | inside l ↦ behind-field ∙ rw (← x, y, lt-ltb (length list) (next_at cat list at) l, lt-leb (next_at cat list at) (length list) l)
                    | outside l ↦ elim (is (value_at cat list at)) [
                      | on v ↦ behind-field ∙ rw (← x, y, le-ltb (length list) (next_at cat list at) l, le-leb (next_at cat list at) (length list) l, v)
                      | off v ↦ behind-field ∙ rw (← x, y, le-ltb (length list) (next_at cat list at) l, le-leb (next_at cat list at) (length list) l, v)
                    ]
                  ]

              module _ {a : Argument} (e : a ≡ untested cat list at) {w : ℕ} (g : w ≡ field_value cat (field (byte list (at + 2)))) {r : Bool}
                  (q : r ≡ has_value w list (at + 3) a.next) where
                asked : has_value (field_value cat (field (byte list (at + 2)))) list (at + 3) (next_at cat list at) ≡ r
                asked = sym (q ∙ rw (g, e))

                pub value-bad : r ≡ false → Err AJ ≡ argument_at cat list before at
                value-bad v = sym (behind-value ∙ rw (asked ∙ v))

                pub value-good : r ≡ true → Ok a ≡ argument_at cat list before at
                value-good v = ap Ok e ∙ sym (behind-value ∙ rw (asked ∙ v))
