-- A sound list is short: its types go down, no level exceeds 15, and an argument takes at most 3 + 120 bytes. Assumes nothing.
use mathlib.Core.Path.{◌≡◌, ap, ◌∙◌}
use mathlib.Core.Bool.{true}
use Prim.Native.Nat.{ℕ, zero, suc, ◌+◌, ◌*◌, ◌<◌, ◌≤◌}
use native.Mathlib.Omega.{arith}
use lib.Dec.{eqb}
use lib.ListN.{length}
use Rattle.terms.specs.declared.TypeCode.{TypeCode}
use Rattle.terms.specs.declared.FieldNumber.{FieldNumber}
use Rattle.terms.specs.declared.Status.TheVariants.{Blank}
use Rattle.terms.specs.Names.{code, field}
use Rattle.forest.specs.Forest.{inside, outside, side}
use Rattle.forest.specs.Good.{on, off, is}
use Rattle.rules.specs.Block.{Bytes, byte}
use Rattle.rules.specs.Catalogue.{level, is_type, good_catalogue}
use Rattle.rules.specs.Arguments.{ListRead, good_next}
use Rattle.catalogue.proofs.Hierarchy.{type-range, type-facts, field-facts, level-least, beneath-later}
use Rattle.arguments.specs.Sound.{SoundList, rest, qualification_at, next_at}
use Rattle.arguments.proofs.Rest.{Sound, rest-whole, step, step-fault}
use Rattle.arguments.proofs.Above.{next-type, next-beneath}

module _ (cat list : Bytes) (g : good_catalogue cat ≡ true) where
  next-short : (before : TypeCode) (at : ℕ) → Sound cat list before at → next_at cat list at ≤ at + 123
  unfolding next_at qualification_at
  next-short before at s = elim (is (eqb (byte list (at + 1)) 0)) [
    | on e ↦ rw e (omega arith)
    | off e ↦
        let f : FieldNumber = field (byte list (at + 2)) in
        let t = rw e at s.test in
        let k = field-facts cat g f t.first t.last in
        let l = type-facts cat g _ k.type-least k.type-most in
        rw e (omega (arith, k.within, k.start-least, l.long-most))
  ]

  -- what has been read takes at most 123 bytes a level
  short-from : (n m : ℕ) (before : TypeCode) (at : ℕ) → length list ≤ at + n → at ≤ 123 * m → m ≤ 15
      → ((t : TypeCode) → is_type cat t ≡ true → good_next cat list before t ≡ true → m < level cat t) → (rest cat list before at).fault ≡ Blank → length list ≤ 1845
  short-from zero m before at l a b d e = omega arith
  short-from (suc n) m before at l a b d e = elim (side at (length list)) [
    | outside h ↦ omega arith
    | inside h ↦
        let s = step cat list before at h e in
        let t : TypeCode = code (byte list at) in
        let y : is_type cat t ≡ true = next-type cat list before t s.type in
        let r = type-range cat t y in
        let f = type-facts cat g t r.0 r.1 in
        let x : m < level cat t = d t y s.type in
        short-from n (level cat t) t (next_at cat list at) (omega (arith, s.onward)) (omega (arith, next-short before at s)) f.level-most
        (λ u z w. let q = type-range cat u z in (beneath-later cat g u t q.0 q.1 (next-beneath cat list t u w y)).2) (step-fault cat list before at h e)
  ]

-- LAW
pub sound-short : (cat list : Bytes) → SoundList cat list → length list ≤ 1845
sound-short cat list s =
    short-from cat list s.catalogue (length list) 0 (code 0) 0 (omega arith) (omega arith) (omega arith) (λ t y w. let q = type-range cat t y in omega (arith, level-least cat s.catalogue t q.0 q.1))
    (ap (λ (l : ListRead). l.fault) (rest-whole cat list) ∙ s.read)
