-- Where the value of a test stands: behind its operator and its field number; and what two lists as one want of a type. Assumes nothing.
use Rattle.std.specs.Prelude.{None, Some}
use mathlib.Core.Path.{◌≡◌, refl, ap, sym, ◌∙◌}
use mathlib.Core.List.{List, [], ◌∷◌, ◌++◌, map, append-nil}
use Prim.Native.Nat.{ℕ, zero, suc, ◌+◌, ◌-◌, ◌≤◌}
use native.Mathlib.Omega.{arith}
use lib.Dec.{eqb}
use lib.ListN.{length}
use borrow.Author.Tests.{eqb-true, eqb-false}
use Rattle.terms.specs.declared.TypeCode.{TypeCode}
use Rattle.terms.specs.declared.Argument.{Argument}
use Rattle.terms.specs.declared.Status.TheVariants.{Blank}
use Rattle.terms.specs.Names.{code, same_type, Qualification}
use Rattle.forest.specs.Forest.{inside, outside, side}
use Rattle.forest.specs.Good.{on, off, is}
use Rattle.rules.specs.Block.{Bytes, byte}
use Rattle.rules.specs.Arguments.{ListRead, list_read}
use Rattle.arguments.specs.Sound.{Wanted, Implied, Named, SoundList, GoodQualification, rest, qualification_at, untested, wanted_of}
use Rattle.arguments.specs.Asked.{Pair, entry_for, test_at}
use Rattle.arguments.proofs.Rest.{rest-whole, rest_end, step, step-rest, step-fault}
use Rattle.arguments.proofs.Walk.{wanted-here, wanted-next}
use Rattle.arguments.proofs.Sound.{list-empty, wanted-asks}
use Rattle.arguments.proofs.Cut.{moved_test, moved, parts}

-- a test is told whole by where its value begins
abbrev pub Placed : Bytes → Qualification → Type 0
Placed list None = Unit {0}
Placed list (Some x) = (3 ≤ x.value) × (Some x ≡ test_at list x.value)

-- since an argument's operator and field number are read from the two bytes before its value
pub placed_at : (list : Bytes) (at : ℕ) → Placed list (qualification_at list at)
unfolding qualification_at
placed_at list at =
    let a : at + 3 - 2 ≡ at + 1 = omega arith in
    let b : at + 3 - 1 ≡ at + 2 = omega arith in
    elim (is (eqb (byte list (at + 1)) 0)) [
      | on e ↦ rw e tt
      | off e ↦ rw (e, a, b) (omega arith, refl)
    ]

-- of what a list wants
abbrev pub PlacedWanted : Bytes → Wanted → Type 0
PlacedWanted list Implied = Unit {0}
PlacedWanted list (Named q) = Placed list q

abbrev pub GoodWanted : Bytes → Bytes → TypeCode → Wanted → Type 0
GoodWanted cat list t Implied = Unit {0}
GoodWanted cat list t (Named q) = GoodQualification cat list t q

module _ (cat list : Bytes) (t : TypeCode) where
  -- by the first argument for t, since each argument's value stands behind its operator and its field number
  placed-from : (n : ℕ) (before : TypeCode) (at : ℕ) → length list ≤ at + n → (rest cat list before at).fault ≡ Blank
      → PlacedWanted list (wanted_of (rest cat list before at).arguments t)
  unfolding wanted_of
  placed-from zero before at l e = rw (rest_end cat list before at (omega arith)) tt
  placed-from (suc n) before at l e = elim (side at (length list)) [
    | outside h ↦ rw (rest_end cat list before at h) tt
    | inside h ↦
        let s = step cat list before at h e in
        let a : Argument = untested cat list at in
        let r : List Argument = (rest cat list a.code a.next).arguments in
        rw (step-rest cat list before at h e) (elim (is (same_type a.code t)) [
          | on y ↦ rw (wanted-here a r t (eqb-true a.code.0 t.0 y)) (placed_at list at)
          | off y ↦ rw (wanted-next a r t (eqb-false a.code.0 t.0 y))
              (placed-from n a.code a.next (omega (arith, s.onward)) (step-fault cat list before at h e))
        ])
  ]

  -- LAW: of a whole sound list
  pub wanted-placed : SoundList cat list → PlacedWanted list (wanted_of (list_read cat list).arguments t)
  wanted-placed s =
      rw (rest-whole cat list) at (placed-from (length list) (code 0) 0 (omega arith) (ap (λ (l : ListRead). l.fault) (rest-whole cat list) ∙ s.read))

  good_of : (s : SoundList cat list) (w : Wanted) → wanted_of (list_read cat list).arguments t ≡ w → GoodWanted cat list t w
  good_of s Implied e = tt
  good_of s (Named q) e = (wanted-asks cat list s t q e).test

  -- LAW: and its test is good, as `wanted-asks` has it
  pub wanted-good : SoundList cat list → GoodWanted cat list t (wanted_of (list_read cat list).arguments t)
  wanted-good s = good_of s (wanted_of (list_read cat list).arguments t) refl

-- the first list's answer, where it names the type; else the second's
abbrev pub or_else : Wanted → Wanted → Wanted
or_else Implied w = w
or_else (Named q) w = Named q

abbrev pub moved_wanted : ℕ → Wanted → Wanted
moved_wanted k Implied = Implied
moved_wanted k (Named q) = Named (moved_test k q)

-- the first argument for a type is sought in the first list first
pub wanted-append : (l m : List Argument) (t : TypeCode) → wanted_of (l ++ m) t ≡ or_else (wanted_of l t) (wanted_of m t)
unfolding wanted_of
wanted-append [] m t = refl
wanted-append (a ∷ l) m t = elim (is (same_type a.code t)) [
  | on e ↦ (let y = eqb-true a.code.0 t.0 e in rw (wanted-here a (l ++ m) t y, wanted-here a l t y))
  | off e ↦ (let y = eqb-false a.code.0 t.0 e in rw (wanted-next a (l ++ m) t y, wanted-next a l t y) (wanted-append l m t))
]

-- moving an argument changes no type
pub wanted-moved : (k : ℕ) (m : List Argument) (t : TypeCode) → wanted_of (map (moved k) m) t ≡ moved_wanted k (wanted_of m t)
unfolding wanted_of
wanted-moved k [] t = refl
wanted-moved k (a ∷ m) t = elim (is (same_type a.code t)) [
  | on e ↦ (let y = eqb-true a.code.0 t.0 e in rw (wanted-here (moved k a) (map (moved k) m) t y, wanted-here a m t y))
  | off e ↦ (let y = eqb-false a.code.0 t.0 e in rw (wanted-next (moved k a) (map (moved k) m) t y, wanted-next a m t y) (wanted-moved k m t))
]

-- moved, and counted from the front of the first list, is counted from the front of the second with the first before it
pub entry-moved : (k : ℕ) (w : Wanted) → entry_for 0 (moved_wanted k w) ≡ entry_for k w
entry-moved k Implied = refl
entry-moved k (Named None) = refl
entry-moved k (Named (Some x)) = omega arith

-- LAW: the arguments of two lists as one; the second may be empty
pub pair-arguments : (cat one two : Bytes) → Pair cat one two
    → (list_read cat (one ++ two)).arguments ≡ (list_read cat one).arguments ++ map (moved (length one)) (list_read cat two).arguments
pair-arguments cat one [] p = rw (append-nil one, list-empty cat [] refl) (sym (append-nil (list_read cat one).arguments))
pair-arguments cat one (b ∷ two) p = (parts cat one (b ∷ two) (omega arith) p.first.read p.joined.read).joined

-- LAW: and what they want of a type
pub pair-wanted : (cat one two : Bytes) (t : TypeCode) → Pair cat one two → wanted_of (list_read cat (one ++ two)).arguments t
    ≡ or_else (wanted_of (list_read cat one).arguments t) (moved_wanted (length one) (wanted_of (list_read cat two).arguments t))
pair-wanted cat one two t p =
    let l : List Argument = (list_read cat one).arguments in
    let m : List Argument = (list_read cat two).arguments in
    rw (pair-arguments cat one two p, wanted-append l (map (moved (length one)) m) t, wanted-moved (length one) m t)
