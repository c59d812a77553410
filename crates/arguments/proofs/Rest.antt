-- From one argument to the next: what is left of the list there, as it is read and as a sound list is walked. Assumes nothing.
use Rattle.std.specs.Prelude.{Err, Ok, Result}
use mathlib.Core.Path.{◌≡◌, refl, ap, sym, ◌∙◌}
use mathlib.Core.Bool.{true, ◌&&◌}
use mathlib.Core.List.{[], ◌∷◌}
use Prim.Native.Nat.{ℕ, zero, suc, ◌+◌, ◌-◌, ◌<◌, ◌≤◌}
use native.Mathlib.Omega.{arith}
use lib.Dec.{leb}
use lib.ListN.{length}
use borrow.Author.Tests.{le-leb, lt-leb, eq-eqb, ne_eqb, leb-true, eqb-true}
use Rattle.terms.specs.declared.TypeCode.{TypeCode}
use Rattle.terms.specs.declared.FieldNumber.{FieldNumber}
use Rattle.terms.specs.declared.Argument.{Argument}
use Rattle.terms.specs.declared.Status.{Status}
use Rattle.terms.specs.declared.Status.TheVariants.{Blank, AC, AJ, AK}
use Rattle.terms.specs.Names.{code, field, same_type}
use Rattle.terms.specs.Statuses.{verdict}
use Rattle.terms.proofs.Verdict.{verdict-fault}
use Rattle.forest.specs.Good.{on, off, is, both_left, both_right}
use Rattle.forest.specs.Forest.{inside, outside, side}
use Rattle.rules.specs.Block.{Bytes, byte}
use Rattle.rules.specs.Catalogue.{fields, field_type, field_length, field_value}
use Rattle.rules.specs.Arguments.{ListRead, operator_of, good_next, is_field_of, argument_at, arguments_from, list_read}
use Rattle.arguments.specs.Sound.{GoodTest, GoodQualification, rest, qualification_at, next_at, untested, Room}
use Rattle.arguments.proofs.Branches.{type-bad, operator-missing, operator-none, operator-bad, field-missing, field-bad}
use Rattle.arguments.proofs.Branches.{value_at, has_value, value-bad, value-good, value_in, room-none, room-test, next-test}

-- an argument that was read, and the list that was read behind it
abbrev pub added : Argument → ListRead → ListRead
added a r = record { fault = r.fault; arguments = a ∷ r.arguments }

abbrev pub ended : Status → ListRead
ended s = record { fault = s; arguments = [] }

-- what is known of an argument that has no fault
pub record Sound (cat list : Bytes) (before : TypeCode) (at : ℕ) : Type 0 where
  pub answer : argument_at cat list before at ≡ Ok (untested cat list at)
  pub type : good_next cat list before (code (byte list at)) ≡ true
  pub room : Room list at
  pub onward : at + 2 ≤ next_at cat list at
  pub test : GoodQualification cat list (code (byte list at)) (qualification_at list at)

pub data Read (cat list : Bytes) (before : TypeCode) (at : ℕ) : Type 0 where
  sound : Sound cat list before at → Read cat list before at
  faulty : (s : Status) → (s ≡ Blank → ⊥) → argument_at cat list before at ≡ Err s → Read cat list before at

ac-fault : AC ≡ Blank → ⊥
ac-fault e = let z : ◌≡◌ {A = ℕ} 0 1 = cc in omega arith

aj-fault : AJ ≡ Blank → ⊥
aj-fault e = let z : ◌≡◌ {A = ℕ} 0 1 = cc in omega arith

ak-fault : AK ≡ Blank → ⊥
ak-fault e = let z : ◌≡◌ {A = ℕ} 0 1 = cc in omega arith

good-test : (cat list : Bytes) (t : TypeCode) (at : ℕ) → is_field_of cat list t (field (byte list (at + 2))) ≡ true → at + 3 + field_length cat (field (byte list (at + 2))) ≤ length list
    → value_at cat list at ≡ true → GoodTest cat list t (operator_of (byte list (at + 1))) (field (byte list (at + 2))) (at + 3)
unfolding is_field_of
good-test cat list t at f l v =
    let u : FieldNumber = field (byte list (at + 2)) in
    let g : (leb 1 u.0 && leb u.0 (fields cat)) ≡ true = both_left (leb 1 u.0 && leb u.0 (fields cat)) (same_type (field_type cat u) t) f in
    record {
      first = leb-true 1 u.0 (both_left (leb 1 u.0) (leb u.0 (fields cat)) g);
      last = leb-true u.0 (fields cat) (both_right (leb 1 u.0) (leb u.0 (fields cat)) g);
      own = ap code (eqb-true (field_type cat u).0 t.0 (both_right (leb 1 u.0 && leb u.0 (fields cat)) (same_type (field_type cat u) t) f));
      within = l;
      value = v;
    }

module _ (cat list : Bytes) (before : TypeCode) (at : ℕ) (n : good_next cat list before (code (byte list at)) ≡ true) (h : at + 1 < length list) where
  none-sound : byte list (at + 1) ≡ 0 → Sound cat list before at
  unfolding qualification_at next_at
  none-sound z =
      let e = eq-eqb (byte list (at + 1)) 0 z in
      record {
        answer = sym (operator-none cat list before at n h z refl);
        type = n;
        room = room-none list at h z;
        onward = rw e (omega arith);
        test = rw e tt;
      }

  test-sound : (byte list (at + 1) ≡ 0 → ⊥) → byte list (at + 1) ≤ 6 → at + 2 < length list → is_field_of cat list (code (byte list at)) (field (byte list (at + 2))) ≡ true
      → has_value (field_value cat (field (byte list (at + 2)))) list (at + 3) (next_at cat list at) ≡ true → Sound cat list before at
  unfolding qualification_at
  test-sound z o k f v =
      let e = ne_eqb (byte list (at + 1)) 0 z in
      let x : next_at cat list at ≡ at + 3 + field_length cat (field (byte list (at + 2))) = next-test cat list at z in
      let y : next_at cat list at - (at + 3) ≡ field_length cat (field (byte list (at + 2))) = omega (arith, x) in
      let p = value_in _ list (at + 3) (next_at cat list at) v in
      record {
        answer = sym (value-good cat list before at n h z o k f refl refl refl v);
        type = n;
        room = room-test list at h k;
        onward = omega (arith, x);
        test = rw e (good-test cat list (code (byte list at)) at f (omega (arith, x, p.0)) (rw y at p.1));
      }

  read-operator : Read cat list before at
  read-operator = elim (side 0 (byte list (at + 1))) [
    | outside z ↦ sound (none-sound (omega arith))
    | inside z ↦ (let nz : byte list (at + 1) ≡ 0 → ⊥ = (λ e. omega arith) in elim (side 6 (byte list (at + 1))) [
      | inside o ↦ faulty AJ aj-fault (sym (operator-bad cat list before at n h nz o))
      | outside o ↦ elim (side (at + 2) (length list)) [
        | outside k ↦ faulty AJ aj-fault (sym (field-missing cat list before at n h nz o k))
        | inside k ↦ elim (is (is_field_of cat list (code (byte list at)) (field (byte list (at + 2))))) [
          | off f ↦ faulty AK ak-fault (sym (field-bad cat list before at n h nz o k f))
          | on f ↦ elim (is (has_value (field_value cat (field (byte list (at + 2)))) list (at + 3) (next_at cat list at))) [
            | off v ↦ faulty AJ aj-fault (sym (value-bad cat list before at n h nz o k f refl refl refl v))
            | on v ↦ sound (test-sound nz o k f v)
          ]
        ]
      ]
    ])
  ]

pub read : (cat list : Bytes) (before : TypeCode) (at : ℕ) → Read cat list before at
read cat list before at = elim (is (good_next cat list before (code (byte list at)))) [
  | off n ↦ faulty AC ac-fault (sym (type-bad cat list before at n))
  | on n ↦ elim (side (at + 1) (length list)) [
    | outside h ↦ faulty AJ aj-fault (sym (operator-missing cat list before at n h))
    | inside h ↦ read-operator cat list before at n h
  ]
]

module _ (cat list : Bytes) where
  from_end : (n : ℕ) (before : TypeCode) (at : ℕ) → length list ≤ at → arguments_from cat list n before at ≡ ended Blank
  unfolding arguments_from
  from_end zero before at h = refl
  from_end (suc n) before at h = rw (arguments_from, le-leb (length list) at h)

  from-fault : (n : ℕ) (before : TypeCode) (at : ℕ) (s : Status) → at < length list → argument_at cat list before at ≡ Err s → arguments_from cat list (suc n) before at ≡ ended s
  unfolding arguments_from
  from-fault n before at s h e = rw (arguments_from, lt-leb (length list) at h, e)

  from-got : (n : ℕ) (before : TypeCode) (at : ℕ) (a : Argument) → at < length list → argument_at cat list before at ≡ Ok a
      → arguments_from cat list (suc n) before at ≡ added a (arguments_from cat list n a.code a.next)
  unfolding arguments_from
  from-got n before at a h e = rw (arguments_from, lt-leb (length list) at h, e)

  -- enough is enough: with as many arguments as there are bytes left, more change nothing
  from-enough : (n m : ℕ) (before : TypeCode) (at : ℕ) → length list ≤ at + n → length list ≤ at + m → arguments_from cat list n before at ≡ arguments_from cat list m before at
  from-enough zero m before at a b = from_end zero before at (omega arith) ∙ sym (from_end m before at (omega arith))
  from-enough (suc n) zero before at a b = from_end (suc n) before at (omega arith) ∙ sym (from_end zero before at (omega arith))
  from-enough (suc n) (suc m) before at a b = elim (side at (length list)) [
    | outside h ↦ from_end (suc n) before at h ∙ sym (from_end (suc m) before at h)
    | inside h ↦ elim (read cat list before at) [
      | faulty s f e ↦ from-fault n before at s h e ∙ sym (from-fault m before at s h e)
      | sound g ↦
          from-got n before at (untested cat list at) h g.answer
          ∙ ap (added (untested cat list at)) (from-enough n m (code (byte list at)) (next_at cat list at) (omega (arith, g.onward)) (omega (arith, g.onward)))
          ∙ sym (from-got m before at (untested cat list at) h g.answer)
    ]
  ]

module _ (cat list : Bytes) where
  -- the list is what is left of it at its first byte
  pub rest-whole : rest cat list (code 0) 0 ≡ list_read cat list
  unfolding rest list_read
  rest-whole = let z : length list - 0 ≡ length list = omega arith in rw z

  module _ (before : TypeCode) (at : ℕ) where
    pub rest_end : length list ≤ at → rest cat list before at ≡ ended Blank
    unfolding rest
    rest_end h = from_end cat list (length list - at) before at h

    pub rest-fault : (s : Status) → at < length list → argument_at cat list before at ≡ Err s → rest cat list before at ≡ ended s
    unfolding rest
    rest-fault s h e = let z : length list - at ≡ suc (length list - at - 1) = omega arith in rw z (from-fault cat list (length list - at - 1) before at s h e)

    rest-next : at < length list → Sound cat list before at → rest cat list before at ≡ added (untested cat list at) (rest cat list (code (byte list at)) (next_at cat list at))
    unfolding rest
    rest-next h g =
        let n : ℕ = length list - at - 1 in
        let z : length list - at ≡ suc n = omega arith in
        let m : ℕ = length list - next_at cat list at in
        rw z (from-got cat list n before at (untested cat list at) h g.answer
        ∙ ap (added (untested cat list at)) (from-enough cat list n m (code (byte list at)) (next_at cat list at) (omega (arith, g.onward)) (omega arith)))

    -- LAW: where the rest has no fault, one argument is taken as it stands
    pub step : at < length list → (rest cat list before at).fault ≡ Blank → Sound cat list before at
    step h e = elim (read cat list before at) [
      | sound g ↦ g
      | faulty s f r ↦ absurd (f (sym (ap (λ (l : ListRead). l.fault) (rest-fault s h r)) ∙ e))
    ]

    pub step-rest : at < length list → (rest cat list before at).fault ≡ Blank → rest cat list before at ≡ added (untested cat list at) (rest cat list (code (byte list at)) (next_at cat list at))
    step-rest h e = rest-next h (step h e)

    pub step-fault : at < length list → (rest cat list before at).fault ≡ Blank → (rest cat list (code (byte list at)) (next_at cat list at)).fault ≡ Blank
    step-fault h e = sym (ap (λ (l : ListRead). l.fault) (step-rest h e)) ∙ e

    -- the same for an argument that was read
    module _ {r : Result Argument Status} (h : at < length list) (e : r ≡ argument_at cat list before at) where
      got-is : {a : Argument} → r ≡ Ok a → (a ≡ untested cat list at) × Sound cat list before at
      got-is g = elim (read cat list before at) [
        | sound s ↦ (let z = s.answer in (cc, s))
        | faulty s f z ↦ absurd (let y : ◌≡◌ {A = ℕ} 0 1 = cc in omega arith)
      ]

      pub got-rest : {a : Argument} → r ≡ Ok a → (rest cat list a.code a.next).fault ≡ (rest cat list before at).fault
      got-rest g = let s = got-is g in rw s.0 (sym (ap (λ (l : ListRead). l.fault) (rest-next h s.1)))

      pub got-onward : {a : Argument} → r ≡ Ok a → at < a.next
      got-onward g = let s = got-is g in rw s.0 (omega (arith, s.1.onward))

      pub got_fault : {s : Status} → r ≡ Err s → ◌≡◌ {A = Result (Unit {0}) Status} (Err s) (verdict (rest cat list before at).fault)
      got_fault {s} g = elim (read cat list before at) [
        | sound k ↦ absurd (let y : Ok (untested cat list at) ≡ Err s = sym k.answer ∙ sym e ∙ g in let z : ◌≡◌ {A = ℕ} 0 1 = cc in omega arith)
        | faulty t f k ↦
            let y : ◌≡◌ {A = Result Argument Status} (Err s) (Err t) = sym g ∙ e ∙ k in
            let q : s ≡ t = cc in
            rw (rest-fault s h (sym e ∙ g)) (sym (verdict-fault s (λ b. f (sym q ∙ b))))
      ]
