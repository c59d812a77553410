-- A list cut in two between two of its arguments: its arguments are those of the first part, and then those of the second with their offsets moved on.
-- Assumes nothing.
use Rattle.terms.specs.declared.Status.{Status}
use Rattle.std.specs.Prelude.{Err, Ok, None, Result, Some}
use mathlib.Core.Path.{◌≡◌, refl, ap, sym, ◌∙◌}
use mathlib.Core.Bool.{Bool, true, false, not}
use mathlib.Core.List.{List, [], ◌∷◌, ◌++◌, map}
use Prim.Native.Nat.{ℕ, zero, suc, ◌+◌, ◌<◌, ◌≤◌}
use native.Mathlib.Omega.{arith}
use lib.Dec.{ltb, leb, eqb}
use lib.ListN.{length, drop, length-append, length-drop, get_or-append}
use lib.Seq.{take-append-le, drop-append-le, drop-append-add, get_or-append-add}
use borrow.Author.Tests.{lt-ltb, le-ltb, le-leb, lt-leb, eqb-false}
use Rattle.terms.specs.declared.TypeCode.{TypeCode}
use Rattle.terms.specs.declared.FieldNumber.{FieldNumber}
use Rattle.terms.specs.declared.Argument.{Argument}
use Rattle.terms.specs.declared.Status.TheVariants.{Blank, AC, AJ, AK}
use Rattle.terms.specs.Choice.{pick}
use Rattle.terms.specs.Names.{code, field, Qualification, test}
use Rattle.forest.specs.Forest.{inside, outside, side}
use Rattle.forest.specs.Good.{on, off, is}
use Rattle.rules.specs.Block.{Bytes, byte, part}
use Rattle.rules.specs.Catalogue.{field_length}
use Rattle.rules.specs.Arguments.{ListRead, operator_of, good_next, is_field_of, argument_at, list_read, meant}
use Rattle.arguments.specs.Sound.{GoodQualification, rest, qualification_at, next_at, untested}
use Rattle.arguments.proofs.Branches.{value_at}
use Rattle.arguments.proofs.Rest.{added, Sound, sound, faulty, read, rest-whole, rest_end, rest-fault, step, step-rest, step-fault, got-rest}
use Rattle.arguments.proofs.Above.{next-type}

-- an argument, k bytes further on
abbrev pub moved_test : ℕ → Qualification → Qualification
moved_test k None = None
moved_test k (Some x) = test x.operator x.field (k + x.value)

abbrev pub moved : ℕ → Argument → Argument
moved k a = record { code = a.code; qualification = moved_test k a.qualification; next = k + a.next }

abbrev moved_read : ℕ → Result Argument Status → Result Argument Status
moved_read k (Ok a) = Ok (moved k a)
moved_read k (Err s) = Err s

through : {A : Type 0} (f : A → A) (a b c d e g h k : Bool) (p q r s t u v w x : A)
    → f (pick a p (pick b q (pick c r (pick d s (pick e t (pick g u (pick h v (pick k w x))))))))
    ≡ pick a (f p) (pick b (f q) (pick c (f r) (pick d (f s) (pick e (f t) (pick g (f u) (pick h (f v) (pick k (f w) (f x))))))))
through f true b c d e g h k p q r s t u v w x = refl
through f false true c d e g h k p q r s t u v w x = refl
through f false false true d e g h k p q r s t u v w x = refl
through f false false false true e g h k p q r s t u v w x = refl
through f false false false false true g h k p q r s t u v w x = refl
through f false false false false false true h k p q r s t u v w x = refl
through f false false false false false false true k p q r s t u v w x = refl
through f false false false false false false false true p q r s t u v w x = refl
through f false false false false false false false false p q r s t u v w x = refl

leb-add : (k x y : ℕ) → leb (k + x) (k + y) ≡ leb x y
leb-add k x y = elim (side y x) [
  | inside l ↦ lt-leb (k + x) (k + y) (omega arith) ∙ sym (lt-leb x y l)
  | outside l ↦ le-leb (k + x) (k + y) (omega arith) ∙ sym (le-leb x y l)
]

ltb-add : (k x y : ℕ) → ltb (k + x) (k + y) ≡ ltb x y
ltb-add k x y = elim (side x y) [
  | inside l ↦ lt-ltb (k + x) (k + y) (omega arith) ∙ sym (lt-ltb x y l)
  | outside l ↦ le-ltb (k + x) (k + y) (omega arith) ∙ sym (le-ltb x y l)
]

-- a value that lies in the first part is the same bytes in the whole list
same-part : (one two : Bytes) (v w : ℕ) → v + w ≤ length one → part (one ++ two) v w ≡ part one v w
same-part one two v w l = rw (drop-append-le v one two (omega arith), take-append-le w (drop v one) two (rw length-drop (omega arith)))

module _ (cat one two : Bytes) (before : TypeCode) (at : ℕ) where
  -- an argument of the second part, read in the whole list
  shift : argument_at cat (one ++ two) before (length one + at) ≡ moved_read (length one) (argument_at cat two before at)
  unfolding argument_at good_next is_field_of
  shift =
      let k : ℕ = length one in
      let n₁ : k + at + 1 ≡ k + (at + 1) = omega arith in
      let n₂ : k + at + 2 ≡ k + (at + 2) = omega arith in
      let n₃ : k + at + 3 ≡ k + (at + 3) = omega arith in
      let f : FieldNumber = field (byte two (at + 2)) in
      let w : ℕ = field_length cat f in
      let n₄ : k + (at + 3) + w ≡ k + (at + 3 + w) = omega arith in
      rw (
        n₁,
        n₂,
        n₃,
        get_or-append-add one two at 0,
        get_or-append-add one two (at + 1) 0,
        get_or-append-add one two (at + 2) 0,
        n₄,
        length-append one two,
        leb-add k (length two) (at + 1),
        leb-add k (length two) (at + 2),
        ltb-add k (length two) (at + 3 + w),
        drop-append-add one two (at + 3),
      )
      (sym (through (moved_read k) (not (good_next cat two before (code (byte two at)))) (leb (length two) (at + 1)) (eqb (byte two (at + 1)) 0) (ltb 6 (byte two (at + 1)))
      (leb (length two) (at + 2)) (not (is_field_of cat two (code (byte two at)) f)) (ltb (length two) (at + 3 + w)) (not (value_at cat two at))
      (Err AC) (Err AJ) (Ok (record { code = code (byte two at); qualification = None; next = at + 2 }))
      (Err AJ) (Err AJ) (Err AK) (Err AJ) (Err AJ)
      (Ok (record { code = code (byte two at); qualification = test (operator_of (byte two (at + 1))) f (at + 3); next = at + 3 + w }))))

  -- and found sound there
  shift-sound : Sound cat (one ++ two) before (length one + at) → Sound cat two before at × (untested cat (one ++ two) (length one + at) ≡ moved (length one) (untested cat two at))
  shift-sound s =
      let J : Argument = untested cat (one ++ two) (length one + at) in
      elim (read cat two before at) [
        | sound g ↦ (let z : Ok J ≡ Ok (moved (length one) (untested cat two at)) = sym s.answer ∙ shift ∙ ap (moved_read (length one)) g.answer in (g, cc))
        | faulty t f e ↦ absurd (let z : Ok J ≡ Err t = sym s.answer ∙ shift ∙ ap (moved_read (length one)) e in let y : ◌≡◌ {A = ℕ} 0 1 = cc in omega arith)
      ]

  -- an argument of the first part, read in the whole list
  same-untested : at < length one → Sound cat one before at → untested cat (one ++ two) at ≡ untested cat one at
  unfolding qualification_at next_at
  same-untested h s =
      let b₀ : byte (one ++ two) at ≡ byte one at = get_or-append one two 0 at h in
      let b₁ : byte (one ++ two) (at + 1) ≡ byte one (at + 1) = get_or-append one two 0 (at + 1) s.room.operator in
      elim (is (eqb (byte one (at + 1)) 0)) [
        | on e ↦ rw (b₀, b₁, e)
        | off e ↦ rw (b₀, b₁, e, get_or-append one two 0 (at + 2) (s.room.number (eqb-false (byte one (at + 1)) 0 e)))
      ]

-- an argument that is sound behind another is sound as the first
module _ (cat list : Bytes) (before : TypeCode) (at : ℕ) (s : Sound cat list before at) where
  free-next : good_next cat list (code 0) (code (byte list at)) ≡ true
  unfolding good_next
  free-next = rw (next-type cat list before (code (byte list at)) s.type)

  free-answer : argument_at cat list (code 0) at ≡ Ok (untested cat list at)
  unfolding argument_at
  free-answer = rw free-next (rw s.type at s.answer)

  -- it ends within the list
  next-within : next_at cat list at ≤ length list
  unfolding next_at qualification_at
  next-within = elim (is (eqb (byte list (at + 1)) 0)) [
    | on e ↦ rw e (omega (arith, s.room.operator))
    | off e ↦ rw e (rw e at s.test).within
  ]

-- the type that stands before what follows these arguments
abbrev pub behind : TypeCode → List Argument → TypeCode
behind before [] = before
behind before (a ∷ ar) = behind a.code ar

module _ (cat one two : Bytes) where
  -- the first part's arguments are the first ones of the whole list
  first_part : (n : ℕ) (before : TypeCode) (at : ℕ) → length one ≤ at + n → at ≤ length one → (rest cat one before at).fault ≡ Blank → (rest cat (one ++ two) before at).fault ≡ Blank
      → ((rest cat (one ++ two) before at).arguments ≡ (rest cat one before at).arguments ++ (rest cat (one ++ two) (behind before (rest cat one before at).arguments) (length one)).arguments)
      × ((rest cat (one ++ two) (behind before (rest cat one before at).arguments) (length one)).fault ≡ Blank)
  first_part zero before at l m e f = let z : at ≡ length one = omega arith in rw (rest_end cat one before at (omega arith), ← z) (refl, f)
  first_part (suc n) before at l m e f = elim (side at (length one)) [
    | outside h ↦ (let z : at ≡ length one = omega arith in rw (rest_end cat one before at h, ← z) (refl, f))
    | inside h ↦
        let s = step cat one before at h e in
        let a : Argument = untested cat one at in
        let u : untested cat (one ++ two) at ≡ a = same-untested cat one two before at h s in
        let b : at < length (one ++ two) = rw length-append (omega arith) in
        let x : rest cat one before at ≡ added a (rest cat one a.code a.next) = step-rest cat one before at h e in
        let y : rest cat (one ++ two) before at ≡ added a (rest cat (one ++ two) a.code a.next) =
        step-rest cat (one ++ two) before at b f ∙ ap (λ (c : Argument). added c (rest cat (one ++ two) c.code c.next)) u in
        let r = first_part n a.code a.next (omega (arith, s.onward)) (next-within cat one before at s) (sym (ap (λ (r : ListRead). r.fault) x) ∙ e) (sym (ap (λ (r : ListRead). r.fault) y) ∙ f) in
        rw (x, y) (ap (◌∷◌ a) r.0, r.1)
  ]

  -- the second part's arguments are the later ones, moved
  second-part : (n : ℕ) (before : TypeCode) (at : ℕ) → length two ≤ at + n → (rest cat (one ++ two) before (length one + at)).fault ≡ Blank
      → ((rest cat two before at).fault ≡ Blank) × ((rest cat (one ++ two) before (length one + at)).arguments ≡ map (moved (length one)) (rest cat two before at).arguments)
  second-part zero before at l f = rw (rest_end cat two before at (omega arith), rest_end cat (one ++ two) before (length one + at) (rw length-append (omega arith))) (refl, refl)
  second-part (suc n) before at l f = elim (side at (length two)) [
    | outside h ↦ rw (rest_end cat two before at h, rest_end cat (one ++ two) before (length one + at) (rw length-append (omega arith))) (refl, refl)
    | inside h ↦
        let b : length one + at < length (one ++ two) = rw length-append (omega arith) in
        let s = shift-sound cat one two before at (step cat (one ++ two) before (length one + at) b f) in
        let a : Argument = untested cat two at in
        let y : rest cat (one ++ two) before (length one + at) ≡ added (moved (length one) a) (rest cat (one ++ two) a.code (length one + a.next)) =
        step-rest cat (one ++ two) before (length one + at) b f ∙ ap (λ (c : Argument). added c (rest cat (one ++ two) c.code c.next)) s.1 in
        let r = second-part n a.code a.next (omega (arith, s.0.onward)) (sym (ap (λ (r : ListRead). r.fault) y) ∙ f) in
        let e : (rest cat two before at).fault ≡ Blank = sym (got-rest cat two before at h refl s.0.answer) ∙ r.0 in
        let x : rest cat two before at ≡ added a (rest cat two a.code a.next) = step-rest cat two before at h e in
        (e, ap (λ (r : ListRead). r.arguments) y ∙ ap (◌∷◌ (moved (length one) a)) r.1 ∙ sym (ap (λ (r : ListRead). map (moved (length one)) r.arguments) x))
  ]

-- what is sound behind a type is read the same from the first byte on
free-rest : (cat list : Bytes) (before : TypeCode) → 0 < length list → (rest cat list before 0).fault ≡ Blank → rest cat list (code 0) 0 ≡ rest cat list before 0
free-rest cat list before h e =
    let s = step cat list before 0 h e in
    let f : (rest cat list (code 0) 0).fault ≡ Blank = sym (got-rest cat list (code 0) 0 h refl (free-answer cat list before 0 s)) ∙ step-fault cat list before 0 h e in
    step-rest cat list (code 0) 0 h f ∙ sym (step-rest cat list before 0 h e)

-- LAW: a list cut between two arguments
pub record Parts (cat one two : Bytes) : Type 0 where
  pub second : (list_read cat two).fault ≡ Blank
  pub joined : (list_read cat (one ++ two)).arguments ≡ (list_read cat one).arguments ++ map (moved (length one)) (list_read cat two).arguments

pub parts : (cat one two : Bytes) → 0 < length two → (list_read cat one).fault ≡ Blank → (list_read cat (one ++ two)).fault ≡ Blank → Parts cat one two
parts cat one two h e f =
    let J : Bytes = one ++ two in
    let p = first_part cat one two (length one) (code 0) 0 (omega arith) (omega arith) (ap (λ (r : ListRead). r.fault) (rest-whole cat one) ∙ e) (ap (λ (r : ListRead). r.fault) (rest-whole cat J) ∙ f) in
    let t : TypeCode = behind (code 0) (rest cat one (code 0) 0).arguments in
    let z : length one + 0 ≡ length one = omega arith in
    let q = second-part cat one two (length two) t 0 (omega arith) (rw z p.1) in
    let w : rest cat two t 0 ≡ list_read cat two = sym (free-rest cat two t h q.0) ∙ rest-whole cat two in
    record {
      second = sym (ap (λ (r : ListRead). r.fault) w) ∙ q.0;
      joined = sym (ap (λ (r : ListRead). r.arguments) (rest-whole cat J)) ∙ p.0
          ∙ ap (λ (ar : List Argument). (rest cat one (code 0) 0).arguments ++ ar) ((rw z at q.1) ∙ ap (λ (r : ListRead). map (moved (length one)) r.arguments) w)
          ∙ ap (λ (r : ListRead). r.arguments ++ map (moved (length one)) (list_read cat two).arguments) (rest-whole cat one);
    }

-- the first fault of a list in two parts, whose first has none: that of the second, read on behind the first
module _ (cat one two : Bytes) where
  -- what is sound in the first part is read the same in the whole list
  same_answer : (before : TypeCode) (at : ℕ) → at < length one → Sound cat one before at → argument_at cat (one ++ two) before at ≡ argument_at cat one before at
  unfolding argument_at good_next is_field_of qualification_at
  same_answer before at h s =
      let n : length (one ++ two) ≡ length one + length two = length-append one two in
      let b₀ : byte (one ++ two) at ≡ byte one at = get_or-append one two 0 at h in
      let b₁ : byte (one ++ two) (at + 1) ≡ byte one (at + 1) = get_or-append one two 0 (at + 1) s.room.operator in
      let l₁ = lt-leb (length one + length two) (at + 1) (omega (arith, s.room.operator)) in
      let m₁ = lt-leb (length one) (at + 1) s.room.operator in
      elim (is (eqb (byte one (at + 1)) 0)) [
        | on e ↦ rw (n, b₀, b₁, l₁, m₁, e)
        | off e ↦
            let r = s.room.number (eqb-false (byte one (at + 1)) 0 e) in
            let b₂ : byte (one ++ two) (at + 2) ≡ byte one (at + 2) = get_or-append one two 0 (at + 2) r in
            let w : ℕ = field_length cat (field (byte one (at + 2))) in
            let v : at + 3 + w ≤ length one = (rw e at s.test).within in
            rw (
              n,
              b₀,
              b₁,
              b₂,
              l₁,
              m₁,
              e,
              lt-leb (length one + length two) (at + 2) (omega arith),
              lt-leb (length one) (at + 2) r,
              le-ltb (length one + length two) (at + 3 + w) (omega arith),
              le-ltb (length one) (at + 3 + w) v,
              same-part one two (at + 3) w v,
            )
      ]

  front-fault : (n : ℕ) (before : TypeCode) (at : ℕ) → length one ≤ at + n → at ≤ length one → (rest cat one before at).fault ≡ Blank
      → (rest cat (one ++ two) before at).fault ≡ (rest cat (one ++ two) (behind before (rest cat one before at).arguments) (length one)).fault
  front-fault zero before at l m e = let z : at ≡ length one = omega arith in rw (rest_end cat one before at (omega arith), ← z)
  front-fault (suc n) before at l m e = elim (side at (length one)) [
    | outside h ↦ (let z : at ≡ length one = omega arith in rw (rest_end cat one before at h, ← z))
    | inside h ↦
        let s = step cat one before at h e in
        let a : Argument = untested cat one at in
        let b : at < length (one ++ two) = rw length-append (omega arith) in
        let x : rest cat one before at ≡ added a (rest cat one a.code a.next) = step-rest cat one before at h e in
        let y : (rest cat (one ++ two) a.code a.next).fault ≡ (rest cat (one ++ two) before at).fault = got-rest cat (one ++ two) before at b refl (same_answer before at h s ∙ s.answer) in
        let i = front-fault n a.code a.next (omega (arith, s.onward)) (next-within cat one before at s) (sym (ap (λ (r : ListRead). r.fault) x) ∙ e) in
        sym y ∙ i ∙ ap (λ (r : ListRead). (rest cat (one ++ two) (behind before r.arguments) (length one)).fault) (sym x)
  ]

  back-fault : (n : ℕ) (before : TypeCode) (at : ℕ) → length two ≤ at + n → (rest cat (one ++ two) before (length one + at)).fault ≡ (rest cat two before at).fault
  back-fault zero before at l = rw (rest_end cat two before at (omega arith), rest_end cat (one ++ two) before (length one + at) (rw length-append (omega arith)))
  back-fault (suc n) before at l = elim (side at (length two)) [
    | outside h ↦ rw (rest_end cat two before at h, rest_end cat (one ++ two) before (length one + at) (rw length-append (omega arith)))
    | inside h ↦
        let b : length one + at < length (one ++ two) = rw length-append (omega arith) in
        elim (read cat two before at) [
          | faulty s f e ↦ rw (rest-fault cat two before at s h e, rest-fault cat (one ++ two) before (length one + at) s b (shift cat one two before at ∙ ap (moved_read (length one)) e))
          | sound g ↦
              let a : Argument = untested cat two at in
              let x : (rest cat two a.code a.next).fault ≡ (rest cat two before at).fault = got-rest cat two before at h refl g.answer in
              let y : (rest cat (one ++ two) a.code (length one + a.next)).fault ≡ (rest cat (one ++ two) before (length one + at)).fault =
              got-rest cat (one ++ two) before (length one + at) b refl (shift cat one two before at ∙ ap (moved_read (length one)) g.answer) in
              sym y ∙ back-fault n a.code a.next (omega (arith, g.onward)) ∙ x
        ]
  ]

  pub joined-fault : (list_read cat one).fault ≡ Blank → (list_read cat (one ++ two)).fault ≡ (rest cat two (behind (code 0) (list_read cat one).arguments) 0).fault
  joined-fault e =
      let z : length one + 0 ≡ length one = omega arith in
      let p = front-fault (length one) (code 0) 0 (omega arith) (omega arith) (ap (λ (r : ListRead). r.fault) (rest-whole cat one) ∙ e) in
      sym (ap (λ (r : ListRead). r.fault) (rest-whole cat (one ++ two))) ∙ p
      ∙ (rw z at (back-fault (length two) (behind (code 0) (rest cat one (code 0) 0).arguments) 0 (omega arith)))
      ∙ ap (λ (r : ListRead). (rest cat two (behind (code 0) r.arguments) 0).fault) (rest-whole cat one)

-- LAW: a value of the first part, and one of the second, in the whole list
module _ (cat one two : Bytes) where
  pub same-meant : (t : TypeCode) (q : Qualification) → GoodQualification cat one t q → meant cat (one ++ two) q ≡ meant cat one q
  same-meant t None h = refl
  same-meant t (Some x) h = rw (same-part one two x.value (field_length cat x.field) h.within)

  pub moved-meant : (q : Qualification) → meant cat (one ++ two) (moved_test (length one) q) ≡ meant cat two q
  moved-meant None = refl
  moved-meant (Some x) = rw (drop-append-add one two x.value)
