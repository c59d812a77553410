-- What is refused before a report begins, test by test. Assumes nothing.
use mathlib.Core.Path.{◌≡◌, refl, ap, sym, ◌∙◌}
use mathlib.Core.Bool.{true, false}
use mathlib.Core.List.{List, [], ◌∷◌}
use Prim.Native.Nat.{ℕ}
use native.Mathlib.Omega.{arith}
use lib.Dec.{eqb}
use lib.ListN.{length}
use borrow.Author.Tests.{ne_eqb, eqb-false}
use Rattle.terms.specs.declared.TypeCode.{TypeCode}
use Rattle.terms.specs.declared.Argument.{Argument}
use Rattle.terms.specs.declared.Status.{Status}
use Rattle.terms.specs.declared.Status.TheVariants.{Blank, CX, TX, AC}
use Rattle.terms.specs.Names.{code}
use Rattle.std.specs.Prelude.{Ok, Err}
use Rattle.terms.specs.Statuses.{number, verdict}
use Rattle.terms.proofs.Verdict.{verdict-ok, verdict-err, verdict-not}
use Rattle.forest.specs.Good.{on, off, is, is_nil}
use Rattle.rules.specs.Block.{Bytes}
use Rattle.rules.specs.Catalogue.{good_catalogue}
use Rattle.rules.specs.Table.{good_table}
use Rattle.rules.specs.Arguments.{list_read, last_argument}
use Rattle.rules.specs.Outcome.{check_table}
use Rattle.arguments.specs.Sound.{SoundList, rest}
use Rattle.arguments.proofs.Sound.{list-filled}
use Rattle.answers.proofs.Statuses.{blank-is}
use Rattle.arguments.proofs.Cut.{behind, joined-fault}
use Rattle.report_loops.proofs.Asked.{last_code}
use Rattle.reports.specs.Report.{lists_fault, report_refusal}

last-behind : (ar : List Argument) → is_nil ar ≡ false → (last_argument ar).code ≡ behind (code 0) ar
last-behind [] e = absurd (let z : ◌≡◌ {A = ℕ} 0 1 = cc in omega arith)
last-behind (a ∷ ar) e = last_code a ar

module _ (cat one two : Bytes) where
  pub lists-faulty : {f : Status} → verdict (list_read cat one).fault ≡ Err f → Err f ≡ verdict (lists_fault cat one two)
  unfolding lists_fault
  lists-faulty e =
      let y = verdict-err (list_read cat one).fault e in
      rw (ne_eqb (number (list_read cat one).fault) 0 y.0) (sym e)

  module _ {u : Unit {0}} (p : verdict (list_read cat one).fault ≡ Ok u) where
    first-blank : (list_read cat one).fault ≡ Blank
    first-blank = verdict-ok (list_read cat one).fault p

    pub lists-no-first : eqb (length one) 0 ≡ true → Err AC ≡ verdict (lists_fault cat one two)
    unfolding lists_fault
    lists-no-first y = rw (first-blank, y)

    pub lists-no-second : eqb (length one) 0 ≡ false → eqb (length two) 0 ≡ true → Err AC ≡ verdict (lists_fault cat one two)
    unfolding lists_fault
    lists-no-second n y = rw (first-blank, n, y)

    pub lists-sound : good_catalogue cat ≡ true → SoundList cat one
    lists-sound g = record { catalogue = g; read = first-blank }

    pub lists-behind : good_catalogue cat ≡ true → eqb (length one) 0 ≡ false → eqb (length two) 0 ≡ false → (t : TypeCode) → t ≡ (last_argument (list_read cat one).arguments).code
        → (rest cat two t 0).fault ≡ lists_fault cat one two
    unfolding lists_fault
    lists-behind g a b t h =
        let n = eqb-false (length one) 0 a in
        rw (first-blank, a, b)
        (ap (λ (u : TypeCode). (rest cat two u 0).fault)
        (h ∙ last-behind (list_read cat one).arguments (list-filled cat one (lists-sound g) (omega arith)))
        ∙ sym (joined-fault cat one two first-blank))

pub checked-good : (cat tab : Bytes) → eqb (number (check_table cat tab)) 0 ≡ true → (good_catalogue cat ≡ true) × (good_table cat tab ≡ true)
unfolding check_table
checked-good cat tab h = elim (is (good_catalogue cat)) [
  | off a ↦ absurd (let y : eqb (number CX) 0 ≡ true = rw a at h in let z : ◌≡◌ {A = ℕ} 0 1 = cc in omega arith)
  | on a ↦ elim (is (good_table cat tab)) [
    | off b ↦ absurd (let y : eqb (number TX) 0 ≡ true = rw (a, b) at h in let z : ◌≡◌ {A = ℕ} 0 1 = cc in omega arith)
    | on b ↦ (a, b)
  ]
]

module _ (cat tab one two : Bytes) where
  pub refused-blocks : {s : Status} → s ≡ check_table cat tab → (s ≡ Blank → ⊥) → Err s ≡ verdict (report_refusal cat tab one two)
  unfolding report_refusal
  refused-blocks {s} e n =
      let m : number s ≡ 0 → ⊥ = λ z. n (blank-is s z) in
      rw (← e, ne_eqb (number s) 0 m) (sym (verdict-not s m))

  module _ (e : check_table cat tab ≡ Blank) where
    pub refused-lists : lists_fault cat one two ≡ report_refusal cat tab one two
    unfolding report_refusal
    refused-lists = rw e

    pub blocks-good : (good_catalogue cat ≡ true) × (good_table cat tab ≡ true)
    blocks-good = checked-good cat tab (rw e refl)
