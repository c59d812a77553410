-- A report as a whole: refused, without room, or shown. Assumes nothing.
use mathlib.Core.Path.{◌≡◌, refl, ap, ◌∙◌}
use mathlib.Core.Bool.{Bool, true, false, ◌||◌}
use mathlib.Core.List.{List, [], ◌∷◌, ◌++◌}
use Prim.Native.Nat.{ℕ, zero, suc, ◌*◌, ◌<◌, ◌≤◌}
use native.Mathlib.Omega.{arith}
use lib.Dec.{ltb, eqb}
use lib.ListN.{length, length-append}
use borrow.Author.Tests.{eq-eqb, ne_eqb, lt-ltb, le-ltb, eqb-true}
use Rattle.terms.specs.declared.Status.{Status}
use Rattle.terms.specs.declared.Status.TheVariants.{Blank, AC, AB}
use Rattle.std.specs.Prelude.{Ok, Err}
use Rattle.terms.specs.Statuses.{number, verdict}
use Rattle.terms.proofs.Verdict.{verdict-ok, verdict-err}
use Rattle.forest.specs.Good.{on, off, is}
use Rattle.forest.specs.Numbers.{range}
use Rattle.rules.specs.Block.{Bytes, byte}
use Rattle.rules.specs.Catalogue.{good_catalogue}
use Rattle.rules.specs.Table.{count, listing, good_table}
use Rattle.rules.specs.Arguments.{list_read}
use Rattle.rules.specs.Outcome.{check_table}
use Rattle.cells.specs.Sound.{Sound}
use Rattle.cells.proofs.Located.{good-sized, good-housed}
use Rattle.answers.proofs.Statuses.{blank-is}
use Rattle.report_loops.specs.Plain.{filter, meets, picked}
use Rattle.arguments.proofs.Cut.{parts}
use Rattle.reports.specs.Shown.{shown_from}
use Rattle.reports.specs.Report.{told, reported, lists_fault, report_refusal, showing, report}
use Rattle.reports.specs.Given.{GivenBoth}
use Rattle.reports.proofs.Lists.{checked-good}
use Rattle.reports.proofs.Written.{show-whole, show-empty}

-- no more cells are picked than there are
range-long : (k i : ℕ) → length (range i k) ≡ k
range-long zero i = refl
range-long (suc k) i = ap suc (range-long k (suc i))

filter-short : (t : ℕ → Bool) (xs : List ℕ) → length (filter t xs) ≤ length xs
unfolding filter
filter-short t [] = omega arith
filter-short t (x ∷ xs) = elim (is (t x)) [
  | on e ↦ rw (filter, e) (omega (arith, filter-short t xs))
  | off e ↦ rw (filter, e) (omega (arith, filter-short t xs))
]

pub picked-few : (cat tab list : Bytes) → length (picked cat tab list) ≤ count tab
unfolding picked
picked-few cat tab list = omega (
  arith,
  filter-short (meets cat list (listing cat tab)
      (list_read cat list).arguments) (range 0 (count tab)),
  range-long (count tab) 0,
)

-- these cells, with room for all of them or without
module _ (cells : List ℕ) (out : Bytes) where
  pub shows-short : {all : ℕ} → all ≡ length cells → length out < 2 * all → reported (told (Err AB)) out ≡ showing cells out
  unfolding showing
  shows-short h l = rw (lt-ltb (length out) (2 * length cells) (omega arith))

  pub shows-all : {next : Bytes} {all : ℕ} → all ≡ length cells → next ≡ shown_from 0 cells out → 2 * length cells ≤ length out
      → reported (told (Ok all)) next ≡ showing cells out
  unfolding showing
  shows-all h w l = rw (h, w, show-whole cells out l, le-ltb (length out) (2 * length cells) l)

  -- the same behind a count, which had no room to write to
  module _ {empty : Bytes} (e : empty ≡ shown_from 0 cells []) where
    untouched : empty ++ out ≡ out
    untouched = ap (λ (t : Bytes). t ++ out) (e ∙ show-empty 0 cells [] refl)

    pub counted-short : {all : ℕ} → all ≡ length cells → length (empty ++ out) < 2 * all → reported (told (Err AB)) (empty ++ out) ≡ showing cells out
    counted-short h l = ap (reported (told (Err AB))) untouched ∙ shows-short h (let y = ap length untouched in omega arith)

    pub counted-all : {next : Bytes} {all : ℕ} → all ≡ length cells → next ≡ shown_from 0 cells (empty ++ out)
        → {few : ℕ} → few ≡ length cells → 2 * few ≤ length (empty ++ out) → reported (told (Ok all)) next ≡ showing cells out
    counted-all h w f l = shows-all h (w ∙ ap (shown_from 0 cells) untouched) (let y = ap length untouched in omega arith)

-- what is blank of the faults of two lists
pub record Sounds (cat one two : Bytes) : Type 0 where
  pub first : (list_read cat one).fault ≡ Blank
  pub some : 0 < length one
  pub more : 0 < length two
  pub joined : (list_read cat (one ++ two)).fault ≡ Blank

some_of : (xs : Bytes) → eqb (length xs) 0 ≡ false → 0 < length xs
some_of [] e = absurd (let z : ◌≡◌ {A = ℕ} 0 1 = cc in omega arith)
some_of (x ∷ xs) e = omega arith

or-both : (a b : Bool) → (a || b) ≡ false → (a ≡ false) × (b ≡ false)
or-both true b e = absurd (let z : ◌≡◌ {A = ℕ} 0 1 = cc in omega arith)
or-both false b e = (refl, e)

lists-blank : (cat one two : Bytes) → number (lists_fault cat one two) ≡ 0 → Sounds cat one two
unfolding lists_fault
lists-blank cat one two h = elim (is (eqb (number (list_read cat one).fault) 0)) [
  | off a ↦ absurd (let y : number (list_read cat one).fault ≡ 0 = rw a at h in
      let z = eq-eqb (number (list_read cat one).fault) 0 y in let w : ◌≡◌ {A = ℕ} 0 1 = cc in omega arith)
  | on a ↦ elim (is (eqb (length one) 0 || eqb (length two) 0)) [
    | on b ↦ absurd (let y : number AC ≡ 0 = rw (a, b) at h in omega arith)
    | off b ↦
        let d = or-both (eqb (length one) 0) (eqb (length two) 0) b in
        let y : number (list_read cat (one ++ two)).fault ≡ 0 = rw (a, b) at h in
        record { first = blank-is _ (eqb-true (number (list_read cat one).fault) 0 a); some = some_of one d.0; more = some_of two d.1; joined = blank-is _ y }
  ]
]

refusal-blank : (cat tab one two : Bytes) → number (report_refusal cat tab one two) ≡ 0
    → (eqb (number (check_table cat tab)) 0 ≡ true) × (number (lists_fault cat one two) ≡ 0)
unfolding report_refusal
refusal-blank cat tab one two h = elim (is (eqb (number (check_table cat tab)) 0)) [
  | off a ↦ absurd (let y : number (check_table cat tab) ≡ 0 = rw a at h in
      let z = eq-eqb (number (check_table cat tab)) 0 y in let w : ◌≡◌ {A = ℕ} 0 1 = cc in omega arith)
  | on a ↦ (a, (rw a at h))
]

module _ (cat tab one two : Bytes) where
  pub whole-refused : (out : Bytes) {s : Status} → verdict (report_refusal cat tab one two) ≡ Err s → reported (told (Err s)) out ≡ report cat tab one two out
  unfolding report
  whole-refused out e =
      let y = verdict-err (report_refusal cat tab one two) e in
      rw (y.1, ne_eqb (number (report_refusal cat tab one two)) 0 y.0)

  module _ {u : Unit {0}} (e : verdict (report_refusal cat tab one two) ≡ Ok u) where
    none : number (report_refusal cat tab one two) ≡ 0
    none = ap number (verdict-ok (report_refusal cat tab one two) e)

    whole-good : (good_catalogue cat ≡ true) × (good_table cat tab ≡ true)
    whole-good = checked-good cat tab (refusal-blank cat tab one two none).0

    lists : Sounds cat one two
    lists = lists-blank cat one two (refusal-blank cat tab one two none).1

    blocks : Sound cat tab (byte tab 5)
    blocks = record {
      catalogue = whole-good.0;
      table = whole-good.1;
      sized = rw (good-housed cat tab whole-good.1).told (good-sized cat tab whole-good.0 whole-good.1);
    }

    pub whole-given : GivenBoth cat tab one two (byte tab 5)
    whole-given = record {
      first = record { sound = blocks; read = lists.first; some = lists.some };
      second = record { sound = blocks; read = (parts cat one two lists.more lists.first lists.joined).second; some = lists.more };
      joined = record { sound = blocks; read = lists.joined; some = rw length-append (omega (arith, lists.some)) };
    }

    pub whole-shows : (out : Bytes) → showing (picked cat tab (one ++ two)) out ≡ report cat tab one two out
    unfolding report
    whole-shows out = rw (eq-eqb (number (report_refusal cat tab one two)) 0 none)

-- LAW: no report shows more cells than a table has
showing-few : (cells : List ℕ) (out : Bytes) → length cells ≤ 4096 → (showing cells out).answer.hits ≤ 4096
unfolding showing
showing-few cells out l = elim (is (ltb (length out) (2 * length cells))) [ on e ↦ rw e (omega arith) | off e ↦ rw e l ]

pub report-few : (cat tab one two out : Bytes) → (report cat tab one two out).answer.hits ≤ 4096
unfolding report
report-few cat tab one two out = elim (is (eqb (number (report_refusal cat tab one two)) 0)) [
  | off e ↦ rw e (omega arith)
  | on e ↦
      let z : number (report_refusal cat tab one two) ≡ 0 = eqb-true (number (report_refusal cat tab one two)) 0 e in
      let g = checked-good cat tab (refusal-blank cat tab one two z).0 in
      rw e (showing-few (picked cat tab (one ++ two)) out (omega (arith, picked-few cat tab (one ++ two), (good-sized cat tab g.0 g.1).few)))
]
