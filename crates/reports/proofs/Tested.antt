-- The plain reading, cell by cell: those before a cell are read, and those of them that meet the lists are shown. Assumes nothing.
use mathlib.Core.Path.{◌≡◌, refl, ap, sym, ◌∙◌}
use mathlib.Core.Bool.{Bool, true, false}
use mathlib.Core.List.{List, [], ◌∷◌}
use Prim.Native.Nat.{ℕ, suc, ◌+◌, ◌-◌, ◌<◌, ◌≤◌}
use native.Mathlib.Omega.{arith}
use lib.ListN.{length}
use Rattle.terms.specs.declared.Argument.{Argument}
use Rattle.terms.specs.Choice.{pick}
use Rattle.rules.specs.Block.{Bytes}
use Rattle.rules.specs.Cells.{Segment}
use Rattle.rules.specs.Table.{count, listing}
use Rattle.rules.specs.Arguments.{list_read}
use Rattle.report_loops.specs.Plain.{meets, picked}
use Rattle.report_loops.proofs.Hits.{hits, hits-none, hits-first, hits-from}
use Rattle.reports.specs.Shown.{put_hit, shown_from}
use Rattle.reports.specs.Given.{Given}
use Rattle.reports.proofs.Written.{put-length, show-none, show-next}

-- the cells before i are read, and those of them that meet the list are shown
pub record Passed (cat tab list : Bytes) (before : Bytes) (k i : ℕ) (out : Bytes) : Type 0 where
  pub inside : i ≤ count tab
  pub fewer : k ≤ i
  pub left : k + length (hits (meets cat list (listing cat tab) (list_read cat list).arguments) i (count tab)) ≡ length (picked cat tab list)
  pub shown : shown_from k (hits (meets cat list (listing cat tab) (list_read cat list).arguments) i (count tab)) out
      ≡ shown_from 0 (picked cat tab list) before
  pub room : length out ≡ length before

module _ {cat tab list : Bytes} {size : ℕ} (g : Given cat tab list size) where
  abbrev cs : List Segment
  cs = listing cat tab

  abbrev ar : List Argument
  ar = (list_read cat list).arguments

  -- every cell that is read meets the list or not
  abbrev pub met : ℕ → Bool
  met = meets cat list cs ar

  all-picked : hits met 0 (count tab) ≡ picked cat tab list
  unfolding picked
  all-picked = let z : count tab - 0 ≡ count tab = omega arith in rw z

  pub passed_none : (before : Bytes) → Passed cat tab list before 0 0 before
  passed_none before = record {
    inside = omega arith;
    fewer = omega arith;
    left = let y = ap length all-picked in omega arith;
    shown = ap (λ (xs : List ℕ). shown_from 0 xs before) all-picked;
    room = refl;
  }

  module _ {before : Bytes} {k i : ℕ} {out : Bytes} (p : Passed cat tab list before k i out) where
    pub passed-small : i < count tab → (k < 65536) × (i < 65536)
    passed-small h = let q = g.sound.sized.few in (omega (arith, p.fewer), omega arith)

    passed-hit : true ≡ met i → i < count tab → (next : Bytes) → next ≡ put_hit k i out → Passed cat tab list before (k + 1) (i + 1) next
    passed-hit e h next q =
        let w : suc i ≡ i + 1 = omega arith in
        let z : hits met i (count tab) ≡ i ∷ hits met (i + 1) (count tab) =
        hits-first met i i (count tab) (omega arith) h (sym e) (λ m x y. absurd (omega arith)) ∙ ap (λ (j : ℕ). i ∷ hits met j (count tab)) w in
        let y = ap length z in
        record {
          inside = omega arith;
          fewer = omega (arith, p.fewer);
          left = omega (arith, p.left);
          shown = rw q (show-next k i (hits met (i + 1) (count tab)) out) ∙ ap (λ (xs : List ℕ). shown_from k xs out) (sym z) ∙ p.shown;
          room = rw q (put-length k i out) ∙ p.room;
        }

    passed-miss : false ≡ met i → i < count tab → Passed cat tab list before k (i + 1) out
    passed-miss e h =
        let z : hits met i (count tab) ≡ hits met (i + 1) (count tab) =
        hits-from met i (i + 1) (count tab) (omega arith) (omega arith) (λ m x y. let w : m ≡ i = omega arith in rw w (sym e)) in
        let y = ap length z in
        record {
          inside = omega arith;
          fewer = omega (arith, p.fewer);
          left = omega (arith, p.left);
          shown = ap (λ (xs : List ℕ). shown_from k xs out) (sym z) ∙ p.shown;
          room = p.room;
        }

    -- b says whether cell i meets the list, and more and next are what is shown then
    pub passed-next : (b : Bool) → b ≡ met i → (more : ℕ) (next : Bytes) → more ≡ pick b (k + 1) k → next ≡ pick b (put_hit k i out) out → i < count tab
        → Passed cat tab list before more (i + 1) next
    passed-next true e more next x y h = rw x (passed-hit e h next y)
    passed-next false e more next x y h = rw (x, y) (passed-miss e h)

    pub passed-all : count tab ≤ i → (k ≡ length (picked cat tab list)) × (out ≡ shown_from 0 (picked cat tab list) before)
    passed-all h =
        let z : hits met i (count tab) ≡ [] = hits-none met i (count tab) (λ m x y. absurd (omega arith)) in
        let y = ap length z in
        (omega (arith, p.left), sym (show-none k out) ∙ ap (λ (xs : List ℕ). shown_from k xs out) (sym z) ∙ p.shown)
