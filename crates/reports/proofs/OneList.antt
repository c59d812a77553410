-- A loop of gets over one list, as a whole: what is shown and what is left to be found are together what there is to find. Assumes nothing.
use mathlib.Core.Path.{◌≡◌, refl, ap, sym, ◌∙◌}
use mathlib.Core.List.{List, [], ◌∷◌}
use Prim.Native.Nat.{ℕ, suc, ◌+◌, ◌≤◌}
use native.Mathlib.Omega.{arith}
use lib.ListN.{length, replicate, length-replicate}
use Rattle.terms.specs.declared.CellNumber.{CellNumber}
use Rattle.rules.specs.Block.{Bytes}
use Rattle.rules.specs.Cells.{end_at}
use Rattle.rules.specs.Table.{listing}
use Rattle.catalogue.proofs.Hierarchy.{cell-most}
use Rattle.report_loops.specs.Plain.{picked}
use Rattle.report_loops.specs.Demand3.{Accepted}
use Rattle.report_loops.proofs.Hits.{Without, hits-none, hits-first}
use Rattle.report_loops.proofs.Demand.{hits-picked}
use Rattle.reports.specs.Given.{Given}
use Rattle.reports.specs.Shown.{put_hit, shown_from}
use Rattle.reports.specs.Onward.{test, between, Went}
use Rattle.reports.proofs.Steps.{Turn}
use Rattle.reports.proofs.Written.{put-length, show-none, show-next}

-- an area that no call finds too short
abbrev pub room : Bytes
room = replicate 120 0

module _ {cat tab list : Bytes} {size : ℕ} (g : Given cat tab list size) where
  pub accepted : Accepted cat tab list room
  accepted = record {
    catalogue = g.sound.catalogue;
    table = g.sound.table;
    read = g.read;
    long = omega (arith, cell-most cat g.sound.catalogue, length-replicate {A = ℕ} 120 0);
  }

  -- what get-next alone shows is what is picked
  picked-between : between cat tab list 0 (length (listing cat tab)) ≡ picked cat tab list
  picked-between = hits-picked cat tab room list accepted

-- under way from cell `from` to cell `to`, with k hits before it: now at a cell, with so many hits
pub record Way (cat tab list : Bytes) (from to k : ℕ) (before : Bytes) (hits at : ℕ) (out : Bytes) : Type 0 where
  pub later : from ≤ at
  pub inside : at ≤ to
  pub fewer : hits ≤ at
  pub left : hits + length (between cat tab list at to) ≡ k + length (between cat tab list from to)
  pub shown : shown_from hits (between cat tab list at to) out ≡ shown_from k (between cat tab list from to) before
  pub room : length out ≡ length before

module _ {cat tab list : Bytes} {from to k : ℕ} {before : Bytes} where
  pub way-start : from ≤ to → k ≤ from → Way cat tab list from to k before k from before
  way-start l m = record { later = omega arith; inside = l; fewer = m; left = refl; shown = refl; room = refl }

  module _ {hits at : ℕ} {out : Bytes} (w : Way cat tab list from to k before hits at out) where
    pub way-none : Without (test cat tab list) at to
        → (hits ≡ k + length (between cat tab list from to)) × (out ≡ shown_from k (between cat tab list from to) before)
    way-none h =
        let z : between cat tab list at to ≡ [] = hits-none (test cat tab list) at to h in
        let y = ap length z in
        (omega (arith, w.left), sym (show-none hits out) ∙ ap (λ (xs : List ℕ). shown_from hits xs out) (sym z) ∙ w.shown)

    pub way_next : {c : ℕ} → Turn (test cat tab list) at to c → (after : Bytes) → after ≡ put_hit hits c out
        → Way cat tab list from to k before (hits + 1) (suc c) after
    way_next {c} t after p =
        let z : between cat tab list at to ≡ c ∷ between cat tab list (suc c) to =
        hits-first (test cat tab list) at c to t.later t.inside t.passes t.before in
        let y = ap length z in
        record {
          later = omega (arith, t.later, w.later);
          inside = t.inside;
          fewer = omega (arith, t.later, w.fewer);
          left = omega (arith, w.left);
          shown = rw p (show-next hits c (between cat tab list (suc c) to) out) ∙ ap (λ (xs : List ℕ). shown_from hits xs out) (sym z) ∙ w.shown;
          room = rw p (put-length hits c out) ∙ w.room;
        }

-- LAW: from the first cell to the last, what is shown is what is picked
pub way-picked : {cat tab list : Bytes} {size : ℕ} (g : Given cat tab list size) {before : Bytes} {hits at : ℕ} {out : Bytes}
    → Way cat tab list 0 (length (listing cat tab)) 0 before hits at out → Without (test cat tab list) at (length (listing cat tab))
    → (hits ≡ length (picked cat tab list)) × (out ≡ shown_from 0 (picked cat tab list) before)
way-picked {cat} {tab} {list} g {before} w h =
    let z = way-none w h in
    let y = ap length (picked-between g) in
    (omega (arith, z.0), z.1 ∙ ap (λ (xs : List ℕ). shown_from 0 xs before) (picked-between g))

-- LAW: beneath cell p, as far as its run goes
pub way-went : {cat tab list : Bytes} {p k : ℕ} {before : Bytes} {hits : ℕ} {c : CellNumber} {out : Bytes}
    → Way cat tab list (suc p) (end_at cat (listing cat tab) p) k before hits (suc c.0) out
    → Without (test cat tab list) (suc c.0) (end_at cat (listing cat tab) p) → Went cat tab list p k before (record { hits = hits; cell = c }) out
way-went w n =
    let z = way-none w n in
    record { hits = z.0; out = z.1; later = omega (arith, w.later); inside = w.inside; fewer = w.fewer }
