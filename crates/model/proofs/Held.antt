-- REPL and DLET over the forest are those over the cells. Assumes nothing.
use Rattle.std.specs.Prelude.{None, Some}
use mathlib.Core.Path.{◌≡◌, refl, ap, sym, ◌∙◌}
use mathlib.Core.Bool.{Bool, true, false, ◌&&◌, not}
use mathlib.Core.List.{List, ◌++◌}
use Prim.Native.Nat.{ℕ, suc, ◌+◌, ◌<◌}
use lib.Dec.{ltb, leb}
use lib.ListN.{length, take, drop, set}
use Rattle.terms.specs.declared.CellNumber.{CellNumber}
use Rattle.terms.specs.declared.Place.TheVariants.{Before}
use Rattle.terms.specs.declared.Position.{Position}
use Rattle.terms.specs.declared.Status.TheVariants.{DA}
use Rattle.terms.specs.Choice.{pick}
use Rattle.terms.specs.Names.{cell, Parentage}
use Rattle.terms.specs.Moves.{place_number, hold_dropped, without, after_delete}
use Rattle.forest.specs.Forest.{Forest, cells_of, forest_of}
use Rattle.forest.specs.Edit.{size, kids}
use Rattle.forest.specs.Runs.{run_len, prune, swap as swapped}
use Rattle.forest.proofs.Runs.{run_length, cells-prune, cells-swap}
use Rattle.rules.specs.Block.{Bytes, same_bytes}
use Rattle.rules.specs.Cells.{Segment, segment, blank, arriving, key, segment_level, run_at, end_at}
use Rattle.rules.specs.Change.{swap, cut}
use Rattle.rules.specs.Matching.{path_to}
use Rattle.rules.specs.Calls.{After, refused, changed, replaced, replacement, replace, deleted, delete}
use Rattle.rules.specs.Paths.{Path, end, Standing, current_path, parentage_of, numbered, adjust_deletion, after_cut}
use Rattle.rules.specs.Tree.{segments, exchanged, taken_out, int_repl, int_dlet}
use Rattle.rules.proofs.Cells.{row-run}
use Rattle.rules.proofs.Paths.{end-path, prefix-row}
use Rattle.rules.proofs.Tree.{segments-cells, run-cells}
use Rattle.model.proofs.Paths.{placed, parented, paths}
use Rattle.model.proofs.Standing.{numbered-paths}

-- on a cell, which is held
module _ (cat : Bytes) (cs : List Segment) (pos : Position) (area : Bytes) (on-cell : place_number pos.place < length cs)
    (on-path : current_path (placed cat cs pos.place) ≡ path_to cat cs (place_number pos.place)) where
  abbrev here : Standing
  here = paths cat cs pos

  abbrev held : ℕ
  held = place_number pos.place

  -- the segment that the area makes of cell i
  abbrev new : ℕ → Segment
  new i = arriving cat (segment cs i).code area

  -- what REPL answers, by its position before
  abbrev after : Position → ℕ → Segment → List Segment → After
  after p i y new =
      pick (not (same_bytes (key cat (segment cs i)) (key cat y))) (refused DA p area)
      (changed cat (hold_dropped p) y 0 (swap i y) new area)

  abbrev swapped_to : ℕ → After
  swapped_to i = exchanged cat cs here area i (new i) (cells_of (swapped (segment_level cat) (new i) i (segments cat cs)))

  exchanged-after : (i : ℕ) (y : Segment) (ds : List Segment) → exchanged cat cs here area i y ds ≡ after (numbered here) i y ds
  unfolding exchanged
  exchanged-after i y ds = refl

  replaced-after : (i : ℕ) (y : Segment) (ds : List Segment) → replaced cat cs pos area i y ds ≡ after pos i y ds
  unfolding replaced
  replaced-after i y ds = refl

  -- LAW: REPL
  pub replace-agree : int_repl cat cs here area ≡ replace cat cs pos area
  unfolding int_repl replace replacement
  replace-agree =
      ap swapped_to (ap end on-path ∙ end-path cat cs held)
      ∙ exchanged-after held (new held) (cells_of (swapped (segment_level cat) (new held) held (segments cat cs)))
      ∙ ap (λ (p : Position). after p held (new held) (cells_of (swapped (segment_level cat) (new held) held (segments cat cs)))) (numbered-paths cat cs pos)
      ∙ ap (λ (f : Forest Segment). after pos held (new held) (cells_of (swapped (segment_level cat) (new held) held f))) (segments-cells cat cs)
      ∙ ap (after pos held (new held)) (cells-swap (segment_level cat) blank (new held) held cs on-cell)
      ∙ sym (replaced-after held (new held) (set cs held (new held)))

  -- what DLET answers, by its position afterwards
  abbrev gone : Position → ℕ → ℕ → List Segment → After
  gone p i n ds = changed cat p (segment cs i) n (cut i n) ds area

  taken-gone : (p : Path) (n : ℕ) (ds : List Segment) → taken_out cat cs here area p n ds ≡ gone (numbered (after_cut p here)) (end p) n ds
  unfolding taken_out
  taken-gone p n ds = refl

  deleted-gone : (i n : ℕ) (ds : List Segment) → deleted cat cs pos area i n ds ≡ gone (after_delete i n pos) i n ds
  unfolding deleted
  deleted-gone i n ds = refl

  -- R45, of the parentage: the path deleted is the front of the parent path
  parentage-gone : (i : ℕ) (q : Parentage) → ((c : CellNumber) → q ≡ Some c → c.0 < length cs)
      → parentage_of (adjust_deletion (path_to cat cs i) (parented cat cs q)) ≡ without i (run_at cat cs i) q
  unfolding end_at
  parentage-gone i None known = refl
  parentage-gone i (Some c) known =
      ap (λ (b : Bool). parentage_of (pick b None (Some (path_to cat cs c.0)))) (prefix-row cat cs i c.0 ∙ row-run cat cs i c.0 (known c refl))
      ∙ go (leb i c.0 && ltb c.0 (i + run_at cat cs i))
    where
      go : (b : Bool) → parentage_of (pick b None (Some (path_to cat cs c.0))) ≡ pick b None (Some c)
      go true = refl
      go false = ap (λ (k : ℕ). Some (cell k)) (end-path cat cs c.0)

  module _ (known : (c : CellNumber) → pos.parentage ≡ Some c → c.0 < length cs) where
    moved-gap : numbered (after_cut (path_to cat cs held) here) ≡ after_delete held (run_at cat cs held) pos
    moved-gap =
        ap (λ (k : ℕ). record { place = Before (cell k); parentage = parentage_of (adjust_deletion (path_to cat cs held) here.parent); hold = false })
        (end-path cat cs held)
        ∙ ap (λ (q : Parentage). record { place = Before (cell held); parentage = q; hold = false }) (parentage-gone held pos.parentage known)

    abbrev cut_at : Path → After
    cut_at p = taken_out cat cs here area p (suc (size (kids (end p) (segments cat cs)))) (cells_of (prune (segment_level cat) (end p) (segments cat cs)))

    -- as many as the run has, and the cells without it
    abbrev gone_at : Forest Segment → ℕ → After
    gone_at f i = gone (after_delete held (run_at cat cs held) pos) i (suc (size (kids i f))) (cells_of (prune (segment_level cat) i f))

    -- LAW: DLET
    pub delete-agree : int_dlet cat cs here area ≡ delete cat cs pos area
    unfolding int_dlet delete
    delete-agree =
        let r : run_len (segment_level cat) blank held cs ≡ run_at cat cs held = run-cells cat cs held in
        let now : Position = after_delete held (run_at cat cs held) pos in
        ap cut_at on-path
        ∙ taken-gone (path_to cat cs held) _ _
        ∙ ap (λ (p : Position). gone p (end (path_to cat cs held)) (suc (size (kids (end (path_to cat cs held)) (segments cat cs))))
        (cells_of (prune (segment_level cat) (end (path_to cat cs held)) (segments cat cs)))) moved-gap
        ∙ ap (gone_at (segments cat cs)) (end-path cat cs held)
        ∙ ap (λ (f : Forest Segment). gone_at f held) (segments-cells cat cs)
        ∙ ap (λ (n : ℕ). gone now held n (cells_of (prune (segment_level cat) held (forest_of (segment_level cat) cs))))
        (run_length (segment_level cat) blank held cs on-cell ∙ r)
        ∙ ap (gone now held (run_at cat cs held)) (cells-prune (segment_level cat) blank held cs on-cell)
        ∙ ap (λ (n : ℕ). gone now held (run_at cat cs held) (take held cs ++ drop (held + n) cs)) r
        ∙ sym (deleted-gone held (run_at cat cs held) (take held cs ++ drop (held + run_at cat cs held) cs))
