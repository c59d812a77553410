-- One get of a loop, as the reader promises it: it finds the first of the cells that match, or none is left; and the positions that the loops make are
-- good. Assumes nothing.
use Rattle.std.specs.Prelude.{Some}
use mathlib.Core.Path.{◌≡◌, refl, ap, sym, ◌∙◌}
use mathlib.Core.Bool.{Bool, true, false}
use mathlib.Core.List.{List}
use Prim.Native.Nat.{ℕ, suc, ◌-◌, ◌<◌, ◌≤◌}
use native.Mathlib.Omega.{arith}
use lib.Dec.{ltb}
use lib.ListN.{length}
use borrow.Author.Tests.{le-leb, lt-leb, le-ltb}
use Rattle.terms.specs.declared.CellNumber.{CellNumber}
use Rattle.terms.specs.declared.Position.{Position}
use Rattle.terms.specs.declared.Status.{Status}
use Rattle.terms.specs.declared.Status.TheVariants.{GE}
use Rattle.terms.specs.declared.Answer.{Answer}
use Rattle.terms.specs.Statuses.{number}
use Rattle.terms.specs.Moves.{fresh, place_cell, place_number, after_place, moved_onto}
use Rattle.rules.specs.Block.{Bytes, byte}
use Rattle.rules.specs.Cells.{Segment, end_at}
use Rattle.rules.specs.Table.{count, cell_size, listing}
use Rattle.rules.specs.Position.{good_position}
use Rattle.rules.specs.Arguments.{Level, list_read, get_levels}
use Rattle.rules.specs.Calls.{miss_status, get_next, get_next_within, called}
use Rattle.rules.specs.Outcome.{Outcome, unsound, misused, unless, after_sound, after_call, landed, outcome_of, outcome}
use Rattle.rules.proofs.Cells.{listing-length}
use Rattle.catalogue.proofs.Hierarchy.{cell-most}
use Rattle.cells.proofs.Located.{end_after, end-within}
use Rattle.answers.specs.Ready.{Ready, Again, made, left}
use Rattle.gets.proofs.Found.{parent_in, around}
use Rattle.report_loops.specs.Loops.{State, is_last, sight, promised}
use Rattle.report_loops.specs.Demand3.{seen_at}
use Rattle.report_loops.proofs.Hits.{clash, Without, nothing, found, first}
use Rattle.report_loops.proofs.Scan.{after, Seeks}
use Rattle.report_loops.proofs.Gets.{Fit, Under, moved-good, gn-seeks, gnp-seeks}
use Rattle.reports.specs.Onward.{test}
use Rattle.reports.specs.Given.{Given}

-- what a get asks besides blocks and list: a good position, and an area that is long enough
pub record Stands (cat tab : Bytes) (pos : Position) (area : Bytes) : Type 0 where
  pub good : good_position cat (listing cat tab) pos ≡ true
  pub long : cell_size cat ≤ suc (length area)

-- a loop of GN goes on from a cell that its list matches
pub again-cell : (cat tab list : Bytes) (c : CellNumber) → test cat tab list c.0 ≡ true → Again cat tab list (moved_onto c.0 (Some c) false)
again-cell cat tab list c h l = let z : suc c.0 - 1 ≡ c.0 = omega arith in rw z h

-- c is the first cell from `at` on and before e that passes
pub record Turn (t : ℕ → Bool) (at e c : ℕ) : Type 0 where
  pub later : at ≤ c
  pub inside : c < e
  pub passes : t c ≡ true
  pub before : Without t at c

-- a get that seeks has told by its status whether it found one
module _ (cat tab : Bytes) {Fits : State → Type 0} {Then : ℕ → State → Type 0} {t : ℕ → Bool} {e : ℕ} {miss : Status} {get : State → Outcome}
    (S : Seeks (seen_at cat tab) Fits Then t e miss get) {s : State} (F : Fits s) {o : Outcome} (q : o ≡ get s) where
  sought-none : is_last o ≡ true → Without t (after s) e
  sought-none l = elim (first t (after s) e) [
    | nothing w ↦ w
    | found j a b p w ↦ absurd (clash (is_last o) l (ap is_last q ∙ (S.one s j F a b p w).goes_on))
  ]

  sought-one : is_last o ≡ false → Turn t (after s) e (sight o).cell
  sought-one l = elim (first t (after s) e) [
    | nothing w ↦ absurd (clash (is_last o) (ap is_last q ∙ (S.none s F w).ends) l)
    | found j a b p w ↦
        let z : (sight (get s)).cell ≡ j = ap (λ x. x.cell) (S.one s j F a b p w).shows in
        rw (q, z) (record { later = a; inside = b; passes = p; before = w })
  ]

module _ {cat tab list : Bytes} (g : Given cat tab list (byte tab 5)) where
  abbrev cs : List Segment
  cs = listing cat tab

  abbrev ls : List Level
  ls = get_levels cat list (list_read cat list).arguments

  -- an area of 120 bytes is long enough for every cell
  stands-long : (pos : Position) (area : Bytes) → good_position cat cs pos ≡ true → length area ≡ 120 → Stands cat tab pos area
  stands-long pos area p l = record { good = p; long = omega (arith, cell-most cat g.sound.catalogue) }

  pub stands-fresh : (area : Bytes) → length area ≡ 120 → Stands cat tab fresh area
  unfolding good_position
  stands-fresh area l = stands-long fresh area (rw (le-leb 0 (length cs) (omega arith))) l

  -- on a cell of p's run, with parentage p
  pub stands-under : (p c : CellNumber) (area : Bytes) → p.0 < count tab → p.0 ≤ c.0 → c.0 < end_at cat cs p.0 → length area ≡ 120
      → Stands cat tab (moved_onto c.0 (Some p) false) area
  stands-under p c area l a b m =
      let n : c.0 < length cs = omega (arith, end-within cat cs p.0 (omega (arith, listing-length cat tab))) in
      stands-long (moved_onto c.0 (Some p) false) area (moved-good cat cs p.0 c.0 a b n) m

  -- on a cell that get-next found, which is the parentage now
  pub stands_on : (c : CellNumber) (area : Bytes) → c.0 < length cs → length area ≡ 120 → Stands cat tab (moved_onto c.0 (Some c) false) area
  stands_on c area l m = stands-under c c area (omega (arith, listing-length cat tab)) (omega arith) (end_after cat cs c.0) m

  module _ {pos : Position} {area : Bytes} (w : Stands cat tab pos area) where
    pub get-ready : Ready cat tab (byte tab 5) pos list × (byte tab 5 ≤ suc (length area))
    get-ready = (record { sound = g.sound; position = w.good; asked = g.read }, omega (arith, g.sound.sized.is, w.long))

    abbrev s : State
    s = record { table = tab; position = pos; area = area }

    abbrev Fits : State → Type 0
    Fits = Fit cat tab g.sound.catalogue g.sound.table

    abbrev Unders : ℕ → State → Type 0
    Unders = Under cat tab g.sound.catalogue g.sound.table

    fit : Fits s
    fit = record { table = refl; position = w.good; area = w.long }

    enough : ltb (length area) (cell_size cat - 1) ≡ false
    enough = le-ltb (length area) (cell_size cat - 1) (omega (arith, w.long))

    -- the call of a get is the get itself
    next-call : promised cat 2 list s ≡ landed cat tab (get_next cat cs pos area false ls)
    unfolding outcome outcome_of after_call unless unsound after_sound misused called
    next-call = simp (g.sound.catalogue, g.sound.table, w.good, g.read, enough)

    within-call : (p : CellNumber) → pos.parentage ≡ Some p → promised cat 3 list s ≡ landed cat tab (get_next_within cat cs pos area false ls)
    unfolding outcome outcome_of after_call unless unsound after_sound misused called
    within-call p e = simp (g.sound.catalogue, g.sound.table, w.good, g.read, enough, e)

    -- r and next are what the reader answered and wrote
    module _ (r : Answer) (next : Bytes) (n : ℕ) (h : n ≡ number r.status) where
      ended : 10 ≤ n → is_last (made r tab next) ≡ true
      ended l = le-leb 10 (number r.status) (omega arith)

      goes_on : n < 10 → is_last (made r tab next) ≡ false
      goes_on l = lt-leb 10 (number r.status) (omega arith)

      -- it found cell c, before e
      pub record Moved (e c : ℕ) : Type 0 where
        pub turn : Turn (test cat tab list) (after_place pos.place) e c
        pub small : c < 4096

      moved : (e : ℕ) → e ≤ length cs → Turn (test cat tab list) (after_place pos.place) e (place_number r.position.place)
          → (c : CellNumber) → c ≡ place_cell r.position.place → Moved e c.0
      moved e m t c x = rw x (record { turn = t; small = omega (arith, t.inside, listing-length cat tab, g.sound.sized.few) })

      -- LAW: GN seeks among all cells
      module _ (e : left r next ≡ get_next cat cs pos area false ls) where
        next-seeks : Seeks (seen_at cat tab) Fits Unders (test cat tab list) (length cs) (miss_status ls) (promised cat 2 list)
        next-seeks = gn-seeks cat tab g.sound.catalogue g.sound.table list g.read (miss_status ls) refl

        next-made : made r tab next ≡ promised cat 2 list s
        next-made = ap (landed cat tab) e ∙ sym next-call

        pub next-none : 10 ≤ n → Without (test cat tab list) (after_place pos.place) (length cs)
        next-none l = sought-none cat tab next-seeks fit next-made (ended l)

        pub next_one : n < 10 → (c : CellNumber) → c ≡ place_cell r.position.place → Moved (length cs) c.0
        next_one l = moved (length cs) (omega arith) (sought-one cat tab next-seeks fit next-made (goes_on l))

      -- LAW: GNP seeks up to the end of the parentage's run
      module _ (e : left r next ≡ get_next_within cat cs pos area false ls) (p : CellNumber) (x : pos.parentage ≡ Some p) where
        among : p.0 < length cs
        among = omega (arith, parent_in cat tab pos w.good p x, listing-length cat tab)

        within-seeks : Seeks (seen_at cat tab) (Unders p.0) (λ j. Unders p.0) (test cat tab list) (end_at cat cs p.0) GE (promised cat 3 list)
        within-seeks = gnp-seeks cat tab g.sound.catalogue g.sound.table list g.read p.0 among

        within-made : made r tab next ≡ promised cat 3 list s
        within-made = ap (landed cat tab) e ∙ sym (within-call p x)

        under : Unders p.0 s
        under = record { fit = fit; parentage = x; later = (around cat tab pos w.good p x).0 }

        pub within_none : 10 ≤ n → Without (test cat tab list) (after_place pos.place) (end_at cat cs p.0)
        within_none l = sought-none cat tab within-seeks under within-made (ended l)

        pub within-one : n < 10 → (c : CellNumber) → c ≡ place_cell r.position.place → Moved (end_at cat cs p.0) c.0
        within-one l = moved (end_at cat cs p.0) (end-within cat cs p.0 among) (sought-one cat tab within-seeks under within-made (goes_on l))
