-- The gets of the promise, on sound input: each seeks the first match after the place, GN before the end of the cells, GNP before the end of the
-- parentage's run; it shows the cell it finds, and moves onto it. Assumes nothing.
use Rattle.std.specs.Prelude.{Some, None}
use mathlib.Core.Path.{◌≡◌, refl, ap, ◌∙◌}
use mathlib.Core.Bool.{Bool, true, false, ◌&&◌, not}
use mathlib.Core.List.{List, [], ◌∷◌}
use Prim.Native.Nat.{ℕ, zero, suc, ◌+◌, ◌-◌, ◌<◌, ◌≤◌}
use native.Mathlib.Omega.{arith}
use lib.Dec.{ltb, leb, eqb}
use lib.ListN.{length, drop, length-append, length-drop}
use lib.Seq.{take_at}
use borrow.Author.Tests.{lt-ltb, le-ltb, le-leb, ltb-true, leb-true}
use Rattle.terms.specs.declared.Place.{Place}
use Rattle.terms.specs.declared.Place.TheVariants.{On, Before}
use Rattle.terms.specs.declared.Position.{Position}
use Rattle.terms.specs.declared.Status.{Status}
use Rattle.terms.specs.declared.Status.TheVariants.{Blank, GA, GK, GE}
use Rattle.terms.specs.Choice.{pick}
use Rattle.terms.specs.Names.{cell, same_type, Parentage}
use Rattle.terms.specs.Statuses.{number}
use Rattle.terms.specs.Moves.{after_place, moved_onto}
use Rattle.forest.specs.Good.{both_left}
use Rattle.rules.specs.Block.{Bytes}
use Rattle.rules.specs.Catalogue.{good_catalogue}
use Rattle.rules.specs.Cells.{Segment, segment, shown_bytes, long, level_at, end_at, good_listing}
use Rattle.rules.specs.Table.{cell_size, listing, good_table}
use Rattle.rules.specs.Position.{good_place, good_parentage, good_hold, good_position}
use Rattle.rules.specs.Arguments.{Level, list_read, get_levels}
use Rattle.rules.specs.Matching.{matches, seek, first_match}
use Rattle.rules.specs.Change.{nothing}
use Rattle.rules.specs.Calls.{after_miss, answer_of, missed, over, miss_status, level_status, get_next, get_next_within, called}
use Rattle.rules.specs.Outcome.{Outcome, unsound, misused, unless, after_sound, after_call, landed, outcome_of, outcome}
use Rattle.rules.proofs.Table.{table-tests}
use Rattle.rules.proofs.Search.{seek-none, seek-here, seek-next}
use Rattle.rules.proofs.Cells.{listing-length, row-run}
use Rattle.rules.proofs.Positions.{fresh-good, miss-good}
use Rattle.cells.proofs.Located.{good-sound, end_after, end-within}
use Rattle.cells.proofs.Ancestry.{sound-long}
use Rattle.report_loops.specs.Loops.{State, promised, start, handed_on, sight}
use Rattle.report_loops.specs.Demand3.{seen_at}
use Rattle.report_loops.proofs.Hits.{Without}
use Rattle.report_loops.proofs.Scan.{after, Seeks}

-- the search of the rules
module _ (cat : Bytes) (cs : List Segment) (ls : List Level) where
  seek-nothing : (k i : ℕ) → Without (matches cat cs ls) i (i + k) → seek cat cs ls i k ≡ None
  seek-nothing zero i h = seek-none cat cs ls i
  seek-nothing (suc k) i h =
      let z : suc k - 1 ≡ k = omega arith in
      seek-next cat cs ls i (suc k) (omega arith) (h i (omega arith) (omega arith)) ∙ ap (seek cat cs ls (suc i)) z ∙ seek-nothing k (suc i) (λ m a b. h m (omega arith) (omega arith))

  seek-at : (d i j k : ℕ) → i + d ≡ j → j < i + k → matches cat cs ls j ≡ true → Without (matches cat cs ls) i j → seek cat cs ls i k ≡ Some (cell j)
  seek-at zero i j k q l s h = let z : i ≡ j = omega arith in rw (← z) (seek-here cat cs ls i k (omega arith) (rw z s))
  seek-at (suc d) i j k q l s h =
      seek-next cat cs ls i k (omega arith) (h i (omega arith) (omega arith)) ∙ seek-at d (suc i) j (k - 1) (omega arith) (omega arith) s (λ m a b. h m (omega arith) b)

  pub first-nothing : (i e : ℕ) → Without (matches cat cs ls) i e → first_match cat cs ls i e ≡ None
  unfolding first_match
  first-nothing i e h = seek-nothing (e - i) i (λ m a b. h m a (omega arith))

  pub first-at : (i j e : ℕ) → i ≤ j → j < e → matches cat cs ls j ≡ true → Without (matches cat cs ls) i j → first_match cat cs ls i e ≡ Some (cell j)
  unfolding first_match
  first-at i j e a b s h = seek-at (j - i) i j (e - i) (omega arith) (omega arith) s h

-- a get's status, where it found a cell, is blank, GA or GK
level-early : (cat : Bytes) (cs : List Segment) (ls : List Level) (q : Place) (i : ℕ) → leb 10 (number (level_status cat cs ls q i)) ≡ false
level-early cat cs [] (On c) i = early (ltb (level_at cat cs i) (level_at cat cs c.0)) (eqb (level_at cat cs i) (level_at cat cs c.0) && not (same_type (segment cs i).code (segment cs c.0).code))
  where
    early : (a b : Bool) → leb 10 (number (pick a GA (pick b GK Blank))) ≡ false
    early true b = refl
    early false true = refl
    early false false = refl
level-early cat cs [] (Before c) i = refl
level-early cat cs (l ∷ ls) q i = refl

-- where nothing was found, it ends a loop
miss-late : (ls : List Level) → leb 10 (number (miss_status ls)) ≡ true
miss-late [] = refl
miss-late (l ∷ ls) = refl

module _ (cat : Bytes) (cs : List Segment) where
  -- a get that moved onto a cell in the run of its parentage leaves a good position
  pub moved-good : (p j : ℕ) → p ≤ j → j < end_at cat cs p → j < length cs → good_position cat cs (moved_onto j (Some (cell p)) false) ≡ true
  unfolding good_position
  moved-good p j a b l = rw (lt-ltb j (length cs) l, row-run cat cs p j l, le-leb p j a, lt-ltb j (end_at cat cs p) b)

  -- a good place is among the cells, or behind the last
  pub good-within : (pos : Position) → good_position cat cs pos ≡ true → after_place pos.place ≤ length cs
  unfolding good_position
  good-within pos e = place-within pos.place (both_left (good_place cat cs pos.place) (good_parentage cat cs pos.place pos.parentage) (both_left (good_place cat cs pos.place && good_parentage cat cs pos.place pos.parentage) (good_hold cat cs pos.place pos.hold) e))
    where
      place-within : (q : Place) → good_place cat cs q ≡ true → after_place q ≤ length cs
      place-within (On c) h = ltb-true c.0 (length cs) h
      place-within (Before c) h = leb-true c.0 (length cs) h

-- on sound input the promise is the call itself
module _ (cat tab : Bytes) (pos : Position) (list area : Bytes) (g : good_catalogue cat ≡ true) (h : good_table cat tab ≡ true) (p : good_position cat (listing cat tab) pos ≡ true)
    (f : (list_read cat list).fault ≡ Blank) (l : ltb (length area) (cell_size cat - 1) ≡ false) where
  gn-is : outcome cat tab pos 2 list area ≡ landed cat tab (get_next cat (listing cat tab) pos area false (get_levels cat list (list_read cat list).arguments))
  unfolding outcome outcome_of after_call unless unsound after_sound misused called
  gn-is = simp (g, h, p, f, l)

  gnp-is : (q : ℕ) → pos.parentage ≡ Some (cell q) → outcome cat tab pos 3 list area ≡ landed cat tab (get_next_within cat (listing cat tab) pos area false (get_levels cat list (list_read cat list).arguments))
  unfolding outcome outcome_of after_call unless unsound after_sound misused called
  gnp-is q e = simp (g, h, p, f, l, e)

module _ (cat tab : Bytes) (g : good_catalogue cat ≡ true) (h : good_table cat tab ≡ true) where
  abbrev cs : List Segment
  cs = listing cat tab

  pub good-listing : good_listing cat cs ≡ true
  good-listing = (table-tests cat tab h).cells

  -- a segment has as many bytes as its type says
  data-long : (j : ℕ) → j < length cs → length (shown_bytes cat (segment cs j)) ≡ long cat (segment cs j)
  unfolding long shown_bytes
  data-long j l = sound-long (good-sound cat tab g h) (omega (arith, listing-length cat tab)) refl refl

  -- what a call needs: the table, a good position, an area that is long enough
  pub record Fit (s : State) : Type 0 where
    pub table : s.table ≡ tab
    pub position : good_position cat cs s.position ≡ true
    pub area : cell_size cat ≤ suc (length s.area)

  -- .. and what GNP needs besides: the parentage p, before the place
  pub record Under (p : ℕ) (s : State) : Type 0 where
    pub fit : Fit s
    pub parentage : s.position.parentage ≡ Some (cell p)
    pub later : p < after s

  pub start-fit : (area : Bytes) → cell_size cat ≤ suc (length area) → Fit (start tab area)
  start-fit area l = record { table = refl; position = fresh-good cat cs; area = l }

  -- what was found, and what it leaves
  module _ (pos : Position) (area : Bytes) (l : cell_size cat ≤ suc (length area)) where
    abbrev gone : Status → Outcome
    gone miss = landed cat tab (missed miss pos area)

    abbrev got : Status → Parentage → ℕ → Outcome
    got status q j = landed cat tab (record {
      answer = answer_of cat status (moved_onto j q false) (segment cs j) 0;
      change = nothing;
      cells = None;
      area = over (shown_bytes cat (segment cs j)) area;
    })

    gone-fit : (miss : Status) → good_position cat cs pos ≡ true → Fit (handed_on (gone miss))
    gone-fit miss p = record { table = refl; position = miss-good cat cs miss pos p; area = l }

    area-kept : (b : Bytes) → cell_size cat ≤ suc (length (over b area))
    area-kept b = rw (length-append b (drop (length b) area), length-drop (length b) area) (omega arith)

    got-fit : (status : Status) (p j : ℕ) → p ≤ j → j < end_at cat cs p → j < length cs → Fit (handed_on (got status (Some (cell p)) j))
    unfolding answer_of
    got-fit status p j a b m = record { table = refl; position = moved-good cat cs p j a b m; area = area-kept (shown_bytes cat (segment cs j)) }

    got-sight : (status : Status) (q : Parentage) (j : ℕ) → j < length cs → sight (got status q j) ≡ seen_at cat tab j
    unfolding answer_of
    got-sight status q j m =
        let b : Bytes = shown_bytes cat (segment cs j) in
        ap (λ (x : Bytes). record { cell = j; bytes = x }) (take_at b (drop (length b) area) (long cat (segment cs j)) (data-long j m))

  short : (area : Bytes) → cell_size cat ≤ suc (length area) → ltb (length area) (cell_size cat - 1) ≡ false
  short area l = le-ltb (length area) (cell_size cat - 1) (omega arith)

  module _ (list : Bytes) (f : (list_read cat list).fault ≡ Blank) where
    abbrev levels : List Level
    levels = get_levels cat list (list_read cat list).arguments

    abbrev test : ℕ → Bool
    test = matches cat cs levels

    module _ (s : State) (F : Fit s) where
      abbrev pos : Position
      pos = s.position

      gn-call : promised cat 2 list s ≡ landed cat tab (get_next cat cs pos s.area false levels)
      gn-call = ap (λ (t : Bytes). outcome cat t pos 2 list s.area) F.table ∙ gn-is cat tab pos list s.area g h F.position f (short s.area F.area)

      gn-gone : Without test (after s) (length cs) → promised cat 2 list s ≡ gone pos s.area F.area (miss_status levels)
      unfolding get_next
      gn-gone n = gn-call ∙ rw (first-nothing cat cs levels (after s) (length cs) n)

      gn-got : (j : ℕ) → after s ≤ j → j < length cs → test j ≡ true → Without test (after s) j
          → promised cat 2 list s ≡ got pos s.area F.area (level_status cat cs levels pos.place j) (Some (cell j)) j
      unfolding get_next
      gn-got j a b t n = gn-call ∙ rw (first-at cat cs levels (after s) j (length cs) a b t n)

      module _ (p : ℕ) (e : pos.parentage ≡ Some (cell p)) where
        gnp-call : promised cat 3 list s ≡ landed cat tab (get_next_within cat cs pos s.area false levels)
        gnp-call = ap (λ (t : Bytes). outcome cat t pos 3 list s.area) F.table ∙ gnp-is cat tab pos list s.area g h F.position f (short s.area F.area) p e

        gnp-gone : Without test (after s) (end_at cat cs p) → promised cat 3 list s ≡ gone pos s.area F.area GE
        unfolding get_next_within
        gnp-gone n = gnp-call ∙ rw (e, first-nothing cat cs levels (after s) (end_at cat cs p) n)

        gnp-got : (j : ℕ) → after s ≤ j → j < end_at cat cs p → test j ≡ true → Without test (after s) j
            → promised cat 3 list s ≡ got pos s.area F.area (level_status cat cs levels pos.place j) (Some (cell p)) j
        unfolding get_next_within
        gnp-got j a b t n = gnp-call ∙ rw (e, first-at cat cs levels (after s) j (end_at cat cs p) a b t n)

    -- LAW: GN seeks among all cells; the parentage is then the cell found
    pub gn-seeks : (miss : Status) → miss_status levels ≡ miss → Seeks (seen_at cat tab) Fit Under test (length cs) miss (promised cat 2 list)
    unfolding answer_of
    gn-seeks miss q = record {
      none = λ s F n. rw (gn-gone s F n) (record {
        ends = miss-late levels;
        status = q;
        stays = λ e. ap (λ (m : Status). after_place (after_miss m s.position).place) (q ∙ e);
        fit = gone-fit s.position s.area F.area (miss_status levels) F.position;
      });
      one = λ s j F a b t n. rw (gn-got s F j a b t n) (record {
        goes_on = level-early cat cs levels s.position.place j;
        shows = got-sight s.position s.area F.area (level_status cat cs levels s.position.place j) (Some (cell j)) j b;
        moves = refl;
        fit = record { fit = got-fit s.position s.area F.area (level_status cat cs levels s.position.place j) j j (omega arith) (end_after cat cs j) b; parentage = refl; later = omega arith };
      });
    }

    -- LAW: GNP seeks up to the end of the parentage's run; the parentage stays
    pub gnp-seeks : (p : ℕ) → p < length cs → Seeks (seen_at cat tab) (Under p) (λ j. Under p) test (end_at cat cs p) GE (promised cat 3 list)
    unfolding answer_of
    gnp-seeks p m = record {
      none = λ s U n. rw (gnp-gone s U.fit p U.parentage n) (record {
        ends = refl;
        status = refl;
        stays = λ e. refl;
        fit = record { fit = gone-fit s.position s.area U.fit.area GE U.fit.position; parentage = U.parentage; later = U.later };
      });
      one = λ s j U a b t n. let l : j < length cs = omega (arith, end-within cat cs p m) in rw (gnp-got s U.fit p U.parentage j a b t n) (record {
        goes_on = level-early cat cs levels s.position.place j;
        shows = got-sight s.position s.area U.fit.area (level_status cat cs levels s.position.place j) (Some (cell p)) j l;
        moves = refl;
        fit = record { fit = got-fit s.position s.area U.fit.area (level_status cat cs levels s.position.place j) p j (omega (arith, U.later)) b l; parentage = refl; later = omega (arith, U.later) };
      });
    }
