-- Tables stay good: what specs/Kept.antt states. Assumes nothing.
use Rattle.std.specs.Prelude.{Some, None, Option}
use mathlib.Core.Path.{◌≡◌, refl, ap, sym, ◌∙◌, subst}
use mathlib.Core.Bool.{Bool, true, false, ◌&&◌, not}
use mathlib.Core.List.{List, [], ◌∷◌, ◌++◌}
use Prim.Native.Nat.{ℕ, zero, suc, ◌+◌, ◌-◌, ◌<◌, ◌≤◌}
use native.Mathlib.Omega.{arith}
use lib.Dec.{ltb, leb, eqb}
use lib.ListN.{length, take, drop, set, length-append, length-drop, length-set}
use lib.Seq.{length-take-le, take_at, take-set-le, get_or-drop, set_split}
use borrow.Author.Tests.{ltb-true, leb-true, lt-ltb, le-leb, eq-eqb, eqb-true, eqb-false}
use Rattle.terms.specs.declared.TypeCode.{TypeCode}
use Rattle.terms.specs.declared.CellNumber.{CellNumber}
use Rattle.terms.specs.declared.Place.{Place}
use Rattle.terms.specs.declared.Place.TheVariants.{On, Before}
use Rattle.terms.specs.declared.Position.{Position}
use Rattle.terms.specs.declared.Argument.{Argument}
use Rattle.terms.specs.declared.Answer.{Answer}
use Rattle.terms.specs.declared.Status.{Status}
use Rattle.terms.specs.declared.Status.TheVariants.{Blank, GE, DA, II, FX, PD}
use Rattle.terms.specs.Choice.{pick}
use Rattle.terms.specs.Names.{code, cell, Parentage}
use Rattle.terms.specs.Statuses.{number}
use Rattle.terms.specs.Moves.{place_number, after_place, moved_onto, hold_dropped, after_insert, after_delete, without}
use Rattle.forest.specs.Forest.{forest_of, inside, outside, side}
use Rattle.forest.specs.Shape.{Levelled}
use Rattle.forest.specs.Good.{on, off, is}
use Rattle.forest.specs.Insert.{spot}
use Rattle.forest.specs.Numbers.{is_in, ancestors, run}
use Rattle.rules.specs.Block.{Bytes, same_bytes}
use Rattle.rules.specs.Catalogue.{parent_of, length_of, key_kind, level, is_type, good_catalogue}
use Rattle.rules.specs.Cells.{Segment, segment, segment_of, arriving, shown_bytes, blank, type_number, key, keyed, is_child, goes_before, segment_level}
use Rattle.rules.specs.Cells.{good_listing, level_at, run_at, end_at, row_at}
use Rattle.rules.specs.Table.{cell_size, room, listing, good_table, table_bytes}
use Rattle.rules.specs.Position.{good_place, good_parentage, good_hold, good_position}
use Rattle.rules.specs.Arguments.{Level, complete, list_read, last_argument, get_levels}
use Rattle.rules.specs.Matching.{matches, seek, first_match, along}
use Rattle.rules.specs.Change.{Change}
use Rattle.rules.specs.Calls.{After, refused, after_miss, missed, over, is_one_of, miss_status, level_status, parent_end}
use Rattle.rules.specs.Calls.{answer_of, changed, key_taken, gotten, get_unique, get_next, get_next_within, inserted}
use Rattle.rules.specs.Calls.{insert_among, insert_under, insert, replaced, replacement, replace, deleted, delete, called}
use Rattle.rules.specs.Outcome.{is_blank, is_isrt, unsound, misused, stopped, unless, after_sound, after_call, landed, outcome_of, outcome}
use Rattle.rules.proofs.Search.{seek-none, seek-here, seek-next}
use Rattle.rules.proofs.Cells.{listing-length}
use Rattle.rules.proofs.Choice.{pick-by}
use Rattle.rules.proofs.Positions.{no-hold, miss-good}
use Rattle.encoding.specs.Determined.{IsBytes, All, Fits}
use Rattle.encoding.proofs.Entries.{length-cell}
use Rattle.encoding.proofs.Lists.{bytes_drop, bytes-append, all_take, all_drop, all_append, all-at}
use Rattle.encoding.proofs.Bytes.{row_bytes, arriving-fits, table-room, table-count, table-listing, table_fits, table-head, row_first}
use Rattle.encoding.proofs.Made.{made-count, made-room, made-listing, made-good, made_bytes}
use Rattle.model.specs.Kept.{Kept, TablesStayGood}
use Rattle.rules.proofs.Tree.{missing, leading}
use Rattle.model.proofs.Along.{along-heads}
use Rattle.model.proofs.Parents.{never, level-child, level-root, root-parent, parent-type, listing-levelled, numbers-levelled, match-type}
use Rattle.model.proofs.Asked.{not-true, by_number, Usable, usable-of, last-type, good-place, good-parentage, good-hold, parent-before, held_on}
use Rattle.model.proofs.Twins.{same_bytes_lem, keyed-same}
use Rattle.model.proofs.Levels.{run-deep, end-from, end-le, end-some, in_row, row_in, level-front, level-new, levels-set, spot-le, spot-deep}
use Rattle.model.proofs.Changed.{delete-good, replace-good, top-good, under-good}

-- a position is good by its three tests
sits-of : (cat : Bytes) (cs : List Segment) (pos : Position) → good_place cat cs pos.place ≡ true → good_parentage cat cs pos.place pos.parentage ≡ true
    → good_hold cat cs pos.place pos.hold ≡ true
    → good_position cat cs pos ≡ true
unfolding good_position
sits-of cat cs pos a b c = rw (a, b, c)

-- where no level and no length changes, a parentage is as good as it was
parentage-same : (cat : Bytes) (cs ds : List Segment) → level_at cat ds ≡ level_at cat cs → length ds ≡ length cs → (q : Place) (p : Parentage)
    → good_parentage cat ds q p ≡ good_parentage cat cs q p
unfolding row_at end_at run_at
parentage-same cat cs ds e l q None = refl
parentage-same cat cs ds e l (On c) (Some p) = ap (λ (lev : ℕ → ℕ). is_in p.0 (c.0 ∷ ancestors lev c.0)) e
parentage-same cat cs ds e l (Before c) (Some p) =
    ap (λ (lev : ℕ → ℕ). ltb p.0 c.0 && leb c.0 (p.0 + run lev (length ds) p.0)) e
    ∙ ap (λ (n : ℕ). ltb p.0 c.0 && leb c.0 (p.0 + run (level_at cat cs) n p.0)) l

place_same : (cat : Bytes) (cs ds : List Segment) → length ds ≡ length cs → (q : Place) → good_place cat ds q ≡ good_place cat cs q
place_same cat cs ds l (On c) = ap (ltb c.0) l
place_same cat cs ds l (Before c) = ap (leb c.0) l

-- a cell found from i on and before e
abbrev Within : ℕ → ℕ → Option CellNumber → Type 0
Within i e None = Unit {0}
Within i e (Some c) = (i ≤ c.0) × (c.0 < e)

widen : (i j e : ℕ) (f : Option CellNumber) → i ≤ j → Within j e f → Within i e f
widen i j e None l w = tt
widen i j e (Some c) l w = (omega (arith, w.0), w.1)

module _ (cat : Bytes) (cs : List Segment) (ls : List Level) where
  seek-within : (i n : ℕ) → Within i (i + n) (seek cat cs ls i n)
  seek-within i zero = subst (Within i (i + 0)) (sym (seek-none cat cs ls i)) tt
  seek-within i (suc n) = elim (is (matches cat cs ls i)) [
    | on e ↦ subst (Within i (i + suc n)) (sym (seek-here cat cs ls i (suc n) (omega arith) e)) (omega arith, omega arith)
    | off e ↦
        let z : suc n - 1 ≡ n = omega arith in
        let y : suc i + n ≡ i + suc n = omega arith in
        subst (Within i (i + suc n)) (sym (seek-next cat cs ls i (suc n) (omega arith) e ∙ ap (seek cat cs ls (suc i)) z))
        (widen i (suc i) (i + suc n) (seek cat cs ls (suc i) n) (omega arith)
        (subst (λ (e : ℕ). Within (suc i) e (seek cat cs ls (suc i) n)) y (seek-within (suc i) n)))
  ]

  match-within : (i e : ℕ) → i ≤ e → Within i e (first_match cat cs ls i e)
  unfolding first_match
  match-within i e l = let z : i + (e - i) ≡ e = omega arith in subst (λ (k : ℕ). Within i k (seek cat cs ls i (e - i))) z (seek-within i (e - i))

  match_none : (i e : ℕ) → e ≤ i → first_match cat cs ls i e ≡ None
  unfolding first_match
  match_none i e l = let z : e - i ≡ 0 = omega arith in ap (seek cat cs ls i) z ∙ seek-none cat cs ls i

place-le : (cat : Bytes) (cs : List Segment) (q : Place) → good_place cat cs q ≡ true → place_number q ≤ length cs
place-le cat cs (On c) e = omega (arith, ltb-true c.0 (length cs) e)
place-le cat cs (Before c) e = leb-true c.0 (length cs) e

-- what a call on these cells keeps; isrt says whether it is an ISRT, writing whether it is one that may change the cells
module _ (cat : Bytes) (cs : List Segment) (m : ℕ) (area : Bytes) where
  abbrev cells_now : Option (List Segment) → List Segment
  cells_now None = cs
  cells_now (Some ds) = ds

  record Keeps (isrt writing : Bool) (a : After) : Type 0 where
    formed : good_listing cat (cells_now a.cells) ≡ true
    fits : All (Fits cat) (cells_now a.cells)
    few : length (cells_now a.cells) ≤ m
    sits : good_position cat (cells_now a.cells) a.answer.position ≡ true
    counted : length (cells_now a.cells) + a.answer.removed ≡ length cs + pick (isrt && is_blank a.answer.status) 1 0
    near : place_number a.answer.position.place ≤ length cs
    front : take (place_number a.answer.position.place) (cells_now a.cells) ≡ take (place_number a.answer.position.place) cs
    only : (writing && is_blank a.answer.status) ≡ false → a.cells ≡ None
    long : length a.area ≡ length area
    filled : IsBytes a.area

  module _ (g : good_catalogue cat ≡ true) (good : good_listing cat cs ≡ true) (whole : All (Fits cat) cs) (roomy : length cs ≤ m) (bytes : IsBytes area)
      (pos : Position) (here : good_position cat cs pos ≡ true) where
    near-place : place_number pos.place ≤ length cs
    near-place = place-le cat cs pos.place (good-place cat cs pos here)

    keeps-refused : (isrt writing : Bool) (s : Status) → (isrt && is_blank s) ≡ false → Keeps isrt writing (refused s pos area)
    keeps-refused isrt writing s e =
        record {
          formed = good;
          fits = whole;
          few = roomy;
          sits = here;
          counted = rw e;
          near = near-place;
          front = refl;
          only = λ z. refl;
          long = refl;
          filled = bytes;
        }

    keeps-missed : (isrt writing : Bool) (s : Status) → (isrt && is_blank s) ≡ false → Keeps isrt writing (missed s pos area)
    keeps-missed isrt writing s e =
        record {
          formed = good;
          fits = whole;
          few = roomy;
          sits = miss-good cat cs s pos here;
          counted = rw e;
          near = place-le cat cs (after_miss s pos).place (good-place cat cs (after_miss s pos) (miss-good cat cs s pos here));
          front = refl;
          only = λ z. refl;
          long = refl;
          filled = bytes;
        }

    not_done : (isrt b : Bool) → b ≡ false → (isrt && b) ≡ false
    not_done true b e = e
    not_done false b e = refl

    keeps-stopped : (isrt writing : Bool) (s : Status) → is_blank s ≡ false → Keeps isrt writing (stopped s pos area)
    unfolding stopped
    keeps-stopped isrt writing s e =
        pick-by (Keeps isrt writing) (leb 20 (number s)) (refused s pos area) (missed s pos area)
        (λ h. keeps-refused isrt writing s (not_done isrt (is_blank s) e)) (λ h. keeps-missed isrt writing s (not_done isrt (is_blank s) e))

    -- the gets
    abbrev Lands : (ℕ → Parentage) → Option CellNumber → Type 0
    Lands parentage None = Unit {0}
    Lands parentage (Some c) = (c.0 < length cs) × (good_parentage cat cs (On c) (parentage c.0) ≡ true)

    module _ (writing : Bool) (wide : cell_size cat - 1 ≤ length area) where
      type-wide : (t : TypeCode) → is_type cat t ≡ true → length_of cat t ≤ length area
      type-wide t h = omega (arith, length-cell cat t h)

      over-long : (b : Bytes) → length b ≤ length area → length (over b area) ≡ length area
      over-long b l = omega (arith, length-append b (drop (length b) area), length-drop (length b) area)

      keeps-gotten : (miss : Status) (status : ℕ → Status) (parentage : ℕ → Parentage) (hold : Bool) (f : Option CellNumber) → Lands parentage f
          → Keeps false writing (gotten cat cs pos area miss status parentage hold f)
      unfolding answer_of shown_bytes
      keeps-gotten miss status parentage hold None l = keeps-missed false writing miss refl
      keeps-gotten miss status parentage hold (Some c) l =
          let s : Fits cat (segment cs c.0) = all-at (Fits cat) blank cs c.0 whole l.0 in
          let w : length_of cat (segment cs c.0).code ≤ length area = type-wide (segment cs c.0).code s.known in
          record {
            formed = good;
            fits = whole;
            few = roomy;
            sits = sits-of cat cs (moved_onto c.0 (parentage c.0) hold) (lt-ltb c.0 (length cs) l.0) l.1 refl;
            counted = refl;
            near = omega (arith, l.0);
            front = refl;
            only = λ z. refl;
            long = over-long (segment cs c.0).bytes (omega (arith, s.long));
            filled =
                bytes-append (segment cs c.0).bytes (drop (length (segment cs c.0).bytes) area) s.bytes
                (bytes_drop (length (segment cs c.0).bytes) area bytes);
          }

      own_row : (i : ℕ) → i < length cs → is_in i (row_at cat cs i) ≡ true
      own_row i l = in_row cat cs i i (omega arith) l (end-some cat cs i)

      lands-unique : (ls : List Level) → Lands (λ i. Some (cell i)) (along cat cs ls pos.place)
      lands-unique ls = elim (along-heads cat cs (numbers-levelled cat g cs good) ls pos.place (good-place cat cs pos here)) [
        | missing a b ↦ subst (Lands (λ i. Some (cell i))) (sym b) tt
        | leading i qs l h a b ↦ subst (Lands (λ i. Some (cell i))) (sym b) (l, own_row i l)
      ]

      lands-own : (i e : ℕ) (f : Option CellNumber) → e ≤ length cs → Within i e f → Lands (λ k. Some (cell k)) f
      lands-own i e None l w = tt
      lands-own i e (Some c) l w = let b : c.0 < length cs = omega (arith, w.1) in (b, own_row c.0 b)

      after-le : (q : Place) → good_place cat cs q ≡ true → after_place q ≤ length cs
      after-le (On c) e = ltb-true c.0 (length cs) e
      after-le (Before c) e = leb-true c.0 (length cs) e

      lands-next : (ls : List Level) → Lands (λ i. Some (cell i)) (first_match cat cs ls (after_place pos.place) (length cs))
      lands-next ls =
          lands-own (after_place pos.place) (length cs) (first_match cat cs ls (after_place pos.place) (length cs)) (omega arith)
          (match-within cat cs ls (after_place pos.place) (length cs) (after-le pos.place (good-place cat cs pos here)))

      -- beneath the parentage p
      lands-beneath : (p : CellNumber) (i : ℕ) (f : Option CellNumber) → p.0 < length cs → p.0 < i → Within i (end_at cat cs p.0) f → Lands (λ k. Some p) f
      lands-beneath p i None a b w = tt
      lands-beneath p i (Some c) a b w =
          let l : c.0 < length cs = omega (arith, w.1, end-le cat cs p.0 a) in
          (l, in_row cat cs p.0 c.0 (omega (arith, w.0)) l w.1)

      lands_within : (ls : List Level) (q : Parentage) → pos.parentage ≡ q
          → Lands (λ i. q) (first_match cat cs ls (after_place pos.place) (parent_end cat cs q))
      lands_within ls None e = subst (Lands (λ i. None)) (sym (match_none cat cs ls (after_place pos.place) 0 (omega arith))) tt
      lands_within ls (Some p) e =
          let b = parent-before cat cs pos.place p (good-place cat cs pos here) (rw e at (good-parentage cat cs pos here)) in
          elim (side (end_at cat cs p.0) (after_place pos.place)) [
            | inside h ↦ subst (Lands (λ i. Some p)) (sym (match_none cat cs ls (after_place pos.place) (end_at cat cs p.0) (omega arith))) tt
            | outside h ↦
                lands-beneath p (after_place pos.place) (first_match cat cs ls (after_place pos.place) (end_at cat cs p.0)) b.0 b.1
                (match-within cat cs ls (after_place pos.place) (end_at cat cs p.0) h)
          ]

      keeps-unique : (hold : Bool) (ls : List Level) → Keeps false writing (get_unique cat cs pos area hold ls)
      unfolding get_unique
      keeps-unique hold ls = keeps-gotten GE (λ i. Blank) (λ i. Some (cell i)) hold (along cat cs ls pos.place) (lands-unique ls)

      keeps-next : (hold : Bool) (ls : List Level) → Keeps false writing (get_next cat cs pos area hold ls)
      unfolding get_next
      keeps-next hold ls =
          keeps-gotten (miss_status ls) (level_status cat cs ls pos.place)
          (λ i. Some (cell i)) hold (first_match cat cs ls (after_place pos.place) (length cs)) (lands-next ls)

      keeps-within : (hold : Bool) (ls : List Level) → Keeps false writing (get_next_within cat cs pos area hold ls)
      unfolding get_next_within
      keeps-within hold ls =
          keeps-gotten GE (level_status cat cs ls pos.place) (λ i. pos.parentage) hold
          (first_match cat cs ls (after_place pos.place) (parent_end cat cs pos.parentage)) (lands_within ls pos.parentage refl)

      -- ISRT: a cell at r, behind its parent q and the cells that it passed; it fits once PD is not given (R91)
      module _ (x : Segment) (new : keyed cat x ≡ true → Fits cat x) where
        abbrev before : Segment → Bool
        before s = goes_before cat x s

        abbrev lev : Segment → ℕ
        lev s = segment_level cat s

        abbrev with-x : ℕ → List Segment
        with-x r = take r cs ++ x ∷ drop r cs

        with-long : (r : ℕ) → r ≤ length cs → length (with-x r) ≡ suc (length cs)
        with-long r l = omega (arith, length-append (take r cs) (x ∷ drop r cs), length-take-le r cs l, length-drop r cs)

        with-fits : keyed cat x ≡ true → (r : ℕ) → All (Fits cat) (with-x r)
        with-fits v r = all_append (Fits cat) (take r cs) (x ∷ drop r cs) (all_take (Fits cat) r cs whole) (new v, all_drop (Fits cat) r cs whole)

        module _ (r : ℕ) (fit : r ≤ length cs) where
          -- the parentage that stays is above the new cell
          abbrev Above : List ℕ → Type 0
          Above above = (p : ℕ) → is_in p above ≡ true → is_in p (row_at cat (with-x r) r) ≡ true

          stays : (above : List ℕ) → Above above → (q : Parentage) → good_parentage cat (with-x r) (On (cell r)) (pick (is_one_of above q) q None) ≡ true
          stays above a None = refl
          stays above a (Some p) = elim (is (is_in p.0 above)) [ on e ↦ rw e (a p.0 e) | off e ↦ rw e ]

          keeps-inserted : (above : List ℕ) (taken : Bool) → Above above
              → (keyed cat x ≡ true → (eqb (key_kind cat x.code) 1 && taken) ≡ false → good_listing cat (with-x r) ≡ true)
              → Keeps true true (inserted cat cs pos area m x above taken r (with-x r))
          unfolding inserted changed answer_of
          keeps-inserted above taken a h =
              pick-by (Keeps true true) (not (keyed cat x)) _ _ (λ e. keeps-refused true true PD refl)
              (λ v. pick-by (Keeps true true) (eqb (key_kind cat x.code) 1 && taken) _ _ (λ e. keeps-refused true true II refl)
              (λ f. pick-by (Keeps true true) (eqb (length cs) m) _ _ (λ e. keeps-refused true true FX refl)
              (λ e. record {
                formed = h (not-true (keyed cat x) v) f;
                fits = with-fits (not-true (keyed cat x) v) r;
                few = (let z : (length cs ≡ m) → ⊥ = eqb-false (length cs) m e in omega (arith, with-long r fit));
                sits = sits-of cat (with-x r) (after_insert r (is_one_of above pos.parentage) pos)
                    (lt-ltb r (length (with-x r)) (omega (arith, with-long r fit))) (stays above a pos.parentage) refl;
                counted = omega (arith, with-long r fit);
                near = fit;
                front = take_at (take r cs) (x ∷ drop r cs) r (length-take-le r cs fit);
                only = λ z. never true refl z;
                long = refl;
                filled = bytes;
              })))

        -- the row of the parent lies above the new cell
        module _ (q : ℕ) (l : q < length cs) (deep : suc (lev (segment cs q)) ≡ lev x) where
          abbrev r : ℕ
          r = suc q + spot lev x before (drop (suc q) cs)

          r-fit : r ≤ length cs
          r-fit = omega (arith, spot-le lev x before blank (drop (suc q) cs), length-drop (suc q) cs)

          passed_deep : (k : ℕ) → q < k → k < r → lev x ≤ level_at cat cs k
          unfolding level_at
          passed_deep k a b =
              let z : suc q + (k - suc q) ≡ k = omega arith in
              rw (get_or-drop (suc q) cs (k - suc q) blank, z) at (spot-deep lev x before blank (drop (suc q) cs) (k - suc q) (omega arith))

          q-level : suc (level_at cat cs q) ≡ lev x
          unfolding level_at
          q-level = deep

          -- each cell from p, in the row of q, to the new one is deeper than p
          p-low : (p : ℕ) → p ≤ q → q < end_at cat cs p → level_at cat cs p ≤ level_at cat cs q
          p-low p a b = elim (side p q) [ inside h ↦ omega (arith, run-deep cat cs p q h b) | outside h ↦ (let z : p ≡ q = omega arith in rw z (omega arith)) ]

          old-deep : (p k : ℕ) → p ≤ q → q < end_at cat cs p → p < k → k < r → level_at cat cs p < level_at cat cs k
          old-deep p k a b c d = elim (side q k) [
            | inside h ↦ omega (arith, passed_deep k h d, q-level, p-low p a b)
            | outside h ↦ run-deep cat cs p k c (omega arith)
          ]

          new_deep : (p : ℕ) → p ≤ q → q < end_at cat cs p → (k : ℕ) → p < k → k < suc r → level_at cat (with-x r) p < level_at cat (with-x r) k
          new_deep p a b k c d =
              let e : level_at cat (with-x r) p ≡ level_at cat cs p = level-front cat cs (x ∷ drop r cs) r p r-fit (omega arith) in
              elim (side k r) [
                | inside h ↦ omega (arith, level-front cat cs (x ∷ drop r cs) r k r-fit h, old-deep p k a b c h)
                | outside h ↦ (let z : k ≡ r = omega arith in rw z (omega (arith, level-new cat cs x (drop r cs) r r-fit, q-level, p-low p a b)))
              ]

          row-above : Above r r-fit (row_at cat cs q)
          row-above p e =
              let n : length (with-x r) ≡ suc (length cs) = with-long r r-fit in
              let w = row_in cat cs p q l e in
              let f : suc r ≤ end_at cat (with-x r) p =
              end-from cat (with-x r) p (suc r) (omega (arith, w.0)) (omega (arith, r-fit)) (new_deep p w.0 w.1) in
              in_row cat (with-x r) p r (omega (arith, w.0)) (omega (arith, r-fit)) (omega arith)

          keeps-beneath : is_child cat (type_number (segment cs q)) x ≡ true → Keeps true true (insert_under cat cs pos area m x (Some (cell q)))
          unfolding insert_among
          keeps-beneath c =
              keeps-inserted r r-fit (row_at cat cs q) (key_taken cat cs x (suc q) (run_at cat cs q - 1)) row-above
              (λ v. under-good cat g cs good whole pos area x (new v) q l deep c)

        keeps-top : Levelled lev (lev x) (forest_of lev cs) → is_child cat 0 x ≡ true → Keeps true true (insert_among cat cs pos area m x [] 0 (length cs))
        unfolding insert_among
        keeps-top a c =
            keeps-inserted (0 + spot lev x before cs) (omega (arith, spot-le lev x before blank cs)) [] (key_taken cat cs x 0 (length cs))
            (λ p e. never false e refl)
            (λ v. top-good cat g cs good whole pos area x (new v) a c)

      module _ (t : TypeCode) (known : is_type cat t ≡ true) where
        abbrev x' : Segment
        x' = arriving cat t area

        x_fits : keyed cat x' ≡ true → Fits cat x'
        x_fits v = arriving-fits cat t area (type-wide t known) known bytes v

        x-level : segment_level cat x' ≡ level cat t
        unfolding arriving segment_of
        x-level = refl

        x-child : (p : ℕ) → (parent_of cat t).0 ≡ p → is_child cat p x' ≡ true
        unfolding arriving segment_of is_child
        x-child p e = rw (known, eq-eqb (parent_of cat t).0 p e)

        keeps-insert : (list : Bytes) (ar : List Argument) → Keeps true true (insert cat cs pos area m t (complete cat list ar (parent_of cat t)))
        unfolding insert
        keeps-insert list ar =
            let ls : List Level = complete cat list ar (parent_of cat t) in
            pick-by (Keeps true true) (eqb t.0 1) _ _
            (λ e.
            let z : t.0 ≡ 1 = eqb-true t.0 1 e in
            keeps-top x' x_fits
            (subst (λ (n : ℕ). Levelled (segment_level cat) n (forest_of (segment_level cat) cs)) (sym (x-level ∙ level-root cat g t known z))
            (listing-levelled cat g cs good))
            (x-child 0 (ap (λ (u : ℕ). (parent_of cat (code u)).0) z ∙ root-parent cat g)))
            (λ e. elim (along-heads cat cs (numbers-levelled cat g cs good) ls pos.place (good-place cat cs pos here)) [
              | missing a b ↦ subst (λ (f : Option CellNumber). Keeps true true (insert_under cat cs pos area m x' f)) (sym b) (keeps-missed true true GE refl)
              | leading i qs l h a b ↦ subst (λ (f : Option CellNumber). Keeps true true (insert_under cat cs pos area m x' f)) (sym b)
                  (let k : is_type cat (parent_of cat t) ≡ true = parent-type cat g t known (eqb-false t.0 1 e) in
                  let z : (parent_of cat t).0 ≡ (segment cs i).code.0 = match-type cat cs g list ar (parent_of cat t) k i h in
                  keeps-beneath x' x_fits i l (sym (x-level ∙ level-child cat g t known ∙ ap (λ (u : ℕ). suc (level cat (code u))) z))
                  (x-child (type_number (segment cs i)) z))
            ])

      -- REPL
      module _ (on-cell : place_number pos.place < length cs) where
        abbrev i : ℕ
        i = place_number pos.place

        abbrev y : Segment
        y = replacement cat cs pos area i

        y-type : type_number y ≡ type_number (segment cs i)
        unfolding replacement arriving segment_of
        y-type = refl

        -- where DA is not given the key is the old one, which is a value
        module _ (same : key cat y ≡ key cat (segment cs i)) where
          y-fits : Fits cat y
          unfolding replacement
          y-fits =
              let old : Fits cat (segment cs i) = all-at (Fits cat) blank cs i whole on-cell in
              let v : keyed cat y ≡ true = keyed-same cat y (segment cs i) y-type same ∙ old.valued in
              arriving-fits cat (segment cs i).code area (type-wide (segment cs i).code old.known) old.known bytes v

          set-fits : All (Fits cat) (set cs i y)
          set-fits =
              subst (All (Fits cat)) (sym (set_split cs i y on-cell))
              (all_append (Fits cat) (take i cs) (y ∷ drop (suc i) cs) (all_take (Fits cat) i cs whole) (y-fits, all_drop (Fits cat) (suc i) cs whole))

        keeps-replace : Keeps false true (replace cat cs pos area)
        unfolding replace replaced changed answer_of
        keeps-replace =
            pick-by (Keeps false true) (not (same_bytes (key cat (segment cs i)) (key cat y))) _ _ (λ e. keeps-refused false true DA refl)
            (λ e.
            let n : length (set cs i y) ≡ length cs = length-set cs i y in
            let k : key cat (segment cs i) ≡ key cat y =
            same_bytes_lem (key cat (segment cs i)) (key cat y) (not-true (same_bytes (key cat (segment cs i)) (key cat y)) e) in
            record {
              formed = replace-good cat g cs good whole i y on-cell y-type (sym k);
              fits = set-fits (sym k);
              few = omega arith;
              sits = sits-of cat (set cs i y) (hold_dropped pos)
                  (place_same cat cs (set cs i y) n pos.place ∙ good-place cat cs pos here)
                  (parentage-same cat cs (set cs i y) (levels-set cat cs i y on-cell y-type) n pos.place pos.parentage ∙ good-parentage cat cs pos here)
                  (no-hold cat (set cs i y) pos.place);
              counted = omega arith;
              near = near-place;
              front = take-set-le i cs i y (omega arith);
              only = λ z. never true refl z;
              long = refl;
              filled = bytes;
            })

    -- DLET
    module _ (c : CellNumber) (stands : pos.place ≡ On c) where
      d-in : c.0 < length cs
      d-in = ltb-true c.0 (length cs) (rw stands at (good-place cat cs pos here))

      abbrev left : List Segment
      left = take c.0 cs ++ drop (end_at cat cs c.0) cs

      end-run : end_at cat cs c.0 ≡ c.0 + run_at cat cs c.0
      unfolding end_at
      end-run = refl

      left-long : length left + run_at cat cs c.0 ≡ length cs
      left-long =
          omega (
            arith,
            length-append (take c.0 cs) (drop (end_at cat cs c.0) cs),
            length-take-le c.0 cs (omega (arith, d-in)),
            length-drop (end_at cat cs c.0) cs,
            end-le cat cs c.0 d-in,
            end-run,
          )

      place-left : c.0 ≤ length left
      place-left = omega (arith, length-append (take c.0 cs) (drop (end_at cat cs c.0) cs), length-take-le c.0 cs (omega (arith, d-in)))

      -- a parentage before the run
      left-parent : (p : CellNumber) → is_in p.0 (row_at cat cs c.0) ≡ true → p.0 < c.0 → good_parentage cat left (Before c) (Some p) ≡ true
      left-parent p e l =
          let w = row_in cat cs p.0 c.0 d-in e in
          let f : c.0 ≤ end_at cat left p.0 = end-from cat left p.0 c.0 l place-left
          (λ k a b. omega (
            arith,
            level-front cat cs (drop (end_at cat cs c.0) cs) c.0 k (omega (arith, d-in)) b,
            level-front cat cs (drop (end_at cat cs c.0) cs) c.0 p.0 (omega (arith, d-in)) l,
            run-deep cat cs p.0 k a (omega (arith, w.1)),
          )) in
          rw (lt-ltb p.0 c.0 l, le-leb c.0 (end_at cat left p.0) f)

      left-parentage : (q : Parentage) → good_parentage cat cs (On c) q ≡ true
          → good_parentage cat left (Before c) (without c.0 (run_at cat cs c.0) q) ≡ true
      left-parentage None e = refl
      left-parentage (Some p) e = elim (is (leb c.0 p.0 && ltb p.0 (c.0 + run_at cat cs c.0))) [
        | on h ↦ rw h
        | off h ↦ rw h (left-parent p e (elim (side p.0 c.0) [
          | inside l ↦ l
          | outside l ↦
              let z : p.0 ≡ c.0 = omega (arith, (row_in cat cs p.0 c.0 d-in e).0) in
              never (leb c.0 p.0 && ltb p.0 (c.0 + run_at cat cs c.0))
              (rw (le-leb c.0 p.0 l, lt-ltb p.0 (c.0 + run_at cat cs c.0) (omega (arith, end-some cat cs c.0, end-run)))) h
        ]))
      ]

      keeps-delete-at : Keeps false true (deleted cat cs pos area c.0 (run_at cat cs c.0) left)
      unfolding deleted changed answer_of
      keeps-delete-at =
          record {
            formed = delete-good cat g cs good whole c.0 d-in;
            fits =
                all_append (Fits cat) (take c.0 cs) (drop (end_at cat cs c.0) cs) (all_take (Fits cat) c.0 cs whole)
                (all_drop (Fits cat) (end_at cat cs c.0) cs whole);
            few = omega (arith, left-long);
            sits = sits-of cat left (after_delete c.0 (run_at cat cs c.0) pos) (le-leb c.0 (length left) place-left)
                (left-parentage pos.parentage (rw stands at (good-parentage cat cs pos here))) refl;
            counted = omega (arith, left-long);
            near = omega (arith, d-in);
            front = take_at (take c.0 cs) (drop (end_at cat cs c.0) cs) c.0 (length-take-le c.0 cs (omega (arith, d-in)));
            only = λ z. never true refl z;
            long = refl;
            filled = bytes;
          }

      keeps-delete : Keeps false true (delete cat cs pos area)
      unfolding delete end_at
      keeps-delete =
          subst (λ (i : ℕ). Keeps false true (deleted cat cs pos area i (run_at cat cs i) (take i cs ++ drop (end_at cat cs i) cs)))
          (sym (ap place_number stands)) keeps-delete-at

    -- a hold is on a cell
    keeps-dlet : pos.hold ≡ true → Keeps false true (delete cat cs pos area)
    keeps-dlet e = go pos.place refl
      where
        go : (q : Place) → pos.place ≡ q → Keeps false true (delete cat cs pos area)
        go (On c) p = keeps-delete c p
        go (Before c) p = never (not true) (let h : good_hold cat cs (Before c) true ≡ true = rw (p, e) at (good-hold cat cs pos here) in h) refl

    -- LAW: each call keeps the table good
    keeps-called : (c : ℕ) (list : Bytes) → Usable cat pos c list area
        → Keeps (is_isrt c) (leb 7 c) (called cat cs pos area m c list (list_read cat list).arguments)
    unfolding called
    keeps-called c list u =
        let ar : List Argument = (list_read cat list).arguments in
        let ls : List Level = get_levels cat list ar in
        let held : pos.hold ≡ true → place_number pos.place < length cs =
        held_on cat cs pos.place pos.hold (good-place cat cs pos here) (good-hold cat cs pos here) in
        by_number (λ (k : ℕ). Usable cat pos k list area → Keeps (is_isrt k) (leb 7 k) (called cat cs pos area m k list (list_read cat list).arguments))
        (λ v. keeps-unique false (v.long refl) false ls)
        (λ v. keeps-next false (v.long refl) false ls)
        (λ v. keeps-within false (v.long refl) false ls)
        (λ v. keeps-unique false (v.long refl) true ls)
        (λ v. keeps-next false (v.long refl) true ls)
        (λ v. keeps-within false (v.long refl) true ls)
        (λ v. keeps-insert true (v.long refl) (last_argument ar).code (last-type cat list (v.some refl)) list ar)
        (λ v. keeps-replace true (v.long refl) (held (v.held refl)))
        (λ v. keeps-dlet (v.held refl))
        c u.first u.last u

-- from the cells to the bytes
module _ (cat tab area : Bytes) (g : good_catalogue cat ≡ true) (bytes : IsBytes tab) (good : good_table cat tab ≡ true) (c : ℕ) where
  landed-kept : (answer : Answer) (ch : Change) (cells : Option (List Segment)) (out : Bytes)
      → Keeps cat (listing cat tab) (room cat tab) area (is_isrt c) (leb 7 c) (record { answer = answer; change = ch; cells = cells; area = out })
      → Kept cat tab area c (landed cat tab (record { answer = answer; change = ch; cells = cells; area = out }))
  landed-kept answer ch None out k =
      record {
        table = good;
        bytes = bytes;
        roomy = refl;
        position = k.sits;
        counted = omega (arith, k.counted, listing-length cat tab);
        head = refl;
        front = refl;
        only = λ e. refl;
        long = k.long;
        filled = k.filled;
      }
  landed-kept answer ch (Some ds) out k =
      let m : ℕ = room cat tab in
      let i : ℕ = place_number answer.position.place in
      let l : listing cat (table_bytes cat m ds) ≡ ds = made-listing cat m ds k.fits k.few in
      let new : good_table cat (table_bytes cat m ds) ≡ true = made-good cat m ds k.fits k.few (table-room cat tab good) k.formed in
      let full : IsBytes (table_bytes cat m ds) = made_bytes cat m ds g k.fits (omega (arith, k.few, table-room cat tab good)) in
      record {
        table = new;
        bytes = full;
        roomy = made-room cat m ds k.fits k.few;
        position = rw l k.sits;
        counted = omega (arith, k.counted, listing-length cat tab, made-count cat m ds);
        head = sym (table-head cat (table_bytes cat m ds) new) ∙ table-head cat tab good;
        front =
            sym (row_first cat (table_bytes cat m ds) new full i
            (omega (arith, made-count cat m ds, place-le cat ds answer.position.place (good-place cat ds answer.position k.sits))))
            ∙ ap (row_bytes cat) (ap (take i) l ∙ k.front) ∙ row_first cat tab good bytes i (omega (arith, k.near, listing-length cat tab));
        only = λ e. changed-not (k.only e);
        long = k.long;
        filled = k.filled;
      }
    where
      changed-not : Some ds ≡ None → table_bytes cat (room cat tab) ds ≡ tab
      changed-not e = let z : ◌≡◌ {A = ℕ} 0 1 = cc in absurd (omega arith)

  module _ (full : IsBytes area) (pos : Position) (here : good_position cat (listing cat tab) pos ≡ true) (list : Bytes) where
    abbrev Stays : After → Type 0
    Stays a = Keeps cat (listing cat tab) (room cat tab) area (is_isrt c) (leb 7 c) a

    keeps-unless : (s : Status) (done : After) → (is_blank s ≡ true → Stays done) → Stays (unless s pos area done)
    unfolding unless
    keeps-unless s done h =
        pick-by (Keeps cat (listing cat tab) (room cat tab) area (is_isrt c) (leb 7 c)) (is_blank s) done (stopped s pos area) h
        (keeps-stopped cat (listing cat tab) (room cat tab) area g (table-listing cat tab good) (table_fits cat tab good bytes) few full pos here
        (is_isrt c) (leb 7 c) s)
      where
        few : length (listing cat tab) ≤ room cat tab
        few = omega (arith, listing-length cat tab, table-count cat tab good)

    keeps-call : Stays (after_call called cat tab pos c list area)
    unfolding after_call after_sound
    keeps-call =
        keeps-unless (unsound cat tab pos) _
        (λ e. keeps-unless (misused cat pos c list area) _
        (λ f. keeps-called cat (listing cat tab) (room cat tab) area g (table-listing cat tab good) (table_fits cat tab good bytes)
        (omega (arith, listing-length cat tab, table-count cat tab good)) full pos here c list (usable-of cat pos c list area f)))

-- THEOREM: after every call the table and the position are good, and the count is right
pub tables-stay-good : TablesStayGood outcome
unfolding outcome outcome_of
tables-stay-good cat tab pos c list area g bytes full good here =
    let a : After = after_call called cat tab pos c list area in
    landed-kept cat tab area g bytes good c a.answer a.change a.cells a.area (keeps-call cat tab area g bytes good c full pos here list)
