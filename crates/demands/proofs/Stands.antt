-- The position after every call is what the table of specs/PositionTable.antt says. Assumes nothing.
use Rattle.std.specs.Prelude.{Some, None, Option}
use mathlib.Core.Path.{◌≡◌, refl, ap, sym, ◌∙◌, subst}
use mathlib.Core.Bool.{Bool, true, false, ◌&&◌, not}
use mathlib.Core.List.{List, []}
use Prim.Native.Nat.{ℕ, suc, ◌+◌, ◌-◌, ◌<◌, ◌≤◌}
use native.Mathlib.Omega.{arith}
use lib.Dec.{ltb, leb, eqb}
use lib.ListN.{length, drop}
use borrow.Author.Tests.{leb-true, leb-false, le-leb, lt-leb, ne_eqb, eqb-true, eqb-false}
use Rattle.terms.specs.declared.TypeCode.{TypeCode}
use Rattle.terms.specs.declared.CellNumber.{CellNumber}
use Rattle.terms.specs.declared.Place.{Place}
use Rattle.terms.specs.declared.Place.TheVariants.{On, Before}
use Rattle.terms.specs.declared.Position.{Position}
use Rattle.terms.specs.declared.Status.{Status}
use Rattle.terms.specs.declared.Status.TheVariants.{Blank, GA, GK, GB, GE, GP, CX, TX, PX, AD, AC, AJ, AK, AH, AB, DJ, DA, II, FX, PD}
use Rattle.terms.specs.Choice.{pick}
use Rattle.terms.specs.Names.{code, cell, Parentage}
use Rattle.terms.specs.Statuses.{number}
use Rattle.terms.specs.Moves.{place_number, after_place, moved_onto, without}
use Rattle.forest.specs.Insert.{spot}
use Rattle.forest.specs.Numbers.{is_in}
use Rattle.rules.specs.Block.{Bytes, same_bytes}
use Rattle.rules.specs.Catalogue.{parent_of, key_kind, level, is_type, good_catalogue}
use Rattle.rules.specs.Cells.{Segment, segment, segment_of, arriving, key, keyed, segment_level, goes_before, good_listing, level_at, run_at, end_at, row_at}
use Rattle.rules.specs.Table.{room, listing}
use Rattle.rules.specs.Position.{good_place}
use Rattle.rules.specs.Arguments.{Level, list_read, last_argument, get_levels, parent_levels}
use Rattle.rules.specs.Matching.{matches, first_match, along}
use Rattle.rules.specs.Calls.{After, refused, missed, miss_status, level_status, parent_end, is_one_of, key_taken, answer_of, changed, gotten, get_unique, get_next}
use Rattle.rules.specs.Calls.{get_next_within, inserted, insert_among, insert_under, insert, replaced, replacement, replace, deleted, delete, called}
use Rattle.rules.specs.Outcome.{is_blank, unsound, misused, stopped, unless, after_sound, after_call}
use Rattle.rules.proofs.Cells.{row-run}
use Rattle.rules.proofs.Choice.{pick-by}
use Rattle.rules.proofs.Paths.{path-some}
use Rattle.rules.proofs.Tree.{missing, leading}
use Rattle.encoding.proofs.Bytes.{table-listing}
use Rattle.model.proofs.Asked.{by_number, Sound, sound-of, Usable, usable-of, last-type, good-place}
use Rattle.model.proofs.Along.{path-deep, along-heads}
use Rattle.model.proofs.Levels.{end-le, end-some, run-deep}
use Rattle.model.proofs.Parents.{level-child, level-root, parent-type, numbers-levelled, match-type}
use Rattle.demands.specs.StatusTable.{found_cell}
use Rattle.demands.specs.PositionTable.{done_row, row_after, first_of, number_of, kept_if, later as later_here, new_beneath, new_is_beneath, said, position_after}
use Rattle.demands.proofs.Spot.{later, spot-first, run-stops}
use Rattle.demands.proofs.Results.{Hard, hard-unsound, hard-misused, level-low, miss-high, miss-low}

-- a call that is done has the row of its number
done-row : (c n : ℕ) → n < 10 → row_after c n ≡ done_row c
done-row c n l =
    rw (lt-leb 20 n (omega arith), ne_eqb n 10 (λ e. omega arith), ne_eqb n 11 (λ e. omega arith), ne_eqb n 12 (λ e. omega arith))

module _ (cat tab : Bytes) (pos : Position) (list area : Bytes) where
  abbrev cs : List Segment
  cs = listing cat tab

  abbrev Stood : ℕ → After → Type 0
  Stood c a = a.answer.position ≡ position_after cat tab pos c list area a.answer.status

  -- the row of a call that is done
  abbrev done : ℕ → Position
  done c = said cat tab pos c list area (done_row c)

  stood-refused : (c : ℕ) (s : Status) → 20 ≤ number s → Stood c (refused s pos area)
  stood-refused c s l = rw (le-leb 20 (number s) l)

  -- 10, 11 and 12 are the only ones between
  stood-missed : (c : ℕ) (s : Status) → 10 ≤ number s → number s < 20 → Stood c (missed s pos area)
  stood-missed c GB l m = refl
  stood-missed c GE l m = refl
  stood-missed c GP l m = refl
  stood-missed c Blank l m = absurd (omega arith)
  stood-missed c GA l m = absurd (omega arith)
  stood-missed c GK l m = absurd (omega arith)
  stood-missed c CX l m = absurd (omega arith)
  stood-missed c TX l m = absurd (omega arith)
  stood-missed c PX l m = absurd (omega arith)
  stood-missed c AD l m = absurd (omega arith)
  stood-missed c AC l m = absurd (omega arith)
  stood-missed c AJ l m = absurd (omega arith)
  stood-missed c AK l m = absurd (omega arith)
  stood-missed c AH l m = absurd (omega arith)
  stood-missed c AB l m = absurd (omega arith)
  stood-missed c DJ l m = absurd (omega arith)
  stood-missed c DA l m = absurd (omega arith)
  stood-missed c II l m = absurd (omega arith)
  stood-missed c FX l m = absurd (omega arith)
  stood-missed c PD l m = absurd (omega arith)

  stood-unless : (c : ℕ) (s : Status) (a : After) → Hard s → (is_blank s ≡ true → Stood c a) → Stood c (unless s pos area a)
  unfolding unless stopped
  stood-unless c s a h f =
      pick-by (Stood c) (is_blank s) a _ f
      (λ e. pick-by (Stood c) (leb 20 (number s)) (refused s pos area) (missed s pos area)
      (λ k. stood-refused c s (leb-true 20 (number s) k)) (λ k. stood-missed c s (h e) (leb-false 20 (number s) k)))

  -- a get moves onto the cell found; f is what it finds
  stood-gotten : (c : ℕ) (miss : Status) → 10 ≤ number miss → number miss < 20 → (status : ℕ → Status) → ((i : ℕ) → number (status i) < 10)
      → (parentage : ℕ → Parentage) (hold : Bool) (f : Option CellNumber) → ((i : CellNumber) → f ≡ Some i → moved_onto i.0 (parentage i.0) hold ≡ done c)
      → Stood c (gotten cat cs pos area miss status parentage hold f)
  unfolding answer_of
  stood-gotten c miss l m status low parentage hold None h = stood-missed c miss l m
  stood-gotten c miss l m status low parentage hold (Some i) h =
      h i refl ∙ sym (ap (said cat tab pos c list area) (done-row c (number (status i.0)) (low i.0)))

  abbrev ls : List Level
  ls = get_levels cat list (list_read cat list).arguments

  -- R36: the parentage that GU and GN leave
  stood-unique : (c : ℕ) (hold : Bool)
      → moved_onto (found_cell (along cat cs ls pos.place)) (Some (cell (found_cell (along cat cs ls pos.place)))) hold ≡ done c
      → Stood c (get_unique cat cs pos area hold ls)
  unfolding get_unique
  stood-unique c hold h =
      stood-gotten c GE (omega arith) (omega arith) (λ i. Blank) (λ i. omega arith) _ hold (along cat cs ls pos.place)
      (λ i e. sym (ap (λ (f : Option CellNumber). moved_onto (found_cell f) (Some (cell (found_cell f))) hold) e) ∙ h)

  abbrev ahead : Option CellNumber
  ahead = first_match cat cs ls (after_place pos.place) (length cs)

  stood-next : (c : ℕ) (hold : Bool) → moved_onto (found_cell ahead) (Some (cell (found_cell ahead))) hold ≡ done c → Stood c (get_next cat cs pos area hold ls)
  unfolding get_next
  stood-next c hold h =
      stood-gotten c (miss_status ls) (miss-high cat tab pos list area ls) (miss-low cat tab pos list area ls)
      (level_status cat cs ls pos.place) (level-low cat tab pos list area ls pos.place) _ hold ahead
      (λ i e. sym (ap (λ (f : Option CellNumber). moved_onto (found_cell f) (Some (cell (found_cell f))) hold) e) ∙ h)

  -- R35: GNP leaves it as it was
  abbrev inside : Option CellNumber
  inside = first_match cat cs ls (after_place pos.place) (parent_end cat cs pos.parentage)

  stood-within : (c : ℕ) (hold : Bool) → moved_onto (found_cell inside) pos.parentage hold ≡ done c → Stood c (get_next_within cat cs pos area hold ls)
  unfolding get_next_within
  stood-within c hold h =
      stood-gotten c GE (omega arith) (omega arith) (level_status cat cs ls pos.place) (level-low cat tab pos list area ls pos.place) _ hold inside
      (λ i e. sym (ap (λ (f : Option CellNumber). moved_onto (found_cell f) pos.parentage hold) e) ∙ h)

  -- REPL
  stood-replace : Stood 8 (replace cat cs pos area)
  unfolding replace replaced changed answer_of
  stood-replace =
      let i : ℕ = place_number pos.place in
      pick-by (Stood 8) (not (same_bytes (key cat (segment cs i)) (key cat (replacement cat cs pos area i)))) _ _
      (λ e. stood-refused 8 DA (omega arith)) (λ e. refl)

  -- R45: the parentage that DLET leaves
  parentage-gone : (i : ℕ) (m : Parentage) → without i (run_at cat cs i) m ≡ kept_if (λ p. not (leb i p && ltb p (end_at cat cs i))) m
  unfolding end_at
  parentage-gone i None = refl
  parentage-gone i (Some p) = turned (leb i p.0 && ltb p.0 (i + run_at cat cs i))
    where
      turned : (b : Bool) → pick b None (Some p) ≡ pick (not b) (Some p) None
      turned true = refl
      turned false = refl

  number_same : (q : Place) → place_number q ≡ number_of q
  number_same (On c) = refl
  number_same (Before c) = refl

  stood-delete : Stood 9 (delete cat cs pos area)
  unfolding delete deleted changed answer_of
  stood-delete =
      ap (λ (m : Parentage). record { place = Before (cell (place_number pos.place)); parentage = m; hold = false })
      (parentage-gone (place_number pos.place) pos.parentage)
      ∙ ap (λ (i : ℕ). record { place = Before (cell i); parentage = kept_if (λ p. not (leb i p && ltb p (end_at cat cs i))) pos.parentage; hold = false })
      (number_same pos.place)

  -- ISRT
  abbrev t : TypeCode
  t = (last_argument (list_read cat list).arguments).code

  abbrev x : Segment
  x = arriving cat t area

  -- what a parentage becomes, by two tests that agree
  kept_same : (above : List ℕ) (test : ℕ → Bool) (m : Parentage) → ((p : ℕ) → is_in p above ≡ test p) → pick (is_one_of above m) m None ≡ kept_if test m
  kept_same above test None h = refl
  kept_same above test (Some p) h = ap (λ (b : Bool). pick b (Some p) None) (h p.0)

  stood-among : (above : List ℕ) (i n : ℕ) (test : ℕ → Bool) → ((p : ℕ) → is_in p above ≡ test p)
      → record { place = On (cell (i + spot (segment_level cat) x (goes_before cat x) (drop i cs))); parentage = kept_if test pos.parentage; hold = false }
      ≡ done 7
      → Stood 7 (insert_among cat cs pos area (room cat tab) x above i n)
  unfolding insert_among inserted changed answer_of
  stood-among above i n test same h =
      pick-by (Stood 7) (not (keyed cat x)) _ _ (λ k. stood-refused 7 PD (omega arith))
      (λ k. pick-by (Stood 7) (eqb (key_kind cat x.code) 1 && key_taken cat cs x i n) _ _ (λ e. stood-refused 7 II (omega arith))
      (λ e. pick-by (Stood 7) (eqb (length cs) (room cat tab)) _ _ (λ f. stood-refused 7 FX (omega arith))
      (λ f. ap (λ (m : Parentage). record { place = On (cell (i + spot (segment_level cat) x (goes_before cat x) (drop i cs))); parentage = m; hold = false })
      (kept_same above test pos.parentage same) ∙ h)))

  -- the row of ISRT: for a root or not, under the parent found
  abbrev row7 : Bool → Option CellNumber → Position
  row7 b f = record {
    place = On (cell (pick b (first_of (later_here cat tab pos 7 list area) 0 (length cs)) (new_beneath cat tab pos 7 list area f)));
    parentage = kept_if (λ p. not b && new_is_beneath cat tab pos 7 list area f p) pos.parentage;
    hold = false;
  }

  abbrev above : Option CellNumber
  above = along cat cs (parent_levels cat list (list_read cat list).arguments) pos.place

  row_done : row7 (eqb t.0 1) above ≡ done 7
  row_done = refl

  -- on good blocks, for a type of the catalogue
  module _ (g : good_catalogue cat ≡ true) (good : good_listing cat cs ≡ true) (place : good_place cat cs pos.place ≡ true) (known : is_type cat t ≡ true) where
    level-new : segment_level cat x ≡ level cat t
    unfolding arriving segment_of
    level-new = refl

    later-new : (i n : ℕ) → first_of (later cat cs x) i n ≡ first_of (later_here cat tab pos 7 list area) i n
    unfolding arriving segment_of
    later-new i n = refl

    -- at the top: every cell is at least as deep as a root
    top-spot : t.0 ≡ 1 → 0 + spot (segment_level cat) x (goes_before cat x) (drop 0 cs) ≡ first_of (later_here cat tab pos 7 list area) 0 (length cs)
    top-spot e =
        spot-first cat cs x (length cs) 0 (omega arith)
        (λ j a b. omega (arith, level-new ∙ level-root cat g t known e, path-deep cat cs (numbers-levelled cat g cs good) j (omega arith), path-some cat cs j))
        (λ m. absurd (omega arith))
        ∙ later-new 0 (length cs)

    stood-top : eqb t.0 1 ≡ true → Stood 7 (insert_among cat cs pos area (room cat tab) x [] 0 (length cs))
    stood-top e =
        stood-among [] 0 (length cs) (λ p. false) (λ p. refl)
        (ap (λ (i : ℕ). record { place = On (cell i); parentage = kept_if (λ p. false) pos.parentage; hold = false }) (top-spot (eqb-true t.0 1 e))
        ∙ ap (λ (b : Bool). row7 b above) (sym e) ∙ row_done)

    -- beneath cell i: the cells of its run are deeper, and the one behind is not
    under-spot : (i : ℕ) → i < length cs → suc (level_at cat cs i) ≡ segment_level cat x
        → suc i + spot (segment_level cat) x (goes_before cat x) (drop (suc i) cs) ≡ first_of (later_here cat tab pos 7 list area) (suc i) (end_at cat cs i - suc i)
    under-spot i l deep =
        let z : suc i + (end_at cat cs i - suc i) ≡ end_at cat cs i = omega (arith, end-some cat cs i) in
        spot-first cat cs x (end_at cat cs i - suc i) (suc i) (omega (arith, end-le cat cs i l))
        (λ j a b. omega (arith, run-deep cat cs i j (omega arith) (omega arith)))
        (λ m. omega (arith, ap (level_at cat cs) z, run-stops cat cs i l (omega arith)))
        ∙ later-new (suc i) (end_at cat cs i - suc i)

    stood-beneath : (i : ℕ) → eqb t.0 1 ≡ false → i < length cs → suc (level_at cat cs i) ≡ segment_level cat x → above ≡ Some (cell i)
        → Stood 7 (insert_under cat cs pos area (room cat tab) x (Some (cell i)))
    stood-beneath i e l deep q =
        stood-among (row_at cat cs i) (suc i) (run_at cat cs i - 1) (λ p. leb p i && ltb i (end_at cat cs p)) (λ p. row-run cat cs p i l)
        (ap (λ (k : ℕ). record { place = On (cell k); parentage = kept_if (λ p. leb p i && ltb i (end_at cat cs p)) pos.parentage; hold = false })
        (under-spot i l deep)
        ∙ ap (λ (f : Option CellNumber). row7 false f) (sym q) ∙ ap (λ (b : Bool). row7 b above) (sym e) ∙ row_done)

    -- the parent's level is one less
    parent-level : eqb t.0 1 ≡ false → (i : ℕ) → matches cat cs (parent_levels cat list (list_read cat list).arguments) i ≡ true
        → suc (level_at cat cs i) ≡ segment_level cat x
    unfolding level_at
    parent-level e i h =
        let k : is_type cat (parent_of cat t) ≡ true = parent-type cat g t known (eqb-false t.0 1 e) in
        let z : (parent_of cat t).0 ≡ (segment cs i).code.0 = match-type cat cs g list (list_read cat list).arguments (parent_of cat t) k i h in
        sym (level-new ∙ level-child cat g t known ∙ ap (λ (u : ℕ). suc (level cat (code u))) z)

    stood-insert : Stood 7 (insert cat cs pos area (room cat tab) t (parent_levels cat list (list_read cat list).arguments))
    unfolding insert
    stood-insert = pick-by (Stood 7) (eqb t.0 1) _ _ stood-top
        (λ e. elim (along-heads cat cs (numbers-levelled cat g cs good) (parent_levels cat list (list_read cat list).arguments) pos.place place) [
          | missing a b ↦
              subst (λ (f : Option CellNumber). Stood 7 (insert_under cat cs pos area (room cat tab) x f)) (sym b) (stood-missed 7 GE (omega arith) (omega arith))
          | leading i qs l m a b ↦
              subst (λ (f : Option CellNumber). Stood 7 (insert_under cat cs pos area (room cat tab) x f)) (sym b) (stood-beneath i e l (parent-level e i m) b)
        ])

  stood-called : Sound cat tab pos → (c : ℕ) → Usable cat pos c list area
      → Stood c (called cat cs pos area (room cat tab) c list (list_read cat list).arguments)
  unfolding called
  stood-called s c u =
      by_number (λ (k : ℕ). Usable cat pos k list area → Stood k (called cat cs pos area (room cat tab) k list (list_read cat list).arguments))
      (λ v. stood-unique 1 false refl) (λ v. stood-next 2 false refl) (λ v. stood-within 3 false refl)
      (λ v. stood-unique 4 true refl) (λ v. stood-next 5 true refl) (λ v. stood-within 6 true refl)
      (λ v. stood-insert s.catalogue (table-listing cat tab s.table) (good-place cat cs pos s.position) (last-type cat list (v.some refl)))
      (λ v. stood-replace) (λ v. stood-delete) c u.first u.last u

  -- LAW: every call, on every input
  pub stood-outcome : (c : ℕ) → Stood c (after_call called cat tab pos c list area)
  unfolding after_call after_sound
  stood-outcome c =
      stood-unless c (unsound cat tab pos) _ (hard-unsound cat tab pos)
      (λ e. stood-unless c (misused cat pos c list area) _ (hard-misused cat pos c list area)
      (λ f. stood-called (sound-of cat tab pos e) c (usable-of cat pos c list area f)))
