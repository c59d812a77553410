-- The calls (R32 to R47), over the cells by number: each finds, answers and says what becomes of the cells, the area and the position.
-- The refusals that look only at what is lent stand in Outcome. Assumes nothing: these are definitions.
use Rattle.terms.specs.declared.CellNumber.{CellNumber}
use Rattle.std.specs.Prelude.{Bool, true, false, ◌&&◌, not, List, [], ◌∷◌, ◌++◌, ℕ, suc, ◌+◌, ◌-◌, ltb, eqb, length, drop, Some, None, Option}
use Rattle.terms.specs.declared.TypeCode.{TypeCode}
use Rattle.terms.specs.declared.Place.{Place}
use Rattle.terms.specs.declared.Place.TheVariants.{On, Before}
use Rattle.terms.specs.declared.Position.{Position}
use Rattle.terms.specs.declared.Argument.{Argument}
use Rattle.terms.specs.declared.Status.{Status}
use Rattle.terms.specs.declared.Status.TheVariants.{Blank, GA, GK, GB, GE, DA, II, FX, PD}
use Rattle.terms.specs.declared.Answer.{Answer}
use Rattle.terms.specs.Choice.{pick}
use Rattle.terms.specs.Names.{code, cell, same_type, Parentage}
use Rattle.terms.specs.Statuses.{number}
use Rattle.terms.specs.Moves.{fresh, place_number, after_place, moved_onto, hold_dropped, after_insert, after_delete}
use Rattle.forest.specs.Numbers.{range, is_in}
use Rattle.forest.specs.Insert.{spot}
use Rattle.rules.specs.Block.{Bytes, any_of, same_bytes}
use Rattle.rules.specs.Catalogue.{key_kind, level}
use Rattle.rules.specs.Cells.{Segment, segment, arriving, shown_bytes, long, key, keyed, same_key, goes_before, segment_level, level_at, run_at, end_at, row_at}
use Rattle.rules.specs.Change.{Change, nothing, put, swap, cut, applied}
use Rattle.rules.specs.Arguments.{Level, last_argument, get_levels, parent_levels}
use Rattle.rules.specs.Matching.{first_match, along}

-- what a call leaves: its answer, its change and the cells if they changed, and the area
pub record After : Type 0 where
  pub answer : Answer
  pub change : Change
  pub cells : Option (List Segment)
  pub area : Bytes

-- R46: from status 10 on nothing is told
abbrev pub bare : Status → Position → Answer
bare s p = record { status = s; position = p; code = code 0; level = 0; length = 0; removed = 0 }

-- R62: what a refusal leaves
abbrev pub refused : Status → Position → Bytes → After
refused s p area = record { answer = bare s p; change = nothing; cells = None; area = area }

-- R62: what GE and GP leave of the position; R63: what GB makes of it
abbrev pub after_miss : Status → Position → Position
after_miss s p = pick (eqb (number s) 10) fresh (hold_dropped p)

abbrev pub missed : Status → Position → Bytes → After
missed s p area = record { answer = bare s (after_miss s p); change = nothing; cells = None; area = area }

-- R37: bytes written to the front of the area
abbrev pub over : Bytes → Bytes → Bytes
over b area = b ++ drop (length b) area

-- R50, R51: GB or GE
abbrev pub miss_status : List Level → Status
miss_status [] = GB
miss_status (l ∷ ls) = GE

-- the parentage is one of these cells
abbrev pub is_one_of : List ℕ → Parentage → Bool
is_one_of above None = false
is_one_of above (Some p) = is_in p.0 above

-- R32, R38: which call a number is, and whether it holds
abbrev pub by_number : ℕ → (Bool → After) → (Bool → After) → (Bool → After) → After → After → After → After
by_number c gu gn gnp isrt repl dlet =
    pick (eqb c 1) (gu false) (pick (eqb c 2) (gn false) (pick (eqb c 3) (gnp false)
    (pick (eqb c 4) (gu true) (pick (eqb c 5) (gn true) (pick (eqb c 6) (gnp true)
    (pick (eqb c 7) isrt (pick (eqb c 8) repl dlet)))))))

module _ (cat : Bytes) where
  -- R46: what is told of the segment that the call was about
  unfoldable pub answer_of : Status → Position → Segment → ℕ → Answer
  answer_of s p x removed = record { status = s; position = p; code = x.code; level = level cat x.code; length = long cat x; removed = removed }

  -- ISRT, REPL and DLET done: the change, and these are the cells now
  unfoldable pub changed : Position → Segment → ℕ → Change → List Segment → Bytes → After
  changed p x removed ch cs area = record { answer = answer_of Blank p x removed; change = ch; cells = Some cs; area = area }

  module _ (cs : List Segment) where
    -- R49: GA, GK or blank
    abbrev pub level_status : List Level → Place → ℕ → Status
    level_status [] (On c) i =
        pick (ltb (level_at cat cs i) (level_at cat cs c.0)) GA
        (pick (eqb (level_at cat cs i) (level_at cat cs c.0) && not (same_type (segment cs i).code (segment cs c.0).code)) GK Blank)
    level_status [] (Before c) i = Blank
    level_status (l ∷ ls) q i = Blank

    -- the end of the cells beneath the parentage; none are beneath an absent one
    abbrev pub parent_end : Parentage → ℕ
    parent_end None = 0
    parent_end (Some p) = end_at cat cs p.0

    -- R59: a twin among the n cells from i on has this unique key
    unfoldable pub key_taken : Segment → ℕ → ℕ → Bool
    key_taken x i n = any_of (λ j. same_key cat x (segment cs j)) (range i n)

  module _ (cs : List Segment) (pos : Position) (area : Bytes) where
    -- a get, from what was found: the status where nothing was, the status of a cell, and the parentage after it
    abbrev pub gotten : Status → (ℕ → Status) → (ℕ → Parentage) → Bool → Option CellNumber → After
    gotten miss status parentage hold None = missed miss pos area
    gotten miss status parentage hold (Some c) = record {
      answer = answer_of (status c.0) (moved_onto c.0 (parentage c.0) hold) (segment cs c.0) 0;
      change = nothing;
      cells = None;
      area = over (shown_bytes cat (segment cs c.0)) area;
    }

    -- GU (R33, R36): along the position, and what was found is the parentage
    unfoldable pub get_unique : Bool → List Level → After
    get_unique hold ls = gotten GE (λ i. Blank) (λ i. Some (cell i)) hold (along cat cs ls pos.place)

    -- GN (R34, R36): from the cell after the place on
    unfoldable pub get_next : Bool → List Level → After
    get_next hold ls = gotten (miss_status ls) (level_status cs ls pos.place) (λ i. Some (cell i)) hold (first_match cat cs ls (after_place pos.place) (length cs))

    -- GNP (R35). The cells after the place and beneath p are those up to the end of p's run.
    unfoldable pub get_next_within : Bool → List Level → After
    get_next_within hold ls =
        gotten GE (level_status cs ls pos.place) (λ i. pos.parentage) hold (first_match cat cs ls (after_place pos.place) (parent_end cs pos.parentage))

    -- ISRT under a parent that was found: x becomes cell r, beneath the cells `above`, if its key is a value (R91), no twin has it and there is room; these
    -- are the cells then
    unfoldable pub inserted : ℕ → Segment → List ℕ → Bool → ℕ → List Segment → After
    inserted m x above taken r new =
        pick (not (keyed cat x)) (refused PD pos area)
        (pick (eqb (key_kind cat x.code) 1 && taken) (refused II pos area)
        (pick (eqb (length cs) m) (refused FX pos area)
        (changed (after_insert r (is_one_of above pos.parentage) pos) x 0 (put r (x ∷ [])) new area)))

    -- x among the n cells from i on, which are all those beneath its parent
    unfoldable pub insert_among : ℕ → Segment → List ℕ → ℕ → ℕ → After
    insert_among m x above i n =
        let r = i + spot (segment_level cat) x (goes_before cat x) (drop i cs) in
        inserted m x above (key_taken cs x i n) r (applied (put r (x ∷ [])) cs)

    -- R51: GE without a parent
    abbrev pub insert_under : ℕ → Segment → Option CellNumber → After
    insert_under m x None = missed GE pos area
    insert_under m x (Some c) = insert_among m x (row_at cat cs c.0) (suc c.0) (run_at cat cs c.0 - 1)

    -- ISRT (R39 to R42): the parent by the levels, and the new segment among its twins
    unfoldable pub insert : ℕ → TypeCode → List Level → After
    insert m t ls =
        let x = arriving cat t area in
        pick (eqb t.0 1) (insert_among m x [] 0 (length cs)) (insert_under m x (along cat cs ls pos.place))

    -- REPL: what it leaves of the position (R43), or DA (R58)
    unfoldable pub replaced : ℕ → Segment → List Segment → After
    replaced i x new =
        pick (not (same_bytes (key cat (segment cs i)) (key cat x))) (refused DA pos area)
        (changed (hold_dropped pos) x 0 (swap i x) new area)

    -- the held cell's type with new data
    unfoldable pub replacement : ℕ → Segment
    replacement i = arriving cat (segment cs i).code area

    -- REPL (R43)
    unfoldable pub replace : After
    replace = let i = place_number pos.place in replaced i (replacement i) (applied (swap i (replacement i)) cs)

    -- DLET: what it leaves of the position (R45)
    unfoldable pub deleted : ℕ → ℕ → List Segment → After
    deleted i n new = changed (after_delete i n pos) (segment cs i) n (cut i n) new area

    -- DLET (R44)
    unfoldable pub delete : After
    delete = let i = place_number pos.place in deleted i (run_at cat cs i) (applied (cut i (run_at cat cs i)) cs)

    -- the call of this number, on the arguments of a list
    unfoldable pub called : ℕ → ℕ → Bytes → List Argument → After
    called m c list ar =
        let ls = get_levels cat list ar in
        by_number c (λ hold. get_unique hold ls) (λ hold. get_next hold ls) (λ hold. get_next_within hold ls)
        (insert m (last_argument ar).code (parent_levels cat list ar)) replace delete
