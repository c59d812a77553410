-- The base as it stood before there were value types other than bytes: the definitions of `rules` whose meaning could have moved since, each under its name
-- and as it was, file by file; where it stands outside a section of `rules` it takes that section's arguments. Kept for the statements of AsBefore, and used
-- by nothing else. All that did not move is taken from `rules`. Assumes nothing: these are definitions.
use Rattle.terms.specs.declared.CellNumber.{CellNumber}
use Rattle.std.specs.declared.cmp.Ordering.{Ordering}
use Rattle.std.specs.Prelude.{Bool, true, false, ◌&&◌, ◌||◌, not, List, [], ◌∷◌, ◌++◌, ℕ, zero, suc, ◌+◌, ◌-◌, ◌*◌, ltb, leb, eqb, length, drop, replicate, Err, Ok, Some, None, Option, Result}
use Rattle.terms.specs.declared.TypeCode.{TypeCode}
use Rattle.terms.specs.declared.FieldNumber.{FieldNumber}
use Rattle.terms.specs.declared.Operator.{Operator}
use Rattle.terms.specs.declared.Argument.{Argument}
use Rattle.terms.specs.declared.Place.{Place}
use Rattle.terms.specs.declared.Place.TheVariants.{On, Before}
use Rattle.terms.specs.declared.Position.{Position}
use Rattle.terms.specs.declared.Status.{Status}
use Rattle.terms.specs.declared.Status.TheVariants.{Blank, GE, GP, CX, TX, PX, AD, AC, AJ, AK, AH, AB, DJ, II, FX}
use Rattle.terms.specs.Choice.{pick}
use Rattle.terms.specs.Names.{code, field, cell, same_type, test}
use Rattle.terms.specs.Operators.{holds, operator_of}
use Rattle.std.specs.Ordering.{is_lt, is_eq, is_gt}
use Rattle.terms.specs.Statuses.{number}
use Rattle.terms.specs.Moves.{fresh, is_absent, after_place, after_insert}
use Rattle.forest.specs.Forest.{forest_of}
use Rattle.forest.specs.Good.{formed, is_nil}
use Rattle.forest.specs.Groups.{ok}
use Rattle.forest.specs.Insert.{spot}
use Rattle.forest.specs.Numbers.{range}
use Rattle.rules.specs.Block.{Bytes, byte, part, every, any_of, zeros, marked}
use Rattle.rules.specs.Order.{order}
use Rattle.rules.specs.Catalogue.{types, fields, length_of, key_kind, key_start, key_length, key_value, field_byte, field_type, field_start, field_length, field_value}
use Rattle.rules.specs.Catalogue.{good_span, level, is_type, good_parent, good_header}
use Rattle.rules.specs.Cells.{Segment, type_number, segment, arriving, key, is_child, segment_level, level_at, run_at, end_at, row_at}
use Rattle.rules.specs.Table.{count, cell_size, cell_start, room, listing, good_room, padded, table_bytes}
use Rattle.rules.specs.Position.{good_position}
use Rattle.rules.specs.Arguments.{ListRead, Asked, implied, unqualified, qualified, Level, good_next, is_field_of, last_argument, is_qualified}
use Rattle.rules.specs.Arguments.{get_levels, parent_levels}
use Rattle.rules.specs.Matching.{is_implied, field_bytes, path_to}
use Rattle.rules.specs.Change.{put, applied}
use Rattle.rules.specs.Calls.{After, refused, missed, miss_status, is_one_of, by_number, changed, level_status, parent_end, gotten, replace, delete}
use Rattle.rules.specs.Outcome.{Outcome, is_blank, is_gnp, is_isrt, is_dlet, is_held, unless, Call, landed, Store}
use Rattle.rules.specs.Listing.{cell_line, last_line}

-- ORDER. How a value stands to another of the same value type w: every value type there is compares bytes
unfoldable pub value_order : ℕ → Bytes → Bytes → Ordering
value_order w xs ys = order xs ys

-- CATALOGUE
module _ (cat : Bytes) where
  -- R4, R5: the kind, and the span, or zeros where there is no key
  unfoldable pub good_key : TypeCode → Bool
  good_key t =
      pick (eqb (key_kind cat t) 0) (eqb (key_start cat t) 0 && eqb (key_length cat t) 0)
      (leb (key_kind cat t) 2 && good_span (key_start cat t) (key_length cat t) (length_of cat t))

  -- R4, R7, R8: an entry that is right
  unfoldable pub good_type : ℕ → Bool
  good_type k =
      good_parent cat k && leb 1 (length_of cat (code k)) && leb (length_of cat (code k)) 120 && good_key (code k)
      && zeros (part cat (8 * k + 5) 3) && leb (level cat (code k)) 15

  -- R6: an entry of a field that is right
  unfoldable pub good_field : ℕ → Bool
  good_field f =
      is_type cat (field_type cat (field f)) && good_span (field_start cat (field f)) (field_length cat (field f)) (length_of cat (field_type cat (field f)))
      && eqb (field_byte cat (field f) 3) 0

  -- the check of a catalogue
  unfoldable pub good_catalogue : Bool
  good_catalogue = good_header cat && every good_type (range 1 (types cat)) && every good_field (range 1 (fields cat))

-- CELLS
module _ (cat : Bytes) where
  -- how the key of c stands to that of d, a segment of the same type
  unfoldable pub key_order : Segment → Segment → Ordering
  key_order c d = value_order (key_value cat c.code) (key cat c) (key cat d)

  -- R15: c may stand before its twin d
  unfoldable pub twin_order : Segment → Segment → Bool
  twin_order c d =
      pick (eqb (key_kind cat c.code) 0) true
      (pick (eqb (key_kind cat c.code) 1) (is_lt (key_order c d)) (not (is_gt (key_order c d))))

  -- a twin with the same key
  unfoldable pub same_key : Segment → Segment → Bool
  same_key c d = same_type c.code d.code && is_eq (key_order c d)

  -- R14, R15: d may stand behind its sibling c
  abbrev pub siblings : Segment → Segment → Bool
  siblings c d = ok type_number (is_child cat) twin_order c d

  -- R41: a new segment x stands before its sibling c, which is one of a later group or a twin of greater key
  unfoldable pub goes_before : Segment → Segment → Bool
  goes_before x c = ltb (type_number x) (type_number c) || (same_type x.code c.code && is_lt (key_order x c))

  -- R14: the cells list a forest whose top is of type 1
  unfoldable pub good_listing : List Segment → Bool
  good_listing cs = formed type_number (is_child cat) siblings 0 (forest_of (segment_level cat) cs)

-- TABLE
module _ (cat : Bytes) (tab : Bytes) where
  -- the check of a table (R10 to R15)
  unfoldable pub good_table : Bool
  good_table =
      good_room cat tab && marked 0x54 tab && eqb (byte tab 5) (cell_size cat) && leb (count tab) (room cat tab)
      && every (padded cat tab) (range 0 (count tab)) && zeros (drop (cell_start cat (count tab)) tab) && good_listing cat (listing cat tab)

-- ARGUMENTS
module _ (cat : Bytes) (list : Bytes) where
  -- one argument, which begins at this byte
  unfoldable pub argument_at : TypeCode → ℕ → Result Argument Status
  argument_at before at =
      let t = code (byte list at) in
      let o = byte list (at + 1) in
      let f = field (byte list (at + 2)) in
      pick (not (good_next cat list before t)) (Err AC)
      (pick (leb (length list) (at + 1)) (Err AJ)
      (pick (eqb o 0) (Ok (record { code = t; qualification = None; next = at + 2 }))
      (pick (ltb 6 o) (Err AJ)
      (pick (leb (length list) (at + 2)) (Err AJ)
      (pick (not (is_field_of cat list t f)) (Err AK)
      (pick (ltb (length list) (at + 3 + field_length cat f)) (Err AJ)
      (Ok (record { code = t; qualification = test (operator_of o) f (at + 3); next = at + 3 + field_length cat f }))))))))

  -- R26: read from byte `at` on, at most n arguments, up to the first fault
  unfoldable pub arguments_from : ℕ → TypeCode → ℕ → ListRead
  arguments_from zero before at = record { fault = Blank; arguments = [] }
  arguments_from (suc n) before at = elim (leb (length list) at) [
    | true ↦ record { fault = Blank; arguments = [] }
    | false ↦ elim (argument_at before at) [
      | Err s ↦ record { fault = s; arguments = [] }
      | Ok a ↦ (let r = arguments_from n a.code a.next in record { fault = r.fault; arguments = a ∷ r.arguments })
    ]
  ]

  -- the whole list
  unfoldable pub list_read : ListRead
  list_read = arguments_from (length list) (code 0) 0

-- MATCHING
module _ (cat : Bytes) where
  -- R25: the field on the left, the value on the right
  unfoldable pub tested : Segment → Operator → FieldNumber → Bytes → Bool
  tested s o f v = holds o (value_order (field_value cat f) (field_bytes cat f s) v)

  abbrev pub satisfies : Segment → Asked → Bool
  satisfies s implied = true
  satisfies s unqualified = true
  satisfies s (qualified o f v) = tested s o f v

  -- R28, R30: a segment against one level
  unfoldable pub agrees : Level → Segment → Bool
  agrees l s = same_type l.code s.code && satisfies s l.asked

  module _ (cs : List Segment) where
    -- a completed list and a path agree level by level, to the end of both
    unfoldable pub agree : List Level → List ℕ → Bool
    agree [] [] = true
    agree [] (i ∷ path) = false
    agree (l ∷ ls) [] = false
    agree (l ∷ ls) (i ∷ path) = elim (agrees l (segment cs i)) [ true ↦ agree ls path | false ↦ false ]

    -- R28, R29. A list that is not empty counts here as completed, and a completed list is not empty.
    unfoldable pub matches : List Level → ℕ → Bool
    matches [] i = true
    matches (l ∷ ls) i = agree (l ∷ ls) (path_to cat cs i)

    -- the first match among n cells from cell i on
    unfoldable pub seek : List Level → ℕ → ℕ → Option CellNumber
    seek ls i zero = None
    seek ls i (suc n) = elim (matches ls i) [ true ↦ Some (cell i) | false ↦ seek ls (suc i) n ]

    -- the first match from cell i on that lies before cell e
    unfoldable pub first_match : List Level → ℕ → ℕ → Option CellNumber
    first_match ls i e = seek ls i (e - i)

    -- R30: the cell at which what is kept of the stretch ends; q is what was kept so far
    unfoldable pub kept_on : List Level → List ℕ → Option CellNumber → Option CellNumber
    kept_on [] path q = q
    kept_on (l ∷ ls) [] q = q
    kept_on (l ∷ ls) (i ∷ path) q = elim (agrees l (segment cs i)) [
      | true ↦ kept_on ls path (pick (is_implied l.asked) (Some (cell i)) q)
      | false ↦ q
    ]

    -- R30, R31: what is kept from a place
    abbrev pub kept : List Level → Place → Option CellNumber
    kept ls (On c) = kept_on ls (path_to cat cs c.0) None
    kept ls (Before c) = None

    -- R30: where what is left of the list is sought
    abbrev pub sought_beneath : List Level → Option CellNumber → Option CellNumber
    sought_beneath ls None = first_match ls 0 (length cs)
    sought_beneath ls (Some c) = pick (eqb (level_at cat cs c.0) (length ls)) (Some c) (first_match ls (suc c.0) (end_at cat cs c.0))

    -- R30: the first match along the position
    unfoldable pub along : List Level → Place → Option CellNumber
    along ls q = sought_beneath ls (kept ls q)

-- CALLS
module _ (cat : Bytes) where
  module _ (cs : List Segment) where
    -- R59: a twin among the n cells from i on has this unique key
    unfoldable pub key_taken : Segment → ℕ → ℕ → Bool
    key_taken x i n = any_of (λ j. same_key cat x (segment cs j)) (range i n)

  module _ (cs : List Segment) (pos : Position) (area : Bytes) where
    -- GU (R33, R36): along the position, and what was found is the parentage
    unfoldable pub get_unique : Bool → List Level → After
    get_unique hold ls = gotten cat cs pos area GE (λ i. Blank) (λ i. Some (cell i)) hold (along cat cs ls pos.place)

    -- GN (R34, R36): from the cell after the place on
    unfoldable pub get_next : Bool → List Level → After
    get_next hold ls =
        gotten cat cs pos area (miss_status ls) (level_status cat cs ls pos.place) (λ i. Some (cell i)) hold
        (first_match cat cs ls (after_place pos.place) (length cs))

    -- GNP (R35). The cells after the place and beneath p are those up to the end of p's run.
    unfoldable pub get_next_within : Bool → List Level → After
    get_next_within hold ls =
        gotten cat cs pos area GE (level_status cat cs ls pos.place) (λ i. pos.parentage) hold
        (first_match cat cs ls (after_place pos.place) (parent_end cat cs pos.parentage))

    -- ISRT under a parent that was found: x becomes cell r, beneath the cells `above`, if no twin has its key and there is room; these are the cells then
    unfoldable pub inserted : ℕ → Segment → List ℕ → Bool → ℕ → List Segment → After
    inserted m x above taken r new =
        pick (eqb (key_kind cat x.code) 1 && taken) (refused II pos area)
        (pick (eqb (length cs) m) (refused FX pos area)
        (changed cat (after_insert r (is_one_of above pos.parentage) pos) x 0 (put r (x ∷ [])) new area))

    -- x among the n cells from i on, which are all those beneath its parent
    unfoldable pub insert_among : ℕ → Segment → List ℕ → ℕ → ℕ → After
    insert_among m x above i n =
        let r = i + spot (segment_level cat) x (goes_before cat x) (drop i cs) in
        inserted m x above (key_taken cs x i n) r (applied (put r (x ∷ [])) cs)

    -- R51: GE without a parent
    abbrev pub insert_under : ℕ → Segment → Option CellNumber → After
    insert_under m x None = missed GE pos area
    insert_under m x (Some c) = insert_among m x (row_at cat cs c.0) (suc c.0) (run_at cat cs c.0 - 1)

    -- ISRT (R39 to R42): the parent by the levels, and the new segment among its twins
    unfoldable pub insert : ℕ → TypeCode → List Level → After
    insert m t ls =
        let x = arriving cat t area in
        pick (eqb t.0 1) (insert_among m x [] 0 (length cs)) (insert_under m x (along cat cs ls pos.place))

    -- the call of this number, on the arguments of a list
    unfoldable pub called : ℕ → ℕ → Bytes → List Argument → After
    called m c list ar =
        let ls = get_levels cat list ar in
        by_number c (λ hold. get_unique hold ls) (λ hold. get_next hold ls) (λ hold. get_next_within hold ls)
        (insert m (last_argument ar).code (parent_levels cat list ar)) (replace cat cs pos area) (delete cat cs pos area)

-- OUTCOME. The refusals in the order of R61. 20, 21, 22: the blocks and the position
unfoldable pub unsound : Bytes → Bytes → Position → Status
unsound cat tab pos =
    pick (not (good_catalogue cat)) CX
    (pick (not (good_table cat tab)) TX
    (pick (not (good_position cat (listing cat tab) pos)) PX
    Blank))

-- from AD to DJ: what is asked of them
unfoldable pub misused : Bytes → Position → ℕ → Bytes → Bytes → Status
misused cat pos c list area =
    let ar = (list_read cat list).arguments in
    let fault = (list_read cat list).fault in
    pick (not (leb 1 c && leb c 9)) AD
    (pick (not (is_blank fault)) fault
    (pick (is_isrt c && is_nil ar) AH
    (pick ((is_isrt c && is_qualified (last_argument ar).qualification) || (is_held c && not (is_nil ar))) AJ
    (pick (not (is_dlet c) && ltb (length area) (cell_size cat - 1)) AB
    (pick (is_gnp c && is_absent pos.parentage) GP
    (pick (is_held c && not pos.hold) DJ
    Blank))))))

-- on sound blocks and a good position
unfoldable pub after_sound : Call → Bytes → Bytes → Position → ℕ → Bytes → Bytes → After
after_sound call cat tab pos c list area =
    unless (misused cat pos c list area) pos area
    (call cat (listing cat tab) pos area (room cat tab) c list (list_read cat list).arguments)

-- on any
unfoldable pub after_call : Call → Bytes → Bytes → Position → ℕ → Bytes → Bytes → After
after_call call cat tab pos c list area = unless (unsound cat tab pos) pos area (after_sound call cat tab pos c list area)

unfoldable pub outcome_of : Call → Bytes → Bytes → Position → ℕ → Bytes → Bytes → Outcome
outcome_of call cat tab pos c list area = landed cat tab (after_call call cat tab pos c list area)

-- the promise
unfoldable pub outcome : Store
outcome cat tab pos c list area = outcome_of called cat tab pos c list area

-- the promise to a caller whose blocks and position are sound
unfoldable pub sound_outcome : Store
sound_outcome cat tab pos c list area = landed cat tab (after_sound called cat tab pos c list area)

-- R65: the two checks
unfoldable pub check_catalogue : Bytes → Status
check_catalogue cat = pick (not (good_catalogue cat)) CX Blank

unfoldable pub check_table : Bytes → Bytes → Status
check_table cat tab = pick (not (good_catalogue cat)) CX (pick (not (good_table cat tab)) TX Blank)

-- R64: what the maker answers and writes
unfoldable pub make_status : Bytes → Bytes → Status
make_status cat tab = pick (not (good_catalogue cat)) CX (pick (not (good_room cat tab)) TX Blank)

unfoldable pub made_table : Bytes → Bytes → Bytes
made_table cat tab = pick (eqb (number (make_status cat tab)) 0) (table_bytes cat (room cat tab) []) tab

-- LISTING. R67: the lines of at most k calls
unfoldable pub lines_from : ℕ → Bytes → Bytes → Position → Bytes
lines_from zero cat tab pos = []
lines_from (suc k) cat tab pos =
    let o = outcome cat tab pos 2 [] (replicate 120 0) in
    elim (leb 10 (number o.answer.status)) [
      | true ↦ last_line o.answer.status
      | false ↦ cell_line o.answer o.area ++ lines_from k cat tab o.answer.position
    ]

-- R68: the whole output. Call n + 1 is the last.
unfoldable pub listing_text : Bytes → Bytes → Bytes
listing_text cat tab =
    pick (not (good_catalogue cat)) (last_line CX)
    (pick (ltb 65536 (length tab)) (last_line TX)
    (lines_from (suc (count tab)) cat tab fresh))
