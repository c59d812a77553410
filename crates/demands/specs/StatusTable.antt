-- The statuses, row by row (R49 to R60), in the order of R61, then GA and GK. What a row is given for stands beside its letters.
-- Assumes nothing: these are definitions.
use Rattle.terms.specs.declared.CellNumber.{CellNumber}
use Rattle.std.specs.Prelude.{Bool, true, false, ◌&&◌, ◌||◌, not, List, [], ◌∷◌, ℕ, suc, ◌-◌, ltb, leb, eqb, length, Some, None, Option}
use Rattle.terms.specs.declared.TypeCode.{TypeCode}
use Rattle.terms.specs.declared.Place.{Place}
use Rattle.terms.specs.declared.Place.TheVariants.{On, Before}
use Rattle.terms.specs.declared.Position.{Position}
use Rattle.terms.specs.declared.Argument.{Argument}
use Rattle.terms.specs.declared.Status.{Status}
use Rattle.terms.specs.declared.Status.TheVariants.{Blank, GA, GK, GB, GE, GP, CX, TX, PX, AD, AC, AJ, AK, AH, AB, DJ, DA, II, FX, PD}
use Rattle.terms.specs.Choice.{pick}
use Rattle.terms.specs.Names.{same_type}
use Rattle.terms.specs.Statuses.{number}
use Rattle.terms.specs.Moves.{place_number, after_place, is_absent}
use Rattle.forest.specs.Good.{is_nil}
use Rattle.rules.specs.Block.{Bytes, same_bytes}
use Rattle.rules.specs.Catalogue.{key_kind, good_catalogue}
use Rattle.rules.specs.Cells.{Segment, segment, arriving, key, keyed, level_at, run_at}
use Rattle.rules.specs.Table.{count, cell_size, room, listing, good_table}
use Rattle.rules.specs.Position.{good_position}
use Rattle.rules.specs.Arguments.{list_read, last_argument, is_qualified, get_levels, parent_levels}
use Rattle.rules.specs.Matching.{first_match, along}
use Rattle.rules.specs.Calls.{parent_end, key_taken}

-- R48: the numbers of the statuses
abbrev pub numbers : List ℕ
numbers = 0 ∷ 1 ∷ 2 ∷ 10 ∷ 11 ∷ 12 ∷ 20 ∷ 21 ∷ 22 ∷ 23 ∷ 24 ∷ 25 ∷ 26 ∷ 27 ∷ 28 ∷ 29 ∷ 30 ∷ 31 ∷ 32 ∷ 33 ∷ []

-- a status, and whether what it is given for is so
pub record Row : Type 0 where
  pub status : Status
  pub given : Bool

abbrev pub row : Status → Bool → Row
row s b = record { status = s; given = b }

-- the first row that is given; blank where none is (R49)
unfoldable pub first_given : List Row → Status
first_given [] = Blank
first_given (r ∷ rs) = pick r.given r.status (first_given rs)

abbrev pub is_nothing : Option CellNumber → Bool
is_nothing None = true
is_nothing (Some c) = false

-- the cell found
abbrev pub found_cell : Option CellNumber → ℕ
found_cell None = 0
found_cell (Some c) = c.0

abbrev pub is_on : Place → Bool
is_on (On c) = true
is_on (Before c) = false

-- a call by its number: GU or GHU, GN or GHN, GNP or GHNP, any of these gets, ISRT, REPL, DLET
abbrev pub unique : ℕ → Bool
unique c = eqb c 1 || eqb c 4

abbrev pub next : ℕ → Bool
next c = eqb c 2 || eqb c 5

abbrev pub within : ℕ → Bool
within c = eqb c 3 || eqb c 6

abbrev pub get : ℕ → Bool
get c = unique c || next c || within c

abbrev pub isrt : ℕ → Bool
isrt c = eqb c 7

abbrev pub repl : ℕ → Bool
repl c = eqb c 8

abbrev pub dlet : ℕ → Bool
dlet c = eqb c 9

-- what was asked, on what: a call c with its list and area
module _ (cat tab : Bytes) (pos : Position) (c : ℕ) (list area : Bytes) where
  -- the table's cells, the list's arguments, and its fault
  abbrev pub cells : List Segment
  cells = listing cat tab

  abbrev pub arguments : List Argument
  arguments = (list_read cat list).arguments

  abbrev pub fault : ℕ
  fault = number (list_read cat list).fault

  -- what a get finds: along the position; after the place; after the place and beneath the parentage
  abbrev pub found : Option CellNumber
  found =
      let ls = get_levels cat list arguments in
      pick (unique c) (along cat cells ls pos.place)
      (first_match cat cells ls (after_place pos.place) (pick (next c) (length cells) (parent_end cat cells pos.parentage)))

  -- GA and GK (R49): a get-next with an empty list from a cell, and one was found
  abbrev pub stepped : Bool
  stepped = (next c || within c) && is_nil list && is_on pos.place && not (is_nothing found)

  abbrev pub found_level : ℕ
  found_level = level_at cat cells (found_cell found)

  abbrev pub place_level : ℕ
  place_level = level_at cat cells (place_number pos.place)

  -- ISRT: the new segment; its parent, where its type has one
  abbrev pub new_type : TypeCode
  new_type = (last_argument arguments).code

  abbrev pub new : Segment
  new = arriving cat new_type area

  abbrev pub root : Bool
  root = eqb new_type.0 1

  abbrev pub parent : Option CellNumber
  parent = along cat cells (parent_levels cat list arguments) pos.place

  -- a twin has its key: one of the n cells from i on, all the cells or those beneath the parent
  abbrev pub taken_beneath : Option CellNumber → Bool
  taken_beneath None = false
  taken_beneath (Some p) = key_taken cat cells new (suc p.0) (run_at cat cells p.0 - 1)

  abbrev pub taken : Bool
  taken = pick root (key_taken cat cells new 0 (length cells)) (taken_beneath parent)

  -- the segment of the place: REPL's and DLET's, once the position is good and has a hold
  abbrev pub held : Segment
  held = segment cells (place_number pos.place)

  -- the call's own: 10 and 11, 30, 33, 31, 32, and where it is done 1 and 2
  abbrev pub own_rows : List Row
  own_rows =
      row GB (next c && is_nil list && leb (count tab) (after_place pos.place))
      ∷ row GE ((get c && not (next c && is_nil list) && is_nothing found) || (isrt c && (not root && is_nothing parent)))
      ∷ row DA (repl c && not (same_bytes (key cat held) (key cat (arriving cat held.code area))))
      ∷ row PD (isrt c && not (keyed cat new))
      ∷ row II (isrt c && (eqb (key_kind cat new_type) 1 && taken))
      ∷ row FX (isrt c && eqb (count tab) (room cat tab))
      ∷ row GA (stepped && ltb found_level place_level)
      ∷ row GK (stepped && (eqb found_level place_level && not (same_type (segment cells (found_cell found)).code held.code)))
      ∷ []

  -- before them what is asked: from AD to DJ, in the order of R61
  abbrev pub asked_rows : List Row
  asked_rows =
      row AD (not (leb 1 c && leb c 9))
      ∷ row AC (eqb fault 24)
      ∷ row AJ (eqb fault 25)
      ∷ row AK (eqb fault 26)
      ∷ row AH (isrt c && is_nil list)
      ∷ row AJ ((isrt c && is_qualified (last_argument arguments).qualification) || ((repl c || dlet c) && not (is_nil list)))
      ∷ row AB (not (dlet c) && ltb (length area) (cell_size cat - 1))
      ∷ row GP (within c && is_absent pos.parentage)
      ∷ row DJ ((repl c || dlet c) && not pos.hold)
      ∷ own_rows

  -- before all the blocks and the position: 20, 21, 22
  abbrev pub status_table : List Row
  status_table =
      row CX (not (good_catalogue cat))
      ∷ row TX (not (good_table cat tab))
      ∷ row PX (not (good_position cat cells pos))
      ∷ asked_rows
