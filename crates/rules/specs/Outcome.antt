-- The promise of a call, from bytes to bytes: the order of the refusals, then the call itself. With it the checks and the maker.
-- Assumes nothing: these are definitions.
use Rattle.std.specs.Prelude.{Bool, ◌&&◌, ◌||◌, not, List, [], ℕ, ◌-◌, ltb, leb, eqb, length, None, Some, Option}
use Rattle.terms.specs.declared.Position.{Position}
use Rattle.terms.specs.declared.Argument.{Argument}
use Rattle.terms.specs.declared.Status.{Status}
use Rattle.terms.specs.declared.Status.TheVariants.{Blank, GP, CX, TX, PX, AD, AJ, AH, AB, DJ}
use Rattle.terms.specs.declared.Answer.{Answer}
use Rattle.terms.specs.Choice.{pick}
use Rattle.terms.specs.Statuses.{number}
use Rattle.terms.specs.Moves.{is_absent}
use Rattle.forest.specs.Good.{is_nil}
use Rattle.rules.specs.Block.{Bytes}
use Rattle.rules.specs.Catalogue.{good_catalogue}
use Rattle.rules.specs.Cells.{Segment}
use Rattle.rules.specs.Table.{cell_size, room, listing, good_room, good_table, table_bytes}
use Rattle.rules.specs.Position.{good_position, position_bytes}
use Rattle.rules.specs.Arguments.{list_read, last_argument, is_qualified}
use Rattle.rules.specs.Calls.{After, refused, missed, called}

pub record Outcome : Type 0 where
  pub answer : Answer
  pub table : Bytes
  pub area : Bytes

abbrev pub is_blank : Status → Bool
is_blank s = eqb (number s) 0

abbrev pub is_gnp : ℕ → Bool
is_gnp c = eqb c 3 || eqb c 6

abbrev pub is_isrt : ℕ → Bool
is_isrt c = eqb c 7

abbrev pub is_dlet : ℕ → Bool
is_dlet c = eqb c 9

-- REPL or DLET
abbrev pub is_held : ℕ → Bool
is_held c = eqb c 8 || eqb c 9

-- The refusals in the order of R61. The first that holds answers; Blank where none does. The last five are the call's own.
-- 20, 21, 22: the blocks and the position
unfoldable pub unsound : Bytes → Bytes → Position → Status
unsound cat tab pos =
    pick (not (good_catalogue cat)) CX
    (pick (not (good_table cat tab)) TX
    (pick (not (good_position cat (listing cat tab) pos)) PX
    Blank))

-- from AD to DJ: what is asked of them
unfoldable pub misused : Bytes → Position → ℕ → Bytes → Bytes → Status
misused cat pos c list area =
    let ar = (list_read cat list).arguments in
    let fault = (list_read cat list).fault in
    pick (not (leb 1 c && leb c 9)) AD
    (pick (not (is_blank fault)) fault
    (pick (is_isrt c && is_nil ar) AH
    (pick ((is_isrt c && is_qualified (last_argument ar).qualification) || (is_held c && not (is_nil ar))) AJ
    (pick (not (is_dlet c) && ltb (length area) (cell_size cat - 1)) AB
    (pick (is_gnp c && is_absent pos.parentage) GP
    (pick (is_held c && not pos.hold) DJ
    Blank))))))

-- R62: a refusal changes nothing, and below 20 only the position moves (`after_miss`)
unfoldable pub stopped : Status → Position → Bytes → After
stopped s pos area = pick (leb 20 (number s)) (refused s pos area) (missed s pos area)

unfoldable pub unless : Status → Position → Bytes → After → After
unless s pos area done = pick (is_blank s) done (stopped s pos area)

-- a call over the cells (`called`) or over their forest (`interpreted` of Tree): on catalogue, cells, position, area, room M, call number and list
abbrev pub Call : Type 0
Call = Bytes → List Segment → Position → Bytes → ℕ → ℕ → Bytes → List Argument → After

-- on sound blocks and a good position
unfoldable pub after_sound : Call → Bytes → Bytes → Position → ℕ → Bytes → Bytes → After
after_sound call cat tab pos c list area =
    unless (misused cat pos c list area) pos area
    (call cat (listing cat tab) pos area (room cat tab) c list (list_read cat list).arguments)

-- on any
unfoldable pub after_call : Call → Bytes → Bytes → Position → ℕ → Bytes → Bytes → After
after_call call cat tab pos c list area = unless (unsound cat tab pos) pos area (after_sound call cat tab pos c list area)

-- the table's bytes afterwards: as they were, or those of the new cells
abbrev pub table_after : Bytes → Bytes → Option (List Segment) → Bytes
table_after cat tab None = tab
table_after cat tab (Some cs) = table_bytes cat (room cat tab) cs

abbrev pub landed : Bytes → Bytes → After → Outcome
landed cat tab a = record { answer = a.answer; table = table_after cat tab a.cells; area = a.area }

unfoldable pub outcome_of : Call → Bytes → Bytes → Position → ℕ → Bytes → Bytes → Outcome
outcome_of call cat tab pos c list area = landed cat tab (after_call call cat tab pos c list area)

-- a store: what it answers, and what it leaves of table and area, to a call of a number on a catalogue and a table, at a position, with a list and an area
abbrev pub Store : Type 0
Store = Bytes → Bytes → Position → ℕ → Bytes → Bytes → Outcome

-- the promise
unfoldable pub outcome : Store
outcome cat tab pos c list area = outcome_of called cat tab pos c list area

-- the promise to a caller whose blocks and position are sound
unfoldable pub sound_outcome : Store
sound_outcome cat tab pos c list area = landed cat tab (after_sound called cat tab pos c list area)

-- the position's block afterwards, where the position is lent as one: a refusal leaves it (R62)
unfoldable pub block_after : Bytes → Answer → Bytes
block_after block a = pick (leb 20 (number a.status)) block (position_bytes a.position)

-- R65: the two checks
unfoldable pub check_catalogue : Bytes → Status
check_catalogue cat = pick (not (good_catalogue cat)) CX Blank

unfoldable pub check_table : Bytes → Bytes → Status
check_table cat tab = pick (not (good_catalogue cat)) CX (pick (not (good_table cat tab)) TX Blank)

-- R64: what the maker answers and writes
unfoldable pub make_status : Bytes → Bytes → Status
make_status cat tab = pick (not (good_catalogue cat)) CX (pick (not (good_room cat tab)) TX Blank)

unfoldable pub made_table : Bytes → Bytes → Bytes
made_table cat tab = pick (eqb (number (make_status cat tab)) 0) (table_bytes cat (room cat tab) []) tab
