-- Along the position (R30, R31): what is kept of the path, and where the rest of the list is sought. The claim is in proofs/Cases.antt. Assumes nothing:
-- these are definitions.
use Rattle.std.specs.Prelude.{true, false, List, [], ◌∷◌, ◌++◌, ℕ, None}
use Rattle.terms.specs.declared.Position.{Position}
use Rattle.terms.specs.declared.Status.TheVariants.{Blank, GE}
use Rattle.terms.specs.Moves.{fresh}
use Rattle.rules.specs.Block.{Bytes}
use Rattle.rules.specs.Cases.{Case, calls, catalogue_is, gives, place, stands, leaves, ascii, table_of, upon, gap, parent, position, gu, ghu, isrt}
use Rattle.rules.specs.Cases.Bench.{catalogue, table, empty, on_cell, named, unit07, step14, try_t}
use Rattle.rules.specs.Cases.Gets.{step13, unit09}

-- GU with this list from p, in the bench table
abbrev finds : Position → Bytes → ℕ → Case
finds p list i = calls catalogue table p (gu list (gives Blank ∷ place (upon i) ∷ []) ∷ [])

abbrev finds_none : Position → Bytes → Case
finds_none p list = calls catalogue table p (gu list (gives GE ∷ []) ∷ [])

-- ISRT with this list and area from p becomes this cell
abbrev pub becomes : Position → Bytes → Bytes → ℕ → Case
becomes p list area i = calls catalogue table p (isrt list area (gives Blank ∷ place (upon i) ∷ leaves 10 ∷ []) ∷ [])

-- four types, each beneath the one before, of one byte; field 1 is that of type 2; C = 2
unfoldable pub line : Bytes
line =
    ascii "HDC" ++ (0 ∷ 1 ∷ 4 ∷ 1 ∷ 0 ∷ [])
    ++ (0 ∷ 1 ∷ 0 ∷ 0 ∷ 0 ∷ 0 ∷ 0 ∷ 0 ∷ []) ++ (1 ∷ 1 ∷ 0 ∷ 0 ∷ 0 ∷ 0 ∷ 0 ∷ 0 ∷ []) ++ (2 ∷ 1 ∷ 0 ∷ 0 ∷ 0 ∷ 0 ∷ 0 ∷ 0 ∷ [])
    ++ (3 ∷ 1 ∷ 0 ∷ 0 ∷ 0 ∷ 0 ∷ 0 ∷ 0 ∷ []) ++ (2 ∷ 1 ∷ 1 ∷ 0 ∷ [])

-- a root (0); beneath it x (1) with 2, 3 and 4, 5, and y (6) with 7, 8
unfoldable pub line_table : Bytes
line_table =
    table_of 2 9 (1 ∷ 0x61 ∷ 2 ∷ 0x78 ∷ 3 ∷ 0x62 ∷ 4 ∷ 0x63 ∷ 3 ∷ 0x64 ∷ 4 ∷ 0x65 ∷ 2 ∷ 0x79 ∷ 3 ∷ 0x66 ∷ 4 ∷ 0x67 ∷ [])

-- type 2 = x, then type 4: the first and the third level are implied
abbrev x_and_last : Bytes
x_and_last = 2 ∷ 1 ∷ 1 ∷ ascii "x" ++ named 4

abbrev goes : ℕ → ℕ → Case
goes i j = calls line line_table (on_cell i) (gu x_and_last (gives Blank ∷ place (upon j) ∷ []) ∷ [])

unfoldable pub along_cases : List Case
along_cases =
    -- tries: unit and step are implied. On step 3 and on what lies beneath it, 3 is kept; on unit 0 and on its note, 0; on unit 7 and its step, those
    finds (on_cell 3) (named 3) 4
    ∷ finds (on_cell 5) (named 3) 4
    ∷ finds (on_cell 1) (named 3) 2
    ∷ finds (on_cell 0) (named 3) 2
    ∷ finds (on_cell 6) (named 3) 2
    -- the rest of the list is sought beneath what was kept and nowhere else: there is none, though another unit has some
    ∷ finds_none (on_cell 7) (named 3)
    ∷ finds_none (on_cell 8) (named 3)
    ∷ finds_none (on_cell 7) step13
    ∷ finds_none (on_cell 7) (named 4)
    ∷ finds_none (on_cell 1) try_t
    ∷ finds (on_cell 3) try_t 4
    -- down to the last cell beneath it
    ∷ finds (on_cell 4) (3 ∷ 1 ∷ 3 ∷ ascii "P") 5
    -- R31: in a gap, whatever the parentage
    ∷ finds (position (gap 4) (parent 3) false) (named 3) 2
    ∷ finds (position (gap 8) (parent 7) false) step13 1
    ∷ finds (position (gap 9) None false) step14 3
    -- on a cell without parentage, or with one above, the place counts
    ∷ finds (position (upon 7) None false) step14 8
    ∷ finds (position (upon 5) (parent 0) true) (named 3) 4
    -- a level that the list names is not implied, with an operator or without: nothing is kept
    ∷ finds (on_cell 8) (named 1 ++ step14) 3
    ∷ finds (on_cell 7) (named 1) 0
    ∷ finds (on_cell 8) (unit07 ++ step14) 3
    ∷ finds (on_cell 8) (unit09 ++ step14) 8
    -- unit implied, step named: 0 is kept, and not 3
    ∷ finds (on_cell 4) (named 2 ++ (3 ∷ 1 ∷ 3 ∷ ascii "P")) 2
    ∷ finds (on_cell 4) (step14 ++ (3 ∷ 1 ∷ 3 ∷ ascii "P")) 5
    ∷ finds (on_cell 4) (step13 ++ named 3) 2
    -- a named level above an implied one is kept with it if it is satisfied, and else the stretch ends before it
    ∷ finds (on_cell 4) (unit07 ++ named 3) 4
    ∷ finds (on_cell 4) (named 1 ++ named 3) 4
    ∷ finds (on_cell 8) (unit07 ++ named 3) 2
    ∷ finds_none (on_cell 8) (unit09 ++ named 3)
    -- the last implied level is kept too, behind a named one; an implied level behind one that is not satisfied does not count
    ∷ catalogue_is line Blank
    ∷ goes 5 5
    ∷ goes 4 5
    ∷ goes 3 3
    ∷ goes 1 3
    ∷ goes 8 3
    ∷ goes 6 3
    ∷ goes 0 3
    -- GHU likewise
    ∷ calls catalogue table (on_cell 7) (ghu step14 (stands (position (upon 8) (parent 8) true) ∷ []) ∷ [])
    -- ISRT: where nothing of the list is left the segment kept is the parent; else it is the first in the table
    ∷ becomes (on_cell 3) (named 3) (ascii "S3.") 6
    ∷ becomes (on_cell 2) (named 3) (ascii "S3.") 3
    ∷ becomes (on_cell 8) (named 3) (ascii "S3.") 9
    ∷ becomes (on_cell 6) (named 3) (ascii "S3.") 3
    ∷ becomes fresh (named 3) (ascii "S3.") 3
    ∷ becomes (position (gap 6) (parent 3) false) (named 3) (ascii "S3.") 3
    ∷ becomes (on_cell 8) (named 2) (ascii "15X") 9
    ∷ becomes (on_cell 4) (named 4) (ascii "m..") 7
    ∷ becomes (on_cell 7) (named 4) (ascii "m..") 9
    -- its list without the last argument may name a parent elsewhere
    ∷ becomes (on_cell 8) (unit07 ++ named 4) (ascii "m..") 7
    ∷ becomes (on_cell 4) (step13 ++ named 3) (ascii "S3.") 3
    ∷ becomes (on_cell 8) (unit07 ++ step14 ++ named 3) (ascii "S3.") 6
    ∷ becomes (on_cell 8) (unit07 ++ named 3) (ascii "S3.") 3
    -- R51: no parent beneath what was kept, or in a table of no cells; the hold goes and nothing else
    ∷ calls catalogue table (position (upon 8) (parent 7) true) (isrt (step13 ++ named 3) (ascii "S3.") (
    gives GE ∷ stands (position (upon 8) (parent 7) false) ∷ leaves 9 ∷ []) ∷ [])
    ∷ calls catalogue empty fresh (isrt (named 2) (ascii "13P") (gives GE ∷ stands fresh ∷ leaves 0 ∷ []) ∷ [])
    ∷ []
