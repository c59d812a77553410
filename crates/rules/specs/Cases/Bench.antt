-- The bench table, and B1 to B10 as one table of cases; the one claim is in proofs/Bench.antt. Assumes nothing: these are definitions.
use Rattle.std.specs.Prelude.{false, List, [], ◌∷◌, ◌++◌, ℕ}
use Rattle.terms.specs.declared.Position.{Position}
use Rattle.terms.specs.declared.Status.TheVariants.{Blank, GB, GE, GP, DA, II}
use Rattle.terms.specs.Moves.{fresh}
use Rattle.rules.specs.Block.{Bytes}
use Rattle.rules.specs.Table.{table_bytes}
use Rattle.rules.specs.Cases.{Case, lists, calls, gives, place, removes, leaves, shows, contains, ascii, upon, gap, parent, position}
use Rattle.rules.specs.Cases.{gu, gn, gnp, ghu, isrt, repl, dlet}

-- four types: a unit and, beneath it, steps and notes, beneath a step its tries; units and steps have a unique key in their first two bytes
-- four fields: the keys of unit and step, the first byte of a try, the last of a step
unfoldable pub catalogue : Bytes
catalogue =
    0x48 ∷ 0x44 ∷ 0x43 ∷ 0 ∷ 1 ∷ 4 ∷ 4 ∷ 0
    ∷ 0 ∷ 3 ∷ 1 ∷ 1 ∷ 2 ∷ 0 ∷ 0 ∷ 0
    ∷ 1 ∷ 3 ∷ 1 ∷ 1 ∷ 2 ∷ 0 ∷ 0 ∷ 0
    ∷ 2 ∷ 2 ∷ 0 ∷ 0 ∷ 0 ∷ 0 ∷ 0 ∷ 0
    ∷ 1 ∷ 1 ∷ 0 ∷ 0 ∷ 0 ∷ 0 ∷ 0 ∷ 0
    ∷ 1 ∷ 1 ∷ 2 ∷ 0
    ∷ 2 ∷ 1 ∷ 2 ∷ 0
    ∷ 3 ∷ 1 ∷ 1 ∷ 0
    ∷ 2 ∷ 3 ∷ 1 ∷ 0 ∷ []

-- two units in 9 cells of 4 bytes, and 3 free cells
unfoldable pub table : Bytes
table =
    0x48 ∷ 0x44 ∷ 0x54 ∷ 0 ∷ 1 ∷ 4 ∷ 0 ∷ 9
    ∷ 1 ∷ 0x30 ∷ 0x37 ∷ 0x41
    ∷ 2 ∷ 0x31 ∷ 0x33 ∷ 0x50
    ∷ 3 ∷ 0x50 ∷ 0x31 ∷ 0
    ∷ 2 ∷ 0x31 ∷ 0x34 ∷ 0x54
    ∷ 3 ∷ 0x54 ∷ 0x31 ∷ 0
    ∷ 3 ∷ 0x50 ∷ 0x32 ∷ 0
    ∷ 4 ∷ 0x6E ∷ 0 ∷ 0
    ∷ 1 ∷ 0x30 ∷ 0x39 ∷ 0x42
    ∷ 2 ∷ 0x31 ∷ 0x34 ∷ 0x50
    ∷ 0 ∷ 0 ∷ 0 ∷ 0 ∷ 0 ∷ 0 ∷ 0 ∷ 0 ∷ 0 ∷ 0 ∷ 0 ∷ 0 ∷ []

unfoldable pub empty : Bytes
empty = table_bytes catalogue 12 []

-- what B1 prints
unfoldable pub output : Bytes
output =
    ascii "0 1 1 -- 303741\n"
    ++ (ascii "1 2 2 -- 313350\n"
    ++ (ascii "2 3 3 -- 5031\n"
    ++ (ascii "3 2 2 GA 313454\n"
    ++ (ascii "4 3 3 -- 5431\n"
    ++ (ascii "5 3 3 -- 5032\n"
    ++ (ascii "6 4 2 GA 6E\n"
    ++ (ascii "7 1 1 GA 303942\n"
    ++ (ascii "8 2 2 -- 313450\n"
    ++ ascii "GB\n"))))))))

-- where a get that found cell i leaves the position
abbrev pub on_cell : ℕ → Position
on_cell i = position (upon i) (parent i) false

abbrev pub try_t : Bytes
try_t = 3 ∷ 1 ∷ 3 ∷ ascii "T"

abbrev pub step14 : Bytes
step14 = 2 ∷ 1 ∷ 2 ∷ ascii "14"

abbrev pub unit07 : Bytes
unit07 = 1 ∷ 1 ∷ 1 ∷ ascii "07"

-- a list of one argument without an operator: it names a type
abbrev pub named : ℕ → Bytes
named t = t ∷ 0 ∷ []

unfoldable pub cases : List Case
cases =
    -- B1: the listing of the bench table
    lists catalogue table output
    -- B2: GN of a try whose field 3 is "T" finds cell 4 from fresh; once more it is GE, and the place stays
    ∷ calls catalogue table fresh (
    gn try_t (gives Blank ∷ place (upon 4) ∷ shows (ascii "T1") ∷ [])
    ∷ gn try_t (gives GE ∷ place (upon 4) ∷ []) ∷ [])
    -- B3: GU of the step "14" finds cell 3 from fresh, and cell 8 from cell 7
    ∷ calls catalogue table fresh (gu step14 (gives Blank ∷ place (upon 3) ∷ []) ∷ [])
    ∷ calls catalogue table (on_cell 7) (gu step14 (gives Blank ∷ place (upon 8) ∷ []) ∷ [])
    -- B4: ISRT of a try "S3" by its type alone makes it cell 6 from cell 5, and cell 9 from cell 7
    ∷ calls catalogue table (on_cell 5) (
    isrt (named 3) (ascii "S3.") (gives Blank ∷ place (upon 6) ∷ leaves 10 ∷ contains 6 3 (ascii "S3") ∷ []) ∷ [])
    ∷ calls catalogue table (on_cell 7) (
    isrt (named 3) (ascii "S3.") (gives Blank ∷ place (upon 9) ∷ leaves 10 ∷ contains 9 3 (ascii "S3") ∷ []) ∷ [])
    -- B5: a second step "14" under unit "07" is II
    ∷ calls catalogue table fresh (isrt (unit07 ++ named 2) (ascii "14X") (gives II ∷ leaves 9 ∷ []) ∷ [])
    -- B6: unit "08C" goes between the two, as cell 7
    ∷ calls catalogue table fresh (isrt (named 1) (ascii "08C") (gives Blank ∷ place (upon 7) ∷ contains 7 1 (ascii "08C") ∷ []) ∷ [])
    -- B7: DLET of cell 3 takes 3 cells and leaves the gap before 3, from which GN gets the note
    ∷ calls catalogue table fresh (
    ghu step14 (gives Blank ∷ place (upon 3) ∷ [])
    ∷ dlet (gives Blank ∷ removes 3 ∷ leaves 6 ∷ place (gap 3) ∷ [])
    ∷ gn [] (gives Blank ∷ place (upon 3) ∷ shows (ascii "n") ∷ contains 3 4 (ascii "n") ∷ []) ∷ [])
    -- B8: after that DLET there is no parentage: GNP is GP
    ∷ calls catalogue table fresh (
    ghu step14 (gives Blank ∷ place (upon 3) ∷ [])
    ∷ dlet (gives Blank ∷ [])
    ∷ gnp [] (gives GP ∷ []) ∷ [])
    -- B9: REPL of cell 3 by "15P" is DA, by "14P" it is done
    ∷ calls catalogue table fresh (
    ghu step14 (gives Blank ∷ place (upon 3) ∷ [])
    ∷ repl (ascii "15P") (gives DA ∷ [])
    ∷ repl (ascii "14P") (gives Blank ∷ contains 3 2 (ascii "14P") ∷ []) ∷ [])
    -- B10: GN in the empty table is GB
    ∷ calls catalogue empty fresh (gn [] (gives GB ∷ []) ∷ [])
    ∷ []
