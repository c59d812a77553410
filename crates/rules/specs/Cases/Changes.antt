-- ISRT, REPL and DLET: the spot of a new cell, what is told, what becomes of the position and of every byte of the table. The claims are in
-- proofs/Cases.antt. Assumes nothing: these are definitions.
use Rattle.terms.specs.Names.{Parentage}
use Rattle.std.specs.Prelude.{true, false, List, [], ◌∷◌, ◌++◌, None}
use Rattle.terms.specs.declared.Position.{Position}
use Rattle.terms.specs.declared.Status.{Status}
use Rattle.terms.specs.declared.Status.TheVariants.{Blank, DJ, DA, II, FX}
use Rattle.terms.specs.Moves.{fresh}
use Rattle.rules.specs.Block.{Bytes}
use Rattle.rules.specs.Cases.{Case, Says, calls, gives, tells, removes, place, held, stands, block, fills, leaves, contains, bytes, nothing_told, ascii}
use Rattle.rules.specs.Cases.{upon, gap, parent, position, gu, gn, gnp, ghu, isrt, repl, dlet}
use Rattle.rules.specs.Cases.Bench.{catalogue, table, empty, on_cell, named, unit07, step14}
use Rattle.rules.specs.Cases.Further.{full}
use Rattle.rules.specs.Cases.Gets.{unit09}
use Rattle.rules.specs.Cases.Along.{becomes}
use Rattle.rules.specs.Cases.Tables.{unit, step, try, note, free, bench_of}

-- the two units of the bench table with all beneath them, and its last free cells
abbrev first_unit : Bytes
first_unit = unit "07A" ++ step "13P" ++ try "P1" ++ step "14T" ++ try "T1" ++ try "P2" ++ note "n"

abbrev second_unit : Bytes
second_unit = unit "09B" ++ step "14P"

abbrev two_free : Bytes
two_free = free ++ free

abbrev three_free : Bytes
three_free = two_free ++ free

-- ISRT of a try beneath step 3, from cell 5 with this parentage, leaves that
abbrev keeps : Parentage → Parentage → Case
keeps p q = calls catalogue table (position (upon 5) p true) (isrt (named 3) (ascii "S3.") (gives Blank ∷ stands (position (upon 6) q false) ∷ []) ∷ [])

-- a refusal: all stays, the hold too
abbrev refuses : Status → Position → List Says
refuses s p = gives s ∷ nothing_told ∷ removes 0 ∷ stands p ∷ bytes table ∷ []

unfoldable pub insert_cases : List Case
insert_cases =
    -- the bench table, cell by cell, is what these cases are written in
    calls catalogue (bench_of 9 (first_unit ++ second_unit ++ three_free)) fresh (gn [] (bytes table ∷ []) ∷ [])
    -- every output: a try beneath step 3, held on cell 5, beneath 3
    ∷ calls catalogue table (position (upon 5) (parent 3) true) (isrt (named 3) (ascii "S3xy") (
    gives Blank ∷ tells 3 3 2 ∷ removes 0 ∷ stands (position (upon 6) (parent 3) false) ∷ block (1 ∷ 0 ∷ 6 ∷ 1 ∷ 0 ∷ 3 ∷ 0 ∷ 0 ∷ [])
    ∷ fills (ascii "S3xy") ∷ leaves 10
    ∷ bytes (bench_of 10 (
    unit "07A" ++ step "13P" ++ try "P1" ++ step "14T" ++ try "T1" ++ try "P2" ++ try "S3" ++ note "n" ++ second_unit ++ two_free)) ∷ []) ∷ [])
    -- R42, of the parentage: it is the parent, an ancestor, a twin, none
    ∷ keeps (parent 3) (parent 3)
    ∷ keeps (parent 0) (parent 0)
    ∷ keeps (parent 5) None
    ∷ keeps None None
    -- elsewhere: beneath another unit, before the parentage and behind it; a root, which has no parent
    ∷ calls catalogue table (on_cell 8) (isrt (unit07 ++ named 4) (ascii "m..") (gives Blank ∷ tells 4 2 1 ∷ stands (position (upon 7) None false) ∷ []) ∷ [])
    ∷ calls catalogue table (position (upon 8) (parent 7) true) (isrt (unit07 ++ named 4) (ascii "m..") (stands (position (upon 7) None false) ∷ []) ∷ [])
    ∷ calls catalogue table (on_cell 1) (isrt (unit09 ++ named 4) (ascii "m..") (gives Blank ∷ stands (position (upon 9) None false) ∷ []) ∷ [])
    ∷ calls catalogue table (on_cell 1) (isrt (named 2) (ascii "15X") (gives Blank ∷ tells 2 2 3 ∷ stands (position (upon 6) None false) ∷ []) ∷ [])
    ∷ calls catalogue table (on_cell 0) (isrt (named 1) (ascii "08C") (gives Blank ∷ tells 1 1 3 ∷ stands (position (upon 7) None false) ∷ []) ∷ [])
    ∷ calls catalogue table (on_cell 0) (isrt (named 2) (ascii "15X") (gives Blank ∷ stands (position (upon 6) (parent 0) false) ∷ []) ∷ [])
    ∷ calls catalogue table (position (gap 3) (parent 1) false) (isrt (named 3) (ascii "S3.") (stands (position (upon 3) (parent 1) false) ∷ []) ∷ [])
    -- among its twins by key: first_unit, between, last, with their runs passed over; before a later group
    ∷ becomes fresh (named 1) (ascii "06C") 0
    ∷ becomes fresh (named 1) (ascii "08C") 7
    ∷ becomes fresh (named 1) (ascii "10C") 9
    ∷ becomes (on_cell 0) (named 2) (ascii "12X") 1
    ∷ becomes (on_cell 8) (unit07 ++ named 2) (ascii "15X") 6
    ∷ becomes (on_cell 7) (named 2) (ascii "13X") 8
    ∷ becomes (on_cell 7) (named 2) (ascii "15X") 9
    -- R41, without a key: whatever its data, behind the groups of smaller code and before those of greater
    ∷ becomes (on_cell 3) (named 3) (ascii "A0.") 6
    ∷ becomes (on_cell 0) (named 4) (ascii "a..") 7
    ∷ becomes (on_cell 0) (named 4) (ascii "n..") 7
    ∷ becomes (on_cell 7) (named 4) (ascii "a..") 9
    ∷ calls catalogue (bench_of 2 (unit "07A" ++ note "n" ++ two_free)) fresh (
    isrt (named 2) (ascii "14X") (gives Blank ∷ place (upon 1) ∷ bytes (bench_of 3 (unit "07A" ++ step "14X" ++ note "n" ++ free)) ∷ [])
    ∷ isrt (named 3) (ascii "T9z") (gives Blank ∷ place (upon 2) ∷ bytes (bench_of 4 (unit "07A" ++ step "14X" ++ try "T9" ++ note "n")) ∷ [])
    ∷ isrt (named 4) (ascii "m..") (gives FX ∷ leaves 4 ∷ []) ∷ [])
    -- into the empty table
    ∷ calls catalogue empty fresh (isrt (named 1) (ascii "08Czz") (
    gives Blank ∷ tells 1 1 3 ∷ stands (position (upon 0) None false) ∷ fills (ascii "08Czz")
    ∷ bytes (bench_of 1 (unit "08C" ++ free ++ free ++ free ++ free ++ free ++ free ++ free ++ free ++ free ++ free ++ free)) ∷ []) ∷ [])
    -- II (R59): the key of the first twin, of the last, of a root; its other bytes do not matter
    ∷ calls catalogue table (position (upon 8) (parent 7) true) (isrt (named 2) (ascii "14Z") (refuses II (position (upon 8) (parent 7) true)) ∷ [])
    ∷ calls catalogue table fresh (isrt (named 2) (ascii "13P") (refuses II fresh) ∷ [])
    ∷ calls catalogue table fresh (isrt (named 1) (ascii "09Z") (refuses II fresh) ∷ [])
    ∷ calls catalogue table fresh (isrt (named 1) (ascii "07Z") (refuses II fresh) ∷ [])
    -- and no other segment's: step "13" stands beneath another unit, unit "14" and step "07" are of another type
    ∷ becomes fresh (unit09 ++ named 2) (ascii "13P") 8
    ∷ becomes fresh (named 1) (ascii "14Z") 9
    ∷ becomes (on_cell 0) (named 2) (ascii "07Z") 1
    -- FX (R60); a refusal keeps the hold
    ∷ calls catalogue full (position (upon 3) (parent 0) true) (isrt (named 4) (ascii "z..") (
    gives FX ∷ nothing_told ∷ stands (position (upon 3) (parent 0) true) ∷ bytes full ∷ []) ∷ [])
    ∷ []

unfoldable pub replace_cases : List Case
replace_cases =
    -- every output; of the position R43
    calls catalogue table (position (upon 3) (parent 0) true) (
    repl (ascii "14Qxy") (
    gives Blank ∷ tells 2 2 3 ∷ removes 0 ∷ stands (position (upon 3) (parent 0) false) ∷ block (1 ∷ 0 ∷ 3 ∷ 1 ∷ 0 ∷ 0 ∷ 0 ∷ 0 ∷ [])
    ∷ fills (ascii "14Qxy") ∷ leaves 9
    ∷ bytes (bench_of 9 (unit "07A" ++ step "13P" ++ try "P1" ++ step "14Q" ++ try "T1" ++ try "P2" ++ note "n" ++ second_unit ++ three_free)) ∷ [])
    -- so that a second_unit one has none
    ∷ repl (ascii "14Q") (gives DJ ∷ stands (position (upon 3) (parent 0) false) ∷ []) ∷ [])
    -- the parentage is the cell itself, or absent
    ∷ calls catalogue table (position (upon 3) (parent 3) true) (repl (ascii "14Q") (gives Blank ∷ stands (on_cell 3) ∷ []) ∷ [])
    ∷ calls catalogue table (position (upon 3) None true) (repl (ascii "14Q") (gives Blank ∷ stands (position (upon 3) None false) ∷ []) ∷ [])
    -- R43: L bytes of the area, and zeros to C; no key byte to change
    ∷ calls catalogue table (position (upon 6) (parent 0) true) (repl (ascii "mxy") (
    gives Blank ∷ tells 4 2 1 ∷ contains 6 4 (ascii "m")
    ∷ bytes (bench_of 9 (unit "07A" ++ step "13P" ++ try "P1" ++ step "14T" ++ try "T1" ++ try "P2" ++ note "m" ++ second_unit ++ three_free)) ∷ []) ∷ [])
    ∷ calls catalogue table (position (upon 2) (parent 1) true) (repl (ascii "A0z") (gives Blank ∷ tells 3 3 2 ∷ contains 2 3 (ascii "A0") ∷ []) ∷ [])
    ∷ calls catalogue table (position (upon 0) (parent 0) true) (repl (ascii "07Z") (gives Blank ∷ tells 1 1 3 ∷ contains 0 1 (ascii "07Z") ∷ []) ∷ [])
    -- the same bytes again
    ∷ calls catalogue table (position (upon 8) (parent 7) true) (repl (ascii "14P") (gives Blank ∷ bytes table ∷ held false ∷ []) ∷ [])
    -- DA: a key byte changes, the first_unit or the last; nothing else does, and the hold stays
    ∷ calls catalogue table (position (upon 3) (parent 0) true) (
    repl (ascii "15T") (refuses DA (position (upon 3) (parent 0) true))
    ∷ repl (ascii "24T") (fills (ascii "24T") ∷ refuses DA (position (upon 3) (parent 0) true))
    ∷ repl (ascii "14Z") (gives Blank ∷ contains 3 2 (ascii "14Z") ∷ []) ∷ [])
    -- DJ: without hold
    ∷ calls catalogue table (on_cell 3) (repl (ascii "14Q") (refuses DJ (on_cell 3)) ∷ [])
    ∷ calls catalogue table (position (gap 3) (parent 0) false) (repl (ascii "14Q") (refuses DJ (position (gap 3) (parent 0) false)) ∷ [])
    -- a plain get clears the hold, and a get with hold sets it on the cell found
    ∷ calls catalogue table fresh (ghu step14 [] ∷ gn [] [] ∷ repl (ascii "T9.") (gives DJ ∷ []) ∷ [])
    ∷ calls catalogue table fresh (ghu step14 [] ∷ gu step14 [] ∷ dlet (gives DJ ∷ []) ∷ [])
    ∷ calls catalogue table fresh (ghu step14 [] ∷ gnp [] [] ∷ dlet (gives DJ ∷ []) ∷ [])
    ∷ []

unfoldable pub delete_cases : List Case
delete_cases =
    -- every output: the run of step 3 goes (R44); an ancestor as parentage stays
    calls catalogue table (position (upon 3) (parent 0) true) (
    dlet (
    gives Blank ∷ tells 2 2 3 ∷ removes 3 ∷ stands (position (gap 3) (parent 0) false) ∷ block (0 ∷ 0 ∷ 3 ∷ 1 ∷ 0 ∷ 0 ∷ 0 ∷ 0 ∷ [])
    ∷ fills [] ∷ leaves 6 ∷ bytes (bench_of 6 (unit "07A" ++ step "13P" ++ try "P1" ++ note "n" ++ second_unit ++ three_free ++ three_free)) ∷ [])
    -- then GNP goes on beneath it, and a second_unit DLET has no hold
    ∷ dlet (gives DJ ∷ [])
    ∷ gnp [] (gives Blank ∷ stands (position (upon 3) (parent 0) false) ∷ []) ∷ [])
    -- R45, of the parentage: in the run, and none before
    ∷ calls catalogue table (position (upon 3) (parent 3) true) (dlet (gives Blank ∷ stands (position (gap 3) None false) ∷ []) ∷ [])
    ∷ calls catalogue table (position (upon 3) None true) (dlet (gives Blank ∷ stands (position (gap 3) None false) ∷ []) ∷ [])
    ∷ calls catalogue table (position (upon 5) (parent 3) true) (
    dlet (gives Blank ∷ tells 3 3 2 ∷ removes 1 ∷ stands (position (gap 5) (parent 3) false) ∷ []) ∷ [])
    ∷ calls catalogue table (position (upon 4) (parent 3) true) (
    dlet (gives Blank ∷ stands (position (gap 4) (parent 3) false) ∷ leaves 8 ∷ contains 4 3 (ascii "P2") ∷ []) ∷ [])
    -- the last cell, a unit with all beneath it, the first_unit unit, the last segment of a table
    ∷ calls catalogue table (position (upon 8) (parent 7) true) (
    dlet (gives Blank ∷ removes 1 ∷ stands (position (gap 8) (parent 7) false) ∷ bytes (bench_of 8 (first_unit ++ unit "09B" ++ free ++ three_free)) ∷ []) ∷ [])
    ∷ calls catalogue table (position (upon 7) (parent 7) true) (
    dlet (gives Blank ∷ tells 1 1 3 ∷ removes 2 ∷ stands (position (gap 7) None false) ∷ bytes (bench_of 7 (first_unit ++ two_free ++ three_free)) ∷ []) ∷ [])
    ∷ calls catalogue table (position (upon 0) (parent 0) true) (
    dlet (
    gives Blank ∷ tells 1 1 3 ∷ removes 7 ∷ stands (position (gap 0) None false)
    ∷ bytes (bench_of 2 (second_unit ++ free ++ three_free ++ three_free ++ three_free)) ∷ []) ∷ [])
    ∷ calls catalogue (bench_of 1 (unit "07A")) (position (upon 0) (parent 0) true) (
    dlet (removes 1 ∷ bytes (bench_of 0 free) ∷ []) ∷ gn [] (stands (position (gap 0) None false) ∷ []) ∷ [])
    -- the note: one cell, of one byte
    ∷ calls catalogue table (position (upon 6) (parent 0) true) (
    dlet (gives Blank ∷ tells 4 2 1 ∷ removes 1 ∷ stands (position (gap 6) (parent 0) false) ∷ []) ∷ [])
    -- DJ: without hold
    ∷ calls catalogue table (on_cell 3) (dlet (refuses DJ (on_cell 3)) ∷ [])
    ∷ calls catalogue table (position (gap 3) (parent 0) false) (dlet (refuses DJ (position (gap 3) (parent 0) false)) ∷ [])
    -- the area is not looked at, and stays
    ∷ calls catalogue table (position (upon 8) (parent 7) true) (
    record { call = 9; list = []; area = ascii "x"; says = gives Blank ∷ fills (ascii "x") ∷ leaves 8 ∷ [] } ∷ [])
    ∷ []
