-- The six gets: what each finds, tells, shows and makes of the position; what a miss leaves; what follows a GB; GA and GK against blank. The claims are
-- in proofs/Cases.antt.
-- Assumes nothing: these are definitions.
use Rattle.std.specs.Prelude.{true, false, List, [], ◌∷◌, ◌++◌, ℕ, None}
use Rattle.terms.specs.declared.Position.{Position}
use Rattle.terms.specs.declared.Status.{Status}
use Rattle.terms.specs.declared.Status.TheVariants.{Blank, GA, GK, GB, GE, GP, DJ}
use Rattle.terms.specs.Moves.{fresh}
use Rattle.rules.specs.Block.{Bytes}
use Rattle.rules.specs.Cases.{Case, Step, Says, calls, gives, tells, removes, place, held, stands, block, shows, fills, leaves, bytes, nothing_told, ascii, dots}
use Rattle.rules.specs.Cases.{upon, gap, parent, position, get, gu, gn, gnp, ghu, ghn, ghnp, isrt, repl, dlet}
use Rattle.rules.specs.Cases.Bench.{catalogue, table, empty, on_cell, named, unit07, step14}
use Rattle.rules.specs.Cases.Further.{step_note, full}

abbrev pub step13 : Bytes
step13 = 2 ∷ 1 ∷ 2 ∷ ascii "13"

abbrev pub unit09 : Bytes
unit09 = 1 ∷ 1 ∷ 1 ∷ ascii "09"

-- call c with this list, from p to q, in the bench table; all that is said of it
abbrev from : Position → ℕ → Bytes → List Says → Case
from p c list says = calls catalogue table p (get c list says ∷ [])

-- a miss: the position that it leaves, nothing told, area and table as they were
abbrev misses : Position → ℕ → Bytes → Status → Position → Case
misses p c list s q = from p c list (gives s ∷ stands q ∷ nothing_told ∷ removes 0 ∷ fills dots ∷ bytes table ∷ [])

-- beneath unit 0, held on step 3
abbrev held_below : Position
held_below = position (upon 3) (parent 0) true

unfoldable pub get_cases : List Case
get_cases =
    -- GU and GHU, along the position: step "13" under the same unit; place, parentage and hold, all that is told and shown
    from held_below 1 step13 (
    gives Blank ∷ tells 2 2 3 ∷ removes 0 ∷ stands (position (upon 1) (parent 1) false) ∷ block (1 ∷ 0 ∷ 1 ∷ 1 ∷ 0 ∷ 1 ∷ 0 ∷ 0 ∷ [])
    ∷ fills (ascii "13P..") ∷ bytes table ∷ [])
    ∷ from held_below 4 step13 (
    gives Blank ∷ tells 2 2 3 ∷ removes 0 ∷ stands (position (upon 1) (parent 1) true) ∷ block (1 ∷ 0 ∷ 1 ∷ 1 ∷ 0 ∷ 1 ∷ 1 ∷ 0 ∷ [])
    ∷ fills (ascii "13P..") ∷ bytes table ∷ [])
    -- GN and GHN
    ∷ from held_below 2 [] (
    gives Blank ∷ tells 3 3 2 ∷ removes 0 ∷ stands (position (upon 4) (parent 4) false) ∷ block (1 ∷ 0 ∷ 4 ∷ 1 ∷ 0 ∷ 4 ∷ 0 ∷ 0 ∷ [])
    ∷ fills (ascii "T1...") ∷ bytes table ∷ [])
    ∷ from held_below 5 [] (
    gives Blank ∷ tells 3 3 2 ∷ removes 0 ∷ stands (position (upon 4) (parent 4) true) ∷ block (1 ∷ 0 ∷ 4 ∷ 1 ∷ 0 ∷ 4 ∷ 1 ∷ 0 ∷ [])
    ∷ fills (ascii "T1...") ∷ bytes table ∷ [])
    -- GNP and GHNP: the parentage is what it was (R35)
    ∷ from held_below 3 [] (
    gives Blank ∷ tells 3 3 2 ∷ removes 0 ∷ stands (position (upon 4) (parent 0) false) ∷ block (1 ∷ 0 ∷ 4 ∷ 1 ∷ 0 ∷ 0 ∷ 0 ∷ 0 ∷ [])
    ∷ fills (ascii "T1...") ∷ bytes table ∷ [])
    ∷ from held_below 6 [] (
    gives Blank ∷ tells 3 3 2 ∷ removes 0 ∷ stands (position (upon 4) (parent 0) true) ∷ block (1 ∷ 0 ∷ 4 ∷ 1 ∷ 0 ∷ 0 ∷ 1 ∷ 0 ∷ [])
    ∷ fills (ascii "T1...") ∷ bytes table ∷ [])
    -- from a position without parentage and hold
    ∷ from (position (upon 3) None false) 1 step13 (gives Blank ∷ stands (position (upon 1) (parent 1) false) ∷ [])
    ∷ from (position (upon 3) None false) 2 [] (gives Blank ∷ stands (position (upon 4) (parent 4) false) ∷ [])
    ∷ from (position (upon 3) None false) 4 step13 (gives Blank ∷ stands (position (upon 1) (parent 1) true) ∷ [])
    ∷ from (position (upon 3) None false) 5 [] (gives Blank ∷ stands (position (upon 4) (parent 4) true) ∷ [])
    -- from the start, one after the other: the unit, the note, the next unit
    ∷ calls catalogue table fresh (
    gn [] (gives Blank ∷ tells 1 1 3 ∷ stands (on_cell 0) ∷ shows (ascii "07A") ∷ [])
    ∷ gn (named 4) (gives Blank ∷ tells 4 2 1 ∷ stands (on_cell 6) ∷ shows (ascii "n") ∷ [])
    ∷ ghn (named 1) (gives Blank ∷ tells 1 1 3 ∷ stands (position (upon 7) (parent 7) true) ∷ shows (ascii "09B") ∷ [])
    ∷ ghnp [] (gives Blank ∷ tells 2 2 3 ∷ stands (position (upon 8) (parent 7) true) ∷ shows (ascii "14P") ∷ [])
    ∷ gnp [] (gives GE ∷ nothing_told ∷ stands (position (upon 8) (parent 7) false) ∷ []) ∷ [])
    -- GN (R34): from a gap the cell behind it, and nothing is kept of the path
    ∷ from (position (gap 3) (parent 0) false) 2 [] (gives Blank ∷ stands (on_cell 3) ∷ [])
    ∷ from (position (gap 3) (parent 0) false) 2 (named 2) (gives Blank ∷ stands (on_cell 3) ∷ [])
    ∷ from (position (upon 3) (parent 0) false) 2 (named 2) (gives Blank ∷ stands (on_cell 8) ∷ [])
    ∷ from (on_cell 1) 2 step14 (gives Blank ∷ stands (on_cell 3) ∷ [])
    ∷ from (on_cell 4) 2 step14 (gives Blank ∷ stands (on_cell 8) ∷ [])
    -- GU with an empty list finds cell 0, from any place
    ∷ from fresh 1 [] (gives Blank ∷ stands (on_cell 0) ∷ [])
    ∷ from (on_cell 8) 1 [] (gives Blank ∷ stands (on_cell 0) ∷ [])
    ∷ from (position (gap 5) (parent 3) false) 4 [] (gives Blank ∷ stands (position (upon 0) (parent 0) true) ∷ [])
    ∷ from (position (gap 9) None false) 1 [] (gives Blank ∷ stands (on_cell 0) ∷ [])
    -- GNP: what lies beneath p, grandchildren too, and never p itself
    ∷ from (on_cell 0) 3 (named 3) (gives Blank ∷ stands (position (upon 2) (parent 0) false) ∷ [])
    ∷ from (on_cell 0) 3 (named 1) (gives GE ∷ stands (on_cell 0) ∷ [])
    ∷ from (position (gap 1) (parent 0) false) 3 [] (gives Blank ∷ stands (position (upon 1) (parent 0) false) ∷ [])
    -- at the border of p's run: cell 6 is the last beneath 0, cell 5 the last beneath 3
    ∷ from (position (upon 5) (parent 0) false) 3 [] (gives GA ∷ stands (position (upon 6) (parent 0) false) ∷ [])
    ∷ from (position (gap 6) (parent 0) false) 3 [] (gives Blank ∷ stands (position (upon 6) (parent 0) false) ∷ [])
    ∷ from (position (upon 6) (parent 0) false) 3 [] (gives GE ∷ stands (position (upon 6) (parent 0) false) ∷ [])
    ∷ from (position (gap 7) (parent 0) false) 3 [] (gives GE ∷ stands (position (gap 7) (parent 0) false) ∷ [])
    ∷ from (position (upon 4) (parent 3) false) 3 [] (gives Blank ∷ stands (position (upon 5) (parent 3) false) ∷ [])
    ∷ from (position (upon 5) (parent 3) false) 3 [] (gives GE ∷ [])
    ∷ from (position (gap 6) (parent 3) false) 3 [] (gives GE ∷ [])
    ∷ from (on_cell 2) 3 [] (gives GE ∷ [])
    ∷ from (on_cell 8) 3 [] (gives GE ∷ [])
    -- an argument for a type at or above p is tested too
    ∷ from (on_cell 0) 3 (unit07 ++ named 2) (gives Blank ∷ place (upon 1) ∷ [])
    ∷ from (on_cell 0) 3 (unit09 ++ named 2) (gives GE ∷ [])
    ∷ []

-- what a miss leaves: R62 of GE and GP, R63 of GB
unfoldable pub miss_cases : List Case
miss_cases =
    -- GE, of each get; a list that no segment matches
    misses held_below 1 (2 ∷ 1 ∷ 2 ∷ ascii "99") GE (position (upon 3) (parent 0) false)
    ∷ misses held_below 2 step13 GE (position (upon 3) (parent 0) false)
    ∷ misses held_below 3 step13 GE (position (upon 3) (parent 0) false)
    ∷ misses held_below 4 (2 ∷ 1 ∷ 2 ∷ ascii "99") GE (position (upon 3) (parent 0) false)
    ∷ misses held_below 5 step13 GE (position (upon 3) (parent 0) false)
    ∷ misses held_below 6 step13 GE (position (upon 3) (parent 0) false)
    -- GNP and GHNP with an empty list: GE, not GB
    ∷ misses (position (upon 8) (parent 8) true) 3 [] GE (on_cell 8)
    ∷ misses (position (upon 8) (parent 8) true) 6 [] GE (on_cell 8)
    -- GB (R50): place, parentage and hold are then the fresh ones; with a list it is GE, and they stay but for the hold
    ∷ misses (position (upon 8) (parent 7) true) 2 [] GB fresh
    ∷ misses (position (upon 8) (parent 8) false) 2 [] GB fresh
    ∷ misses (position (upon 8) None true) 5 [] GB fresh
    ∷ misses (position (gap 9) (parent 7) false) 2 [] GB fresh
    ∷ misses (position (gap 9) None false) 5 [] GB fresh
    ∷ misses (position (upon 8) (parent 7) true) 2 (named 2) GE (position (upon 8) (parent 7) false)
    ∷ misses (position (upon 8) (parent 7) true) 5 (named 3) GE (position (upon 8) (parent 7) false)
    -- GP (R52): on a cell and in a gap, with a list or without
    ∷ misses (position (upon 3) None true) 3 [] GP (position (upon 3) None false)
    ∷ misses (position (upon 3) None true) 6 [] GP (position (upon 3) None false)
    ∷ misses (position (gap 3) None false) 6 (named 3) GP (position (gap 3) None false)
    ∷ misses fresh 3 [] GP fresh
    -- in a table of no cells
    ∷ calls catalogue empty fresh (gu [] (gives GE ∷ stands fresh ∷ []) ∷ ghu [] (gives GE ∷ []) ∷ gu (named 1) (gives GE ∷ []) ∷ [])
    ∷ calls catalogue empty fresh (ghn [] (gives GB ∷ stands fresh ∷ []) ∷ gn (named 1) (gives GE ∷ stands fresh ∷ []) ∷ gnp [] (gives GP ∷ []) ∷ [])
    ∷ []

-- a call after GB, which came from cell 8 with parentage and hold
abbrev after_gb : Step → Case
after_gb s = calls catalogue table (position (upon 8) (parent 7) true) (gn [] (gives GB ∷ []) ∷ s ∷ [])

-- R63: what each call does after GB is what it does from the fresh position
unfoldable pub over_cases : List Case
over_cases =
    -- GN and GHN begin at the first root, from a gap, so with a blank status, though the place had been on a cell of level 2
    after_gb (gn [] (gives Blank ∷ tells 1 1 3 ∷ stands (position (upon 0) (parent 0) false) ∷ shows (ascii "07A") ∷ []))
    ∷ after_gb (ghn [] (gives Blank ∷ stands (position (upon 0) (parent 0) true) ∷ []))
    ∷ after_gb (gn (named 3) (gives Blank ∷ place (upon 2) ∷ []))
    -- GNP and GHNP: no parentage, and the position stays fresh
    ∷ after_gb (gnp [] (gives GP ∷ stands fresh ∷ []))
    ∷ after_gb (ghnp (named 3) (gives GP ∷ stands fresh ∷ []))
    -- REPL and DLET: no hold
    ∷ after_gb (repl (ascii "abcde") (gives DJ ∷ stands fresh ∷ bytes table ∷ []))
    ∷ after_gb (dlet (gives DJ ∷ stands fresh ∷ bytes table ∷ []))
    -- GU and ISRT: nothing is kept along the position, so that step "14" is that of the first unit, where cell 8 would keep the second
    ∷ after_gb (gu step14 (gives Blank ∷ stands (on_cell 3) ∷ []))
    ∷ after_gb (ghu [] (gives Blank ∷ stands (position (upon 0) (parent 0) true) ∷ []))
    ∷ after_gb (isrt (step14 ++ named 3) (ascii "T9.") (gives Blank ∷ stands (position (upon 6) None false) ∷ leaves 10 ∷ []))
    -- from one pass into the next
    ∷ calls catalogue table (on_cell 7) (
    gn [] (gives Blank ∷ place (upon 8) ∷ []) ∷ gn [] (gives GB ∷ stands fresh ∷ [])
    ∷ gn [] (gives Blank ∷ place (upon 0) ∷ []) ∷ gn [] (gives Blank ∷ place (upon 1) ∷ []) ∷ [])
    -- on a table of no cells GB is followed by GB
    ∷ calls catalogue empty fresh (gn [] (gives GB ∷ stands fresh ∷ []) ∷ ghn [] (gives GB ∷ stands fresh ∷ []) ∷ gn [] (gives GB ∷ stands fresh ∷ []) ∷ [])
    -- GE does not start over: the place stays, and get-next with an empty list goes on from there
    ∷ calls catalogue table (position (upon 7) (parent 7) true) (
    gn step13 (gives GE ∷ stands (on_cell 7) ∷ []) ∷ gn [] (gives Blank ∷ place (upon 8) ∷ []) ∷ [])
    ∷ calls catalogue table (position (upon 8) (parent 8) true) (
    gnp [] (gives GE ∷ stands (on_cell 8) ∷ []) ∷ gnp [] (gives GE ∷ stands (on_cell 8) ∷ []) ∷ gn [] (gives GB ∷ []) ∷ [])
    -- nor does GP
    ∷ calls catalogue table (position (upon 3) None true) (gnp [] (gives GP ∷ []) ∷ gn [] (gives Blank ∷ place (upon 4) ∷ []) ∷ [])
    ∷ []

-- GA and GK (R49), and blank beside them
unfoldable pub level_cases : List Case
level_cases =
    -- GA: from level 3 to 2, from 2 to 1, from 3 to 1
    from (on_cell 2) 2 [] (gives GA ∷ place (upon 3) ∷ [])
    ∷ from (on_cell 5) 5 [] (gives GA ∷ tells 4 2 1 ∷ place (upon 6) ∷ held true ∷ [])
    ∷ from (on_cell 6) 2 [] (gives GA ∷ tells 1 1 3 ∷ place (upon 7) ∷ [])
    ∷ from (position (upon 2) (parent 0) false) 3 [] (gives GA ∷ place (upon 3) ∷ [])
    ∷ from (position (upon 5) (parent 0) false) 6 [] (gives GA ∷ place (upon 6) ∷ [])
    -- GK: a note behind a step, for each of the four
    ∷ calls catalogue step_note (on_cell 1) (ghn [] (gives GK ∷ tells 4 2 1 ∷ stands (position (upon 2) (parent 2) true) ∷ []) ∷ [])
    ∷ calls catalogue step_note (position (upon 1) (parent 0) false) (gnp [] (gives GK ∷ place (upon 2) ∷ []) ∷ [])
    ∷ calls catalogue step_note (position (upon 1) (parent 0) false) (ghnp [] (gives GK ∷ place (upon 2) ∷ []) ∷ [])
    -- blank: deeper, or the same level and type
    ∷ from (on_cell 0) 2 [] (gives Blank ∷ place (upon 1) ∷ [])
    ∷ from (on_cell 4) 2 [] (gives Blank ∷ place (upon 5) ∷ [])
    ∷ calls catalogue full (on_cell 1) (gn [] (gives Blank ∷ place (upon 2) ∷ []) ∷ gnp [] (gives GE ∷ []) ∷ [])
    -- blank: a list that is not empty
    ∷ from (on_cell 5) 2 (named 4) (gives Blank ∷ place (upon 6) ∷ [])
    ∷ from (position (upon 5) (parent 0) false) 3 (named 4) (gives Blank ∷ place (upon 6) ∷ [])
    ∷ calls catalogue step_note (on_cell 1) (gn (named 4) (gives Blank ∷ place (upon 2) ∷ []) ∷ [])
    -- blank: from a gap
    ∷ from (position (gap 6) (parent 3) false) 2 [] (gives Blank ∷ place (upon 6) ∷ [])
    ∷ from (position (gap 7) None false) 2 [] (gives Blank ∷ place (upon 7) ∷ [])
    ∷ calls catalogue step_note (position (gap 2) (parent 0) false) (gnp [] (gives Blank ∷ place (upon 2) ∷ []) ∷ [])
    -- blank: GU and GHU, which are none of the four
    ∷ from (on_cell 5) 1 [] (gives Blank ∷ place (upon 0) ∷ [])
    ∷ from (on_cell 5) 4 [] (gives Blank ∷ place (upon 0) ∷ [])
    ∷ from (on_cell 5) 1 (named 4) (gives Blank ∷ place (upon 6) ∷ [])
    ∷ []
