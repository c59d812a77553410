-- Cases that say what is not so, one for each thing that a case can say: the test of a case must tell them from true ones. The claim is in
-- proofs/Cases.antt. Assumes nothing: these are definitions.
use Rattle.std.specs.Prelude.{true, false, List, [], ◌∷◌, ◌++◌, set, take, None}
use Rattle.terms.specs.declared.Status.TheVariants.{Blank, GA, GB, CX, TX}
use Rattle.terms.specs.Moves.{fresh}
use Rattle.rules.specs.Cases.{Case, Says, lists, calls, lends, catalogue_is, table_is, makes, block_is, writes}
use Rattle.rules.specs.Cases.{gives, tells, removes, place, held, stands, block, shows, fills, leaves, contains, bytes}
use Rattle.rules.specs.Cases.{ascii, upon, gap, parent, position, gn, dlet}
use Rattle.rules.specs.Cases.Bench.{catalogue, table, on_cell, output}

-- said of GN from fresh in the bench table, which is done, on cell 0
abbrev first : Says → Case
first s = calls catalogue table fresh (gn [] (s ∷ []) ∷ [])

unfoldable pub untrue_cases : List Case
untrue_cases =
    first (gives GA)
    ∷ first (gives GB)
    ∷ first (tells 2 1 3)
    ∷ first (tells 1 2 3)
    ∷ first (tells 1 1 2)
    ∷ first (removes 1)
    ∷ first (place (upon 1))
    ∷ first (place (gap 0))
    ∷ first (held true)
    ∷ first (stands (position (gap 0) (parent 0) false))
    ∷ first (stands (position (upon 1) (parent 0) false))
    ∷ first (stands (position (upon 0) (parent 1) false))
    ∷ first (stands (position (upon 0) None false))
    ∷ first (stands (position (upon 0) (parent 0) true))
    ∷ first (block (0 ∷ 0 ∷ 0 ∷ 1 ∷ 0 ∷ 0 ∷ 0 ∷ 0 ∷ []))
    ∷ first (block (1 ∷ 0 ∷ 0 ∷ 1 ∷ 0 ∷ 0 ∷ 0 ∷ []))
    ∷ first (shows (ascii "07B"))
    ∷ first (shows (ascii "07A..."))
    ∷ first (fills (ascii "07A"))
    ∷ first (fills (ascii "....."))
    ∷ first (leaves 8)
    ∷ first (contains 0 2 (ascii "07A"))
    ∷ first (contains 0 1 (ascii "07B"))
    ∷ first (contains 0 1 (ascii "07"))
    ∷ first (bytes (set table 55 1))
    ∷ first (bytes (take 55 table))
    ∷ first (bytes (table ++ (0 ∷ [])))
    -- one of several, said last; the second of two calls; from a place where it is not so, from a parentage that is not there, from a hold
    ∷ calls catalogue table fresh (gn [] (gives Blank ∷ leaves 9 ∷ removes 1 ∷ []) ∷ [])
    ∷ calls catalogue table fresh (gn [] (gives Blank ∷ []) ∷ gn [] (place (upon 0) ∷ []) ∷ [])
    ∷ calls catalogue table (on_cell 5) (gn [] (gives Blank ∷ []) ∷ [])
    ∷ calls catalogue table (position (upon 8) None false) (gn [] (stands (on_cell 8) ∷ []) ∷ [])
    ∷ calls catalogue table (position (upon 3) (parent 0) true) (dlet (place (upon 3) ∷ []) ∷ [])
    ∷ lends catalogue table (0 ∷ 0 ∷ 0 ∷ 0 ∷ 0 ∷ 0 ∷ 0 ∷ 0 ∷ []) (gn [] (block (0 ∷ 0 ∷ 0 ∷ 0 ∷ 0 ∷ 0 ∷ 0 ∷ 0 ∷ []) ∷ []) ∷ [])
    -- the other kinds of case
    ∷ lists catalogue table (take 136 output)
    ∷ lists catalogue table (output ++ ascii "\n")
    ∷ catalogue_is catalogue CX
    ∷ table_is catalogue table TX
    ∷ makes catalogue (ascii "........") TX (ascii "HDT" ++ (0 ∷ 1 ∷ 4 ∷ 0 ∷ 0 ∷ []))
    ∷ makes catalogue (ascii "........") Blank (ascii "HDT" ++ (0 ∷ 1 ∷ 4 ∷ 0 ∷ 1 ∷ []))
    ∷ block_is (on_cell 3) (1 ∷ 0 ∷ 3 ∷ 1 ∷ 0 ∷ 2 ∷ 0 ∷ 0 ∷ [])
    ∷ writes 10 (ascii "01")
    ∷ []
