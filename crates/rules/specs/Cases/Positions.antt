-- Positions (R18 to R23): good ones at each border and bad ones of each kind, as positions and as blocks of 8 bytes. The claim is in proofs/Cases.antt. Assumes
-- nothing: these are definitions.
use Rattle.std.specs.Prelude.{true, false, List, [], ◌∷◌, None}
use Rattle.terms.specs.declared.Position.{Position}
use Rattle.terms.specs.declared.Status.TheVariants.{Blank, GB, GE, GP, PX}
use Rattle.rules.specs.Block.{Bytes}
use Rattle.rules.specs.Cases.{Case, calls, lends, block_is, gives, removes, stands, block, nothing_told, upon, gap, parent, position, gu, gn, gnp, ghnp, dlet}
use Rattle.rules.specs.Cases.Bench.{catalogue, table, empty}

-- in the bench table: PX, and nothing changed; or the call is done
abbrev bad_from : Position → Case
bad_from p = calls catalogue table p (gu [] (gives PX ∷ stands p ∷ nothing_told ∷ removes 0 ∷ []) ∷ [])

abbrev good_from : Position → Case
good_from p = calls catalogue table p (gu [] (gives Blank ∷ []) ∷ [])

-- a block that is none: PX, and it stays as it is
abbrev bad_block : Bytes → Case
bad_block b = lends catalogue table b (gu [] (gives PX ∷ block b ∷ []) ∷ [])

unfoldable pub position_cases : List Case
position_cases =
    -- R18, with n = 9
    good_from (position (upon 0) None false)
    ∷ good_from (position (upon 8) None false)
    ∷ bad_from (position (upon 9) None false)
    ∷ bad_from (position (upon 12) None false)
    ∷ good_from (position (gap 0) None false)
    ∷ good_from (position (gap 9) None false)
    ∷ bad_from (position (gap 10) None false)
    -- in a table of no cells
    ∷ calls catalogue empty (position (gap 0) None false) (gn [] (gives GB ∷ []) ∷ [])
    ∷ calls catalogue empty (position (upon 0) None false) (gn [] (gives PX ∷ []) ∷ [])
    ∷ calls catalogue empty (position (gap 1) None false) (gn [] (gives PX ∷ []) ∷ [])
    -- R20, on a cell: cell 5 lies beneath 3 and 0; 4 is its twin, 1 its parent's twin, 6 and 7 come later
    ∷ good_from (position (upon 5) (parent 5) false)
    ∷ good_from (position (upon 5) (parent 3) false)
    ∷ good_from (position (upon 5) (parent 0) false)
    ∷ bad_from (position (upon 5) (parent 4) false)
    ∷ bad_from (position (upon 5) (parent 1) false)
    ∷ bad_from (position (upon 5) (parent 2) false)
    ∷ bad_from (position (upon 5) (parent 6) false)
    ∷ bad_from (position (upon 5) (parent 7) false)
    ∷ bad_from (position (upon 5) (parent 9) false)
    -- a cell beneath it is no ancestor, nor is an earlier root
    ∷ bad_from (position (upon 3) (parent 4) false)
    ∷ bad_from (position (upon 0) (parent 1) false)
    ∷ bad_from (position (upon 8) (parent 0) false)
    ∷ good_from (position (upon 8) (parent 7) false)
    -- R20, in a gap: a parentage that is not before it
    ∷ bad_from (position (gap 0) (parent 0) false)
    ∷ bad_from (position (gap 3) (parent 3) false)
    ∷ bad_from (position (gap 3) (parent 5) false)
    ∷ bad_from (position (gap 9) (parent 9) false)
    ∷ good_from (position (gap 1) (parent 0) false)
    ∷ good_from (position (gap 2) (parent 1) false)
    -- R20, in a gap: one behind p's run; the run of 1 ends at 3, of 3 at 6, of 0 at 7, of 7 and 8 at n
    ∷ good_from (position (gap 3) (parent 1) false)
    ∷ bad_from (position (gap 4) (parent 1) false)
    ∷ good_from (position (gap 6) (parent 3) false)
    ∷ bad_from (position (gap 7) (parent 3) false)
    ∷ good_from (position (gap 7) (parent 0) false)
    ∷ bad_from (position (gap 8) (parent 0) false)
    ∷ good_from (position (gap 9) (parent 7) false)
    ∷ good_from (position (gap 9) (parent 8) false)
    ∷ bad_from (position (gap 9) (parent 0) false)
    -- R21: with a parentage or without
    ∷ good_from (position (upon 3) (parent 3) true)
    ∷ good_from (position (upon 3) (parent 0) true)
    ∷ good_from (position (upon 3) None true)
    ∷ bad_from (position (gap 3) None true)
    ∷ bad_from (position (gap 3) (parent 1) true)
    ∷ bad_from (position (gap 9) None true)
    -- the block: place kind, cell number, high byte first, parentage, its cell number, hold, zero
    ∷ block_is (position (gap 0) None false) (0 ∷ 0 ∷ 0 ∷ 0 ∷ 0 ∷ 0 ∷ 0 ∷ 0 ∷ [])
    ∷ block_is (position (upon 300) (parent 258) true) (1 ∷ 1 ∷ 44 ∷ 1 ∷ 1 ∷ 2 ∷ 1 ∷ 0 ∷ [])
    ∷ block_is (position (gap 4096) (parent 255) false) (0 ∷ 16 ∷ 0 ∷ 1 ∷ 0 ∷ 255 ∷ 0 ∷ 0 ∷ [])
    ∷ block_is (position (upon 0) (parent 0) false) (1 ∷ 0 ∷ 0 ∷ 1 ∷ 0 ∷ 0 ∷ 0 ∷ 0 ∷ [])
    -- calls write it: a get, a DLET, a miss
    ∷ lends catalogue table (0 ∷ 0 ∷ 0 ∷ 0 ∷ 0 ∷ 0 ∷ 0 ∷ 0 ∷ []) (gn [] (gives Blank ∷ block (1 ∷ 0 ∷ 0 ∷ 1 ∷ 0 ∷ 0 ∷ 0 ∷ 0 ∷ []) ∷ []) ∷ [])
    ∷ lends catalogue table (1 ∷ 0 ∷ 3 ∷ 1 ∷ 0 ∷ 0 ∷ 1 ∷ 0 ∷ []) (
    dlet (gives Blank ∷ block (0 ∷ 0 ∷ 3 ∷ 1 ∷ 0 ∷ 0 ∷ 0 ∷ 0 ∷ []) ∷ [])
    ∷ ghnp [] (gives Blank ∷ block (1 ∷ 0 ∷ 3 ∷ 1 ∷ 0 ∷ 0 ∷ 1 ∷ 0 ∷ []) ∷ []) ∷ [])
    ∷ lends catalogue table (1 ∷ 0 ∷ 8 ∷ 1 ∷ 0 ∷ 7 ∷ 1 ∷ 0 ∷ []) (gn [] (gives GB ∷ block (0 ∷ 0 ∷ 0 ∷ 0 ∷ 0 ∷ 0 ∷ 0 ∷ 0 ∷ []) ∷ []) ∷ [])
    ∷ lends catalogue table (1 ∷ 0 ∷ 8 ∷ 1 ∷ 0 ∷ 7 ∷ 1 ∷ 0 ∷ []) (gnp [] (gives GE ∷ block (1 ∷ 0 ∷ 8 ∷ 1 ∷ 0 ∷ 7 ∷ 0 ∷ 0 ∷ []) ∷ []) ∷ [])
    ∷ lends catalogue table (1 ∷ 0 ∷ 8 ∷ 0 ∷ 0 ∷ 0 ∷ 1 ∷ 0 ∷ []) (gnp [] (gives GP ∷ block (1 ∷ 0 ∷ 8 ∷ 0 ∷ 0 ∷ 0 ∷ 0 ∷ 0 ∷ []) ∷ []) ∷ [])
    -- R23: no 8 bytes, another kind, a number without a parentage, a last byte
    ∷ bad_block []
    ∷ bad_block (0 ∷ 0 ∷ 0 ∷ 0 ∷ 0 ∷ 0 ∷ 0 ∷ [])
    ∷ bad_block (0 ∷ 0 ∷ 0 ∷ 0 ∷ 0 ∷ 0 ∷ 0 ∷ 0 ∷ 0 ∷ [])
    ∷ bad_block (2 ∷ 0 ∷ 0 ∷ 0 ∷ 0 ∷ 0 ∷ 0 ∷ 0 ∷ [])
    ∷ bad_block (0 ∷ 1 ∷ 0 ∷ 0 ∷ 0 ∷ 0 ∷ 0 ∷ 0 ∷ [])
    ∷ bad_block (1 ∷ 0 ∷ 0 ∷ 2 ∷ 0 ∷ 0 ∷ 0 ∷ 0 ∷ [])
    ∷ bad_block (1 ∷ 0 ∷ 5 ∷ 0 ∷ 0 ∷ 3 ∷ 0 ∷ 0 ∷ [])
    ∷ bad_block (1 ∷ 0 ∷ 5 ∷ 0 ∷ 1 ∷ 0 ∷ 0 ∷ 0 ∷ [])
    ∷ bad_block (1 ∷ 0 ∷ 5 ∷ 1 ∷ 1 ∷ 3 ∷ 0 ∷ 0 ∷ [])
    ∷ bad_block (1 ∷ 0 ∷ 5 ∷ 1 ∷ 0 ∷ 3 ∷ 2 ∷ 0 ∷ [])
    ∷ bad_block (1 ∷ 0 ∷ 5 ∷ 1 ∷ 0 ∷ 3 ∷ 1 ∷ 1 ∷ [])
    ∷ []
