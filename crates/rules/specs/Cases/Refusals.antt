-- The refusals that look at what is asked (R53 to R57), and their order (R61). A case of the order has two of them at once, and the earlier answers.
-- The claims are in proofs/Cases.antt. Assumes nothing: these are definitions.
use Rattle.std.specs.Prelude.{true, false, List, [], ◌∷◌, ◌++◌, ℕ, set, None}
use Rattle.terms.specs.declared.Position.{Position}
use Rattle.terms.specs.declared.Status.{Status}
use Rattle.terms.specs.declared.Status.TheVariants.{Blank, GE, GP, CX, TX, PX, AD, AC, AJ, AK, AH, AB, DJ, II, FX}
use Rattle.terms.specs.Moves.{fresh}
use Rattle.rules.specs.Block.{Bytes}
use Rattle.rules.specs.Cases.{Case, Step, calls, gives, removes, stands, block, fills, leaves, bytes, nothing_told}
use Rattle.rules.specs.Cases.{ascii, upon, gap, parent, position}
use Rattle.rules.specs.Cases.Bench.{catalogue, table, on_cell, named, unit07, step14}
use Rattle.rules.specs.Cases.Further.{full}
use Rattle.rules.specs.Cases.Gets.{unit09}

-- call c with this list and area
abbrev calling : ℕ → Bytes → Bytes → Status → List Step
calling c list area s = record { call = c; list = list; area = area; says = gives s ∷ [] } ∷ []

-- held on step 3, beneath unit 0: refused with this status, and nothing changes, by every output
abbrev holding : Position
holding = position (upon 3) (parent 0) true

abbrev refused_holding : ℕ → Bytes → Bytes → Status → Case
refused_holding c list area s = calls catalogue table holding (
    record {
      call = c;
      list = list;
      area = area;
      says = gives s ∷ nothing_told ∷ removes 0 ∷ stands holding ∷ block (1 ∷ 0 ∷ 3 ∷ 1 ∷ 0 ∷ 0 ∷ 1 ∷ 0 ∷ []) ∷ fills area ∷ leaves 9 ∷ bytes table ∷ [];
    } ∷ [])

-- held there, and done
abbrev done_holding : ℕ → Bytes → Bytes → Case
done_holding c list area = calls catalogue table holding (calling c list area Blank)

-- an area of C - 2 bytes, one of C - 1
abbrev short : Bytes
short = ascii "14"

abbrev enough : Bytes
enough = ascii "14T"

unfoldable pub refusal_cases : List Case
refusal_cases =
    -- AD (R53)
    refused_holding 0 [] enough AD
    ∷ refused_holding 10 [] enough AD
    ∷ refused_holding 255 [] enough AD
    ∷ done_holding 1 [] enough
    ∷ done_holding 9 [] enough
    -- AC, AJ and AK change nothing, in any call
    ∷ refused_holding 1 (named 5) enough AC
    ∷ refused_holding 2 (1 ∷ []) enough AJ
    ∷ refused_holding 6 (1 ∷ 1 ∷ 2 ∷ ascii "07") enough AK
    ∷ refused_holding 7 (named 5) enough AC
    -- AH (R55); a get may have an empty list
    ∷ refused_holding 7 [] enough AH
    ∷ done_holding 2 [] enough
    -- the other AJ (R54): ISRT's last argument, and not one before it
    ∷ refused_holding 7 step14 enough AJ
    ∷ refused_holding 7 (unit07 ++ step14) enough AJ
    ∷ refused_holding 7 unit07 enough AJ
    ∷ done_holding 7 (unit07 ++ named 4) enough
    ∷ done_holding 4 step14 enough
    -- and a list for REPL or DLET, of one argument or more, qualified or not
    ∷ refused_holding 8 (named 2) enough AJ
    ∷ refused_holding 8 step14 enough AJ
    ∷ refused_holding 9 (named 2) enough AJ
    ∷ refused_holding 9 (unit07 ++ step14) enough AJ
    ∷ done_holding 8 [] enough
    -- AB (R56): one byte is missing, whatever the type's own L
    ∷ refused_holding 1 [] short AB
    ∷ refused_holding 2 (named 4) short AB
    ∷ refused_holding 3 [] short AB
    ∷ refused_holding 4 [] short AB
    ∷ refused_holding 5 [] short AB
    ∷ refused_holding 6 [] short AB
    ∷ refused_holding 7 (named 3) short AB
    ∷ refused_holding 8 [] short AB
    ∷ refused_holding 2 [] [] AB
    ∷ done_holding 3 [] enough
    ∷ done_holding 5 [] enough
    ∷ done_holding 6 [] enough
    ∷ done_holding 7 (named 3) enough
    -- DLET looks at no area
    ∷ done_holding 9 [] short
    ∷ done_holding 9 [] []
    ∷ []

-- a bad catalogue, table and position
abbrev bad_catalogue : Bytes
bad_catalogue = set catalogue 7 1

abbrev bad_table : Bytes
bad_table = set table 5 3

abbrev bad_position : Position
bad_position = position (upon 9) None true

unfoldable pub order_cases : List Case
order_cases =
    -- 20 before 21, 22, 23 and the rest
    calls bad_catalogue bad_table fresh (calling 2 [] enough CX)
    ∷ calls bad_catalogue table bad_position (calling 2 [] enough CX)
    ∷ calls bad_catalogue bad_table bad_position (calling 0 (named 9) [] CX)
    ∷ calls [] [] bad_position (calling 0 (named 9) [] CX)
    -- 21 before 22, 23 and the rest
    ∷ calls catalogue bad_table bad_position (calling 2 [] enough TX)
    ∷ calls catalogue bad_table fresh (calling 0 [] enough TX)
    ∷ calls catalogue bad_table bad_position (calling 10 (named 9) [] TX)
    -- 22 before 23, list faults and the rest
    ∷ calls catalogue table bad_position (calling 0 [] enough PX)
    ∷ calls catalogue table bad_position (calling 2 (named 9) enough PX)
    ∷ calls catalogue table bad_position (calling 2 [] [] PX)
    ∷ calls catalogue table (position (gap 9) None true) (calling 3 [] enough PX)
    -- 23 before list faults, 28
    ∷ calls catalogue table fresh (calling 0 (named 9) enough AD)
    ∷ calls catalogue table fresh (calling 10 (1 ∷ []) enough AD)
    ∷ calls catalogue table fresh (calling 10 (1 ∷ 1 ∷ 9 ∷ []) [] AD)
    ∷ calls catalogue table fresh (calling 0 [] [] AD)
    -- list faults before the other AJ, 28, 12, 29
    ∷ calls catalogue table holding (calling 8 (named 9) enough AC)
    ∷ calls catalogue table holding (calling 9 (1 ∷ 1 ∷ 2 ∷ ascii "07") [] AK)
    ∷ calls catalogue table holding (calling 7 (step14 ++ named 9) enough AC)
    ∷ calls catalogue table holding (calling 7 (step14 ++ (3 ∷ 1 ∷ 9 ∷ ascii "T")) enough AK)
    ∷ calls catalogue table fresh (calling 2 (1 ∷ 1 ∷ 2 ∷ ascii "07") [] AK)
    ∷ calls catalogue table fresh (calling 2 (1 ∷ 7 ∷ []) short AJ)
    ∷ calls catalogue table fresh (calling 3 (named 9) enough AC)
    ∷ calls catalogue table fresh (calling 8 (named 9) [] AC)
    ∷ calls catalogue table fresh (calling 9 (1 ∷ 1 ∷ 9 ∷ []) [] AK)
    -- 27 before 28
    ∷ calls catalogue table fresh (calling 7 [] short AH)
    ∷ calls catalogue table fresh (calling 7 [] [] AH)
    -- the other AJ before 28, 29
    ∷ calls catalogue table fresh (calling 7 step14 short AJ)
    ∷ calls catalogue table holding (calling 8 (named 2) short AJ)
    ∷ calls catalogue table fresh (calling 8 (named 2) enough AJ)
    ∷ calls catalogue table fresh (calling 9 (named 2) [] AJ)
    -- the other AJ before 11, 31, 32
    ∷ calls catalogue table fresh (calling 7 (1 ∷ 1 ∷ 1 ∷ ascii "99" ++ step14) enough AJ)
    ∷ calls catalogue table fresh (calling 7 unit07 (ascii "07A") AJ)
    ∷ calls catalogue full fresh (calling 7 unit07 (ascii "08A") AJ)
    -- 28 before 12, 29, 10, 11, 30, 31, 32
    ∷ calls catalogue table fresh (calling 3 [] short AB)
    ∷ calls catalogue table fresh (calling 6 [] short AB)
    ∷ calls catalogue table (on_cell 3) (calling 8 [] short AB)
    ∷ calls catalogue table (on_cell 8) (calling 2 [] short AB)
    ∷ calls catalogue table fresh (calling 1 (2 ∷ 1 ∷ 2 ∷ ascii "99") short AB)
    ∷ calls catalogue table (on_cell 7) (calling 7 (2 ∷ 1 ∷ 2 ∷ ascii "13" ++ named 3) short AB)
    ∷ calls catalogue table holding (calling 8 [] (ascii "15") AB)
    ∷ calls catalogue table fresh (calling 7 (named 1) (ascii "07") AB)
    ∷ calls catalogue full fresh (calling 7 (named 4) (ascii "z") AB)
    -- 12 before 10 and 11: no parentage, and no cell left
    ∷ calls catalogue table (position (upon 8) None false) (calling 3 [] enough GP)
    ∷ calls catalogue table (position (gap 9) None false) (calling 6 (named 3) enough GP)
    -- 29 before 30
    ∷ calls catalogue table (on_cell 3) (calling 8 [] (ascii "15T") DJ)
    -- 11 before 32: no parent in a full table; 31 before 32
    ∷ calls catalogue full fresh (calling 7 (unit09 ++ named 4) (ascii "z..") GE)
    ∷ calls catalogue full fresh (calling 7 (named 1) (ascii "07B") II)
    ∷ calls catalogue full fresh (calling 7 (named 1) (ascii "08B") FX)
    ∷ []
