-- The listing program's output beside B1: numbers of more digits, every status that it meets, and the files that it refuses; which are too long is said
-- by laws (proofs/Listing.antt). The claim is in proofs/Cases.antt. Assumes nothing: these are definitions.
use Rattle.std.specs.Prelude.{List, [], ◌∷◌, ◌++◌, set}
use Rattle.rules.specs.Cases.{Case, lists, writes, ascii, table_of}
use Rattle.rules.specs.Cases.Bench.{catalogue, table, empty}
use Rattle.rules.specs.Cases.Further.{step_note, full}
use Rattle.rules.specs.Cases.Tables.{bench_of}

unfoldable pub listing_cases : List Case
listing_cases =
    -- cells 10 and 11 have two digits
    lists catalogue full (
    ascii "0 1 1 -- 303741\n1 4 2 -- 61\n2 4 2 -- 62\n3 4 2 -- 63\n4 4 2 -- 64\n5 4 2 -- 65\n"
    ++ ascii "6 4 2 -- 66\n7 4 2 -- 67\n8 4 2 -- 68\n9 4 2 -- 69\n10 4 2 -- 6A\n11 4 2 -- 6B\nGB\n")
    ∷ writes 0 (ascii "0")
    ∷ writes 9 (ascii "9")
    ∷ writes 10 (ascii "10")
    ∷ writes 407 (ascii "407")
    ∷ writes 4095 (ascii "4095")
    ∷ writes 65535 (ascii "65535")
    -- GK, and every hex digit
    ∷ lists catalogue step_note (ascii "0 1 1 -- 303741\n1 2 2 -- 313350\n2 4 2 GK 6E\nGB\n")
    ∷ lists catalogue (bench_of 1 (1 ∷ 0x09 ∷ 0xAF ∷ 0x9B ∷ [])) (ascii "0 1 1 -- 09AF9B\nGB\n")
    ∷ lists catalogue (bench_of 1 (1 ∷ 0xC0 ∷ 0x0D ∷ 0xFE ∷ [])) (ascii "0 1 1 -- C00DFE\nGB\n")
    -- no cell
    ∷ lists catalogue empty (ascii "GB\n")
    -- the longest data, L = 120
    ∷ lists (ascii "HDC" ++ (0 ∷ 1 ∷ 1 ∷ 0 ∷ 0 ∷ 0 ∷ 120 ∷ 0 ∷ 0 ∷ 0 ∷ 0 ∷ 0 ∷ 0 ∷ [])) (table_of 121 0 []) (ascii "GB\n")
    -- refused at once: a bad table, a bad catalogue, and both; a missing file counts as empty
    ∷ lists catalogue (set table 4 2) (ascii "TX\n")
    ∷ lists (set catalogue 7 1) table (ascii "CX\n")
    ∷ lists catalogue [] (ascii "TX\n")
    ∷ lists [] table (ascii "CX\n")
    ∷ lists [] [] (ascii "CX\n")
    ∷ []
