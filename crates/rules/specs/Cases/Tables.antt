-- The table, rule by rule (R10 to R15): what the check answers of a small table, and what the maker of empty tables answers and writes (R64). The claims are in
-- proofs/Cases.antt. Assumes nothing: these are definitions.
use Rattle.std.specs.Prelude.{true, false, List, [], ◌∷◌, ◌++◌, ℕ, set, take, replicate, None}
use Prim.Native.String.{String}
use Rattle.terms.specs.declared.Status.TheVariants.{Blank, GB, CX, TX}
use Rattle.rules.specs.Block.{Bytes}
use Rattle.rules.specs.Cases.{Case, Says, table_is, calls, makes, gives, stands, fills, bytes, nothing_told, ascii, upon, gap, parent, position, dots}
use Rattle.rules.specs.Cases.{table_of, gu, gn, isrt, repl, dlet}
use Rattle.rules.specs.Cases.Bench.{catalogue, table, named}
use Rattle.rules.specs.Cases.Catalogues.{field_catalogue}
use Rattle.rules.specs.Cases.Further.{deep_catalogue}

-- cells of the bench: each its type code, its data, and zeros to C = 4
abbrev pub unit : String → Bytes
unit s = 1 ∷ ascii s

abbrev pub step : String → Bytes
step s = 2 ∷ ascii s

abbrev pub try : String → Bytes
try s = 3 ∷ ascii s ++ (0 ∷ [])

abbrev pub note : String → Bytes
note s = 4 ∷ ascii s ++ (0 ∷ 0 ∷ [])

abbrev pub free : Bytes
free = 0 ∷ 0 ∷ 0 ∷ 0 ∷ []

-- a table of n bench cells
abbrev pub bench_of : ℕ → Bytes → Bytes
bench_of n cells = table_of 4 n cells

abbrev bad_tab : Bytes → Case
bad_tab tab = table_is catalogue tab TX

abbrev good_tab : Bytes → Case
good_tab tab = table_is catalogue tab Blank

-- three types of 2, 4 and 3 bytes, one beneath the other: C = 5
unfoldable pub three_lengths : Bytes
three_lengths =
    ascii "HDC" ++ (0 ∷ 1 ∷ 3 ∷ 0 ∷ 0 ∷ [])
    ++ (0 ∷ 2 ∷ 0 ∷ 0 ∷ 0 ∷ 0 ∷ 0 ∷ 0 ∷ []) ++ (1 ∷ 4 ∷ 0 ∷ 0 ∷ 0 ∷ 0 ∷ 0 ∷ 0 ∷ []) ++ (2 ∷ 3 ∷ 0 ∷ 0 ∷ 0 ∷ 0 ∷ 0 ∷ 0 ∷ [])

-- a call on a bad table: TX, and nothing changed
abbrev refused_table : List Says
refused_table = gives TX ∷ nothing_told ∷ stands (position (upon 0) (parent 0) true) ∷ []

unfoldable pub table_cases : List Case
table_cases =
    -- R10: mark, version, cell size
    good_tab table
    ∷ bad_tab (set table 0 0x68)
    ∷ bad_tab (set table 1 0x45)
    ∷ bad_tab (set table 2 0x43)
    ∷ bad_tab (set table 3 1)
    ∷ bad_tab (set table 4 0)
    ∷ bad_tab (set table 4 2)
    ∷ bad_tab (set table 5 3)
    ∷ bad_tab (set table 5 5)
    -- R10, R12: n has two bytes; 13, 256 and 9 + 256 are above 12
    ∷ bad_tab (set table 7 13)
    ∷ bad_tab (set (set table 6 1) 7 0)
    ∷ bad_tab (set table 6 1)
    ∷ good_tab (bench_of 2 (unit "07A" ++ step "13P"))
    ∷ bad_tab (bench_of 3 (unit "07A" ++ step "13P"))
    -- R12: how long the slice is
    ∷ bad_tab []
    ∷ bad_tab (take 7 table)
    ∷ good_tab (bench_of 0 [])
    ∷ bad_tab (bench_of 0 (0 ∷ []))
    ∷ bad_tab (table ++ (0 ∷ []))
    ∷ bad_tab (table ++ (0 ∷ 0 ∷ 0 ∷ []))
    ∷ good_tab (table ++ free)
    ∷ bad_tab (take 55 table)
    -- R11: the largest L, wherever it stands, and whether or not that type has a segment
    ∷ table_is three_lengths (table_of 5 0 []) Blank
    ∷ table_is three_lengths (table_of 3 0 []) TX
    ∷ table_is three_lengths (table_of 4 0 []) TX
    ∷ table_is three_lengths (table_of 5 1 (1 ∷ ascii "ab" ++ (0 ∷ 0 ∷ []))) Blank
    -- R12: the largest room
    ∷ table_is (field_catalogue 0) (table_of 2 0 (replicate 8192 0)) Blank
    ∷ table_is (field_catalogue 0) (table_of 2 0 (replicate 8194 0)) TX
    -- R13: each byte after L, in each cell
    ∷ table_is three_lengths (table_of 5 1 (1 ∷ ascii "ab" ++ (1 ∷ 0 ∷ []))) TX
    ∷ table_is three_lengths (table_of 5 1 (1 ∷ ascii "ab" ++ (0 ∷ 1 ∷ []))) TX
    ∷ table_is three_lengths (table_of 5 2 (1 ∷ ascii "ab" ++ (0 ∷ 0 ∷ []) ++ (1 ∷ ascii "ab" ++ (1 ∷ 0 ∷ [])))) TX
    ∷ table_is three_lengths (table_of 5 2 (1 ∷ ascii "ab" ++ (1 ∷ 0 ∷ []) ++ (1 ∷ ascii "ab" ++ (0 ∷ 0 ∷ [])))) TX
    -- a type that is none: 0, or above T (the bytes of an entry 5 would be those of field 1, a child of type 1)
    ∷ bad_tab (bench_of 2 (unit "07A" ++ free))
    ∷ bad_tab (bench_of 2 (unit "07A" ++ (5 ∷ ascii "n" ++ (0 ∷ 0 ∷ []))))
    ∷ bad_tab (bench_of 1 free)
    -- R13, free cells: the first byte after the cells and the last of all
    ∷ bad_tab (bench_of 1 (unit "07A" ++ unit "08A"))
    ∷ bad_tab (bench_of 1 (unit "07A" ++ (1 ∷ 0 ∷ 0 ∷ 0 ∷ []) ++ free))
    ∷ bad_tab (bench_of 1 (unit "07A" ++ free ++ (0 ∷ 0 ∷ 0 ∷ 1 ∷ [])))
    ∷ bad_tab (bench_of 0 (0 ∷ 0 ∷ 0 ∷ 1 ∷ []))
    -- R14: the top
    ∷ bad_tab (bench_of 1 (step "13P"))
    ∷ bad_tab (bench_of 1 (note "n"))
    ∷ bad_tab (bench_of 2 (step "13P" ++ unit "07A"))
    ∷ good_tab (bench_of 2 (unit "07A" ++ unit "08A"))
    -- R14: no level is skipped, no other type's child stands there
    ∷ bad_tab (bench_of 2 (unit "07A" ++ try "P1"))
    ∷ bad_tab (bench_of 3 (unit "07A" ++ note "n" ++ try "P1"))
    ∷ good_tab (bench_of 3 (unit "07A" ++ step "13P" ++ try "P1"))
    -- R14: child types by their codes, one group of each
    ∷ good_tab (bench_of 3 (unit "07A" ++ step "13P" ++ note "n"))
    ∷ bad_tab (bench_of 3 (unit "07A" ++ note "n" ++ step "13P"))
    ∷ bad_tab (bench_of 4 (unit "07A" ++ step "13P" ++ note "n" ++ step "14P"))
    -- R15, unique keys: equal, descending, with cells beneath between them, and at the top
    ∷ bad_tab (bench_of 3 (unit "07A" ++ step "13P" ++ step "13Q"))
    ∷ bad_tab (bench_of 3 (unit "07A" ++ step "14P" ++ step "13P"))
    ∷ bad_tab (bench_of 4 (unit "07A" ++ step "14P" ++ try "P1" ++ step "13P"))
    ∷ bad_tab (bench_of 4 (unit "07A" ++ step "14P" ++ try "P1" ++ step "14Q"))
    ∷ bad_tab (bench_of 2 (unit "07A" ++ unit "07B"))
    ∷ bad_tab (bench_of 2 (unit "08A" ++ unit "07B"))
    ∷ bad_tab (bench_of 3 (unit "07A" ++ unit "09A" ++ unit "08A"))
    ∷ good_tab (bench_of 4 (unit "07A" ++ step "14P" ++ unit "08A" ++ step "13P"))
    -- R15, without a key
    ∷ good_tab (bench_of 4 (unit "07A" ++ note "n" ++ note "m" ++ note "m"))
    -- CX comes before TX
    ∷ table_is (deep_catalogue 16) (take 7 table) CX
    ∷ table_is [] [] CX
    -- every call checks the whole table, and TX changes nothing
    ∷ calls catalogue (set table 55 1) (position (upon 0) (parent 0) true) (
    gu [] (fills dots ∷ bytes (set table 55 1) ∷ refused_table)
    ∷ gn [] refused_table
    ∷ isrt (named 1) (ascii "08C") (bytes (set table 55 1) ∷ refused_table)
    ∷ repl (ascii "07Z") (bytes (set table 55 1) ∷ refused_table)
    ∷ dlet (bytes (set table 55 1) ∷ refused_table) ∷ [])
    ∷ calls catalogue (table ++ (0 ∷ [])) (position (upon 0) (parent 0) true) (repl (ascii "07Z") (bytes (table ++ (0 ∷ [])) ∷ refused_table) ∷ [])
    ∷ []

-- a slice of k bytes that the maker is lent
abbrev lent_slice : ℕ → Bytes
lent_slice k = replicate k 7

unfoldable pub maker_cases : List Case
maker_cases =
    -- every byte that the maker writes: M = 0, 1 and 3, C = 4; and C = 5
    makes catalogue (lent_slice 8) Blank (ascii "HDT" ++ (0 ∷ 1 ∷ 4 ∷ 0 ∷ 0 ∷ []))
    ∷ makes catalogue (lent_slice 12) Blank (ascii "HDT" ++ (0 ∷ 1 ∷ 4 ∷ 0 ∷ 0 ∷ 0 ∷ 0 ∷ 0 ∷ 0 ∷ []))
    ∷ makes catalogue (lent_slice 20) Blank (ascii "HDT" ++ (0 ∷ 1 ∷ 4 ∷ 0 ∷ 0 ∷ []) ++ free ++ free ++ free)
    ∷ makes three_lengths (lent_slice 13) Blank (ascii "HDT" ++ (0 ∷ 1 ∷ 5 ∷ 0 ∷ 0 ∷ 0 ∷ 0 ∷ 0 ∷ 0 ∷ 0 ∷ []))
    -- a table that was there is written over
    ∷ makes catalogue table Blank (ascii "HDT" ++ (0 ∷ 1 ∷ 4 ∷ 0 ∷ 0 ∷ []) ++ replicate 48 0)
    -- what it made is a good_tab table of no cells
    ∷ calls catalogue (ascii "HDT" ++ (0 ∷ 1 ∷ 4 ∷ 0 ∷ 0 ∷ []) ++ free) (position (gap 0) None false) (gn [] (gives GB ∷ []) ∷ [])
    -- TX: no M fits, and nothing is written
    ∷ makes catalogue [] TX []
    ∷ makes catalogue (lent_slice 7) TX (lent_slice 7)
    ∷ makes catalogue (lent_slice 9) TX (lent_slice 9)
    ∷ makes catalogue (lent_slice 11) TX (lent_slice 11)
    ∷ makes catalogue (lent_slice 15) TX (lent_slice 15)
    ∷ makes (field_catalogue 0) (lent_slice 8202) TX (lent_slice 8202)
    -- CX, and nothing is written, whatever the length
    ∷ makes (deep_catalogue 16) (lent_slice 10) CX (lent_slice 10)
    ∷ makes (deep_catalogue 16) (lent_slice 7) CX (lent_slice 7)
    ∷ makes (set catalogue 7 1) (lent_slice 9) CX (lent_slice 9)
    ∷ makes [] [] CX []
    ∷ []
