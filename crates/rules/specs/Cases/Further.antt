-- Cases beside B1 to B10: the borders of rooms and levels, and wrong turns that the bench table does not show. The claim is in proofs/Bench.antt.
-- Assumes nothing: these are definitions.
use Rattle.std.specs.Prelude.{true, false, List, [], ◌∷◌, ℕ, zero, suc}
use Rattle.terms.specs.declared.Status.TheVariants.{Blank, GK, GE, CX, TX, AC, DJ, II, FX}
use Rattle.terms.specs.Moves.{fresh}
use Rattle.rules.specs.Block.{Bytes}
use Rattle.rules.specs.Table.{table_bytes}
use Rattle.rules.specs.Cases.{Case, calls, catalogue_is, table_is, gives, place, held, leaves, shows, contains, ascii, upon}
use Rattle.rules.specs.Cases.{gn, gnp, ghu, ghnp, isrt, dlet}
use Rattle.rules.specs.Cases.Bench.{catalogue, table, on_cell, named}

-- a row of k types from type u on, each beneath the one before: as many levels
abbrev pub types_from : ℕ → ℕ → Bytes
types_from u zero = []
types_from u (suc k) = u ∷ 1 ∷ 0 ∷ 0 ∷ 0 ∷ 0 ∷ 0 ∷ 0 ∷ types_from (suc u) k

abbrev pub deep_catalogue : ℕ → Bytes
deep_catalogue k = 0x48 ∷ 0x44 ∷ 0x43 ∷ 0 ∷ 1 ∷ k ∷ 0 ∷ 0 ∷ types_from 0 k

-- one type with a multiple key in its first byte, and two segments
unfoldable pub multiple : Bytes
multiple = 0x48 ∷ 0x44 ∷ 0x43 ∷ 0 ∷ 1 ∷ 1 ∷ 0 ∷ 0 ∷ 0 ∷ 2 ∷ 2 ∷ 1 ∷ 1 ∷ 0 ∷ 0 ∷ 0 ∷ []

unfoldable pub two_segments : Bytes
two_segments = 0x48 ∷ 0x44 ∷ 0x54 ∷ 0 ∷ 1 ∷ 3 ∷ 0 ∷ 2 ∷ 1 ∷ 0x61 ∷ 0x31 ∷ 1 ∷ 0x62 ∷ 0x31 ∷ 0 ∷ 0 ∷ 0 ∷ []

-- a unit with eleven notes: n = M = 12
unfoldable pub full : Bytes
full =
    0x48 ∷ 0x44 ∷ 0x54 ∷ 0 ∷ 1 ∷ 4 ∷ 0 ∷ 12 ∷ 1 ∷ 0x30 ∷ 0x37 ∷ 0x41
    ∷ 4 ∷ 0x61 ∷ 0 ∷ 0 ∷ 4 ∷ 0x62 ∷ 0 ∷ 0 ∷ 4 ∷ 0x63 ∷ 0 ∷ 0 ∷ 4 ∷ 0x64 ∷ 0 ∷ 0 ∷ 4 ∷ 0x65 ∷ 0 ∷ 0 ∷ 4 ∷ 0x66 ∷ 0 ∷ 0
    ∷ 4 ∷ 0x67 ∷ 0 ∷ 0 ∷ 4 ∷ 0x68 ∷ 0 ∷ 0 ∷ 4 ∷ 0x69 ∷ 0 ∷ 0 ∷ 4 ∷ 0x6A ∷ 0 ∷ 0 ∷ 4 ∷ 0x6B ∷ 0 ∷ 0 ∷ []

-- a unit, a step and a note
unfoldable pub step_note : Bytes
step_note = 0x48 ∷ 0x44 ∷ 0x54 ∷ 0 ∷ 1 ∷ 4 ∷ 0 ∷ 3 ∷ 1 ∷ 0x30 ∷ 0x37 ∷ 0x41 ∷ 2 ∷ 0x31 ∷ 0x33 ∷ 0x50 ∷ 4 ∷ 0x6E ∷ 0 ∷ 0 ∷ []

-- the bench table with two steps of one key under a unit, with a byte after L, and with a byte in a free cell
unfoldable pub same_keys : Bytes
same_keys = 0x48 ∷ 0x44 ∷ 0x54 ∷ 0 ∷ 1 ∷ 4 ∷ 0 ∷ 3 ∷ 1 ∷ 0x30 ∷ 0x37 ∷ 0x41 ∷ 2 ∷ 0x31 ∷ 0x33 ∷ 0x50 ∷ 2 ∷ 0x31 ∷ 0x33 ∷ 0x51 ∷ []

unfoldable pub past_data : Bytes
past_data = 0x48 ∷ 0x44 ∷ 0x54 ∷ 0 ∷ 1 ∷ 4 ∷ 0 ∷ 2 ∷ 1 ∷ 0x30 ∷ 0x37 ∷ 0x41 ∷ 4 ∷ 0x6E ∷ 0 ∷ 1 ∷ []

unfoldable pub not_free : Bytes
not_free = 0x48 ∷ 0x44 ∷ 0x54 ∷ 0 ∷ 1 ∷ 4 ∷ 0 ∷ 1 ∷ 1 ∷ 0x30 ∷ 0x37 ∷ 0x41 ∷ 0 ∷ 0 ∷ 0 ∷ 1 ∷ []

unfoldable pub further : List Case
further =
    -- the bench blocks are good
    catalogue_is catalogue Blank
    ∷ table_is catalogue table Blank
    -- R8: the deepest level
    ∷ catalogue_is (deep_catalogue 15) Blank
    ∷ catalogue_is (deep_catalogue 16) CX
    -- tables that the check refuses: equal unique keys, a byte after L, a byte in a free cell, and any table on a bad catalogue
    ∷ table_is catalogue same_keys TX
    ∷ table_is catalogue past_data TX
    ∷ table_is catalogue not_free TX
    ∷ table_is (deep_catalogue 16) table CX
    -- FX in a table without a cell
    ∷ calls catalogue (table_bytes catalogue 0 []) fresh (isrt (named 1) (ascii "08C") (gives FX ∷ []) ∷ [])
    -- a full table: after a DLET there is room for an ISRT
    ∷ calls catalogue full fresh (
    isrt (named 4) (ascii "z..") (gives FX ∷ leaves 12 ∷ [])
    ∷ ghu (named 4) (gives Blank ∷ place (upon 1) ∷ held true ∷ [])
    ∷ dlet (gives Blank ∷ leaves 11 ∷ held false ∷ [])
    ∷ isrt (named 4) (ascii "z..") (gives Blank ∷ place (upon 11) ∷ leaves 12 ∷ contains 11 4 (ascii "z") ∷ []) ∷ [])
    -- II comes before FX: a taken key in a full table
    ∷ calls catalogue full fresh (isrt (named 1) (ascii "07B") (gives II ∷ leaves 12 ∷ []) ∷ [])
    -- list faults come before AB: a type that is none, with no area
    ∷ calls catalogue table fresh (record { call = 2; list = named 9; area = []; says = gives AC ∷ [] } ∷ [])
    -- a multiple key goes behind its equals
    ∷ calls multiple two_segments fresh (
    isrt (named 1) (ascii "a2") (gives Blank ∷ place (upon 1) ∷ leaves 3 ∷ contains 0 1 (ascii "a1") ∷ contains 1 1 (ascii "a2") ∷ []) ∷ [])
    -- GK: a note behind a step
    ∷ calls catalogue step_note (on_cell 1) (gn [] (gives GK ∷ place (upon 2) ∷ []) ∷ [])
    -- GNP ends with its parent, and a GE drops the hold
    ∷ calls catalogue table (on_cell 1) (
    ghnp (named 3) (gives Blank ∷ place (upon 2) ∷ held true ∷ [])
    ∷ gnp (named 3) (gives GE ∷ place (upon 2) ∷ held false ∷ [])
    ∷ dlet (gives DJ ∷ leaves 9 ∷ []) ∷ [])
    -- a get writes L bytes and no more
    ∷ calls catalogue table (on_cell 5) (gn [] (place (upon 6) ∷ shows (ascii "n....") ∷ []) ∷ [])
    ∷ []
