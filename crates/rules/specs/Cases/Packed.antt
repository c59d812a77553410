-- Packed keys and fields in tables and calls (R86 to R91). The claims are in proofs/Cases.antt. Assumes nothing: these are definitions.
use Rattle.std.specs.Prelude.{List, [], ◌∷◌, ◌++◌, ℕ}
use Rattle.terms.specs.declared.Status.{Status}
use Rattle.terms.specs.declared.Status.TheVariants.{Blank, GE, TX, AC, AJ, AK, DA, II, FX, PD}
use Rattle.terms.specs.Moves.{fresh}
use Rattle.rules.specs.Block.{Bytes}
use Rattle.rules.specs.Cases.{Case, Step, Says, calls, catalogue_is, table_is, gives, place, leaves, contains, bytes, ascii, upon, table_of}
use Rattle.rules.specs.Cases.{gu, gn, gnp, ghu, isrt, repl}
use Rattle.rules.specs.Cases.Bench.{named}

-- a root of 4 bytes, with a unique packed key in bytes 1 and 2; beneath it type 2, with a multiple packed key in its first two bytes of 3, and type 3, with
-- a unique key of bytes, both its bytes. Fields: 1 the root's key, 2 the same bytes as bytes, 3 the root's bytes 3 and 4, packed, 4 the key of type 2, 5 the
-- key of type 3 as a packed number; C = 5
unfoldable pub torques : Bytes
torques =
    ascii "HDC" ++ (0 ∷ 1 ∷ 3 ∷ 5 ∷ 0
    ∷ 0 ∷ 4 ∷ 1 ∷ 1 ∷ 2 ∷ 0 ∷ 0 ∷ 1
    ∷ 1 ∷ 3 ∷ 2 ∷ 1 ∷ 2 ∷ 0 ∷ 0 ∷ 1
    ∷ 1 ∷ 2 ∷ 1 ∷ 1 ∷ 2 ∷ 0 ∷ 0 ∷ 0
    ∷ 1 ∷ 1 ∷ 2 ∷ 1
    ∷ 1 ∷ 1 ∷ 2 ∷ 0
    ∷ 1 ∷ 3 ∷ 2 ∷ 1
    ∷ 2 ∷ 1 ∷ 2 ∷ 1
    ∷ 3 ∷ 1 ∷ 2 ∷ 1 ∷ [])

-- roots -12, 12 and 102; beneath the first -0, +0 and 5, then 00 5C and "AB", which is no number; fields 3 are 1, no number, -2; one cell is free
unfoldable pub measured : Bytes
measured =
    table_of 5 8 (
    1 ∷ 0x01 ∷ 0x2D ∷ 0x00 ∷ 0x1C
    ∷ 2 ∷ 0x00 ∷ 0x0D ∷ 0x61 ∷ 0
    ∷ 2 ∷ 0x00 ∷ 0x0C ∷ 0x62 ∷ 0
    ∷ 2 ∷ 0x00 ∷ 0x5F ∷ 0x63 ∷ 0
    ∷ 3 ∷ 0x00 ∷ 0x5C ∷ 0 ∷ 0
    ∷ 3 ∷ 0x41 ∷ 0x42 ∷ 0 ∷ 0
    ∷ 1 ∷ 0x01 ∷ 0x2C ∷ 0x99 ∷ 0x99
    ∷ 1 ∷ 0x10 ∷ 0x2F ∷ 0x00 ∷ 0x2B
    ∷ 0 ∷ 0 ∷ 0 ∷ 0 ∷ 0 ∷ [])

-- a table of roots with these two keys, of one with this key, and of a root with two segments of type 2 beneath it
abbrev two_roots : ℕ → ℕ → ℕ → ℕ → Bytes
two_roots a b c d = table_of 5 2 (1 ∷ a ∷ b ∷ 0 ∷ 0 ∷ 1 ∷ c ∷ d ∷ 0 ∷ 0 ∷ [])

abbrev one_root : ℕ → ℕ → Bytes
one_root a b = table_of 5 1 (1 ∷ a ∷ b ∷ 0 ∷ 0 ∷ [])

abbrev two_beneath : ℕ → ℕ → ℕ → ℕ → Bytes
two_beneath a b c d = table_of 5 3 (1 ∷ 0 ∷ 0x0C ∷ 0 ∷ 0 ∷ 2 ∷ a ∷ b ∷ 0 ∷ 0 ∷ 2 ∷ c ∷ d ∷ 0 ∷ 0 ∷ [])

abbrev checked : Bytes → Status → Case
checked tab s = table_is torques tab s

unfoldable pub key_cases : List Case
key_cases =
    catalogue_is torques Blank
    ∷ checked measured Blank
    -- R89: a stored key that is no number, also of an only segment: sign 9, a digit A, in either half
    ∷ checked (one_root 0x01 0x2C) Blank
    ∷ checked (one_root 0x01 0x29) TX
    ∷ checked (one_root 0x0A 0x2C) TX
    ∷ checked (one_root 0xA0 0x2C) TX
    ∷ checked (one_root 0x01 0xAC) TX
    ∷ checked (two_beneath 0x00 0x0C 0x00 0x10) TX
    -- R88: unique keys ascend by value, whatever their bytes do; below zero the greater digits come first
    ∷ checked (two_roots 0x01 0x2D 0x01 0x2C) Blank
    ∷ checked (two_roots 0x01 0x2C 0x01 0x2D) TX
    ∷ checked (two_roots 0x02 0x0D 0x01 0x2D) Blank
    ∷ checked (two_roots 0x01 0x2D 0x02 0x0D) TX
    ∷ checked (two_roots 0x09 0x9C 0x10 0x0C) Blank
    -- one value in two forms is one unique key, and so are the zeros
    ∷ checked (two_roots 0x01 0x2C 0x01 0x2F) TX
    ∷ checked (two_roots 0x01 0x2F 0x01 0x2C) TX
    ∷ checked (two_roots 0x00 0x0D 0x00 0x0C) TX
    -- multiple keys never descend by value
    ∷ checked (two_beneath 0x00 0x0C 0x00 0x0D) Blank
    ∷ checked (two_beneath 0x01 0x2F 0x01 0x2C) Blank
    ∷ checked (two_beneath 0x00 0x1C 0x00 0x0D) TX
    ∷ checked (two_beneath 0x00 0x1D 0x00 0x2D) TX
    ∷ []

-- GN over and over finds these cells, then none
abbrev walk : Bytes → List ℕ → List Step
walk list [] = gn list (gives GE ∷ []) ∷ []
walk list (i ∷ is) = gn list (gives Blank ∷ place (upon i) ∷ []) ∷ walk list is

abbrev walks : Bytes → List ℕ → Case
walks list is = calls torques measured fresh (walk list is)

-- a field against two bytes; a list that is refused
abbrev test : ℕ → ℕ → ℕ → ℕ → ℕ → Bytes
test t o f a b = t ∷ o ∷ f ∷ a ∷ b ∷ []

abbrev refuses : Bytes → Status → Case
refuses list s = calls torques measured fresh (gn list (gives s ∷ bytes measured ∷ []) ∷ [])

unfoldable pub field_cases : List Case
field_cases =
    -- R88: the root's key against 12, in another form than stored
    walks (test 1 1 1 0x01 0x2F) (6 ∷ [])
    ∷ walks (test 1 2 1 0x01 0x2F) (0 ∷ 7 ∷ [])
    ∷ walks (test 1 3 1 0x01 0x2F) (0 ∷ [])
    ∷ walks (test 1 4 1 0x01 0x2F) (0 ∷ 6 ∷ [])
    ∷ walks (test 1 5 1 0x01 0x2F) (7 ∷ [])
    ∷ walks (test 1 6 1 0x01 0x2F) (6 ∷ 7 ∷ [])
    -- zero in any form
    ∷ walks (test 2 1 4 0x00 0x0B) (1 ∷ 2 ∷ [])
    ∷ walks (test 2 5 4 0x00 0x0D) (3 ∷ [])
    -- a field of bytes over a packed key compares bytes, a packed field over a key of bytes values
    ∷ walks (test 1 1 2 0x01 0x2F) []
    ∷ walks (test 1 5 2 0x01 0x2C) (0 ∷ 7 ∷ [])
    ∷ walks (test 1 1 2 0x01 0x29) []
    ∷ walks (test 3 1 5 0x00 0x5A) (4 ∷ [])
    -- R90: a field that holds no number satisfies no operator
    ∷ walks (test 3 2 5 0x00 0x5A) []
    ∷ walks (test 3 6 5 0x00 0x0C) (4 ∷ [])
    ∷ walks (test 1 1 3 0x00 0x2D) (7 ∷ [])
    ∷ walks (test 1 2 3 0x00 0x1C) (7 ∷ [])
    ∷ walks (test 1 4 3 0x99 0x9C) (0 ∷ 7 ∷ [])
    -- along the position and within a parent
    ∷ calls torques measured fresh (
    gu (test 1 1 1 0x01 0x2B ++ test 2 1 4 0x00 0x5C) (gives Blank ∷ place (upon 3) ∷ [])
    ∷ gu (test 1 1 1 0x01 0x2B) (gives Blank ∷ place (upon 0) ∷ [])
    ∷ gnp (test 2 6 4 0x00 0x1C) (gives Blank ∷ place (upon 3) ∷ []) ∷ [])
    -- R90: a value that is no number is AJ, when its argument is read, for every operator
    ∷ refuses (test 1 1 1 0x01 0x29) AJ
    ∷ refuses (test 1 2 1 0x0A 0x2C) AJ
    ∷ refuses (test 1 1 1 0x01 0x2C ++ test 2 1 4 0x01 0x23) AJ
    ∷ refuses (test 1 1 1 0x01 0x29 ++ named 9) AJ
    ∷ refuses (named 9 ++ test 1 1 1 0x01 0x29) AC
    -- the field is asked for first, and whether the value is whole
    ∷ refuses (test 1 1 4 0x01 0x29) AK
    ∷ refuses (1 ∷ 1 ∷ 1 ∷ 0x01 ∷ []) AJ
    ∷ []

-- an ISRT of a root with this key, and of a segment of type 2 beneath the root of this key
abbrev root : ℕ → ℕ → List Says → Step
root a b says = isrt (named 1) (a ∷ b ∷ 0x78 ∷ 0x79 ∷ []) says

abbrev under : ℕ → ℕ → ℕ → ℕ → List Says → Step
under a b c d says = isrt (test 1 1 1 a b ++ named 2) (c ∷ d ∷ 0x78 ∷ 0x79 ∷ []) says

abbrev inserts : Step → Case
inserts s = calls torques measured fresh (s ∷ [])

-- the same with no cell free
unfoldable pub all_measured : Bytes
all_measured = two_roots 0x01 0x2D 0x10 0x2C

unfoldable pub store_cases : List Case
store_cases =
    -- R88: a new root goes by its value: before all, between -12 and 12 with all beneath -12, behind all
    inserts (root 0x01 0x3D (gives Blank ∷ place (upon 0) ∷ contains 0 1 (0x01 ∷ 0x3D ∷ 0x78 ∷ 0x79 ∷ []) ∷ []))
    ∷ inserts (root 0x01 0x1B (gives Blank ∷ place (upon 6) ∷ []))
    ∷ inserts (root 0x00 0x0D (gives Blank ∷ place (upon 6) ∷ []))
    ∷ inserts (root 0x10 0x3C (gives Blank ∷ place (upon 8) ∷ leaves 9 ∷ []))
    -- behind all of smaller or equal value: -0 behind both zeros, 5 behind 5, -1 before them
    ∷ inserts (under 0x01 0x2D 0x00 0x0B (gives Blank ∷ place (upon 3) ∷ []))
    ∷ inserts (under 0x01 0x2D 0x00 0x5A (gives Blank ∷ place (upon 4) ∷ []))
    ∷ inserts (under 0x01 0x2B 0x00 0x1D (gives Blank ∷ place (upon 1) ∷ []))
    -- II goes by value, whatever the bytes
    ∷ inserts (root 0x01 0x2C (gives II ∷ bytes measured ∷ []))
    ∷ inserts (root 0x01 0x2F (gives II ∷ bytes measured ∷ []))
    ∷ inserts (root 0x01 0x2B (gives II ∷ []))
    -- R91: PD; also where the key would be taken, which 0A 2C would be by 10 2F, and where no cell is free
    ∷ inserts (root 0x01 0x29 (gives PD ∷ bytes measured ∷ []))
    ∷ inserts (root 0x0A 0x2C (gives PD ∷ bytes measured ∷ []))
    ∷ inserts (under 0x01 0x2D 0xA0 0x0C (gives PD ∷ []))
    ∷ calls torques all_measured fresh (root 0x01 0x23 (gives PD ∷ []) ∷ root 0x01 0x2C (gives FX ∷ []) ∷ [])
    -- behind GE; a key of bytes is never one
    ∷ inserts (under 0x05 0x0C 0x01 0x29 (gives GE ∷ []))
    ∷ inserts (isrt (test 1 1 1 0x01 0x2D ++ named 3) (ascii "AC..") (gives Blank ∷ place (upon 6) ∷ []))
    -- DA looks at bytes; into a packed field that is no key anything goes
    ∷ calls torques measured fresh (
    ghu (test 1 1 1 0x01 0x2C) (gives Blank ∷ place (upon 6) ∷ [])
    ∷ repl (0x01 ∷ 0x2F ∷ 0x00 ∷ 0x1C ∷ []) (gives DA ∷ bytes measured ∷ [])
    ∷ repl (0x01 ∷ 0x2C ∷ 0xAA ∷ 0xAA ∷ []) (gives Blank ∷ contains 6 1 (0x01 ∷ 0x2C ∷ 0xAA ∷ 0xAA ∷ []) ∷ [])
    ∷ gn (test 1 2 3 0x00 0x1C) (gives Blank ∷ place (upon 7) ∷ []) ∷ [])
    ∷ []
