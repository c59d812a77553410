-- R16 and R25: the six operators on both sides of equality and at it, and keys and fields that do not begin at byte 1. The claim is in proofs/Cases.antt.
-- Assumes nothing: these are definitions.
use Rattle.std.specs.Prelude.{true, List, [], ◌∷◌, ◌++◌, ℕ}
use Rattle.terms.specs.declared.Status.TheVariants.{Blank, GE, TX, DA, II}
use Rattle.terms.specs.Moves.{fresh}
use Rattle.rules.specs.Block.{Bytes}
use Rattle.rules.specs.Cases.{Case, Step, calls, catalogue_is, table_is, gives, place, leaves, contains, bytes, ascii, upon, parent, position}
use Rattle.rules.specs.Cases.{table_of, gu, gn, isrt, repl}
use Rattle.rules.specs.Cases.Bench.{named}

-- one type of 4 bytes, with a unique key in bytes 2 and 3; fields 1 (the key), 2 (byte 4) and 3 (byte 1); C = 5
unfoldable pub apart : Bytes
apart = ascii "HDC" ++ (0 ∷ 1 ∷ 1 ∷ 3 ∷ 0 ∷ 0 ∷ 4 ∷ 1 ∷ 2 ∷ 2 ∷ 0 ∷ 0 ∷ 0 ∷ 1 ∷ 2 ∷ 2 ∷ 0 ∷ 1 ∷ 4 ∷ 1 ∷ 0 ∷ 1 ∷ 1 ∷ 1 ∷ 0 ∷ [])

-- a segment of it: byte 1, the two bytes of the key, byte 4
abbrev pub keyed : ℕ → ℕ → ℕ → ℕ → Bytes
keyed a k l b = a ∷ k ∷ l ∷ b ∷ []

-- keys 41 5A, 7F 01, 7F 80, 7F FF and 80 00 ascend; bytes 1 do not, nor do the second bytes of the keys
unfoldable pub five_keys : Bytes
five_keys =
    table_of 5 5 (
    1 ∷ keyed 0x39 0x41 0x5A 0x61 ++ (1 ∷ keyed 0x31 0x7F 0x01 0x62) ++ (1 ∷ keyed 0x35 0x7F 0x80 0x61)
    ++ (1 ∷ keyed 0x33 0x7F 0xFF 0x63) ++ (1 ∷ keyed 0x30 0x80 0x00 0x62) ++ (0 ∷ 0 ∷ 0 ∷ 0 ∷ 0 ∷ []))

-- one type of 3 bytes, with a multiple key in byte 2; C = 4
unfoldable pub several : Bytes
several = ascii "HDC" ++ (0 ∷ 1 ∷ 1 ∷ 0 ∷ 0 ∷ 0 ∷ 3 ∷ 2 ∷ 2 ∷ 1 ∷ 0 ∷ 0 ∷ 0 ∷ [])

-- two of its segments, and room for one more
abbrev two_of : Bytes → Bytes → Bytes
two_of a b = table_of 4 2 (1 ∷ a ++ (1 ∷ b) ++ (0 ∷ 0 ∷ 0 ∷ 0 ∷ []))

-- the key field against 7F 80 by an operator; GN over and over finds these cells, then none
abbrev against : ℕ → Bytes
against o = 1 ∷ o ∷ 1 ∷ 0x7F ∷ 0x80 ∷ []

abbrev walk : Bytes → List ℕ → List Step
walk list [] = gn list (gives GE ∷ []) ∷ []
walk list (i ∷ is) = gn list (gives Blank ∷ place (upon i) ∷ []) ∷ walk list is

abbrev walks : Bytes → List ℕ → Case
walks list is = calls apart five_keys fresh (walk list is)

-- held on cell 2, whose key is 7F 80
abbrev replaces : Bytes → List Step
replaces area = repl area (gives Blank ∷ contains 2 1 area ∷ []) ∷ []

unfoldable pub comparison_cases : List Case
comparison_cases =
    catalogue_is apart Blank
    ∷ catalogue_is several Blank
    -- 1 =, 2 ≠, 3 <, 4 ≤, 5 >, 6 ≥
    ∷ walks (against 1) (2 ∷ [])
    ∷ walks (against 2) (0 ∷ 1 ∷ 3 ∷ 4 ∷ [])
    ∷ walks (against 3) (0 ∷ 1 ∷ [])
    ∷ walks (against 4) (0 ∷ 1 ∷ 2 ∷ [])
    ∷ walks (against 5) (3 ∷ 4 ∷ [])
    ∷ walks (against 6) (2 ∷ 3 ∷ 4 ∷ [])
    -- R25, the field on the left: fields < "2" are "1" and "0"
    ∷ walks (1 ∷ 3 ∷ 3 ∷ ascii "2") (1 ∷ 4 ∷ [])
    ∷ walks (1 ∷ 5 ∷ 3 ∷ ascii "5") (0 ∷ [])
    -- each field at its own start: byte 4, byte 1
    ∷ walks (1 ∷ 1 ∷ 2 ∷ ascii "b") (1 ∷ 4 ∷ [])
    ∷ walks (1 ∷ 1 ∷ 3 ∷ ascii "3") (3 ∷ [])
    -- by key: the field that is the key
    ∷ calls apart five_keys fresh (gu (1 ∷ 1 ∷ 1 ∷ 0x80 ∷ 0 ∷ []) (gives Blank ∷ place (upon 4) ∷ []) ∷ [])
    -- the new one goes by its key, whatever its other bytes: between 7F 01 and 7F 80, before all, behind all
    ∷ calls apart five_keys fresh (isrt (named 1) (keyed 0x30 0x7F 0x02 0x30) (gives Blank ∷ place (upon 2) ∷ leaves 6 ∷ []) ∷ [])
    ∷ calls apart five_keys fresh (isrt (named 1) (keyed 0x7A 0x41 0x59 0x7A) (gives Blank ∷ place (upon 0) ∷ []) ∷ [])
    ∷ calls apart five_keys fresh (isrt (named 1) (keyed 0x00 0x80 0x01 0x00) (gives Blank ∷ place (upon 5) ∷ []) ∷ [])
    -- II goes by the key alone
    ∷ calls apart five_keys fresh (isrt (named 1) (keyed 0x7A 0x7F 0x80 0x7A) (gives II ∷ leaves 5 ∷ []) ∷ [])
    ∷ calls apart five_keys fresh (isrt (named 1) (keyed 0x35 0x80 0x7F 0x61) (gives Blank ∷ place (upon 5) ∷ []) ∷ [])
    -- DA (R58): the first byte of the key or the last, and no other byte
    ∷ calls apart five_keys (position (upon 2) (parent 2) true) (replaces (keyed 0x00 0x7F 0x80 0x7A))
    ∷ calls apart five_keys (position (upon 2) (parent 2) true) (replaces (keyed 0x35 0x7F 0x80 0x61))
    ∷ calls apart five_keys (position (upon 2) (parent 2) true) (repl (keyed 0x35 0x7F 0x81 0x61) (gives DA ∷ bytes five_keys ∷ []) ∷ [])
    ∷ calls apart five_keys (position (upon 2) (parent 2) true) (repl (keyed 0x35 0x7E 0x80 0x61) (gives DA ∷ bytes five_keys ∷ []) ∷ [])
    -- twins by a key that does not begin at byte 1: unique keys ascend strictly, multiple ones never descend
    ∷ table_is apart five_keys Blank
    ∷ table_is apart (table_of 5 2 (1 ∷ keyed 1 5 5 1 ++ (1 ∷ keyed 2 5 4 2))) TX
    ∷ table_is apart (table_of 5 2 (1 ∷ keyed 1 5 5 1 ++ (1 ∷ keyed 2 5 5 2))) TX
    ∷ table_is apart (table_of 5 2 (1 ∷ keyed 2 5 5 2 ++ (1 ∷ keyed 1 5 6 1))) Blank
    ∷ table_is several (two_of (ascii "2a2") (ascii "1a1")) Blank
    ∷ table_is several (two_of (ascii "2a2") (ascii "1b1")) Blank
    ∷ table_is several (two_of (ascii "1b1") (ascii "2a2")) TX
    -- a multiple key: behind its equals, never II, and DA when it changes
    ∷ calls several (two_of (ascii "2a2") (ascii "1b1")) fresh (
    isrt (named 1) (ascii "0a0") (gives Blank ∷ place (upon 1) ∷ bytes (table_of 4 3 (ascii "\u{1}2a2\u{1}0a0\u{1}1b1")) ∷ []) ∷ [])
    ∷ calls several (two_of (ascii "2a2") (ascii "1b1")) fresh (isrt (named 1) (ascii "2b2") (gives Blank ∷ place (upon 2) ∷ []) ∷ [])
    ∷ calls several (two_of (ascii "2a2") (ascii "1b1")) (position (upon 0) (parent 0) true) (repl (ascii "2b2") (gives DA ∷ []) ∷ [])
    ∷ calls several (two_of (ascii "2a2") (ascii "1b1")) (position (upon 0) (parent 0) true) (
    repl (ascii "3a3") (gives Blank ∷ contains 0 1 (ascii "3a3") ∷ []) ∷ [])
    ∷ []
