-- The catalogue, rule by rule (R2 to R8, R86): the bench catalogue with a byte changed, and what the check answers. The claim is in proofs/Bench.antt.
-- Assumes nothing: these are definitions.
use Rattle.std.specs.Prelude.{List, [], ◌∷◌, ◌++◌, ℕ, zero, suc, set, take}
use Rattle.terms.specs.declared.Status.TheVariants.{Blank, CX}
use Rattle.rules.specs.Block.{Bytes}
use Rattle.rules.specs.Cases.Bench.{catalogue}
use Rattle.rules.specs.Cases.{Case, catalogue_is}
use Rattle.rules.specs.Cases.Further.{deep_catalogue}

-- the bench catalogue with v for byte i: type k begins at byte 8k, field f at byte 36 + 4f
abbrev pub with_byte : ℕ → ℕ → Bytes
with_byte i v = set catalogue i v

-- a root and k types right beneath it
abbrev pub beneath_root : ℕ → Bytes
beneath_root zero = []
beneath_root (suc k) = 1 ∷ 1 ∷ 0 ∷ 0 ∷ 0 ∷ 0 ∷ 0 ∷ 0 ∷ beneath_root k

abbrev pub wide_catalogue : ℕ → Bytes
wide_catalogue k = 0x48 ∷ 0x44 ∷ 0x43 ∷ 0 ∷ 1 ∷ suc k ∷ 0 ∷ 0 ∷ 0 ∷ 1 ∷ 0 ∷ 0 ∷ 0 ∷ 0 ∷ 0 ∷ 0 ∷ beneath_root k

-- the bench catalogue with a key of type 1, and with a field 1, over its first n of 17 bytes and of value type w
abbrev long_key : ℕ → ℕ → Bytes
long_key n w = set (set (with_byte 9 17) 12 n) 15 w

abbrev long_field : ℕ → ℕ → Bytes
long_field n w = set (set (with_byte 9 17) 42 n) 43 w

-- one type with n fields, all of them its first byte
abbrev pub first_bytes : ℕ → Bytes
first_bytes zero = []
first_bytes (suc n) = 1 ∷ 1 ∷ 1 ∷ 0 ∷ first_bytes n

abbrev pub field_catalogue : ℕ → Bytes
field_catalogue n = 0x48 ∷ 0x44 ∷ 0x43 ∷ 0 ∷ 1 ∷ 1 ∷ n ∷ 0 ∷ 0 ∷ 1 ∷ 0 ∷ 0 ∷ 0 ∷ 0 ∷ 0 ∷ 0 ∷ first_bytes n

unfoldable pub ruled : List Case
ruled =
    -- mark, version
    catalogue_is (with_byte 0 0x68) CX
    ∷ catalogue_is (with_byte 1 0x45) CX
    ∷ catalogue_is (with_byte 2 0x54) CX
    ∷ catalogue_is (with_byte 3 1) CX
    ∷ catalogue_is (with_byte 4 2) CX
    ∷ catalogue_is (with_byte 4 0) CX
    ∷ catalogue_is (set (with_byte 3 1) 4 0) CX
    -- byte 7 is zero, and no byte is left over or missing
    ∷ catalogue_is (with_byte 7 1) CX
    ∷ catalogue_is (catalogue ++ (0 ∷ [])) CX
    ∷ catalogue_is (take 55 catalogue) CX
    ∷ catalogue_is (take 7 catalogue) CX
    ∷ catalogue_is [] CX
    ∷ catalogue_is (with_byte 6 5) CX
    ∷ catalogue_is (with_byte 5 5) CX
    -- L is 1 to 120
    ∷ catalogue_is (with_byte 33 0) CX
    ∷ catalogue_is (with_byte 33 120) Blank
    ∷ catalogue_is (with_byte 33 121) CX
    -- the key kind is 0 to 2, and kind 0 has zeros
    ∷ catalogue_is (with_byte 10 2) Blank
    ∷ catalogue_is (with_byte 10 3) CX
    ∷ catalogue_is (with_byte 35 1) CX
    ∷ catalogue_is (with_byte 36 1) CX
    -- R5: spans at both borders of the data; and 255 + 2 - 1 is not 0
    ∷ catalogue_is (with_byte 11 0) CX
    ∷ catalogue_is (with_byte 12 0) CX
    ∷ catalogue_is (with_byte 11 2) Blank
    ∷ catalogue_is (with_byte 11 3) CX
    ∷ catalogue_is (with_byte 11 255) CX
    ∷ catalogue_is (with_byte 12 255) CX
    ∷ catalogue_is (with_byte 12 3) Blank
    ∷ catalogue_is (with_byte 12 4) CX
    -- two zero bytes
    ∷ catalogue_is (with_byte 13 1) CX
    ∷ catalogue_is (with_byte 14 1) CX
    -- R86: the value type of a key is 0 or 1, and of no key 0; a packed one has at most 16 bytes
    ∷ catalogue_is (with_byte 15 1) Blank
    ∷ catalogue_is (with_byte 15 2) CX
    ∷ catalogue_is (with_byte 15 255) CX
    ∷ catalogue_is (with_byte 23 1) Blank
    ∷ catalogue_is (with_byte 39 1) CX
    ∷ catalogue_is (with_byte 39 2) CX
    ∷ catalogue_is (long_key 16 1) Blank
    ∷ catalogue_is (long_key 17 1) CX
    ∷ catalogue_is (long_key 17 0) Blank
    ∷ catalogue_is (long_key 18 0) CX
    -- a field's type is 1 to T, its start and length go by the L of that type
    ∷ catalogue_is (with_byte 40 0) CX
    ∷ catalogue_is (with_byte 48 5) CX
    ∷ catalogue_is (with_byte 49 2) Blank
    ∷ catalogue_is (with_byte 49 3) CX
    ∷ catalogue_is (with_byte 49 0) CX
    ∷ catalogue_is (with_byte 50 0) CX
    ∷ catalogue_is (with_byte 50 2) Blank
    ∷ catalogue_is (with_byte 50 3) CX
    -- R86: the value type of a field is 0 or 1, whatever its key has; a packed one has at most 16 bytes
    ∷ catalogue_is (with_byte 43 1) Blank
    ∷ catalogue_is (with_byte 43 2) CX
    ∷ catalogue_is (with_byte 51 1) Blank
    ∷ catalogue_is (with_byte 55 1) Blank
    ∷ catalogue_is (with_byte 55 255) CX
    ∷ catalogue_is (long_field 16 1) Blank
    ∷ catalogue_is (long_field 17 1) CX
    ∷ catalogue_is (long_field 17 0) Blank
    -- R7: which type has parent 0
    ∷ catalogue_is (with_byte 8 1) CX
    ∷ catalogue_is (with_byte 32 0) CX
    -- R7: the parent of type 4 may be 3 or one above it: type 2 no longer, where 3 hangs beneath 1
    ∷ catalogue_is (with_byte 32 3) Blank
    ∷ catalogue_is (with_byte 32 2) Blank
    ∷ catalogue_is (with_byte 32 4) CX
    ∷ catalogue_is (with_byte 16 3) CX
    ∷ catalogue_is (with_byte 16 0) CX
    ∷ catalogue_is (set (with_byte 24 1) 32 2) CX
    -- T is 1 to 32
    ∷ catalogue_is (deep_catalogue 0) CX
    ∷ catalogue_is (wide_catalogue 31) Blank
    ∷ catalogue_is (wide_catalogue 32) CX
    -- F is 0 to 64
    ∷ catalogue_is (field_catalogue 0) Blank
    ∷ catalogue_is (field_catalogue 64) Blank
    ∷ catalogue_is (field_catalogue 65) CX
    ∷ []
