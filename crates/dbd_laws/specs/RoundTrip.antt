-- What holds of the reader and the writer together (R84), as statements. Assumes nothing: these are definitions.
use Rattle.std.specs.Prelude.{◌≡◌, true, false, None, Some}
use Rattle.rules.specs.Block.{Bytes}
use Rattle.rules.specs.Catalogue.{types, fields, good_catalogue}
use Rattle.statements.specs.Dbd.{Reading, dbd_read, could_give, dbd_write}

-- whatever the reader gives is a catalogue that the check accepts
abbrev pub GivesGood : Type 0
GivesGood = (text : Bytes) → (dbd_read text).fault ≡ 0 → good_catalogue (dbd_read text).catalogue ≡ true

-- the writer accepts every pair that the reader gives
abbrev pub AcceptsGiven : Type 0
AcceptsGiven = (text : Bytes) → (dbd_read text).fault ≡ 0 → could_give (dbd_read text).catalogue (dbd_read text).names ≡ true

-- a pair and how many types and fields it has, as the reader gives it
abbrev pub given : Bytes → Bytes → Reading
given cat names = record { fault = 0; line = 0; types = types cat; fields = fields cat; catalogue = cat; names = names }

-- what was written is read as the same pair
abbrev pub ReadsBack : Type 0
ReadsBack = (cat names text : Bytes) → dbd_write cat names ≡ Some text → dbd_read text ≡ given cat names

-- a pair that the writer refuses is read from no text
abbrev pub RefusesRest : Type 0
RefusesRest = (cat names : Bytes) → dbd_write cat names ≡ None → (text : Bytes) → dbd_read text ≡ given cat names → false ≡ true

-- what was written, read and written again is the same text
abbrev pub WritesAgain : Type 0
WritesAgain = (cat names text : Bytes) → dbd_write cat names ≡ Some text → dbd_write (dbd_read text).catalogue (dbd_read text).names ≡ Some text
