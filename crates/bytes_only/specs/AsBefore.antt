-- A catalogue whose value types are all bytes, the catalogues of before there were others, answers every call, check, maker and listing as it did then, in
-- every byte. Assumes nothing: these are definitions, and the proof is in proofs/.
use Rattle.std.specs.Prelude.{◌≡◌, Bool, true, ◌&&◌, ℕ, eqb}
use Rattle.terms.specs.declared.Position.{Position}
use Rattle.terms.specs.Names.{code, field}
use Rattle.forest.specs.Numbers.{range}
use Rattle.rules.specs.Block.{Bytes, every}
use Rattle.rules.specs.Catalogue.{types, fields, key_value, field_value, good_catalogue}
use Rattle.rules.specs.Outcome.{outcome, sound_outcome, check_catalogue, check_table, make_status, made_table}
use Rattle.rules.specs.Listing.{listing_text}
use Rattle.bytes_only.specs.Before as Before

-- R86: each key and each field has value type 0
unfoldable pub bytes_only : Bytes → Bool
bytes_only cat =
    every (λ k. eqb (key_value cat (code k)) 0) (range 1 (types cat)) && every (λ f. eqb (field_value cat (field f)) 0) (range 1 (fields cat))

-- what was a good catalogue is one now, and the others that are have a value type that is not bytes
abbrev pub CataloguesOfBefore : Type 0
CataloguesOfBefore = (cat : Bytes) → Before.good_catalogue cat ≡ (good_catalogue cat && bytes_only cat)

-- a call: what is answered, and each byte of table and area afterwards
abbrev pub OutcomeAsBefore : Type 0
OutcomeAsBefore =
    (cat tab : Bytes) (pos : Position) (c : ℕ) (list area : Bytes) → bytes_only cat ≡ true
    → outcome cat tab pos c list area ≡ Before.outcome cat tab pos c list area

-- the same to a caller whose catalogue was checked
abbrev pub SoundOutcomeAsBefore : Type 0
SoundOutcomeAsBefore =
    (cat tab : Bytes) (pos : Position) (c : ℕ) (list area : Bytes) → bytes_only cat ≡ true → good_catalogue cat ≡ true
    → sound_outcome cat tab pos c list area ≡ Before.sound_outcome cat tab pos c list area

-- the two checks
abbrev pub CatalogueCheckedAsBefore : Type 0
CatalogueCheckedAsBefore = (cat : Bytes) → bytes_only cat ≡ true → check_catalogue cat ≡ Before.check_catalogue cat

abbrev pub TableCheckedAsBefore : Type 0
TableCheckedAsBefore = (cat tab : Bytes) → bytes_only cat ≡ true → check_table cat tab ≡ Before.check_table cat tab

-- the maker: its answer, and what it writes
abbrev pub MakerAsBefore : Type 0
MakerAsBefore =
    (cat tab : Bytes) → bytes_only cat ≡ true
    → (make_status cat tab ≡ Before.make_status cat tab) × (made_table cat tab ≡ Before.made_table cat tab)

-- the listing program's output
abbrev pub ListingAsBefore : Type 0
ListingAsBefore = (cat tab : Bytes) → bytes_only cat ≡ true → listing_text cat tab ≡ Before.listing_text cat tab
