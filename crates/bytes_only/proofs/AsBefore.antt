-- A catalogue of bytes alone answers as before: calls, checks, the maker and the listing. Assumes nothing.
use mathlib.Core.Path.{◌≡◌, refl, ap, ◌∙◌, fun_ext}
use mathlib.Core.Bool.{true, false}
use mathlib.Core.List.{List, [], ◌++◌}
use Prim.Native.Nat.{ℕ, zero, suc}
use lib.Dec.{leb, eqb}
use lib.ListN.{length, replicate}
use Rattle.terms.specs.declared.Position.{Position}
use Rattle.terms.specs.declared.Argument.{Argument}
use Rattle.terms.specs.declared.Status.TheVariants.{CX}
use Rattle.terms.specs.Names.{code}
use Rattle.terms.specs.Moves.{fresh}
use Rattle.terms.specs.Statuses.{number}
use Rattle.forest.specs.Good.{on, off, is}
use Rattle.forest.specs.Numbers.{range}
use Rattle.rules.specs.Block.{Bytes, byte, every, marked}
use Rattle.rules.specs.Catalogue.{types, fields, type_byte, key_value, good_type, good_field, good_header, good_catalogue}
use Rattle.rules.specs.Table.{count, room, listing}
use Rattle.rules.specs.Arguments.{last_argument}
use Rattle.rules.specs.Calls.{called}
use Rattle.rules.specs.Outcome.{Outcome, unsound, misused, unless, after_sound, after_call, outcome_of, outcome, sound_outcome}
use Rattle.rules.specs.Outcome.{check_catalogue, check_table, make_status, made_table}
use Rattle.rules.specs.Listing.{cell_line, last_line, lines_from, listing_text}
use Rattle.rules.proofs.Joined.{three, seven}
use Rattle.bytes_only.specs.Before as Before
use Rattle.bytes_only.specs.AsBefore.{bytes_only, OutcomeAsBefore, SoundOutcomeAsBefore}
use Rattle.bytes_only.specs.AsBefore.{CatalogueCheckedAsBefore, TableCheckedAsBefore, MakerAsBefore, ListingAsBefore}
use Rattle.bytes_only.proofs.Catalogues.{good-before}
use Rattle.bytes_only.proofs.Tables.{table_before}
use Rattle.bytes_only.proofs.Lists.{bytes_argument, list-before, list-bytes, last-bytes}
use Rattle.bytes_only.proofs.Calls.{called-before}

-- byte 7 of a good catalogue, where an entry of code 0 would have its value type
header-zero : (cat : Bytes) → good_catalogue cat ≡ true → eqb (key_value cat (code 0)) 0 ≡ true
unfolding good_catalogue good_header key_value type_byte
header-zero cat g =
    let h = three (good_header cat) (every (good_type cat) (range 1 (types cat))) (every (good_field cat) (range 1 (fields cat))) g in
    (seven (leb 8 (length cat)) (marked 0x43 cat) _ _ _ (eqb (byte cat 7) 0) _ h.0).5

module _ (cat : Bytes) (only : bytes_only cat ≡ true) where
  -- the refusals: the list has the fault that it had, and the checks refuse what they did
  misused-before : (pos : Position) (c : ℕ) (list area : Bytes) → misused cat pos c list area ≡ Before.misused cat pos c list area
  unfolding misused Before.misused
  misused-before pos c list area = rw (list-before cat only list)

  unsound-before : (tab : Bytes) (pos : Position) → unsound cat tab pos ≡ Before.unsound cat tab pos
  unfolding unsound Before.unsound
  unsound-before tab pos = rw (good-before cat only, table_before cat only tab)

  -- behind a good catalogue, the call itself
  sound-before : (tab : Bytes) (pos : Position) (c : ℕ) (list area : Bytes) → good_catalogue cat ≡ true
      → after_sound called cat tab pos c list area ≡ Before.after_sound Before.called cat tab pos c list area
  unfolding after_sound Before.after_sound
  sound-before tab pos c list area g =
      let ar : List Argument = (Before.list_read cat list).arguments in
      let b : every (bytes_argument cat list) ar ≡ true = list-bytes cat list only in
      let e : eqb (key_value cat (last_argument ar).code) 0 ≡ true = last-bytes cat list ar (header-zero cat g) b in
      rw (misused-before pos c list area, list-before cat only list, called-before cat (listing cat tab) pos area (room cat tab) c list ar e b)

  -- a catalogue that is refused was refused before anything else was looked at
  bad-catalogue : (tab : Bytes) (pos : Position) → good_catalogue cat ≡ false → unsound cat tab pos ≡ CX
  unfolding unsound
  bad-catalogue tab pos g = rw g

  after-before : (tab : Bytes) (pos : Position) (c : ℕ) (list area : Bytes)
      → after_call called cat tab pos c list area ≡ Before.after_call Before.called cat tab pos c list area
  unfolding after_call Before.after_call unless
  after-before tab pos c list area = elim (is (good_catalogue cat)) [
    | on g ↦ rw (unsound-before tab pos, sound-before tab pos c list area g)
    | off g ↦ rw (← (unsound-before tab pos), bad-catalogue tab pos g)
  ]

-- THEOREM: a call
pub outcome-as-before : OutcomeAsBefore
unfolding outcome Before.outcome outcome_of Before.outcome_of
outcome-as-before cat tab pos c list area only = rw (after-before cat only tab pos c list area)

-- THEOREM: a call on what was checked
pub sound-outcome-as-before : SoundOutcomeAsBefore
unfolding sound_outcome Before.sound_outcome
sound-outcome-as-before cat tab pos c list area only g = rw (sound-before cat only tab pos c list area g)

-- THEOREM: the check of a catalogue
pub catalogue-checked-as-before : CatalogueCheckedAsBefore
unfolding check_catalogue Before.check_catalogue
catalogue-checked-as-before cat only = rw (good-before cat only)

-- THEOREM: the check of a table
pub table-checked-as-before : TableCheckedAsBefore
unfolding check_table Before.check_table
table-checked-as-before cat tab only = rw (good-before cat only, table_before cat only tab)

-- THEOREM: the maker
pub maker-as-before : MakerAsBefore
unfolding made_table Before.made_table make_status Before.make_status
maker-as-before cat tab only = (rw (good-before cat only), rw (good-before cat only))

-- the lines from the outcome of the next call and from the lines behind it
abbrev lines_on : Outcome → (Position → Bytes) → Bytes
lines_on o rest = elim (leb 10 (number o.answer.status)) [
  | true ↦ last_line o.answer.status
  | false ↦ cell_line o.answer o.area ++ rest o.answer.position
]

lines-before : (cat tab : Bytes) → bytes_only cat ≡ true → (k : ℕ) (pos : Position) → lines_from k cat tab pos ≡ Before.lines_from k cat tab pos
unfolding lines_from Before.lines_from
lines-before cat tab only zero pos = refl
lines-before cat tab only (suc k) pos =
    ap (λ (o : Outcome). lines_on o (lines_from k cat tab)) (outcome-as-before cat tab pos 2 [] (replicate 120 0) only)
    ∙ ap (lines_on (Before.outcome cat tab pos 2 [] (replicate 120 0))) (fun_ext (λ p. lines-before cat tab only k p))

-- THEOREM: the listing
pub listing-as-before : ListingAsBefore
unfolding listing_text Before.listing_text
listing-as-before cat tab only = rw (good-before cat only, lines-before cat tab only (suc (count tab)) fresh)
