-- Stored keys (R89): that each is a value, as the check asks it cell by cell. Assumes nothing: these are definitions.
use Rattle.std.specs.Prelude.{◌≡◌, Bool, true, ◌&&◌, ◌||◌, not, ℕ, ◌<◌, eqb}
use Rattle.terms.specs.Choice.{pick}
use Rattle.terms.specs.Names.{code}
use Rattle.std.specs.Ordering.{is_lt, is_gt}
use Rattle.forest.specs.Numbers.{range}
use Rattle.rules.specs.Block.{Bytes, every}
use Rattle.rules.specs.Packed.{packed_order}
use Rattle.rules.specs.Catalogue.{types, key_value, is_type}
use Rattle.rules.specs.Cells.{Segment, segment, keyed}
use Rattle.rules.specs.Table.{count, listing}

-- no key is packed
unfoldable pub plain_keys : Bytes → Bool
plain_keys cat = every (λ k. eqb (key_value cat (code k)) 0) (range 1 (types cat))

-- a segment of a type of the catalogue whose key is a value: the key of another need not lie within its cell
unfoldable pub keyed_cell : Bytes → Segment → Bool
keyed_cell cat s = is_type cat s.code && keyed cat s

-- what the check asks before it reads the listing: on a good listing, where each type is known, that each key is a value
unfoldable pub has_keys : Bytes → Bytes → Bool
has_keys cat tab = plain_keys cat || every (keyed_cell cat) (listing cat tab)

-- what the readers rely on: where the type is known, the key is a value
abbrev pub Valued : Bytes → Bytes → Type 0
Valued cat tab = (i : ℕ) → i < count tab → is_type cat (segment (listing cat tab) i).code ≡ true → keyed cat (segment (listing cat tab) i) ≡ true

-- a packed key may stand before a later twin's, by the kind that the row of facts has: 5 where it is unique
unfoldable pub packed_follows : ℕ → Bytes → Bytes → Bool
packed_follows kind a b = pick (eqb kind 5) (is_lt (packed_order a b)) (not (is_gt (packed_order a b)))
