-- The catalogue (R2 to R8): what the block says of a type and of a field, and the check. Assumes nothing: these are definitions.
use Rattle.std.specs.Prelude.{Bool, ◌&&◌, List, ℕ, zero, suc, ◌+◌, ◌-◌, ◌*◌, ltb, leb, eqb, length}
use Rattle.terms.specs.declared.TypeCode.{TypeCode}
use Rattle.terms.specs.declared.FieldNumber.{FieldNumber}
use Rattle.terms.specs.Choice.{pick}
use Rattle.terms.specs.Names.{code, field}
use Rattle.forest.specs.Types as Types
use Rattle.forest.specs.Numbers.{range, is_in}
use Rattle.rules.specs.Block.{Bytes, byte, part, every, zeros, marked}

-- R5: a span within L bytes
abbrev pub good_span : ℕ → ℕ → ℕ → Bool
good_span start long L = leb 1 start && leb 1 long && leb (start + long - 1) L

-- R86: bytes, or packed decimal in 16 bytes at most
abbrev pub good_value : ℕ → ℕ → Bool
good_value w long = pick (eqb w 1) (leb long 16) (eqb w 0)

module _ (cat : Bytes) where
  -- R2: T and F
  unfoldable pub types : ℕ
  types = byte cat 5

  unfoldable pub fields : ℕ
  fields = byte cat 6

  -- R3: type codes run from 1, so that the entry of type t begins at byte 8t
  unfoldable pub type_byte : TypeCode → ℕ → ℕ
  type_byte t k = byte cat (8 * t.0 + k)

  -- R4: what the entry of a type says
  unfoldable pub parent_of : TypeCode → TypeCode
  parent_of t = code (type_byte t 0)

  unfoldable pub length_of : TypeCode → ℕ
  length_of t = type_byte t 1

  unfoldable pub key_kind : TypeCode → ℕ
  key_kind t = type_byte t 2

  unfoldable pub key_start : TypeCode → ℕ
  key_start t = type_byte t 3

  unfoldable pub key_length : TypeCode → ℕ
  key_length t = type_byte t 4

  -- R86: the value type of the key
  unfoldable pub key_value : TypeCode → ℕ
  key_value t = type_byte t 7

  -- R3: field numbers run from 1
  unfoldable pub field_byte : FieldNumber → ℕ → ℕ
  field_byte f k = byte cat (4 + 8 * types + 4 * f.0 + k)

  -- R6: what the entry of a field says
  unfoldable pub field_type : FieldNumber → TypeCode
  field_type f = code (field_byte f 0)

  unfoldable pub field_start : FieldNumber → ℕ
  field_start f = field_byte f 1

  unfoldable pub field_length : FieldNumber → ℕ
  field_length f = field_byte f 2

  -- R86: the value type of the field
  unfoldable pub field_value : FieldNumber → ℕ
  field_value f = field_byte f 3

  -- a type and the types above it, nearest first
  unfoldable pub lineage : TypeCode → List ℕ
  lineage t = Types.lineage (λ u. (parent_of (code u)).0) t.0

  -- R8: how many types from this one up to the root's
  unfoldable pub level : TypeCode → ℕ
  level t = length (lineage t)

  -- R7: a type of the catalogue
  unfoldable pub is_type : TypeCode → Bool
  is_type t = leb 1 t.0 && leb t.0 types

  -- type t lies beneath type u, and is not u
  unfoldable pub type_beneath : TypeCode → TypeCode → Bool
  type_beneath t u = is_in u.0 (lineage (parent_of t))

  -- the largest L of the types up to k
  unfoldable pub largest : ℕ → ℕ
  largest zero = 0
  largest (suc k) = let m = largest k in pick (ltb m (length_of (code (suc k)))) (length_of (code (suc k))) m

  -- R4, R5, R86: the kind, the span and the value type, or zeros where there is no key
  unfoldable pub good_key : TypeCode → Bool
  good_key t =
      pick (eqb (key_kind t) 0) (eqb (key_start t) 0 && eqb (key_length t) 0 && eqb (key_value t) 0)
      (leb (key_kind t) 2 && good_span (key_start t) (key_length t) (length_of t) && good_value (key_value t) (key_length t))

  -- R7: whose child type k may be
  unfoldable pub good_parent : ℕ → Bool
  good_parent k = pick (eqb k 1) (eqb (parent_of (code k)).0 0) (is_in (parent_of (code k)).0 (lineage (code (k - 1))))

  -- R4, R7, R8: an entry that is right
  unfoldable pub good_type : ℕ → Bool
  good_type k =
      good_parent k && leb 1 (length_of (code k)) && leb (length_of (code k)) 120 && good_key (code k)
      && zeros (part cat (8 * k + 5) 2) && leb (level (code k)) 15

  -- R6, R86: an entry of a field that is right
  unfoldable pub good_field : ℕ → Bool
  good_field f =
      is_type (field_type (field f)) && good_span (field_start (field f)) (field_length (field f)) (length_of (field_type (field f)))
      && good_value (field_value (field f)) (field_length (field f))

  -- R2, R3: the header, and how long the block is
  unfoldable pub good_header : Bool
  good_header =
      leb 8 (length cat) && marked 0x43 cat && leb 1 types && leb types 32 && leb fields 64 && eqb (byte cat 7) 0
      && eqb (length cat) (8 + 8 * types + 4 * fields)

  -- the check of a catalogue
  unfoldable pub good_catalogue : Bool
  good_catalogue = good_header && every good_type (range 1 types) && every good_field (range 1 fields)
