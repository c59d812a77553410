-- What the lines so far have made, and how one more statement is taken (R77, R78). Assumes nothing: these are definitions.
use Rattle.std.specs.Prelude.{Bool, true, false, ◌&&◌, ◌||◌, not, List, [], ◌∷◌, ◌++◌, ℕ, zero, suc, ◌+◌, ltb, leb, eqb, length, take, None, Some, Option}
use Rattle.terms.specs.Choice.{pick}
use Rattle.terms.specs.Names.{code}
use Rattle.rules.specs.Block.{Bytes, byte, part, same_bytes}
use Rattle.rules.specs.Catalogue.{key_kind, good_type, good_field}
use Rattle.statements.specs.Words.{filled, tokens}
use Rattle.statements.specs.Statement.{Statement, dbd, segm, field, no_parent, statement_of}

-- the data base's name (none before DBD), the entries of types and fields, and their names, all by number; a name has its 8 bytes
pub record Draft : Type 0 where
  pub base : Bytes
  pub types : List Bytes
  pub fields : List Bytes
  pub segment_names : List Bytes
  pub field_names : List Bytes

unfoldable pub blank : Draft
blank = record { base = []; types = []; fields = []; segment_names = []; field_names = [] }

unfoldable pub joined_row : List Bytes → Bytes
joined_row [] = []
joined_row (b ∷ bs) = b ++ joined_row bs

-- R2, R79: mark, version, T and F
unfoldable pub header : ℕ → ℕ → ℕ → Bytes
header letter t f = 0x48 ∷ 0x44 ∷ letter ∷ 0 ∷ 1 ∷ t ∷ f ∷ 0 ∷ []

-- the block (R2, R3)
unfoldable pub catalogue_of : Draft → Bytes
catalogue_of d = header 0x43 (length d.types) (length d.fields) ++ joined_row d.types ++ joined_row d.fields

-- R79: the list of names
unfoldable pub names_of : Draft → Bytes
names_of d = header 0x4E (length d.types) (length d.fields) ++ d.base ++ joined_row d.segment_names ++ joined_row d.field_names

-- n entries of w bytes each, from byte i on
unfoldable pub rows : ℕ → Bytes → ℕ → ℕ → List Bytes
rows w b i zero = []
rows w b i (suc n) = part b i w ∷ rows w b (i + w) n

-- where a name stands in a row of names, from 1; 0 where it does not
unfoldable pub place_from : ℕ → Bytes → List Bytes → ℕ
place_from i n [] = 0
place_from i n (x ∷ xs) = elim (same_bytes n x) [ true ↦ i | false ↦ place_from (suc i) n xs ]

unfoldable pub place_of : Bytes → List Bytes → ℕ
place_of n xs = place_from 1 n xs

unfoldable pub has : Bytes → List Bytes → Bool
has n xs = ltb 0 (place_of n xs)

-- the names of the fields of type t
unfoldable pub own_names : ℕ → List Bytes → List Bytes → List Bytes
own_names t [] ns = []
own_names t (f ∷ fs) [] = []
own_names t (f ∷ fs) (n ∷ ns) = elim (eqb (byte f 0) t) [ true ↦ n ∷ own_names t fs ns | false ↦ own_names t fs ns ]

-- the last entry with its key
unfoldable pub with_key : ℕ → ℕ → ℕ → List Bytes → List Bytes
with_key kind start long [] = []
with_key kind start long (e ∷ []) = (take 2 e ++ (kind ∷ start ∷ long ∷ 0 ∷ 0 ∷ 0 ∷ [])) ∷ []
with_key kind start long (e ∷ x ∷ es) = e ∷ with_key kind start long (x ∷ es)

-- R77: one type more, which has no key yet
unfoldable pub with_type : Draft → Bytes → ℕ → ℕ → Draft
with_type d n p l = record {
  base = d.base;
  types = d.types ++ ((p ∷ l ∷ 0 ∷ 0 ∷ 0 ∷ 0 ∷ 0 ∷ 0 ∷ []) ∷ []);
  fields = d.fields;
  segment_names = d.segment_names ++ (n ∷ []);
  field_names = d.field_names;
}

-- R77: one field more, of the last SEGM; SEQ makes it that segment's key
unfoldable pub with_field : Draft → Bytes → ℕ → ℕ → ℕ → Draft
with_field d n kind long start = record {
  base = d.base;
  types = elim (eqb kind 0) [ true ↦ d.types | false ↦ with_key kind start long d.types ];
  fields = d.fields ++ ((length d.types ∷ start ∷ long ∷ 0 ∷ []) ∷ []);
  segment_names = d.segment_names;
  field_names = d.field_names ++ (n ∷ []);
}

-- R78: the number of each kind
pub data Fault : Type 0 where
  misplaced : Fault
  twice : Fault
  orphan : Fault
  unruled : Fault

unfoldable pub fault_number : Fault → ℕ
fault_number misplaced = 1
fault_number twice = 2
fault_number orphan = 3
fault_number unruled = 20

-- the draft after a line, or the line's first fault
pub data Taken : Type 0 where
  goes : Draft → Taken
  bad : Fault → Taken

-- R78: the type or the field that the line has added to the block is one too many, or is not good
unfoldable pub ruled_type : Draft → Taken
ruled_type d = pick (leb (length d.types) 32 && good_type (catalogue_of d) (length d.types)) (goes d) (bad unruled)

unfoldable pub ruled_field : Draft → Taken
ruled_field d = pick (leb (length d.fields) 64 && good_field (catalogue_of d) (length d.fields)) (goes d) (bad unruled)

-- R77: whether there was a DBD
unfoldable pub begun : Draft → Bool
begun d = ltb 0 (length d.base)

-- the last type has a key
unfoldable pub is_keyed : Draft → Bool
is_keyed d = ltb 0 (key_kind (catalogue_of d) (code (length d.types)))

-- R78: one statement after those that made the draft, its faults in their order
unfoldable pub taken : Draft → Statement → Taken
taken d (dbd n) =
    pick (begun d) (bad misplaced)
    (goes (record { base = filled n; types = d.types; fields = d.fields; segment_names = d.segment_names; field_names = d.field_names }))
taken d (segm n p l) =
    let root = same_bytes p no_parent in
    let above = place_of (filled p) d.segment_names in
    elim (not (begun d) || (root && ltb 0 (length d.types))) [
      | true ↦ bad misplaced
      | false ↦ elim (has (filled n) d.segment_names) [
        | true ↦ bad twice
        | false ↦ elim (not root && eqb above 0) [
          | true ↦ bad orphan
          | false ↦ ruled_type (with_type d (filled n) above l)
        ]
      ]
    ]
taken d (field n k l s) =
    elim (eqb (length d.types) 0 || (ltb 0 k && is_keyed d)) [
      | true ↦ bad misplaced
      | false ↦ elim (has (filled n) (own_names (length d.types) d.fields d.field_names)) [
        | true ↦ bad twice
        | false ↦ ruled_field (with_field d (filled n) k l s)
      ]
    ]

unfoldable pub taken_if : Draft → Option Statement → Taken
taken_if d None = bad misplaced
taken_if d (Some s) = taken d s

-- R73: one line; a line of blanks is passed over
unfoldable pub line_taken : Draft → Bytes → Taken
line_taken d l = elim (tokens l) [ [] ↦ goes d | t ∷ ts ↦ taken_if d (statement_of (t ∷ ts)) ]
