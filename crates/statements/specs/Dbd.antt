-- The reader and the writer of DBD statements (R73 to R84). Assumes nothing: these are definitions.
use Rattle.std.specs.Prelude.{Bool, true, false, ◌&&◌, ◌||◌, List, [], ◌∷◌, ◌++◌, map, ℕ, zero, suc, ◌+◌, ◌-◌, ◌*◌, ltb, leb, eqb, length, drop, None, Some, Option}
use Rattle.forest.specs.Numbers.{range}
use Rattle.terms.specs.Choice.{pick}
use Rattle.terms.specs.Names.{code, field as field_of}
use Rattle.rules.specs.Block.{Bytes, byte, word, part, every, zeros, marked}
use Rattle.rules.specs.Catalogue.{types, fields, parent_of, length_of, key_kind, key_start, key_length, field_type, field_start, field_length, field_byte, good_catalogue}
use Rattle.statements.specs.Words.{is_name, trimmed, spell}
use Rattle.statements.specs.Lines.{lines_of, text_of}
use Rattle.statements.specs.Statement.{Statement, dbd, segm, field, no_parent, tokens_of}
use Rattle.statements.specs.Draft.{Draft, blank, catalogue_of, names_of, rows, has, own_names, Fault, misplaced, fault_number, goes, bad, line_taken}

-- the fault (0 for none) and its line; without a fault T, F and the two blocks
pub record Reading : Type 0 where
  pub fault : ℕ
  pub line : ℕ
  pub types : ℕ
  pub fields : ℕ
  pub catalogue : Bytes
  pub names : Bytes

unfoldable pub refused : Fault → ℕ → Reading
refused k n = record { fault = fault_number k; line = n; types = 0; fields = 0; catalogue = []; names = [] }

unfoldable pub given : Draft → Reading
given d = record { fault = 0; line = 0; types = length d.types; fields = length d.fields; catalogue = catalogue_of d; names = names_of d }

-- R78: the end is bad where there was no DBD or no SEGM; without DBD there was no SEGM
unfoldable pub ended : Draft → ℕ → Reading
ended d n = pick (eqb (length d.types) 0) (refused misplaced n) (given d)

-- R78: lines are judged from the first, the first of these being line n; the end counts as a line
unfoldable pub read_from : Draft → ℕ → List Bytes → Reading
read_from d n [] = ended d n
read_from d n (l ∷ ls) = elim (line_taken d l) [ bad k ↦ refused k n | goes e ↦ read_from e (suc n) ls ]

-- the reader
unfoldable pub dbd_read : Bytes → Reading
dbd_read text = read_from blank 1 (lines_of text)

-- R81: a statement as a line of the writer
unfoldable pub spelled : Statement → Bytes
spelled s = spell (tokens_of s)

-- the name at place i of the list: the data base at 0, then the segments, then the fields
unfoldable pub name_at : Bytes → ℕ → Bytes
name_at names i = part names (8 + 8 * i) 8

-- R82: a name, and spaces behind it
unfoldable pub good_name : Bytes → Bool
good_name n = let w = trimmed n in eqb (length n) 8 && is_name w && every (λ b. eqb b 0x20) (drop (length w) n)

unfoldable pub distinct : List Bytes → Bool
distinct [] = true
distinct (x ∷ xs) = elim (has x xs) [ true ↦ false | false ↦ distinct xs ]

-- the first of these numbers that passes the test; 0, if none does
unfoldable pub first_of : (ℕ → Bool) → List ℕ → ℕ
first_of p [] = 0
first_of p (i ∷ is) = elim (p i) [ true ↦ i | false ↦ first_of p is ]

unfoldable pub those : (ℕ → Bool) → List ℕ → List ℕ
those p [] = []
those p (i ∷ is) = elim (p i) [ true ↦ i ∷ those p is | false ↦ those p is ]

module _ (cat : Bytes) where
  -- the numbers of the fields of type k
  unfoldable pub own_fields : ℕ → List ℕ
  own_fields k = those (λ f. eqb (field_type cat (field_of f)).0 k) (range 1 (fields cat))

  -- field f has the start and the length of the key of type k
  unfoldable pub is_key_of : ℕ → ℕ → Bool
  is_key_of k f = eqb (field_start cat (field_of f)) (key_start cat (code k)) && eqb (field_length cat (field_of f)) (key_length cat (code k))

  -- R81: the field that gets SEQ: the first one of its type with the key's start and length; 0 for none
  unfoldable pub key_field : ℕ → ℕ
  key_field k = first_of (is_key_of k) (own_fields k)

  -- R82: version 1, and every value type 0
  unfoldable pub is_plain : Bool
  is_plain =
      eqb (word cat 3) 1 && every (λ k. zeros (part cat (8 * k + 5) 3)) (range 1 (types cat))
      && every (λ f. eqb (field_byte cat (field_of f) 3) 0) (range 1 (fields cat))

  -- R82: fields stand by their types
  unfoldable pub ascending : Bool
  ascending = every (λ f. leb (field_type cat (field_of f)).0 (field_type cat (field_of (suc f))).0) (range 1 (fields cat - 1))

  -- R82: every key is a field too
  unfoldable pub keys_listed : Bool
  keys_listed = every (λ k. eqb (key_kind cat (code k)) 0 || ltb 0 (key_field k)) (range 1 (types cat))

-- the name of type k
unfoldable pub segment_name : Bytes → ℕ → Bytes
segment_name names k = name_at names k

module _ (cat names : Bytes) where
  unfoldable pub field_name : ℕ → Bytes
  field_name f = name_at names (types cat + f)

  -- R82: the list fits the block, and every name in it is one
  unfoldable pub good_names : Bool
  good_names =
      eqb (length names) (16 + 8 * types cat + 8 * fields cat) && marked 0x4E names
      && eqb (byte names 5) (types cat) && eqb (byte names 6) (fields cat) && eqb (byte names 7) 0
      && every (λ i. good_name (name_at names i)) (range 0 (1 + types cat + fields cat))

  -- R82: the names of segments differ, and so do those of the fields of one type
  unfoldable pub differ : Bool
  differ =
      distinct (rows 8 names 16 (types cat))
      && every (λ k. distinct (own_names k (rows 4 cat (8 + 8 * types cat) (fields cat)) (rows 8 names (16 + 8 * types cat) (fields cat)))) (range 1 (types cat))

  -- R82: a block and a list that the reader could have given; nothing is read of a catalogue that is not good
  unfoldable pub could_give : Bool
  could_give =
      elim (good_catalogue cat && is_plain cat && good_names) [
        | true ↦ differ && ascending cat && keys_listed cat
        | false ↦ false
      ]

  -- R81: the parent's name in the SEGM of type k, and the FIELDs of that type
  unfoldable pub parent_word : ℕ → Bytes
  parent_word k = elim (parent_of cat (code k)).0 [ zero ↦ no_parent | suc p ↦ trimmed (segment_name names (suc p)) ]

  unfoldable pub segm_statement : ℕ → Statement
  segm_statement k = segm (trimmed (segment_name names k)) (parent_word k) (length_of cat (code k))

  unfoldable pub field_statement : ℕ → ℕ → Statement
  field_statement k f =
      field (trimmed (field_name f)) (pick (eqb f (key_field cat k)) (key_kind cat (code k)) 0)
      (field_length cat (field_of f)) (field_start cat (field_of f))

  unfoldable pub type_statements : List ℕ → List Statement
  type_statements [] = []
  type_statements (k ∷ ks) = (segm_statement k ∷ map (field_statement k) (own_fields cat k)) ++ type_statements ks

  -- R81: DBD, then each type with its fields by number
  unfoldable pub statements : List Statement
  statements = dbd (trimmed (name_at names 0)) ∷ type_statements (range 1 (types cat))

  -- the writer: none for CX
  unfoldable pub dbd_write : Option Bytes
  dbd_write = elim could_give [ true ↦ Some (text_of (map spelled statements)) | false ↦ None ]
