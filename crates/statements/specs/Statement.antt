-- The statements, and the rows of words and signs that they are (R76). Assumes nothing: these are definitions.
use Rattle.std.specs.Prelude.{Bool, true, false, ◌||◌, List, [], ◌∷◌, ◌++◌, ℕ, zero, suc, eqb, get_or, None, Some, Option}
use Rattle.terms.specs.Choice.{pick}
use Rattle.rules.specs.Block.{Bytes, same_bytes}
use Rattle.rules.specs.Listing.{decimal}
use Rattle.statements.specs.Text.{bytes_of}
use Rattle.statements.specs.Words.{Token, word, sign, is_name, is_number, value}

-- DBD with its name; SEGM with its name, its parent's word and its bytes; FIELD with its name, the kind of its SEQ (0 none, 1 U, 2 M), bytes and start
pub data Statement : Type 0 where
  dbd : Bytes → Statement
  segm : Bytes → Bytes → ℕ → Statement
  field : Bytes → ℕ → ℕ → ℕ → Statement

-- R75: the keywords; and the word that stands for no parent
unfoldable pub word_dbd : Bytes
word_dbd = bytes_of "DBD"

unfoldable pub word_segm : Bytes
word_segm = bytes_of "SEGM"

unfoldable pub word_field : Bytes
word_field = bytes_of "FIELD"

unfoldable pub word_name : Bytes
word_name = bytes_of "NAME"

unfoldable pub word_parent : Bytes
word_parent = bytes_of "PARENT"

unfoldable pub word_bytes : Bytes
word_bytes = bytes_of "BYTES"

unfoldable pub word_start : Bytes
word_start = bytes_of "START"

unfoldable pub word_type : Bytes
word_type = bytes_of "TYPE"

unfoldable pub word_seq : Bytes
word_seq = bytes_of "SEQ"

unfoldable pub no_parent : Bytes
no_parent = bytes_of "0"

abbrev pub equals : ℕ
equals = 0x3D

abbrev pub comma : ℕ
comma = 0x2C

abbrev pub opens : ℕ
opens = 0x28

abbrev pub shuts : ℕ
shuts = 0x29

-- what a form asks of one token: this word, this sign, one of two letters, a name, a number, or a name or the word 0
pub data Slot : Type 0 where
  only : Bytes → Slot
  mark : ℕ → Slot
  either : ℕ → ℕ → Slot
  name : Slot
  number : Slot
  parent : Slot

unfoldable pub suits : Slot → Bytes → Bool
suits (only v) w = same_bytes v w
suits (mark s) w = false
suits (either a b) w = same_bytes (a ∷ []) w || same_bytes (b ∷ []) w
suits name w = is_name w
suits number w = is_number w
suits parent w = same_bytes no_parent w || is_name w

unfoldable pub marks : Slot → ℕ → Bool
marks (only v) b = false
marks (mark s) b = eqb s b
marks (either a c) b = false
marks name b = false
marks number b = false
marks parent b = false

unfoldable pub fits : Slot → Token → Bool
fits s (word w) = suits s w
fits s (sign b) = marks s b

-- R76: a row of this form, with nothing before or behind it
unfoldable pub formed : List Slot → List Token → Bool
formed [] [] = true
formed [] (t ∷ ts) = false
formed (s ∷ ss) [] = false
formed (s ∷ ss) (t ∷ ts) = elim (fits s t) [ true ↦ formed ss ts | false ↦ false ]

-- R76: the four forms
unfoldable pub dbd_form : List Slot
dbd_form = only word_dbd ∷ only word_name ∷ mark equals ∷ name ∷ []

unfoldable pub segm_form : List Slot
segm_form =
    only word_segm ∷ only word_name ∷ mark equals ∷ name ∷ mark comma ∷ only word_parent ∷ mark equals ∷ parent
    ∷ mark comma ∷ only word_bytes ∷ mark equals ∷ number ∷ []

-- the end of both forms of FIELD
unfoldable pub span_form : List Slot
span_form =
    mark comma ∷ only word_bytes ∷ mark equals ∷ number ∷ mark comma ∷ only word_start ∷ mark equals ∷ number
    ∷ mark comma ∷ only word_type ∷ mark equals ∷ either 0x43 0x58 ∷ []

unfoldable pub field_form : List Slot
field_form = only word_field ∷ only word_name ∷ mark equals ∷ name ∷ span_form

unfoldable pub key_form : List Slot
key_form =
    only word_field ∷ only word_name ∷ mark equals ∷ mark opens ∷ name ∷ mark comma ∷ only word_seq ∷ mark comma ∷ either 0x55 0x4D ∷ mark shuts
    ∷ span_form

-- the word that stands at place i of the row
unfoldable pub word_in : Token → Bytes
word_in (word w) = w
word_in (sign s) = []

unfoldable pub word_at : List Token → ℕ → Bytes
word_at ts i = word_in (get_or ts i (word []))

-- R77: the kind of key
unfoldable pub kind_of : Bytes → ℕ
kind_of w = pick (same_bytes (0x55 ∷ []) w) 1 2

-- R77: what a row of each form says
unfoldable pub dbd_of : List Token → Statement
dbd_of ts = dbd (word_at ts 3)

unfoldable pub segm_of : List Token → Statement
segm_of ts = segm (word_at ts 3) (word_at ts 7) (value (word_at ts 11))

unfoldable pub field_of : List Token → Statement
field_of ts = field (word_at ts 3) 0 (value (word_at ts 7)) (value (word_at ts 11))

unfoldable pub key_of : List Token → Statement
key_of ts = field (word_at ts 4) (kind_of (word_at ts 8)) (value (word_at ts 13)) (value (word_at ts 17))

-- the statement that a line is, if it is one
unfoldable pub statement_of : List Token → Option Statement
statement_of ts =
    elim (formed dbd_form ts) [
      | true ↦ Some (dbd_of ts)
      | false ↦ elim (formed segm_form ts) [
        | true ↦ Some (segm_of ts)
        | false ↦ elim (formed field_form ts) [
          | true ↦ Some (field_of ts)
          | false ↦ elim (formed key_form ts) [ true ↦ Some (key_of ts) | false ↦ None ]
        ]
      ]
    ]

-- NAME= and the field's name, with its key
unfoldable pub name_tokens : Bytes → ℕ → List Token
name_tokens n zero = word n ∷ []
name_tokens n (suc k) = sign opens ∷ word n ∷ sign comma ∷ word word_seq ∷ sign comma ∷ word (pick (eqb k 0) 0x55 0x4D ∷ []) ∷ sign shuts ∷ []

-- R81: a statement as the writer has it
unfoldable pub tokens_of : Statement → List Token
tokens_of (dbd n) = word word_dbd ∷ word word_name ∷ sign equals ∷ word n ∷ []
tokens_of (segm n p l) =
    word word_segm ∷ word word_name ∷ sign equals ∷ word n ∷ sign comma ∷ word word_parent ∷ sign equals ∷ word p
    ∷ sign comma ∷ word word_bytes ∷ sign equals ∷ word (decimal l) ∷ []
tokens_of (field n k l s) =
    word word_field ∷ word word_name ∷ sign equals ∷ (name_tokens n k
    ++ (sign comma ∷ word word_bytes ∷ sign equals ∷ word (decimal l) ∷ sign comma ∷ word word_start ∷ sign equals ∷ word (decimal s)
    ∷ sign comma ∷ word word_type ∷ sign equals ∷ word (0x43 ∷ []) ∷ []))
