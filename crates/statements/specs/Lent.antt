-- The two calls on lent buffers (R80, R83): what each answers as one number, and what the buffers hold then. Assumes nothing: these are definitions.
use Rattle.std.specs.Prelude.{true, false, ◌&&◌, ◌++◌, ℕ, ◌+◌, ◌*◌, ltb, leb, eqb, length, drop, None, Some, Option}
use Rattle.terms.specs.Choice.{pick}
use Rattle.rules.specs.Block.{Bytes}
use Rattle.statements.specs.Dbd.{Reading, dbd_read, dbd_write}

-- a buffer with these bytes at its front; those behind stay
unfoldable pub onto : Bytes → Bytes → Bytes
onto new old = new ++ drop (length new) old

-- bits 32 to 63; a line too great for them is told as their greatest
unfoldable pub high : ℕ → ℕ
high n = 4294967296 * pick (ltb 4294967295 n) 4294967295 n

pub record ReadInto : Type 0 where
  pub result : ℕ
  pub catalogue : Bytes
  pub names : Bytes

pub record WrittenInto : Type 0 where
  pub result : ℕ
  pub text : Bytes

-- R80: the fault and its line, or T and F; AB for a short buffer comes behind every fault of the text
unfoldable pub handed_out : Reading → Bytes → Bytes → ReadInto
handed_out r cat names =
    elim (eqb r.fault 0) [
      | true ↦ elim (leb (length r.catalogue) (length cat) && leb (length r.names) (length names)) [
        | true ↦ record { result = 256 * r.types + 65536 * r.fields; catalogue = onto r.catalogue cat; names = onto r.names names }
        | false ↦ record { result = 28; catalogue = cat; names = names }
      ]
      | false ↦ record { result = r.fault + high r.line; catalogue = cat; names = names }
    ]

unfoldable pub read_into : Bytes → Bytes → Bytes → ReadInto
read_into text cat names = handed_out (dbd_read text) cat names

-- a number and two buffers, as the reader's answer
abbrev pub read_back : ℕ → Bytes → Bytes → ReadInto
read_back r cat names = record { result = r; catalogue = cat; names = names }

unfoldable pub text_into : Option Bytes → Bytes → WrittenInto
text_into None text = record { result = 20; text = text }
text_into (Some t) text =
    elim (leb (length t) (length text)) [
      | true ↦ record { result = high (length t); text = onto t text }
      | false ↦ record { result = 28; text = text }
    ]

-- R83: CX, then AB, or the text and its length
unfoldable pub write_into : Bytes → Bytes → Bytes → WrittenInto
write_into cat names text = text_into (dbd_write cat names) text

-- a number and a buffer, as the writer's answer
abbrev pub written_back : ℕ → Bytes → WrittenInto
written_back r text = record { result = r; text = text }
