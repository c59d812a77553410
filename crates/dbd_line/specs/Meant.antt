-- The statement that a line is, by the places of its words. Assumes nothing: these are definitions.
use Rattle.std.specs.Prelude.{◌≡◌, true, false, List, [], ℕ, ◌+◌, ◌≤◌, ◌<◌, length, drop, Option, Some, None, IfSome, is_some}
use Rattle.rules.specs.Block.{Bytes}
use Rattle.statements.specs.Words.{tokens, value}
use Rattle.statements.specs.Statement.{Statement, dbd, segm, field, Slot, span_form, formed, word_at}
use Rattle.statements.specs.Draft.{Draft, misplaced, bad, taken, line_taken}
use Rattle.dbd_words.specs.declared.Span.{Span}
use Rattle.dbd_line.specs.declared.Line.{Line}
use Rattle.dbd_line.specs.declared.Line.TheVariants.{Empty, IsDbd, IsSegm, IsField}
use Rattle.dbd_line.specs.declared.forms.Extent.{Extent}
use Rattle.dbd_words.specs.Capped.{capped}
use Rattle.dbd_words.specs.Row.{cut}

-- a name of 1 to 8 bytes, or the word 0, in its line
pub record InLine (line : Bytes) (s : Span) (w : Bytes) : Type 0 where
  pub some : s.from < s.to
  pub few : s.to ≤ 8 + s.from
  pub inside : s.to ≤ length line
  pub is : w ≡ cut line s

-- this statement, by its places
abbrev pub Meant : Bytes → Statement → Line → Type 0
Meant line (dbd n) Empty = false ≡ true
Meant line (dbd n) (IsDbd a) = InLine line a n
Meant line (dbd n) (IsSegm a b l) = false ≡ true
Meant line (dbd n) (IsField a j l b) = false ≡ true
Meant line (segm n p v) Empty = false ≡ true
Meant line (segm n p v) (IsDbd a) = false ≡ true
Meant line (segm n p v) (IsSegm a b l) = InLine line a n × InLine line b p × (l ≡ capped v)
Meant line (segm n p v) (IsField a j l b) = false ≡ true
Meant line (field n k v w) Empty = false ≡ true
Meant line (field n k v w) (IsDbd a) = false ≡ true
Meant line (field n k v w) (IsSegm a b l) = false ≡ true
Meant line (field n k v w) (IsField a j l b) = InLine line a n × (k ≡ j) × (l ≡ capped v) × (b ≡ capped w)

-- whether the line has this form; and if so, it is this statement
abbrev pub Tells : List Slot → Statement → Bytes → Option Line → Type 0
Tells form s line None = formed form (tokens line) ≡ false
Tells form s line (Some Empty) = false ≡ true
Tells form s line (Some (IsDbd a)) = (formed form (tokens line) ≡ true) × Meant line s (IsDbd a)
Tells form s line (Some (IsSegm a b l)) = (formed form (tokens line) ≡ true) × Meant line s (IsSegm a b l)
Tells form s line (Some (IsField a j l b)) = (formed form (tokens line) ≡ true) × Meant line s (IsField a j l b)

-- the end of a FIELD, from i on
pub record Spanned (line : Bytes) (i : ℕ) (r : Option Extent) : Type 0 where
  pub whole : is_some r ≡ formed span_form (tokens (drop i line))
  pub length : IfSome r (λ (e : Extent). e.long ≡ capped (value (word_at (tokens (drop i line)) 3)))
  pub begin : IfSome r (λ (e : Extent). e.start ≡ capped (value (word_at (tokens (drop i line)) 7)))

-- a statement that the line is taken as
pub record Says (line : Bytes) (l : Line) : Type 0 where
  pub statement : Statement
  pub meant : Meant line statement l
  pub same : (d : Draft) → line_taken d line ≡ taken d statement

-- what a line means to every draft
abbrev pub Means : Bytes → Option Line → Type 0
Means line None = (d : Draft) → line_taken d line ≡ bad misplaced
Means line (Some Empty) = tokens line ≡ []
Means line (Some (IsDbd a)) = Says line (IsDbd a)
Means line (Some (IsSegm a b l)) = Says line (IsSegm a b l)
Means line (Some (IsField a j l b)) = Says line (IsField a j l b)
