-- A row of words and signs, read from a place of its line on. Assumes nothing: these are definitions.
use Rattle.std.specs.Prelude.{◌≡◌, Bool, true, false, List, [], ◌∷◌, ◌++◌, ℕ, ◌-◌, ◌≤◌, ◌<◌, length, drop, Option, Some, None, IfSome}
use Rattle.std.specs.Option.{option_map}
use Rattle.terms.specs.Choice.{pick}
use Rattle.rules.specs.Block.{Bytes, byte, part, every}
use Rattle.statements.specs.Words.{Token, word, in_word, is_blank, in_front, tokens}
use Rattle.statements.specs.Statement.{Slot, name, number, parent, either, suits, fits}
use Rattle.dbd_words.specs.declared.Span.{Span}
use Rattle.dbd_words.specs.declared.Asks.{Asks}
use Rattle.dbd_words.specs.declared.Asks.TheVariants.{AName, ANumber, AParent, OneOf}

-- the word of a span
abbrev pub cut : Bytes → Span → Bytes
cut line s = part line s.from (s.to - s.from)

-- the slot that is asked for
abbrev pub asked : Asks → Slot
asked AName = name
asked ANumber = number
asked AParent = parent
asked (OneOf a b) = either a b

-- what is left behind tokens that fit the slots, one each; none, where one does not fit
unfoldable pub behind : List Slot → List Token → Option (List Token)
behind [] ts = Some ts
behind (s ∷ ss) [] = None
behind (s ∷ ss) (t ∷ ts) = pick (fits s t) (behind ss ts) None

abbrev pub is_none : List Token → Bool
is_none [] = true
is_none (t ∷ ts) = false

-- the blanks from i on end at r
pub record PastBlanks (line : Bytes) (i r : ℕ) : Type 0 where
  pub onward : i ≤ r
  pub inside : r ≤ length line
  pub left : tokens (drop r line) ≡ tokens (drop i line)
  pub stops : r < length line → is_blank (byte line r) ≡ false

-- the letters and digits from i on end at r
pub record WordEnd (line : Bytes) (i r : ℕ) : Type 0 where
  pub onward : i ≤ r
  pub inside : r ≤ length line
  pub row : every in_word (part line i (r - i)) ≡ true
  pub stops : in_front (drop r line) ≡ false

-- the next token is the word of this span; or, where that is empty, no word
pub record NextWord (line : Bytes) (i : ℕ) (s : Span) : Type 0 where
  pub ordered : s.from ≤ s.to
  pub inside : s.to ≤ length line
  pub row : every in_word (cut line s) ≡ true
  pub there : s.from < s.to → tokens (drop i line) ≡ word (cut line s) ∷ tokens (drop s.to line)
  pub missed : s.from ≡ s.to → (w : Bytes) (ts : List Token) → tokens (drop i line) ≡ word w ∷ ts → false ≡ true

-- these slots have been read from i on, and what is left stands from r on; none, where what stands from i on does not fit them
pub record Reached (line : Bytes) (i : ℕ) (ss : List Slot) (r : Option ℕ) : Type 0 where
  pub inside : IfSome r (λ k. k ≤ length line)
  pub left : option_map (λ k. tokens (drop k line)) r ≡ behind ss (tokens (drop i line))

-- behind these slots stands the word of this span, which fits the slot a; none, where what stands from i on does not fit them all
pub record Held (line : Bytes) (i : ℕ) (ss : List Slot) (a : Slot) (r : Option Span) : Type 0 where
  pub some : IfSome r (λ s. s.from < s.to)
  pub inside : IfSome r (λ s. s.to ≤ length line)
  pub left : option_map (λ (s : Span). tokens (drop s.to line)) r ≡ behind (ss ++ (a ∷ [])) (tokens (drop i line))
  pub there : IfSome r (λ s. drop (length ss) (tokens (drop i line)) ≡ word (cut line s) ∷ tokens (drop s.to line))
  pub fit : IfSome r (λ s. suits a (cut line s) ≡ true)

-- nothing is left
abbrev pub Ends : Bytes → ℕ → Bool → Type 0
Ends line i r = r ≡ is_none (tokens (drop i line))
