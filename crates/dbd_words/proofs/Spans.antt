-- Where blanks and words end in a line, and the word that is cut out of it (R74). Assumes nothing.
use mathlib.Core.Path.{◌≡◌, refl, ap, sym, ◌∙◌, subst}
use mathlib.Core.Bool.{Bool, true, false}
use mathlib.Core.List.{List, [], ◌∷◌, ◌++◌}
use Rattle.std.proofs.lemmas.List.{take_rest}
use Rattle.std.specs.List.{AllWithin, HoldsAt}
use Rattle.std.specs.Option.{MatchOption, unwrap_or}
use Rattle.std.specs.Prelude.{Option, Some, None}
use Prim.Native.Nat.{ℕ, zero, suc, ◌+◌, ◌-◌, ◌<◌, ◌≤◌}
use native.Mathlib.Omega.{arith}
use lib.ListN.{length, take, drop, length-drop, take-append-drop}
use lib.Seq.{get_or-drop, drop-drop, length-take-le}
use Rattle.rules.specs.Block.{Bytes, byte, part, every}
use Rattle.statements.specs.Words.{Token, word, sign, in_word, is_blank, in_front, tokens}
use Rattle.statements.proofs.Words.{every-head, every-tail, token-blank, token-sign, tokens-word}
use Rattle.dbd_words.specs.declared.Span.{Span}
use Rattle.dbd_words.specs.Row.{PastBlanks, WordEnd, NextWord}
use Rattle.dbd_words.proofs.Letters.{blank-apart}

-- the bytes before the n-th pass a test, and that one does not, or there is none
pub record RunEnds (p : ℕ → Bool) (bs : Bytes) (n : ℕ) : Type 0 where
  pub inside : n ≤ length bs
  pub before : (k : ℕ) → k < n → p (byte bs k) ≡ true
  pub stops : n < length bs → p (byte bs n) ≡ false

-- what `position` says of the first that does not pass
abbrev pub First : (ℕ → Bool) → Bytes → Option ℕ → Type 0
First p bs r =
    MatchOption r (AllWithin (λ b. p b ≡ true) bs 0 (length bs))
    (λ i. (i < length bs) × HoldsAt (λ b. p b ≡ false) bs i × AllWithin (λ b. p b ≡ true) bs 0 i)

run_ends : (p : ℕ → Bool) (bs : Bytes) (r : Option ℕ) → First p bs r → RunEnds p bs (unwrap_or r (length bs))
run_ends p bs None f = record { inside = omega arith; before = λ k h. f k 0 (omega arith) h; stops = λ h. absurd (omega arith) }
run_ends p bs (Some i) f = record { inside = omega (arith, f.0); before = λ k h. f.2 k 0 (omega arith) h; stops = λ h. f.1 0 }

blanks-before : (bs : Bytes) (n : ℕ) → n ≤ length bs → ((k : ℕ) → k < n → is_blank (byte bs k) ≡ true) → tokens (drop n bs) ≡ tokens bs
blanks-before bs zero h f = refl
blanks-before [] (suc n) h f = absurd (omega arith)
blanks-before (b ∷ bs) (suc n) h f =
    let e : is_blank b ≡ true = f 0 (omega arith) in
    blanks-before bs n (omega arith) (λ k l. f (suc k) (omega arith)) ∙ sym (token-blank b bs (blank-apart b e) e)

row-before : (bs : Bytes) (n : ℕ) → n ≤ length bs → ((k : ℕ) → k < n → in_word (byte bs k) ≡ true) → every in_word (take n bs) ≡ true
unfolding every
row-before bs zero h f = refl
row-before [] (suc n) h f = absurd (omega arith)
row-before (b ∷ bs) (suc n) h f = rw (every, f 0 (omega arith)) (row-before bs n (omega arith) (λ k l. f (suc k) (omega arith)))

front-after : (bs : Bytes) (n : ℕ) → RunEnds in_word bs n → in_front (drop n bs) ≡ false
unfolding in_front
front-after [] zero e = refl
front-after (b ∷ bs) zero e = e.stops (omega arith)
front-after [] (suc n) e = refl
front-after (b ∷ bs) (suc n) e =
    front-after bs n (record { inside = omega (arith, e.inside); before = λ k h. e.before (suc k) (omega arith); stops = λ h. e.stops (omega arith) })

module _ (line : Bytes) (at : ℕ) (l : at ≤ length line) (n : ℕ) where
  byte-there : byte (drop at line) n ≡ byte line (at + n)
  byte-there = get_or-drop at line n 0

  past-run : RunEnds is_blank (drop at line) n → PastBlanks line at (at + n)
  past-run e = record {
    onward = omega arith;
    inside = omega (arith, length-drop at line);
    left = ap tokens (sym (drop-drop n at line)) ∙ blanks-before (drop at line) n e.inside e.before;
    stops = λ h. ap is_blank (sym byte-there) ∙ e.stops (omega (arith, length-drop at line));
  }

  word-run : RunEnds in_word (drop at line) n → WordEnd line at (at + n)
  word-run e =
      let z : at + n - at ≡ n = omega arith in
      record {
        onward = omega arith;
        inside = omega (arith, length-drop at line);
        row = ap (λ (k : ℕ). every in_word (part line at k)) z ∙ row-before (drop at line) n e.inside e.before;
        stops = ap in_front (sym (drop-drop n at line)) ∙ front-after (drop at line) n e;
      }

-- the same of what is left of the line, as `&line[at..]` has it
abbrev rest : Bytes → ℕ → Bytes
rest line at = take (length line - at) (drop at line)

rest-ends : (p : ℕ → Bool) (line : Bytes) (at : ℕ) (r : Option ℕ) (n : ℕ) → n ≡ unwrap_or r (length (rest line at)) → First p (rest line at) r
    → RunEnds p (drop at line) n
rest-ends p line at r n e f =
    subst (λ (bs : Bytes). RunEnds p bs n) (take_rest line at) (subst (RunEnds p (rest line at)) (sym e) (run_ends p (rest line at) r f))

module _ (line : Bytes) (at : ℕ) (l : at ≤ length line) (r : Option ℕ) (n : ℕ) (e : n ≡ unwrap_or r (length (rest line at))) where
  pub past_blanks : First is_blank (rest line at) r → PastBlanks line at (at + n)
  past_blanks f = past-run line at l n (rest-ends is_blank line at r n e f)

  pub word_end : First in_word (rest line at) r → WordEnd line at (at + n)
  word_end f = word-run line at l n (rest-ends in_word line at r n e f)

-- a longest row of letters and digits
word-front : (w bs : Bytes) → 0 < length w → every in_word w ≡ true → in_front bs ≡ false → tokens (w ++ bs) ≡ word w ∷ tokens bs
word-front [] bs h e f = absurd (omega arith)
word-front (b ∷ w) bs h e f = tokens-word b w bs (every-head in_word b w e) (every-tail in_word b w e) f

pub whole_part : (line : Bytes) (a e : ℕ) → a ≤ e → drop a line ≡ part line a (e - a) ++ drop e line
whole_part line a e l =
    let z : a + (e - a) ≡ e = omega arith in
    sym (take-append-drop (e - a) (drop a line))
    ∙ ap (λ (t : Bytes). part line a (e - a) ++ t) (drop-drop (e - a) a line ∙ ap (λ (k : ℕ). drop k line) z)

pub length_part : (line : Bytes) (a e : ℕ) → e ≤ length line → length (part line a (e - a)) ≡ e - a
length_part line a e l = length-take-le (e - a) (drop a line) (rw (length-drop a line) (omega arith))

pub word-there : (line : Bytes) (a e : ℕ) → a < e → e ≤ length line → every in_word (part line a (e - a)) ≡ true → in_front (drop e line) ≡ false
    → tokens (drop a line) ≡ word (part line a (e - a)) ∷ tokens (drop e line)
word-there line a e l m w f =
    ap tokens (whole_part line a e (omega arith))
    ∙ word-front (part line a (e - a)) (drop e line) (omega (arith, length_part line a e m)) w f

-- no word where there is nothing, or a sign
abbrev is_word : List Token → Bool
is_word [] = false
is_word (word w ∷ ts) = true
is_word (sign s ∷ ts) = false

no_word : (bs : Bytes) → in_front bs ≡ false → (0 < length bs → is_blank (byte bs 0) ≡ false) → is_word (tokens bs) ≡ false
unfolding tokens in_front
no_word [] f g = refl
no_word (b ∷ bs) f g = ap is_word (token-sign b bs f (g (omega arith)))

pub word-missed : (line : Bytes) (i : ℕ) → in_front (drop i line) ≡ false → (i < length line → is_blank (byte line i) ≡ false)
    → (w : Bytes) (ts : List Token) → tokens (drop i line) ≡ word w ∷ ts → false ≡ true
word-missed line i f g w ts e =
    let z : byte (drop i line) 0 ≡ byte line i = get_or-drop i line 0 0 ∙ (let q : i + 0 ≡ i = omega arith in ap (byte line) q) in
    let n : length (drop i line) ≡ length line - i = length-drop i line in
    sym (no_word (drop i line) f (λ h. ap is_blank z ∙ g (omega arith))) ∙ ap is_word e

-- a word behind blanks
pub next_word : (line : Bytes) (i : ℕ) (s : Span) → PastBlanks line i s.from → WordEnd line s.from s.to → NextWord line i s
next_word line i s p e = record {
  ordered = e.onward;
  inside = e.inside;
  row = e.row;
  there = λ h. sym p.left ∙ word-there line s.from s.to h e.inside e.row e.stops;
  missed = λ h w ts q.
      word-missed line s.from (ap (λ (k : ℕ). in_front (drop k line)) h ∙ e.stops) p.stops w ts (p.left ∙ q);
}
