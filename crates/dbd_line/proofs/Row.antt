-- A row of words and signs held against a form, slot by slot: what is left behind the first slots, and the word that stands at a slot. Assumes nothing.
use mathlib.Core.Path.{◌≡◌, refl, ap, sym, ◌∙◌}
use mathlib.Core.Bool.{Bool, true, false}
use mathlib.Core.List.{List, [], ◌∷◌, ◌++◌, append-nil}
use Prim.Native.Nat.{ℕ, ◌+◌}
use native.Mathlib.Omega.{arith}
use lib.ListN.{length, get_or, drop}
use lib.Seq.{get_or-drop}
use Rattle.std.specs.Prelude.{Some, None}
use Rattle.forest.specs.Good.{on, off, is}
use Rattle.rules.specs.Block.{Bytes}
use Rattle.statements.specs.Words.{Token, word, tokens}
use Rattle.statements.specs.Statement.{Slot, fits, formed, word_in, word_at}
use Rattle.dbd_words.specs.declared.Span.{Span}
use Rattle.dbd_words.specs.Row.{cut, behind, is_none, Reached, Held, Ends}
use Rattle.dbd_words.proofs.Behind.{behind-in, behind-out, behind-end, behind-all, reached-drop, reached-held}

formed-in : (s : Slot) (t : Token) (ss : List Slot) (ts : List Token) → fits s t ≡ true → formed (s ∷ ss) (t ∷ ts) ≡ formed ss ts
unfolding formed
formed-in s t ss ts h = rw (formed, h)

formed-out : (s : Slot) (t : Token) (ss : List Slot) (ts : List Token) → fits s t ≡ false → formed (s ∷ ss) (t ∷ ts) ≡ false
unfolding formed
formed-out s t ss ts h = rw (formed, h)

formed-end : (s : Slot) (ss : List Slot) → formed (s ∷ ss) [] ≡ false
unfolding formed
formed-end s ss = refl

formed-last : (ts : List Token) → formed [] ts ≡ is_none ts
unfolding formed
formed-last [] = refl
formed-last (t ∷ ts) = refl

-- the slots behind the first ones are held against what is left behind those
formed-behind : (ss us : List Slot) (x y : List Token) → behind ss x ≡ Some y → formed (ss ++ us) x ≡ formed us y
formed-behind [] us x y e = let z : Some x ≡ Some y = sym (behind-all x) ∙ e in cc
formed-behind (s ∷ ss) us [] y e = let z : None ≡ Some y = sym (behind-end s ss) ∙ e in cc
formed-behind (s ∷ ss) us (t ∷ x) y e = elim (is (fits s t)) [
  | on h ↦ formed-in s t (ss ++ us) x h ∙ formed-behind ss us x y (sym (behind-in s ss t x h) ∙ e)
  | off h ↦ (let z : None ≡ Some y = sym (behind-out s ss t x h) ∙ e in cc)
]

formed-none : (ss us : List Slot) (x : List Token) → behind ss x ≡ None → formed (ss ++ us) x ≡ false
formed-none [] us x e = let z : Some x ≡ None = sym (behind-all x) ∙ e in cc
formed-none (s ∷ ss) us [] e = formed-end s (ss ++ us)
formed-none (s ∷ ss) us (t ∷ x) e = elim (is (fits s t)) [
  | on h ↦ formed-in s t (ss ++ us) x h ∙ formed-none ss us x (sym (behind-in s ss t x h) ∙ e)
  | off h ↦ formed-out s t (ss ++ us) x h
]

module _ {line : Bytes} {i j : ℕ} {ss : List Slot} (p : Reached line i ss (Some j)) where
  pub reached-form : (us : List Slot) → formed (ss ++ us) (tokens (drop i line)) ≡ formed us (tokens (drop j line))
  reached-form us = formed-behind ss us (tokens (drop i line)) (tokens (drop j line)) (sym p.left)

  pub reached-word : (k : ℕ) → word_at (tokens (drop j line)) k ≡ word_at (tokens (drop i line)) (length ss + k)
  unfolding word_at
  reached-word k =
      ap (λ (l : List Token). word_in (get_or l k (word []))) (reached-drop p) ∙ ap word_in (get_or-drop (length ss) (tokens (drop i line)) k (word []))

-- the whole form was read, and whether it ends there
pub form-ends : {line : Bytes} {i : ℕ} {ss : List Slot} {a : Slot} {s : Span} {r : Bool} → Held line i ss a (Some s) → Ends line s.to r
    → formed (ss ++ (a ∷ [])) (tokens (drop i line)) ≡ r
form-ends {line} {i} {ss} {a} {s} {r} h e =
    ap (λ (qs : List Slot). formed qs (tokens (drop i line))) (sym (append-nil (ss ++ (a ∷ []))))
    ∙ reached-form (reached-held h) [] ∙ formed-last (tokens (drop s.to line)) ∙ sym e

pub unformed : {line : Bytes} {i : ℕ} {ss : List Slot} (us : List Slot) → Reached line i ss None → formed (ss ++ us) (tokens (drop i line)) ≡ false
unformed {line} {i} {ss} us p = formed-none ss us (tokens (drop i line)) (sym p.left)

-- the word behind the slots
word-first : (x ts : List Token) (k : ℕ) (w : Bytes) → drop k x ≡ word w ∷ ts → word_at x k ≡ w
unfolding word_at word_in
word-first x ts k w e =
    let z : k + 0 ≡ k = omega arith in
    ap (λ (n : ℕ). word_in (get_or x n (word []))) (sym z) ∙ ap word_in (sym (get_or-drop k x 0 (word [])))
    ∙ ap (λ (l : List Token). word_in (get_or l 0 (word []))) e

pub held-word : {line : Bytes} {i : ℕ} {ss : List Slot} {a : Slot} {s : Span} → Held line i ss a (Some s)
    → word_at (tokens (drop i line)) (length ss) ≡ cut line s
held-word {line} {i} {ss} {a} {s} h = word-first (tokens (drop i line)) (tokens (drop s.to line)) (length ss) (cut line s) h.there
