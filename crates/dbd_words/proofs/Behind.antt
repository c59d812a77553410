-- What is left of a line when a slot of a form has been read (R76). Assumes nothing.
use mathlib.Core.Path.{◌≡◌, refl, ap, sym, ◌∙◌}
use mathlib.Core.Bool.{Bool, true, false}
use mathlib.Core.List.{List, [], ◌∷◌, ◌++◌, append_assoc}
use lib.ListN.{length-append}
use lib.Seq.{drop-drop}
use Rattle.std.specs.Option.{option_map}
use Prim.Native.Nat.{ℕ, ◌+◌, ◌-◌, ◌<◌, ◌≤◌}
use native.Mathlib.Omega.{arith}
use lib.Dec.{eqb}
use lib.ListN.{length, drop}
use borrow.Author.Tests.{eq-eqb, ne_eqb}
use Rattle.std.specs.Prelude.{Option, Some, None}
use Rattle.std.specs.Bool.{then_some}
use Rattle.forest.specs.Forest.{inside, outside, side}
use Rattle.forest.specs.Good.{on, off, is}
use Rattle.rules.specs.Block.{Bytes, byte, part, same_bytes}
use Rattle.statements.specs.Text.{bytes_of}
use Rattle.statements.specs.Words.{Token, word, sign, in_word, is_blank, in_front, joined, tokens, is_name, is_number}
use Rattle.statements.specs.Statement.{Slot, only, mark, no_parent, suits, marks, fits}
use Rattle.statements.proofs.Words.{clash, token-word, token-sign}
use Rattle.dbd_words.specs.declared.Span.{Span}
use Rattle.dbd_words.specs.declared.Asks.{Asks}
use Rattle.dbd_words.specs.declared.Asks.TheVariants.{AName, ANumber, AParent, OneOf}
use Rattle.dbd_words.specs.Row.{cut, asked, behind, is_none, PastBlanks, NextWord, Reached, Held, Ends}
use Rattle.dbd_words.proofs.Left.{left_at, none_left}

-- one token
pub behind-in : (s : Slot) (ss : List Slot) (t : Token) (ts : List Token) → fits s t ≡ true → behind (s ∷ ss) (t ∷ ts) ≡ behind ss ts
unfolding behind
behind-in s ss t ts h = rw (behind, h)

pub behind-out : (s : Slot) (ss : List Slot) (t : Token) (ts : List Token) → fits s t ≡ false → behind (s ∷ ss) (t ∷ ts) ≡ None
unfolding behind
behind-out s ss t ts h = rw (behind, h)

pub behind-end : (s : Slot) (ss : List Slot) → behind (s ∷ ss) [] ≡ None
unfolding behind
behind-end s ss = refl

pub behind-all : (ts : List Token) → behind [] ts ≡ Some ts
unfolding behind
behind-all ts = refl

-- several slots one after the other
behind-more : (ss us : List Slot) (x y : List Token) → behind ss x ≡ Some y → behind (ss ++ us) x ≡ behind us y
behind-more [] us x y e = let z : Some x ≡ Some y = sym (behind-all x) ∙ e in cc
behind-more (s ∷ ss) us [] y e = let z : None ≡ Some y = sym (behind-end s ss) ∙ e in cc
behind-more (s ∷ ss) us (t ∷ x) y e = elim (is (fits s t)) [
  | on h ↦ behind-in s (ss ++ us) t x h ∙ behind-more ss us x y (sym (behind-in s ss t x h) ∙ e)
  | off h ↦ (let z : None ≡ Some y = sym (behind-out s ss t x h) ∙ e in cc)
]

-- each slot has taken one token
behind-drop : (ss : List Slot) (x y : List Token) → behind ss x ≡ Some y → y ≡ drop (length ss) x
behind-drop [] x y e = let z : Some x ≡ Some y = sym (behind-all x) ∙ e in cc
behind-drop (s ∷ ss) [] y e = let z : None ≡ Some y = sym (behind-end s ss) ∙ e in cc
behind-drop (s ∷ ss) (t ∷ x) y e = elim (is (fits s t)) [
  | on h ↦ behind-drop ss x y (sym (behind-in s ss t x h) ∙ e)
  | off h ↦ (let z : None ≡ Some y = sym (behind-out s ss t x h) ∙ e in cc)
]

behind-none : (ss us : List Slot) (x : List Token) → behind ss x ≡ None → behind (ss ++ us) x ≡ None
behind-none [] us x e = let z : Some x ≡ None = sym (behind-all x) ∙ e in cc
behind-none (s ∷ ss) us [] e = behind-end s (ss ++ us)
behind-none (s ∷ ss) us (t ∷ x) e = elim (is (fits s t)) [
  | on h ↦ behind-in s (ss ++ us) t x h ∙ behind-none ss us x (sym (behind-in s ss t x h) ∙ e)
  | off h ↦ behind-out s (ss ++ us) t x h
]

pub reached-on : {line : Bytes} {i j : ℕ} {ss us : List Slot} {r : Option ℕ} → Reached line i ss (Some j) → Reached line j us r
    → Reached line i (ss ++ us) r
reached-on {line} {i} {j} {ss} {us} {r} p q = record {
  inside = q.inside;
  left = q.left ∙ sym (behind-more ss us (tokens (drop i line)) (tokens (drop j line)) (sym p.left));
}

pub reached-off : {line : Bytes} {i : ℕ} {ss : List Slot} (us : List Slot) → Reached line i ss None → Reached line i (ss ++ us) None
reached-off {line} {i} {ss} us p = record { inside = tt; left = sym (behind-none ss us (tokens (drop i line)) (sym p.left)) }

pub reached-drop : {line : Bytes} {i j : ℕ} {ss : List Slot} → Reached line i ss (Some j) → tokens (drop j line) ≡ drop (length ss) (tokens (drop i line))
reached-drop {line} {i} {j} {ss} p = behind-drop ss (tokens (drop i line)) (tokens (drop j line)) (sym p.left)

-- a word that was held is a slot that was reached
pub reached-held : {line : Bytes} {i : ℕ} {ss : List Slot} {a : Slot} {r : Option Span} → Held line i ss a r
    → Reached line i (ss ++ (a ∷ [])) (option_map (λ (s : Span). s.to) r)
reached-held {line} {i} {ss} {a} {r = None} h = record { inside = tt; left = h.left }
reached-held {line} {i} {ss} {a} {r = Some s} h = record { inside = h.inside; left = h.left }

pub held-on : {line : Bytes} {i j : ℕ} {ss us : List Slot} {a : Slot} {r : Option Span} → Reached line i ss (Some j) → Held line j us a r
    → Held line i (ss ++ us) a r
held-on {line} {i} {j} {ss} {us} {a} {r = None} p h = record {
  some = tt;
  inside = tt;
  left = (reached-on p (reached-held h)).left ∙ ap (λ (qs : List Slot). behind qs (tokens (drop i line))) (sym (append_assoc ss us (a ∷ [])));
  there = tt;
  fit = tt;
}
held-on {line} {i} {j} {ss} {us} {a} {r = Some s} p h = record {
  some = h.some;
  inside = h.inside;
  left = (reached-on p (reached-held h)).left ∙ ap (λ (qs : List Slot). behind qs (tokens (drop i line))) (sym (append_assoc ss us (a ∷ [])));
  there =
      ap (λ (k : ℕ). drop k (tokens (drop i line))) (length-append ss us) ∙ sym (drop-drop (length us) (length ss) (tokens (drop i line)))
      ∙ ap (drop (length us)) (sym (reached-drop p)) ∙ h.there;
  fit = h.fit;
}

-- a word behind a word
pub held-after : {line : Bytes} {i : ℕ} {ss us : List Slot} {a b : Slot} {s : Span} {r : Option Span} → Held line i ss a (Some s) → Held line s.to us b r
    → Held line i (ss ++ (a ∷ []) ++ us) b r
held-after h k = held-on (reached-held h) k

pub held-off : {line : Bytes} {i : ℕ} {ss : List Slot} (us : List Slot) (a : Slot) → Reached line i ss None → Held line i (ss ++ us) a None
held-off {line} {i} {ss} us a p = record {
  some = tt;
  inside = tt;
  left = (reached-off (us ++ (a ∷ [])) p).left ∙ ap (λ (qs : List Slot). behind qs (tokens (drop i line))) (sym (append_assoc ss us (a ∷ [])));
  there = tt;
  fit = tt;
}

-- a token that fits
word_fits : (s : Slot) (w : Bytes) (b : Bool) → suits s w ≡ b → fits s (word w) ≡ b
unfolding fits
word_fits s w b h = h

sign_fits : (s : Slot) (b : ℕ) (c : Bool) → marks s b ≡ c → fits s (sign b) ≡ c
unfolding fits
sign_fits s b c h = h

none-tokens : (line : Bytes) (i : ℕ) → length line ≤ i → tokens (drop i line) ≡ []
unfolding tokens
none-tokens line i h = rw (none_left line i h)

-- the next word, held against a slot that asks for one
abbrev NoWord : List Token → Type 0
NoWord x = (w : Bytes) (ts : List Token) → x ≡ word w ∷ ts → false ≡ true

unworded : (s : Slot) → ((b : ℕ) → marks s b ≡ false) → (x : List Token) → NoWord x → behind (s ∷ []) x ≡ None
unworded s m [] n = behind-end s []
unworded s m (word w ∷ ts) n = clash (n w ts refl)
unworded s m (sign b ∷ ts) n = behind-out s [] (sign b) ts (sign_fits s b false (m b))

module _ (line : Bytes) (i : ℕ) (s : Span) (a : Slot) (n : NextWord line i s) (m : (b : ℕ) → marks a b ≡ false) where
  behind-missed : suits a (cut line s) ≡ false → behind (a ∷ []) (tokens (drop i line)) ≡ None
  behind-missed h = elim (side s.from s.to) [
    | inside l ↦ ap (behind (a ∷ [])) (n.there l) ∙ behind-out a [] (word (cut line s)) (tokens (drop s.to line)) (word_fits a (cut line s) false h)
    | outside l ↦ unworded a m (tokens (drop i line)) (n.missed (let o : s.from ≤ s.to = n.ordered in omega arith))
  ]

  behind-word : s.from < s.to → suits a (cut line s) ≡ true → behind (a ∷ []) (tokens (drop i line)) ≡ Some (tokens (drop s.to line))
  behind-word l h =
      ap (behind (a ∷ [])) (n.there l) ∙ behind-in a [] (word (cut line s)) (tokens (drop s.to line)) (word_fits a (cut line s) true h)
      ∙ behind-all (tokens (drop s.to line))

  -- an empty word suits none
  word-some : suits a [] ≡ false → suits a (cut line s) ≡ true → s.from < s.to
  word-some e h = elim (side s.from s.to) [
    | inside l ↦ l
    | outside l ↦ (let z : s.to - s.from ≡ 0 = omega arith in clash (sym e ∙ ap (λ (k : ℕ). suits a (part line s.from k)) (sym z) ∙ h))
  ]

-- this word
only-marks : (v : Bytes) (b : ℕ) → marks (only v) b ≡ false
unfolding marks
only-marks v b = refl

only-suits : (v w : Bytes) → suits (only v) w ≡ same_bytes v w
unfolding suits
only-suits v w = refl

only-empty : (v : Bytes) → 0 < length v → suits (only v) [] ≡ false
unfolding suits same_bytes
only-empty [] h = absurd (omega arith)
only-empty (x ∷ v) h = refl

pub keyword : (line v : Bytes) (i : ℕ) (s : Span) (b : Bool) → NextWord line i s → 0 < length v → b ≡ same_bytes v (cut line s)
    → Reached line i (only v ∷ []) (then_some b s.to)
keyword line v i s true n h e =
    let z : suits (only v) (cut line s) ≡ true = only-suits v (cut line s) ∙ sym e in
    record {
      inside = n.inside;
      left = sym (behind-word line i s (only v) n (only-marks v) (word-some line i s (only v) n (only-marks v) (only-empty v h) z) z);
    }
keyword line v i s false n h e = record {
  inside = tt;
  left = sym (behind-missed line i s (only v) n (only-marks v) (only-suits v (cut line s) ∙ sym e));
}

-- a word that fits
asked-marks : (a : Asks) (b : ℕ) → marks (asked a) b ≡ false
unfolding marks
asked-marks AName b = refl
asked-marks ANumber b = refl
asked-marks AParent b = refl
asked-marks (OneOf x y) b = refl

asked-empty : (a : Asks) → suits (asked a) [] ≡ false
unfolding suits is_name is_number same_bytes no_parent bytes_of
asked-empty AName = refl
asked-empty ANumber = refl
asked-empty AParent = refl
asked-empty (OneOf x y) = refl

pub held : (line : Bytes) (i : ℕ) (a : Asks) (s : Span) (b : Bool) → NextWord line i s → b ≡ suits (asked a) (cut line s)
    → Held line i [] (asked a) (then_some b s)
held line i a s true n e =
    let l : s.from < s.to = word-some line i s (asked a) n (asked-marks a) (asked-empty a) (sym e) in
    record {
      some = l;
      inside = n.inside;
      left = sym (behind-word line i s (asked a) n (asked-marks a) l (sym e));
      there = n.there l;
      fit = sym e;
    }
held line i a s false n e = record {
  some = tt;
  inside = tt;
  left = sym (behind-missed line i s (asked a) n (asked-marks a) (sym e));
  there = tt;
  fit = tt;
}

-- this sign
mark-word : (s : ℕ) (w : Bytes) (ts : List Token) → behind (mark s ∷ []) (word w ∷ ts) ≡ None
unfolding suits
mark-word s w ts = behind-out (mark s) [] (word w) ts (word_fits (mark s) w false refl)

mark-joined : (s : ℕ) (c : Bool) (b : ℕ) (ts : List Token) → behind (mark s ∷ []) (joined c b ts) ≡ None
unfolding joined
mark-joined s true b [] = mark-word s (b ∷ []) []
mark-joined s true b (word w ∷ ts) = mark-word s (b ∷ w) ts
mark-joined s true b (sign k ∷ ts) = mark-word s (b ∷ []) (sign k ∷ ts)
mark-joined s false b ts = mark-word s (b ∷ []) ts

mark-sign : (s b : ℕ) (ts : List Token) → eqb s b ≡ true → behind (mark s ∷ []) (sign b ∷ ts) ≡ Some ts
unfolding marks
mark-sign s b ts e = behind-in (mark s) [] (sign b) ts (sign_fits (mark s) b true e) ∙ behind-all ts

mark-other : (s b : ℕ) (ts : List Token) → eqb s b ≡ false → behind (mark s ∷ []) (sign b ∷ ts) ≡ None
unfolding marks
mark-other s b ts e = behind-out (mark s) [] (sign b) ts (sign_fits (mark s) b false e)

mark-byte : (s b : ℕ) (bs : Bytes) → is_blank b ≡ false → (b ≡ s → ⊥) → behind (mark s ∷ []) (tokens (b ∷ bs)) ≡ None
mark-byte s b bs e n = elim (is (in_word b)) [
  | on h ↦ ap (behind (mark s ∷ [])) (token-word b bs h) ∙ mark-joined s (in_front bs) b (tokens bs)
  | off h ↦ ap (behind (mark s ∷ [])) (token-sign b bs h e) ∙ mark-other s b (tokens bs) (ne_eqb s b (λ z. n (sym z)))
]

module _ (line : Bytes) (i r s : ℕ) (p : PastBlanks line i r) where
  pub sign-there : in_word s ≡ false → is_blank s ≡ false → r < length line → byte line r ≡ s → Reached line i (mark s ∷ []) (Some (r + 1))
  sign-there f g l e = record {
    inside = omega arith;
    left =
        sym (ap (behind (mark s ∷ []))
        (sym p.left ∙ ap tokens (left_at line r l) ∙ token-sign (byte line r) (drop (r + 1) line) (ap in_word e ∙ f) (ap is_blank e ∙ g))
        ∙ mark-sign s (byte line r) (tokens (drop (r + 1) line)) (eq-eqb s (byte line r) (sym e)));
  }

  pub sign-missed : (r < length line → byte line r ≡ s → ⊥) → Reached line i (mark s ∷ []) None
  sign-missed n = record {
    inside = tt;
    left = elim (side r (length line)) [
      | inside l ↦
          sym (ap (behind (mark s ∷ [])) (sym p.left ∙ ap tokens (left_at line r l)) ∙ mark-byte s (byte line r) (drop (r + 1) line) (p.stops l) (n l))
      | outside l ↦ sym (ap (behind (mark s ∷ [])) (sym p.left ∙ none-tokens line r l) ∙ behind-end (mark s) [])
    ];
  }

-- nothing is left
some-joined : (c : Bool) (b : ℕ) (ts : List Token) → is_none (joined c b ts) ≡ false
unfolding joined
some-joined true b [] = refl
some-joined true b (word w ∷ ts) = refl
some-joined true b (sign k ∷ ts) = refl
some-joined false b ts = refl

some_byte : (b : ℕ) (bs : Bytes) → is_blank b ≡ false → is_none (tokens (b ∷ bs)) ≡ false
some_byte b bs e = elim (is (in_word b)) [
  | on h ↦ ap is_none (token-word b bs h) ∙ some-joined (in_front bs) b (tokens bs)
  | off h ↦ ap is_none (token-sign b bs h e)
]

pub at_end : (line : Bytes) (i r : ℕ) → PastBlanks line i r → Ends line i (eqb r (length line))
at_end line i r p = elim (side r (length line)) [
  | inside l ↦
      ne_eqb r (length line) (λ e. omega arith)
      ∙ sym (ap is_none (sym p.left ∙ ap tokens (left_at line r l)) ∙ some_byte (byte line r) (drop (r + 1) line) (p.stops l))
  | outside l ↦ eq-eqb r (length line) (let o : r ≤ length line = p.inside in omega arith) ∙ sym (ap is_none (sym p.left ∙ none-tokens line r l))
]
