-- What each form tells of a line, once its words were read: a name in its place, a number's value, the kind of a key. Assumes nothing.
use mathlib.Core.Path.{◌≡◌, refl, ap, sym, ◌∙◌}
use mathlib.Core.Bool.{Bool, true, false, ◌&&◌, ◌||◌}
use mathlib.Core.List.{List, [], ◌∷◌, ◌++◌}
use Prim.Native.Nat.{ℕ, suc, ◌+◌, ◌-◌, ◌<◌, ◌≤◌}
use native.Mathlib.Omega.{arith}
use lib.Dec.{leb, eqb}
use lib.ListN.{length, take, drop, length-drop}
use lib.Seq.{length-take-le, drop-cons}
use borrow.Author.Tests.{leb-true, leb-false, ne_eqb}
use Rattle.forest.specs.Good.{on, off, is, both_left, both_right}
use Rattle.rules.specs.Block.{Bytes, byte, part, every, same_bytes}
use Rattle.blocks.proofs.Remaining.{same_length}
use Rattle.statements.specs.Text.{bytes_of}
use Rattle.statements.specs.Words.{tokens, in_word, is_letter, is_name, is_number, value}
use Rattle.statements.specs.Statement.{Slot, only, mark, either, name, number, parent, equals, comma, opens, shuts, no_parent, suits, formed, word_at, kind_of}
use Rattle.statements.specs.Statement.{word_dbd, word_segm, word_field, word_name, word_parent, word_bytes, word_start, word_type, word_seq}
use Rattle.statements.specs.Statement.{dbd_form, segm_form, span_form, field_form, key_form, dbd_of, segm_of, field_of, key_of}
use Rattle.statements.proofs.Words.{clash}
use Rattle.dbd_words.specs.declared.Span.{Span}
use Rattle.dbd_words.specs.Capped.{capped}
use Rattle.dbd_words.specs.Row.{cut, Reached, Held, Ends}
use Rattle.dbd_words.proofs.Behind.{reached-on, reached-held, held-on, held-after}
use Rattle.dbd_line.specs.declared.Line.TheVariants.{IsDbd, IsSegm, IsField}
use Rattle.dbd_line.specs.declared.forms.Extent.{Extent}
use Rattle.dbd_line.specs.Meant.{InLine, Meant, Tells, Spanned}
use Rattle.dbd_line.proofs.Row.{unformed, form-ends, reached-form, reached-word, held-word}
use Rattle.std.specs.Prelude.{Option, Some, None, is_some}
use Rattle.std.specs.Bool.{then_some}

-- a name has at most 8 bytes, and so has the word 0
name-few : (w : Bytes) → is_name w ≡ true → length w ≤ 8
unfolding is_name
name-few [] e = omega arith
name-few (b ∷ bs) e =
    let z : leb (length bs) 7 ≡ true = both_right (is_letter b) (leb (length bs) 7) (both_left (is_letter b && leb (length bs) 7) (every in_word bs) e) in
    omega (arith, leb-true (length bs) 7 z)

either-of : (a b : Bool) → a ≡ false → (a || b) ≡ true → b ≡ true
either-of true b e f = clash (sym e)
either-of false b e f = f

parent-few : (w : Bytes) → suits parent w ≡ true → length w ≤ 8
unfolding suits no_parent bytes_of
parent-few w e = elim (is (leb (length w) 8)) [
  | on h ↦ leb-true (length w) 8 h
  | off h ↦ (let l : 8 < length w = leb-false (length w) 8 h in
      name-few w (either-of (same_bytes no_parent w) (is_name w) (sym (same_length no_parent w (λ z. omega arith))) e))
]

-- a word that stands in its line, with as many bytes as its span
cut-length : (line : Bytes) (s : Span) → s.from ≤ s.to → s.to ≤ length line → length (cut line s) ≡ s.to - s.from
cut-length line s l h = length-take-le (s.to - s.from) (drop s.from line) (simp length-drop (omega arith))

module _ {line : Bytes} {i : ℕ} {ss : List Slot} {s : Span} where
  in-line : {a : Slot} → Held line i ss a (Some s) → length (cut line s) ≤ 8 → InLine line s (word_at (tokens (drop i line)) (length ss))
  in-line h l =
      let m : s.from < s.to = h.some in
      let k : s.to ≤ length line = h.inside in
      let z : length (cut line s) ≡ s.to - s.from = cut-length line s (omega arith) k in
      record { some = m; few = omega arith; inside = k; is = held-word h }

  named : Held line i ss name (Some s) → InLine line s (word_at (tokens (drop i line)) (length ss))
  unfolding suits
  named h = in-line h (name-few (cut line s) h.fit)

  parented : Held line i ss parent (Some s) → InLine line s (word_at (tokens (drop i line)) (length ss))
  parented h = in-line h (parent-few (cut line s) h.fit)

  -- a number's word is one, and its value is the word's
  pub is_number_held : Held line i ss number (Some s) → is_number (cut line s) ≡ true
  unfolding suits
  is_number_held h = h.fit

  valued : {v : ℕ} → Held line i ss number (Some s) → v ≡ capped (value (cut line s)) → v ≡ capped (value (word_at (tokens (drop i line)) (length ss)))
  valued h e = e ∙ sym (ap (λ (w : Bytes). capped (value w)) (held-word h))

-- DBD
pub dbd-told : {line : Bytes} {n : Span} → Held line 0 (only word_dbd ∷ only word_name ∷ mark equals ∷ []) name (Some n) → (r : Bool) → Ends line n.to r
    → Tells dbd_form (dbd_of (tokens line)) line (then_some r (IsDbd n))
unfolding dbd_form dbd_of
dbd-told a true e = (form-ends a e, named a)
dbd-told a false e = form-ends a e

-- SEGM
module _ {line : Bytes} {n p l : Span} (a : Held line 0 (only word_segm ∷ only word_name ∷ mark equals ∷ []) name (Some n))
    (b : Held line n.to (mark comma ∷ only word_parent ∷ mark equals ∷ []) parent (Some p))
    (c : Held line p.to (mark comma ∷ only word_bytes ∷ mark equals ∷ []) number (Some l)) where
  pub segm-told : (v : ℕ) → v ≡ capped (value (cut line l)) → (r : Bool) → Ends line l.to r
      → Tells segm_form (segm_of (tokens line)) line (then_some r (IsSegm n p v))
  unfolding segm_form segm_of
  segm-told v w true e =
      (form-ends (held-after (held-after a b) c) e, (named a, parented (held-after a b), valued (held-after (held-after a b) c) w))
  segm-told v w false e = form-ends (held-after (held-after a b) c) e

-- the end of both forms of FIELD
module _ {line : Bytes} {i : ℕ} {l s t : Span} (a : Held line i (mark comma ∷ only word_bytes ∷ mark equals ∷ []) number (Some l))
    (b : Held line l.to (mark comma ∷ only word_start ∷ mark equals ∷ []) number (Some s))
    (c : Held line s.to (mark comma ∷ only word_type ∷ mark equals ∷ []) (either 0x43 0x58) (Some t)) where
  pub span-told : (v w : ℕ) → v ≡ capped (value (cut line l)) → w ≡ capped (value (cut line s)) → (r : Bool) → Ends line t.to r
      → Spanned line i (then_some r (record { long = v; start = w }))
  unfolding span_form
  span-told v w x y true e =
      record { whole = sym (form-ends (held-after (held-after a b) c) e); length = valued a x; begin = valued (held-after a b) y }
  span-told v w x y false e = record { whole = sym (form-ends (held-after (held-after a b) c) e); length = tt; begin = tt }

pub span-none : {line : Bytes} {i : ℕ} {ss : List Slot} (us : List Slot) → Reached line i ss None → ss ++ us ≡ span_form → Spanned line i None
span-none {line} {i} {ss} us p e = record {
  whole = sym (ap (λ (qs : List Slot). formed qs (tokens (drop i line))) (sym e) ∙ unformed us p);
  length = tt;
  begin = tt;
}

-- a form that ends so: its first slots were read up to i
module _ {line : Bytes} {i : ℕ} {ss : List Slot} {r : Option Extent} (p : Reached line 0 ss (Some i)) (s : Spanned line i r) where
  spanned-form : formed (ss ++ span_form) (tokens line) ≡ is_some r
  spanned-form = reached-form p span_form ∙ sym s.whole

module _ {line : Bytes} {i : ℕ} {ss : List Slot} {x : Extent} (p : Reached line 0 ss (Some i)) (s : Spanned line i (Some x)) where
  spanned-bytes : x.long ≡ capped (value (word_at (tokens line) (length ss + 3)))
  spanned-bytes = s.length ∙ ap (λ (w : Bytes). capped (value w)) (reached-word p 3)

  spanned-start : x.start ≡ capped (value (word_at (tokens line) (length ss + 7)))
  spanned-start = s.begin ∙ ap (λ (w : Bytes). capped (value w)) (reached-word p 7)

pub field-none : {line : Bytes} {n : Span} → Held line 0 (only word_field ∷ only word_name ∷ mark equals ∷ []) name (Some n) → Spanned line n.to None
    → formed field_form (tokens line) ≡ false
unfolding field_form
field-none a s = spanned-form (reached-held a) s

-- FIELD
pub field-told : {line : Bytes} {n : Span} {x : Extent} → Held line 0 (only word_field ∷ only word_name ∷ mark equals ∷ []) name (Some n)
    → Spanned line n.to (Some x) → (formed field_form (tokens line) ≡ true) × Meant line (field_of (tokens line)) (IsField n 0 x.long x.start)
unfolding field_form field_of
field-told a s =
    (spanned-form (reached-held a) s, (named a, refl, spanned-bytes (reached-held a) s, spanned-start (reached-held a) s))

-- R77: the letter of a key; the first byte of a word tells its kind
cut-front : (line : Bytes) (s : Span) → s.from < s.to → s.to ≤ length line
    → cut line s ≡ byte line s.from ∷ part line (suc s.from) (s.to - s.from - 1)
cut-front line s l h =
    let z : s.to - s.from ≡ suc (s.to - s.from - 1) = omega arith in
    ap (λ (n : ℕ). take n (drop s.from line)) z ∙ ap (take (suc (s.to - s.from - 1))) (drop-cons line s.from 0 (omega arith))

one-kind : (w : Bytes) → suits (either 0x55 0x4D) (0x55 ∷ w) ≡ true → kind_of (0x55 ∷ w) ≡ 1
unfolding suits kind_of same_bytes
one-kind [] e = refl
one-kind (b ∷ w) e = clash e

other-kind : (b : ℕ) (w : Bytes) → eqb 0x55 b ≡ false → kind_of (b ∷ w) ≡ 2
unfolding kind_of same_bytes
other-kind b w e = rw (same_bytes, e)

-- FIELD with SEQ
module _ {line : Bytes} {i j : ℕ} {n : Span} (a : Reached line 0 (only word_field ∷ only word_name ∷ mark equals ∷ []) (Some i))
    (b : Reached line i (mark opens ∷ []) (Some j)) (c : Held line j [] name (Some n)) where
  pub key-name : Held line 0 (only word_field ∷ only word_name ∷ mark equals ∷ mark opens ∷ []) name (Some n)
  key-name = held-on (reached-on a b) c

  module _ {k m : ℕ} (d : Reached line n.to (mark comma ∷ []) (Some k)) (e : Reached line k (only word_seq ∷ []) (Some m)) where
    pub key-seq : Reached line 0 (only word_field ∷ only word_name ∷ mark equals ∷ mark opens ∷ name ∷ mark comma ∷ only word_seq ∷ []) (Some m)
    key-seq = reached-on (reached-on (reached-held key-name) d) e

    module _ {o : ℕ} {l : Span} (f : Reached line m (mark comma ∷ []) (Some o)) (g : Held line o [] (either 0x55 0x4D) (Some l)) where
      pub key-letter : Held line 0 (take 8 key_form) (either 0x55 0x4D) (Some l)
      unfolding key_form
      key-letter = held-on (reached-on key-seq f) g

      module _ {q : ℕ} (h : Reached line l.to (mark shuts ∷ []) (Some q)) where
        key-span : Reached line 0 (take 10 key_form) (Some q)
        unfolding key_form
        key-span = reached-on (reached-held key-letter) h

        pub key-none : Spanned line q None → formed key_form (tokens line) ≡ false
        unfolding key_form
        key-none s = spanned-form key-span s

        key-kind : {x : Extent} (y : ℕ) → Spanned line q (Some x) → kind_of (cut line l) ≡ y
            → (formed key_form (tokens line) ≡ true) × Meant line (key_of (tokens line)) (IsField n y x.long x.start)
        unfolding key_form key_of
        key-kind y s w =
            (spanned-form key-span s, (named key-name, ap kind_of (held-word key-letter) ∙ w, spanned-bytes key-span s, spanned-start key-span s))

        pub key-unique : {x : Extent} → Spanned line q (Some x) → byte line l.from ≡ 0x55
            → (formed key_form (tokens line) ≡ true) × Meant line (key_of (tokens line)) (IsField n 1 x.long x.start)
        key-unique s w =
            let y : cut line l ≡ 0x55 ∷ part line (suc l.from) (l.to - l.from - 1) =
            cut-front line l g.some g.inside ∙ ap (λ (b : ℕ). b ∷ part line (suc l.from) (l.to - l.from - 1)) w in
            key-kind 1 s (ap kind_of y ∙ one-kind (part line (suc l.from) (l.to - l.from - 1)) (sym (ap (suits (either 0x55 0x4D)) y) ∙ g.fit))

        pub key-multiple : {x : Extent} → Spanned line q (Some x) → (byte line l.from ≡ 0x55 → ⊥)
            → (formed key_form (tokens line) ≡ true) × Meant line (key_of (tokens line)) (IsField n 2 x.long x.start)
        key-multiple s w =
            key-kind 2 s (ap kind_of (cut-front line l g.some g.inside)
            ∙ other-kind (byte line l.from) (part line (suc l.from) (l.to - l.from - 1)) (ne_eqb 0x55 (byte line l.from) (λ y. w (sym y))))
