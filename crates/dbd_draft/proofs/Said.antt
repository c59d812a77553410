-- What a line says, as the functions for its statement are asked for it. Assumes nothing.
use Rattle.std.specs.Prelude.{Option}
use mathlib.Core.Path.{◌≡◌, refl, ap, sym, ◌∙◌}
use mathlib.Core.Bool.{true, false}
use mathlib.Core.List.{List, [], ◌∷◌}
use Rattle.std.specs.Prelude.{Option, Some, Ok}
use Prim.Native.Nat.{ℕ, zero, suc, ◌-◌, ◌<◌, ◌≤◌}
use native.Mathlib.Omega.{arith}
use lib.ListN.{length, get_or}
use Rattle.forest.specs.Good.{on, off, is, both_left}
use Rattle.rules.specs.Block.{Bytes, byte}
use Rattle.dbd_words.specs.declared.Span.{Span}
use Rattle.dbd_words.specs.Row.{cut}
use Rattle.dbd_line.specs.declared.Line.{Line}
use Rattle.dbd_line.specs.declared.Line.TheVariants.{Empty, IsDbd, IsSegm, IsField}
use Rattle.dbd_line.specs.Meant.{InLine, Meant, Says, Means}
use Rattle.statements.specs.Words.{Token, word, sign, is_letter, is_name, filled, tokens}
use Rattle.statements.specs.Statement.{Statement, dbd, segm, field, Slot, name, suits, marks, fits, formed}
use Rattle.statements.specs.Statement.{dbd_form, segm_form, field_form, key_form, dbd_of, segm_of, field_of, key_of, word_in, word_at, statement_of}
use Rattle.statements.specs.Draft.{Draft, blank, begun, Taken, goes, bad, taken, taken_if, line_taken}
use Rattle.statements.proofs.Forms.{is-dbd, is-segm, is_field, is_key}
use Rattle.statements.proofs.Rows.{part_length}
use Rattle.dbd_draft.specs.Kept.{draft_of, Sound, Named, Left}
use Rattle.dbd_draft.proofs.Judgements.{filled-long, filled-first, dbd-first, segm-misplaced, field-misplaced}
use Rattle.dbd_draft.proofs.Numbers.{segm-capped, field-capped}

-- a line of blanks leaves everything
pub line-empty : (b levels line : Bytes) → Sound b levels → tokens line ≡ [] → Left (Ok tt) b levels (line_taken (draft_of b) line)
unfolding line_taken
line-empty b levels line s h = record { same = sym (rw (line_taken, h)); sound = s }

-- a slot of a form that a row has
formed-on : (s : Slot) (ss : List Slot) (t : Token) (ts : List Token) → fits s t ≡ true → formed (s ∷ ss) (t ∷ ts) ≡ formed ss ts
unfolding formed
formed-on s ss t ts h = rw (formed, h)

formed-off : (s : Slot) (ss : List Slot) (t : Token) (ts : List Token) → fits s t ≡ false → formed (s ∷ ss) (t ∷ ts) ≡ false
unfolding formed
formed-off s ss t ts h = rw (formed, h)

never : {A : Type 0} → false ≡ true → A
never h = let z : ◌≡◌ {A = ℕ} 0 1 = cc in absurd (omega arith)

formed-head : (s : Slot) (ss : List Slot) (t : Token) (ts : List Token) → formed (s ∷ ss) (t ∷ ts) ≡ true → fits s t ≡ true
formed-head s ss t ts h = elim (is (fits s t)) [ on e ↦ e | off e ↦ never (sym (formed-off s ss t ts e) ∙ h) ]

formed-at : (ss : List Slot) (ts : List Token) (k : ℕ) → formed ss ts ≡ true → k < length ss → fits (get_or ss k name) (get_or ts k (word [])) ≡ true
unfolding formed
formed-at [] ts k h l = absurd (omega arith)
formed-at (s ∷ ss) [] k h l = never h
formed-at (s ∷ ss) (t ∷ ts) zero h l = formed-head s ss t ts h
formed-at (s ∷ ss) (t ∷ ts) (suc k) h l = formed-at ss ts k (sym (formed-on s ss t ts (formed-head s ss t ts h)) ∙ h) (omega arith)

-- a name begins with a letter, which is no zero
fits-name : (t : Token) → fits name t ≡ true → is_name (word_in t) ≡ true
unfolding fits suits marks word_in
fits-name (word w) h = h
fits-name (sign b) h = never h

letter-some : (b : ℕ) → is_letter b ≡ true → 0 < b
unfolding is_letter
letter-some zero h = never h
letter-some (suc b) h = omega arith

name-some : (w : Bytes) → is_name w ≡ true → (0 < length w) × (0 < byte w 0)
unfolding is_name
name-some [] h = never h
name-some (b ∷ bs) h = (omega arith, letter-some b (both_left (is_letter b) _ (both_left _ _ h)))

dbd-name : (ts : List Token) → formed dbd_form ts ≡ true → is_name (word_at ts 3) ≡ true
unfolding dbd_form word_at
dbd-name ts h = fits-name (get_or ts 3 (word [])) (formed-at dbd_form ts 3 h (omega arith))

-- the data base's name that a line gives where there was none, which no other statement does
abbrev base_of : Taken → Bytes
base_of (goes d) = d.base
base_of (bad k) = []

base-some : (t : Taken) → base_of t ≡ [] → 0 < length (base_of t) → 0 < byte (base_of t) 0
base-some t e h = let g : 0 < length {A = ℕ} [] = rw e at h in absurd (omega arith)

base-first : (ts : List Token) → 0 < length (base_of (taken_if blank (statement_of ts))) → 0 < byte (base_of (taken_if blank (statement_of ts))) 0
unfolding taken_if begun blank segm_of field_of key_of dbd_of statement_of
base-first ts l =
    elim (is (formed dbd_form ts)) [
      | on h ↦
          let n = name-some (word_at ts 3) (dbd-name ts h) in
          let e : base_of (taken_if blank (statement_of ts)) ≡ filled (word_at ts 3) = ap (λ s. base_of (taken_if blank s)) (is-dbd ts h)
          ∙ ap base_of (dbd-first blank (word_at ts 3) refl) in
          rw e (rw (filled-first (word_at ts 3) n.0) n.1)
      | off h ↦ base-some (taken_if blank (statement_of ts)) (elim (is (formed segm_form ts)) [
        | on g ↦ ap (λ s. base_of (taken_if blank s)) (is-segm ts h g) ∙ ap base_of (segm-misplaced blank _ _ _ refl)
        | off g ↦ elim (is (formed field_form ts)) [
          | on f ↦ ap (λ s. base_of (taken_if blank s)) (is_field ts h g f) ∙ ap base_of (field-misplaced blank _ _ _ _ refl)
          | off f ↦ elim (is (formed key_form ts)) [
            | on e ↦ ap (λ s. base_of (taken_if blank s)) (is_key ts h g f e) ∙ ap base_of (field-misplaced blank _ _ _ _ refl)
            | off e ↦ rw (statement_of, h, g, f, e)
          ]
        ]
      ]) l
    ]

base-line : (line : Bytes) (ts : List Token) → tokens line ≡ ts → 0 < length (base_of (line_taken blank line)) → 0 < byte (base_of (line_taken blank line)) 0
unfolding line_taken blank
base-line line [] h l = let e : base_of (line_taken blank line) ≡ [] = rw (line_taken, h) in base-some (line_taken blank line) e l
base-line line (t ∷ ts) h l =
    let e : line_taken blank line ≡ taken_if blank (statement_of (t ∷ ts)) = rw (line_taken, h) in
    let g : 0 < length (base_of (taken_if blank (statement_of (t ∷ ts)))) = rw e at l in
    rw e (base-first (t ∷ ts) g)

dbd-some : (line n : Bytes) → ((d : Draft) → line_taken d line ≡ taken d (dbd n)) → 0 < length n → length n ≤ 8 → 0 < byte n 0
unfolding blank begun
dbd-some line n e l m =
    let f : base_of (line_taken blank line) ≡ filled n = ap base_of (e blank ∙ dbd-first blank n refl) in
    let h : 0 < length (base_of (line_taken blank line)) = rw f (omega (arith, filled-long n m)) in
    let g : 0 < byte (filled n) 0 = rw f at (base-line line (tokens line) refl h) in
    rw (filled-first n l) at g

-- the word of a span
cut-long : (line : Bytes) (a : Span) (n : Bytes) → InLine line a n → length (cut line a) ≡ a.to - a.from
cut-long line a n i = part_length line a.from (a.to - a.from) (omega (arith, i.some, i.inside))

-- where a statement's words stand in the line
pub record Placed (line : Bytes) (a : Span) : Type 0 where
  pub ordered : a.from ≤ a.to
  pub inside : a.to ≤ length line
  pub few : length (cut line a) ≤ 8

placed : (line : Bytes) (a : Span) (n : Bytes) → InLine line a n → Placed line a
placed line a n i = record { ordered = omega (arith, i.some); inside = i.inside; few = omega (arith, cut-long line a n i, i.few) }

-- DBD
dbd-said : (line : Bytes) (a : Span) (t : Statement) → Meant line t (IsDbd a) → ((d : Draft) → line_taken d line ≡ taken d t)
    → Placed line a × Named (cut line a) × ((d : Draft) → line_taken d line ≡ taken d (dbd (cut line a)))
dbd-said line a (dbd n) m e =
    let f : (d : Draft) → line_taken d line ≡ taken d (dbd (cut line a)) = λ d. e d ∙ ap (λ (x : Bytes). taken d (dbd x)) m.is in
    let p : Placed line a = placed line a n m in
    let o : 0 < length (cut line a) = omega (arith, cut-long line a n m, m.some) in
    (p, record { some = dbd-some line (cut line a) f o p.few; begun = o; few = p.few }, f)
dbd-said line a (segm n p v) m e = never m
dbd-said line a (field n k v w) m e = never m

-- SEGM, with its number as a byte holds it
segm-said : (b levels : Bytes) → Sound b levels → (line : Bytes) (a p : Span) (l : ℕ) (t : Statement) → Meant line t (IsSegm a p l)
    → ((d : Draft) → line_taken d line ≡ taken d t)
    → Placed line a × Placed line p × (line_taken (draft_of b) line ≡ taken (draft_of b) (segm (cut line a) (cut line p) l))
segm-said b levels s line a p l (dbd n) m e = never m
segm-said b levels s line a p l (segm n q v) m e =
    let i : Placed line a = placed line a n m.0 in
    let z : length n ≤ 8 = rw m.0.is i.few in
    (i, placed line p q m.1, e (draft_of b) ∙ sym (segm-capped b levels s n z q v) ∙ rw (m.0.is, m.1.is, m.2))
segm-said b levels s line a p l (field n k v w) m e = never m

-- FIELD, the same
field-said : (b levels : Bytes) → Sound b levels → (line : Bytes) (a : Span) (j l r : ℕ) (t : Statement) → Meant line t (IsField a j l r)
    → ((d : Draft) → line_taken d line ≡ taken d t)
    → Placed line a × (line_taken (draft_of b) line ≡ taken (draft_of b) (field (cut line a) j l r))
field-said b levels s line a j l r (dbd n) m e = never m
field-said b levels s line a j l r (segm n q v) m e = never m
field-said b levels s line a j l r (field n k v w) m e =
    let i : Placed line a = placed line a n m.0 in
    let z : length n ≤ 8 = rw m.0.is i.few in
    (i, e (draft_of b) ∙ sym (field-capped b levels s n z k v w) ∙ rw (m.0.is, m.1, m.2, m.3))

-- what the line that was read tells, for each kind of line
module _ (line : Bytes) (r : Option Line) (m : Means line r) where
  pub on-empty : r ≡ Some Empty → tokens line ≡ []
  on-empty e = rw e at m

  pub on-dbd : (a : Span) → r ≡ Some (IsDbd a) → Placed line a × Named (cut line a) × ((d : Draft) → line_taken d line ≡ taken d (dbd (cut line a)))
  on-dbd a e = let x : Says line (IsDbd a) = rw e at m in dbd-said line a x.statement x.meant x.same

  pub on-segm : (b levels : Bytes) → Sound b levels → (a p : Span) (l : ℕ) → r ≡ Some (IsSegm a p l)
      → Placed line a × Placed line p × (line_taken (draft_of b) line ≡ taken (draft_of b) (segm (cut line a) (cut line p) l))
  on-segm b levels s a p l e = let x : Says line (IsSegm a p l) = rw e at m in segm-said b levels s line a p l x.statement x.meant x.same

  pub on-field : (b levels : Bytes) → Sound b levels → (a : Span) (j l t : ℕ) → r ≡ Some (IsField a j l t)
      → Placed line a × (line_taken (draft_of b) line ≡ taken (draft_of b) (field (cut line a) j l t))
  on-field b levels s a j l t e = let x : Says line (IsField a j l t) = rw e at m in field-said b levels s line a j l t x.statement x.meant x.same
