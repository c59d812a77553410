-- What a line says, by the form that it has: of blanks alone, no statement, or the statement of the first form that fits. Assumes nothing.
use mathlib.Core.Path.{◌≡◌, refl, ap, sym, ◌∙◌, subst}
use mathlib.Core.Bool.{true, false}
use mathlib.Core.List.{List, [], ◌∷◌}
use Rattle.std.specs.Prelude.{Option, Some, None}
use Rattle.std.specs.Option.{MatchOption}
use Rattle.rules.specs.Block.{Bytes}
use Rattle.statements.specs.Words.{Token, tokens}
use Rattle.statements.specs.Statement.{Statement, Slot, formed, dbd_form, segm_form, field_form, key_form, dbd_of, segm_of, field_of, key_of, statement_of}
use Rattle.statements.specs.Draft.{Draft, misplaced, bad, taken, taken_if, line_taken}
use Rattle.statements.proofs.Words.{clash}
use Rattle.statements.proofs.Forms.{is-dbd, is-segm, is_field, is_key}
use Rattle.dbd_words.specs.Row.{is_none}
use Rattle.dbd_line.specs.declared.Line.{Line}
use Rattle.dbd_line.specs.declared.Line.TheVariants.{Empty, IsDbd, IsSegm, IsField}
use Rattle.dbd_line.specs.Meant.{Tells, Means}

-- R73: a line of blanks alone has no token, and any other line has one
pub none-left : (ts : List Token) → true ≡ is_none ts → ts ≡ []
none-left [] e = refl
none-left (t ∷ ts) e = clash (sym e)

some-left : (ts : List Token) → false ≡ is_none ts → ts ≡ [] → ⊥
some-left [] e z = clash e
some-left (t ∷ ts) e z = let y : t ∷ ts ≡ [] = z in cc

-- the statement that a row of tokens is, taken
row-none : statement_of [] ≡ None
unfolding statement_of formed dbd_form segm_form field_form key_form
row-none = refl

row-taken : (d : Draft) (line : Bytes) (t : Token) (ts : List Token) → tokens line ≡ t ∷ ts → line_taken d line ≡ taken_if d (statement_of (t ∷ ts))
unfolding line_taken
row-taken d line t ts e = rw (line_taken, e)

taken-some : (d : Draft) (line : Bytes) (s : Statement) (ts : List Token) → tokens line ≡ ts → statement_of ts ≡ Some s → line_taken d line ≡ taken d s
unfolding taken_if
taken-some d line s [] e h = let z : None ≡ Some s = sym row-none ∙ h in cc
taken-some d line s (t ∷ ts) e h = row-taken d line t ts e ∙ ap (taken_if d) h

taken_none : (d : Draft) (line : Bytes) (ts : List Token) → tokens line ≡ ts → (ts ≡ [] → ⊥) → statement_of ts ≡ None → line_taken d line ≡ bad misplaced
unfolding taken_if
taken_none d line [] e n h = absurd (n refl)
taken_none d line (t ∷ ts) e n h = row-taken d line t ts e ∙ ap (taken_if d) h

no-form : (ts : List Token) → formed dbd_form ts ≡ false → formed segm_form ts ≡ false → formed field_form ts ≡ false → formed key_form ts ≡ false
    → statement_of ts ≡ None
unfolding statement_of
no-form ts a b c h = rw (statement_of, a, b, c, h)

-- a form that was tried, so that Q is known where no form was found yet
abbrev Tried : Bytes → Type 0 → Option Line → Type 0
Tried line Q r = MatchOption r Q (λ l. Means line (Some l))

tells : (form : List Slot) (s : Statement) (line : Bytes) (r : Option Line) (Q : Type 0)
    → (formed form (tokens line) ≡ true → statement_of (tokens line) ≡ Some s) → (formed form (tokens line) ≡ false → Q) → Tells form s line r → Tried line Q r
tells form s line None Q f g t = g t
tells form s line (Some Empty) Q f g t = clash t
tells form s line (Some (IsDbd a)) Q f g t = record { statement = s; meant = t.1; same = λ d. taken-some d line s (tokens line) refl (f t.0) }
tells form s line (Some (IsSegm a b l)) Q f g t = record { statement = s; meant = t.1; same = λ d. taken-some d line s (tokens line) refl (f t.0) }
tells form s line (Some (IsField a j l b)) Q f g t = record { statement = s; meant = t.1; same = λ d. taken-some d line s (tokens line) refl (f t.0) }

-- the next form is tried where none was found yet: T is what that call ensures
next : (line : Bytes) (P Q T : Type 0) (a r : Option Line) → Tried line P a → MatchOption a T (λ l. r ≡ Some l) → (P → T → Tried line Q r) → Tried line Q r
next line P Q T None r t m f = f t m
next line P Q T (Some l) r t m f = subst (Tried line Q) (sym m) t

last : (line : Bytes) (r : Option Line) → Tried line (Means line None) r → Means line r
last line None t = t
last line (Some l) t = t

-- R76: the forms in their order
module _ (line : Bytes) (e : false ≡ is_none (tokens line)) {X Y Z : Type 0} (a b c r : Option Line) where
  pub says : Tells dbd_form (dbd_of (tokens line)) line a → MatchOption a X (λ l. b ≡ Some l) → (X → Tells segm_form (segm_of (tokens line)) line b)
      → MatchOption b Y (λ l. c ≡ Some l) → (Y → Tells field_form (field_of (tokens line)) line c)
      → MatchOption c Z (λ l. r ≡ Some l) → (Z → Tells key_form (key_of (tokens line)) line r) → Means line r
  says x y f z g w h =
      let D : Type 0 = formed dbd_form (tokens line) ≡ false in
      let S : Type 0 = formed segm_form (tokens line) ≡ false in
      let F : Type 0 = formed field_form (tokens line) ≡ false in
      let t : Tried line D a = tells dbd_form (dbd_of (tokens line)) line a D (is-dbd (tokens line)) (λ d. d) x in
      let u : Tried line (D × S) b = next line D (D × S) X a b t y
      (λ d k. tells segm_form (segm_of (tokens line)) line b (D × S) (is-segm (tokens line) d) (λ s. (d, s)) (f k)) in
      let v : Tried line (D × S × F) c = next line (D × S) (D × S × F) Y b c u z
      (λ d k. tells field_form (field_of (tokens line)) line c (D × S × F) (is_field (tokens line) d.0 d.1) (λ q. (d.0, d.1, q)) (g k)) in
      last line r (next line (D × S × F) (Means line None) Z c r v w
      (λ d k. tells key_form (key_of (tokens line)) line r (Means line None) (is_key (tokens line) d.0 d.1 d.2)
      (λ n q. taken_none q line (tokens line) refl (some-left (tokens line) e) (no-form (tokens line) d.0 d.1 d.2 n)) (h k)))
