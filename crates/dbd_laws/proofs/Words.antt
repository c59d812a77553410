-- The statement that a line is has names where names stand, and a kind of key of at most 2. Assumes nothing.
use Rattle.std.specs.Prelude.{None, Some}
use mathlib.Core.Path.{◌≡◌, subst}
use mathlib.Core.Bool.{Bool, true, false}
use mathlib.Core.List.{List, [], ◌∷◌}
use Prim.Native.Nat.{ℕ, zero, suc, ◌<◌, ◌≤◌}
use native.Mathlib.Omega.{arith}
use lib.ListN.{length, get_or}
use Rattle.terms.specs.Choice.{pick}
use Rattle.forest.specs.Good.{on, off, is}
use Rattle.rules.specs.Block.{Bytes, same_bytes}
use Rattle.statements.specs.Words.{Token, word, sign, is_name}
use Rattle.statements.specs.Statement.{Statement, dbd, segm, field, Slot, name, parent, suits, marks, fits, formed}
use Rattle.statements.specs.Statement.{dbd_form, segm_form, span_form, field_form, key_form, word_in, word_at, kind_of, dbd_of, segm_of, field_of, key_of, statement_of}
use Rattle.statements.proofs.Words.{clash}
use Rattle.statements.proofs.Forms.{is-dbd, is-segm, is_field, is_key}

-- what a line's statement says is named by names
abbrev pub Named : Statement → Type 0
Named (dbd n) = is_name n ≡ true
Named (segm n p l) = (is_name n ≡ true) × (suits parent p ≡ true)
Named (field n k l s) = (is_name n ≡ true) × (k ≤ 2)

formed-head : (s : Slot) (t : Token) (ss : List Slot) (ts : List Token) → formed (s ∷ ss) (t ∷ ts) ≡ true → (fits s t ≡ true) × (formed ss ts ≡ true)
unfolding formed
formed-head s t ss ts e = elim (is (fits s t)) [
  | on h ↦ (h, rw (formed, h) at e)
  | off h ↦ clash (rw (formed, h) at e)
]

formed-none : (s : Slot) (ss : List Slot) → formed (s ∷ ss) [] ≡ true → false ≡ true
unfolding formed
formed-none s ss e = e

-- each token of a row fits its slot
formed-at : (ss : List Slot) (ts : List Token) → formed ss ts ≡ true → (i : ℕ) → i < length ss → fits (get_or ss i name) (get_or ts i (word [])) ≡ true
formed-at [] ts e i l = absurd (omega arith)
formed-at (s ∷ ss) [] e i l = clash (formed-none s ss e)
formed-at (s ∷ ss) (t ∷ ts) e zero l = (formed-head s t ss ts e).0
formed-at (s ∷ ss) (t ∷ ts) e (suc i) l = formed-at ss ts (formed-head s t ss ts e).1 i (omega arith)

name-fits : (t : Token) → fits name t ≡ true → is_name (word_in t) ≡ true
unfolding fits suits marks word_in
name-fits (word w) e = e
name-fits (sign b) e = clash e

parent-fits : (t : Token) → fits parent t ≡ true → suits parent (word_in t) ≡ true
unfolding fits marks word_in
parent-fits (word w) e = e
parent-fits (sign b) e = clash e

dbd-named : (ts : List Token) → formed dbd_form ts ≡ true → is_name (word_at ts 3) ≡ true
unfolding dbd_form word_at
dbd-named ts e = name-fits (get_or ts 3 (word [])) (formed-at dbd_form ts e 3 (omega arith))

segm-named : (ts : List Token) → formed segm_form ts ≡ true → (is_name (word_at ts 3) ≡ true) × (suits parent (word_at ts 7) ≡ true)
unfolding segm_form word_at
segm-named ts e =
    (name-fits (get_or ts 3 (word [])) (formed-at segm_form ts e 3 (omega arith)), parent-fits (get_or ts 7 (word [])) (formed-at segm_form ts e 7 (omega arith)))

field-named : (ts : List Token) → formed field_form ts ≡ true → is_name (word_at ts 3) ≡ true
unfolding field_form span_form word_at
field-named ts e = name-fits (get_or ts 3 (word [])) (formed-at field_form ts e 3 (omega arith))

key-named : (ts : List Token) → formed key_form ts ≡ true → is_name (word_at ts 4) ≡ true
unfolding key_form span_form word_at
key-named ts e = name-fits (get_or ts 4 (word [])) (formed-at key_form ts e 4 (omega arith))

one_of_two : (b : Bool) → pick b 1 2 ≤ 2
one_of_two true = omega arith
one_of_two false = omega arith

kind-most : (w : Bytes) → kind_of w ≤ 2
unfolding kind_of
kind-most w = one_of_two (same_bytes (0x55 ∷ []) w)

is_none : (ts : List Token) → formed dbd_form ts ≡ false → formed segm_form ts ≡ false → formed field_form ts ≡ false → formed key_form ts ≡ false
    → statement_of ts ≡ None
unfolding statement_of
is_none ts a b c h = rw (statement_of, a, b, c, h)

-- its statement is this one
told : (ts : List Token) (s r : Statement) → statement_of ts ≡ Some s → statement_of ts ≡ Some r → Named r → Named s
told ts s r e f n = let z : r ≡ s = cc in subst Named z n

nothing : (ts : List Token) (s : Statement) → statement_of ts ≡ Some s → statement_of ts ≡ None → Named s
nothing ts s e f = let z : ◌≡◌ {A = ℕ} 0 1 = cc in absurd (omega arith)

-- the law
pub statement-named : (ts : List Token) (s : Statement) → statement_of ts ≡ Some s → Named s
unfolding dbd_of segm_of field_of key_of
statement-named ts s e = elim (is (formed dbd_form ts)) [
  | on a ↦ told ts s (dbd_of ts) e (is-dbd ts a) (dbd-named ts a)
  | off a ↦ elim (is (formed segm_form ts)) [
    | on b ↦ told ts s (segm_of ts) e (is-segm ts a b) (segm-named ts b)
    | off b ↦ elim (is (formed field_form ts)) [
      | on c ↦ told ts s (field_of ts) e (is_field ts a b c) (field-named ts c, omega arith)
      | off c ↦ elim (is (formed key_form ts)) [
        | on d ↦ told ts s (key_of ts) e (is_key ts a b c d) (key-named ts d, kind-most (word_at ts 8))
        | off d ↦ nothing ts s e (is_none ts a b c d)
      ]
    ]
  ]
]
