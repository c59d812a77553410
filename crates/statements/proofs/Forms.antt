-- A statement as the writer has it is read as that statement. Assumes nothing.
use Rattle.std.specs.Prelude.{Some}
use mathlib.Core.Path.{◌≡◌, refl, ap, ◌∙◌}
use mathlib.Core.Bool.{Bool, true, false, ◌&&◌}
use mathlib.Core.List.{List, [], ◌∷◌, ◌++◌}
use Prim.Native.Nat.{ℕ, zero, suc, ◌+◌, ◌-◌, ◌*◌, ◌/◌, ◌%◌, ◌<◌, ◌≤◌}
use native.Mathlib.Omega.{arith}
use lib.Dec.{leb}
use lib.ListN.{drop}
use borrow.Author.Tests.{lt-ltb, le-ltb, le-leb}
use Rattle.forest.specs.Forest.{inside, outside, side}
use Rattle.forest.specs.Good.{both_left, both_right}
use Rattle.rules.specs.Block.{Bytes, every, same_bytes}
use Rattle.rules.specs.Listing.{digits, decimal}
use Rattle.statements.specs.Text.{bytes_of}
use Rattle.statements.specs.Words.{Token, word, is_digit, is_name, is_number, value_from, value}
use Rattle.statements.proofs.Words.{clash, every_in, every-head, every-tail}
use Rattle.statements.specs.Statement.{dbd, segm, field, Slot, name, number, parent, word_dbd, word_segm, word_field, word_name, word_parent}
use Rattle.statements.specs.Statement.{word_bytes, word_start, word_type, word_seq, suits, marks, fits, formed, dbd_form, segm_form, span_form, field_form}
use Rattle.statements.specs.Statement.{key_form, word_in, word_at, kind_of, dbd_of, segm_of, field_of, key_of, statement_of, name_tokens, tokens_of}

-- the digit behind the others
value-last : (a : ℕ) (xs : Bytes) (d : ℕ) → value_from a (xs ++ (d ∷ [])) ≡ 10 * value_from a xs + (d - 0x30)
unfolding value_from
value-last a [] d = refl
value-last a (x ∷ xs) d = value-last (10 * a + (x - 0x30)) xs d

abbrev tens : ℕ → ℕ
tens zero = 1
tens (suc k) = 10 * tens k

pub digits-few : (k n : ℕ) → n < 10 → digits (suc k) n ≡ (0x30 + n) ∷ []
unfolding digits
digits-few k n l = rw (digits, lt-ltb n 10 l)

pub digits-many : (k n : ℕ) → 10 ≤ n → digits (suc k) n ≡ digits k (n / 10) ++ ((0x30 + n % 10) ∷ [])
unfolding digits
digits-many k n l = rw (digits, le-ltb n 10 l)

value-one : (d : ℕ) → value_from 0 (d ∷ []) ≡ d - 0x30
unfolding value_from
value-one d = omega arith

value-digits : (k n : ℕ) → n < tens k → value_from 0 (digits k n) ≡ n
unfolding digits value_from
value-digits zero n l = omega arith
value-digits (suc k) n l = elim (side n 10) [
  | inside a ↦ ap (value_from 0) (digits-few k n a) ∙ value-one (0x30 + n) ∙ omega arith
  | outside a ↦ ap (value_from 0) (digits-many k n a) ∙ value-last 0 (digits k (n / 10)) (0x30 + n % 10)
      ∙ (let z : value_from 0 (digits k (n / 10)) ≡ n / 10 = value-digits k (n / 10) (omega arith) in rw z (omega arith))
]

pub value-decimal : (n : ℕ) → n < 100000 → value (decimal n) ≡ n
unfolding value decimal
value-decimal n l = value-digits 5 n l

-- it is a number
both : (a b : Bool) → a ≡ true → b ≡ true → (a && b) ≡ true
both a b e f = rw (e, f)

every-last : (p : ℕ → Bool) (xs : Bytes) (d : ℕ) → every p xs ≡ true → p d ≡ true → every p (xs ++ (d ∷ [])) ≡ true
every-last p [] d e f = every_in p d [] f ∙ e
every-last p (x ∷ xs) d e f = every_in p x (xs ++ (d ∷ [])) (every-head p x xs e) ∙ every-last p xs d (every-tail p x xs e) f

number-last : (xs : Bytes) (d : ℕ) → is_number xs ≡ true → is_digit d ≡ true → is_number (xs ++ (d ∷ [])) ≡ true
unfolding is_number
number-last [] d e f = clash e
number-last (x ∷ xs) d e f =
    both (is_digit x) (every is_digit (xs ++ (d ∷ []))) (both_left (is_digit x) (every is_digit xs) e)
    (every-last is_digit xs d (both_right (is_digit x) (every is_digit xs) e) f)

digit-is : (d : ℕ) → d < 10 → is_digit (0x30 + d) ≡ true
unfolding is_digit
digit-is d l = both (leb 0x30 (0x30 + d)) (leb (0x30 + d) 0x39) (le-leb 0x30 (0x30 + d) (omega arith)) (le-leb (0x30 + d) 0x39 (omega arith))

number-one : (d : ℕ) → is_digit d ≡ true → is_number (d ∷ []) ≡ true
unfolding is_number every
number-one d e = both (is_digit d) true e refl

number_digits : (k n : ℕ) → n < tens (suc k) → is_number (digits (suc k) n) ≡ true
number_digits zero n l = ap is_number (digits-few zero n (omega arith)) ∙ number-one (0x30 + n) (digit-is n (omega arith))
number_digits (suc k) n l = elim (side n 10) [
  | inside a ↦ ap is_number (digits-few (suc k) n a) ∙ number-one (0x30 + n) (digit-is n a)
  | outside a ↦ ap is_number (digits-many (suc k) n a)
      ∙ number-last (digits (suc k) (n / 10)) (0x30 + n % 10) (number_digits k (n / 10) (omega arith)) (digit-is (n % 10) (omega arith))
]

pub number-decimal : (n : ℕ) → n < 100000 → is_number (decimal n) ≡ true
unfolding decimal
number-decimal n l = number_digits 4 n l

-- one slot of a form
formed-in : (s : Slot) (t : Token) (ss : List Slot) (ts : List Token) → fits s t ≡ true → formed (s ∷ ss) (t ∷ ts) ≡ formed ss ts
unfolding formed
formed-in s t ss ts h = rw (formed, h)

-- the statement that a row of tokens is
pub is-dbd : (ts : List Token) → formed dbd_form ts ≡ true → statement_of ts ≡ Some (dbd_of ts)
unfolding statement_of
is-dbd ts h = rw (statement_of, h)

pub is-segm : (ts : List Token) → formed dbd_form ts ≡ false → formed segm_form ts ≡ true → statement_of ts ≡ Some (segm_of ts)
unfolding statement_of
is-segm ts a h = rw (statement_of, a, h)

pub is_field : (ts : List Token) → formed dbd_form ts ≡ false → formed segm_form ts ≡ false → formed field_form ts ≡ true → statement_of ts ≡ Some (field_of ts)
unfolding statement_of
is_field ts a b h = rw (statement_of, a, b, h)

pub is_key : (ts : List Token) → formed dbd_form ts ≡ false → formed segm_form ts ≡ false → formed field_form ts ≡ false → formed key_form ts ≡ true
    → statement_of ts ≡ Some (key_of ts)
unfolding statement_of
is_key ts a b c h = rw (statement_of, a, b, c, h)

pub dbd-read : (n : Bytes) → is_name n ≡ true → statement_of (tokens_of (dbd n)) ≡ Some (dbd n)
unfolding tokens_of dbd_of formed dbd_form fits suits marks word_at word_in same_bytes word_dbd word_name bytes_of
dbd-read n h = is-dbd (tokens_of (dbd n)) (formed-in name (word n) [] [] h)

pub segm-read : (n p : Bytes) (l : ℕ) → is_name n ≡ true → suits parent p ≡ true → l < 100000 → statement_of (tokens_of (segm n p l)) ≡ Some (segm n p l)
unfolding tokens_of segm_of formed dbd_form segm_form fits suits marks word_at word_in same_bytes word_dbd word_segm word_name word_parent word_bytes bytes_of
segm-read n p l h g b =
    let ts = tokens_of (segm n p l) in
    is-segm ts refl
    (formed-in name (word n) (drop 4 segm_form) (drop 4 ts) h ∙ formed-in parent (word p) (drop 8 segm_form) (drop 8 ts) g
    ∙ formed-in number (word (decimal l)) [] [] (number-decimal l b))
    ∙ ap (λ (v : ℕ). Some (segm n p v)) (value-decimal l b)

pub field-read : (n : Bytes) (l s : ℕ) → is_name n ≡ true → l < 100000 → s < 100000 → statement_of (tokens_of (field n 0 l s)) ≡ Some (field n 0 l s)
unfolding tokens_of name_tokens field_of key_of formed dbd_form segm_form field_form span_form fits suits marks
    word_at word_in same_bytes word_dbd word_segm word_field word_name word_bytes word_start word_type bytes_of
field-read n l s h b c =
    let ts = tokens_of (field n 0 l s) in
    is_field ts refl refl
    (formed-in name (word n) (drop 4 field_form) (drop 4 ts) h ∙ formed-in number (word (decimal l)) (drop 8 field_form) (drop 8 ts) (number-decimal l b)
    ∙ formed-in number (word (decimal s)) (drop 12 field_form) (drop 12 ts) (number-decimal s c))
    ∙ ap (λ (v : ℕ). Some (field n 0 v (value (decimal s)))) (value-decimal l b) ∙ ap (λ (v : ℕ). Some (field n 0 l v)) (value-decimal s c)

pub unique-read : (n : Bytes) (l s : ℕ) → is_name n ≡ true → l < 100000 → s < 100000 → statement_of (tokens_of (field n 1 l s)) ≡ Some (field n 1 l s)
unfolding tokens_of name_tokens field_of key_of formed dbd_form segm_form field_form key_form span_form fits suits marks
    word_at word_in kind_of same_bytes word_dbd word_segm word_field word_name word_seq word_bytes word_start word_type bytes_of
unique-read n l s h b c =
    let ts = tokens_of (field n 1 l s) in
    is_key ts refl refl refl
    (formed-in name (word n) (drop 5 key_form) (drop 5 ts) h ∙ formed-in number (word (decimal l)) (drop 14 key_form) (drop 14 ts) (number-decimal l b)
    ∙ formed-in number (word (decimal s)) (drop 18 key_form) (drop 18 ts) (number-decimal s c))
    ∙ ap (λ (v : ℕ). Some (field n 1 v (value (decimal s)))) (value-decimal l b) ∙ ap (λ (v : ℕ). Some (field n 1 l v)) (value-decimal s c)

pub multiple-read : (n : Bytes) (l s : ℕ) → is_name n ≡ true → l < 100000 → s < 100000 → statement_of (tokens_of (field n 2 l s)) ≡ Some (field n 2 l s)
unfolding tokens_of name_tokens field_of key_of formed dbd_form segm_form field_form key_form span_form fits suits marks
    word_at word_in kind_of same_bytes word_dbd word_segm word_field word_name word_seq word_bytes word_start word_type bytes_of
multiple-read n l s h b c =
    let ts = tokens_of (field n 2 l s) in
    is_key ts refl refl refl
    (formed-in name (word n) (drop 5 key_form) (drop 5 ts) h ∙ formed-in number (word (decimal l)) (drop 14 key_form) (drop 14 ts) (number-decimal l b)
    ∙ formed-in number (word (decimal s)) (drop 18 key_form) (drop 18 ts) (number-decimal s c))
    ∙ ap (λ (v : ℕ). Some (field n 2 v (value (decimal s)))) (value-decimal l b) ∙ ap (λ (v : ℕ). Some (field n 2 l v)) (value-decimal s c)
