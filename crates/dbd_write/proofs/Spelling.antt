-- A statement's line as the parts in which it is written (R81). Assumes nothing.
use mathlib.Core.Path.{◌≡◌, refl, ap, sym, ◌∙◌}
use mathlib.Core.Bool.{Bool, true, false}
use mathlib.Core.List.{List, [], ◌∷◌, ◌++◌, append_assoc, append-nil}
use Prim.Native.Nat.{ℕ, zero, suc, ◌+◌, ◌-◌, ◌*◌, ◌/◌, ◌%◌, ◌<◌, ◌≤◌}
use native.Mathlib.Omega.{arith}
use lib.Dec.{eqb}
use lib.ListN.{length, take, drop}
use borrow.Author.Tests.{ne_eqb}
use borrow.Rule.Slice.PartMut.{mid_len}
use Rattle.terms.specs.declared.TypeCode.{TypeCode}
use Rattle.terms.specs.declared.FieldNumber.{FieldNumber}
use Rattle.terms.specs.Choice.{pick}
use Rattle.rules.specs.Block.{Bytes}
use Rattle.rules.specs.Catalogue.{types, fields, parent_of, length_of, field_length, field_start}
use Rattle.rules.specs.Listing.{decimal, line_end}
use Rattle.statements.specs.Text.{bytes_of}
use Rattle.statements.specs.Words.{Token, word, sign, trimmed, gap, spell}
use Rattle.statements.specs.Statement.{dbd, segm, field, no_parent, word_dbd, word_segm, word_field, word_name, word_parent, word_bytes, word_start, word_type, word_seq}
use Rattle.statements.specs.Statement.{comma, opens, shuts, name_tokens, tokens_of}
use Rattle.statements.specs.Dbd.{spelled, name_at, segment_name, field_name, parent_word, segm_statement}
use Rattle.statements.proofs.Forms.{digits-few, digits-many}
use Rattle.dbd_write.specs.Wrote.{Fit, name_part}

-- a number of one, two and three digits
pub one-digit : (n : ℕ) → n < 10 → ((0x30 + n) ∷ []) ≡ decimal n
unfolding decimal
one-digit n h = sym (digits-few 4 n h)

pub two_digits : (n : ℕ) → 10 ≤ n → n < 100 → ((0x30 + n / 10) ∷ []) ++ ((0x30 + n % 10) ∷ []) ≡ decimal n
unfolding decimal
two_digits n l h = ap (λ (t : Bytes). t ++ ((0x30 + n % 10) ∷ [])) (sym (digits-few 3 (n / 10) (omega arith))) ∙ sym (digits-many 4 n l)

pub three-digits : (n : ℕ) → 100 ≤ n → n < 256
    → ((0x30 + n / 100) ∷ []) ++ (((0x30 + n / 10 % 10) ∷ []) ++ ((0x30 + n % 10) ∷ [])) ≡ decimal n
unfolding decimal
three-digits n l h =
    let z : n / 100 ≡ n / 10 / 10 = omega arith in
    ap (λ (d : ℕ). (0x30 + d) ∷ (0x30 + n / 10 % 10) ∷ (0x30 + n % 10) ∷ []) z
    ∙ ap (λ (t : Bytes). t ++ ((0x30 + n / 10 % 10) ∷ []) ++ ((0x30 + n % 10) ∷ [])) (sym (digits-few 2 (n / 10 / 10) (omega arith)))
    ∙ ap (λ (t : Bytes). t ++ ((0x30 + n % 10) ∷ [])) (sym (digits-many 3 (n / 10) (omega arith)))
    ∙ sym (digits-many 4 n (omega arith))

-- the branches of `put_named`: no key, U, M
pub name-plain : (w : Bytes) (kind : ℕ) → kind ≡ 0 → w ≡ name_part w kind
unfolding name_part
name-plain w kind e = rw e

pub name-unique : (w : Bytes) (kind : ℕ) → kind ≡ 1 → bytes_of "(" ++ (w ++ bytes_of ",SEQ,U)") ≡ name_part w kind
unfolding name_part bytes_of
name-unique w kind e = rw e

pub name-multiple : (w : Bytes) (kind : ℕ) → (kind ≡ 0 → ⊥) → (kind ≡ 1 → ⊥) → bytes_of "(" ++ (w ++ bytes_of ",SEQ,M)") ≡ name_part w kind
unfolding name_part bytes_of
name-multiple w zero a b = absurd (a refl)
name-multiple w (suc k) a b = rw (ne_eqb k 0 (λ z. b (omega arith)))

-- a field's name before a sign
key-by : (b : Bool) (w r : Bytes)
    → spell (sign opens ∷ word w ∷ sign comma ∷ word word_seq ∷ sign comma ∷ word (pick b 0x55 0x4D ∷ []) ∷ sign shuts ∷ []) ++ r
    ≡ (bytes_of "(" ++ w ++ pick b (bytes_of ",SEQ,U)") (bytes_of ",SEQ,M)")) ++ r
unfolding spell gap word_seq bytes_of
key-by true w r = refl
key-by false w r = refl

spell-signed : (ss ts : List Token) (s : ℕ) → spell (ss ++ (sign s ∷ ts)) ≡ spell ss ++ spell (sign s ∷ ts)
unfolding spell gap
spell-signed [] ts s = refl
spell-signed (sign x ∷ ss) ts s = ap (◌∷◌ x) (spell-signed ss ts s)
spell-signed (word w ∷ []) ts s = ap (λ (t : Bytes). t ++ spell (sign s ∷ ts)) (sym (append-nil w))
spell-signed (word w ∷ word v ∷ ss) ts s =
    ap (λ (t : Bytes). w ++ (0x20 ∷ t)) (spell-signed (word v ∷ ss) ts s) ∙ sym (append_assoc w (0x20 ∷ spell (word v ∷ ss)) (spell (sign s ∷ ts)))
spell-signed (word w ∷ sign x ∷ ss) ts s =
    ap (λ (t : Bytes). w ++ t) (spell-signed (sign x ∷ ss) ts s) ∙ sym (append_assoc w (spell (sign x ∷ ss)) (spell (sign s ∷ ts)))

name-spelled : (w : Bytes) (kind s : ℕ) (ts : List Token) → spell (name_tokens w kind ++ (sign s ∷ ts)) ≡ name_part w kind ++ spell (sign s ∷ ts)
unfolding name_part name_tokens spell gap
name-spelled w zero s ts = refl
name-spelled w (suc k) s ts = spell-signed (name_tokens w (suc k)) ts s ∙ key-by (eqb k 0) w (spell (sign s ∷ ts))

-- the lines
pub dbd-line : (n : Bytes) → bytes_of "DBD NAME=" ++ (n ++ (line_end ∷ [])) ≡ spelled (dbd n) ++ (line_end ∷ [])
unfolding spelled spell gap tokens_of word_dbd word_name bytes_of
dbd-line n = simp append-nil

pub segm-line : (n p : Bytes) (l : ℕ)
    → bytes_of "SEGM NAME=" ++ (n ++ (bytes_of ",PARENT=" ++ (p ++ (bytes_of ",BYTES=" ++ (decimal l ++ (line_end ∷ []))))))
    ≡ spelled (segm n p l) ++ (line_end ∷ [])
unfolding spelled spell gap tokens_of word_segm word_name word_parent word_bytes bytes_of
segm-line n p l = simp (append-nil, append_assoc)

pub field-line : (n : Bytes) (kind l s : ℕ)
    → bytes_of "FIELD NAME=" ++ (name_part n kind ++ (bytes_of ",BYTES=" ++ (decimal l ++ (bytes_of ",START=" ++ (decimal s ++ bytes_of ",TYPE=C\n")))))
    ≡ spelled (field n kind l s) ++ (line_end ∷ [])
unfolding spelled spell gap tokens_of word_field word_name word_bytes word_start word_type bytes_of
field-line n kind l s =
    let ts : List Token = word word_bytes ∷ sign 0x3D ∷ word (decimal l) ∷ sign comma ∷ word word_start ∷ sign 0x3D ∷ word (decimal s)
    ∷ sign comma ∷ word word_type ∷ sign 0x3D ∷ word (0x43 ∷ []) ∷ [] in
    let h = name-spelled n kind comma ts in
    rw h (simp append_assoc)

-- a name that is lent as the 8 bytes from a place on: w, or v and w together, is its number
pub name-lent : (names : Bytes) (i w : ℕ) → w ≡ i → take (8 + 8 * w + 8 - (8 + 8 * w)) (drop (8 + 8 * w) names) ≡ name_at names i
unfolding name_at
name-lent names i w e =
    let z : 8 + 8 * w + 8 - (8 + 8 * w) ≡ 8 = omega arith in
    ap (λ (k : ℕ). take k (drop (8 + 8 * w) names)) z ∙ ap (λ (k : ℕ). take 8 (drop (8 + 8 * k) names)) e

pub field-lent : (cat names : Bytes) (f v w : ℕ) → v ≡ types cat → w ≡ f
    → take (8 + 8 * v + 8 * w + 8 - (8 + 8 * v + 8 * w)) (drop (8 + 8 * v + 8 * w) names) ≡ field_name cat names f
unfolding name_at field_name
field-lent cat names f v w d e =
    let z : 8 + 8 * v + 8 * w + 8 - (8 + 8 * v + 8 * w) ≡ 8 = omega arith in
    let y : 8 + 8 * v + 8 * w ≡ 8 + 8 * (types cat + f) = omega arith in
    ap (λ (k : ℕ). take k (drop (8 + 8 * v + 8 * w) names)) z ∙ ap (λ (k : ℕ). take 8 (drop k names)) y

-- there are 8 of them
pub lent-eight : (names : Bytes) (a : ℕ) → a + 8 ≤ length names → length (take (a + 8 - a) (drop a names)) ≡ 8
lent-eight names a h = let z : a + 8 - a ≡ 8 = omega arith in mid_len a (a + 8) names h ∙ z

module _ (cat names : Bytes) (fit : Fit cat names) where
  pub name-within : (i w : ℕ) → w ≡ i → i ≤ types cat → 8 + 8 * w + 8 ≤ length names
  name-within i w e h = omega (arith, fit.long)

  pub field-within : (f v w : ℕ) → v ≡ types cat → w ≡ f → f ≤ fields cat → 8 + 8 * v + 8 * w + 8 ≤ length names
  field-within f v w d e h = omega (arith, fit.long)

-- the branches of `put_parent`
module _ (cat names : Bytes) (t above : TypeCode) (told : above ≡ parent_of cat t) where
  by-parent : (p : ℕ) → (parent_of cat t).0 ≡ p → parent_word cat names t.0 ≡ elim p [ zero ↦ no_parent | suc q ↦ trimmed (segment_name names (suc q)) ]
  unfolding parent_word
  by-parent p e = rw (parent_word, e)

  pub parent-none : above.0 ≡ 0 → bytes_of "0" ≡ parent_word cat names t.0
  unfolding no_parent
  parent-none e = sym (by-parent 0 (ap (λ (u : TypeCode). u.0) (sym told) ∙ e))

  parent-at : (p : ℕ) → above.0 ≡ p → (p ≡ 0 → ⊥) → trimmed (name_at names p) ≡ parent_word cat names t.0
  unfolding segment_name
  parent-at zero e n = absurd (n refl)
  parent-at (suc p) e n = sym (by-parent (suc p) (ap (λ (u : TypeCode). u.0) (sym told) ∙ e))

  pub parent-named : (w : ℕ) → w ≡ above.0 → (above.0 ≡ 0 → ⊥)
      → trimmed (take (8 + 8 * w + 8 - (8 + 8 * w)) (drop (8 + 8 * w) names)) ≡ parent_word cat names t.0
  parent-named w e n = ap trimmed (name-lent names above.0 w e) ∙ parent-at above.0 refl n

pub parent-most : (cat : Bytes) (t above : TypeCode) (most : ℕ) → above ≡ parent_of cat t → (parent_of cat t).0 ≤ most → above.0 ≤ most
parent-most cat t above most e h = rw e h

-- the lines of a type and of a field, from what the code has read
pub segm-written : (cat names : Bytes) (t : TypeCode) (w l : ℕ) → w ≡ t.0 → l ≡ length_of cat t
    → bytes_of "SEGM NAME=" ++ (trimmed (take (8 + 8 * w + 8 - (8 + 8 * w)) (drop (8 + 8 * w) names))
    ++ (bytes_of ",PARENT=" ++ (parent_word cat names t.0 ++ (bytes_of ",BYTES=" ++ (decimal l ++ (line_end ∷ []))))))
    ≡ spelled (segm_statement cat names t.0) ++ (line_end ∷ [])
unfolding segm_statement segment_name
segm-written cat names t w l d e =
    let p : Bytes = parent_word cat names t.0 in
    let r : Bytes = bytes_of ",PARENT=" ++ (p ++ (bytes_of ",BYTES=" ++ (decimal l ++ (line_end ∷ [])))) in
    ap (λ (n : Bytes). bytes_of "SEGM NAME=" ++ (trimmed n ++ r)) (name-lent names t.0 w d)
    ∙ segm-line (trimmed (name_at names t.0)) p l
    ∙ ap (λ (k : ℕ). spelled (segm (trimmed (name_at names t.0)) p k) ++ (line_end ∷ [])) e

pub field-written : (cat names : Bytes) (f : FieldNumber) (kind v w l s : ℕ) → v ≡ types cat → w ≡ f.0 → l ≡ field_length cat f → s ≡ field_start cat f
    → bytes_of "FIELD NAME=" ++ (name_part (trimmed (take (8 + 8 * v + 8 * w + 8 - (8 + 8 * v + 8 * w)) (drop (8 + 8 * v + 8 * w) names))) kind
    ++ (bytes_of ",BYTES=" ++ (decimal l ++ (bytes_of ",START=" ++ (decimal s ++ bytes_of ",TYPE=C\n")))))
    ≡ spelled (field (trimmed (field_name cat names f.0)) kind (field_length cat f) (field_start cat f)) ++ (line_end ∷ [])
field-written cat names f kind v w l s a b d e =
    let n : Bytes = trimmed (field_name cat names f.0) in
    let r : Bytes = bytes_of ",BYTES=" ++ (decimal l ++ (bytes_of ",START=" ++ (decimal s ++ bytes_of ",TYPE=C\n"))) in
    ap (λ (x : Bytes). bytes_of "FIELD NAME=" ++ (name_part (trimmed x) kind ++ r)) (field-lent cat names f.0 v w a b)
    ∙ field-line n kind l s
    ∙ ap (λ (k : ℕ). spelled (field n kind k s) ++ (line_end ∷ [])) d
    ∙ ap (λ (k : ℕ). spelled (field n kind (field_length cat f) k) ++ (line_end ∷ [])) e
