-- R78: whether the rules let a type or a field be added to the draft that an array keeps, told by the array's bytes. Assumes nothing.
use mathlib.Core.Path.{◌≡◌, refl, ap, sym, ◌∙◌}
use mathlib.Core.Bool.{true, false}
use mathlib.Core.List.{[], ◌∷◌, ◌++◌}
use Prim.Native.Nat.{ℕ, suc, ◌+◌, ◌*◌, ◌<◌, ◌≤◌}
use native.Mathlib.Omega.{arith}
use lib.Dec.{leb, eqb}
use lib.ListN.{length, set, length-append}
use lib.Seq.{sets}
use borrow.Author.Tests.{le-leb, lt-leb, leb-true, eqb-true}
use Rattle.forest.specs.Good.{on, off, is}
use Rattle.terms.specs.Choice.{pick}
use Rattle.terms.specs.Names.{code}
use Rattle.rules.specs.Block.{Bytes, byte, part, zeros}
use Rattle.rules.specs.Catalogue.{types, fields, type_byte, length_of, level, good_span, good_key, good_parent, good_type, good_field}
use Rattle.rules.proofs.Joined.{six}
use Rattle.statements.specs.Draft.{Draft, with_type, with_field, catalogue_of, ruled_type, ruled_field, goes, bad, unruled}
use Rattle.statements.proofs.Rows.{part-byte}
use Rattle.dbd_draft.specs.Kept.{draft_of, Sound}
use Rattle.dbd_draft.proofs.Writes.{kept-before}
use Rattle.dbd_draft.proofs.Ordered.{type-same}
use Rattle.dbd_draft.proofs.Drafts.{key_bytes, types_are, fields-are, with-length, keyed}
use Rattle.dbd_draft.proofs.Sounds.{type_written, type-ready, type-entry, type-other}
use Rattle.dbd_draft.proofs.Sounds.{counted-types, counted-long, counted-fields, counted-headed, type-draft}
use Rattle.dbd_draft.proofs.Sounds.{field_written, added-fields, added-types, added-entry, added-low, field-draft, field-sound, keyed-sound}
use Rattle.dbd_draft.proofs.Catalogues.{Framed, framed, block-byte, last-good}

-- one too many
pub type-full : (b name : Bytes) (above long : ℕ) → 32 ≤ types b → ruled_type (with_type (draft_of b) name above long) ≡ bad unruled
unfolding ruled_type with_type
type-full b name above long h =
    let e : length ((draft_of b).types ++ ((above ∷ long ∷ 0 ∷ 0 ∷ 0 ∷ 0 ∷ 0 ∷ 0 ∷ []) ∷ [])) ≡ types b + 1 =
    length-append (draft_of b).types ((above ∷ long ∷ 0 ∷ 0 ∷ 0 ∷ 0 ∷ 0 ∷ 0 ∷ []) ∷ []) ∙ ap (λ (k : ℕ). k + 1) (types_are b) in
    rw (e, lt-leb (types b + 1) 32 (omega arith))

pub field-full : (b name : Bytes) (kind long start : ℕ) → 64 ≤ fields b → ruled_field (with_field (draft_of b) name kind long start) ≡ bad unruled
unfolding ruled_field with_field
field-full b name kind long start h =
    let e : length ((draft_of b).fields ++ ((length (draft_of b).types ∷ start ∷ long ∷ 0 ∷ []) ∷ [])) ≡ fields b + 1 =
    length-append (draft_of b).fields ((length (draft_of b).types ∷ start ∷ long ∷ 0 ∷ []) ∷ []) ∙ ap (λ (k : ℕ). k + 1) (fields-are b) in
    rw (e, lt-leb (fields b + 1) 64 (omega arith))

-- the array with one type more
module _ (b levels : Bytes) (s : Sound b levels) (name : Bytes) (above long : ℕ) (named : length name ≡ 8) (room : types b < 32) where
  counted-framed : Framed (set (type_written b name above long) 5 (suc (types b)))
  counted-framed =
      let t : types (set (type_written b name above long) 5 (suc (types b))) ≡ suc (types b) = counted-types b levels s name above long named room
      (suc (types b)) refl in
      let f : fields (set (type_written b name above long) 5 (suc (types b))) ≡ fields b = counted-fields b levels s name above long named room
      (suc (types b)) refl in
      record {
        long = counted-long b levels s name above long named room (suc (types b)) refl;
        few = omega arith;
        few_fields = omega (arith, s.few_fields);
        headed = rw (t, f) (counted-headed b levels s name above long named room (suc (types b)) refl);
      }

  type-judged : good_type (catalogue_of (draft_of (set (type_written b name above long) 5 (suc (types b))))) (suc (types b)) ≡ good_type
      (type_written b name above long) (suc (types b))
  type-judged =
      let c = set (type_written b name above long) 5 (suc (types b)) in
      let t : types c ≡ suc (types b) = counted-types b levels s name above long named room (suc (types b)) refl in
      sym
      (type-same (type_written b name above long) (catalogue_of (draft_of c)) (types b)
      (λ j l m. sym (type-other b levels s name above long named room (suc (types b)) refl j (λ z. omega arith)) ∙ sym
      (block-byte c counted-framed j (omega arith)))
      (type-ready b levels s name above long named room).ordered.lower)

  -- LAW: the type is taken where it is good in the array
  pub type-ruled : (k : ℕ) → k ≡ suc (types b)
      → ruled_type (with_type (draft_of b) name above long)
      ≡ pick (good_type (type_written b name above long) k) (goes (with_type (draft_of b) name above long)) (bad unruled)
  unfolding ruled_type
  type-ruled k e =
      let c = set (type_written b name above long) 5 (suc (types b)) in
      let d : draft_of c ≡ with_type (draft_of b) name above long = type-draft b levels s name above long named room (suc (types b)) refl in
      let t : length (draft_of c).types ≡ suc (types b) = types_are c ∙ counted-types b levels s name above long named room (suc (types b)) refl in
      rw (e, ← d, t, le-leb (suc (types b)) 32 (omega arith), type-judged)

  own-length : (k : ℕ) → k ≡ suc (types b) → length_of (type_written b name above long) (code k) ≡ long
  unfolding length_of type_byte
  own-length k e =
      let z : 8 * k + 1 ≡ 8 + 8 * types b + 1 = omega arith in
      rw z (sym (part-byte (type_written b name above long) (8 + 8 * types b) 8 1 (omega arith)) ∙ ap (λ (t : Bytes). byte t 1)
      (type-entry b levels s name above long named room))

  -- a good type has an L that a byte holds
  pub type-low : (k : ℕ) → k ≡ suc (types b) → good_type (type_written b name above long) k ≡ true → long ≤ 120
  unfolding good_type
  type-low k e g =
      let c = type_written b name above long in
      let t = six (good_parent c k) (leb 1 (length_of c (code k))) (leb (length_of c (code k)) 120) (good_key c (code k)) (zeros (part c (8 * k + 5) 2))
      (leb (level c (code k)) 15) g in
      omega (arith, own-length k e, leb-true (length_of c (code k)) 120 t.2)

  pub type-high : 120 < long → ruled_type (with_type (draft_of b) name above long) ≡ bad unruled
  type-high h =
      elim (is (good_type (type_written b name above long) (suc (types b)))) [
        | on g ↦ absurd (omega (arith, type-low (suc (types b)) refl g))
        | off g ↦ type-ruled (suc (types b)) refl ∙ rw g
      ]

-- and with SEQ it is one without, in the draft whose last type has the key
pub with-key : (b name : Bytes) (kind long start : ℕ) → length b ≡ 1296 → 0 < types b → types b ≤ 32 → fields b ≤ 64 → eqb kind 0 ≡ false
    → with_field (draft_of (sets b (8 * types b + 2) (key_bytes kind start long))) name 0 long start ≡ with_field (draft_of b) name kind long start
unfolding with_field
with-key b name kind long start m o few few_fields h =
    ap (λ (d : Draft). with_field d name 0 long start) (keyed b kind start long m o few few_fields) ∙ rw
    (with_field, h, with-length kind start long (draft_of b).types)

-- LAW: the field is taken where its span lies within the last type's data
field-none : (b levels : Bytes) → Sound b levels → (name : Bytes) (long start : ℕ) → length name ≡ 8 → fields b < 64 → 0 < types b
    → ruled_field (with_field (draft_of b) name 0 long start) ≡ pick (good_span start long (byte b (8 * types b + 1)))
    (goes (with_field (draft_of b) name 0 long start)) (bad unruled)
unfolding ruled_field
field-none b levels s name long start named room some =
    let v = suc (fields b) in
    let c = set (field_written b name long start) 6 v in
    let d : draft_of c ≡ with_field (draft_of b) name 0 long start = field-draft b levels s name long start named room v refl in
    let f : fields c ≡ suc (fields b) = added-fields b levels s name long start named room v refl in
    let t : types c ≡ types b = added-types b levels s name long start named room v refl in
    let n : length (draft_of c).fields ≡ suc (fields b) = fields-are c ∙ f in
    let e : part c (264 + 4 * fields b) 4 ≡ types c ∷ start ∷ long ∷ 0 ∷ [] =
    rw t (added-entry b levels s name long start named room v refl) in
    let g : good_field (catalogue_of (draft_of c)) (suc (fields b)) ≡ good_span start long (byte b (8 * types b + 1)) =
    last-good c (framed c levels (field-sound b levels s name long start named room v refl)) (fields b) start long f e (omega arith)
    ∙ rw t (ap (good_span start long) (added-low b levels s name long start named room v refl)) in
    rw (← d, n, le-leb (suc (fields b)) 64 (omega arith), g)

pub field-ruled : (b levels : Bytes) → Sound b levels → (name : Bytes) (kind long start : ℕ) → length name ≡ 8 → fields b < 64 → 0 < types b
    → ruled_field (with_field (draft_of b) name kind long start)
    ≡ pick (good_span start long (byte b (8 * types b + 1))) (goes (with_field (draft_of b) name kind long start)) (bad unruled)
unfolding types fields
field-ruled b levels s name kind long start named room some =
    elim (is (eqb kind 0)) [
      | on h ↦ (let z : kind ≡ 0 = eqb-true kind 0 h in rw z (field-none b levels s name long start named room some))
      | off h ↦
          let k = key_bytes kind start long in
          let at = 8 * types b + 2 in
          let c = sets b at k in
          let t : types c ≡ types b = kept-before k b at 5 (omega arith) in
          let f : fields c ≡ fields b = kept-before k b at 6 (omega arith) in
          let l : byte c (8 * types b + 1) ≡ byte b (8 * types b + 1) = kept-before k b at (8 * types b + 1) (omega arith) in
          let w : with_field (draft_of c) name 0 long start ≡ with_field (draft_of b) name kind long start =
          with-key b name kind long start s.long some s.few s.few_fields h in
          let g : ruled_field (with_field (draft_of c) name 0 long start) ≡ pick (good_span start long (byte c (8 * types c + 1)))
          (goes (with_field (draft_of c) name 0 long start)) (bad unruled) =
          field-none c levels (keyed-sound b levels s kind start long some) name long start named (omega arith) (omega arith) in
          rw (t, l, w) at g
    ]
