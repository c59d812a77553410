-- What is kept besides the draft stays sound when bytes are written. Assumes nothing.
use mathlib.Core.Path.{◌≡◌, ap, sym, ◌∙◌}
use mathlib.Core.List.{[], ◌∷◌}
use Prim.Native.Nat.{ℕ, suc, ◌+◌, ◌-◌, ◌*◌, ◌<◌, ◌≤◌}
use native.Mathlib.Omega.{arith}
use lib.ListN.{length, set, length-set}
use lib.Seq.{sets, length-sets, take-set-lt, get_or-set_same, get_or-set_other}
use Rattle.rules.specs.Block.{Bytes, byte, part}
use Rattle.rules.specs.Catalogue.{types, fields}
use Rattle.catalogue_check.specs.Levelled.{Ready, Next}
use Rattle.statements.specs.Draft.{header, with_type, with_field}
use Rattle.statements.proofs.Rows.{Alike, part-alike, part-byte}
use Rattle.dbd_draft.specs.Kept.{draft_of, Sound}
use Rattle.dbd_draft.proofs.Writes.{made, kept-before, kept-behind}
use Rattle.dbd_draft.proofs.Ordered.{ready-same}
use Rattle.dbd_draft.proofs.Drafts.{key_bytes, typed, fielded}

-- T and F in the header
header-types : (b : Bytes) (t f v : ℕ) → part b 0 8 ≡ header 0x43 t f → part (set b 5 v) 0 8 ≡ header 0x43 v f
unfolding header
header-types b t f v e = take-set-lt 8 b 5 v (omega arith) ∙ ap (λ (x : Bytes). set x 5 v) e

header-fields : (b : Bytes) (t f v : ℕ) → part b 0 8 ≡ header 0x43 t f → part (set b 6 v) 0 8 ≡ header 0x43 t v
unfolding header
header-fields b t f v e = take-set-lt 8 b 6 v (omega arith) ∙ ap (λ (x : Bytes). set x 6 v) e

-- the header and the parents and the last L are as they were, but for F
kept : (b c levels : Bytes) → Sound b levels → length c ≡ 1296 → types c ≡ types b → fields c ≤ 64 → part c 0 8 ≡ header 0x43 (types b) (fields c)
    → Alike b c 8 (8 * types b + 1) → byte c (8 * types b + 1) ≡ byte b (8 * types b + 1) → (0 < types b → 0 < byte c 520) → Sound c levels
kept b c levels s n t f h a l o = record {
  long = n;
  few = omega (arith, s.few);
  few_fields = f;
  headed = rw t h;
  ready = rw t (ready-same b c levels (types b) a (s.long ∙ sym n) s.ready);
  low = rw (t, l) s.low;
  based = λ z. o (omega arith);
}

module _ (b levels : Bytes) (s : Sound b levels) where
  -- with the data base's name
  pub based-sound : (name : Bytes) → length name ≡ 8 → 0 < byte (sets b 520 name) 520 → Sound (sets b 520 name) levels
  unfolding types fields
  based-sound name e o =
      let c = sets b 520 name in
      let n : length c ≡ 1296 = length-sets b 520 name ∙ s.long in
      let f : fields c ≡ fields b = kept-before name b 520 6 (omega arith) in
      let h : part c 0 8 ≡ part b 0 8 = part-alike c b 0 8 (omega arith) (omega (arith, s.long)) (λ j l k. kept-before name b 520 j (omega arith)) in
      kept b c levels s n (kept-before name b 520 5 (omega arith)) (omega (arith, s.few_fields)) (h ∙ s.headed ∙ ap (header 0x43 (types b)) (sym f))
      (λ j l k. sym (kept-before name b 520 j (omega (arith, s.few)))) (kept-before name b 520 (8 * types b + 1) (omega (arith, s.few))) (λ z. o)

  -- with a key of the last type
  pub keyed-sound : (kind start long : ℕ) → 0 < types b → Sound (sets b (8 * types b + 2) (key_bytes kind start long)) levels
  unfolding types fields
  keyed-sound kind start long o =
      let k = key_bytes kind start long in
      let at = 8 * types b + 2 in
      let c = sets b at k in
      let n : length c ≡ 1296 = length-sets b at k ∙ s.long in
      let f : fields c ≡ fields b = kept-before k b at 6 (omega arith) in
      let h : part c 0 8 ≡ part b 0 8 = part-alike c b 0 8 (omega arith) (omega (arith, s.long)) (λ j l m. kept-before k b at j (omega arith)) in
      let d : byte c 520 ≡ byte b 520 = kept-behind k b at 520 (omega (arith, s.few)) in
      kept b c levels s n (kept-before k b at 5 (omega arith)) (omega (arith, s.few_fields)) (h ∙ s.headed ∙ ap (header 0x43 (types b)) (sym f))
      (λ j l m. sym (kept-before k b at j (omega arith))) (kept-before k b at (8 * types b + 1) (omega arith)) (λ z. omega (arith, s.based z))

-- the entry of a type without a key, and the array with one type more, before it is counted
abbrev pub type_entry : ℕ → ℕ → Bytes
type_entry above long = above ∷ long ∷ 0 ∷ 0 ∷ 0 ∷ 0 ∷ 0 ∷ 0 ∷ []

abbrev pub type_written : Bytes → Bytes → ℕ → ℕ → Bytes
type_written b name above long = sets (sets b (8 + 8 * types b) (type_entry above long)) (520 + (8 + 8 * types b)) name

module _ (b levels : Bytes) (s : Sound b levels) (name : Bytes) (above long : ℕ) (named : length name ≡ 8) (room : types b < 32) where
  pub type-long : length (type_written b name above long) ≡ 1296
  type-long =
      length-sets (sets b (8 + 8 * types b) (type_entry above long)) (520 + (8 + 8 * types b)) name ∙ length-sets b (8 + 8 * types b) (type_entry above long)
      ∙ s.long

  pub type-before : (j : ℕ) → j < 8 + 8 * types b → byte (type_written b name above long) j ≡ byte b j
  type-before j h =
      kept-before name (sets b (8 + 8 * types b) (type_entry above long)) (520 + (8 + 8 * types b)) j (omega arith)
      ∙ kept-before (type_entry above long) b (8 + 8 * types b) j h

  type-between : (j : ℕ) → 264 ≤ j → j < 528 + 8 * types b → byte (type_written b name above long) j ≡ byte b j
  type-between j l h =
      kept-before name (sets b (8 + 8 * types b) (type_entry above long)) (520 + (8 + 8 * types b)) j (omega arith)
      ∙ kept-behind (type_entry above long) b (8 + 8 * types b) j (omega arith)

  type-behind : (j : ℕ) → 784 ≤ j → byte (type_written b name above long) j ≡ byte b j
  type-behind j l =
      kept-behind name (sets b (8 + 8 * types b) (type_entry above long)) (520 + (8 + 8 * types b)) j (omega arith)
      ∙ kept-behind (type_entry above long) b (8 + 8 * types b) j (omega arith)

  pub type-entry : part (type_written b name above long) (8 + 8 * types b) 8 ≡ type_entry above long
  type-entry =
      let c = sets b (8 + 8 * types b) (type_entry above long) in
      let n : length c ≡ 1296 = length-sets b (8 + 8 * types b) (type_entry above long) ∙ s.long in
      part-alike (type_written b name above long) c (8 + 8 * types b) 8 (omega (arith, type-long)) (omega arith)
      (λ j l m. kept-before name c (520 + (8 + 8 * types b)) j (omega arith))
      ∙ made b (8 + 8 * types b) (type_entry above long) (omega (arith, s.long))

  type-name : part (type_written b name above long) (528 + 8 * types b) 8 ≡ name
  type-name =
      let c = sets b (8 + 8 * types b) (type_entry above long) in
      let n : length c ≡ 1296 = length-sets b (8 + 8 * types b) (type_entry above long) ∙ s.long in
      let z : 520 + (8 + 8 * types b) ≡ 528 + 8 * types b = omega arith in
      let m : part (type_written b name above long) (520 + (8 + 8 * types b)) (length name) ≡ name = made c (520 + (8 + 8 * types b)) name (omega arith) in
      ap (λ (i : ℕ). part (type_written b name above long) i 8) (sym z) ∙ ap (part (type_written b name above long) (520 + (8 + 8 * types b))) (sym named) ∙ m

  pub type-ready : Ready (type_written b name above long) levels (types b)
  type-ready = ready-same b (type_written b name above long) levels (types b) (λ j l m. sym (type-before j (omega arith))) (s.long ∙ sym type-long) s.ready

  -- what is asked before the type is judged
  pub type-next : Next (type_written b name above long) levels (types b + 1)
  type-next =
      let z : types b + 1 - 1 ≡ types b = omega arith in
      record { some = omega arith; few = omega arith; within = omega (arith, type-long); before = rw z type-ready }

  module _ (v : ℕ) (one : v ≡ suc (types b)) where
    pub type-other : (j : ℕ) → (j ≡ 5 → ⊥) → byte (set (type_written b name above long) 5 v) j ≡ byte (type_written b name above long) j
    type-other j h = get_or-set_other (type_written b name above long) 5 j v 0 h

    pub counted-long : length (set (type_written b name above long) 5 v) ≡ 1296
    counted-long = length-set (type_written b name above long) 5 v ∙ type-long

    pub counted-types : types (set (type_written b name above long) 5 v) ≡ v
    unfolding types
    counted-types = get_or-set_same (type_written b name above long) 5 v 0 (omega (arith, type-long))

    pub counted-fields : fields (set (type_written b name above long) 5 v) ≡ fields b
    unfolding fields
    counted-fields = type-other 6 (λ z. omega arith) ∙ type-before 6 (omega arith)

    part-other : (i : ℕ) → 8 ≤ i → i + 8 ≤ 1296 → part (set (type_written b name above long) 5 v) i 8 ≡ part (type_written b name above long) i 8
    part-other i l h =
        part-alike (set (type_written b name above long) 5 v) (type_written b name above long) i 8 (omega (arith, counted-long)) (omega (arith, type-long))
        (λ j k m. type-other j (λ z. omega arith))

    pub counted-headed : part (set (type_written b name above long) 5 v) 0 8 ≡ header 0x43 v (fields b)
    counted-headed =
        header-types (type_written b name above long) (types b) (fields b) v
        (part-alike (type_written b name above long) b 0 8 (omega (arith, type-long)) (omega (arith, s.long)) (λ j l m. type-before j (omega arith))
        ∙ s.headed)

    -- the draft, and what is kept besides, with the type that was found good
    pub type-draft : draft_of (set (type_written b name above long) 5 v) ≡ with_type (draft_of b) name above long
    type-draft =
        typed b (set (type_written b name above long) 5 v) s.long counted-long s.few s.few_fields room (counted-types ∙ one) counted-fields
        (λ j l m. type-other j (λ z. omega arith) ∙ type-before j m) (λ j l m. type-other j (λ z. omega arith) ∙ type-between j l m)
        (λ j l m. type-other j (λ z. omega arith) ∙ type-behind j l) name above long
        (part-other (8 + 8 * types b) (omega arith) (omega arith) ∙ type-entry) (part-other (528 + 8 * types b) (omega arith) (omega arith) ∙ type-name)

    own-long : byte (set (type_written b name above long) 5 v) (8 * v + 1) ≡ long
    own-long =
        let z : 8 * v + 1 ≡ 8 + 8 * types b + 1 = omega arith in
        rw z
        (type-other (8 + 8 * types b + 1) (λ e. omega arith) ∙ sym (part-byte (type_written b name above long) (8 + 8 * types b) 8 1 (omega arith))
        ∙ ap (λ (t : Bytes). byte t 1) type-entry)

    pub type-sound : (row : Bytes) → 0 < byte b 520 → Ready (type_written b name above long) row v → long ≤ 120
        → Sound (set (type_written b name above long) 5 v) row
    type-sound row o r m =
        let e : byte (set (type_written b name above long) 5 v) 520 ≡ byte b 520 = type-other 520 (λ z. omega arith) ∙ type-between 520 (omega arith)
        (omega arith) in
        record {
          long = counted-long;
          few = omega (arith, counted-types);
          few_fields = omega (arith, counted-fields, s.few_fields);
          headed = rw (counted-types, counted-fields) counted-headed;
          ready = rw counted-types
              (ready-same (type_written b name above long) (set (type_written b name above long) 5 v) row v (λ j l n. sym (type-other j (λ z. omega arith)))
              (type-long ∙ sym counted-long) r);
          low = rw counted-types (omega (arith, own-long));
          based = λ z. omega arith;
        }

-- the array with one field more
abbrev pub field_written : Bytes → Bytes → ℕ → ℕ → Bytes
field_written b name long start = sets (sets b (264 + 4 * fields b) (types b ∷ start ∷ long ∷ 0 ∷ [])) (784 + 8 * fields b) name

module _ (b levels : Bytes) (s : Sound b levels) (name : Bytes) (long start : ℕ) (named : length name ≡ 8) (room : fields b < 64) (v : ℕ)
    (one : v ≡ suc (fields b)) where
  pub field-long : length (field_written b name long start) ≡ 1296
  field-long =
      length-sets (sets b (264 + 4 * fields b) (types b ∷ start ∷ long ∷ 0 ∷ [])) (784 + 8 * fields b) name
      ∙ length-sets b (264 + 4 * fields b) (types b ∷ start ∷ long ∷ 0 ∷ []) ∙ s.long

  field-before : (j : ℕ) → j < 264 + 4 * fields b → byte (field_written b name long start) j ≡ byte b j
  field-before j h =
      kept-before name (sets b (264 + 4 * fields b) (types b ∷ start ∷ long ∷ 0 ∷ [])) (784 + 8 * fields b) j (omega arith)
      ∙ kept-before (types b ∷ start ∷ long ∷ 0 ∷ []) b (264 + 4 * fields b) j h

  field-between : (j : ℕ) → 520 ≤ j → j < 784 + 8 * fields b → byte (field_written b name long start) j ≡ byte b j
  field-between j l h =
      kept-before name (sets b (264 + 4 * fields b) (types b ∷ start ∷ long ∷ 0 ∷ [])) (784 + 8 * fields b) j h
      ∙ kept-behind (types b ∷ start ∷ long ∷ 0 ∷ []) b (264 + 4 * fields b) j (omega arith)

  field-entry : part (field_written b name long start) (264 + 4 * fields b) 4 ≡ types b ∷ start ∷ long ∷ 0 ∷ []
  field-entry =
      let c = sets b (264 + 4 * fields b) (types b ∷ start ∷ long ∷ 0 ∷ []) in
      let n : length c ≡ 1296 = length-sets b (264 + 4 * fields b) (types b ∷ start ∷ long ∷ 0 ∷ []) ∙ s.long in
      part-alike (field_written b name long start) c (264 + 4 * fields b) 4 (omega (arith, field-long)) (omega arith)
      (λ j l m. kept-before name c (784 + 8 * fields b) j (omega arith))
      ∙ made b (264 + 4 * fields b) (types b ∷ start ∷ long ∷ 0 ∷ []) (omega (arith, s.long))

  field-name : part (field_written b name long start) (784 + 8 * fields b) 8 ≡ name
  field-name =
      let c = sets b (264 + 4 * fields b) (types b ∷ start ∷ long ∷ 0 ∷ []) in
      let n : length c ≡ 1296 = length-sets b (264 + 4 * fields b) (types b ∷ start ∷ long ∷ 0 ∷ []) ∙ s.long in
      ap (part (field_written b name long start) (784 + 8 * fields b)) (sym named) ∙ made c (784 + 8 * fields b) name (omega arith)

  field-other : (j : ℕ) → (j ≡ 6 → ⊥) → byte (set (field_written b name long start) 6 v) j ≡ byte (field_written b name long start) j
  field-other j h = get_or-set_other (field_written b name long start) 6 j v 0 h

  added-long : length (set (field_written b name long start) 6 v) ≡ 1296
  added-long = length-set (field_written b name long start) 6 v ∙ field-long

  pub added-fields : fields (set (field_written b name long start) 6 v) ≡ v
  unfolding fields
  added-fields = get_or-set_same (field_written b name long start) 6 v 0 (omega (arith, field-long))

  pub added-types : types (set (field_written b name long start) 6 v) ≡ types b
  unfolding types
  added-types = field-other 5 (λ z. omega arith) ∙ field-before 5 (omega arith)

  -- its entry stands there
  pub added-entry : part (set (field_written b name long start) 6 v) (264 + 4 * fields b) 4 ≡ types b ∷ start ∷ long ∷ 0 ∷ []
  added-entry =
      part-alike (set (field_written b name long start) 6 v) (field_written b name long start) (264 + 4 * fields b) 4 (omega (arith, added-long))
      (omega (arith, field-long))
      (λ j k m. field-other j (λ z. omega arith))
      ∙ field-entry

  -- the last type's L is as it was
  pub added-low : byte (set (field_written b name long start) 6 v) (8 * types b + 1) ≡ byte b (8 * types b + 1)
  added-low = field-other (8 * types b + 1) (λ z. omega arith) ∙ field-before (8 * types b + 1) (omega (arith, s.few))

  pub field-draft : draft_of (set (field_written b name long start) 6 v) ≡ with_field (draft_of b) name 0 long start
  field-draft =
      fielded b (set (field_written b name long start) 6 v) s.long added-long s.few s.few_fields room added-types (added-fields ∙ one)
      (λ j l m. field-other j (λ z. omega arith) ∙ field-before j m) (λ j l m. field-other j (λ z. omega arith) ∙ field-between j l m)
      name long start added-entry
      (part-alike (set (field_written b name long start) 6 v) (field_written b name long start) (784 + 8 * fields b) 8 (omega (arith, added-long))
      (omega (arith, field-long))
      (λ j k m. field-other j (λ z. omega arith)) ∙ field-name)

  pub field-sound : Sound (set (field_written b name long start) 6 v) levels
  field-sound =
      let e : byte (set (field_written b name long start) 6 v) 520 ≡ byte b 520 = field-other 520 (λ z. omega arith) ∙ field-between 520 (omega arith)
      (omega arith) in
      kept b (set (field_written b name long start) 6 v) levels s added-long added-types (omega (arith, added-fields))
      (header-fields (field_written b name long start) (types b) (fields b) v
      (part-alike (field_written b name long start) b 0 8 (omega (arith, field-long)) (omega (arith, s.long)) (λ j l m. field-before j (omega arith))
      ∙ s.headed)
      ∙ ap (header 0x43 (types b)) (sym added-fields))
      (λ j l m. sym (field-other j (λ z. omega arith) ∙ field-before j (omega (arith, s.few)))) added-low (λ z. omega (arith, s.based z))
