-- The block of a draft that an array keeps: it has the array's bytes, and its types and fields are judged by them. Assumes nothing.
use mathlib.Core.Path.{◌≡◌, refl, ap, sym, ◌∙◌}
use mathlib.Core.Bool.{Bool, true, false, ◌&&◌}
use mathlib.Core.List.{[], ◌∷◌, ◌++◌}
use Prim.Native.Nat.{ℕ, suc, ◌+◌, ◌*◌, ◌<◌, ◌≤◌}
use native.Mathlib.Omega.{arith}
use lib.Dec.{ltb}
use lib.ListN.{length, get_or-append}
use lib.Seq.{get_or-append-add}
use borrow.Author.Tests.{le-leb}
use Rattle.terms.specs.Names.{field}
use Rattle.rules.specs.Block.{Bytes, byte, part}
use Rattle.rules.specs.Catalogue.{types, fields, type_byte, key_kind, length_of, field_byte, field_type, field_start, field_length, field_value, is_type}
use Rattle.rules.specs.Catalogue.{good_span, good_field}
use Rattle.statements.specs.Draft.{header, catalogue_of, is_keyed}
use Rattle.statements.proofs.Rows.{rows-length, joined-rows, part_then, part_length, part-byte}
use Rattle.dbd_draft.specs.Kept.{draft_of, Sound}
use Rattle.dbd_draft.proofs.Drafts.{types_are}

-- an array with its header and room for what it counts
pub record Framed (b : Bytes) : Type 0 where
  pub long : length b ≡ 1296
  pub few : types b ≤ 32
  pub few_fields : fields b ≤ 64
  pub headed : part b 0 8 ≡ header 0x43 (types b) (fields b)

pub framed : (b levels : Bytes) → Sound b levels → Framed b
framed b levels s = record { long = s.long; few = s.few; few_fields = s.few_fields; headed = s.headed }

module _ (b : Bytes) (s : Framed b) where
  block-is : catalogue_of (draft_of b) ≡ part b 0 (8 + 8 * types b) ++ part b 264 (4 * fields b)
  unfolding catalogue_of draft_of
  block-is =
      rw (rows-length 8 b 8 (types b), rows-length 4 b 264 (fields b), joined-rows 8 b 8 (types b), joined-rows 4 b 264 (fields b), ← s.headed)
      (ap (λ (t : Bytes). t ++ part b 264 (4 * fields b)) (part_then b 0 8 (8 * types b)))

  front_long : length (part b 0 (8 + 8 * types b)) ≡ 8 + 8 * types b
  front_long = part_length b 0 (8 + 8 * types b) (omega (arith, s.long, s.few))

  -- LAW: the header and the types
  pub block-byte : (i : ℕ) → i < 8 + 8 * types b → byte (catalogue_of (draft_of b)) i ≡ byte b i
  block-byte i h =
      let z : 0 + i ≡ i = omega arith in
      ap (λ (t : Bytes). byte t i) block-is
      ∙ get_or-append (part b 0 (8 + 8 * types b)) (part b 264 (4 * fields b)) 0 i (omega (arith, front_long))
      ∙ part-byte b 0 (8 + 8 * types b) i h ∙ ap (byte b) z

  -- and the fields
  block-field : (k : ℕ) → k < 4 * fields b → byte (catalogue_of (draft_of b)) (8 + 8 * types b + k) ≡ byte b (264 + k)
  block-field k h =
      ap (λ (t : Bytes). byte t (8 + 8 * types b + k)) block-is
      ∙ ap (λ (i : ℕ). byte (part b 0 (8 + 8 * types b) ++ part b 264 (4 * fields b)) (i + k)) (sym front_long)
      ∙ get_or-append-add (part b 0 (8 + 8 * types b)) (part b 264 (4 * fields b)) k 0
      ∙ part-byte b 264 (4 * fields b) k h

  -- whether the last type has a key
  pub keyed-is : is_keyed (draft_of b) ≡ ltb 0 (byte b (8 * types b + 2))
  unfolding is_keyed key_kind type_byte
  keyed-is = rw (types_are b, block-byte (8 * types b + 2) (omega arith))

  block-types : types (catalogue_of (draft_of b)) ≡ types b
  unfolding types
  block-types = block-byte 5 (omega arith)

  -- the last field, whose entry is that of a field of the last type
  module _ (n start long : ℕ) (last : fields b ≡ suc n) (entry : part b (264 + 4 * n) 4 ≡ types b ∷ start ∷ long ∷ 0 ∷ []) (some : 0 < types b) where
    own-byte : (k : ℕ) → k < 4 → field_byte (catalogue_of (draft_of b)) (field (suc n)) k ≡ byte (types b ∷ start ∷ long ∷ 0 ∷ []) k
    unfolding field_byte
    own-byte k h =
        let z : 4 + 8 * types (catalogue_of (draft_of b)) + 4 * suc n + k ≡ 8 + 8 * types b + (4 * n + k) = omega (arith, block-types) in
        let y : 264 + (4 * n + k) ≡ 264 + 4 * n + k = omega arith in
        ap (byte (catalogue_of (draft_of b))) z ∙ block-field (4 * n + k) (omega arith) ∙ ap (byte b) y
        ∙ sym (part-byte b (264 + 4 * n) 4 k h) ∙ ap (λ (t : Bytes). byte t k) entry

    both : (g : Bool) → (true && g && true) ≡ g
    both true = refl
    both false = refl

    -- LAW: it is good where its span lies within the last type's data
    pub last-good : good_field (catalogue_of (draft_of b)) (suc n) ≡ good_span start long (byte b (8 * types b + 1))
    unfolding good_field is_type field_type field_start field_length field_value length_of type_byte
    last-good =
        let o : byte (catalogue_of (draft_of b)) (8 * types b + 1) ≡ byte b (8 * types b + 1) = block-byte (8 * types b + 1) (omega arith) in
        rw (
          own-byte 0 (omega arith),
          own-byte 1 (omega arith),
          own-byte 2 (omega arith),
          own-byte 3 (omega arith),
          block-types,
          o,
          le-leb 1 (types b)
              (omega arith),
          le-leb (types b) (types b) (omega arith),
        )
        (both (good_span start long (byte b (8 * types b + 1))))
