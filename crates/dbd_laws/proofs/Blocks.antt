-- What the two blocks of a draft say is what its rows say. Assumes nothing.
use mathlib.Core.Path.{◌≡◌, refl, ap, sym, ◌∙◌}
use mathlib.Core.Bool.{true}
use mathlib.Core.List.{List, [], ◌∷◌, ◌++◌, append_assoc, append-nil}
use Prim.Native.Nat.{ℕ, suc, ◌+◌, ◌*◌, ◌<◌}
use native.Mathlib.Omega.{arith}
use lib.ListN.{length, get_or, drop, length-append}
use lib.Seq.{drop_at, drop-drop}
use Rattle.terms.specs.Names.{code, field}
use Rattle.rules.specs.Block.{Bytes, byte, marked}
use Rattle.rules.specs.Catalogue.{types, fields, type_byte, field_byte}
use Rattle.statements.specs.Draft.{Draft, joined_row, header, catalogue_of, names_of, rows}
use Rattle.statements.specs.Dbd.{name_at}
use Rattle.statements.proofs.Joined.{Wide, all_append, joined-append, joined_length, row-byte, row-part, row-rows}

module _ (d : Draft) where
  abbrev pub T : ℕ
  T = length d.types

  abbrev pub F : ℕ
  F = length d.fields

  -- the headers
  pub types_are : types (catalogue_of d) ≡ T
  unfolding types catalogue_of header
  types_are = refl

  pub fields-are : fields (catalogue_of d) ≡ F
  unfolding fields catalogue_of header
  fields-are = refl

  pub catalogue-ends : byte (catalogue_of d) 7 ≡ 0
  unfolding catalogue_of header
  catalogue-ends = refl

  pub catalogue-marked : marked 0x43 (catalogue_of d) ≡ true
  unfolding marked catalogue_of header
  catalogue-marked = refl

  pub names_marked : marked 0x4E (names_of d) ≡ true
  unfolding marked names_of header
  names_marked = refl

  pub names-header : (byte (names_of d) 5 ≡ T) × (byte (names_of d) 6 ≡ F) × (byte (names_of d) 7 ≡ 0)
  unfolding names_of header
  names-header = (refl, refl, refl)

  -- all names in one row
  abbrev pub all_names : List Bytes
  all_names = d.base ∷ (d.segment_names ++ d.field_names)

  -- what follows the headers
  pub drop-types : drop 8 (catalogue_of d) ≡ joined_row d.types ++ joined_row d.fields
  unfolding catalogue_of header
  drop-types = refl

  drop-base : drop 8 (names_of d) ≡ d.base ++ joined_row d.segment_names ++ joined_row d.field_names
  unfolding names_of header
  drop-base = refl

  pub drop-names : drop 8 (names_of d) ≡ joined_row all_names ++ []
  unfolding joined_row
  drop-names =
      drop-base ∙ append_assoc d.base (joined_row d.segment_names) (joined_row d.field_names)
      ∙ ap (◌++◌ d.base) (sym (joined-append d.segment_names d.field_names))
      ∙ sym (append-nil (d.base ++ joined_row (d.segment_names ++ d.field_names)))

  module _ (wide : Wide 8 d.types) where
    -- a byte of a type's entry
    pub type-byte : (i j : ℕ) → i < T → j < 8 → type_byte (catalogue_of d) (code (suc i)) j ≡ byte (get_or d.types i []) j
    unfolding type_byte
    type-byte i j l m =
        let z : 8 * suc i + j ≡ 8 + (8 * i + j) = omega arith in
        rw z (row-byte 8 (joined_row d.fields) (catalogue_of d) 8 d.types wide drop-types i j l m)

    pub drop-fields : drop (8 + 8 * T) (catalogue_of d) ≡ joined_row d.fields ++ []
    drop-fields =
        sym (drop-drop (8 * T) 8 (catalogue_of d)) ∙ ap (drop (8 * T)) drop-types
        ∙ drop_at (joined_row d.types) (joined_row d.fields) (8 * T) (joined_length 8 d.types wide) ∙ sym (append-nil (joined_row d.fields))

    module _ (short : Wide 4 d.fields) where
      -- a byte of a field's entry
      pub field-byte : (i j : ℕ) → i < F → j < 4 → field_byte (catalogue_of d) (field (suc i)) j ≡ byte (get_or d.fields i []) j
      unfolding field_byte
      field-byte i j l m =
          let z : 4 + 8 * T + 4 * suc i + j ≡ 8 + 8 * T + (4 * i + j) = omega arith in
          rw (types_are, z) (row-byte 4 [] (catalogue_of d) (8 + 8 * T) d.fields short drop-fields i j l m)

      pub fields-rows : rows 4 (catalogue_of d) (8 + 8 * T) F ≡ d.fields
      fields-rows = row-rows 4 [] (catalogue_of d) d.fields short (8 + 8 * T) drop-fields

      pub catalogue-length : length (catalogue_of d) ≡ 8 + 8 * T + 4 * F
      unfolding catalogue_of header
      catalogue-length =
          omega (arith, length-append (joined_row d.types) (joined_row d.fields), joined_length 8 d.types wide, joined_length 4 d.fields short)

  module _ (base : length d.base ≡ 8) (segments : Wide 8 d.segment_names) (names : Wide 8 d.field_names) where
    all-wide : Wide 8 all_names
    all-wide = (base, all_append (λ x. length x ≡ 8) d.segment_names d.field_names segments names)

    -- the name at a place
    pub name-at : (i : ℕ) → i < length all_names → name_at (names_of d) i ≡ get_or all_names i []
    unfolding name_at
    name-at i l = row-part 8 [] (names_of d) 8 all_names all-wide drop-names i l

    drop-segments : drop 16 (names_of d) ≡ joined_row d.segment_names ++ joined_row d.field_names
    drop-segments =
        sym (drop-drop 8 8 (names_of d)) ∙ ap (drop 8) (drop-base ∙ append_assoc d.base (joined_row d.segment_names) (joined_row d.field_names))
        ∙ drop_at d.base (joined_row d.segment_names ++ joined_row d.field_names) 8 base

    pub segments-rows : rows 8 (names_of d) 16 (length d.segment_names) ≡ d.segment_names
    segments-rows = row-rows 8 (joined_row d.field_names) (names_of d) d.segment_names segments 16 drop-segments

    drop-last : drop (16 + 8 * length d.segment_names) (names_of d) ≡ joined_row d.field_names ++ []
    drop-last =
        let n : ℕ = 8 * length d.segment_names in
        sym (drop-drop n 16 (names_of d)) ∙ ap (drop n) drop-segments
        ∙ drop_at (joined_row d.segment_names) (joined_row d.field_names) n (joined_length 8 d.segment_names segments)
        ∙ sym (append-nil (joined_row d.field_names))

    pub names-rows : rows 8 (names_of d) (16 + 8 * length d.segment_names) (length d.field_names) ≡ d.field_names
    names-rows = row-rows 8 [] (names_of d) d.field_names names (16 + 8 * length d.segment_names) drop-last

    pub names-length : length (names_of d) ≡ 16 + 8 * length d.segment_names + 8 * length d.field_names
    unfolding names_of header
    names-length =
        omega (
          arith,
          base,
          length-append (d.base ++ joined_row d.segment_names) (joined_row d.field_names),
          length-append d.base (joined_row d.segment_names),
          joined_length 8 d.segment_names segments,
          joined_length 8 d.field_names names,
        )
