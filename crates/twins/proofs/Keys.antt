-- The key of a new segment in the area, that of a cell in the table, and how the two stand to each other, as the code reads them. Assumes nothing.
use Rattle.std.specs.declared.cmp.Ordering.{Ordering}
use Rattle.std.specs.declared.cmp.Ordering.TheVariants.{Equal, Greater, Less}
use mathlib.Core.Path.{◌≡◌, refl, ap, ap₂, sym, ◌∙◌}
use mathlib.Core.Bool.{Bool, true, false}
use mathlib.Core.List.{[]}
use Prim.Native.Nat.{ℕ, zero, suc, ◌+◌, ◌-◌, ◌*◌, ◌<◌, ◌≤◌}
use native.Mathlib.Omega.{arith}
use borrow.Author.Tests.{eq-eqb, ne_eqb, eqb-true, eqb-false}
use lib.Dec.{eqb}
use lib.ListN.{length}
use Rattle.terms.specs.declared.TypeCode.{TypeCode}
use Rattle.terms.specs.declared.Operator.{Operator}
use Rattle.terms.specs.declared.Operator.TheVariants.{Eq, Lt}
use Rattle.terms.specs.Operators.{holds}
use Rattle.std.specs.Ordering.{is_lt, is_eq}
use Rattle.forest.specs.Good.{on, off, is}
use Rattle.rules.specs.Block.{Bytes, byte, part}
use Rattle.rules.specs.Packed.{is_number, packed_order}
use Rattle.rules.specs.Order.{order, is_value}
use Rattle.rules.specs.Catalogue.{type_byte, length_of, key_kind, key_start, key_length, key_value}
use Rattle.rules.specs.Cells.{Segment, segment, segment_of, arriving, key, keyed, key_order}
use Rattle.rules.specs.Table.{count, listing}
use Rattle.rules.proofs.Values.{value-self, value-packed, value-bytes, is-packed, is-bytes}
use Rattle.rules.proofs.Entries.{type-range, type-facts}
use Rattle.values.specs.Lent.{tested}
use Rattle.cells.specs.Lent.{InData, start_of}
use Rattle.cells.proofs.Entries.{key_in}
use Rattle.cells.proofs.Data.{part-front, data-in, data_of, key-data, key-part}
use Rattle.cells.proofs.Ancestry.{sound-keyed}
use Rattle.twins.specs.Among.{Brought, New, Keyed}
use Rattle.twins.proofs.Twins.{smaller-is}

equal_is : (o : Ordering) → is_eq o ≡ true → o ≡ Equal
equal_is Less e = let z : ◌≡◌ {A = ℕ} 0 1 = cc in absurd (omega arith)
equal_is Equal e = refl
equal_is Greater e = let z : ◌≡◌ {A = ℕ} 0 1 = cc in absurd (omega arith)

greater-is : (o : Ordering) → is_lt o ≡ false → is_eq o ≡ false → o ≡ Greater
greater-is Less e f = let z : ◌≡◌ {A = ℕ} 0 1 = cc in absurd (omega arith)
greater-is Equal e f = let z : ◌≡◌ {A = ℕ} 0 1 = cc in absurd (omega arith)
greater-is Greater e f = refl

-- two packed numbers, as two tests find how they stand
module _ (a b : Bytes) (h : is_number a ≡ true) (k : is_number b ≡ true) where
  tested-is : (o : Operator) {r : Bool} → (is_number b ≡ true → r ≡ tested 1 o a b) → r ≡ holds o (packed_order a b)
  tested-is o f = f k ∙ rw (is-packed 1 a refl, value-packed 1 a b refl, h)

  pub packed-smaller : {r : Bool} → (is_number b ≡ true → r ≡ tested 1 Lt a b) → r ≡ true → Less ≡ packed_order a b
  packed-smaller f e = sym (smaller-is (packed_order a b) (sym (tested-is Lt f) ∙ e))

  pub packed-equal : {r : Bool} → (is_number b ≡ true → r ≡ tested 1 Eq a b) → r ≡ true → Equal ≡ packed_order a b
  packed-equal f e = sym (equal_is (packed_order a b) (sym (tested-is Eq f) ∙ e))

  pub packed-greater : {r q : Bool} → (is_number b ≡ true → r ≡ tested 1 Lt a b) → r ≡ false → (is_number b ≡ true → q ≡ tested 1 Eq a b) → q ≡ false
      → Greater ≡ packed_order a b
  packed-greater f e g d = sym (greater-is (packed_order a b) (sym (tested-is Lt f) ∙ e) (sym (tested-is Eq g) ∙ d))

module _ {cat : Bytes} {t : TypeCode} {area : Bytes} (n : Brought cat t area) where
  -- the key of the new segment lies within its L bytes, and so within the area
  pub key-area : key_start cat t - 1 + key_length cat t ≤ length area
  key-area = let k = key_in cat n.catalogue t n.known in elim-start (key_start cat t) k.0 k.1
    where
      elim-start : (s : ℕ) → s + key_length cat t ≤ suc (length_of cat t) → (s ≡ 0 → key_length cat t ≡ 0) → s - 1 + key_length cat t ≤ length area
      elim-start zero a b = omega (arith, n.enough, b refl)
      elim-start (suc s) a b = omega (arith, n.enough)

  new-part : {start long : ℕ} → start ≡ key_start cat t → long ≡ key_length cat t → 1 ≤ start → part area (start - 1) long ≡ key cat (arriving cat t area)
  unfolding key arriving segment_of
  new-part p q h =
      rw (p, q)
      (sym (part-front (key_length cat t) (key_start cat t - 1) (length_of cat t) area (omega (arith, (key_in cat n.catalogue t n.known).0))))

  -- as the code cuts it out
  pub new-key : {start long : ℕ} → start ≡ key_start cat t → long ≡ key_length cat t → 1 ≤ start
      → part area (start - 1) (start - 1 + long - (start - 1)) ≡ key cat (arriving cat t area)
  new-key {start} {long} p q h = let x : start - 1 + long - (start - 1) ≡ long = omega arith in rw x (new-part p q h)

  module _ {w : ℕ} (d : w ≡ key_value cat t) where
    -- of value type 0 any bytes are a value
    pub keyed-bytes : w ≡ 0 → true ≡ keyed cat (arriving cat t area)
    unfolding keyed arriving segment_of
    keyed-bytes z = sym (is-bytes (key_value cat t) _ (ne_eqb (key_value cat t) 1 (λ y. omega arith)))

    -- another is that of a key
    pub valued-start : (w ≡ 0 → ⊥) → 1 ≤ key_start cat t
    valued-start ne =
        let r = type-range cat t n.known in
        let f = type-facts cat n.catalogue t r.0 r.1 in
        elim (is (eqb (key_kind cat t) 0)) [
          | on e ↦ absurd (ne (d ∙ (f.no_key (eqb-true (key_kind cat t) 0 e)).2))
          | off e ↦ (f.some_key (eqb-false (key_kind cat t) 0 e)).0
        ]

    pub keyed-value : {start long : ℕ} → (w ≡ 0 → ⊥) → start ≡ key_start cat t → long ≡ key_length cat t
        → is_value w (part area (start - 1) (start - 1 + long - (start - 1))) ≡ keyed cat (arriving cat t area)
    unfolding keyed arriving segment_of
    keyed-value ne p q = ap₂ is_value d (new-key p q (omega (arith, valued-start ne)))

module _ {cat tab : Bytes} {size : ℕ} {t : TypeCode} {area : Bytes} (n : New cat tab size t area) where
  pub new-brought : Brought cat t area
  new-brought = record { catalogue = n.sound.catalogue; known = n.known; enough = n.enough }

  -- the key of cell i, a segment of this type, lies within its data
  pub key-cell : {i start long : ℕ} → i < count tab → (segment (listing cat tab) i).code ≡ t → start ≡ key_start cat t → long ≡ key_length cat t
      → InData cat tab size i start long
  key-cell l e p q = key-data n.sound.sized n.sound.catalogue l (sym e) n.known p q

  pub old-key : {i start long : ℕ} → i < count tab → (segment (listing cat tab) i).code ≡ t → start ≡ key_start cat t → long ≡ key_length cat t
      → part (segment (listing cat tab) i).bytes (start - 1) long ≡ key cat (segment (listing cat tab) i)
  old-key l e p q = key-part n.sound.sized n.sound.catalogue l (sym e) n.known p q

  -- how the new segment stands to cell i; the code has found where the entry of its type begins, and read there where the key starts
  module _ {i entry start : ℕ} (l : i < count tab) (e : (segment (listing cat tab) i).code ≡ t) (b : entry ≡ 8 * t.0) (f : start ≡ byte cat (entry + 3)) where
    abbrev x : Segment
    x = arriving cat t area

    abbrev s : Segment
    s = segment (listing cat tab) i

    is-start : start ≡ key_start cat t
    unfolding key_start type_byte
    is-start = f ∙ ap (λ (k : ℕ). byte cat (k + 3)) b

    -- without a key nothing is compared: both keys are empty
    pub order-unkeyed : start ≡ 0 → Equal ≡ key_order cat x s
    unfolding key_order key arriving segment_of
    order-unkeyed z =
        let k : key_length cat t ≡ 0 = (key_in cat n.sound.catalogue t n.known).1 (sym is-start ∙ z) in
        rw (e, k) (sym (value-self (key_value cat t) []))

    -- and how long it is
    module _ {long : ℕ} (g : long ≡ byte cat (entry + 4)) where
      is-long : long ≡ key_length cat t
      unfolding key_length type_byte
      is-long = g ∙ ap (λ (k : ℕ). byte cat (k + 4)) b

      pub compared-cell : InData cat tab size i start long
      compared-cell = key-cell l e is-start is-long

      pub compared-area : start - 1 + long ≤ length area
      compared-area = rw (is-start, is-long) (key-area new-brought)

      pub compared-in : {at : ℕ} → at ≡ start_of tab size i → (start - 1 + long ≤ length area) × (at + start + long ≤ length tab)
      compared-in a = (compared-area, rw a (data-in compared-cell))

      module _ (ne : start ≡ 0 → ⊥) where
        is-value-type : byte cat (entry + 7) ≡ key_value cat t
        unfolding key_value type_byte
        is-value-type = ap (λ (k : ℕ). byte cat (k + 7)) b

        -- keys of bytes
        pub order-bytes : {y : Bytes} → (byte cat (entry + 7) ≡ 1 → ⊥) → y ≡ part s.bytes (start - 1) long
            → order (part area (start - 1) (start - 1 + long - (start - 1))) y ≡ key_order cat x s
        unfolding key_order arriving segment_of
        order-bytes w h =
            ap₂ order (new-key new-brought is-start is-long (omega arith)) (h ∙ old-key l e is-start is-long)
            ∙ sym (value-bytes (key_value cat t) (key cat x) (key cat s) (ne_eqb (key_value cat t) 1 (λ z. w (is-value-type ∙ z))))

        -- packed keys: both are numbers, the new one since it is a value, that of the cell since the table was checked
        pub order-packed : {r : Ordering} {at : ℕ} → Keyed cat t area → byte cat (entry + 7) ≡ 1 → at ≡ start_of tab size i
            → (is_number (part area (start - 1) long) ≡ true → is_number (part tab (at + start) long) ≡ true
            → r ≡ packed_order (part area (start - 1) long) (part tab (at + start) long))
            → r ≡ key_order cat x s
        unfolding key_order keyed arriving segment_of
        order-packed {r} {at} v w a h =
            let o : eqb (key_value cat t) 1 ≡ true = eq-eqb (key_value cat t) 1 (sym is-value-type ∙ w) in
            let m : at + start + long - (at + start) ≡ long = omega arith in
            let y : part area (start - 1) long ≡ key cat x = new-part new-brought is-start is-long (omega arith) in
            let z : part tab (at + start) long ≡ key cat s = rw m at (data_of compared-cell at a) ∙ old-key l e is-start is-long in
            let p : is_number (key cat x) ≡ true = sym (is-packed (key_value cat t) (key cat x) o) ∙ v in
            let q : is_number (key cat s) ≡ true = sym (is-packed (key_value cat t) (key cat s) o) ∙ rw e at (sound-keyed n.sound i l) in
            h (ap is_number y ∙ p) (ap is_number z ∙ q) ∙ ap₂ packed_order y z ∙ sym (value-packed (key_value cat t) (key cat x) (key cat s) o)
