-- Whether the next cell is the next twin: what each way out of the code says of every catalogue and table that it is told of. Assumes nothing.
use Rattle.std.specs.declared.cmp.Ordering.{Ordering}
use Rattle.std.specs.declared.cmp.Ordering.TheVariants.{Equal, Greater, Less}
use mathlib.Core.Path.{◌≡◌, refl, ap, ap₂, sym, ◌∙◌}
use mathlib.Core.Bool.{Bool, true, false, not}
use Prim.Native.Nat.{ℕ, ◌+◌, ◌-◌, ◌*◌, ◌<◌, ◌≤◌}
use native.Mathlib.Omega.{arith}
use lib.Dec.{eqb}
use borrow.Author.Tests.{eq-eqb, ne_eqb}
use Rattle.terms.specs.declared.Operator.TheVariants.{Lt}
use Rattle.terms.specs.Names.{code}
use Rattle.forest.specs.Forest.{inside, outside, side}
use Rattle.std.specs.Ordering.{is_lt, is_gt}
use Rattle.rules.specs.Block.{Bytes}
use Rattle.rules.specs.Packed.{is_number, packed_order}
use Rattle.rules.specs.Catalogue.{types, key_kind, key_length, key_value}
use Rattle.rules.specs.Cells.{segment, key, key_order}
use Rattle.rules.specs.Order.{order}
use Rattle.values.specs.Lent.{tested}
use Rattle.rules.specs.Table.{count, listing}
use Rattle.rules.proofs.Order.{turned}
use Rattle.rules.proofs.Packed.{packed-turned}
use Rattle.rules.proofs.Values.{value-bytes, holds-packed}
use Rattle.catalogue.proofs.Hierarchy.{type-facts}
use Rattle.table_check.specs.Keys.{packed_follows}
use Rattle.table_check.specs.Groups.{typ}
use Rattle.table_check.specs.Readers.{fact, code_before, key_before, Follows, Told, TwinIs}
use Rattle.table_check.proofs.Before.{fits_next, some-last}
use Rattle.table_check.proofs.Groups as Groups
use Rattle.table_check.proofs.Told.{told-type, told-key, told-number}

-- the cells at which `last` and `left` are left, and the type v
module _ {cells facts : Bytes} {v last left : ℕ} (w : Follows cells facts v last left) where
  -- the code has read the type u: another one
  pub other-type : {u : ℕ} → u ≡ code_before cells facts left → (u ≡ v → ⊥) → TwinIs cells facts v last left false
  other-type y n = record { is = λ t k s. Groups.twin-other _ _ _ _ _ (λ e. n (y ∙ sym (told-type t (fits_next w) w.some) ∙ e)) }

  module _ {u : ℕ} (y : u ≡ code_before cells facts left) (e : u ≡ v) where
    type-told : {cat tab : Bytes} → Told cat tab cells facts → typ cat (listing cat tab) (count tab - left) ≡ v
    type-told t = told-type t (fits_next w) w.some ∙ sym y ∙ e

    -- the two keys
    module _ {cat tab : Bytes} (t : Told cat tab cells facts) (k : v ≤ types cat) (s : typ cat (listing cat tab) (count tab - last) ≡ v) where
      last-key : key_before cells facts v last ≡ key cat (segment (listing cat tab) (count tab - last))
      last-key = told-key t w.fits (some-last w) v w.least k s

      next-key : key_before cells facts v left ≡ key cat (segment (listing cat tab) (count tab - left))
      next-key = told-key t (fits_next w) w.some v w.least k (type-told t)

      value-told : key_value cat (segment (listing cat tab) (count tab - last)).code ≡ key_value cat (code v)
      value-told = ap (λ (u : ℕ). key_value cat (code u)) s

      order-told : key_value cat (code v) ≡ 0 → {o : Ordering} → o ≡ order (key_before cells facts v last) (key_before cells facts v left)
          → o ≡ key_order cat (segment (listing cat tab) (count tab - last)) (segment (listing cat tab) (count tab - left))
      unfolding key_order
      order-told z o =
          let n : ℕ = key_value cat (segment (listing cat tab) (count tab - last)).code in
          o ∙ ap₂ order last-key next-key ∙ sym (value-bytes n _ _ (ne_eqb n 1 (λ y. omega (arith, value-told))))

      -- packed ones are numbers
      last-number : key_value cat (code v) ≡ 1 → is_number (key_before cells facts v last) ≡ true
      last-number z = told-number t w.fits (some-last w) v w.least k s z

      next-number : key_value cat (code v) ≡ 1 → is_number (key_before cells facts v left) ≡ true
      next-number z = told-number t (fits_next w) w.some v w.least k (type-told t) z

    -- a type has a key exactly where its key has a byte
    module _ {cat tab : Bytes} (t : Told cat tab cells facts) (k : v ≤ types cat) {long : ℕ} (g : long ≡ fact facts v 3) where
      long-told : long ≡ key_length cat (code v)
      long-told = g ∙ (t.row.entry v w.least k).long

      no_kind : long ≡ 0 → key_kind cat (code v) ≡ 0
      no_kind z = elim (side 0 (key_kind cat (code v))) [
        | inside l ↦ absurd (omega (arith, ((type-facts cat t.good (code v) w.least k).some_key (λ e. omega arith)).1, long-told))
        | outside l ↦ omega arith
      ]

      some-kind : (long ≡ 0 → ⊥) → {kind : ℕ} → kind ≡ key_kind cat (code v) → kind ≡ 0 → ⊥
      some-kind n p z = n (long-told ∙ ((type-facts cat t.good (code v) w.least k).no_key (sym p ∙ z)).1)

    -- the same type: without a key
    pub no_key : {long : ℕ} → long ≡ fact facts v 3 → long ≡ 0 → TwinIs cells facts v last left true
    no_key g z = record { is = λ t k s. Groups.twin-unkeyed _ _ _ _ _ (type-told t) s _ refl (no_kind t k g z) }

    module _ (kind : ℕ) (h : kind ≡ fact facts v 1) where
      -- the kind in the row: up to 2 that of a key of bytes, and above that of a packed one, with 4 added
      kind-told : {cat tab : Bytes} → Told cat tab cells facts → v ≤ types cat → kind ≡ key_kind cat (code v) + 4 * key_value cat (code v)
      kind-told t k = h ∙ (t.row.entry v w.least k).kind

      bytes-kind : {cat tab : Bytes} → Told cat tab cells facts → v ≤ types cat → kind ≤ 2 → (kind ≡ key_kind cat (code v)) × (key_value cat (code v) ≡ 0)
      bytes-kind t k l = let e = kind-told t k in (omega arith, omega arith)

      packed-kind : {cat tab : Bytes} → Told cat tab cells facts → v ≤ types cat → 2 < kind
          → (kind ≡ key_kind cat (code v) + 4) × (key_kind cat (code v) ≡ 0 → ⊥) × (key_value cat (code v) ≡ 1)
      packed-kind {cat} t k l =
          let f = type-facts cat t.good (code v) w.least k in
          let e : key_value cat (code v) ≡ 1 = omega (arith, kind-told t k, f.kind-most, f.value-most) in
          (omega (arith, kind-told t k), (λ z. omega (arith, (f.no_key z).2)), e)

      -- by the order of the keys
      pub packed-key : 2 < kind → {r : Bool}
          → (is_number (key_before cells facts v last) ≡ true → is_number (key_before cells facts v left) ≡ true
          → r ≡ packed_follows (fact facts v 1) (key_before cells facts v last) (key_before cells facts v left))
          → TwinIs cells facts v last left r
      packed-key l f = record {
        is = λ t k s. let p = packed-kind t k l in
            f (last-number t k s p.2) (next-number t k s p.2)
            ∙ (ap (λ (n : ℕ). packed_follows n (key_before cells facts v last) (key_before cells facts v left)) (sym h))
            ∙ ap₂ (packed_follows kind) (last-key t k s) (next-key t k s)
            ∙ Groups.twin-packed _ _ _ _ _ (type-told t) s kind p.0 p.1 p.2;
      }

      module _ (l : kind ≤ 2) where
        pub smaller-key : Less ≡ order (key_before cells facts v last) (key_before cells facts v left) → TwinIs cells facts v last left true
        smaller-key o = record {
          is = λ t k s. let p = bytes-kind t k l in Groups.twin-smaller _ _ _ _ _ (type-told t) s kind p.0 (order-told t k s p.1 o);
        }

        module _ {long : ℕ} (g : long ≡ fact facts v 3) (n : long ≡ 0 → ⊥) where
          pub equal-key : Equal ≡ order (key_before cells facts v last) (key_before cells facts v left) → TwinIs cells facts v last left (not (eqb kind 1))
          equal-key o = record {
            is = λ t k s. let p = bytes-kind t k l in
                Groups.twin-equal _ _ _ _ _ (type-told t) s kind p.0 (some-kind t k g n p.0) (order-told t k s p.1 o);
          }

          pub greater-key : Greater ≡ order (key_before cells facts v last) (key_before cells facts v left) → TwinIs cells facts v last left false
          greater-key o = record {
            is = λ t k s. let p = bytes-kind t k l in
                Groups.twin-greater _ _ _ _ _ (type-told t) s kind p.0 (some-kind t k g n p.0) (order-told t k s p.1 o);
          }

-- what is not greater the other way round is not smaller
turned-smaller : (o : Ordering) → is_lt (turned o) ≡ is_gt o
turned-smaller Less = refl
turned-smaller Equal = refl
turned-smaller Greater = refl

-- Which packed key may follow, by kind: x and y are the two keys as they were handed over, a unique one in their order, another the other way round.
module _ (kind : ℕ) (a b : Bytes) {x y : Bytes} (e : x ≡ a) (f : y ≡ b) {r : Bool} where
  pub unique-follows : kind ≡ 5 → (is_number y ≡ true → r ≡ tested 1 Lt x y) → is_number a ≡ true → is_number b ≡ true → r ≡ packed_follows kind a b
  unfolding packed_follows
  unique-follows k g p q = g (ap is_number f ∙ q) ∙ ap₂ (tested 1 Lt) e f ∙ holds-packed Lt a b p ∙ rw (eq-eqb kind 5 k)

  pub multiple-follows : (kind ≡ 5 → ⊥) → (is_number x ≡ true → r ≡ tested 1 Lt y x) → is_number a ≡ true → is_number b ≡ true → not r ≡ packed_follows kind a b
  unfolding packed_follows
  multiple-follows n g p q =
      let z : r ≡ is_gt (packed_order a b) =
      g (ap is_number e ∙ p) ∙ ap₂ (tested 1 Lt) f e ∙ holds-packed Lt b a q ∙ ap is_lt (packed-turned a b) ∙ turned-smaller (packed_order a b) in
      rw (ne_eqb kind 5 n) (ap not z)
