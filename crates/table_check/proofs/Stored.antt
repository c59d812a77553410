-- Stored keys (R89): the check of them type by type and cell by cell, what it gives the readers, and that a good table asks the same. Assumes nothing.
use mathlib.Core.Path.{◌≡◌, refl, ap, ap₂, sym, ◌∙◌}
use mathlib.Core.Bool.{Bool, true, false, ◌&&◌}
use mathlib.Core.List.{List, [], ◌∷◌}
use Prim.Native.Nat.{ℕ, zero, suc, ◌+◌, ◌-◌, ◌<◌}
use native.Mathlib.Omega.{arith}
use lib.Dec.{eqb}
use lib.ListN.{length, drop, drop_of_length-le}
use lib.Seq.{drop-cons}
use borrow.Author.Tests.{ne_eqb, eqb-true}
use Rattle.terms.specs.declared.TypeCode.{TypeCode}
use Rattle.terms.specs.Names.{code}
use Rattle.forest.specs.Good.{on, off, is, both_right}
use Rattle.forest.specs.Numbers.{range}
use Rattle.rules.specs.Block.{Bytes, part, every}
use Rattle.rules.specs.Order.{is_value}
use Rattle.rules.specs.Catalogue.{types, key_start, key_length, key_value, is_type, good_catalogue}
use Rattle.rules.specs.Cells.{Segment, segment, blank, key, keyed, good_listing}
use Rattle.rules.specs.Table.{count, listing}
use Rattle.rules.proofs.Every.{every_in, every-cons, every-get_d, every-at}
use Rattle.rules.proofs.Values.{is-bytes}
use Rattle.rules.proofs.Cells.{listing-length}
use Rattle.catalogue.proofs.Hierarchy.{type-range, range-type}
use Rattle.cells.specs.Lent.{Sized}
use Rattle.cells.proofs.Data.{key-part}
use Rattle.cells.proofs.Ancestry.{own-type}
use Rattle.table_check.specs.Keys.{plain_keys, keyed_cell, has_keys, Valued}

-- what holds of each segment, by its number
module _ (p : Segment → Bool) where
  every-each : (cs : List Segment) → ((i : ℕ) → i < length cs → p (segment cs i) ≡ true) → every p cs ≡ true
  unfolding every
  every-each [] h = refl
  every-each (c ∷ cs) h = every_in p c cs (h 0 (omega arith)) ∙ every-each cs (λ i l. h (suc i) (omega arith))

  every-from : (cs : List Segment) (i n : ℕ) → i + n ≡ length cs → every p (drop i cs) ≡ every (λ k. p (segment cs k)) (range i n)
  unfolding every
  every-from cs i zero e = rw (drop_of_length-le cs {i = i} (omega arith))
  every-from cs i (suc n) e =
      ap (every p) (drop-cons cs i blank (omega arith)) ∙ every-cons p (segment cs i) (drop (suc i) cs)
      ∙ ap (◌&&◌ (p (segment cs i))) (every-from cs (suc i) n (omega arith)) ∙ sym (every-cons (λ k. p (segment cs k)) i (range (suc i) n))

module _ (cat : Bytes) where
  -- the key of type k is of bytes
  abbrev pub plain_key : ℕ → Bool
  plain_key k = eqb (key_value cat (code k)) 0

  -- where no key is packed, any bytes are one
  plain-keyed : plain_keys cat ≡ true → (s : Segment) → is_type cat s.code ≡ true → keyed cat s ≡ true
  unfolding plain_keys keyed
  plain-keyed h s k =
      let r = type-range cat s.code k in
      let e : key_value cat s.code ≡ 0 = eqb-true (key_value cat s.code) 0 (every-at plain_key 1 (types cat) s.code.0 h r.0 (omega (arith, r.1))) in
      is-bytes (key_value cat s.code) (key cat s) (ne_eqb (key_value cat s.code) 1 (λ z. omega arith))

  module _ (tab : Bytes) where
    abbrev pub keyed_at : ℕ → Bool
    keyed_at k = keyed_cell cat (segment (listing cat tab) k)

    -- LAW: where the check of the keys has passed, the key of each cell whose type is known is a value
    pub keys-valued : has_keys cat tab ≡ true → Valued cat tab
    unfolding has_keys keyed_cell
    keys-valued h i l k = elim (is (plain_keys cat)) [
      | on p ↦ plain-keyed p (segment (listing cat tab) i) k
      | off p ↦
          let s : Segment = segment (listing cat tab) i in
          let e : every (keyed_cell cat) (listing cat tab) ≡ true = rw p at h in
          both_right (is_type cat s.code) (keyed cat s) (every-get_d (keyed_cell cat) (listing cat tab) i blank e (omega (arith, listing-length cat tab)))
    ]

    -- a good listing has known types only
    module _ (g : good_catalogue cat ≡ true) (w : good_listing cat (listing cat tab) ≡ true) where
      known : (i : ℕ) → i < length (listing cat tab) → is_type cat (segment (listing cat tab) i).code ≡ true
      known i l =
          let o = own-type cat (listing cat tab) g w i l in
          range-type cat (segment (listing cat tab) i).code o.0 o.1

      each-keyed : has_keys cat tab ≡ true → every (keyed cat) (listing cat tab) ≡ true
      each-keyed h = every-each (keyed cat) (listing cat tab) (λ i l. keys-valued h i (omega (arith, listing-length cat tab)) (known i l))

      keyed-has : every (keyed cat) (listing cat tab) ≡ true → has_keys cat tab ≡ true
      unfolding has_keys keyed_cell
      keyed-has h =
          let e : every (keyed_cell cat) (listing cat tab) ≡ true =
          every-each (keyed_cell cat) (listing cat tab) (λ i l. rw (known i l, every-get_d (keyed cat) (listing cat tab) i blank h l)) in
          elim (is (plain_keys cat)) [
            | on p ↦ rw p
            | off p ↦ rw (p, e)
          ]

      -- LAW: on a good listing the check of the keys asks what R89 does
      pub keys-same : every (keyed cat) (listing cat tab) ≡ has_keys cat tab
      keys-same = elim (is (has_keys cat tab)) [
        | on h ↦ each-keyed h ∙ sym h
        | off h ↦ elim (is (every (keyed cat) (listing cat tab))) [
          | on e ↦ e ∙ sym (keyed-has e)
          | off e ↦ e ∙ sym h
        ]
      ]

    -- all cells, by their numbers
    pub cells-keyed : every keyed_at (range 0 (count tab)) ≡ every (keyed_cell cat) (listing cat tab)
    cells-keyed = sym (every-from (keyed_cell cat) (listing cat tab) 0 (count tab) (omega (arith, listing-length cat tab)))

-- cell i, whose type the code has read as t
module _ {cat tab : Bytes} {size i : ℕ} (s : Sized cat tab size) (l : i < count tab) {t : TypeCode} (e : t ≡ (segment (listing cat tab) i).code) where
  pub cell-unknown : is_type cat t ≡ false → false ≡ keyed_cell cat (segment (listing cat tab) i)
  unfolding keyed_cell
  cell-unknown h = let z : is_type cat (segment (listing cat tab) i).code ≡ false = rw (← e) h in rw z

  -- and the place and the value type of its key
  pub cell-known : good_catalogue cat ≡ true → is_type cat t ≡ true
      → {start long w : ℕ} → start ≡ key_start cat t → long ≡ key_length cat t → w ≡ key_value cat t
      → {b : Bytes} → b ≡ part (segment (listing cat tab) i).bytes (start - 1) long → is_value w b ≡ keyed_cell cat (segment (listing cat tab) i)
  unfolding keyed_cell keyed
  cell-known g h p q v y =
      let z : is_type cat (segment (listing cat tab) i).code ≡ true = rw (← e) h in
      ap₂ is_value (v ∙ ap (key_value cat) e) (y ∙ key-part s g l e h p q) ∙ rw z
