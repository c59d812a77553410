-- What the row and the slice tell of a catalogue and a table: of a cell its type and its key, of a type whose child it is. Assumes nothing.
use mathlib.Core.Path.{◌≡◌, ap, sym, ◌∙◌}
use mathlib.Core.Bool.{true, false}
use Prim.Native.Nat.{ℕ, suc, ◌+◌, ◌-◌, ◌*◌, ◌<◌, ◌≤◌}
use native.Mathlib.Nat.{mul-le-mul_right, add-mul}
use native.Mathlib.Omega.{arith}
use lib.ListN.{length, take}
use lib.Seq.{get_or-take, length-take-le}
use borrow.Author.Tests.{eq-eqb}
use Rattle.terms.specs.declared.TypeCode.{TypeCode}
use Rattle.terms.specs.Names.{code}
use Rattle.forest.specs.Forest.{inside, outside, side}
use Rattle.forest.specs.Good.{on, off, is}
use Rattle.rules.specs.Block.{Bytes, byte, part}
use Rattle.rules.specs.Packed.{is_number}
use Rattle.rules.specs.Catalogue.{types, key_value, is_type, good_catalogue}
use Rattle.rules.specs.Cells.{segment, key, keyed}
use Rattle.rules.specs.Table.{count, listing}
use Rattle.rules.proofs.Values.{is-packed}
use Rattle.rules.proofs.Catalogue.{par}
use Rattle.catalogue.proofs.Hierarchy.{header-facts, range-type, type-facts, cell_holds}
use Rattle.cells.specs.Lent.{Sized, start_of}
use Rattle.cells.proofs.Start.{start-made}
use Rattle.cells.proofs.Data.{part-front, code_of, key-data, key-part, data_of}
use Rattle.table_check.specs.Keys.{Valued}
use Rattle.table_check.specs.Groups.{typ, fit}
use Rattle.table_check.specs.Readers.{fact, start_before, code_before, key_before, Filled, Fits, Told}
use Rattle.table_check.proofs.Before.{code_in, key_in}
use Rattle.table_check.proofs.Types.{child-is}

-- what the check lends to the readers
pub told-by : {cat tab facts : Bytes} {size n end : ℕ} → good_catalogue cat ≡ true → Sized cat tab size → Valued cat tab → Filled cat size (types cat) facts
    → n ≡ count tab → end ≡ start_of tab size n → Told cat tab (take end tab) facts
told-by g s v f e z = record { good = g; sized = rw f.wide s; cut = rw (z, e, f.wide); row = rw f.wide f; valued = v }

module _ {cat tab cells facts : Bytes} (t : Told cat tab cells facts) where
  told-length : length cells ≡ start_of tab (byte facts 0) (count tab)
  told-length = ap length t.cut ∙ length-take-le (start_of tab (byte facts 0) (count tab)) tab t.sized.within

  -- the bytes of the slice are the table's
  cut-byte : (i : ℕ) → i < length cells → byte cells i ≡ byte tab i
  cut-byte i l = let h : i < start_of tab (byte facts 0) (count tab) = omega (arith, told-length) in rw t.cut (get_or-take _ tab i 0 h)

  cut-part : (i long : ℕ) → i + long ≤ length cells → part cells i long ≡ part tab i long
  cut-part i long l = let h : i + long ≤ start_of tab (byte facts 0) (count tab) = omega (arith, told-length) in rw t.cut (part-front long i _ tab h)

  -- every key lies within its cell
  keys-told : (v : ℕ) → fact facts v 2 + fact facts v 3 ≤ byte facts 0
  keys-told v = elim (side 0 v) [
    | inside l ↦ elim (side (types cat) v) [
      | inside h ↦ omega (arith, t.row.none v 2 h (omega arith), t.row.none v 3 h (omega arith))
      | outside h ↦ (let e = t.row.entry v l h in
          omega (arith, e.start, e.long, (type-facts cat t.good (code v) l h).key-within, cell_holds cat t.good (code v) l h, t.sized.is))
    ]
    | outside l ↦ (let z : v ≡ 0 = omega arith in
        rw z (omega (arith, t.row.first 2 (omega arith) (omega arith), t.row.first 3 (omega arith) (omega arith))))
  ]

  -- all cells of the table are there
  pub told-fits : Fits cells facts (count tab)
  told-fits = record {
    inside = record {
      few = t.sized.few;
      some = omega (arith, t.sized.some);
      narrow = t.sized.narrow;
      within = omega (arith, told-length, start-made cells (byte facts 0) (count tab), start-made tab (byte facts 0) (count tab));
    };
    keys = keys-told;
  }

  -- and no more
  pub told-left : {left : ℕ} → Fits cells facts left → left ≤ count tab
  told-left {left} f = elim (side (count tab) left) [
    | inside l ↦ (
        let m : suc (count tab) * byte facts 0 ≤ left * byte facts 0 = mul-le-mul_right (byte facts 0) l in
        absurd (omega (
          arith,
          told-length,
          f.inside.some,
          f.inside.within,
          add-mul 1 (count tab) (byte facts 0),
          start-made cells (byte facts 0) left,
          start-made tab (byte facts 0) (count tab),
        )))
    | outside l ↦ l
  ]

  -- the cell at which `left` are left
  module _ {left : ℕ} (f : Fits cells facts left) where
    abbrev at : ℕ
    at = count tab - left

    told-start : start_before cells facts left ≡ start_of tab (byte facts 0) at
    told-start =
        let l : left ≤ count tab = told-left f in
        let z : at + left ≡ count tab = omega arith in
        let m : (at + left) * byte facts 0 ≡ count tab * byte facts 0 = rw z in
        omega (arith, told-length, add-mul at left (byte facts 0), start-made tab (byte facts 0) at, start-made tab (byte facts 0) (count tab))

    module _ (l : 1 ≤ left) where
      at_in : at < count tab
      at_in = omega (arith, told-left f)

      -- its type
      pub told-type : typ cat (listing cat tab) at ≡ code_before cells facts left
      told-type =
          ap (λ (u : TypeCode). u.0) (sym (code_of t.sized at at_in (start_before cells facts left) told-start))
          ∙ sym (cut-byte (start_before cells facts left) (code_in f l))

      -- its key
      pub told-key : (v : ℕ) → 1 ≤ v → v ≤ types cat → typ cat (listing cat tab) at ≡ v → key_before cells facts v left ≡ key cat (segment (listing cat tab) at)
      unfolding key_before
      told-key v a b e =
          let k : ℕ = start_before cells facts left + fact facts v 2 in
          let n : k + fact facts v 3 - k ≡ fact facts v 3 = omega arith in
          let y = t.row.entry v a b in
          let c : code v ≡ (segment (listing cat tab) at).code = ap code (sym e) in
          let h : is_type cat (code v) ≡ true = range-type cat (code v) a b in
          cut-part k (fact facts v 3) (key_in f v l)
          ∙ ap (part tab k) (sym n)
          ∙ data_of (key-data t.sized t.good at_in c h y.start y.long) (start_before cells facts left) told-start
          ∙ key-part t.sized t.good at_in c h y.start y.long

      -- which is a number where it is packed
      pub told-number : (v : ℕ) → 1 ≤ v → v ≤ types cat → typ cat (listing cat tab) at ≡ v → key_value cat (code v) ≡ 1
          → is_number (key_before cells facts v left) ≡ true
      unfolding keyed
      told-number v a b e w =
          let z : key_value cat (segment (listing cat tab) at).code ≡ 1 = ap (λ (u : ℕ). key_value cat (code u)) e ∙ w in
          ap is_number (told-key v a b e)
          ∙ sym (is-packed (key_value cat (segment (listing cat tab) at).code) (key cat (segment (listing cat tab) at)) (eq-eqb _ 1 z))
          ∙ t.valued at at_in (range-type cat (segment (listing cat tab) at).code (omega arith) (omega arith))

  -- a code that the row gives the parent p is a type beneath p; one that it gives another, or that it has no place for, is none
  pub told_child : (p u : ℕ) → 1 ≤ p → 1 ≤ u → fact facts u 0 ≡ p → (u ≤ types cat) × (par cat u ≡ p)
  told_child p u o a e = elim (side (types cat) u) [
    | inside h ↦ absurd (omega (arith, t.row.none u 0 h (omega arith)))
    | outside h ↦ (h, sym (t.row.entry u a h).parent ∙ e)
  ]

  pub told-other : (p i : ℕ) → (fact facts (typ cat (listing cat tab) i) 0 ≡ p → ⊥) → fit cat (listing cat tab) p i ≡ false
  told-other p i n = elim (is (fit cat (listing cat tab) p i)) [
    | on h ↦ (let z = child-is cat p (segment (listing cat tab) i) h in absurd (n ((t.row.entry _ z.0 z.1).parent ∙ z.2)))
    | off h ↦ h
  ]

  pub told-high : (p i : ℕ) → 32 < typ cat (listing cat tab) i → fit cat (listing cat tab) p i ≡ false
  told-high p i l = elim (is (fit cat (listing cat tab) p i)) [
    | on h ↦ absurd (omega (arith, (child-is cat p (segment (listing cat tab) i) h).1, (header-facts cat t.good).types-most))
    | off h ↦ h
  ]
