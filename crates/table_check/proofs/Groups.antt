-- The twin-group reader over cell numbers: which cell is the next twin, and what is left behind one. Assumes nothing.
use Rattle.std.specs.declared.cmp.Ordering.TheVariants.{Equal, Greater, Less}
use Rattle.std.specs.Prelude.{None, Some, Option}
use mathlib.Core.Path.{◌≡◌, ap, sym, ◌∙◌}
use mathlib.Core.Bool.{true, false, not}
use mathlib.Core.List.{List}
use Prim.Native.Nat.{ℕ, suc, ◌+◌, ◌-◌, ◌≤◌}
use native.Mathlib.Omega.{arith}
use lib.Dec.{eqb}
use borrow.Author.Tests.{le-ltb, eq-eqb, ne_eqb, eqb-true, eqb-false}
use Rattle.terms.specs.Names.{code}
use Rattle.forest.specs.Good.{on, off, is, after, both_left}
use Rattle.forest.specs.Numbers.{range}
use Rattle.forest.specs.Groups as Groups
use Rattle.rules.specs.Block.{Bytes}
use Rattle.rules.specs.Catalogue.{key_kind, key_value}
use Rattle.rules.specs.Cells.{Segment, segment, key, twin_order, key_order}
use Rattle.rules.proofs.Values.{value-packed}
use Rattle.table_check.specs.Keys.{packed_follows}
use Rattle.table_check.specs.Groups.{typ, fit, key_ok, is_twin, after_group, after_twin, after_row}

-- a twin behind one of smaller, equal, greater key
module _ (cat : Bytes) (c d : Segment) where
  smaller-stands : key_order cat c d ≡ Less → true ≡ twin_order cat c d
  unfolding twin_order
  smaller-stands o = elim (is (eqb (key_kind cat c.code) 0)) [
    | on h ↦ rw h
    | off h ↦ elim (is (eqb (key_kind cat c.code) 1)) [
      | on k ↦ rw (h, k, o)
      | off k ↦ rw (h, k, o)
    ]
  ]

  equal-stands : (kind : ℕ) → key_kind cat c.code ≡ kind → (kind ≡ 0 → ⊥) → key_order cat c d ≡ Equal → not (eqb kind 1) ≡ twin_order cat c d
  unfolding twin_order
  equal-stands kind e n o = elim (is (eqb kind 1)) [
    | on k ↦ rw (e, ne_eqb kind 0 n, k, o)
    | off k ↦ rw (e, ne_eqb kind 0 n, k, o)
  ]

  greater-falls : (kind : ℕ) → key_kind cat c.code ≡ kind → (kind ≡ 0 → ⊥) → key_order cat c d ≡ Greater → false ≡ twin_order cat c d
  unfolding twin_order
  greater-falls kind e n o = elim (is (eqb kind 1)) [
    | on k ↦ rw (e, ne_eqb kind 0 n, k, o)
    | off k ↦ rw (e, ne_eqb kind 0 n, k, o)
  ]

  -- a twin behind one of a packed key, whose kind the row has with 4 added
  packed-stands : (kind : ℕ) → kind ≡ key_kind cat c.code + 4 → (key_kind cat c.code ≡ 0 → ⊥) → key_value cat c.code ≡ 1
      → packed_follows kind (key cat c) (key cat d) ≡ twin_order cat c d
  unfolding packed_follows twin_order key_order
  packed-stands kind e n w =
      let o = value-packed (key_value cat c.code) (key cat c) (key cat d) (eq-eqb _ 1 w) in
      elim (is (eqb (key_kind cat c.code) 1)) [
        | on k ↦ rw (ne_eqb (key_kind cat c.code) 0 n, k, o, eq-eqb kind 5 (omega (arith, eqb-true (key_kind cat c.code) 1 k)))
        | off k ↦ rw (ne_eqb (key_kind cat c.code) 0 n, k, o, ne_eqb kind 5 (λ z. eqb-false (key_kind cat c.code) 1 k (omega arith)))
      ]

module _ (cat : Bytes) (cs : List Segment) (v : ℕ) where
  -- behind the twin `last`, cell i: of another type, and by its key
  module _ (last i : ℕ) where
    pub twin-other : (typ cat cs i ≡ v → ⊥) → false ≡ is_twin cat cs v (Some last) i
    unfolding is_twin
    twin-other n = rw (ne_eqb (typ cat cs i) v n)

    module _ (e : typ cat cs i ≡ v) (s : typ cat cs last ≡ v) where
      twin-keys : twin_order cat (segment cs last) (segment cs i) ≡ is_twin cat cs v (Some last) i
      unfolding is_twin
      twin-keys = rw (eq-eqb (typ cat cs i) v e, le-ltb (typ cat cs last) (typ cat cs i) (omega arith), eq-eqb (typ cat cs last) (typ cat cs i) (s ∙ sym e))

      -- by packed keys
      pub twin-packed : (kind : ℕ) → kind ≡ key_kind cat (code v) + 4 → (key_kind cat (code v) ≡ 0 → ⊥) → key_value cat (code v) ≡ 1
          → packed_follows kind (key cat (segment cs last)) (key cat (segment cs i)) ≡ is_twin cat cs v (Some last) i
      twin-packed kind h n w =
          let k : key_kind cat (code v) ≡ key_kind cat (segment cs last).code = ap (λ (u : ℕ). key_kind cat (code u)) (sym s) in
          packed-stands cat (segment cs last) (segment cs i) kind (omega arith) (λ z. n (k ∙ z)) (ap (λ (u : ℕ). key_value cat (code u)) s ∙ w) ∙ twin-keys

      -- any order, smaller, equal, greater
      module _ (kind : ℕ) (h : kind ≡ key_kind cat (code v)) where
        kind-is : key_kind cat (segment cs last).code ≡ kind
        kind-is = ap (λ (u : ℕ). key_kind cat (code u)) s ∙ sym h

        pub twin-unkeyed : kind ≡ 0 → true ≡ is_twin cat cs v (Some last) i
        unfolding twin_order
        twin-unkeyed z = (rw (kind-is, eq-eqb kind 0 z)) ∙ twin-keys

        pub twin-smaller : Less ≡ key_order cat (segment cs last) (segment cs i) → true ≡ is_twin cat cs v (Some last) i
        twin-smaller o = smaller-stands cat (segment cs last) (segment cs i) (sym o) ∙ twin-keys

        pub twin-equal : (kind ≡ 0 → ⊥) → Equal ≡ key_order cat (segment cs last) (segment cs i) → not (eqb kind 1) ≡ is_twin cat cs v (Some last) i
        twin-equal n o = equal-stands cat (segment cs last) (segment cs i) kind kind-is n (sym o) ∙ twin-keys

        pub twin-greater : (kind ≡ 0 → ⊥) → Greater ≡ key_order cat (segment cs last) (segment cs i) → false ≡ is_twin cat cs v (Some last) i
        twin-greater n o = greater-falls cat (segment cs last) (segment cs i) kind kind-is n (sym o) ∙ twin-keys

  -- a twin has the type of its group
  pub twin-type : (q : Option ℕ) (i : ℕ) → is_twin cat cs v q i ≡ true → typ cat cs i ≡ v
  unfolding is_twin
  twin-type q i e =
      eqb-true (typ cat cs i) v
      (both_left (eqb (typ cat cs i) v) (after (typ cat cs) (fit cat cs) (Groups.ok (typ cat cs) (fit cat cs) (key_ok cat cs)) q i) e)

  -- the first cell of type v is a twin
  pub first-twin : (i : ℕ) → typ cat cs i ≡ v → is_twin cat cs v None i ≡ true
  unfolding is_twin
  first-twin i e = rw (eq-eqb (typ cat cs i) v e)

  pub first-other : (i : ℕ) → (typ cat cs i ≡ v → ⊥) → is_twin cat cs v None i ≡ false
  unfolding is_twin
  first-other i n = rw (ne_eqb (typ cat cs i) v n)

  -- no cell left, a cell that is no twin, a twin; then what follows its segment
  module _ (q : Option ℕ) (i left : ℕ) where
    pub group-none : left ≡ 0 → after_group cat cs v q i left ≡ range i left
    unfolding after_group
    group-none e = rw (e, Groups.group-none (typ cat cs) (fit cat cs) (key_ok cat cs) v q)

    pub group-stop : 1 ≤ left → is_twin cat cs v q i ≡ false → after_group cat cs v q i left ≡ range i left
    unfolding after_group is_twin
    group-stop l e =
        let z : left ≡ suc (left - 1) = omega arith in
        rw z (Groups.group-out (typ cat cs) (fit cat cs) (key_ok cat cs) v q i (range (suc i) (left - 1)) e)

    pub group-twin : 1 ≤ left → is_twin cat cs v q i ≡ true → after_twin cat cs v i left ≡ after_group cat cs v q i left
    unfolding after_group after_twin after_row is_twin
    group-twin l e =
        let z : suc (left - 1) ≡ left = omega arith in
        ap (λ (u : ℕ). Groups.group (typ cat cs) (fit cat cs) (key_ok cat cs) v (Some i) (after_row cat cs u (suc i) (left - 1))) (sym (twin-type q i e))
        ∙ sym (Groups.group-in (typ cat cs) (fit cat cs) (key_ok cat cs) v q i (range (suc i) (left - 1)) e)
        ∙ ap (after_group cat cs v q i) z

  pub twin-behind : (i left j rest : ℕ) → after_row cat cs v (suc i) (left - 1) ≡ range j rest → after_twin cat cs v i left ≡ after_group cat cs v (Some i) j rest
  unfolding after_group after_twin
  twin-behind i left j rest e = ap (Groups.group (typ cat cs) (fit cat cs) (key_ok cat cs) v (Some i)) e
