-- The segment reader over cell numbers: the groups that stand behind a segment's cell, one after the other. Assumes nothing.
use Rattle.std.specs.Prelude.{None}
use mathlib.Core.Path.{◌≡◌, refl, ap, sym, ◌∙◌}
use mathlib.Core.Bool.{true, false}
use mathlib.Core.List.{List}
use Prim.Native.Nat.{ℕ, zero, suc, ◌<◌, ◌≤◌}
use native.Mathlib.Omega.{arith}
use borrow.Author.Tests.{lt-ltb, le-ltb}
use Rattle.forest.specs.Forest.{inside, outside, side}
use Rattle.forest.specs.Good.{reads-out}
use Rattle.forest.specs.Numbers.{range}
use Rattle.forest.specs.Groups as Groups
use Rattle.rules.specs.Block.{Bytes}
use Rattle.rules.specs.Catalogue.{types, good_catalogue}
use Rattle.rules.specs.Cells.{Segment, segment}
use Rattle.rules.proofs.Catalogue.{par}
use Rattle.table_check.specs.Groups.{typ, fit, key_ok, after_group, after_row, after_types}
use Rattle.table_check.proofs.Types.{is-child, child-after}

module _ (cat : Bytes) (cs : List Segment) (p : ℕ) where
  -- child types come after p
  pub row-start : good_catalogue cat ≡ true → (i left : ℕ) → after_types cat cs p p i left ≡ after_row cat cs p i left
  unfolding after_types after_row
  row-start g i left = sym (Groups.above-start (typ cat cs) (fit cat cs) (key_ok cat cs) p p (λ d e. child-after cat g p (segment cs d) e) (range i left))

  module _ (c i : ℕ) where
    -- no cell left, a cell of a type up to c, a cell that is no child
    pub row-none : (left : ℕ) → left ≡ 0 → after_types cat cs p c i left ≡ range i left
    unfolding after_types Groups.above_of
    row-none left e = rw e

    pub row_low : (left : ℕ) → typ cat cs i ≤ c → after_types cat cs p c i left ≡ range i left
    unfolding after_types Groups.above_of
    row_low zero h = refl
    row_low (suc k) h = rw (Groups.above_of, le-ltb c (typ cat cs i) h)

    row_in : (left : ℕ) → 1 ≤ left → c < typ cat cs i → after_types cat cs p c i left ≡ after_row cat cs p i left
    unfolding after_types after_row Groups.above_of
    row_in zero l h = absurd (omega arith)
    row_in (suc k) l h = rw (Groups.above_of, lt-ltb c (typ cat cs i) h)

    pub row-unfit : (left : ℕ) → fit cat cs p i ≡ false → after_types cat cs p c i left ≡ range i left
    unfolding after_row
    row-unfit zero e = row-none zero refl
    row-unfit (suc k) e = elim (side c (typ cat cs i)) [
      | inside h ↦ row_in (suc k) (omega arith) h
          ∙ reads-out (typ cat cs) (fit cat cs) (Groups.ok (typ cat cs) (fit cat cs) (key_ok cat cs)) p None i (range (suc i) k) (rw e)
      | outside h ↦ row_low (suc k) h
    ]

  -- a cell of a later child type: the groups between are empty, and its own comes next
  pub row-group : (c i left u j rest : ℕ) → 1 ≤ left → typ cat cs i ≡ u → c < u → u ≤ types cat → par cat u ≡ p
      → after_group cat cs u None i left ≡ range j rest → after_types cat cs p u j rest ≡ after_types cat cs p c i left
  unfolding after_types after_group
  row-group c i left zero j rest l t h k e g = absurd (omega arith)
  row-group c i left (suc b) j rest l t h k e g =
      let child : (d : ℕ) → typ cat cs d ≡ suc b → fit cat cs p d ≡ true = λ d y. is-child cat p (segment cs d) (omega arith) (omega arith) (rw y e) in
      sym (row_in c i left l (omega arith) ∙ sym (row_in b i left l (omega arith))
      ∙ Groups.above-group (typ cat cs) (fit cat cs) (key_ok cat cs) p b child (range i left)
      ∙ ap (Groups.above_of (typ cat cs) (fit cat cs) (key_ok cat cs) p (suc b)) g)
