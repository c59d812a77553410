-- The two readers: where each starts, goes on and stops, said of every catalogue and table that it is told of. Assumes nothing.
use Rattle.std.specs.Prelude.{None, Some}
use mathlib.Core.Path.{◌≡◌, sym, ◌∙◌}
use mathlib.Core.Bool.{Bool, true, false}
use Prim.Native.Nat.{ℕ, suc, ◌-◌, ◌<◌, ◌≤◌}
use native.Mathlib.Omega.{arith}
use Rattle.blocks.proofs.Negated.{told-no, told-yes}
use Rattle.rules.specs.Block.{Bytes}
use Rattle.rules.specs.Catalogue.{types}
use Rattle.rules.specs.Table.{count, listing}
use Rattle.table_check.specs.Groups.{typ, is_twin, after_group}
use Rattle.table_check.specs.Readers.{fact, code_before, Fits, Headed, Told, TwinIs, GroupLeaves, SegmentLeaves, GroupAt, SegmentAt}
use Rattle.table_check.proofs.Groups as Groups
use Rattle.table_check.proofs.Rows as Rows
use Rattle.table_check.proofs.Told.{told-left, told-type, told_child, told-other, told-high}

module _ {cells facts : Bytes} {v left : ℕ} where
  -- the twin-group reader starts at a cell of type v
  pub group-starts : Headed cells facts v left → GroupAt cells facts v left left
  group-starts h = record {
    type = λ t k. told-type t h.fits h.some ∙ h.code;
    is = λ t k. Groups.group-twin _ _ _ _ _ _ h.some (Groups.first-twin _ _ _ _ (told-type t h.fits h.some ∙ h.code));
  }

  -- it stands at a twin, and behind that one's segment `rest` cells are left
  module _ {last rest : ℕ} (f : Fits cells facts last) (l : 1 ≤ last) (g : GroupAt cells facts v left last)
      (s : SegmentLeaves cells facts v (last - 1) rest) where
    behind : {cat tab : Bytes} → Told cat tab cells facts → v ≤ types cat
        → after_group cat (listing cat tab) v (Some (count tab - last)) (count tab - rest) rest ≡ after_group cat (listing cat tab) v None (count tab - left) left
    behind {cat} {tab} t k =
        let z : count tab - (last - 1) ≡ suc (count tab - last) = omega (arith, told-left t f) in
        sym (Groups.twin-behind cat (listing cat tab) v (count tab - last) last (count tab - rest) rest (rw z at (s.is t))) ∙ g.is t k

    -- the end of the cells, a cell that is no twin, and the next twin
    pub group-ends : rest ≡ 0 → GroupLeaves cells facts v left rest
    group-ends e = record { is = λ t k. sym (behind t k) ∙ Groups.group-none _ _ _ _ _ _ e }

    module _ {r : Bool} (o : 1 ≤ rest) (w : TwinIs cells facts v last rest r) where
      pub group-stops : r ≡ false → GroupLeaves cells facts v left rest
      group-stops e = record { is = λ t k. sym (behind t k) ∙ Groups.group-stop _ _ _ _ _ _ o (told-no (w.is t k (g.type t k)) e) }

      next-twin : {cat tab : Bytes} → Told cat tab cells facts → v ≤ types cat → r ≡ true
          → is_twin cat (listing cat tab) v (Some (count tab - last)) (count tab - rest) ≡ true
      next-twin t k e = told-yes (w.is t k (g.type t k)) e

      pub group-goes : r ≡ true → GroupAt cells facts v left rest
      group-goes e = record {
        type = λ t k. Groups.twin-type _ _ _ _ _ (next-twin t k e);
        is = λ t k. Groups.group-twin _ _ _ _ _ _ o (next-twin t k e) ∙ behind t k;
      }

module _ {cells facts : Bytes} {p left : ℕ} where
  -- the segment reader starts with the types behind p
  pub segment-starts : SegmentAt cells facts p left p left
  segment-starts = record { is = λ t. Rows.row-start _ _ _ t.good _ _ }

  -- it has read the groups up to type c, and `rest` cells are left: none
  module _ {c rest : ℕ} (g : SegmentAt cells facts p left c rest) where
    pub segment-ends : rest ≡ 0 → SegmentLeaves cells facts p left rest
    segment-ends e = record { is = λ t. sym (g.is t) ∙ Rows.row-none _ _ _ _ _ _ e }

    -- the next cell has type u: one up to c, one that no catalogue has, one of another parent, and a child type
    module _ {u : ℕ} (f : Fits cells facts rest) (l : 1 ≤ rest) (a : 1 ≤ p) (e : u ≡ code_before cells facts rest) where
      type-is : {cat tab : Bytes} → Told cat tab cells facts → typ cat (listing cat tab) (count tab - rest) ≡ u
      type-is t = told-type t f l ∙ sym e

      pub segment-low : u ≤ c → SegmentLeaves cells facts p left rest
      segment-low h = record { is = λ t. sym (g.is t) ∙ Rows.row_low _ _ _ _ _ _ (omega (arith, type-is t)) }

      pub segment-high : 32 < u → SegmentLeaves cells facts p left rest
      segment-high h = record { is = λ t. sym (g.is t) ∙ Rows.row-unfit _ _ _ _ _ _ (told-high t _ _ (omega (arith, type-is t))) }

      pub segment-other : {q : ℕ} → q ≡ fact facts u 0 → (q ≡ p → ⊥) → SegmentLeaves cells facts p left rest
      segment-other y n = record { is = λ t. sym (g.is t) ∙ Rows.row-unfit _ _ _ _ _ _ (told-other t _ _ (rw (type-is t) (λ z. n (y ∙ z)))) }

      pub segment-goes : {q r : ℕ} → c < u → q ≡ fact facts u 0 → q ≡ p → GroupLeaves cells facts u rest r → SegmentAt cells facts p left u r
      segment-goes h y z w = record {
        is = λ t. let k = told_child t p u a (omega arith) (sym y ∙ z) in
            Rows.row-group _ _ _ _ _ _ _ _ _ l (type-is t) h k.0 k.1 (w.is t k.0) ∙ g.is t;
      }
