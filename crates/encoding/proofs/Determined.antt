-- A table's bytes, its cells and its forest determine each other: what specs/Determined.antt states. Assumes nothing.
use mathlib.Core.Path.{◌≡◌, ap, sym, ◌∙◌}
use mathlib.Core.Bool.{true}
use mathlib.Core.List.{List}
use Prim.Native.Nat.{ℕ, suc}
use native.Mathlib.Omega.{arith}
use Rattle.forest.specs.Forest.{Forest, cells_of, forest_of}
use Rattle.forest.proofs.Forest.{cells-forest}
use Rattle.forest.specs.Good.{formed, formed-wf, levelled}
use Rattle.forest.specs.Shape.{shape-levelled}
use Rattle.forest.proofs.Shape.{forest-cells}
use Rattle.forest.specs.Types as Types
use Rattle.rules.specs.Block.{Bytes}
use Rattle.rules.specs.Catalogue.{types, is_type, lineage, level, good_catalogue}
use Rattle.rules.specs.Cells.{Segment, type_number, is_child, siblings, segment_level, good_listing}
use Rattle.rules.specs.Table.{room, listing, table_bytes}
use Rattle.rules.proofs.Catalogue.{par, good-lower}
use Rattle.rules.proofs.Cells.{listing-length}
use Rattle.encoding.specs.Determined.{forest_in, table_of, TableToForest, ForestToTable}
use Rattle.encoding.proofs.Bytes.{table-listing, table-count, table_fits, table-bytes}
use Rattle.encoding.proofs.Made.{made-room, made-listing, made-good, made_bytes}

-- a well-formed row of segments, under a type p or at the top, is the forest of its listing
pub formed-forest : (cat : Bytes) → good_catalogue cat ≡ true → (p : ℕ) (f : Forest Segment) → formed type_number (is_child cat) (siblings cat) p f ≡ true
    → forest_of (segment_level cat) (cells_of f) ≡ f
unfolding is_child is_type level lineage Types.level
formed-forest cat g p f e =
    forest-cells (segment_level cat) f (shape-levelled (segment_level cat) (suc (Types.level (par cat) p)) f
    (levelled type_number (is_child cat) (siblings cat)
    (λ q s h. Types.rise (par cat) (types cat) (good-lower cat g) q (type_number s) h)
    (λ q r s h k. Types.one (par cat) (types cat) (good-lower cat g) q r (type_number s) h k)
    (Types.level (par cat))
    (λ q s h. Types.deeper (par cat) (types cat) (good-lower cat g) q (type_number s) h)
    p f (formed-wf type_number (is_child cat) (siblings cat) p f e)))

pub table-forest : TableToForest
unfolding good_listing
table-forest cat tab g h e =
    let c : cells_of (forest_in cat tab) ≡ listing cat tab = cells-forest (segment_level cat) (listing cat tab) in
    record {
      shaped = table-listing cat tab e;
      fits = rw c (table_fits cat tab e h);
      few = rw c (omega (arith, listing-length cat tab, table-count cat tab e));
      cells = c;
      only = λ f w k. sym (formed-forest cat g _ f w) ∙ ap (forest_of (segment_level cat)) k;
      whole = rw c (table-bytes cat tab e h);
    }

pub forest-table : ForestToTable
unfolding good_listing
forest-table cat m f g low w fits few =
    let cs : List Segment = cells_of f in
    let c : listing cat (table_of cat m f) ≡ cs = made-listing cat m cs fits few in
    record {
      good = made-good cat m cs fits few low (rw (formed-forest cat g _ f w) w);
      bytes = made_bytes cat m cs g fits (omega arith);
      roomy = made-room cat m cs fits few;
      cells = c;
      forest = ap (forest_of (segment_level cat)) c ∙ formed-forest cat g _ f w;
      only = λ tab h e r k.
          let q : room cat tab ≡ m = omega arith in
          sym (table-bytes cat tab e h) ∙ ap (λ (n : ℕ). table_bytes cat n (listing cat tab)) q
          ∙ ap (table_bytes cat m) (sym (cells-forest (segment_level cat) (listing cat tab)) ∙ ap cells_of k);
    }
