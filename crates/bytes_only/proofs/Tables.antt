-- The check of a table: a listing of known types was good where it is good now, and its keys are values. Assumes nothing.
use mathlib.Core.Path.{◌≡◌, ◌∙◌}
use mathlib.Core.Bool.{true, and-true}
use mathlib.Core.List.{List, ◌∷◌, ◌++◌}
use Prim.Native.Nat.{ℕ}
use lib.Dec.{eqb}
use Rattle.forest.specs.Forest.{Forest, forest_of}
use Rattle.forest.proofs.Forest.{cells-forest}
use Rattle.forest.specs.Good.{both_left}
use Rattle.forest.specs.Formed.{formed-alike, formed-cells}
use Rattle.rules.specs.Block.{Bytes, every}
use Rattle.rules.specs.Catalogue.{key_value, is_type, parent_of}
use Rattle.rules.specs.Cells.{Segment, type_number, keyed, is_child, siblings, segment_level, good_listing}
use Rattle.rules.specs.Table.{listing, good_table}
use Rattle.rules.proofs.Every.{every_in, every_append}
use Rattle.rules.proofs.Table.{table-keys}
use Rattle.bytes_only.specs.Before as Before
use Rattle.bytes_only.specs.AsBefore.{bytes_only}
use Rattle.bytes_only.proofs.Rows.{every-none}
use Rattle.bytes_only.proofs.Values.{type-bytes, bytes-keyed, twin-order}

module _ (cat : Bytes) (only : bytes_only cat ≡ true) where
  -- a cell that fits beneath another, or at the top, is of a type that there is
  child-bytes : (p : ℕ) (c : Segment) → is_child cat p c ≡ true → eqb (key_value cat c.code) 0 ≡ true
  unfolding is_child
  child-bytes p c e = type-bytes cat only c.code (both_left (is_type cat c.code) (eqb (parent_of cat c.code).0 p) e)

  -- the test of a row asks for the order of keys behind a cell that fits, and nowhere else
  pub listing-before : (cs : List Segment) → good_listing cat cs ≡ Before.good_listing cat cs
  unfolding good_listing Before.good_listing
  listing-before cs =
      formed-alike type_number (is_child cat) (siblings cat) (Before.siblings cat) (λ p c d e. rw (twin-order cat c (child-bytes p c e) d))
      0 (forest_of (segment_level cat) cs)

  -- a cell that fits, before cells whose keys are values
  one_more : (p : ℕ) (c : Segment) (xs ys : List Segment) → is_child cat p c ≡ true → every (keyed cat) xs ≡ true → every (keyed cat) ys ≡ true
      → every (keyed cat) (c ∷ xs ++ ys) ≡ true
  one_more p c xs ys h a b = every_in (keyed cat) c (xs ++ ys) (bytes-keyed cat c (child-bytes p c h)) ∙ every_append (keyed cat) xs ys ∙ rw (a, b)

  -- every cell of a good listing fits somewhere, so that its key is of bytes; of other listings a cell of no type may be without a value
  keys-values : (cs : List Segment) → good_listing cat cs ≡ true → every (keyed cat) cs ≡ true
  unfolding good_listing
  keys-values cs e =
      let f : Forest Segment = forest_of (segment_level cat) cs in
      rw (cells-forest (segment_level cat) cs)
      at (formed-cells type_number (is_child cat) (siblings cat) (λ xs. every (keyed cat) xs ≡ true) (every-none (keyed cat)) one_more 0 f e)

  -- LAW: the check of a table. Where the listing is no good both refuse; where it is, its keys are values.
  pub table_before : (tab : Bytes) → good_table cat tab ≡ Before.good_table cat tab
  unfolding Before.good_table
  table_before tab = table-keys cat tab true (keys-values (listing cat tab)) ∙ simp (listing-before (listing cat tab), and-true)
