-- DEMAND 2.
--
-- What the calls do to the table's bytes is what document 000 says of a forest of segments, where the rules (R1 to R63) decide. The n cells list a forest
-- (R14): bytes, cells and forest determine each other. Each call over the cells is the call over the forest, in every byte. A good table stays good, and so
-- does the position; no call invents what it counts, and none touches more of the table than R47 lets it. The result tells the segment that the call was
-- about, and how many cells went (R46); and place, parentage and hold are what the rules say of the call and of how it ended.
--
-- Assumes nothing: this is the statement; the proof is in proofs/.
use Rattle.std.specs.Prelude.{◌≡◌, ◌&&◌, ℕ, ◌<◌}
use Rattle.terms.specs.declared.Position.{Position}
use Rattle.terms.specs.Choice.{pick}
use Rattle.terms.specs.Statuses.{number}
use Rattle.terms.specs.Moves.{place_number}
use Rattle.rules.specs.Block.{Bytes}
use Rattle.rules.specs.Catalogue.{level, length_of}
use Rattle.rules.specs.Cells.{Segment, segment, run_at}
use Rattle.rules.specs.Table.{listing}
use Rattle.rules.specs.Calls.{over}
use Rattle.rules.specs.Outcome.{Outcome, Store, is_blank}
use Rattle.encoding.specs.Determined.{TableToForest, ForestToTable}
use Rattle.model.specs.Model.{ModelIsCells}
use Rattle.model.specs.Kept.{TablesStayGood}
use Rattle.model.specs.Session.{CheckedOnce}
use Rattle.demands.specs.StatusTable.{get, isrt, dlet, new, held}
use Rattle.demands.specs.PositionTable.{position_after}

-- the outcome o of a call c with this list and area, on this catalogue and table, at this position
module _ (cat tab : Bytes) (pos : Position) (c : ℕ) (list area : Bytes) (o : Outcome) where
  -- R46: the segment that the call was about: that of the cell moved onto, the new one, the held one
  abbrev pub subject : Segment
  subject =
      pick (get c) (segment (listing cat tab) (place_number o.answer.position.place))
      (pick (isrt c) (new cat tab pos c list area) (held cat tab pos c list area))

  -- R46: what is told of that segment; R37: a get writes its data to the front of the area and leaves the rest, and no other call
  -- writes to the area
  pub record Done : Type 0 where
    pub code : o.answer.code ≡ subject.code
    pub level : o.answer.level ≡ level cat subject.code
    pub length : o.answer.length ≡ length_of cat subject.code
    pub written : o.area ≡ pick (get c) (over subject.bytes area) area

  -- place, parentage and hold
  abbrev pub Stands : Type 0
  Stands = o.answer.position ≡ position_after cat tab pos c list area o.answer.status

  pub record Tells : Type 0 where
    -- done: blank, GA or GK
    pub done : number o.answer.status < 10 → Done
    -- R46: how many cells went
    pub removed : o.answer.removed
        ≡ pick (dlet c && is_blank o.answer.status) (run_at cat (listing cat tab) (place_number pos.place)) 0

-- asked of a store
pub record Demand2 (store : Store) : Type 0 where
  -- the bytes of a good table are those of its cells in its room, and its cells are the listing of one well-formed forest and of no other
  pub table_to_forest : TableToForest
  -- every well-formed forest that fits is the forest of one good table, and of no other
  pub forest_to_table : ForestToTable
  -- on every input, good or not, the outcome by the forest (000) is the outcome by the cells, to the byte: answer, table, area, and the position,
  -- which there is said of paths
  pub model : ModelIsCells store
  -- after every call on good blocks table and position are good, the count is the one before, with the cell inserted, without those removed, and nothing has
  -- changed but what R47 names
  pub stays : TablesStayGood store
  -- so a row of calls that begins on good blocks need not check them again
  pub once : CheckedOnce store
  -- on every input the position afterwards is what the table of positions says of the call and of how it ended
  pub stands : (cat tab : Bytes) (pos : Position) (c : ℕ) (list area : Bytes) → Stands cat tab pos c list area (store cat tab pos c list area)
  -- on every input the result tells what was concerned
  pub tells : (cat tab : Bytes) (pos : Position) (c : ℕ) (list area : Bytes) → Tells cat tab pos c list area (store cat tab pos c list area)
