-- ISRT in three parts: the parent, what refuses the new segment at its spot, and the cell put in. Assumes nothing: these are definitions.
use Rattle.terms.specs.declared.CellNumber.{CellNumber}
use Rattle.std.specs.Prelude.{Bool, false, not, List, [], ◌∷◌, ℕ, suc, eqb, length, Some, None, Option}
use Rattle.terms.specs.declared.TypeCode.{TypeCode}
use Rattle.terms.specs.declared.Position.{Position}
use Rattle.terms.specs.declared.Status.{Status}
use Rattle.terms.specs.declared.Status.TheVariants.{Blank, GE, II, FX, PD}
use Rattle.terms.specs.Choice.{pick}
use Rattle.terms.specs.Moves.{after_insert}
use Rattle.rules.specs.Block.{Bytes}
use Rattle.rules.specs.Cells.{Segment, keyed, end_at, row_at}
use Rattle.rules.specs.Arguments.{Level}
use Rattle.rules.specs.Matching.{along}
use Rattle.rules.specs.Change.{put, applied}
use Rattle.rules.specs.Calls.{After, refused, missed, is_one_of, changed}
use Rattle.rules.specs.Outcome.{is_blank}
use Rattle.twins.specs.Among.{spot_among}
use Rattle.changes.specs.declared.insert.Siblings.{Siblings}

-- II (R59), then FX (R60); Blank, if it is neither
unfoldable pub insert_status : Bool → ℕ → ℕ → Status
insert_status taken n m = pick taken II (pick (eqb n m) FX Blank)

-- the cells from one number to before another, and whether what goes among them is beneath the parentage
abbrev pub among : ℕ → ℕ → Bool → Option Siblings
among from to beneath = Some (record { from = from; to = to; beneath = beneath })

module _ (cat : Bytes) (cs : List Segment) (pos : Position) where
  -- the cells beneath the parent that was found
  abbrev pub parented_at : Option CellNumber → Option Siblings
  parented_at None = None
  parented_at (Some c) = among (suc c.0) (end_at cat cs c.0) (is_one_of (row_at cat cs c.0) pos.parentage)

  -- R40: the parent, or that the type needs none
  unfoldable pub parented : TypeCode → List Level → Option Siblings
  parented t ls = pick (eqb t.0 1) (among 0 (length cs) false) (parented_at (along cat cs ls pos.place))

  module _ (area : Bytes) where
    -- x becomes cell r; `beneath` says whether it is beneath the parentage there
    unfoldable pub put_in : ℕ → Segment → Bool → After
    put_in r x beneath = changed cat (after_insert r beneath pos) x 0 (put r (x ∷ [])) (applied (put r (x ∷ [])) cs) area

    -- x among the cells from `from` to before `to`, in a table of room m; PD (R91), unless its key is a value
    unfoldable pub inserted_among : ℕ → Segment → ℕ → ℕ → Bool → After
    inserted_among m x from to beneath =
        let s = spot_among cat cs x from to in
        let refusal = insert_status s.taken (length cs) m in
        pick (not (keyed cat x)) (refused PD pos area) (pick (is_blank refusal) (put_in s.at x beneath) (refused refusal pos area))

    -- R51: GE where there is no parent
    abbrev pub inserted_in : ℕ → Segment → Option Siblings → After
    inserted_in m x None = missed GE pos area
    inserted_in m x (Some s) = inserted_among m x s.from s.to s.beneath
