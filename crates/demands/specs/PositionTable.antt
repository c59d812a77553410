-- The position afterwards, row by row: for each of the nine calls and each way it can end, what the rules (R35 to R45, R62, R63) say of the place, the
-- parentage and the hold.
-- Nothing here is taken from what the calls make of a position (terms, Moves; rules, Calls and Paths). Assumes nothing: these are definitions.
use Rattle.terms.specs.declared.CellNumber.{CellNumber}
use Rattle.std.specs.Prelude.{Bool, true, false, ◌&&◌, not, ℕ, zero, suc, ◌-◌, ltb, leb, eqb, length, Some, None, Option}
use Rattle.terms.specs.declared.Place.{Place}
use Rattle.terms.specs.declared.Place.TheVariants.{On, Before}
use Rattle.terms.specs.declared.Position.{Position}
use Rattle.terms.specs.declared.Status.{Status}
use Rattle.terms.specs.Choice.{pick}
use Rattle.terms.specs.Names.{cell, Parentage}
use Rattle.terms.specs.Statuses.{number}
use Rattle.rules.specs.Block.{Bytes}
use Rattle.rules.specs.Catalogue.{level}
use Rattle.rules.specs.Cells.{segment, goes_before, level_at, end_at}
use Rattle.demands.specs.StatusTable.{found_cell, found, cells, new_type, new, root, parent}

-- the words of a row
pub data PlaceSaid : Type 0 where
  place_stays : PlaceSaid
  on_found : PlaceSaid
  on_new : PlaceSaid
  gap_of_run : PlaceSaid
  at_start : PlaceSaid

pub data ParentageSaid : Type 0 where
  parentage_stays : ParentageSaid
  of_found : ParentageSaid
  if_beneath : ParentageSaid
  unless_in_run : ParentageSaid
  no_parentage : ParentageSaid

pub data HoldSaid : Type 0 where
  hold_stays : HoldSaid
  hold_set : HoldSaid
  no_hold : HoldSaid

pub record PositionRow : Type 0 where
  pub place : PlaceSaid
  pub parentage : ParentageSaid
  pub hold : HoldSaid

abbrev leaves : PlaceSaid → ParentageSaid → HoldSaid → PositionRow
leaves q p h = record { place = q; parentage = p; hold = h }

-- the call c is done: blank, GA or GK
abbrev pub done_row : ℕ → PositionRow
done_row c =
    -- GU, GN (R36 to R38)
    pick (eqb c 1) (leaves on_found of_found no_hold)
    (pick (eqb c 2) (leaves on_found of_found no_hold)
    -- GNP (R35)
    (pick (eqb c 3) (leaves on_found parentage_stays no_hold)
    -- GHU, GHN, GHNP
    (pick (eqb c 4) (leaves on_found of_found hold_set)
    (pick (eqb c 5) (leaves on_found of_found hold_set)
    (pick (eqb c 6) (leaves on_found parentage_stays hold_set)
    -- ISRT (R42)
    (pick (eqb c 7) (leaves on_new if_beneath no_hold)
    -- REPL (R43)
    (pick (eqb c 8) (leaves place_stays parentage_stays no_hold)
    -- DLET (R45)
    (leaves gap_of_run unless_in_run no_hold))))))))

-- by the status that it ends with
abbrev pub row_after : ℕ → ℕ → PositionRow
row_after c s =
    -- a refusal (R62)
    pick (leb 20 s) (leaves place_stays parentage_stays hold_stays)
    -- GB (R63): the fresh position (R19)
    (pick (eqb s 10) (leaves at_start no_parentage no_hold)
    -- GE and GP clear the hold only
    (pick (eqb s 11) (leaves place_stays parentage_stays no_hold)
    (pick (eqb s 12) (leaves place_stays parentage_stays no_hold)
    (done_row c))))

-- the first of the n numbers from i on at which a test holds, or the one behind them
unfoldable pub first_of : (ℕ → Bool) → ℕ → ℕ → ℕ
first_of t i zero = i
first_of t i (suc n) = pick (t i) i (first_of t (suc i) n)

-- the cell of a place
abbrev pub number_of : Place → ℕ
number_of (On c) = c.0
number_of (Before c) = c.0

-- a parentage that passes a test stays; an absent one is absent
abbrev pub kept_if : (ℕ → Bool) → Parentage → Parentage
kept_if t None = None
kept_if t (Some p) = pick (t p.0) (Some p) None

-- what the words mean, for a call c with this list and area, on this catalogue and table, at this position
module _ (cat tab : Bytes) (pos : Position) (c : ℕ) (list area : Bytes) where
  -- R17: cell j lies in the run of cell i
  abbrev pub in_run : ℕ → ℕ → Bool
  in_run i j = leb i j && ltb j (end_at cat (cells cat tab pos c list area) i)

  -- ISRT: a cell that the new one must stand before: a sibling of a later type, or a twin of greater key
  abbrev pub later : ℕ → Bool
  later j =
      eqb (level_at cat (cells cat tab pos c list area) j) (level cat (new_type cat tab pos c list area))
      && goes_before cat (new cat tab pos c list area) (segment (cells cat tab pos c list area) j)

  -- R41: the first cell in the parent's run that must come later, or the run's end
  abbrev pub new_beneath : Option CellNumber → ℕ
  new_beneath None = 0
  new_beneath (Some p) = first_of later (suc p.0) (end_at cat (cells cat tab pos c list area) p.0 - suc p.0)

  abbrev pub new_cell : ℕ
  new_cell =
      pick (root cat tab pos c list area) (first_of later 0 (length (cells cat tab pos c list area)))
      (new_beneath (parent cat tab pos c list area))

  -- the new cell is beneath p: its parent lies in p's run
  abbrev pub new_is_beneath : Option CellNumber → ℕ → Bool
  new_is_beneath None p = false
  new_is_beneath (Some q) p = in_run p q.0

  abbrev pub place_said : PlaceSaid → Place
  place_said place_stays = pos.place
  place_said on_found = On (cell (found_cell (found cat tab pos c list area)))
  place_said on_new = On (cell new_cell)
  place_said gap_of_run = Before (cell (number_of pos.place))
  place_said at_start = Before (cell 0)

  abbrev pub parentage_said : ParentageSaid → Parentage
  parentage_said parentage_stays = pos.parentage
  parentage_said of_found = Some (cell (found_cell (found cat tab pos c list area)))
  parentage_said if_beneath =
      kept_if (λ p. not (root cat tab pos c list area) && new_is_beneath (parent cat tab pos c list area) p) pos.parentage
  parentage_said unless_in_run = kept_if (λ p. not (in_run (number_of pos.place) p)) pos.parentage
  parentage_said no_parentage = None

  abbrev pub hold_said : HoldSaid → Bool
  hold_said hold_stays = pos.hold
  hold_said hold_set = true
  hold_said no_hold = false

  -- the whole position
  abbrev pub said : PositionRow → Position
  said r = record { place = place_said r.place; parentage = parentage_said r.parentage; hold = hold_said r.hold }

  -- what the table says of a call that ends with status s
  abbrev pub position_after : Status → Position
  position_after s = said (row_after c (number s))
