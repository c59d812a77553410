-- Stores that must not get through: each is refuted against a demand in proofs/Wrong.antt, and so is `once` of report_loops,
-- which gets one segment and from then on answers GE. Assumes nothing: these are definitions.
use Rattle.std.specs.Prelude.{false, ◌||◌, suc, eqb, set, Some}
use Rattle.terms.specs.declared.Place.TheVariants.{On}
use Rattle.terms.specs.declared.Status.TheVariants.{Blank, GB, CX}
use Rattle.terms.specs.declared.Answer.{Answer}
use Rattle.terms.specs.Choice.{pick}
use Rattle.terms.specs.Names.{cell}
use Rattle.terms.specs.Statuses.{number}
use Rattle.terms.specs.Moves.{hold_dropped}
use Rattle.rules.specs.Block.{byte}
use Rattle.rules.specs.Cells.{segment, shown_bytes}
use Rattle.rules.specs.Table.{listing}
use Rattle.rules.specs.Calls.{bare, over, answer_of}
use Rattle.rules.specs.Outcome.{Store, outcome}
use Rattle.demands.specs.StatusTable.{get, isrt, dlet}

-- refuses everything
unfoldable pub refuses_all : Store
refuses_all cat tab pos c list area = record { answer = bare CX pos; table = tab; area = area }

-- a get always answers cell 0, and moves onto it
unfoldable pub always_first : Store
always_first cat tab pos c list area =
    pick (get c)
    (record {
      answer = answer_of cat Blank (record { place = On (cell 0); parentage = Some (cell 0); hold = false }) (segment (listing cat tab) 0) 0;
      table = tab;
      area = over (shown_bytes cat (segment (listing cat tab) 0)) area;
    })
    (outcome cat tab pos c list area)

-- ISRT and DLET answer as they should, and do nothing
unfoldable pub leaves_table : Store
leaves_table cat tab pos c list area =
    let o = outcome cat tab pos c list area in
    record { answer = o.answer; table = pick (isrt c || dlet c) tab o.table; area = o.area }

-- GB leaves the place at the end, against R63
unfoldable pub stays_at_end : Store
stays_at_end cat tab pos c list area =
    let o = outcome cat tab pos c list area in
    record { answer = pick (eqb (number o.answer.status) 10) (bare GB (hold_dropped pos)) o.answer; table = o.table; area = o.area }

-- invents removed: tells one more than went
abbrev one_more : Answer → Answer
one_more a = record { status = a.status; position = a.position; code = a.code; level = a.level; length = a.length; removed = suc a.removed }

unfoldable pub invents_removed : Store
invents_removed cat tab pos c list area =
    let o = outcome cat tab pos c list area in
    record { answer = pick (dlet c) (one_more o.answer) o.answer; table = o.table; area = o.area }

-- invents n: counts one more after every call
unfoldable pub invents_count : Store
invents_count cat tab pos c list area =
    let o = outcome cat tab pos c list area in
    record { answer = o.answer; table = set o.table 7 (suc (byte o.table 7)); area = o.area }
