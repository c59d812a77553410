use mathlib.Core.Path.{sym}
use native.Mathlib.Omega.{arith}
use Rattle.std.proofs.lemmas.Grind.{common_steps}
use Rattle.table_check.proofs.Stored.{keys-valued}
use Rattle.table_check.proofs.Frame.{frame-sized, table-frame}
use Rattle.table_check.proofs.check.is_good_on.Goals as goal

pub all_padded-requires : goal.all_padded-requires
all_padded-requires c = frame-sized c.args.cat.now c.args.tab.now _ c.cell_size-size.ensures.0 c.requires (sym c.if-good_frame.ensures)

pub all_free-requires : goal.all_free-requires
all_free-requires c = frame-sized c.args.cat.now c.args.tab.now _ c.cell_size-size.ensures.0 c.requires (grind (arith, common_steps))

pub has_keys-requires : goal.has_keys-requires
has_keys-requires c = (c.requires, frame-sized c.args.cat.now c.args.tab.now _ c.cell_size-size.ensures.0 c.requires (grind (arith, common_steps)))

pub is_listing-requires : goal.is_listing-requires
is_listing-requires c = (
  c.requires,
  frame-sized c.args.cat.now c.args.tab.now _ c.cell_size-size.ensures.0 c.requires (grind (arith, common_steps)),
  keys-valued c.args.cat.now c.args.tab.now (grind (arith, common_steps)),
)

pub returns-then-has_keys : goal.returns-then-has_keys
returns-then-has_keys c = let e = table-frame c.args.cat.now c.args.tab.now c.requires in grind (arith, common_steps)

pub returns-else-has_keys : goal.returns-else-has_keys
returns-else-has_keys c = let e = table-frame c.args.cat.now c.args.tab.now c.requires in grind (arith, common_steps)
