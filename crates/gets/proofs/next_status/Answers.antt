use mathlib.Core.Path.{◌∙◌}
use native.Mathlib.Omega.{arith}
use Prim.Native.Nat.{◌-◌}
use Rattle.rules.specs.Table.{listing}
use Rattle.cells.proofs.Ancestry.{sound-known}
use Rattle.gets.proofs.Codes.{status-on}
use Rattle.gets.proofs.next_status.Goals as goal

pub change_status-requires : goal.change_status-requires
change_status-requires c = (
  c.requires.0.catalogue,
  rw c.code_at-u.ensures
      (sound-known c.requires.0 (c.args.c.0 - 1)
      (omega (arith, c.requires.1))),
  rw c.code_at.ensures
      (sound-known c.requires.0 c.args.c.0
      c.requires.1),
)

pub returns : goal.returns
returns c = c.change_status.ensures ∙ status-on c.args.cat.now (listing c.args.cat.now c.args.tab.now) c.args.c.0
    c.args.on c.if-not-on.false c.code_at-u.result c.code_at.result c.code_at-u.ensures
    c.code_at.ensures
