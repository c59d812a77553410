use Rattle.std.proofs.Common.{◌∙◌}
use Rattle.blocks.proofs.Negated.{told-no, told-yes}
use Rattle.values.proofs.Held.{no_number, number-held}
use Rattle.values.proofs.holds_at.Goals as goal

pub returns-then-is_number : goal.returns-then-is_number
returns-then-is_number c = number-held c.args.o c.args.a.now c.args.b.now c.args.i c.args.j c.args.long
    (told-yes c.is_number.ensures c.if-is_number.true) c.packed_order.ensures c.holds.ensures

pub returns-else-is_number : goal.returns-else-is_number
returns-else-is_number c = λ n. c.if-is_number.false ∙ no_number c.args.o c.args.a.now c.args.b.now c.args.i c.args.j c.args.long
    (told-no c.is_number.ensures c.if-is_number.false)
