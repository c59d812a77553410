use mathlib.Core.Path.{sym, ◌∙◌}
use Rattle.dbd_write.proofs.Given.{given-fit, given-lower, lent_none, answer-none, answer-short, answer-text}
use Rattle.dbd_write.proofs.umbristal_dbd_write.Goals as goal

pub returns-then-not-could_give : goal.returns-then-not-could_give
returns-then-not-could_give c = answer-none c.args.cat.now c.args.names.now c.args.text.now
    (sym c.could_give.ensures ∙ c.if-not-could_give.true)

pub put_statements-long-requires : goal.put_statements-long-requires
put_statements-long-requires c = (
  given-fit c.args.cat.now c.args.names.now (sym c.could_give.ensures ∙ c.if-not-could_give.false),
  given-lower c.args.cat.now c.args.names.now (sym c.could_give.ensures ∙ c.if-not-could_give.false),
)

pub returns-then-text-long : goal.returns-then-text-long
returns-then-text-long c = answer-short c.args.cat.now c.args.names.now c.args.text.now _ _
    (sym c.could_give.ensures ∙ c.if-not-could_give.false) c.put_statements-long.ensures.0.place
    (lent_none c.args.text.now c.put_statements-long.new.out c.put_statements-long.ensures.0.long) c.if-text-long.true

pub put_statements-requires : goal.put_statements-requires
put_statements-requires c = (
  given-fit c.args.cat.now c.args.names.now (sym c.could_give.ensures ∙ c.if-not-could_give.false),
  given-lower c.args.cat.now c.args.names.now (sym c.could_give.ensures ∙ c.if-not-could_give.false),
)

pub returns : goal.returns
returns c =
    answer-text c.args.cat.now c.args.names.now c.args.text.now _ _ _ _
    (sym c.could_give.ensures ∙ c.if-not-could_give.false) c.put_statements-long.ensures.0.place
    c.put_statements-long.ensures.1 (lent_none c.args.text.now c.put_statements-long.new.out
    c.put_statements-long.ensures.0.long) c.if-text-long.false c.put_statements.ensures.0
