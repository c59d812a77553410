use mathlib.Core.Path.{sym, ◌∙◌}
use Rattle.search.proofs.Branches.{stretch-short, stretch-on, stretch-off}
use Rattle.search.proofs.stretch.stretched.Goals as goal

pub returns-then-k-above : goal.returns-then-k-above
returns-then-k-above c = stretch-short c.requires.0.good c.args.c.0 c.args.k c.args.l c.requires.1 c.requires.2 c.requires.3 c.if-k-above.true

pub returns-else-agrees : goal.returns-else-agrees
returns-else-agrees c = stretch-off c.requires.0.good c.args.c.0 c.args.k c.args.l c.requires.1 c.requires.2 c.requires.3 c.if-k-above.false
    (sym c.agrees.ensures ∙ c.if-agrees.false)

pub returns-then-agrees : goal.returns-then-agrees
returns-then-agrees c = stretch-on c.requires.0.good c.args.c.0 c.args.k c.args.l c.requires.1 c.requires.2 c.requires.3 c.if-k-above.false
    (sym c.agrees.ensures ∙ c.if-agrees.true)
