use mathlib.Core.Path.{◌∙◌}
use native.Mathlib.Omega.{arith}
use borrow.Author.Tests.{lt-leb}
use Rattle.rules.specs.Table.{listing}
use Rattle.rules.proofs.Cells.{listing-length}
use Rattle.position.proofs.Tests.{on_in, before-in, on-not, on-yes}
use Rattle.position.proofs.good_parentage.Goals as goal

pub run_end-requires : goal.run_end-requires
run_end-requires c = (
  c.requires.0,
  omega (arith, on_in c.args.cat.now c.args.tab.now c.args.q c.in-On.c c.in-On.is c.requires.1, c.if-a-c.true),
)

pub run_end-requires-then-a-c-2 : goal.run_end-requires-then-a-c-2
run_end-requires-then-a-c-2 c = (
  c.requires.0,
  omega (arith, before-in c.args.cat.now c.args.tab.now c.args.q c.in-Before.c c.in-Before.is c.requires.1, c.if-a-c-2.true),
)

pub returns-then-a-c : goal.returns-then-a-c
returns-then-a-c c =
    on-yes c.args.cat.now (listing c.args.cat.now c.args.tab.now) c.args.q c.args.p c.in-On.c
    c.in-Some.a c.in-Some.is c.run_end.result.0 c.in-On.is
    (rw listing-length (on_in c.args.cat.now c.args.tab.now c.args.q c.in-On.c c.in-On.is c.requires.1)) c.if-a-c.true c.run_end.ensures

pub returns-else-a-c : goal.returns-else-a-c
returns-else-a-c c = lt-leb _ _ c.if-a-c.false ∙ on-not c.args.cat.now (listing c.args.cat.now c.args.tab.now) c.args.q c.args.p c.in-On.c
    c.in-Some.a c.in-Some.is c.in-On.is
    (rw listing-length (on_in c.args.cat.now c.args.tab.now c.args.q c.in-On.c c.in-On.is c.requires.1)) c.if-a-c.false
