use Rattle.position.proofs.Tests.{place-on, place-before}
use Rattle.position.proofs.good_place.Goals as goal

pub returns-in-On : goal.returns-in-On
returns-in-On c = place-on c.args.cat.now c.args.tab.now c.args.q c.in-On.c c.count.result c.in-On.is
    c.count.ensures.0

pub returns-in-Before : goal.returns-in-Before
returns-in-Before c = place-before c.args.cat.now c.args.tab.now c.args.q c.in-Before.c c.count-in-Before.result
    c.in-Before.is c.count-in-Before.ensures.0
