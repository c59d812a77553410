use native.Mathlib.Omega.{arith}
use mathlib.Core.List.{◌++◌}
use Rattle.reports.proofs.Whole.{picked-few, shows-all, counted-short, counted-all}
use Rattle.reports.proofs.shown_by.Goals as goal

pub returns-then-count-out : goal.returns-then-count-out
returns-then-count-out g c =
    let s = c.requires.shows _ _ _ _ _ _ _ c.requires.given c.show.ensures in
    let few = picked-few c.args.cat.now c.args.tab.now (c.args.one.now ++ c.args.two.now) in
    record { told = shows-all _ _ s.0 s.1 (omega (arith, c.if-count-out.true, c.count.ensures.0, few)); refused = tt }

pub overflow_mul-all : goal.overflow_mul-all
overflow_mul-all g c =
    let s = c.requires.shows _ _ _ _ _ _ _ c.requires.given c.show-all.ensures in
    omega (arith, s.0, c.requires.given.first.sound.sized.few, picked-few c.args.cat.now c.args.tab.now (c.args.one.now ++ c.args.two.now))

pub returns-then-out-all : goal.returns-then-out-all
returns-then-out-all g c =
    let s = c.requires.shows _ _ _ _ _ _ _ c.requires.given c.show-all.ensures in
    record { told = counted-short _ c.args.out.now s.1 s.0 c.if-out-all.true; refused = λ e. omega arith }

pub returns : goal.returns
returns g c =
    let all = c.requires.shows _ _ _ _ _ _ _ c.requires.given c.show-all.ensures in
    let s = c.requires.shows _ _ _ _ _ _ _ c.requires.given c.show-2.ensures in
    record { told = counted-all _ c.args.out.now all.1 s.0 s.1 all.0 c.if-out-all.false; refused = tt }
