use Rattle.search.proofs.Branches.{on-cell, kept-path, kept-gap}
use Rattle.search.proofs.along.kept.Goals as goal

pub path_to-requires : goal.path_to-requires
path_to-requires c = (c.requires.0, on-cell c.requires.0.good c.args.place _ c.requires.1 c.in-On.is)

pub returns-in-On : goal.returns-in-On
returns-in-On c = kept-path c.requires.0.good c.args.place _ c.path_to.result c.in-On.is c.path_to.ensures

pub returns-in-Before : goal.returns-in-Before
returns-in-Before c = kept-gap c.requires.0.good c.args.place _ c.in-Before.is
