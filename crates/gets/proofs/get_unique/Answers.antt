use mathlib.Core.Path.{ap, sym, ◌∙◌}
use Rattle.answers.specs.Ready.{left}
use Rattle.terms.specs.declared.Answer.{Answer}
use Rattle.terms.specs.declared.Argument.{Argument}
use Rattle.gets.proofs.Found.{place-good, along-in}
use Rattle.gets.proofs.Gotten.{search-good, unique-found, unique-missed}
use Rattle.search.proofs.OneList.{asking-alone, along-alone}
use Rattle.gets.proofs.get_unique.Goals as goal

pub along-requires : goal.along-requires
along-requires c = (
  asking-alone (search-good c.requires.0 c.last_of.result.code (ap (λ (a : Argument). a.code) c.last_of.ensures)),
  place-good c.args.cat.now c.args.tab.now c.args.pos c.requires.0.position,
)

pub returns-in-None : goal.returns-in-None
returns-in-None c =
    ap (λ (r : Answer). left r c.args.area.now) c.missed.ensures ∙ unique-missed c.requires.0 c.args.area.now
    c.args.hold c.last_of.result.code c.along.result (ap (λ (a : Argument). a.code) c.last_of.ensures)
    (along-alone _ _ _ _ _ c.along.ensures) c.in-None.is

pub got-requires : goal.got-requires
got-requires c = (
  c.requires.0.sound,
  along-in (search-good c.requires.0 c.last_of.result.code
      (ap (λ (a : Argument). a.code) c.last_of.ensures)) c.args.pos.place c.in-Some.c
      (place-good c.args.cat.now c.args.tab.now c.args.pos c.requires.0.position)
      (sym (along-alone _ _ _ _ _ c.along.ensures) ∙ c.in-Some.is),
  c.requires.1,
)

pub returns-in-Some : goal.returns-in-Some
returns-in-Some c = c.got.ensures ∙ unique-found c.requires.0 c.args.area.now c.args.hold c.last_of.result.code c.along.result
    (ap (λ (a : Argument). a.code) c.last_of.ensures) (along-alone _ _ _ _ _ c.along.ensures) c.in-Some.c
    c.in-Some.is
