use Rattle.changes.proofs.Spots.{among-unkeyed, among-refused, among-done, among-free, inserts}
use Rattle.changes.proofs.Parent.{new-ready, parented-beneath}
use Rattle.twins.proofs.Keys.{new-brought}
use Rattle.blocks.proofs.Negated.{told-no, told-yes}
use Rattle.answers.specs.Ready.{made}
use Rattle.terms.specs.declared.Argument.{Argument}
use Rattle.terms.specs.declared.Answer.{Answer}
use mathlib.Core.Path.{refl, ap, sym, ◌∙◌}
use Rattle.terms.proofs.Verdict.{verdict-err, verdict-ok}
use Rattle.terms.specs.Statuses.{number}
use Rattle.changes.proofs.insert.insert.Goals as goal

pub returns-in_default : goal.returns-in_default
returns-in_default c =
    ap (λ (r : Answer). made r c.args.tab.now c.args.area.now) c.missed.ensures ∙ inserts c.args.cat.now
    c.args.tab.now c.args.pos c.args.area.now _ (ap (λ (a : Argument). a.code) c.last_of.ensures)
    (sym c.in_default.is ∙ c.found_parent.ensures)

pub is_keyed-requires : goal.is_keyed-requires
is_keyed-requires c =
    new-brought (new-ready c.requires.0 c.requires.2 (ap (λ (a : Argument). a.code) c.last_of.ensures) c.requires.1)

pub returns-then-not-is_keyed : goal.returns-then-not-is_keyed
returns-then-not-is_keyed c =
    ap (λ (r : Answer). made r c.args.tab.now c.args.area.now) c.bare.ensures ∙ among-unkeyed
    c.args.cat.now c.args.tab.now c.args.pos c.args.area.now _ _ _ _
    (told-no c.is_keyed.ensures c.if-not-is_keyed.true) ∙ inserts c.args.cat.now c.args.tab.now c.args.pos
    c.args.area.now _ (ap (λ (a : Argument). a.code) c.last_of.ensures)
    (sym c.in-Some.is ∙ c.found_parent.ensures)

pub spot_sound-spot-requires : goal.spot_sound-spot-requires
spot_sound-spot-requires c = (
  (new-ready c.requires.0 c.requires.2 (ap (λ (a : Argument). a.code) c.last_of.ensures) c.requires.1),
  (told-yes c.is_keyed.ensures c.if-not-is_keyed.false),
  (parented-beneath c.requires.0 c.requires.2 (ap (λ (a : Argument). a.code) c.last_of.ensures)
      (sym c.in-Some.is ∙ c.found_parent.ensures)),
)

pub returns-in-Err : goal.returns-in-Err
returns-in-Err c =
    let told = verdict-err _ (sym c.insert_refused.ensures ∙ c.in-Err.is) in
    rw (c.bare-in-Err.ensures, told.1) (among-refused
    (new-ready c.requires.0 c.requires.2 (ap (λ (a : Argument). a.code) c.last_of.ensures) c.requires.1)
    (parented-beneath c.requires.0 c.requires.2 (ap (λ (a : Argument). a.code) c.last_of.ensures)
    (sym c.in-Some.is ∙ c.found_parent.ensures)) c.spot_sound-spot.ensures refl
    (told-yes c.is_keyed.ensures c.if-not-is_keyed.false) c.args.pos _ told.0 ∙
    inserts c.args.cat.now c.args.tab.now c.args.pos c.args.area.now _
    (ap (λ (a : Argument). a.code) c.last_of.ensures) (sym c.in-Some.is ∙ c.found_parent.ensures))

pub put_sound-requires : goal.put_sound-requires
put_sound-requires c =
    among-free (new-ready c.requires.0 c.requires.2 (ap (λ (a : Argument). a.code) c.last_of.ensures) c.requires.1)
    (parented-beneath c.requires.0 c.requires.2 (ap (λ (a : Argument). a.code) c.last_of.ensures)
    (sym c.in-Some.is ∙ c.found_parent.ensures)) c.spot_sound-spot.ensures refl
    (ap number (verdict-ok _ (sym c.insert_refused.ensures ∙ c.in_default-insert_refused.is)))

pub returns : goal.returns
returns c = c.put_sound.ensures ∙ among-done (new-ready c.requires.0 c.requires.2 (ap (λ (a : Argument). a.code) c.last_of.ensures)
    c.requires.1) (parented-beneath c.requires.0 c.requires.2 (ap (λ (a : Argument). a.code) c.last_of.ensures)
    (sym c.in-Some.is ∙ c.found_parent.ensures)) c.spot_sound-spot.ensures refl
    (told-yes c.is_keyed.ensures c.if-not-is_keyed.false) c.args.pos _ (ap number (verdict-ok _ (sym c.insert_refused.ensures ∙ c.in_default-insert_refused.is))) ∙ inserts
    c.args.cat.now c.args.tab.now c.args.pos c.args.area.now _
    (ap (λ (a : Argument). a.code) c.last_of.ensures) (sym c.in-Some.is ∙ c.found_parent.ensures)
