use Rattle.std.proofs.Common.{refl, ap, sym, ◌∙◌}
use Rattle.terms.specs.Statuses.{number}
use Rattle.listing.proofs.Lines.{listing-starts}
use Rattle.lister.proofs.list.Goals as goal

-- src/main.rt: let mut pos = Position::fresh();
pub loop-init : goal.loop-init
loop-init c = (
  rw c.fresh-pos.ensures (listing-starts _ _
      (sym (ap number c.listing_refusal-s.ensures) ∙ sym c.number.ensures ∙ c.if-number-ne0.false)).1,
  refl,
)
