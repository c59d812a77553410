-- What the reader gives is a good catalogue, and the writer accepts it (R84). Assumes nothing.
use mathlib.Core.Path.{◌≡◌, ap, ◌∙◌}
use Rattle.rules.specs.Catalogue.{good_catalogue}
use Rattle.statements.specs.Draft.{Draft, catalogue_of, names_of}
use Rattle.statements.specs.Dbd.{Reading, given, dbd_read}
use Rattle.dbd_laws.specs.RoundTrip.{GivesGood, AcceptsGiven}
use Rattle.dbd_laws.proofs.Reached.{text-reached}
use Rattle.dbd_laws.proofs.Given.{catalogue-good, could-give}

given-blocks : (d : Draft) (r : Reading) → r ≡ given d → (r.catalogue ≡ catalogue_of d) × (r.names ≡ names_of d)
unfolding given
given-blocks d r e = (ap (λ (q : Reading). q.catalogue) e, ap (λ (q : Reading). q.names) e)

pub gives-good : GivesGood
gives-good text f =
    let r = text-reached text f in
    ap good_catalogue (given-blocks r.draft (dbd_read text) r.is-given).0 ∙ catalogue-good r.draft r.sound r.some-type

pub accepts-given : AcceptsGiven
accepts-given text f =
    let r = text-reached text f in
    let b = given-blocks r.draft (dbd_read text) r.is-given in
    rw (b.0, b.1) (could-give r.draft r.sound r.some-type)
