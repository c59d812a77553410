use Rattle.std.proofs.Common.{rules, ◌≡◌}
use borrow.Author.Tests.{tests}
use Rattle.std.proofs.lemmas.Iterator.{YieldsList-from_slice, IsFirst-from_position}
use Rattle.dbd_names.proofs.Named.{name_ends}
use Rattle.dbd_names.proofs.name_end.Goals as goal

pub returns : goal.returns
returns c = name_ends _ c.position.result _ c.unwrap_or.ensures
    (IsFirst-from_position _ _ _ (λ x. x ≡ 0x20) (λ x. x ≡ 0x20 → ⊥) c.position.ensures.ran
    (YieldsList-from_slice _ c.iter.ensures.rest) (λ x q k. search (rules, tests)) (λ x q k. search (rules, tests)))
