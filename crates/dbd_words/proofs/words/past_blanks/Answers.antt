use Rattle.std.proofs.Common.{rules, ◌≡◌, true, false}
use borrow.Author.Tests.{tests}
use Rattle.std.proofs.lemmas.Iterator.{YieldsList-from_slice, IsFirst-from_position}
use Rattle.statements.specs.Words.{is_blank}
use Rattle.dbd_words.proofs.Spans.{past_blanks}
use Rattle.dbd_words.proofs.words.past_blanks.Goals as goal

pub returns : goal.returns
returns c = past_blanks _ _ c.requires c.position.result _ c.unwrap_or.ensures
    (IsFirst-from_position _ _ _ (λ b. is_blank b ≡ false) (λ b. is_blank b ≡ true) c.position.ensures.ran
    (YieldsList-from_slice _ c.iter.ensures.rest) (λ x q k. search (rules, tests)) (λ x q k. search (rules, tests)))
