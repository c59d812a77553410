use Rattle.std.proofs.Common.{rules, ◌≡◌, true, false}
use borrow.Author.Tests.{tests}
use Rattle.std.proofs.lemmas.Iterator.{YieldsList-from_slice, IsFirst-from_position}
use Rattle.statements.specs.Words.{in_word}
use Rattle.dbd_words.proofs.Spans.{word_end}
use Rattle.dbd_words.proofs.words.word_end.Goals as goal

pub returns : goal.returns
returns c = word_end _ _ c.requires c.position.result _ c.unwrap_or.ensures
    (IsFirst-from_position _ _ _ (λ b. in_word b ≡ false) (λ b. in_word b ≡ true) c.position.ensures.ran
    (YieldsList-from_slice _ c.iter.ensures.rest) (λ x q k. search (rules, tests)) (λ x q k. search (rules, tests)))
