-- What a call leaves fits the block and the number that it comes back in. Assumes nothing.
use Rattle.terms.specs.Names.{Parentage}
use Rattle.std.specs.Prelude.{None, Some}
use mathlib.Core.Path.{◌≡◌, refl, ap, sym, ◌∙◌, subst}
use mathlib.Core.Bool.{Bool, true, false, ◌&&◌}
use mathlib.Core.List.{List}
use Prim.Native.Nat.{ℕ, ◌≤◌}
use native.Mathlib.Omega.{arith}
use lib.ListN.{length}
use borrow.Author.Tests.{ltb-true, leb-true}
use Rattle.terms.specs.declared.Place.{Place}
use Rattle.terms.specs.declared.Place.TheVariants.{On, Before}
use Rattle.terms.specs.declared.Position.{Position}
use Rattle.terms.specs.declared.Answer.{Answer}
use Rattle.terms.specs.Choice.{pick}
use Rattle.terms.specs.Statuses.{number}
use Rattle.terms.specs.Moves.{place_number}
use Rattle.rules.specs.Block.{Bytes}
use Rattle.rules.specs.Cells.{Segment}
use Rattle.rules.specs.Table.{listing}
use Rattle.rules.specs.Position.{good_place, good_parentage, position_of}
use Rattle.rules.specs.Outcome.{Outcome, is_blank, is_isrt, unsound, outcome, sound_outcome, block_after}
use Rattle.rules.proofs.Cells.{listing-length}
use Rattle.rules.proofs.Block.{canonical}
use Rattle.encoding.specs.Determined.{IsBytes}
use Rattle.encoding.proofs.Bytes.{table-room, table-count}
use Rattle.model.specs.Kept.{Kept}
use Rattle.model.proofs.Asked.{good-place, good-parentage, parent-before}
use Rattle.model.proofs.Kept.{tables-stay-good}
use Rattle.position.specs.Block.{parentage_number}
use Rattle.position.proofs.Parts.{good-long}
use Rattle.answers.specs.Ready.{SoundFor, made}
use Rattle.dli.proofs.Calls.{call-on}
use Rattle.umbristal.specs.Face.{handed_back, handed_back_of, sound_face, packed, Fitting}

-- the cell numbers of a good position are no greater than the count
module _ (cat : Bytes) (cs : List Segment) where
  place-near : (q : Place) → good_place cat cs q ≡ true → place_number q ≤ length cs
  place-near (On c) e = omega (arith, ltb-true c.0 (length cs) e)
  place-near (Before c) e = leb-true c.0 (length cs) e

  parent-near : (q : Place) (r : Parentage) → good_place cat cs q ≡ true → good_parentage cat cs q r ≡ true → parentage_number r ≤ length cs
  parent-near q None g e = omega arith
  parent-near q (Some p) g e = omega (arith, (parent-before cat cs q p g e).0)

one_at_most : (b : Bool) → pick b 1 0 ≤ 1
one_at_most true = omega arith
one_at_most false = omega arith

module _ (cat tab block : Bytes) (c : ℕ) (list area : Bytes) where
  abbrev pos : Position
  pos = position_of block

  -- called: the position afterwards is good, and what was removed was there
  fit-called : IsBytes tab → IsBytes area → SoundFor cat tab pos → Fitting block (outcome cat tab pos c list area).answer
  fit-called bytes full f =
      let o : Outcome = outcome cat tab pos c list area in
      let k : Kept cat tab area c o = tables-stay-good cat tab pos c list area f.catalogue bytes full f.table f.position in
      let cs : List Segment = listing cat o.table in
      let p : Position = o.answer.position in
      let q : good_place cat cs p.place ≡ true = good-place cat cs p k.position in
      let m : length cs ≤ 4096 = omega (arith, listing-length cat o.table, table-count cat o.table k.table, table-room cat o.table k.table) in
      record {
        removed = omega
            (arith, k.counted, table-count cat tab f.table, table-room cat tab f.table, one_at_most (is_isrt c && is_blank o.answer.status));
        position = λ l. record {
          long = good-long block (canonical.only cat (listing cat tab) block f.position);
          place = omega (arith, m, place-near cat cs p.place q);
          parent = omega (arith, m, parent-near cat cs p.place p.parentage q (good-parentage cat cs p k.position));
        };
      }

  -- where a check has accepted all three, the two promises are one
  sound_none : SoundFor cat tab pos → number (unsound cat tab pos) ≡ 0
  unfolding unsound
  sound_none f = rw (f.catalogue, f.table, f.position)

  sound-outcome : SoundFor cat tab pos → sound_outcome cat tab pos c list area ≡ outcome cat tab pos c list area
  sound-outcome f = call-on cat tab pos c list area (unsound cat tab pos) (number (unsound cat tab pos)) refl refl (sound_none f)

  pub sound-read : (p : Position) → p ≡ pos → SoundFor cat tab pos → SoundFor cat tab p
  sound-read p e f = subst (SoundFor cat tab) (sym e) f

  -- as the code has it: p is the position read, a the answer, t and r the table and the area afterwards
  module _ (p : Position) (e : p ≡ pos) (a : Answer) (t r : Bytes) where
    pub sound-fits : IsBytes tab → IsBytes area → SoundFor cat tab pos → made a t r ≡ sound_outcome cat tab p c list area → Fitting block a
    sound-fits bytes full f h =
        subst (Fitting block)
        (sym
        (ap (λ (o : Outcome). o.answer) h
        ∙ ap (λ (q : Position). (sound_outcome cat tab q c list area).answer) e
        ∙ ap (λ (o : Outcome). o.answer) (sound-outcome f)))
        (fit-called bytes full f)

    module _ (n : ℕ) (b : Bytes) (w : n ≡ packed a) (x : b ≡ block_after block a) where
      pub sound-left : made a t r ≡ sound_outcome cat tab p c list area → handed_back n t b r ≡ sound_face cat tab block c list area
      unfolding sound_face
      sound-left h = rw (w, x) (ap (handed_back_of block) (h ∙ ap (λ (q : Position). sound_outcome cat tab q c list area) e))
