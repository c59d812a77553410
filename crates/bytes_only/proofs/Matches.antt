-- Levels that ask of fields of bytes: the same segments matched them, so that the same one was found. Assumes nothing.
use Rattle.terms.specs.declared.CellNumber.{CellNumber}
use Rattle.std.specs.Prelude.{Some, None, Option}
use mathlib.Core.Path.{◌≡◌, refl, ap, ◌∙◌}
use mathlib.Core.Bool.{true}
use mathlib.Core.List.{List, [], ◌∷◌}
use Prim.Native.Nat.{ℕ, zero, suc, ◌-◌}
use lib.ListN.{length}
use Rattle.terms.specs.declared.Place.{Place}
use Rattle.terms.specs.declared.Place.TheVariants.{On, Before}
use Rattle.terms.specs.Choice.{pick}
use Rattle.terms.specs.Names.{cell}
use Rattle.rules.specs.Block.{Bytes, every}
use Rattle.rules.specs.Catalogue.{field_value}
use Rattle.rules.specs.Cells.{Segment, segment, end_at}
use Rattle.rules.specs.Arguments.{Asked, implied, unqualified, qualified, Level}
use Rattle.rules.specs.Matching.{is_implied, field_bytes, tested, satisfies, agrees, path_to, agree, matches, seek, first_match, kept_on, kept, sought_beneath, along}
use Rattle.bytes_only.specs.Before as Before
use Rattle.bytes_only.proofs.Rows.{every-parts, branches}
use Rattle.bytes_only.proofs.Values.{bytes-value, bytes-order}
use Rattle.bytes_only.proofs.Lists.{bytes_asked, bytes_level}

module _ (cat : Bytes) where
  -- a field of bytes holds a value and stands to the argument's as its bytes do
  satisfies-before : (s : Segment) (a : Asked) → bytes_asked cat a ≡ true → satisfies cat s a ≡ Before.satisfies cat s a
  unfolding tested Before.tested
  satisfies-before s implied e = refl
  satisfies-before s unqualified e = refl
  satisfies-before s (qualified o f v) e =
      rw (bytes-value (field_value cat f) e (field_bytes cat f s), bytes-order (field_value cat f) e (field_bytes cat f s) v)

  agrees-before : (l : Level) (s : Segment) → bytes_level cat l ≡ true → agrees cat l s ≡ Before.agrees cat l s
  unfolding agrees Before.agrees
  agrees-before l s e = rw (satisfies-before s l.asked e)

  module _ (cs : List Segment) where
    -- level by level
    agree-before : (ls : List Level) (path : List ℕ) → every (bytes_level cat) ls ≡ true → agree cat cs ls path ≡ Before.agree cat cs ls path
    unfolding agree Before.agree
    agree-before [] [] e = refl
    agree-before [] (i ∷ path) e = refl
    agree-before (l ∷ ls) [] e = refl
    agree-before (l ∷ ls) (i ∷ path) e =
        let p = every-parts (bytes_level cat) l ls e in
        branches (agrees-before l (segment cs i) p.0) (agree-before ls path p.1) refl

    matches-before : (ls : List Level) (i : ℕ) → every (bytes_level cat) ls ≡ true → matches cat cs ls i ≡ Before.matches cat cs ls i
    unfolding matches Before.matches
    matches-before [] i e = refl
    matches-before (l ∷ ls) i e = agree-before (l ∷ ls) (path_to cat cs i) e

    -- what is kept of the position goes by the same tests
    kept-on-before : (ls : List Level) (path : List ℕ) (q : Option CellNumber) → every (bytes_level cat) ls ≡ true → kept_on cat cs ls path q ≡ Before.kept_on cat cs ls path q
    unfolding kept_on Before.kept_on
    kept-on-before [] path q e = refl
    kept-on-before (l ∷ ls) [] q e = refl
    kept-on-before (l ∷ ls) (i ∷ path) q e =
        let p = every-parts (bytes_level cat) l ls e in
        branches (agrees-before l (segment cs i) p.0) (kept-on-before ls path (pick (is_implied l.asked) (Some (cell i)) q) p.1) refl

    module _ (ls : List Level) (bytes : every (bytes_level cat) ls ≡ true) where
      -- cell by cell
      seek-before : (i n : ℕ) → seek cat cs ls i n ≡ Before.seek cat cs ls i n
      unfolding seek Before.seek
      seek-before i zero = refl
      seek-before i (suc n) = branches (matches-before ls i bytes) refl (seek-before (suc i) n)

      pub first-before : (i e : ℕ) → first_match cat cs ls i e ≡ Before.first_match cat cs ls i e
      unfolding first_match Before.first_match
      first-before i e = seek-before i (e - i)

      kept-before : (q : Place) → kept cat cs ls q ≡ Before.kept cat cs ls q
      kept-before (On c) = kept-on-before ls (path_to cat cs c.0) None bytes
      kept-before (Before c) = refl

      sought-before : (q : Option CellNumber) → sought_beneath cat cs ls q ≡ Before.sought_beneath cat cs ls q
      sought-before None = first-before 0 (length cs)
      sought-before (Some c) = rw (first-before (suc c.0) (end_at cat cs c.0))

      -- LAW: along the position the same one was found
      pub along-before : (q : Place) → along cat cs ls q ≡ Before.along cat cs ls q
      unfolding along Before.along
      along-before q = sought-before (kept cat cs ls q) ∙ ap (Before.sought_beneath cat cs ls) (kept-before q)
