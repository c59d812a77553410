-- A position's three tests, arm by arm. Assumes nothing.
use Rattle.terms.specs.Names.{Parentage}
use Rattle.std.specs.Prelude.{Some}
use mathlib.Core.Path.{◌≡◌, refl, ◌∙◌}
use mathlib.Core.Bool.{true, false, ◌&&◌}
use mathlib.Core.List.{List}
use Prim.Native.Nat.{ℕ, ◌<◌, ◌≤◌}
use lib.Dec.{ltb, leb}
use lib.ListN.{length}
use borrow.Author.Tests.{ltb-true, leb-true, le-leb, lt-leb}
use Rattle.terms.specs.declared.CellNumber.{CellNumber}
use Rattle.terms.specs.declared.Place.{Place}
use Rattle.terms.specs.declared.Place.TheVariants.{On, Before}
use Rattle.rules.specs.Block.{Bytes}
use Rattle.rules.specs.Cells.{Segment, end_at}
use Rattle.rules.specs.Table.{count, listing}
use Rattle.rules.specs.Position.{good_place, good_parentage}
use Rattle.rules.proofs.Cells.{listing-length, row-run}

module _ (cat tab : Bytes) (q : Place) (c : CellNumber) where
  pub place-on : (n : ℕ) → q ≡ On c → n ≡ count tab → ltb c.0 n ≡ good_place cat (listing cat tab) q
  place-on n e h = rw (e, listing-length, h)

  pub place-before : (n : ℕ) → q ≡ Before c → n ≡ count tab → leb c.0 n ≡ good_place cat (listing cat tab) q
  place-before n e h = rw (e, listing-length, h)

  pub on_in : q ≡ On c → good_place cat (listing cat tab) q ≡ true → c.0 < count tab
  on_in e h = ltb-true c.0 (count tab) (place-on (count tab) e refl ∙ h)

  pub before-in : q ≡ Before c → good_place cat (listing cat tab) q ≡ true → c.0 ≤ count tab
  before-in e h = leb-true c.0 (count tab) (place-before (count tab) e refl ∙ h)

module _ (cat : Bytes) (cs : List Segment) (q : Place) (p : Parentage) (c a : CellNumber) (is : p ≡ Some a) where
  -- the place on cell c: it lies in the run of a
  on-run : q ≡ On c → c.0 < length cs → good_parentage cat cs q p ≡ (leb a.0 c.0 && ltb c.0 (end_at cat cs a.0))
  on-run e l = rw (e, is) (row-run cat cs a.0 c.0 l)

  pub on-not : q ≡ On c → c.0 < length cs → c.0 < a.0 → false ≡ good_parentage cat cs q p
  on-not e l h = rw (on-run e l, lt-leb a.0 c.0 h)

  pub on-yes : (end : ℕ) → q ≡ On c → c.0 < length cs → a.0 ≤ c.0 → end ≡ end_at cat cs a.0 → ltb c.0 end ≡ good_parentage cat cs q p
  on-yes end e l h r = rw (on-run e l, le-leb a.0 c.0 h, r)
