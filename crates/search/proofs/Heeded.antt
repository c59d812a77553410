-- One cell against what the lists ask of its type, by the entry for that type, in the shape of the code's branches. Assumes nothing.
use mathlib.Core.Path.{◌≡◌, ap, sym, ◌∙◌}
use mathlib.Core.Bool.{Bool, true, false}
use mathlib.Core.List.{List, ◌++◌}
use Prim.Native.Nat.{ℕ, ◌-◌, ◌<◌, ◌≤◌}
use native.Mathlib.Omega.{arith}
use lib.Dec.{eqb}
use lib.ListN.{length}
use borrow.Author.Tests.{eq-eqb}
use Rattle.terms.specs.declared.TypeCode.{TypeCode}
use Rattle.terms.specs.declared.Argument.{Argument}
use Rattle.terms.specs.Choice.{pick}
use Rattle.terms.specs.Names.{code}
use Rattle.forest.specs.Good.{on, off, is, both_left}
use Rattle.forest.specs.Numbers.{is_in}
use Rattle.rules.specs.Block.{Bytes, byte}
use Rattle.rules.specs.Catalogue.{lineage}
use Rattle.rules.specs.Cells.{Segment, segment}
use Rattle.rules.specs.Table.{count, listing}
use Rattle.rules.specs.Arguments.{Asked, list_read, asked_of, meant}
use Rattle.rules.specs.Matching.{satisfies, is_implied}
use Rattle.rules.proofs.Cells.{listing-length}
use Rattle.catalogue.proofs.Hierarchy.{header-facts}
use Rattle.cells.proofs.Ancestry.{own-type, sound-listing}
use Rattle.arguments.specs.Sound.{wanted_of}
use Rattle.arguments.specs.Asked.{Row, entry_for, entry_of, test_at}
use Rattle.arguments.proofs.Entries.{entry-least, entry-implied, entry_free, test-first, test-second}
use Rattle.search.specs.Good.{Asking, Told, Testable, Heeding, Lone}
use Rattle.search.specs.Stretch.{agrees_alone, matches_alone}
use Rattle.search.proofs.Branches.{good-sound, own_in}

-- a cell, and the entry e for its type
module _ {cat tab one two : Bytes} {size i e : ℕ} (h : Heeding cat tab one two size i e) where
  abbrev own : Segment
  own = segment (listing cat tab) i

  abbrev wants : Asked
  wants = asked_of cat (one ++ two) (list_read cat (one ++ two)).arguments own.code

  -- LAW: every segment satisfies what is left out or only named
  pub heeds-free : e < 3 → true ≡ satisfies cat own wants
  heeds-free l = entry_free h.pair own.code e h.entry l own

  -- LAW: a test whose value lies in the first list
  module _ (l : 3 ≤ e) (m : e < length one) where
    pub first-testable : Testable cat tab one size i e
    first-testable = record {
      catalogue = h.pair.first.catalogue;
      sized = h.sized;
      cell = h.cell;
      behind = l;
      tests = (test-first h.pair own.code e h.entry l m).0;
    }

    pub heeds-first : {b : Bool} → b ≡ satisfies cat own (meant cat one (test_at one e)) → b ≡ satisfies cat own wants
    heeds-first f = f ∙ ap (satisfies cat own) (test-first h.pair own.code e h.entry l m).1

  -- LAW: and one in the second
  module _ (l : 3 ≤ e) (m : length one ≤ e) where
    pub second-testable : Testable cat tab two size i (e - length one)
    second-testable = record {
      catalogue = h.pair.first.catalogue;
      sized = h.sized;
      cell = h.cell;
      behind = (test-second h.pair own.code e h.entry l m).0;
      tests = (test-second h.pair own.code e h.entry l m).1;
    }

    pub heeds-second : {b : Bool} → b ≡ satisfies cat own (meant cat two (test_at two (e - length one))) → b ≡ satisfies cat own wants
    heeds-second f = f ∙ ap (satisfies cat own) (test-second h.pair own.code e h.entry l m).2

-- what a search has once it has filled a row
pub filled-told : {cat tab one two row : Bytes} {size : ℕ} {t : TypeCode} → Asking cat tab one two size t → Row row (entry_of cat (one ++ two) t) → Told cat tab one two row size t
filled-told g r = record { good = g.good; pair = g.pair; entries = r }

-- by the row: u is the type of cell i, and e its entry, as the code has read them
module _ {cat tab one two row : Bytes} {size : ℕ} {t : TypeCode} (g : Told cat tab one two row size t) (i : ℕ) (h : i < count tab)
    (u : TypeCode) (o : u ≡ (segment (listing cat tab) i).code) where
  abbrev given : List Argument
  given = (list_read cat (one ++ two)).arguments

  abbrev agreed : Bool
  agreed = agrees_alone cat (one ++ two) t (segment (listing cat tab) i)

  pub code-few : u.0 < 33
  code-few =
      let z : u.0 ≡ (segment (listing cat tab) i).code.0 = ap (λ (x : TypeCode). x.0) o in
      let k = own-type cat (listing cat tab) g.good.catalogue (sound-listing (good-sound g.good)) i (omega (arith, listing-length cat tab)) in
      omega (arith, k.1, (header-facts cat g.good.catalogue).types-most)

  module _ (e : ℕ) (f : e ≡ byte row u.0) where
    told : e ≡ pick (is_in u.0 (lineage cat t)) (entry_for 0 (wanted_of given u)) 0
    unfolding entry_of
    told = f ∙ g.entries.each u.0 code-few

    -- a type that is no level has no entry
    level_in : (e ≡ 0 → ⊥) → is_in u.0 (lineage cat t) ≡ true
    level_in n = elim (is (is_in u.0 (lineage cat t))) [
      | on a ↦ a
      | off a ↦ absurd (n (rw a at told))
    ]

    level-entry : is_in u.0 (lineage cat t) ≡ true → e ≡ entry_for 0 (wanted_of given u)
    level-entry a = rw a at told

    -- LAW: an entry of 0 is a type that is not t nor above it
    pub agrees-not : e ≡ 0 → false ≡ agreed
    unfolding agrees_alone
    agrees-not z = elim (is (is_in u.0 (lineage cat t))) [
      | on a ↦ absurd (omega (arith, entry-least g.pair u e (level-entry a)))
      | off a ↦ rw (sym o, a)
    ]

    -- LAW: any other is the entry of what the lists ask of the type
    pub told-heeding : (e ≡ 0 → ⊥) → Heeding cat tab one two size i e
    told-heeding n = record { pair = g.pair; sized = g.good.sized; cell = h; entry = rw o at (level-entry (level_in n)) }

    pub agrees-heeds : (e ≡ 0 → ⊥) → {b : Bool} → b ≡ satisfies cat (segment (listing cat tab) i) (asked_of cat (one ++ two) given (segment (listing cat tab) i).code)
        → b ≡ agreed
    unfolding agrees_alone
    agrees-heeds n y = y ∙ (let a = rw o at (level_in n) in rw a)

    -- LAW: of a cell that agrees, an entry of 1 is a level that is left out
    pub told-implied : agreed ≡ true → eqb e 1 ≡ is_implied (asked_of cat (one ++ two) given (segment (listing cat tab) i).code)
    unfolding agrees_alone
    told-implied a =
        let s : Segment = segment (listing cat tab) i in
        let k : is_in s.code.0 (lineage cat t) ≡ true = both_left (is_in s.code.0 (lineage cat t)) (satisfies cat s (asked_of cat (one ++ two) given s.code)) a in
        entry-implied g.pair s.code e (rw o at (level-entry (rw o k)))

-- by the entry for t alone: u is the type of cell i, and it is t
module _ {cat tab one two : Bytes} {size : ℕ} {t : TypeCode} {e : ℕ} (g : Asking cat tab one two size t) (l : Lone cat (one ++ two) t e) (i : ℕ) (h : i < count tab)
    (u : TypeCode) (o : u ≡ (segment (listing cat tab) i).code) (z : u.0 ≡ t.0) where
  same-type : t ≡ (segment (listing cat tab) i).code
  same-type = sym (ap code z) ∙ o

  pub lone-heeding : Heeding cat tab one two size i e
  lone-heeding = record { pair = g.pair; sized = g.good.sized; cell = h; entry = rw same-type at l.entry }

  -- LAW: such a cell matches where it satisfies what the lists ask of t
  pub alone-heeds : {b : Bool} → b ≡ satisfies cat (segment (listing cat tab) i) (asked_of cat (one ++ two) (list_read cat (one ++ two)).arguments (segment (listing cat tab) i).code)
      → b ≡ matches_alone cat (one ++ two) t (segment (listing cat tab) i)
  unfolding matches_alone agrees_alone
  alone-heeds y =
      let k = own-type cat (listing cat tab) g.good.catalogue (sound-listing (good-sound g.good)) i (omega (arith, listing-length cat tab)) in
      let s : Segment = segment (listing cat tab) i in
      let c : s.code.0 ≡ t.0 = sym (ap (λ (x : TypeCode). x.0) same-type) in
      y ∙ rw (eq-eqb s.code.0 t.0 c, own_in g.good s.code (omega (arith, k.0)) c)
