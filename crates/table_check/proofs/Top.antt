-- The check of the listing is the twin-group reader of type 1, over all cells. Assumes nothing.
use Rattle.std.specs.Prelude.{None}
use mathlib.Core.Path.{◌≡◌, refl, ap, sym, ◌∙◌}
use mathlib.Core.Bool.{true, false}
use mathlib.Core.List.{List, ◌∷◌, map}
use Prim.Native.Nat.{ℕ, zero, suc, ◌+◌, ◌-◌, ◌≤◌}
use native.Mathlib.Omega.{arith}
use lib.Dec.{eqb}
use lib.ListN.{length, drop, drop_of_length-le}
use lib.Seq.{drop-cons}
use borrow.Author.Tests.{eq-eqb, ne_eqb}
use Rattle.terms.specs.declared.TypeCode.{TypeCode}
use Rattle.forest.specs.Forest.{inside, outside, side}
use Rattle.forest.specs.Good.{is_nil, good, reads, good-map}
use Rattle.forest.specs.Groups as Groups
use Rattle.forest.specs.Numbers.{range}
use Rattle.rules.specs.Block.{Bytes}
use Rattle.rules.specs.Catalogue.{good_catalogue}
use Rattle.rules.specs.Cells.{Segment, segment, blank, type_number, is_child, siblings, good_listing}
use Rattle.rules.specs.Table.{count, listing}
use Rattle.rules.proofs.Catalogue.{par, listing-reader}
use Rattle.rules.proofs.Cells.{listing-length}
use Rattle.catalogue.proofs.Hierarchy.{header-facts, parent-first, parent-least}
use Rattle.table_check.specs.Groups.{typ, fit, key_ok, after_group}
use Rattle.table_check.specs.Readers.{Fits, Headed, Told, GroupLeaves}
use Rattle.table_check.proofs.Groups.{first-other, group-none, group-stop}
use Rattle.table_check.proofs.Told.{told-fits, told-type}
use Rattle.table_check.proofs.Types.{child-is, is-child, child-after}

-- cell numbers for cells
numbers : (cs : List Segment) (i n : ℕ) → i + n ≡ length cs → map (segment cs) (range i n) ≡ drop i cs
numbers cs i zero e = sym (drop_of_length-le cs {i = i} (omega arith))
numbers cs i (suc n) e = ap (◌∷◌ (segment cs i)) (numbers cs (suc i) n (omega arith)) ∙ sym (drop-cons cs i blank (omega arith))

module _ (cat : Bytes) (g : good_catalogue cat ≡ true) (cs : List Segment) where
  -- the top has the child type 1 and no other
  first-child : (d : ℕ) → typ cat cs d ≡ 1 → fit cat cs 0 d ≡ true
  first-child d e =
      let h : par cat (typ cat cs d) ≡ 0 = rw e (ap (λ (t : TypeCode). t.0) (parent-first cat g)) in
      is-child cat 0 (segment cs d) (omega arith) (omega (arith, (header-facts cat g).types-least)) h

  only_child : (d : ℕ) → fit cat cs 0 d ≡ true → typ cat cs d ≤ 1
  only_child d e = elim (side 1 (typ cat cs d)) [
    | inside l ↦ (let z = child-is cat 0 (segment cs d) e in absurd (omega (arith, parent-least cat g (segment cs d).code l z.1, z.2)))
    | outside l ↦ l
  ]

  top-row : (xs : List ℕ)
      → Groups.rest_of (typ cat cs) (fit cat cs) (key_ok cat cs) 0 None xs ≡ Groups.group (typ cat cs) (fit cat cs) (key_ok cat cs) 1 None xs
  top-row xs =
      Groups.above-start (typ cat cs) (fit cat cs) (key_ok cat cs) 0 0 (λ d e. child-after cat g 0 (segment cs d) e) xs
      ∙ Groups.above-group (typ cat cs) (fit cat cs) (key_ok cat cs) 0 0 first-child xs
      ∙ Groups.above-end (typ cat cs) (fit cat cs) (key_ok cat cs) 0 1 only_child (Groups.group (typ cat cs) (fit cat cs) (key_ok cat cs) 1 None xs)

  pub listing-group : good_listing cat cs ≡ is_nil (after_group cat cs 1 None 0 (length cs))
  unfolding after_group good reads
  listing-group =
      listing-reader cat g cs
      ∙ ap (good type_number (is_child cat) (siblings cat)) (sym (numbers cs 0 (length cs) (omega arith)))
      ∙ sym (good-map (segment cs) type_number (is_child cat) (siblings cat) (range 0 (length cs)))
      ∙ ap is_nil (top-row (range 0 (length cs)))

-- so the listing is good exactly when the reader leaves no cell
module _ (cat tab : Bytes) (g : good_catalogue cat ≡ true) (n : ℕ) (e : n ≡ count tab) where
  none_left : (k r : ℕ) → eqb r 0 ≡ is_nil (range k r)
  none_left k zero = eq-eqb 0 0 refl
  none_left k (suc r) = ne_eqb (suc r) 0 (λ z. omega arith)

  left-told : (k r : ℕ) → after_group cat (listing cat tab) 1 None 0 n ≡ range k r → eqb r 0 ≡ good_listing cat (listing cat tab)
  left-told k r h =
      let z : length (listing cat tab) ≡ n = listing-length cat tab ∙ sym e in
      none_left k r ∙ ap is_nil (sym h) ∙ sym (rw z at (listing-group cat g (listing cat tab)))

  -- no cells, a first cell of another type than 1, and as the reader says
  pub listing_none : n ≡ 0 → true ≡ good_listing cat (listing cat tab)
  listing_none z = sym (eq-eqb n 0 z) ∙ left-told 0 n (group-none cat (listing cat tab) 1 None 0 n z)

  module _ (some : n ≡ 0 → ⊥) where
    pub listing-other : (u : TypeCode) → u ≡ (segment (listing cat tab) 0).code → (u.0 ≡ 1 → ⊥) → false ≡ good_listing cat (listing cat tab)
    listing-other u h o =
        let q : typ cat (listing cat tab) 0 ≡ 1 → ⊥ = λ z. o (ap (λ (t : TypeCode). t.0) h ∙ z) in
        sym (ne_eqb n 0 some) ∙ left-told 0 n (group-stop cat (listing cat tab) 1 None 0 n (omega arith) (first-other cat (listing cat tab) 1 0 q))

    -- the reader is lent all cells, the first one a root
    module _ {cells facts : Bytes} (t : Told cat tab cells facts) where
      pub listing-headed : (u : TypeCode) → u ≡ (segment (listing cat tab) 0).code → u.0 ≡ 1 → Headed cells facts 1 n
      listing-headed u h o =
          let z : count tab - n ≡ 0 = omega arith in
          let f : Fits cells facts n = rw e (told-fits t) in
          record {
            fits = f;
            least = omega arith;
            most = omega arith;
            some = omega arith;
            code = sym (rw z at (told-type t f (omega arith))) ∙ sym (ap (λ (v : TypeCode). v.0) h) ∙ o;
          }

      pub listing-read : {r : ℕ} → GroupLeaves cells facts 1 n r → eqb r 0 ≡ good_listing cat (listing cat tab)
      listing-read {r} h =
          let z : count tab - n ≡ 0 = omega arith in
          left-told (count tab - r) r (rw z at (h.is t (header-facts cat g).types-least))
