-- A good position as paths: reading it as paths (rules, Tree) and numbering them again gives it back. Assumes nothing.
use Rattle.std.specs.Prelude.{None, Some, Option}
use mathlib.Core.Path.{◌≡◌, refl, ap, ◌∙◌}
use mathlib.Core.Bool.{true}
use mathlib.Core.List.{List}
use Prim.Native.Nat.{ℕ}
use lib.ListN.{length}
use borrow.Author.Tests.{ltb-true}
use Rattle.terms.specs.declared.Place.{Place}
use Rattle.terms.specs.declared.Place.TheVariants.{On, Before}
use Rattle.terms.specs.declared.Position.{Position}
use Rattle.terms.specs.Names.{cell, Parentage}
use Rattle.rules.specs.Block.{Bytes}
use Rattle.rules.specs.Cells.{Segment}
use Rattle.rules.specs.Position.{good_place, good_parentage, good_position}
use Rattle.rules.specs.Paths.{Path, Current, on_path, place_of, parentage_of, numbered}
use Rattle.rules.specs.Tree.{current_of, parent_path, standing}
use Rattle.rules.proofs.Paths.{end-path}
use Rattle.model.proofs.Paths.{placed, parented, paths, path-of}
use Rattle.model.proofs.Asked.{good-place, good-parentage, parent-before}

module _ (cat : Bytes) (cs : List Segment) where
  current-placed : (q : Place) → good_place cat cs q ≡ true → current_of cat cs q ≡ placed cat cs q
  current-placed (On c) g = ap on_path (path-of cat cs c.0 (ltb-true c.0 (length cs) g))
  current-placed (Before c) g = refl

  parent-parented : (q : Place) (m : Parentage) → good_place cat cs q ≡ true → good_parentage cat cs q m ≡ true → parent_path cat cs m ≡ parented cat cs m
  parent-parented q None g h = refl
  parent-parented q (Some c) g h = ap Some (path-of cat cs c.0 (parent-before cat cs q c g h).0)

  -- LAW: a good position, read as paths
  pub standing-paths : (pos : Position) → good_position cat cs pos ≡ true → standing cat cs pos ≡ paths cat cs pos
  standing-paths pos e =
      let g : good_place cat cs pos.place ≡ true = good-place cat cs pos e in
      ap (λ (q : Current). record { current = q; parent = parent_path cat cs pos.parentage; hold = pos.hold }) (current-placed pos.place g)
      ∙ ap (λ (q : Option Path). record { current = placed cat cs pos.place; parent = q; hold = pos.hold })
      (parent-parented pos.place pos.parentage g (good-parentage cat cs pos e))

  -- LAW: numbered again
  pub place-back : (q : Place) → place_of (placed cat cs q) ≡ q
  place-back (On c) = ap (λ (i : ℕ). On (cell i)) (end-path cat cs c.0)
  place-back (Before c) = refl

  pub parentage-back : (m : Parentage) → parentage_of (parented cat cs m) ≡ m
  parentage-back None = refl
  parentage-back (Some c) = ap (λ (i : ℕ). Some (cell i)) (end-path cat cs c.0)

  pub numbered-paths : (pos : Position) → numbered (paths cat cs pos) ≡ pos
  numbered-paths pos =
      ap (λ (q : Place). record { place = q; parentage = parentage_of (parented cat cs pos.parentage); hold = pos.hold }) (place-back pos.place)
      ∙ ap (λ (m : Parentage). record { place = pos.place; parentage = m; hold = pos.hold }) (parentage-back pos.parentage)
