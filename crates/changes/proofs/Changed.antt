-- REPL and DLET: the cell that is held, and what becomes of it. Assumes nothing.
use mathlib.Core.Path.{◌≡◌, ap, sym, ◌∙◌}
use mathlib.Core.Bool.{Bool, true, false, ◌&&◌, not}
use mathlib.Core.List.{List}
use Prim.Native.Nat.{ℕ, suc, ◌-◌, ◌<◌, ◌≤◌}
use native.Mathlib.Omega.{arith}
use lib.ListN.{length, set}
use borrow.Author.Tests.{ltb-true}
use Rattle.terms.specs.declared.TypeCode.{TypeCode}
use Rattle.terms.specs.declared.CellNumber.{CellNumber}
use Rattle.terms.specs.declared.Place.{Place}
use Rattle.terms.specs.declared.Place.TheVariants.{On, Before}
use Rattle.terms.specs.declared.Position.{Position}
use Rattle.terms.specs.declared.Status.TheVariants.{Blank, DA}
use Rattle.terms.specs.Moves.{place_cell, place_number, hold_dropped, after_delete}
use Rattle.forest.specs.Good.{both_left, both_right}
use Rattle.rules.specs.Block.{Bytes, same_bytes}
use Rattle.rules.specs.Cells.{Segment, segment, segment_of, arriving, long, key, run_at, end_at}
use Rattle.rules.specs.Table.{count, room, listing, table_bytes}
use Rattle.rules.specs.Position.{good_place, good_parentage, good_hold, good_position}
use Rattle.rules.specs.Change.{swap}
use Rattle.rules.specs.Calls.{After, bare, refused, answer_of, changed, replaced, replacement, replace, deleted, delete}
use Rattle.rules.specs.Outcome.{landed}
use Rattle.rules.proofs.Cells.{listing-length}
use Rattle.catalogue.proofs.Chains.{clash}
use Rattle.cells.proofs.Located.{end_after, end-within}
use Rattle.cells.proofs.Ancestry.{sound-known}
use Rattle.update.specs.Edits.{with_data, without_cells, Replaceable, Removable}
use Rattle.answers.specs.Ready.{Held, made}
use Rattle.answers.specs.Told.{told}
use Rattle.changes.proofs.Keys.{area-long}

pub place-good : (cat : Bytes) (cs : List Segment) (pos : Position) → good_position cat cs pos ≡ true → good_place cat cs pos.place ≡ true
unfolding good_position
place-good cat cs pos h =
    both_left (good_place cat cs pos.place) (good_parentage cat cs pos.place pos.parentage)
    (both_left (good_place cat cs pos.place && good_parentage cat cs pos.place pos.parentage) (good_hold cat cs pos.place pos.hold) h)

-- R21: where there is a hold, the place is on a cell
hold-on : (cat : Bytes) (cs : List Segment) (q : Place) (h : Bool) → good_place cat cs q ≡ true → good_hold cat cs q h ≡ true → h ≡ true → place_number q < length cs
hold-on cat cs (On c) h a b e = ltb-true c.0 (length cs) a
hold-on cat cs (Before c) h a b e = absurd (clash b (ap not e))

module _ {cat tab : Bytes} {size : ℕ} {pos : Position} (s : Held cat tab size pos) {c : CellNumber} (e : c ≡ place_cell pos.place) where
  abbrev cs : List Segment
  cs = listing cat tab

  pub held-cell : c.0 < count tab
  unfolding good_position
  held-cell =
      let h : place_number pos.place < length cs =
      hold-on cat cs pos.place pos.hold (place-good cat cs pos s.position)
      (both_right (good_place cat cs pos.place && good_parentage cat cs pos.place pos.parentage) (good_hold cat cs pos.place pos.hold) s.position) s.hold in
      let z : c.0 ≡ place_number pos.place = ap (λ (d : CellNumber). d.0) e in
      omega (arith, h, z, listing-length cat tab)

  module _ {t : TypeCode} (f : t ≡ (segment cs c.0).code) where
    module _ (area : Bytes) (a : size ≤ suc (length area)) where
      abbrev same : Bool
      same = same_bytes (key cat (segment cs c.0)) (key cat (arriving cat t area))

      abbrev place-now : After
      place-now = replaced cat cs pos area c.0 (arriving cat t area) (set cs c.0 (arriving cat t area))

      replace-is : place-now ≡ replace cat cs pos area
      unfolding replace replacement
      replace-is = rw (f, e)

      pub replace-differs : same ≡ false → made (bare DA pos) tab area ≡ landed cat tab (replace cat cs pos area)
      unfolding replaced
      replace-differs h = ap (landed cat tab) (sym (let w : place-now ≡ refused DA pos area = rw h in w) ∙ replace-is)

      pub replace-ready : Replaceable cat tab size c.0 area
      replace-ready =
          let known = sound-known s.sound c.0 held-cell in
          record { sound = s.sound; used = held-cell; long = area-long s.sound (segment cs c.0).code area known a }

      pub replace-done : same ≡ true → made (told cat Blank (hold_dropped pos) t 0) (with_data cat tab c.0 area) area ≡ landed cat tab (replace cat cs pos area)
      unfolding replaced changed answer_of long told with_data arriving segment_of
      replace-done h =
          let w : place-now ≡ changed cat (hold_dropped pos) (arriving cat t area) 0 (swap c.0 (arriving cat t area)) (set cs c.0 (arriving cat t area)) area = rw h in
          ap (λ (u : TypeCode). made (told cat Blank (hold_dropped pos) t 0) (table_bytes cat (room cat tab) (set cs c.0 (arriving cat u area))) area) (sym f) ∙ ap (landed cat tab) (sym w ∙ replace-is)

    module _ {end : ℕ} (g : end ≡ end_at cat cs c.0) where
      pub run-bounds : (c.0 < end) × (end ≤ count tab) × (count tab ≤ 4096)
      run-bounds =
          let l : c.0 < length cs = omega (arith, held-cell, listing-length cat tab) in
          (omega (arith, end_after cat cs c.0), omega (arith, end-within cat cs c.0 l, listing-length cat tab), s.sound.sized.few)

      pub delete-ready : Removable cat tab size c.0 end
      delete-ready = record { sound = s.sound; order = omega (arith, run-bounds.0); used = run-bounds.1 }

      run-size : end - c.0 ≡ run_at cat cs c.0
      unfolding end_at
      run-size = omega (arith, g)

      pub delete-done : (area : Bytes) → made (told cat Blank (after_delete c.0 (end - c.0) pos) t (end - c.0)) (without_cells cat tab c.0 end) area
          ≡ landed cat tab (delete cat cs pos area)
      unfolding delete deleted changed answer_of long told without_cells end_at
      delete-done area = rw (run-size, f, g, e)
