-- The run of a cell p by the types of the cells: the cell that it comes up to is in it or ends it. Assumes nothing.
use mathlib.Core.Path.{◌≡◌, ap, sym, ◌∙◌}
use mathlib.Core.Bool.{Bool, true, false}
use mathlib.Core.List.{List}
use Prim.Native.Nat.{ℕ, zero, suc, ◌+◌, ◌-◌, ◌<◌, ◌≤◌}
use native.Mathlib.Omega.{arith}
use lib.Dec.{ltb}
use lib.ListN.{length}
use borrow.Author.Tests.{lt-ltb, le-ltb, ltb-true, ltb-false}
use Rattle.terms.specs.declared.TypeCode.{TypeCode}
use Rattle.forest.specs.Forest.{inside, outside, side}
use Rattle.forest.specs.Good.{on, off, is}
use Rattle.forest.specs.Runs.{under, under-in, under-out}
use Rattle.forest.specs.Numbers.{range}
use Rattle.rules.specs.Block.{Bytes}
use Rattle.rules.specs.Catalogue.{level, type_beneath}
use Rattle.rules.specs.Cells.{Segment, segment, level_at, run_at, end_at}
use Rattle.rules.specs.Table.{count, listing}
use Rattle.rules.proofs.Cells.{listing-length}
use Rattle.catalogue.proofs.Hierarchy.{beneath-later}
use Rattle.cells.specs.Sound.{Sound}
use Rattle.cells.proofs.Located.{end-within}
use Rattle.cells.proofs.Ancestry.{sound-listing, own-type, run-beneath}
use Rattle.search.specs.Good.{Good}

-- the cell that a run comes up to is in it where its type is beneath that of the run's first cell
under-stop : (lev : ℕ → ℕ) (m n s : ℕ) → under lev m (range s n) < n → lev (s + under lev m (range s n)) ≤ m
unfolding under
under-stop lev m zero s l = absurd (omega arith)
under-stop lev m (suc n) s l = elim (side m (lev s)) [
  | inside h ↦
      let e : under lev m (range s (suc n)) ≡ suc (under lev m (range (suc s) n)) = under-in lev m s (range (suc s) n) h in
      let z : s + under lev m (range s (suc n)) ≡ suc s + under lev m (range (suc s) n) = omega arith in
      rw z (under-stop lev m n (suc s) (omega arith))
  | outside h ↦
      let e : under lev m (range s (suc n)) ≡ 0 = under-out lev m s (range (suc s) n) h in
      let z : s + under lev m (range s (suc n)) ≡ s = omega arith in
      rw z h
]

end-stop : (cat : Bytes) (cs : List Segment) (p : ℕ) → end_at cat cs p < length cs → level_at cat cs (end_at cat cs p) ≤ level_at cat cs p
unfolding end_at run_at
end-stop cat cs p l =
    let n : ℕ = length cs - suc p in
    let z : p + suc (under (level_at cat cs) (level_at cat cs p) (range (suc p) (length cs - suc p))) ≡ suc p + under (level_at cat cs) (level_at cat cs p) (range (suc p) (length cs - suc p)) = omega arith in
    rw z (under-stop (level_at cat cs) (level_at cat cs p) (length cs - suc p) (suc p) (omega arith))

module _ {cat tab : Bytes} {size : ℕ} (s : Sound cat tab size) (p i : ℕ) (l : p < i) (m : i ≤ end_at cat (listing cat tab) p) (k : p < count tab) where
  pub within_none : count tab ≤ i → false ≡ ltb i (end_at cat (listing cat tab) p)
  within_none h = sym (le-ltb i (end_at cat (listing cat tab) p) (omega (arith, end-within cat (listing cat tab) p (omega (arith, listing-length cat tab)), listing-length cat tab)))

  pub within-type : (t u : TypeCode) (b : Bool) → i < count tab → t ≡ (segment (listing cat tab) i).code → u ≡ (segment (listing cat tab) p).code → b ≡ type_beneath cat t u → b ≡ ltb i (end_at cat (listing cat tab) p)
  unfolding level_at
  within-type t u b h x y e = elim (side i (end_at cat (listing cat tab) p)) [
    | inside w ↦ e ∙ rw (x, y) (run-beneath cat (listing cat tab) s.catalogue (sound-listing s) i (omega (arith, listing-length cat tab)) p l w) ∙ sym (lt-ltb i (end_at cat (listing cat tab) p) w)
    | outside w ↦
        let z : i ≡ end_at cat (listing cat tab) p = omega arith in
        let o = own-type cat (listing cat tab) s.catalogue (sound-listing s) i (omega (arith, listing-length cat tab)) in
        let v : level_at cat (listing cat tab) i ≤ level_at cat (listing cat tab) p = rw z (end-stop cat (listing cat tab) p (omega (arith, listing-length cat tab))) in
        let f : type_beneath cat t u ≡ false = (elim (is (type_beneath cat t u)) [
          | on q ↦ absurd (omega (arith, (beneath-later cat s.catalogue t u (rw x o.0) (rw x o.1) q).2, ap (level cat) x, ap (level cat) y))
          | off q ↦ q
        ]) in
        e ∙ f ∙ sym (le-ltb i (end_at cat (listing cat tab) p) w)
  ]

pub sound-good : {cat tab list : Bytes} {size : ℕ} {t : TypeCode} → Good cat tab list size t → Sound cat tab size
sound-good g = record { catalogue = g.catalogue; table = g.table; sized = g.sized }

-- what the test of a cell says of the run
pub in-run : (cat tab : Bytes) (p i : ℕ) {b : Bool} → b ≡ ltb i (end_at cat (listing cat tab) p) → b ≡ true → i < end_at cat (listing cat tab) p
in-run cat tab p i e h = ltb-true i (end_at cat (listing cat tab) p) (sym e ∙ h)

pub past-run : (cat tab : Bytes) (p i : ℕ) {b : Bool} → b ≡ ltb i (end_at cat (listing cat tab) p) → b ≡ false → end_at cat (listing cat tab) p ≤ i
past-run cat tab p i e h = ltb-false i (end_at cat (listing cat tab) p) (sym e ∙ h)
