-- The plain reading's pass over all cells: one meets the lists where its level is the last type's and its path agrees down to it. Assumes nothing.
use mathlib.Core.Path.{◌≡◌, ap, sym, ◌∙◌}
use mathlib.Core.Bool.{Bool, true, ◌&&◌}
use mathlib.Core.List.{List}
use mathlib.Core.Logic.{◌⊎◌, inl, inr}
use Prim.Native.Nat.{ℕ, ◌<◌}
use native.Mathlib.Omega.{arith}
use lib.Dec.{eqb}
use lib.ListN.{length}
use borrow.Author.Tests.{eq-eqb, ne_eqb}
use Rattle.terms.specs.declared.TypeCode.{TypeCode}
use Rattle.terms.specs.declared.Argument.{Argument}
use Rattle.rules.specs.Block.{Bytes}
use Rattle.rules.specs.Catalogue.{level, is_type}
use Rattle.rules.specs.Cells.{Segment, level_at}
use Rattle.rules.specs.Table.{count, listing}
use Rattle.rules.specs.Arguments.{Level, list_read, last_argument}
use Rattle.rules.specs.Matching.{matches}
use Rattle.rules.proofs.Cells.{listing-length}
use Rattle.cells.proofs.Ancestry.{sound-listing}
use Rattle.arguments.proofs.Above.{type-first}
use Rattle.arguments.proofs.Complete.{complete-length}
use Rattle.arguments.proofs.Sound.{sound-down, last-asks}
use Rattle.search.specs.Stretch.{levels, stretch}
use Rattle.search.proofs.Levels.{get-levels}
use Rattle.search.proofs.Branches.{match-stretch}
use Rattle.report_loops.specs.Plain.{meets}
use Rattle.report_loops.proofs.Matches.{matches-meets}
use Rattle.reports.specs.Given.{Given}
use Rattle.reports.proofs.Given.{sound-list, given-good}

module _ {cat tab list : Bytes} {size : ℕ} (g : Given cat tab list size) where
  abbrev cs : List Segment
  cs = listing cat tab

  abbrev ar : List Argument
  ar = (list_read cat list).arguments

  module _ (t : TypeCode) (e : t ≡ (last_argument ar).code) where
    abbrev ls : List Level
    ls = levels cat list t

    pub last-known : is_type cat t ≡ true
    last-known = rw e (last-asks cat list (sound-list g) g.some).type

    some-last : 0 < t.0
    some-last = type-first cat t last-known

    matched : (i : ℕ) → i < count tab → matches cat cs ls i ≡ meets cat list cs ar i
    matched i h =
        ap (λ (u : TypeCode). matches cat cs (levels cat list u) i) e ∙ ap (λ (x : List Level). matches cat cs x i) (sym (get-levels cat list ar))
        ∙ matches-meets cat cs g.sound.catalogue (sound-listing g.sound) list ar (sound-down cat list (sound-list g)) i
        (omega (arith, listing-length cat tab))

    -- LAW: a cell meets the list where its level is the last type's and it agrees down to it; b is the code's test of both
    pub met-stretch : (i : ℕ) → i < count tab → (k long last : ℕ) → k ≡ level_at cat cs i → long ≡ stretch cat cs ls i → last ≡ level cat t
        → (b : Bool) → ((k ≡ last) × (b ≡ eqb long last)) ⊎ ((k ≡ last → ⊥) × (b ≡ eqb k last)) → b ≡ meets cat list cs ar i
    met-stretch i h k long last x y c b w =
        let z : last ≡ length ls = c ∙ sym (complete-length cat list ar t) in
        let m : (eqb k last && eqb long last) ≡ meets cat list cs ar i = rw (x, y, z) (sym (match-stretch (given-good g t e) i h some-last) ∙ matched i h) in
        elim w [
          | inl q ↦ q.1 ∙ (rw (eq-eqb k last q.0) at m)
          | inr q ↦ q.1 ∙ ne_eqb k last q.0 ∙ (rw (ne_eqb k last q.0) at m)
        ]
