-- GN once more: what is said of the place, said of the search behind it. Assumes nothing.
use mathlib.Core.Path.{◌≡◌, ap, sym, ◌∙◌}
use mathlib.Core.List.{List}
use Prim.Native.Nat.{ℕ, ◌-◌, ◌<◌}
use native.Mathlib.Omega.{arith}
use Rattle.terms.specs.declared.TypeCode.{TypeCode}
use Rattle.terms.specs.declared.Position.{Position}
use Rattle.terms.specs.Moves.{after_place}
use Rattle.rules.specs.Block.{Bytes}
use Rattle.rules.specs.Table.{listing}
use Rattle.rules.specs.Arguments.{Level, list_read, last_argument, complete, get_levels}
use Rattle.rules.specs.Matching.{matches}
use Rattle.search.specs.Good.{Continued}
use Rattle.search.proofs.Levels.{get-levels}
use Rattle.answers.specs.Ready.{Again}

-- LAW: a place on a cell that the list matches is behind a match of the list completed down to its last type
pub again-continued : (cat tab list : Bytes) (pos : Position) (t : TypeCode) → t ≡ (last_argument (list_read cat list).arguments).code
    → (from : ℕ) → from ≡ after_place pos.place → Again cat tab list pos → Continued cat tab list t from
again-continued cat tab list pos t e from f a h =
    let z : complete cat list (list_read cat list).arguments t ≡ get_levels cat list (list_read cat list).arguments =
    rw e (sym (get-levels cat list (list_read cat list).arguments)) in
    let l : 0 < after_place pos.place = omega arith in
    ap (λ (m : List Level). matches cat (listing cat tab) m (from - 1)) z
    ∙ ap (λ (n : ℕ). matches cat (listing cat tab) (get_levels cat list (list_read cat list).arguments) (n - 1)) f ∙ a l
