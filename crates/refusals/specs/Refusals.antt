-- The order of refusals as each kind of call meets it: the laws of `proofs/Refusals.antt` join these to the one list. Assumes nothing: these are definitions.
use Rattle.std.specs.Prelude.{Bool, ◌&&◌, not, ℕ, ◌-◌, ltb, eqb, length}
use Rattle.terms.specs.declared.Position.{Position}
use Rattle.terms.specs.declared.Status.{Status}
use Rattle.terms.specs.declared.Status.TheVariants.{Blank, GP, AJ, AH, AB, DJ}
use Rattle.terms.specs.Choice.{pick}
use Rattle.terms.specs.Moves.{is_absent}
use Rattle.rules.specs.Block.{Bytes}
use Rattle.rules.specs.Arguments.{list_read, last_argument, is_qualified}
use Rattle.rules.specs.Outcome.{is_gnp, is_dlet}

-- AB (R56)
unfoldable pub too_short : ℕ → ℕ → Bytes → Bool
too_short size c area = not (is_dlet c) && ltb (length area) (size - 1)

unfoldable pub misused_get : ℕ → Position → ℕ → Bytes → Status
misused_get size pos c area =
    pick (too_short size c area) AB
    (pick (is_gnp c && is_absent pos.parentage) GP
    Blank)

unfoldable pub misused_insert : Bytes → ℕ → ℕ → Bytes → Bytes → Status
misused_insert cat size c list area =
    pick (eqb (length list) 0) AH
    (pick (is_qualified (last_argument (list_read cat list).arguments).qualification) AJ
    (pick (too_short size c area) AB
    Blank))

unfoldable pub misused_held : ℕ → Position → ℕ → Bytes → Bytes → Status
misused_held size pos c list area =
    pick (not (eqb (length list) 0)) AJ
    (pick (too_short size c area) AB
    (pick (not pos.hold) DJ
    Blank))
