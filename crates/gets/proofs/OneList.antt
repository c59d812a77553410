-- A get with one list asks with an empty one behind it: it is ready for that, and what it leaves is the same. Assumes nothing.
use mathlib.Core.Path.{◌≡◌, ap, ◌∙◌}
use mathlib.Core.Bool.{Bool}
use mathlib.Core.List.{List, [], ◌++◌, append-nil}
use Prim.Native.Nat.{ℕ}
use Rattle.terms.specs.declared.Position.{Position}
use Rattle.rules.specs.Block.{Bytes}
use Rattle.rules.specs.Cells.{Segment}
use Rattle.rules.specs.Arguments.{list_read, get_levels}
use Rattle.rules.specs.Calls.{After, get_next, get_next_within}
use Rattle.arguments.specs.Asked.{Pair}
use Rattle.arguments.proofs.Entries.{pair-alone}
use Rattle.answers.specs.Ready.{Ready}

pub ready-alone : {cat tab : Bytes} {size : ℕ} {pos : Position} {list : Bytes} → Ready cat tab size pos list
    → Ready cat tab size pos (list ++ []) × Pair cat list []
ready-alone {cat} {tab} {size} {pos} {list} r =
    (rw (append-nil list) r, pair-alone cat list (record { catalogue = r.sound.catalogue; read = r.asked }))

levels-alone : (cat list : Bytes) → get_levels cat (list ++ []) (list_read cat (list ++ [])).arguments ≡ get_levels cat list (list_read cat list).arguments
levels-alone cat list = rw (append-nil list)

module _ (cat list : Bytes) (cs : List Segment) (pos : Position) (area : Bytes) (hold : Bool) {left : After} where
  pub next-alone : left ≡ get_next cat cs pos area hold (get_levels cat (list ++ []) (list_read cat (list ++ [])).arguments)
      → left ≡ get_next cat cs pos area hold (get_levels cat list (list_read cat list).arguments)
  next-alone e = e ∙ ap (get_next cat cs pos area hold) (levels-alone cat list)

  pub within-alone : left ≡ get_next_within cat cs pos area hold (get_levels cat (list ++ []) (list_read cat (list ++ [])).arguments)
      → left ≡ get_next_within cat cs pos area hold (get_levels cat list (list_read cat list).arguments)
  within-alone e = e ∙ ap (get_next_within cat cs pos area hold) (levels-alone cat list)
