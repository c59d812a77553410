-- A search with one list asks with an empty one behind it: that is the same list. Assumes nothing.
use Rattle.terms.specs.declared.CellNumber.{CellNumber}
use Rattle.std.specs.Prelude.{Option}
use mathlib.Core.Path.{◌≡◌}
use mathlib.Core.List.{[], ◌++◌, append-nil}
use Prim.Native.Nat.{ℕ}
use Rattle.terms.specs.declared.TypeCode.{TypeCode}
use Rattle.terms.specs.declared.Place.{Place}
use Rattle.rules.specs.Block.{Bytes}
use Rattle.rules.specs.Table.{listing}
use Rattle.rules.specs.Matching.{along}
use Rattle.arguments.proofs.Entries.{pair-alone}
use Rattle.search.specs.Good.{Good, Asking}
use Rattle.search.specs.Stretch.{levels}

pub asking-alone : {cat tab list : Bytes} {size : ℕ} {t : TypeCode} → Good cat tab list size t → Asking cat tab list [] size t
asking-alone {cat} {tab} {list} g =
    record { good = rw (append-nil list) g; pair = pair-alone cat list (record { catalogue = g.catalogue; read = g.sound }) }

pub along-alone : (cat tab list : Bytes) (t : TypeCode) (q : Place) {found : Option CellNumber} → found ≡ along cat (listing cat tab) (levels cat (list ++ []) t) q
    → found ≡ along cat (listing cat tab) (levels cat list t) q
along-alone cat tab list t q e = rw (append-nil list) at e
