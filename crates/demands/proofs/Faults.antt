-- The fault of a list is none, AC, AJ or AK. Assumes nothing.
use Rattle.terms.specs.declared.Argument.{Argument}
use Rattle.std.specs.Prelude.{Err, Ok, Result}
use mathlib.Core.Path.{◌≡◌, refl}
use mathlib.Core.Bool.{false, not}
use Prim.Native.Nat.{ℕ, zero, suc, ◌+◌}
use lib.Dec.{ltb, leb, eqb}
use lib.ListN.{length}
use Rattle.terms.specs.declared.TypeCode.{TypeCode}
use Rattle.terms.specs.declared.Status.{Status}
use Rattle.terms.specs.declared.Status.TheVariants.{Blank, AC, AJ, AK}
use Rattle.terms.specs.Names.{code, field}
use Rattle.forest.specs.Good.{on, off, is}
use Rattle.rules.specs.Block.{Bytes, byte, part}
use Rattle.rules.specs.Order.{is_value}
use Rattle.rules.specs.Catalogue.{field_length, field_value}
use Rattle.rules.specs.Arguments.{good_next, is_field_of, argument_at, arguments_from, list_read}
use Rattle.rules.proofs.Choice.{pick-of}

pub data FaultOf : Status → Type 0 where
  no-fault : FaultOf Blank
  type-fault : FaultOf AC
  list-fault : FaultOf AJ
  field-fault : FaultOf AK

module _ (cat list : Bytes) where
  abbrev Faulty : Result Argument Status → Type 0
  Faulty (Ok a) = Unit {0}
  Faulty (Err s) = FaultOf s

  faulty-at : (before : TypeCode) (at : ℕ) → Faulty (argument_at cat list before at)
  unfolding argument_at
  faulty-at before at =
      pick-of Faulty (not (good_next cat list before (code (byte list at)))) (Err AC) _ type-fault
      (pick-of Faulty (leb (length list) (at + 1)) (Err AJ) _ list-fault
      (pick-of Faulty (eqb (byte list (at + 1)) 0) (Ok _) _ tt
      (pick-of Faulty (ltb 6 (byte list (at + 1))) (Err AJ) _ list-fault
      (pick-of Faulty (leb (length list) (at + 2)) (Err AJ) _ list-fault
      (pick-of Faulty (not (is_field_of cat list (code (byte list at)) (field (byte list (at + 2))))) (Err AK) _ field-fault
      (pick-of Faulty (ltb (length list) (at + 3 + field_length cat (field (byte list (at + 2))))) (Err AJ) _ list-fault
      (pick-of Faulty (not (is_value (field_value cat (field (byte list (at + 2)))) (part list (at + 3) (field_length cat (field (byte list (at + 2)))))))
      (Err AJ) (Ok _) list-fault tt)))))))

  fault-from : (n : ℕ) (before : TypeCode) (at : ℕ) → FaultOf (arguments_from cat list n before at).fault
  unfolding arguments_from
  fault-from zero before at = no-fault
  fault-from (suc n) before at = elim (is (leb (length list) at)) [
    | on e ↦ rw (arguments_from, e) no-fault
    | off e ↦ go n before at e (argument_at cat list before at) refl (faulty-at before at) (λ t k. fault-from n t k)
  ]
    where
      go : (n : ℕ) (before : TypeCode) (at : ℕ) → leb (length list) at ≡ false → (r : Result Argument Status) → argument_at cat list before at ≡ r → Faulty r
          → ((t : TypeCode) (k : ℕ) → FaultOf (arguments_from cat list n t k).fault) → FaultOf (arguments_from cat list (suc n) before at).fault
      go n before at e (Err s) q h f = rw (arguments_from, e, q) h
      go n before at e (Ok a) q h f = rw (arguments_from, e, q) (f a.code a.next)

  pub list-fault-of : FaultOf (list_read cat list).fault
  unfolding list_read
  list-fault-of = fault-from (length list) (code 0) 0
