-- One step of a reading of the whole table: what it leaves where no cell is left, and where one is. Assumes nothing.
use Rattle.std.specs.Prelude.{Some}
use mathlib.Core.Path.{◌≡◌, refl, ap, sym, ◌∙◌}
use mathlib.Core.Bool.{Bool, true, false, ◌&&◌, not}
use mathlib.Core.List.{List, []}
use Prim.Native.Nat.{ℕ, suc, ◌-◌, ◌<◌, ◌≤◌}
use native.Mathlib.Omega.{arith}
use lib.Dec.{ltb, eqb}
use lib.ListN.{length}
use Rattle.terms.specs.declared.TypeCode.{TypeCode}
use Rattle.terms.specs.declared.Position.{Position}
use Rattle.terms.specs.declared.Status.{Status}
use Rattle.terms.specs.declared.Status.TheVariants.{Blank, GA, GK, GB}
use Rattle.terms.specs.declared.Answer.{Answer}
use Rattle.terms.specs.Choice.{pick}
use Rattle.terms.specs.Names.{cell, same_type}
use Rattle.terms.specs.Statuses.{number}
use Rattle.terms.specs.Moves.{fresh, after_place, is_on, moved_onto}
use Rattle.rules.specs.Block.{Bytes, byte}
use Rattle.rules.specs.Cells.{Segment, segment, shown_bytes, level_at}
use Rattle.rules.specs.Table.{count, listing}
use Rattle.rules.specs.Position.{good_block, position_of, position_bytes}
use Rattle.rules.specs.Calls.{over, bare, after_miss}
use Rattle.rules.proofs.Block.{canonical}
use Rattle.position.specs.Block.{Writable}
use Rattle.position.proofs.Parts.{good-long}
use Rattle.answers.specs.Told.{told}
use Rattle.answers.specs.Ready.{SoundFor, Ready}
use Rattle.gets.specs.Status.{next_status}
use Rattle.gets.proofs.Codes.{status-is}
use Rattle.gets.proofs.Gotten.{got-is, cell-found, cell-missed}
use Rattle.umbristal.specs.Face.{handed_back, sound_face, packed, is_step}
use Rattle.umbristal.proofs.Left.{block-put}
use Rattle.umbristal.proofs.Fitting.{sound-left}
use Rattle.umbristal.proofs.EmptyList.{step-ready, step-made}

-- no status of such a get is a refusal
low : (a b c : Bool) → number (pick a (pick b GA (pick c GK Blank)) Blank) < 20
low true true c = omega arith
low true false true = omega arith
low true false false = omega arith
low false b c = omega arith

module _ (cat tab block list area : Bytes) (f : SoundFor cat tab (position_of block)) (e : is_step tab 2 list area ≡ true) where
  abbrev pos : Position
  pos = position_of block

  abbrev cs : List Segment
  cs = listing cat tab

  pub block-good : good_block block ≡ true
  block-good = canonical.only cat cs block f.position

  pub step-sound : (size : ℕ) → size ≡ byte tab 5 → Ready cat tab size pos [] × (size ≤ suc (length area))
  step-sound = step-ready cat tab pos list area f e

  ready : Ready cat tab (byte tab 5) pos []
  ready = (step-sound (byte tab 5) refl).0

  module _ (i : ℕ) (at : i ≡ after_place pos.place) (n : ℕ) (to : n ≡ count tab) where
    pub fresh-fits : Writable block fresh
    fresh-fits = record { long = good-long block block-good; place = omega arith; parent = omega arith }

    pub onto-fits : i < n → (p : Position) → p ≡ moved_onto i (Some (cell i)) false → Writable block p
    onto-fits l p h =
        let few = ready.sound.sized.few in
        rw h (record { long = good-long block block-good; place = omega arith; parent = omega arith })

    pub step-missed : n ≤ i → (r : ℕ) (b : Bytes) → r ≡ number GB → b ≡ position_bytes fresh → handed_back r tab b area ≡ sound_face cat tab block 2 list area
    unfolding packed
    step-missed l r b w x =
        let a : Answer = bare GB (after_miss GB pos) in
        sound-left cat tab block 2 list area pos refl a tab area r b w (block-put block a (number GB) refl (omega arith) b x)
        (step-made cat tab pos list area f e a area (cell-missed ready area false i at n to l))

    module _ (l : i < n) (on : Bool) (o : on ≡ is_on pos.place) (s : Status) (se : s ≡ next_status cat cs on i) where
      status-low : number s < 20
      status-low =
          let was = i - 1 in
          rw se
          (low on (ltb (level_at cat cs i) (level_at cat cs was))
          (eqb (level_at cat cs i) (level_at cat cs was) && not (same_type (segment cs i).code (segment cs was).code)))

      module _ (t : TypeCode) (te : t ≡ (segment cs i).code) (out : Bytes) (oe : out ≡ over (shown_bytes cat (segment cs i)) area)
          (p : Position) (pe : p ≡ moved_onto i (Some (cell i)) false) (a : Answer) (ae : a ≡ told cat s p t 0) where
        told-low : number a.status < 20
        unfolding told
        told-low = rw ae status-low

        told-place : a.position ≡ p
        unfolding told
        told-place = rw ae

        pub told_none : a.removed < 65536
        unfolding told
        told_none = rw ae (omega arith)

        pub step-found : (r : ℕ) (b : Bytes) → r ≡ packed a → b ≡ position_bytes p → handed_back r tab b out ≡ sound_face cat tab block 2 list area
        step-found r b w x =
            sound-left cat tab block 2 list area pos refl a tab out r b w
            (block-put block a (number a.status) refl told-low b (x ∙ ap position_bytes (sym told-place)))
            (step-made cat tab pos list area f e a out
            (got-is cat tab i s (Some (cell i)) false area te oe pe ae
            ∙ cell-found ready area false i at n to s l (se ∙ status-is cat cs i on pos.place o at)))
