-- The lines of a text read one after the other: a line that was taken, a bad one, and the end. Assumes nothing.
use mathlib.Core.Path.{◌≡◌, refl, ap, sym, ◌∙◌}
use mathlib.Core.List.{List, [], ◌∷◌}
use Prim.Native.Nat.{ℕ, suc, ◌+◌, ◌<◌, ◌≤◌}
use native.Mathlib.Numerals.{add-one}
use native.Mathlib.Omega.{arith}
use lib.ListN.{length, drop_of_length-le}
use borrow.Author.Tests.{eq-eqb, ne_eqb}
use Rattle.std.specs.Prelude.{Result, Ok, Err, MatchResult}
use Rattle.std.specs.Result.{IsErrAnd}
use Rattle.rules.specs.Block.{Bytes, byte}
use Rattle.rules.specs.Catalogue.{types}
use Rattle.statements.specs.Lines.{lines_of}
use Rattle.statements.specs.Draft.{Draft, Fault as Kind, fault_number, goes, bad, line_taken}
use Rattle.statements.specs.Dbd.{Reading as Answer, refused, given, ended, read_from, dbd_read}
use Rattle.statements.proofs.Rows.{rows-length}
use Rattle.dbd_draft.specs.declared.Fault.{Fault}
use Rattle.dbd_draft.specs.declared.Fault.TheVariants.{Misplaced, Twice, Orphan, Unruled}
use Rattle.dbd_draft.specs.Kept.{draft_of, kind_of, fault_of, Left, Sound}
use Rattle.dbd_read.specs.declared.LineFault.{LineFault}
use Rattle.dbd_read.specs.Reading.{Fresh, read_as, Read}

read_goes : (d e : Draft) (n : ℕ) (l : Bytes) (ls : List Bytes) → line_taken d l ≡ goes e → read_from d n (l ∷ ls) ≡ read_from e (suc n) ls
unfolding read_from
read_goes d e n l ls h = rw (read_from, h)

read-bad : (d : Draft) (n : ℕ) (l : Bytes) (ls : List Bytes) (k : Kind) → line_taken d l ≡ bad k → read_from d n (l ∷ ls) ≡ refused k n
unfolding read_from
read-bad d n l ls k h = rw (read_from, h)

read-end : (d : Draft) (n : ℕ) → read_from d n [] ≡ ended d n
unfolding read_from
read-end d n = refl

lines_none : lines_of [] ≡ []
unfolding lines_of
lines_none = refl

-- R78: the number of a fault, which is not 0
pub numbered : (f : Fault) → fault_number (kind_of f) ≡ fault_of f
unfolding fault_number
numbered Misplaced = refl
numbered Twice = refl
numbered Orphan = refl
numbered Unruled = refl

pub some_fault : (f : Fault) → 0 < fault_of f
some_fault Misplaced = omega arith
some_fault Twice = omega arith
some_fault Orphan = omega arith
some_fault Unruled = omega arith

read-fault : (f : Fault) (n : ℕ) (b : Bytes) (a : Answer) → refused (kind_of f) n ≡ a → Read (Err (record { fault = f; line = n })) b a
unfolding refused
read-fault f n b a e = record {
  same = rw (← numbered f) e;
  wide = tt;
}

-- before line n: what its text and those behind it come to is what the whole text comes to, and each line before it had a byte at least
pub record Before (text rest b levels : Bytes) (n : ℕ) : Type 0 where
  pub short : n + length rest ≤ length text + 1
  pub sound : Sound b levels
  pub whole : read_from (draft_of b) n (lines_of rest) ≡ dbd_read text

pub before-first : (text rest b levels : Bytes) → Fresh b levels → rest ≡ text → Before text rest b levels 1
unfolding dbd_read
before-first text rest b levels f e = rw e (record {
  short = omega arith;
  sound = f.sound;
  whole = ap (λ (d : Draft). read_from d 1 (lines_of text)) f.empty;
})

-- what `map_err` makes of a line's fault: the same with the line's number
abbrev pub Numbered : ℕ → Result (Unit {0}) Fault → Result (Unit {0}) LineFault → Type 0
Numbered n r m = MatchResult r (λ u. m ≡ Ok u) (λ f. m ≡ Err (record { fault = f; line = n }))

pub numbered_by : {P : Fault → LineFault → Type 0} (n : ℕ) (r : Result (Unit {0}) Fault) (m : Result (Unit {0}) LineFault)
    → MatchResult r (λ u. m ≡ Ok u) (λ f. IsErrAnd m (P f)) → ((f : Fault) (e : LineFault) → P f e → e ≡ record { fault = f; line = n }) → Numbered n r m
numbered_by n (Ok u) m h k = h
numbered_by n (Err f) (Ok u) h k = absurd h
numbered_by n (Err f) (Err e) h k = ap Err (k f e h)

-- one line: b and c are the drafts before it and behind it
module _ (text rest more l b before c levels : Bytes) (n : ℕ) (here : Before text rest b before n) (cut : lines_of rest ≡ l ∷ lines_of more) where
  taken-apart : read_from (draft_of b) n (l ∷ lines_of more) ≡ dbd_read text
  taken-apart = ap (read_from (draft_of b) n) (sym cut) ∙ here.whole

  pub line-bad : (r : Result (Unit {0}) Fault) (m : Result (Unit {0}) LineFault) (e : LineFault) → Left r c levels (line_taken (draft_of b) l)
      → Numbered n r m → m ≡ Err e → Read (Err e) c (dbd_read text)
  line-bad (Ok u) m e left t h = let z : Ok u ≡ Err e = sym t ∙ h in cc
  line-bad (Err f) m e left t h =
      let z : Err (record { fault = f; line = n }) ≡ Err e = sym t ∙ h in
      let k : record { fault = f; line = n } ≡ e = cc in
      rw (← k) (read-fault f n c (dbd_read text) (sym (read-bad (draft_of b) n l (lines_of more) (kind_of f) (sym left.same)) ∙ taken-apart))

  pub line-good : (r : Result (Unit {0}) Fault) (m : Result (Unit {0}) LineFault) (u : Unit {0}) → Left r c levels (line_taken (draft_of b) l)
      → Numbered n r m → m ≡ Ok u → length more < length rest → Before text more c levels (n + 1)
  line-good (Ok v) m u left t h s = record {
    short = omega (arith, here.short);
    sound = left.sound;
    whole = rw (add-one n) (sym (read_goes (draft_of b) (draft_of c) n l (lines_of more) (sym left.same)) ∙ taken-apart);
  }
  line-good (Err f) m u left t h s = let z : ◌≡◌ {A = Result (Unit {0}) LineFault} (Err (record { fault = f; line = n })) (Ok u) = sym t ∙ h in cc

-- no line is left
module _ (text rest b levels : Bytes) (n : ℕ) (none : length rest ≡ 0) (here : Before text rest b levels n) where
  ends : ended (draft_of b) n ≡ dbd_read text
  ends =
      let x : rest ≡ [] = drop_of_length-le rest {i = 0} (omega (arith, none)) in
      sym (ap (λ (t : Bytes). read_from (draft_of b) n (lines_of t)) x ∙ ap (read_from (draft_of b) n) lines_none ∙ read-end (draft_of b) n) ∙ here.whole

  counted : length (draft_of b).types ≡ types b
  unfolding draft_of
  counted = rows-length 8 b 8 (types b)

  pub end_none : byte b 5 ≡ 0 → Read (Err (record { fault = Misplaced; line = n })) b (dbd_read text)
  unfolding types ended
  end_none e = read-fault Misplaced n b (dbd_read text) (sym (rw (eq-eqb (length (draft_of b).types) 0 (counted ∙ e))) ∙ ends)

  pub end_whole : (byte b 5 ≡ 0 → ⊥) → Read (Ok tt) b (dbd_read text)
  unfolding types ended
  end_whole e = record {
    same = sym (rw (ne_eqb (length (draft_of b).types) 0 (λ z. e (sym counted ∙ z)))) ∙ ends;
    wide =
        let s = here.sound in
        record { long = s.long; few = s.few; few_fields = s.few_fields; headed = s.headed; based = s.based (omega (arith, e)) };
  }

-- a reading, by its arm
module _ (r : Result (Unit {0}) LineFault) (b : Bytes) (a : Answer) where
  pub whole_is : (u : Unit {0}) → Read r b a → r ≡ Ok u → given (draft_of b) ≡ a
  whole_is u h e = sym (ap (λ (x : Result (Unit {0}) LineFault). read_as x b) e) ∙ h.same

  pub fault-is : (e : LineFault) → Read r b a → r ≡ Err e
      → record { fault = fault_of e.fault; line = e.line; types = 0; fields = 0; catalogue = []; names = [] } ≡ a
  fault-is f h e = sym (ap (λ (x : Result (Unit {0}) LineFault). read_as x b) e) ∙ h.same
