-- A sound list walked from the left: the arguments that are left, and the last one. Assumes nothing.
use Rattle.std.specs.Prelude.{None}
use mathlib.Core.Path.{◌≡◌, refl, ap, sym, ◌∙◌}
use mathlib.Core.Bool.{true}
use mathlib.Core.List.{List, [], ◌∷◌}
use Prim.Native.Nat.{ℕ, ◌+◌, ◌<◌, ◌≤◌}
use lib.ListN.{length}
use borrow.Author.Tests.{eq-eqb, ne_eqb}
use Rattle.terms.specs.declared.TypeCode.{TypeCode}
use Rattle.terms.specs.declared.Argument.{Argument}
use Rattle.terms.specs.declared.Status.TheVariants.{Blank}
use Rattle.terms.specs.Names.{code}
use Rattle.rules.specs.Block.{Bytes, byte}
use Rattle.rules.specs.Catalogue.{is_type}
use Rattle.rules.specs.Arguments.{ListRead, list_read, last_argument}
use Rattle.arguments.specs.Sound.{Named, SoundList, rest, next_at, untested, Room, wanted_of}
use Rattle.arguments.proofs.Above.{next-type}
use Rattle.arguments.proofs.Rest.{rest-whole, rest_end, step, step-rest, step-fault}

pub wanted-here : (a : Argument) (ar : List Argument) (t : TypeCode) → a.code.0 ≡ t.0 → wanted_of (a ∷ ar) t ≡ Named a.qualification
unfolding wanted_of
wanted-here a ar t e = rw (wanted_of, eq-eqb a.code.0 t.0 e)

pub wanted-next : (a : Argument) (ar : List Argument) (t : TypeCode) → (a.code.0 ≡ t.0 → ⊥) → wanted_of (a ∷ ar) t ≡ wanted_of ar t
unfolding wanted_of
wanted-next a ar t n = rw (wanted_of, ne_eqb a.code.0 t.0 n)

-- the walk has come to byte `at`, behind an argument of type `before`
pub record Walked (cat list : Bytes) (at : ℕ) : Type 0 where
  pub before : TypeCode
  pub sound : (rest cat list before at).fault ≡ Blank

-- the arguments that it has before it
abbrev pub left : {cat list : Bytes} {at : ℕ} → Walked cat list at → List Argument
left {cat} {list} {at} w = (rest cat list w.before at).arguments

module _ (cat list : Bytes) where
  pub walked_start : SoundList cat list → Walked cat list 0
  walked_start s = record { before = code 0; sound = ap (λ (l : ListRead). l.fault) (rest-whole cat list) ∙ s.read }

  pub left-start : (s : SoundList cat list) → left (walked_start s) ≡ (list_read cat list).arguments
  unfolding walked_start
  left-start s = ap (λ (l : ListRead). l.arguments) (rest-whole cat list)

  module _ (at : ℕ) where
    pub left_end : length list ≤ at → (w : Walked cat list at) → left w ≡ []
    left_end h w = ap (λ (l : ListRead). l.arguments) (rest_end cat list w.before at h)

    module _ (h : at < length list) (w : Walked cat list at) where
      pub walked-room : Room list at
      walked-room = (step cat list w.before at h w.sound).room

      pub walked-onward : at + 2 ≤ next_at cat list at
      walked-onward = (step cat list w.before at h w.sound).onward

      -- the type there is one of the catalogue's
      pub walked-type : is_type cat (code (byte list at)) ≡ true
      walked-type = next-type cat list w.before (code (byte list at)) (step cat list w.before at h w.sound).type

      pub walked_next : Walked cat list (next_at cat list at)
      walked_next = record { before = code (byte list at); sound = step-fault cat list w.before at h w.sound }

      pub left-next : left w ≡ untested cat list at ∷ left walked_next
      unfolding walked_next
      left-next = ap (λ (l : ListRead). l.arguments) (step-rest cat list w.before at h w.sound)

-- the last of these arguments; a, where there is none
abbrev pub last_or : Argument → List Argument → Argument
last_or a [] = a
last_or a (b ∷ ar) = last_or b ar

abbrev pub no_argument : Argument
no_argument = record { code = code 0; qualification = None; next = 0 }

last-or : (a : Argument) (ar : List Argument) → last_argument (a ∷ ar) ≡ last_or a ar
last-or a [] = refl
last-or a (b ∷ ar) = last-or b ar

pub last-first : (ar : List Argument) → last_or no_argument ar ≡ last_argument ar
last-first [] = refl
last-first (a ∷ ar) = sym (last-or a ar)

-- the walk has come behind this argument
pub record Passed (cat list : Bytes) (a : Argument) : Type 0 where
  pub sound : (rest cat list a.code a.next).fault ≡ Blank
  pub same : last_or a (rest cat list a.code a.next).arguments ≡ last_argument (list_read cat list).arguments

module _ (cat list : Bytes) where
  pub passed_start : SoundList cat list → Passed cat list no_argument
  passed_start s = record {
    sound = ap (λ (l : ListRead). l.fault) (rest-whole cat list) ∙ s.read;
    same = ap (λ (l : ListRead). last_or no_argument l.arguments) (rest-whole cat list) ∙ last-first (list_read cat list).arguments;
  }

  module _ (a : Argument) where
    pub passed-end : length list ≤ a.next → Passed cat list a → a ≡ last_argument (list_read cat list).arguments
    passed-end h p = sym (ap (λ (l : ListRead). last_or a l.arguments) (rest_end cat list a.code a.next h)) ∙ p.same

    module _ (h : a.next < length list) (p : Passed cat list a) where
      pub passed-room : Room list a.next
      passed-room = (step cat list a.code a.next h p.sound).room

      pub passed-onward : a.next + 2 ≤ next_at cat list a.next
      passed-onward = (step cat list a.code a.next h p.sound).onward

      pub passed-next : {b : Argument} → b ≡ untested cat list a.next → Passed cat list b
      passed-next e = rw e (record {
        sound = step-fault cat list a.code a.next h p.sound;
        same = sym (ap (λ (l : ListRead). last_or a l.arguments) (step-rest cat list a.code a.next h p.sound)) ∙ p.same;
      })
