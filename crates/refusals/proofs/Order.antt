-- The one list of refusals, as each kind of call meets it. Assumes nothing.
use mathlib.Core.Path.{◌≡◌, ap, sym, ◌∙◌}
use mathlib.Core.Bool.{true, or-false}
use Prim.Native.Nat.{ℕ, ◌<◌, ◌≤◌}
use native.Mathlib.Omega.{arith}
use lib.Dec.{eqb}
use lib.ListN.{length}
use borrow.Author.Tests.{le-leb, lt-leb, ne_eqb, eqb-true, eqb-false}
use Rattle.terms.specs.declared.Position.{Position}
use Rattle.terms.specs.declared.Status.{Status}
use Rattle.terms.specs.declared.Status.TheVariants.{AD}
use Rattle.std.specs.Prelude.{Ok, Err}
use Rattle.terms.specs.Statuses.{number, verdict}
use Rattle.terms.proofs.Verdict.{verdict-ok, verdict-err}
use Rattle.forest.specs.Good.{is_nil, on, off, is}
use Rattle.forest.specs.Forest.{inside, outside, side}
use Rattle.rules.specs.Block.{Bytes}
use Rattle.rules.specs.Catalogue.{good_catalogue}
use Rattle.rules.specs.Table.{cell_size}
use Rattle.rules.specs.Arguments.{ListRead, list_read}
use Rattle.rules.specs.Outcome.{misused}
use Rattle.arguments.specs.Sound.{SoundList}
use Rattle.arguments.proofs.Sound.{list-empty, list-filled}
use Rattle.refusals.specs.Refusals.{too_short, misused_get, misused_insert, misused_held}

-- a sound list has no argument exactly when it has no byte
nil-length : (cat list : Bytes) → SoundList cat list → is_nil (list_read cat list).arguments ≡ eqb (length list) 0
nil-length cat list s = elim (is (eqb (length list) 0)) [
  | on e ↦ ap (λ (l : ListRead). is_nil l.arguments) (list-empty cat list (eqb-true (length list) 0 e)) ∙ sym e
  | off e ↦ list-filled cat list s (let n : (length list ≡ 0) → ⊥ = eqb-false (length list) 0 e in omega arith) ∙ sym e
]

module _ (cat : Bytes) (pos : Position) (c : ℕ) (list area : Bytes) where
  pub number-none : c ≡ 0 → Err AD ≡ verdict (misused cat pos c list area)
  unfolding misused
  number-none e = rw e

  pub number-above : 9 < c → Err AD ≡ verdict (misused cat pos c list area)
  unfolding misused
  number-above l = rw (le-leb 1 c (omega arith), lt-leb c 9 l)

  pub list-faulty : (c ≡ 0 → ⊥) → c ≤ 9 → (f : Status) → verdict (list_read cat list).fault ≡ Err f → Err f ≡ verdict (misused cat pos c list area)
  unfolding misused
  list-faulty n l f e =
      let y = verdict-err (list_read cat list).fault e in
      rw (le-leb 1 c (omega arith), le-leb c 9 l, ne_eqb (number (list_read cat list).fault) 0 y.0) (sym e)

  module _ (size : ℕ) (sized : size ≡ cell_size cat) (s : SoundList cat list) where
    pub get-misused : (c ≡ 0 → ⊥) → c < 7 → misused_get size pos c area ≡ misused cat pos c list area
    unfolding misused misused_get too_short
    get-misused n l =
        rw (
          le-leb 1 c (omega arith),
          le-leb c 9 (omega arith),
          s.read,
          ne_eqb c 7 (λ e. omega arith),
          ne_eqb c 8 (λ e. omega arith),
          ne_eqb c 9 (λ e. omega arith),
          sized,
        )

    pub insert-misused : c ≡ 7 → misused_insert cat size c list area ≡ misused cat pos c list area
    unfolding misused misused_insert too_short
    insert-misused e = rw (e, s.read, nil-length cat list s, or-false, sized)

    pub held-misused : 7 < c → c ≤ 9 → misused_held size pos c list area ≡ misused cat pos c list area
    unfolding misused misused_held too_short
    held-misused l h = elim (side c 9) [
      | inside m ↦ (let e : c ≡ 8 = omega arith in rw (e, s.read, nil-length cat list s, sized))
      | outside m ↦ (let e : c ≡ 9 = omega arith in rw (e, s.read, nil-length cat list s))
    ]

pub sized-some : (cat : Bytes) (size : ℕ) → size ≡ cell_size cat → 1 ≤ size
unfolding cell_size
sized-some cat size e = omega arith

-- no fault was told
pub sound-list : (cat list : Bytes) → good_catalogue cat ≡ true → {u : Unit {0}} → verdict (list_read cat list).fault ≡ Ok u → SoundList cat list
sound-list cat list g e = record { catalogue = g; read = verdict-ok (list_read cat list).fault e }
