-- Every draft that the reader reaches is sound, by its statements and lines; what the reader gives is such a draft with a type. Assumes nothing.
use Rattle.std.specs.Prelude.{None, Some, Option}
use mathlib.Core.Path.{◌≡◌, refl, ap, sym, ◌∙◌, subst}
use mathlib.Core.Bool.{Bool, true, false, ◌&&◌, ◌||◌, not}
use mathlib.Core.List.{List, [], ◌∷◌}
use Prim.Native.Nat.{ℕ, suc, ◌<◌, ◌≤◌}
use native.Mathlib.Omega.{arith}
use lib.Dec.{ltb, leb, eqb}
use lib.ListN.{length}
use borrow.Author.Tests.{ltb-true, leb-true, eqb-false}
use Rattle.forest.specs.Forest.{inside, outside, side}
use Rattle.forest.specs.Good.{on, off, is}
use Rattle.rules.specs.Block.{Bytes, same_bytes}
use Rattle.rules.specs.Catalogue.{good_type, good_field}
use Rattle.rules.proofs.Joined.{two}
use Rattle.statements.specs.Words.{Token, is_name, filled, tokens}
use Rattle.statements.specs.Lines.{lines_of}
use Rattle.statements.specs.Statement.{Statement, dbd, segm, field, no_parent, statement_of}
use Rattle.statements.specs.Draft.{Draft, blank, catalogue_of, place_of, has, own_names, with_type, with_field}
use Rattle.statements.specs.Draft.{Fault, misplaced, twice, orphan, unruled, fault_number}
use Rattle.statements.specs.Draft.{Taken, goes, bad, ruled_type, ruled_field, begun, is_keyed, taken, taken_if, line_taken}
use Rattle.statements.specs.Dbd.{Reading, refused, given, ended, read_from, dbd_read}
use Rattle.statements.proofs.Words.{clash}
use Rattle.statements.proofs.Named.{length-filled, good-filled}
use Rattle.dbd_laws.proofs.Words.{Named, statement-named}
use Rattle.dbd_laws.proofs.Sound.{Sound, sound-blank, sound-base}
use Rattle.dbd_laws.proofs.TypeMore.{sound-type}
use Rattle.dbd_laws.proofs.FieldMore.{sound-field}

-- a fault is no draft
no-draft : (t : Taken) (k : Fault) (e : Draft) → t ≡ bad k → t ≡ goes e → Sound e
no-draft t k e a b = let z : ◌≡◌ {A = ℕ} 0 1 = cc in absurd (omega arith)

same-draft : (d e : Draft) → goes d ≡ goes e → d ≡ e
same-draft d e h = cc

no_more : (k : Fault) (e : Draft) → bad k ≡ goes e → false ≡ true
no_more k e h = let z : ◌≡◌ {A = ℕ} 0 1 = cc in absurd (omega arith)

-- what was left to the rules
ruled-type : (d e : Draft) → ruled_type d ≡ goes e → (length d.types ≤ 32) × (good_type (catalogue_of d) (length d.types) ≡ true) × (d ≡ e)
unfolding ruled_type
ruled-type d e h = elim (is (leb (length d.types) 32 && good_type (catalogue_of d) (length d.types))) [
  | on t ↦
      let p = two (leb (length d.types) 32) (good_type (catalogue_of d) (length d.types)) t in
      (leb-true (length d.types) 32 p.0, p.1, same-draft d e (rw t at h))
  | off t ↦ clash (no_more unruled e (rw t at h))
]

ruled-field : (d e : Draft) → ruled_field d ≡ goes e → (length d.fields ≤ 64) × (good_field (catalogue_of d) (length d.fields) ≡ true) × (d ≡ e)
unfolding ruled_field
ruled-field d e h = elim (is (leb (length d.fields) 64 && good_field (catalogue_of d) (length d.fields))) [
  | on t ↦
      let p = two (leb (length d.fields) 64) (good_field (catalogue_of d) (length d.fields)) t in
      (leb-true (length d.fields) 64 p.0, p.1, same-draft d e (rw t at h))
  | off t ↦ clash (no_more unruled e (rw t at h))
]

not-or : (a b : Bool) → (not a || b) ≡ false → a ≡ true
not-or true b e = refl
not-or false b e = sym e

or-none : (a b : Bool) → (a || b) ≡ false → a ≡ false
or-none true b e = e
or-none false b e = refl

name-some : (n : Bytes) → is_name n ≡ true → 0 < length (filled n)
name-some n h = omega (arith, length-filled n h)

-- DBD
dbd-again : (d : Draft) (n : Bytes) → begun d ≡ true → taken d (dbd n) ≡ bad misplaced
unfolding taken
dbd-again d n h = rw h

dbd-first : (d : Draft) (n : Bytes) → begun d ≡ false
    → taken d (dbd n) ≡ goes (record { base = filled n; types = d.types; fields = d.fields; segment_names = d.segment_names; field_names = d.field_names })
unfolding taken
dbd-first d n h = rw h

dbd-sound : (d e : Draft) (n : Bytes) → Sound d → is_name n ≡ true → taken d (dbd n) ≡ goes e → Sound e
dbd-sound d e n s h t = elim (is (begun d)) [
  | on b ↦ no-draft (taken d (dbd n)) misplaced e (dbd-again d n b) t
  | off b ↦ subst Sound (same-draft _ e (sym (dbd-first d n b) ∙ t)) (sound-base d (filled n) (good-filled n h) (name-some n h) s)
]

-- SEGM
module _ (d : Draft) (n p : Bytes) (l : ℕ) where
  abbrev wrong : Bool
  wrong = not (begun d) || (same_bytes p no_parent && ltb 0 (length d.types))

  abbrev above : ℕ
  above = place_of (filled p) d.segment_names

  segm-misplaced : wrong ≡ true → taken d (segm n p l) ≡ bad misplaced
  unfolding taken
  segm-misplaced a = rw (taken, a)

  segm-twice : wrong ≡ false → has (filled n) d.segment_names ≡ true → taken d (segm n p l) ≡ bad twice
  unfolding taken
  segm-twice a b = rw (taken, a, b)

  segm-orphan : wrong ≡ false → has (filled n) d.segment_names ≡ false → (not (same_bytes p no_parent) && eqb above 0) ≡ true
      → taken d (segm n p l) ≡ bad orphan
  unfolding taken
  segm-orphan a b c = rw (taken, a, b, c)

  segm-ruled : wrong ≡ false → has (filled n) d.segment_names ≡ false → (not (same_bytes p no_parent) && eqb above 0) ≡ false
      → taken d (segm n p l) ≡ ruled_type (with_type d (filled n) above l)
  unfolding taken
  segm-ruled a b c = rw (taken, a, b, c)

  base-some : wrong ≡ false → 0 < length d.base
  unfolding begun
  base-some a = ltb-true 0 (length d.base) (not-or (ltb 0 (length d.base)) (same_bytes p no_parent && ltb 0 (length d.types)) a)

  segm-sound : (e : Draft) → Sound d → is_name n ≡ true → taken d (segm n p l) ≡ goes e → Sound e
  segm-sound e s h t = elim (is wrong) [
    | on a ↦ no-draft (taken d (segm n p l)) misplaced e (segm-misplaced a) t
    | off a ↦ elim (is (has (filled n) d.segment_names)) [
      | on b ↦ no-draft (taken d (segm n p l)) twice e (segm-twice a b) t
      | off b ↦ elim (is (not (same_bytes p no_parent) && eqb above 0)) [
        | on c ↦ no-draft (taken d (segm n p l)) orphan e (segm-orphan a b c) t
        | off c ↦
            let r = ruled-type (with_type d (filled n) above l) e (sym (segm-ruled a b c) ∙ t) in
            subst Sound r.2 (sound-type d (filled n) above l s (good-filled n h) (base-some a) b r.0 r.1)
      ]
    ]
  ]

-- FIELD
module _ (d : Draft) (n : Bytes) (k l s : ℕ) where
  abbrev early : Bool
  early = eqb (length d.types) 0 || (ltb 0 k && is_keyed d)

  abbrev own : List Bytes
  own = own_names (length d.types) d.fields d.field_names

  field-misplaced : early ≡ true → taken d (field n k l s) ≡ bad misplaced
  unfolding taken
  field-misplaced a = rw (taken, a)

  field-twice : early ≡ false → has (filled n) own ≡ true → taken d (field n k l s) ≡ bad twice
  unfolding taken
  field-twice a b = rw (taken, a, b)

  field-ruled : early ≡ false → has (filled n) own ≡ false → taken d (field n k l s) ≡ ruled_field (with_field d (filled n) k l s)
  unfolding taken
  field-ruled a b = rw (taken, a, b)

  type-some : early ≡ false → 0 < length d.types
  type-some a = elim (side 0 (length d.types)) [
    | inside h ↦ h
    | outside h ↦ absurd (eqb-false (length d.types) 0 (or-none (eqb (length d.types) 0) (ltb 0 k && is_keyed d) a) (omega arith))
  ]

  field-sound : (e : Draft) → Sound d → is_name n ≡ true → k ≤ 2 → taken d (field n k l s) ≡ goes e → Sound e
  field-sound e w h m t = elim (is early) [
    | on a ↦ no-draft (taken d (field n k l s)) misplaced e (field-misplaced a) t
    | off a ↦ elim (is (has (filled n) own)) [
      | on b ↦ no-draft (taken d (field n k l s)) twice e (field-twice a b) t
      | off b ↦
          let r = ruled-field (with_field d (filled n) k l s) e (sym (field-ruled a b) ∙ t) in
          subst Sound r.2 (sound-field d w (filled n) l s (type-some a) (good-filled n h) b k m r.0 r.1)
    ]
  ]

-- one statement
pub taken-sound : (d e : Draft) (s : Statement) → Sound d → Named s → taken d s ≡ goes e → Sound e
taken-sound d e (dbd n) w h t = dbd-sound d e n w h t
taken-sound d e (segm n p l) w h t = segm-sound d n p l e w h.0 t
taken-sound d e (field n k l s) w h t = field-sound d n k l s e w h.0 h.1 t

-- one line
line-none : (d : Draft) (l : Bytes) → tokens l ≡ [] → line_taken d l ≡ goes d
unfolding line_taken
line-none d l h = rw (line_taken, h)

line-some : (d : Draft) (l : Bytes) (t : Token) (ts : List Token) → tokens l ≡ t ∷ ts → line_taken d l ≡ taken_if d (statement_of (t ∷ ts))
unfolding line_taken
line-some d l t ts h = rw (line_taken, h)

if-sound : (d e : Draft) (ts : List Token) (o : Option Statement) → statement_of ts ≡ o → Sound d → taken_if d o ≡ goes e → Sound e
unfolding taken_if
if-sound d e ts None h w t = no-draft (bad misplaced) misplaced e refl t
if-sound d e ts (Some s) h w t = taken-sound d e s w (statement-named ts s h) t

by-tokens : (d e : Draft) (l : Bytes) (ts : List Token) → tokens l ≡ ts → Sound d → line_taken d l ≡ goes e → Sound e
by-tokens d e l [] h w t = subst Sound (same-draft d e (sym (line-none d l h) ∙ t)) w
by-tokens d e l (x ∷ ts) h w t = if-sound d e (x ∷ ts) (statement_of (x ∷ ts)) refl w (sym (line-some d l x ts h) ∙ t)

pub line-sound : (d e : Draft) (l : Bytes) → Sound d → line_taken d l ≡ goes e → Sound e
line-sound d e l w t = by-tokens d e l (tokens l) refl w t

-- all lines: what is given is a sound draft with a type
pub record Reached (r : Reading) : Type 0 where
  pub draft : Draft
  pub sound : Sound draft
  pub some-type : 0 < length draft.types
  pub is-given : r ≡ given draft

fault-some : (k : Fault) → fault_number k ≡ 0 → ⊥
unfolding fault_number
fault-some misplaced e = omega arith
fault-some twice e = omega arith
fault-some orphan e = omega arith
fault-some unruled e = omega arith

refused-some : (k : Fault) (n : ℕ) → (refused k n).fault ≡ 0 → ⊥
unfolding refused
refused-some k n e = fault-some k e

ended-none : (d : Draft) (n : ℕ) → eqb (length d.types) 0 ≡ true → ended d n ≡ refused misplaced n
unfolding ended
ended-none d n h = rw h

ended_some : (d : Draft) (n : ℕ) → eqb (length d.types) 0 ≡ false → ended d n ≡ given d
unfolding ended
ended_some d n h = rw h

types-some : (n : ℕ) → eqb n 0 ≡ false → 0 < n
types-some n h = elim (side 0 n) [ inside l ↦ l | outside l ↦ absurd (eqb-false n 0 h (omega arith)) ]

ended-reached : (d : Draft) (n : ℕ) → Sound d → (ended d n).fault ≡ 0 → Reached (ended d n)
ended-reached d n w f = elim (is (eqb (length d.types) 0)) [
  | on h ↦ absurd (refused-some misplaced n (sym (ap (λ (r : Reading). r.fault) (ended-none d n h)) ∙ f))
  | off h ↦ record { draft = d; sound = w; some-type = types-some (length d.types) h; is-given = ended_some d n h }
]

read-bad : (d : Draft) (n : ℕ) (l : Bytes) (ls : List Bytes) (k : Fault) → line_taken d l ≡ bad k → read_from d n (l ∷ ls) ≡ refused k n
unfolding read_from
read-bad d n l ls k h = rw (read_from, h)

read_goes : (d : Draft) (n : ℕ) (l : Bytes) (ls : List Bytes) (e : Draft) → line_taken d l ≡ goes e → read_from d n (l ∷ ls) ≡ read_from e (suc n) ls
unfolding read_from
read_goes d n l ls e h = rw (read_from, h)

step : (d : Draft) (n : ℕ) (l : Bytes) (ls : List Bytes) (t : Taken) → line_taken d l ≡ t → Sound d → (read_from d n (l ∷ ls)).fault ≡ 0
    → ((e : Draft) → Sound e → (read_from e (suc n) ls).fault ≡ 0 → Reached (read_from e (suc n) ls)) → Reached (read_from d n (l ∷ ls))
step d n l ls (bad k) h w f go = absurd (refused-some k n (sym (ap (λ (r : Reading). r.fault) (read-bad d n l ls k h)) ∙ f))
step d n l ls (goes e) h w f go =
    rw (read_goes d n l ls e h) (go e (line-sound d e l w h) (sym (ap (λ (r : Reading). r.fault) (read_goes d n l ls e h)) ∙ f))

read-end : (d : Draft) (n : ℕ) → read_from d n [] ≡ ended d n
unfolding read_from
read-end d n = refl

pub read-reached : (ls : List Bytes) (d : Draft) (n : ℕ) → Sound d → (read_from d n ls).fault ≡ 0 → Reached (read_from d n ls)
read-reached [] d n w f = rw (read-end d n) (ended-reached d n w (sym (ap (λ (r : Reading). r.fault) (read-end d n)) ∙ f))
read-reached (l ∷ ls) d n w f = step d n l ls (line_taken d l) refl w f (λ e v g. read-reached ls e (suc n) v g)

-- the law
pub text-reached : (text : Bytes) → (dbd_read text).fault ≡ 0 → Reached (dbd_read text)
unfolding dbd_read
text-reached text f = read-reached (lines_of text) blank 1 sound-blank f
