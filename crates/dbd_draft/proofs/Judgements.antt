-- R78: what becomes of a statement, by one law for each way through the code. Assumes nothing.
use mathlib.Core.Path.{◌≡◌, refl, ap, sym, ◌∙◌}
use mathlib.Core.Bool.{Bool, true, false, ◌&&◌, ◌||◌, not}
use mathlib.Core.Logic.{◌⊎◌, inl, inr}
use mathlib.Core.List.{[], ◌∷◌}
use Rattle.std.specs.Prelude.{Result, Ok, Err}
use Prim.Native.Nat.{ℕ, suc, ◌+◌, ◌-◌, ◌*◌, ◌<◌, ◌≤◌}
use native.Mathlib.Omega.{arith}
use lib.Dec.{ltb, eqb}
use lib.ListN.{length, take, drop, set, replicate, length-append, length-replicate, length-take, length-drop, get_or-append}
use lib.Pointwise.{pointwise}
use lib.Seq.{sets, length-sets, take_all}
use borrow.Author.Tests.{lt-ltb, le-ltb, eq-eqb, ne_eqb}
use Rattle.forest.specs.Good.{on, off, is}
use Rattle.terms.specs.Choice.{pick}
use Rattle.rules.specs.Block.{Bytes, byte, part, same_bytes}
use Rattle.rules.specs.Catalogue.{types, fields, good_span, good_type}
use Rattle.catalogue_check.specs.Levelled.{Ready, Next}
use Rattle.statements.specs.Text.{bytes_of}
use Rattle.statements.specs.Words.{filled}
use Rattle.statements.specs.Statement.{dbd, segm, field, no_parent}
use Rattle.statements.specs.Draft.{Draft, rows, place_of, has, own_names, with_type, with_field, begun, is_keyed}
use Rattle.statements.specs.Draft.{ruled_type, ruled_field, Taken, goes, bad, misplaced, twice, orphan, unruled, taken}
use Rattle.statements.proofs.Rows.{part-byte, rows_drop}
use Rattle.dbd_draft.specs.declared.Fault.{Fault}
use Rattle.dbd_draft.specs.Kept.{draft_of, Sound, Named, kind_of, Left}
use Rattle.dbd_draft.proofs.Writes.{made, kept-before, kept-behind}
use Rattle.dbd_draft.proofs.Drafts.{key_bytes, types_are, begun-not, begun-so, based}
use Rattle.dbd_draft.proofs.Sounds.{based-sound, type_entry, type_written, type-next, type-draft, type-sound}
use Rattle.dbd_draft.proofs.Sounds.{keyed-sound, field_written, field-draft, field-sound}
use Rattle.dbd_draft.proofs.Catalogues.{framed, keyed-is}
use Rattle.dbd_draft.proofs.Rulings.{field-full, type-ruled, type-low, with-key, field-ruled}

-- a refusal: the fault is the definition's, and no more is asked
module _ (b levels : Bytes) (t : Taken) where
  pub left-bad : (f : Fault) → t ≡ bad (kind_of f) → Left (Err f) b levels t
  left-bad f e = record { same = sym e; sound = tt }

-- a word with its spaces
pub filled-long : (w : Bytes) → length w ≤ 8 → length (filled w) ≡ 8
unfolding filled
filled-long w h = length-append w (replicate (8 - length w) 0x20) ∙ omega (arith, length-replicate {A = ℕ} (8 - length w) 0x20)

pub filled-first : (w : Bytes) → 0 < length w → byte (filled w) 0 ≡ byte w 0
unfolding filled
filled-first w h = get_or-append w (replicate (8 - length w) 0x20) 0 0 h

-- DBD
pub dbd-again : (b n : Bytes) → length b ≡ 1296 → (byte b 520 ≡ 0 → ⊥) → taken (draft_of b) (dbd n) ≡ bad misplaced
unfolding taken
dbd-again b n m h = rw (begun-so b m h)

pub dbd-first : (d : Draft) (n : Bytes) → begun d ≡ false
    → taken d (dbd n) ≡ goes (record { base = filled n; types = d.types; fields = d.fields; segment_names = d.segment_names; field_names = d.field_names })
unfolding taken
dbd-first d n h = rw h

module _ (b levels : Bytes) (s : Sound b levels) (w : Bytes) (n : Named w) where
  name-there : byte (sets b 520 (filled w)) 520 ≡ byte w 0
  name-there =
      let e : length (filled w) ≡ 8 = filled-long w n.few in
      let m : part (sets b 520 (filled w)) 520 (length (filled w)) ≡ filled w = made b 520 (filled w) (omega (arith, s.long)) in
      sym (part-byte (sets b 520 (filled w)) 520 (length (filled w)) 0 (omega arith)) ∙ ap (λ (t : Bytes). byte t 0) m ∙ filled-first w n.begun

  name-part : part (sets b 520 (filled w)) 520 8 ≡ filled w
  name-part =
      let e : length (filled w) ≡ 8 = filled-long w n.few in
      ap (part (sets b 520 (filled w)) 520) (sym e) ∙ made b 520 (filled w) (omega (arith, s.long))

  pub dbd-taken : (c : Bytes) → c ≡ sets b 520 (filled w) → byte b 520 ≡ 0 → Left (Ok tt) c levels (taken (draft_of b) (dbd w))
  unfolding types fields
  dbd-taken c z h =
      let e : length (filled w) ≡ 8 = filled-long w n.few in
      rw z
      (record {
        same =
            ap goes
            (based b (sets b 520 (filled w)) s.long (length-sets b 520 (filled w) ∙ s.long) s.few s.few_fields
            (kept-before (filled w) b 520 5 (omega arith)) (kept-before (filled w) b 520 6 (omega arith))
            (λ j l m. kept-before (filled w) b 520 j m) (λ j l m. kept-behind (filled w) b 520 j (omega arith))
            (filled w) name-part (λ y. omega (arith, name-there, n.some)))
            ∙ sym (dbd-first (draft_of b) w (begun-not b h));
        sound = based-sound b levels s (filled w) e (omega (arith, name-there, n.some));
      })

-- SEGM: the tests in their order
module _ (d : Draft) (n p : Bytes) (l : ℕ) where
  pub segm-misplaced : (not (begun d) || (same_bytes p no_parent && ltb 0 (length d.types))) ≡ true → taken d (segm n p l) ≡ bad misplaced
  unfolding taken
  segm-misplaced h = rw (taken, h)

  segm-twice : (not (begun d) || (same_bytes p no_parent && ltb 0 (length d.types))) ≡ false → has (filled n) d.segment_names ≡ true
      → taken d (segm n p l) ≡ bad twice
  unfolding taken
  segm-twice h g = rw (taken, h, g)

  segm-orphan : (not (begun d) || (same_bytes p no_parent && ltb 0 (length d.types))) ≡ false → has (filled n) d.segment_names ≡ false
      → (not (same_bytes p no_parent) && eqb (place_of (filled p) d.segment_names) 0) ≡ true → taken d (segm n p l) ≡ bad orphan
  unfolding taken
  segm-orphan h g f = rw (taken, h, g, f)

  segm-goes : (not (begun d) || (same_bytes p no_parent && ltb 0 (length d.types))) ≡ false → has (filled n) d.segment_names ≡ false
      → (not (same_bytes p no_parent) && eqb (place_of (filled p) d.segment_names) 0) ≡ false
      → taken d (segm n p l) ≡ ruled_type (with_type d (filled n) (place_of (filled p) d.segment_names) l)
  unfolding taken
  segm-goes h g f = rw (taken, h, g, f)

-- FIELD: the tests in their order
module _ (d : Draft) (n : Bytes) (k l s : ℕ) where
  pub field-misplaced : (eqb (length d.types) 0 || (ltb 0 k && is_keyed d)) ≡ true → taken d (field n k l s) ≡ bad misplaced
  unfolding taken
  field-misplaced h = rw (taken, h)

  field-twice : (eqb (length d.types) 0 || (ltb 0 k && is_keyed d)) ≡ false → has (filled n) (own_names (length d.types) d.fields d.field_names) ≡ true
      → taken d (field n k l s) ≡ bad twice
  unfolding taken
  field-twice h g = rw (taken, h, g)

  field-goes : (eqb (length d.types) 0 || (ltb 0 k && is_keyed d)) ≡ false → has (filled n) (own_names (length d.types) d.fields d.field_names) ≡ false
      → taken d (field n k l s) ≡ ruled_field (with_field d (filled n) k l s)
  unfolding taken
  field-goes h g = rw (taken, h, g)

-- entries of a tail that was lent
tail-rows : (w k : ℕ) (b : Bytes) (n : ℕ) → rows w (take (length b - k) (drop k b)) 0 n ≡ rows w b k n
tail-rows w k b n =
    let z : k + 0 ≡ k = omega arith in
    ap (λ (t : Bytes). rows w t 0 n) (take_all (length b - k) (drop k b) (omega (arith, length-drop k b)))
    ∙ rows_drop w k b 0 n ∙ ap (λ (i : ℕ). rows w b i n) z

pub tail-room : (b : Bytes) (k m : ℕ) → k + m ≤ length b → m ≤ length (take (length b - k) (drop k b))
tail-room b k m h = simp (length-take, length-drop) (omega arith)

-- where a name stands among the segments' names
pub place_is : (b f w : Bytes) (r : ℕ) → f ≡ filled w → r ≡ place_of f (rows 8 (take (length b - 528) (drop 528 b)) 0 (byte b 5))
    → r ≡ place_of (filled w) (draft_of b).segment_names
unfolding draft_of types
place_is b f w r e h = h ∙ rw (e, tail-rows 8 528 b (byte b 5))

-- whether a field of the last type has the name
pub own_is : (b f w : Bytes) (r : Bool) → f ≡ filled w
    → r ≡ has f (own_names (byte b 5) (rows 4 (take (length b - 264) (drop 264 b)) 0 (byte b 6)) (rows 8 (take (length b - 784) (drop 784 b)) 0 (byte b 6)))
    → r ≡ has (filled w) (own_names (length (draft_of b).types) (draft_of b).fields (draft_of b).field_names)
unfolding draft_of types fields
own_is b f w r e h =
    h ∙ rw (e, tail-rows 4 264 b (byte b 6), tail-rows 8 784 b (byte b 6))
    (ap (λ (t : ℕ). has (filled w) (own_names t (rows 4 b 264 (byte b 6)) (rows 8 b 784 (byte b 6)))) (sym (types_are b)))

-- `==` of slices is the rules' comparison
same-pointwise : (a b : Bytes) → pointwise eqb a b ≡ same_bytes a b
unfolding same_bytes
same-pointwise [] [] = refl
same-pointwise [] (y ∷ ys) = refl
same-pointwise (x ∷ xs) [] = refl
same-pointwise (x ∷ xs) (y ∷ ys) = elim (is (eqb x y)) [ on e ↦ rw (same_bytes, e) (same-pointwise xs ys) | off e ↦ rw (same_bytes, e) ]

pub same_word : (w v u : Bytes) (r : Bool) → r ≡ pointwise eqb w v → v ≡ u → r ≡ same_bytes w u
same_word w v u r e f = e ∙ same-pointwise w v ∙ ap (same_bytes w) f

-- two small laws of tests
and-not : (a b : Bool) → b ≡ false → (a && b) ≡ false
and-not true b h = h
and-not false b h = refl

and_left : (a b : Bool) → a ≡ false → (a && b) ≡ false
and_left a b h = rw h

module _ (b levels : Bytes) (s : Sound b levels) (n p : Bytes) (l : ℕ) where
  pub segm-early : byte b 520 ≡ 0 → taken (draft_of b) (segm n p l) ≡ bad misplaced
  segm-early h = segm-misplaced (draft_of b) n p l (rw (begun-not b h))

  -- the DBD was there; r says whether the parent's word is 0
  module _ (based : byte b 520 ≡ 0 → ⊥) (r : Bool) (root : r ≡ same_bytes p (0x30 ∷ [])) where
    root_is : same_bytes p no_parent ≡ r
    unfolding no_parent bytes_of
    root_is = sym root

    pub segm-second : r ≡ true → 0 < types b → taken (draft_of b) (segm n p l) ≡ bad misplaced
    segm-second e h =
        segm-misplaced (draft_of b) n p l (rw (begun-so b s.long based, root_is, e, types_are b, lt-ltb 0 (types b) h))

    -- a root is the first, or it is none
    first : (r && ltb 0 (types b)) ≡ false → (not (begun (draft_of b)) || (same_bytes p no_parent && ltb 0 (length (draft_of b).types))) ≡ false
    first f = rw (begun-so b s.long based, root_is, types_are b, f)

    module _ (f : (r && ltb 0 (types b)) ≡ false) (k : ℕ) (found : k ≡ place_of (filled n) (draft_of b).segment_names) where
      pub segm-known : (k ≡ 0 → ⊥) → taken (draft_of b) (segm n p l) ≡ bad twice
      unfolding has
      segm-known h = segm-twice (draft_of b) n p l (first f) (rw (← found) (lt-ltb 0 k (omega arith)))

      has-not : k ≡ 0 → has (filled n) (draft_of b).segment_names ≡ false
      unfolding has
      has-not h = rw (← found, h)

      module _ (new : k ≡ 0) (a : ℕ) (above : a ≡ place_of (filled p) (draft_of b).segment_names) where
        pub segm-alone : r ≡ false → a ≡ 0 → taken (draft_of b) (segm n p l) ≡ bad orphan
        segm-alone e h = segm-orphan (draft_of b) n p l (first f) (has-not new) (rw (root_is, e, ← above, h))

        pub segm-ruled : (not r && eqb a 0) ≡ false → taken (draft_of b) (segm n p l) ≡ ruled_type (with_type (draft_of b) (filled n) a l)
        segm-ruled h = segm-goes (draft_of b) n p l (first f) (has-not new) (rw (root_is, ← above) h) ∙ rw (← above)

-- what is left behind the root's test, and behind the parent's
pub root_is_first : (r : Bool) (t : ℕ) → (r ≡ true × (t ≤ 0)) ⊎ (r ≡ false) → (r && ltb 0 t) ≡ false
root_is_first r t (inl h) = and-not r (ltb 0 t) (le-ltb 0 t h.1)
root_is_first r t (inr h) = and_left r (ltb 0 t) h

pub parent_is_there : (r : Bool) (a : ℕ) → (r ≡ false × (a ≡ 0 → ⊥)) ⊎ (r ≡ true) → (not r && eqb a 0) ≡ false
parent_is_there r a (inl h) = and-not (not r) (eqb a 0) (ne_eqb a 0 h.1)
parent_is_there r a (inr h) = and_left (not r) (eqb a 0) (ap not h)

module _ (b levels : Bytes) (s : Sound b levels) (n : Bytes) (kind l start : ℕ) where
  pub field-none-yet : types b ≡ 0 → taken (draft_of b) (field n kind l start) ≡ bad misplaced
  field-none-yet h = field-misplaced (draft_of b) n kind l start (rw (types_are b, eq-eqb (types b) 0 h))

  -- there is a type; w is its number, as the code has it
  module _ (some : types b ≡ 0 → ⊥) (w : ℕ) (top : w ≡ types b) where
    pub field-second : (kind ≡ 0 → ⊥) → (byte b (8 * w + 2) ≡ 0 → ⊥) → taken (draft_of b) (field n kind l start) ≡ bad misplaced
    field-second k h =
        let g : 0 < byte b (8 * w + 2) = omega arith in
        let f : 0 < byte b (8 * types b + 2) = rw top at g in
        field-misplaced (draft_of b) n kind l start
        (rw (types_are b, ne_eqb (types b) 0 some, keyed-is b (framed b levels s), lt-ltb 0 kind (omega arith), lt-ltb 0 (byte b (8 * types b + 2)) f))

    -- and its key is not a second one
    placed : (ltb 0 kind && ltb 0 (byte b (8 * w + 2))) ≡ false → (eqb (length (draft_of b).types) 0 || (ltb 0 kind && is_keyed (draft_of b))) ≡ false
    placed h =
        let g : (ltb 0 kind && ltb 0 (byte b (8 * types b + 2))) ≡ false = rw top at h in
        rw (types_are b, ne_eqb (types b) 0 some, keyed-is b (framed b levels s), g)

    module _ (key : (ltb 0 kind && ltb 0 (byte b (8 * w + 2))) ≡ false) (r : Bool)
        (own : r ≡ has (filled n) (own_names (length (draft_of b).types) (draft_of b).fields (draft_of b).field_names)) where
      pub field-known : r ≡ true → taken (draft_of b) (field n kind l start) ≡ bad twice
      field-known h = field-twice (draft_of b) n kind l start (placed key) (sym own ∙ h)

      module _ (new : r ≡ false) where
        field-new : taken (draft_of b) (field n kind l start) ≡ ruled_field (with_field (draft_of b) (filled n) kind l start)
        field-new = field-goes (draft_of b) n kind l start (placed key) (sym own ∙ new)

        pub field-many : 64 ≤ fields b → taken (draft_of b) (field n kind l start) ≡ bad unruled
        field-many h = field-new ∙ field-full b (filled n) kind l start h

        module _ (short : length n ≤ 8) (room : fields b < 64) (g : Bool) (spans : g ≡ good_span start l (byte b (8 * w + 1))) where
          ruled : taken (draft_of b) (field n kind l start) ≡ pick g (goes (with_field (draft_of b) (filled n) kind l start)) (bad unruled)
          ruled =
              let e : g ≡ good_span start l (byte b (8 * types b + 1)) = spans ∙ rw top in
              field-new ∙ field-ruled b levels s (filled n) kind l start (filled-long n short) room (omega arith)
              ∙ ap (λ (t : Bool). pick t (goes (with_field (draft_of b) (filled n) kind l start)) (bad unruled)) (sym e)

          pub field-bad : g ≡ false → taken (draft_of b) (field n kind l start) ≡ bad unruled
          field-bad h = ruled ∙ rw h

          pub field-good : g ≡ true → taken (draft_of b) (field n kind l start) ≡ goes (with_field (draft_of b) (filled n) kind l start)
          field-good h = ruled ∙ rw h

-- what is left behind the key's test
pub key_is_first : (kind k : ℕ) → ((kind ≡ 0 → ⊥) × (k ≡ 0)) ⊎ (kind ≡ 0) → (ltb 0 kind && ltb 0 k) ≡ false
key_is_first kind k (inl h) = and-not (ltb 0 kind) (ltb 0 k) (le-ltb 0 k (omega (arith, h.1)))
key_is_first kind k (inr h) = and_left (ltb 0 kind) (ltb 0 k) (le-ltb 0 kind (omega (arith, h)))

-- what the rules say: too many, not good, good
module _ (b levels : Bytes) (s : Sound b levels) (name : Bytes) (above long : ℕ) (named : length name ≡ 8) (room : types b < 32) where
  -- the array as the code has written it, and what is asked before the type is judged
  module _ (w : ℕ) (x y : Bytes) (top : w ≡ types b) (first : x ≡ sets b (8 + 8 * w) (type_entry above long))
      (second : y ≡ sets x (520 + (8 + 8 * w)) name) where
    type-array : y ≡ type_written b name above long
    type-array = second ∙ rw (first, top)

    module _ (k : ℕ) (e : k ≡ types b + 1) where
      pub type-asks : Next y levels k
      type-asks = rw (type-array, e) (type-next b levels s name above long named room)

      pub type-bad : good_type y k ≡ false → ruled_type (with_type (draft_of b) name above long) ≡ bad unruled
      type-bad g =
          let f : good_type (type_written b name above long) k ≡ false = rw type-array at g in
          type-ruled b levels s name above long named room k (omega arith) ∙ rw f

      pub type-good : good_type y k ≡ true → (row : Bytes) → Ready y row k → 0 < byte b 520
          → Left (Ok tt) (set y 5 k) row (ruled_type (with_type (draft_of b) name above long))
      type-good g row r o =
          let z : k ≡ suc (types b) = omega arith in
          let f : good_type (type_written b name above long) k ≡ true = rw type-array at g in
          let q : Ready (type_written b name above long) row k = rw type-array at r in
          rw type-array
          (record {
            same = ap goes (type-draft b levels s name above long named room k z) ∙ sym (type-ruled b levels s name above long named room k z ∙ rw f);
            sound = type-sound b levels s name above long named room k z row o q (type-low b levels s name above long named room k z f);
          })

-- the arrays as the code has written them: with a key, and with a field
pub key-kept : (b levels : Bytes) → Sound b levels → 0 < types b → (kind start long w : ℕ) (y : Bytes) → w ≡ types b
    → y ≡ sets b (8 * w + 2) (key_bytes kind start long)
    → Sound y levels × (y ≡ sets b (8 * types b + 2) (key_bytes kind start long))
key-kept b levels s o kind start long w y e h =
    let z : y ≡ sets b (8 * types b + 2) (key_bytes kind start long) = h ∙ rw e in
    (rw z (keyed-sound b levels s kind start long o), z)

module _ (b levels : Bytes) (s : Sound b levels) (name : Bytes) (long start : ℕ) (named : length name ≡ 8) (room : fields b < 64)
    (w v : ℕ) (x y : Bytes) (one : w ≡ fields b) (two : v ≡ fields b) (first : x ≡ sets b (264 + 4 * w) (types b ∷ start ∷ long ∷ 0 ∷ []))
    (second : y ≡ sets x (784 + 8 * v) name) where
  field-array : y ≡ field_written b name long start
  field-array = second ∙ rw (first, one, two)

  pub field-kept : (k : ℕ) → k ≡ fields b + 1 → Sound (set y 6 k) levels × (draft_of (set y 6 k) ≡ with_field (draft_of b) name 0 long start)
  field-kept k e =
      let z : k ≡ suc (fields b) = omega arith in
      rw field-array (field-sound b levels s name long start named room k z, field-draft b levels s name long start named room k z)

-- the array before the field is added: with the field's key, or as it was
pub record Prepared (b levels name : Bytes) (kind long start : ℕ) (c : Bytes) : Type 0 where
  pub sound : Sound c levels
  pub many : fields c ≡ fields b
  pub same : with_field (draft_of c) name 0 long start ≡ with_field (draft_of b) name kind long start

module _ (b levels : Bytes) (s : Sound b levels) (name : Bytes) (kind long start : ℕ) where
  pub prepared-key : (types b ≡ 0 → ⊥) → (kind ≡ 0 → ⊥) → (c d : Bytes) → d ≡ c → Sound c levels → c ≡ sets b (8 * types b + 2) (key_bytes kind start long)
      → Prepared b levels name kind long start d
  unfolding fields
  prepared-key some k c d e g z =
      rw e
      (record {
        sound = g;
        many = rw z (kept-before (key_bytes kind start long) b (8 * types b + 2) 6 (omega arith));
        same = rw z (with-key b name kind long start s.long (omega arith) s.few s.few_fields (ne_eqb kind 0 k));
      })

  pub prepared-none : kind ≡ 0 → (d : Bytes) → d ≡ b → Prepared b levels name kind long start d
  prepared-none k d e = rw (e, k) (record { sound = s; many = refl; same = refl })

  module _ (d : Bytes) (p : Prepared b levels name kind long start d) where
    pub prepared-room : fields b < 64 → Sound d levels × (fields d < 64)
    prepared-room h = (p.sound, omega (arith, p.many))

    -- and after it
    pub field-left : (c w : Bytes) (t : Taken) → name ≡ filled w → t ≡ goes (with_field (draft_of b) (filled w) kind long start)
        → Sound c levels × (draft_of c ≡ with_field (draft_of d) name 0 long start) → Left (Ok tt) c levels t
    field-left c w t e g h = record {
      same = ap goes (h.1 ∙ p.same ∙ ap (λ (x : Bytes). with_field (draft_of b) x kind long start) e) ∙ sym g;
      sound = h.0;
    }

-- what the callee left is what the definition asks
pub left_as : (r : Result (Unit {0}) Fault) (b levels : Bytes) (t u : Taken) → Left r b levels t → u ≡ t → Left r b levels u
left_as r b levels t u l e = rw e l
