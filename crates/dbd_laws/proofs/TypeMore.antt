-- One type more keeps a draft sound. Assumes nothing.
use mathlib.Core.Path.{◌≡◌, refl, ap, sym}
use mathlib.Core.Bool.{true, false}
use mathlib.Core.List.{List, [], ◌∷◌, ◌++◌}
use Prim.Native.Nat.{ℕ, suc, ◌-◌, ◌<◌, ◌≤◌}
use native.Mathlib.Omega.{arith}
use lib.ListN.{length, get_or, length-append, get_or-append}
use lib.Seq.{get_or-append_seam}
use Rattle.forest.specs.Forest.{inside, outside, side}
use Rattle.rules.specs.Block.{Bytes, byte}
use Rattle.rules.specs.Catalogue.{good_type}
use Rattle.statements.specs.Draft.{Draft, catalogue_of, has, with_type}
use Rattle.statements.specs.Dbd.{good_name}
use Rattle.statements.proofs.Joined.{Wide, all_snoc, all-mono}
use Rattle.dbd_laws.proofs.Apart.{distinct_snoc}
use Rattle.dbd_laws.proofs.Sound.{Fits, Listed, Sound, goes_on}

-- the fields of the types before
fits_more : (ts : List Bytes) (x f : Bytes) → Fits ts f → Fits (ts ++ (x ∷ [])) f
fits_more ts x f h =
    let e : get_or (ts ++ (x ∷ [])) (byte f 0 - 1) [] ≡ get_or ts (byte f 0 - 1) [] =
    get_or-append ts (x ∷ []) [] (byte f 0 - 1) (omega (arith, h.least, h.most)) in
    record {
      least = h.least;
      most = omega (arith, length-append ts (x ∷ []), h.most);
      span = rw e h.span;
      plain = h.plain;
    }

module _ (d : Draft) (n : Bytes) (p l : ℕ) (s : Sound d) where
  abbrev new : Bytes
  new = p ∷ l ∷ 0 ∷ 0 ∷ 0 ∷ 0 ∷ 0 ∷ 0 ∷ []

  abbrev ts : List Bytes
  ts = d.types

  abbrev next : Draft
  next = record { base = d.base; types = ts ++ (new ∷ []); fields = d.fields; segment_names = d.segment_names ++ (n ∷ []); field_names = d.field_names }

  long : length (ts ++ (new ∷ [])) ≡ suc (length ts)
  long = omega (arith, length-append ts (new ∷ []))

  wide : Wide 8 (ts ++ (new ∷ []))
  wide = all_snoc (λ x. length x ≡ 8) ts new s.wide-types refl

  keys : (i : ℕ) → i < length (ts ++ (new ∷ [])) → 0 < byte (get_or (ts ++ (new ∷ [])) i []) 2
      → Listed d.fields (suc i) (byte (get_or (ts ++ (new ∷ [])) i []) 3) (byte (get_or (ts ++ (new ∷ [])) i []) 4)
  keys i m = elim (side i (length ts)) [
    | inside h ↦ rw (get_or-append ts (new ∷ []) [] i h) (s.keyed i h)
    | outside h ↦
        let z : i ≡ length ts = omega (arith, long) in
        let e : get_or (ts ++ (new ∷ [])) i [] ≡ new = rw z (get_or-append_seam ts new [] []) in
        λ q. absurd (omega (arith, ap (λ (x : Bytes). byte x 2) e))
  ]

  module _ (few : length (ts ++ (new ∷ [])) ≤ 32) (good : good_type (catalogue_of next) (length (ts ++ (new ∷ []))) ≡ true) where
    every-type : (k : ℕ) → 1 ≤ k → k ≤ length (ts ++ (new ∷ [])) → good_type (catalogue_of next) k ≡ true
    every-type k a b = elim (side (length ts) k) [
      | inside h ↦ (let z : k ≡ length (ts ++ (new ∷ [])) = omega (arith, long) in rw z good)
      | outside h ↦ goes_on d next s.wide-types wide k h b (λ i m. sym (get_or-append ts (new ∷ []) [] i (omega arith)))
          (λ u o m. s.each-type u o (omega arith)) a
    ]

    pub sound-next : good_name n ≡ true → 0 < length d.base → has n d.segment_names ≡ false → Sound next
    sound-next named begun fresh = record {
      based = s.based;
      begins = λ m. begun;
      few-types = few;
      few-fields = s.few-fields;
      all_named = omega (arith, long, length-append d.segment_names (n ∷ []), s.all_named);
      each-named = s.each-named;
      wide-types = wide;
      wide-fields = s.wide-fields;
      plain-types = all_snoc (λ e. byte e 7 ≡ 0) ts new s.plain-types refl;
      good-segments = all_snoc (λ x. good_name x ≡ true) d.segment_names n s.good-segments named;
      good-fields = s.good-fields;
      apart-segments = distinct_snoc d.segment_names n s.apart-segments fresh;
      apart-fields = s.apart-fields;
      each-type = every-type;
      each-field = all-mono (Fits ts) (Fits (ts ++ (new ∷ []))) (fits_more ts new) d.fields s.each-field;
      rising = s.rising;
      keyed = keys;
    }

-- the law, for the draft that a SEGM makes
pub sound-type : (d : Draft) (n : Bytes) (p l : ℕ) → Sound d → good_name n ≡ true → 0 < length d.base → has n d.segment_names ≡ false
    → length (with_type d n p l).types ≤ 32 → good_type (catalogue_of (with_type d n p l)) (length (with_type d n p l).types) ≡ true → Sound (with_type d n p l)
unfolding with_type
sound-type d n p l s named begun fresh few good = sound-next d n p l s few good named begun fresh
