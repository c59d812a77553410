-- Rows of entries, one for each type code: the levels marked from the last type up, then each argument of one list and of the other. Assumes nothing.
use mathlib.Core.Path.{◌≡◌, refl, ap, sym, ◌∙◌}
use mathlib.Core.Bool.{Bool, true, false, ◌||◌}
use mathlib.Core.List.{List, ◌∷◌, ◌++◌}
use Prim.Native.Nat.{ℕ, ◌<◌, ◌≤◌}
use native.Mathlib.Omega.{arith}
use lib.Dec.{eqb}
use lib.ListN.{length, set, length-set, replicate, get_or-replicate}
use lib.Seq.{get_or-set_same, get_or-set_other}
use borrow.Author.Tests.{eqb-true, eqb-false}
use Rattle.terms.specs.declared.TypeCode.{TypeCode}
use Rattle.terms.specs.declared.Argument.{Argument}
use Rattle.terms.specs.Choice.{pick}
use Rattle.terms.specs.Names.{code}
use Rattle.forest.specs.Good.{on, off, is}
use Rattle.forest.specs.Numbers.{is_in}
use Rattle.forest.specs.Types as Types
use Rattle.rules.specs.Block.{Bytes, byte}
use Rattle.rules.specs.Catalogue.{types, parent_of, lineage, good_catalogue}
use Rattle.rules.specs.Arguments.{list_read}
use Rattle.catalogue.proofs.Hierarchy.{type-range, header-facts, parent-before, lineage-up}
use Rattle.arguments.specs.Sound.{SoundList, next_at, untested, wanted_of}
use Rattle.arguments.specs.Asked.{Pair, Row, marked, above_entry, set_once, entry_of}
use Rattle.arguments.proofs.Walk.{Walked, left, walked_start, left-start, left_end, walked-type, walked_next, left-next}
use Rattle.arguments.proofs.Placed.{placed_at, wanted-placed, pair-wanted}
use Rattle.arguments.proofs.Once.{marked_other, once-end, once-here, once-kept, once-passed, once-joined}

-- the climb has come to type u, and has the types from u up still to mark
pub record Climbing (cat : Bytes) (t : TypeCode) (row : Bytes) (u : ℕ) : Type 0 where
  pub most : u ≤ types cat
  pub long : length row ≡ 33
  pub each : (x : ℕ) → x < 33 → pick (is_in x (lineage cat (code u))) 1 (byte row x) ≡ above_entry cat t x

-- a type marked twice is marked
same-pick : (b : Bool) (n : ℕ) → pick b n n ≡ n
same-pick true n = refl
same-pick false n = refl

module _ (cat : Bytes) (t : TypeCode) where
  -- a row of zeros, with all levels still to mark
  pub climb-start : t.0 ≤ types cat → {row : Bytes} → row ≡ replicate 33 0 → Climbing cat t row t.0
  unfolding above_entry
  climb-start h e = rw e (record { most = h; long = refl; each = λ x l. rw (get_or-replicate {A = ℕ} 33 x 0 0 l) })

  -- no type is above none
  pub climb-end : {row : Bytes} {u : ℕ} → u ≤ 0 → Climbing cat t row u → Row row (above_entry cat t)
  unfolding lineage Types.lineage Types.lineage_from
  climb-end {row} {u} h c =
      let z : u ≡ 0 = omega arith in
      let d : Climbing cat t row 0 = rw z at c in
      record { long = d.long; each = λ x l. d.each x l }

  module _ (g : good_catalogue cat ≡ true) {row : Bytes} {u : ℕ} (s : 0 < u) (c : Climbing cat t row u) where
    pub climb-few : u < 33
    climb-few = omega (arith, c.most, (header-facts cat g).types-most)

    pub climb-less : (parent_of cat (code u)).0 < u
    climb-less = parent-before cat g (code u) s c.most

    -- one type marked, since what is left of the lineage is its parent's
    pub climb-next : {p : TypeCode} → p ≡ parent_of cat (code u) → {i : ℕ} → i ≡ u → Climbing cat t (set row i 1) p.0
    climb-next e k =
        let n : length (set row u 1) ≡ 33 = length-set row u 1 ∙ c.long in
        let p : TypeCode = parent_of cat (code u) in
        rw (e, k) (record {
          most = omega (arith, climb-less, c.most);
          long = n;
          each = λ x l.
              let z : pick (eqb x u || is_in x (lineage cat p)) 1 (byte row x) ≡ above_entry cat t x = rw (lineage-up cat g (code u) s c.most) at (c.each x l) in
              elim (is (eqb x u)) [
                | on y ↦
                    let q : x ≡ u = eqb-true x u y in
                    rw (q, get_or-set_same row u 1 0 (omega (arith, c.long, climb-few)), same-pick (is_in u (lineage cat p)) 1) (rw (y, q) at z)
                | off y ↦ rw (get_or-set_other row u x 1 0 (eqb-false x u y)) (rw y at z)
              ];
        })

-- the walk has come to byte `at` of the list, and what it has before it makes the whole list's row of this one
pub record Marking (cat list : Bytes) (base : ℕ) (first row : Bytes) (at : ℕ) : Type 0 where
  pub walk : Walked cat list at
  pub long : length row ≡ 33
  pub each : (u : ℕ) → u < 33 → set_once base (left walk) u (byte row u) ≡ set_once base (list_read cat list).arguments u (byte first u)

module _ (cat list : Bytes) (base : ℕ) (first : Bytes) where
  -- the whole list is before the walk
  pub marking-start : SoundList cat list → length first ≡ 33 → Marking cat list base first first 0
  marking-start s l = record { walk = walked_start cat list s; long = l; each = λ u h. rw (left-start cat list s) }

  module _ (row : Bytes) (at : ℕ) (m : Marking cat list base first row at) where
    -- and nothing is
    pub marking-end : length list ≤ at → Row row (λ u. set_once base (list_read cat list).arguments u (byte first u))
    marking-end h = record {
      long = m.long;
      each = λ u l. sym (once-end base u (byte row u)) ∙ sym (ap (λ (ar : List Argument). set_once base ar u (byte row u)) (left_end cat list at h m.walk)) ∙ m.each u l;
    }

    module _ (h : at < length list) {a : Argument} (e : a ≡ untested cat list at) where
      taken : (u : ℕ) → u < 33 → set_once base (untested cat list at ∷ left (walked_next cat list at h m.walk)) u (byte row u) ≡ set_once base (list_read cat list).arguments u (byte first u)
      taken u l = sym (ap (λ (ar : List Argument). set_once base ar u (byte row u)) (left-next cat list at h m.walk)) ∙ m.each u l

      module _ (g : good_catalogue cat ≡ true) (u : ℕ) (i : u ≡ a.code.0) where
        own : (untested cat list at).code.0 ≡ u
        own = sym (i ∙ ap (λ (b : Argument). b.code.0) e)

        -- a type's code is an index of the row
        pub marking-few : u < 33
        marking-few = omega (arith, own, (type-range cat (code (byte list at)) (walked-type cat list at h m.walk)).1, (header-facts cat g).types-most)

        -- the entry of the argument's type is set, and no other's
        pub marking-here : byte row u ≡ 1 → {v : ℕ} → v ≡ marked base a.qualification → Marking cat list base first (set row u v) a.next
        marking-here o w =
            let A : Argument = untested cat list at in
            let k : ℕ = marked base A.qualification in
            let n : Walked cat list (next_at cat list at) = walked_next cat list at h m.walk in
            rw (w, e) (record {
              walk = n;
              long = length-set row u k ∙ m.long;
              each = λ x l. elim (is (eqb x u)) [
                | on z ↦
                    let q : x ≡ u = eqb-true x u z in
                    rw (q, get_or-set_same row u k 0 (omega (arith, m.long, marking-few)))
                    (once-here base u (byte row u) A (left n) own o (marked_other list base A.qualification (placed_at list at)) ∙ taken u marking-few)
                | off z ↦
                    rw (get_or-set_other row u x k 0 (eqb-false x u z))
                    (once-passed base x (byte row x) A (left n) (λ q. eqb-false x u z (sym q ∙ own)) ∙ taken x l)
              ];
            })

        -- it is no level, or another argument has set it
        pub marking-kept : (byte row u ≡ 1 → ⊥) → Marking cat list base first row a.next
        marking-kept o =
            let A : Argument = untested cat list at in
            let n : Walked cat list (next_at cat list at) = walked_next cat list at h m.walk in
            rw e (record {
              walk = n;
              long = m.long;
              each = λ x l. elim (is (eqb x u)) [
                | on z ↦ (let q : x ≡ u = eqb-true x u z in rw q (once-kept base u (byte row u) A (left n) o ∙ taken u marking-few))
                | off z ↦ once-passed base x (byte row x) A (left n) (λ q. eqb-false x u z (sym q ∙ own)) ∙ taken x l
              ];
            })

-- LAW: the levels, then the first list, then the second, are the entries of the two as one
module _ (cat one two : Bytes) (t : TypeCode) (p : Pair cat one two) where
  -- no level stays 0, for neither list sets what is not 1; a level is set as `once-joined` says
  entry-joined : (u : ℕ) → set_once (length one) (list_read cat two).arguments u (set_once 0 (list_read cat one).arguments u (above_entry cat t u)) ≡ entry_of cat (one ++ two) t u
  unfolding set_once above_entry entry_of
  entry-joined u = elim (is (is_in u (lineage cat t))) [
    | on e ↦ rw (e, pair-wanted cat one two (code u) p)
        (once-joined one (length one) (wanted_of (list_read cat one).arguments (code u)) (wanted_of (list_read cat two).arguments (code u)) (wanted-placed cat one (code u) p.first))
    | off e ↦ rw e
  ]

  pub row-joined : {r s w : Bytes} → Row r (above_entry cat t) → Row s (λ u. set_once 0 (list_read cat one).arguments u (byte r u))
      → Row w (λ u. set_once (length one) (list_read cat two).arguments u (byte s u)) → Row w (entry_of cat (one ++ two) t)
  row-joined {r} {s} a b c = record {
    long = c.long;
    each = λ u l. c.each u l
        ∙ ap (set_once (length one) (list_read cat two).arguments u) (b.each u l ∙ ap (set_once 0 (list_read cat one).arguments u) (a.each u l))
        ∙ entry-joined u;
  }
