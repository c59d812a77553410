-- SEGM as the writer has it (R77, R78): its name is new, its parent's name is found at its place, and the type without its key is good. Assumes nothing.
use mathlib.Core.Path.{◌≡◌, refl, ap, sym, ◌∙◌}
use mathlib.Core.Bool.{Bool, true, false, ◌&&◌, ◌||◌, not}
use mathlib.Core.List.{[], ◌∷◌, ◌++◌}
use Prim.Native.Nat.{ℕ, zero, suc, ◌+◌, ◌-◌, ◌*◌, ◌<◌, ◌≤◌}
use native.Mathlib.Omega.{arith}
use lib.Dec.{ltb, eqb}
use borrow.Author.Tests.{eqb-true, lt-ltb, le-ltb, ne_eqb}
use lib.ListN.{length, drop}
use lib.Seq.{get_or-drop}
use Rattle.terms.specs.Names.{code}
use Rattle.forest.specs.Good.{on, off, is}
use Rattle.forest.specs.Forest.{inside, outside, side}
use Rattle.forest.specs.Numbers.{is_in}
use Rattle.forest.specs.Types as Types
use Rattle.rules.specs.Block.{Bytes, byte, part, same_bytes}
use Rattle.rules.specs.Catalogue.{types, type_byte, parent_of, length_of, key_kind, key_start, key_length, key_value, lineage, good_parent, good_type}
use Rattle.rules.proofs.Catalogue.{par, good-type, good-parent, lower-to, good-lower}
use Rattle.rules.proofs.Entries.{header-facts, type-facts}
use Rattle.statements.specs.Text.{bytes_of}
use Rattle.statements.specs.Words.{is_letter, is_name, filled, trimmed}
use Rattle.statements.specs.Statement.{parent, no_parent, suits}
use Rattle.statements.specs.Draft.{catalogue_of, rows, place_from, place_of, has, with_type, goes, ruled_type, begun, taken}
use Rattle.statements.specs.Dbd.{name_at, good_name, distinct, segment_name, parent_word, segm_statement}
use Rattle.statements.proofs.Words.{clash}
use Rattle.statements.proofs.Written.{Good, same-equal}
use Rattle.statements.proofs.Named.{name-trimmed, filled-trimmed, name-long}
use Rattle.statements.proofs.Rows.{rows-length, rows_last}
use Rattle.dbd_laws.proofs.AgainRows.{rows_none, rows_split, same_self, distinct-middle, place-behind}
use Rattle.dbd_laws.proofs.AgainGood.{type-again}
use Rattle.dbd_laws.proofs.AgainBlock.{up_to, within, within-types, block-before, block-entry}
use Rattle.dbd_laws.proofs.AgainFacts.{Facts}
use Rattle.dbd_laws.proofs.AgainTaken.{taken-segm, ruled-type, and_left, and_right, zeros-take, opened, types-size}

-- the word 0 is no name
no_name : is_name no_parent ≡ true → false ≡ true
unfolding is_name no_parent bytes_of is_letter
no_name e = e

name-no-root : (w : Bytes) → is_name w ≡ true → same_bytes w no_parent ≡ false
name-no-root w e = elim (is (same_bytes w no_parent)) [
  | on h ↦ clash (no_name (sym (ap is_name (same-equal w no_parent h)) ∙ e))
  | off h ↦ h
]

suits-root : suits parent no_parent ≡ true
unfolding suits
suits-root = rw (same_self no_parent)

or-second : (a b : Bool) → b ≡ true → (a || b) ≡ true
or-second true b e = refl
or-second false b e = e

suits-name : (w : Bytes) → is_name w ≡ true → suits parent w ≡ true
unfolding suits
suits-name w e = or-second (same_bytes no_parent w) (is_name w) e

-- the types above are types
lineage-least : (p : ℕ → ℕ) (n u x : ℕ) → is_in x (Types.lineage_from p n u) ≡ true → 1 ≤ x
unfolding Types.lineage_from
lineage-least p zero u x e = clash e
lineage-least p (suc n) zero x e = clash e
lineage-least p (suc n) (suc u) x e = elim (is (eqb x (suc u))) [
  | on h ↦ (let z : x ≡ suc u = eqb-true x (suc u) h in omega arith)
  | off h ↦ lineage-least p n (p (suc u)) x (rw h at e)
]

-- R7: every type but the first has a parent
parent-some : (c : Bytes) (k : ℕ) → 1 ≤ k → good_parent c (suc k) ≡ true → 1 ≤ par c (suc k)
unfolding good_parent lineage Types.lineage
parent-some c k l g =
    let z : suc k - 1 ≡ k = omega arith in
    let e : eqb (suc k) 1 ≡ false = ne_eqb (suc k) 1 (λ q. omega arith) in
    lineage-least (par c) k k (par c (suc k)) (rw (e, z) at g)

data Parent (c : Bytes) (k : ℕ) : Type 0 where
  top : k ≡ 0 → par c (suc k) ≡ 0 → Parent c k
  beneath : (q : ℕ) → q < k → par c (suc k) ≡ suc q → Parent c k

parent-of : (c : Bytes) (k p : ℕ) → par c (suc k) ≡ p → p < suc k → (1 ≤ k → 1 ≤ p) → Parent c k
parent-of c k zero e l h = elim (side 0 k) [
  | inside a ↦ absurd (let b : 1 ≤ 0 = h a in omega arith)
  | outside a ↦ top (omega arith) e
]
parent-of c k (suc q) e l h = beneath q (omega arith) e

module _ (c n : Bytes) where
  word-top : (k : ℕ) → par c k ≡ 0 → parent_word c n k ≡ no_parent
  unfolding parent_word
  word-top k e = rw (parent_word, e)

  word-beneath : (k q : ℕ) → par c k ≡ suc q → parent_word c n k ≡ trimmed (segment_name n (suc q))
  unfolding parent_word
  word-beneath k q e = rw (parent_word, e)

  module _ (facts : Facts c n) where
    parent-case : (k : ℕ) → k < types c → Parent c k
    parent-case k l =
        parent-of c k (par c (suc k)) refl (Types.lower-at (par c) (types c) (suc k) (good-lower c facts.good) (omega arith) (omega arith))
        (λ a. parent-some c k a (good-parent c facts.good (suc k) (omega arith) (omega arith)))

    -- the k-th name among those before it, and among those up to a later one
    segment-at : (k : ℕ) → part n (16 + 8 * k) 8 ≡ segment_name n (suc k)
    unfolding segment_name name_at
    segment-at k = let z : 16 + 8 * k ≡ 8 + 8 * suc k = omega arith in ap (λ (x : ℕ). part n x 8) z

    segment-new : (k : ℕ) → k < types c → has (segment_name n (suc k)) (rows 8 n 16 k) ≡ false
    segment-new k l =
        let z : types c ≡ k + suc (types c - suc k) = omega arith in
        let r : rows 8 n 16 (types c) ≡ rows 8 n 16 k ++ (part n (16 + 8 * k) 8 ∷ rows 8 n (16 + 8 * k + 8) (types c - suc k)) =
        ap (rows 8 n 16) z ∙ rows_split 8 n 16 k (types c - suc k) in
        rw (← segment-at k)
        (distinct-middle (rows 8 n 16 k) (part n (16 + 8 * k) 8) (rows 8 n (16 + 8 * k + 8) (types c - suc k)) (sym (ap distinct r) ∙ facts.segments-differ))

    segment-place : (q k : ℕ) → q < k → k ≤ types c → place_of (segment_name n (suc q)) (rows 8 n 16 k) ≡ suc q
    unfolding place_of
    segment-place q k l t =
        let z : k ≡ q + suc (k - suc q) = omega arith in
        let r : rows 8 n 16 k ≡ rows 8 n 16 q ++ (segment_name n (suc q) ∷ rows 8 n (16 + 8 * q + 8) (k - suc q)) =
        ap (rows 8 n 16) z ∙ rows_split 8 n 16 q (k - suc q) ∙ rw (segment-at q) in
        ap (place_from 1 (segment_name n (suc q))) r
        ∙ place-behind 1 (rows 8 n 16 q) (segment_name n (suc q)) (rows 8 n (16 + 8 * q + 8) (k - suc q)) (segment-new q (omega arith))
        ∙ omega (arith, rows-length 8 n 16 q)

    segment-good : (k : ℕ) → k ≤ types c → good_name (segment_name n k) ≡ true
    unfolding segment_name
    segment-good k l = facts.name k (omega arith)

    -- what SEGM asks of the parent's word
    record Above (k : ℕ) : Type 0 where
      first : (same_bytes (parent_word c n (suc k)) no_parent && ltb 0 k) ≡ false
      found : (not (same_bytes (parent_word c n (suc k)) no_parent) && eqb (place_of (filled (parent_word c n (suc k))) (rows 8 n 16 k)) 0) ≡ false
      place : place_of (filled (parent_word c n (suc k))) (rows 8 n 16 k) ≡ par c (suc k)
      suited : suits parent (parent_word c n (suc k)) ≡ true

    place_none : (w : Bytes) → place_of w [] ≡ 0
    unfolding place_of place_from
    place_none w = refl

    above-top : (k : ℕ) → k ≡ 0 → par c (suc k) ≡ 0 → Above k
    above-top k z e =
        let w : parent_word c n (suc k) ≡ no_parent = word-top (suc k) e in
        let s : same_bytes (parent_word c n (suc k)) no_parent ≡ true = ap (λ (x : Bytes). same_bytes x no_parent) w ∙ same_self no_parent in
        let r : rows 8 n 16 k ≡ [] = ap (rows 8 n 16) z ∙ rows_none 8 n 16 in
        record {
          first = and_right (same_bytes (parent_word c n (suc k)) no_parent) (ltb 0 k) (le-ltb 0 k (omega arith));
          found = and_left (not (same_bytes (parent_word c n (suc k)) no_parent)) _ (ap not s);
          place = ap (place_of (filled (parent_word c n (suc k)))) r ∙ place_none (filled (parent_word c n (suc k))) ∙ sym e;
          suited = ap (suits parent) w ∙ suits-root;
        }

    above-beneath : (k q : ℕ) → k < types c → q < k → par c (suc k) ≡ suc q → Above k
    above-beneath k q t l e =
        let w : parent_word c n (suc k) ≡ trimmed (segment_name n (suc q)) = word-beneath (suc k) q e in
        let g : good_name (segment_name n (suc q)) ≡ true = segment-good (suc q) (omega arith) in
        let i : is_name (trimmed (segment_name n (suc q))) ≡ true = name-trimmed (segment_name n (suc q)) g in
        let s : same_bytes (parent_word c n (suc k)) no_parent ≡ false =
        ap (λ (x : Bytes). same_bytes x no_parent) w ∙ name-no-root (trimmed (segment_name n (suc q))) i in
        let f : filled (parent_word c n (suc k)) ≡ segment_name n (suc q) = ap filled w ∙ filled-trimmed (segment_name n (suc q)) g in
        let p : place_of (filled (parent_word c n (suc k))) (rows 8 n 16 k) ≡ suc q =
        ap (λ (x : Bytes). place_of x (rows 8 n 16 k)) f ∙ segment-place q k l (omega arith) in
        record {
          first = and_left (same_bytes (parent_word c n (suc k)) no_parent) (ltb 0 k) s;
          found = and_right (not (same_bytes (parent_word c n (suc k)) no_parent)) _ (ap (λ (x : ℕ). eqb x 0) p ∙ ne_eqb (suc q) 0 (λ z. omega arith));
          place = p ∙ sym e;
          suited = ap (suits parent) w ∙ suits-name (trimmed (segment_name n (suc q))) i;
        }

    above_of : (k : ℕ) → k < types c → Above k
    above_of k l = elim (parent-case k l) [
      | top z e ↦ above-top k z e
      | beneath q m e ↦ above-beneath k q l m e
    ]

    -- R78: the statement is one that a line holds
    pub segm-good : (k : ℕ) → k < types c → Good (segm_statement c n (suc k))
    unfolding segm_statement
    segm-good k l = (
      name-trimmed (segment_name n (suc k)) (segment-good (suc k) (omega arith)),
      (above_of k l).suited,
      omega (arith, (type-facts c facts.good (code (suc k)) (omega arith) (omega arith)).long-most),
    )

    block-parents : (k m : ℕ) → k < types c → (u : ℕ) → 1 ≤ u → u ≤ suc k → par (catalogue_of (within c n k (opened c n k) m)) u ≡ par c u
    unfolding parent_of type_byte
    block-parents k m l u a b =
        let s = types-size c n facts k l in
        elim (side u (suc k)) [
          | inside h ↦
              let z : 8 * u + 0 ≡ 8 + 8 * (u - 1) = omega arith in
              rw z (block-before c n k (opened c n k) m (8 * (u - 1)) (omega arith) (omega arith))
          | outside h ↦
              let z : u ≡ suc k = omega arith in
              rw z (block-entry c n k (opened c n k) m 0 (omega arith) (omega arith))
        ]

    block-opened : (k m : ℕ) → k < types c → good_type (catalogue_of (within c n k (opened c n k) m)) (suc k) ≡ true
    unfolding type_byte length_of key_kind key_start key_length key_value
    block-opened k m l =
        let s = types-size c n facts k l in
        let b : Bytes = catalogue_of (within c n k (opened c n k) m) in
        let at : (j : ℕ) → j < 8 → byte (catalogue_of (within c n k (opened c n k) m)) (8 * suc k + j) ≡ byte (opened c n k) j =
        (λ j h. block-entry c n k (opened c n k) m j (omega arith) h) in
        type-again (catalogue_of (within c n k (opened c n k) m)) c (suc k) (lower-to c facts.good (suc k) (omega arith)) (block-parents k m l)
        (omega arith) (at 1 (omega arith)) (at 2 (omega arith)) (at 3 (omega arith)) (at 4 (omega arith)) (at 7 (omega arith))
        (zeros-take 2 (drop (8 * suc k + 5) b) (λ j h. get_or-drop (8 * suc k + 5) b j 0 ∙ zero-at k m l j h))
        (good-type c facts.good (suc k) (omega arith) (omega arith))
      where
        zero-at : (k m : ℕ) → k < types c → (j : ℕ) → j < 2 → byte (catalogue_of (within c n k (opened c n k) m)) (8 * suc k + 5 + j) ≡ 0
        zero-at k m l zero h = let s = types-size c n facts k l in
            let z : 8 * suc k + 5 + 0 ≡ 8 * suc k + 5 = omega arith in rw z (block-entry c n k (opened c n k) m 5 (omega arith) (omega arith))
        zero-at k m l (suc zero) h = let s = types-size c n facts k l in
            let z : 8 * suc k + 5 + 1 ≡ 8 * suc k + 6 = omega arith in rw z (block-entry c n k (opened c n k) m 6 (omega arith) (omega arith))
        zero-at k m l (suc (suc j)) h = absurd (omega arith)

    with-type : (k m : ℕ) (w : Bytes) (p : ℕ) → w ≡ segment_name n (suc k) → p ≡ par c (suc k)
        → with_type (up_to c n k m) w p (length_of c (code (suc k))) ≡ within c n k (opened c n k) m
    unfolding with_type parent_of length_of
    with-type k m w p a b = rw (a, b, rows_last 8 n 16 k, segment-at k)

    -- R77: one type more
    pub segm-step : (k m : ℕ) → k < types c → taken (up_to c n k m) (segm_statement c n (suc k)) ≡ goes (within c n k (opened c n k) m)
    unfolding segm_statement begun
    segm-step k m l =
        let v = above_of k l in
        let h = header-facts c facts.good in
        let f : filled (trimmed (segment_name n (suc k))) ≡ segment_name n (suc k) =
        filled-trimmed (segment_name n (suc k)) (segment-good (suc k) (omega arith)) in
        let r : length (rows 8 c 8 k) ≡ k = rows-length 8 c 8 k in
        let b : length (name_at n 0) ≡ 8 = name-long (name_at n 0) (facts.name 0 (omega arith)) in
        let t : length (within c n k (opened c n k) m).types ≡ suc k = within-types c n k (opened c n k) m in
        taken-segm (up_to c n k m) (trimmed (segment_name n (suc k))) (parent_word c n (suc k)) (length_of c (code (suc k)))
        (lt-ltb 0 (length (name_at n 0)) (omega arith)) (rw r v.first) (rw f (segment-new k l)) v.found
        ∙ ap ruled_type (with-type k m (filled (trimmed (segment_name n (suc k)))) (place_of (filled (parent_word c n (suc k))) (rows 8 n 16 k)) f v.place)
        ∙ ruled-type (within c n k (opened c n k) m) (omega arith) (rw t (block-opened k m l))
