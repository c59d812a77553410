-- What a good catalogue says of a type: its parent, its level, and the levels of a good listing. Assumes nothing.
use mathlib.Core.Path.{◌≡◌, refl, ap, sym, ◌∙◌, subst}
use mathlib.Core.Bool.{Bool, true, false}
use mathlib.Core.List.{List, [], ◌∷◌, ◌++◌, map, reverse, reverse-cons}
use Prim.Native.Nat.{ℕ, zero, suc, ◌-◌, ◌<◌, ◌≤◌}
use native.Mathlib.Omega.{arith}
use lib.Dec.{eqb}
use lib.ListN.{length}
use borrow.Author.Tests.{le-leb, ne_eqb, eqb-true, eqb-false}
use Rattle.terms.specs.declared.TypeCode.{TypeCode}
use Rattle.terms.specs.declared.Argument.{Argument}
use Rattle.terms.specs.Choice.{pick}
use Rattle.terms.specs.Names.{code, same_type}
use Rattle.forest.specs.Forest.{Forest, forest_of}
use Rattle.forest.specs.Good.{on, off, is, both_left, Wf, formed-wf, levelled}
use Rattle.forest.specs.Shape.{Levelled}
use Rattle.forest.specs.Rows.{map-append}
use Rattle.forest.specs.Numbers.{is_in}
use Rattle.forest.specs.Types as Types
use Rattle.rules.specs.Block.{Bytes}
use Rattle.rules.specs.Catalogue.{types, parent_of, lineage, level, is_type, good_parent, good_catalogue}
use Rattle.rules.specs.Cells.{Segment, segment, type_number, is_child, siblings, segment_level, good_listing, level_at}
use Rattle.rules.specs.Arguments.{Level, asked_of, complete}
use Rattle.rules.specs.Matching.{agrees, satisfies, agree, path_to, matches}
use Rattle.rules.specs.Paths.{Path, end}
use Rattle.rules.specs.Tree.{data_part, segments}
use Rattle.rules.proofs.Catalogue.{par, good-parent, good-lower}
use Rattle.rules.proofs.Paths.{end-path}
use Rattle.rules.proofs.Tree.{segments-cells}
use Rattle.encoding.proofs.Entries.{is-type, good-types}
use Rattle.model.proofs.Paths.{levelled-map}
use Rattle.model.proofs.Along.{agree-in}

-- a test cannot be both
pub never : {A : Type 0} (b : Bool) → b ≡ true → b ≡ false → A
never b e f = absurd (let z : ◌≡◌ {A = ℕ} 1 0 = ap (λ (c : Bool). pick c 1 0) (sym e ∙ f) in omega arith)

no_zero : (p : ℕ → ℕ) (n u : ℕ) → is_in 0 (Types.lineage_from p n u) ≡ false
unfolding Types.lineage_from
no_zero p zero u = refl
no_zero p (suc n) zero = refl
no_zero p (suc n) (suc u) = rw (ne_eqb 0 (suc u) (λ e. omega arith)) (no_zero p n (p (suc u)))

module _ (cat : Bytes) where
  pub level-none : level cat (code 0) ≡ 0
  unfolding level lineage Types.lineage Types.lineage_from
  level-none = refl

  module _ (g : good_catalogue cat ≡ true) where
    lineage-step : (t : TypeCode) → is_type cat t ≡ true → lineage cat t ≡ t.0 ∷ lineage cat (parent_of cat t)
    unfolding lineage
    lineage-step t h = let z = is-type cat t h in Types.lineage-step (par cat) (types cat) (good-lower cat g) t.0 z.0 z.1

    -- LAW: R8, of a child
    pub level-child : (t : TypeCode) → is_type cat t ≡ true → level cat t ≡ suc (level cat (parent_of cat t))
    unfolding level
    level-child t h = ap length (lineage-step t h)

    -- R7, of the root
    pub root-parent : (parent_of cat (code 1)).0 ≡ 0
    unfolding good_parent
    root-parent = eqb-true (parent_of cat (code 1)).0 0 (good-parent cat g 1 (omega arith) (good-types cat g).0)

    -- LAW: R8, of the root
    pub level-root : (t : TypeCode) → is_type cat t ≡ true → t.0 ≡ 1 → level cat t ≡ 1
    level-root t h e =
        let z : (parent_of cat t).0 ≡ 0 = ap (λ (u : ℕ). (parent_of cat (code u)).0) e ∙ root-parent in
        level-child t h ∙ ap (λ (u : ℕ). suc (level cat (code u))) z ∙ ap suc level-none

    parent-some : (u : ℕ) → 1 ≤ u → u ≤ types cat → (u ≡ 1 → ⊥) → 1 ≤ par cat u
    unfolding good_parent lineage Types.lineage
    parent-some u a b ne =
        let f : is_in (par cat u) (Types.lineage_from (par cat) (u - 1) (u - 1)) ≡ true = rw (ne_eqb u 1 ne) at (good-parent cat g u a b) in
        elim (is (eqb (par cat u) 0)) [
          | on e ↦
              let z : par cat u ≡ 0 = eqb-true (par cat u) 0 e in
              never (is_in 0 (Types.lineage_from (par cat) (u - 1) (u - 1))) (rw z at f) (no_zero (par cat) (u - 1) (u - 1))
          | off e ↦ (let z : (par cat u ≡ 0) → ⊥ = eqb-false (par cat u) 0 e in omega arith)
        ]

    -- LAW: the parent of every type but the root is a type
    pub parent-type : (t : TypeCode) → is_type cat t ≡ true → (t.0 ≡ 1 → ⊥) → is_type cat (parent_of cat t) ≡ true
    unfolding is_type
    parent-type t h ne =
        let z = is-type cat t h in
        let a : 1 ≤ par cat t.0 = parent-some t.0 z.0 z.1 ne in
        let b : par cat t.0 < t.0 = Types.lower-at (par cat) (types cat) t.0 (good-lower cat g) z.0 z.1 in
        rw (le-leb 1 (par cat t.0) a, le-leb (par cat t.0) (types cat) (omega (arith, z.1)))

    wf-levelled : (p : ℕ) (f : Forest Segment) → Wf type_number (is_child cat) (siblings cat) p f → Levelled (segment_level cat) (suc (level cat (code p))) f
    unfolding is_child is_type level lineage Types.level
    wf-levelled p f w =
        levelled type_number (is_child cat) (siblings cat)
        (λ q s h. Types.rise (par cat) (types cat) (good-lower cat g) q (type_number s) h)
        (λ q r s h k. Types.one (par cat) (types cat) (good-lower cat g) q r (type_number s) h k)
        (Types.level (par cat))
        (λ q s h. Types.deeper (par cat) (types cat) (good-lower cat g) q (type_number s) h)
        p f w

    module _ (cs : List Segment) (good : good_listing cat cs ≡ true) where
      -- LAW: the forest of a good listing is well formed, and has its levels
      pub listing-wf : Wf type_number (is_child cat) (siblings cat) 0 (forest_of (segment_level cat) cs)
      unfolding good_listing
      listing-wf = formed-wf type_number (is_child cat) (siblings cat) 0 (forest_of (segment_level cat) cs) good

      pub listing-levelled : Levelled (segment_level cat) 1 (forest_of (segment_level cat) cs)
      listing-levelled =
          subst (λ (n : ℕ). Levelled (segment_level cat) (suc n) (forest_of (segment_level cat) cs)) level-none
          (wf-levelled 0 (forest_of (segment_level cat) cs) listing-wf)

      pub numbers-levelled : Levelled (level_at cat cs) 1 (data_part cat cs)
      unfolding level_at segments
      numbers-levelled =
          levelled-map (segment cs) (segment_level cat) 1 (data_part cat cs)
          (subst (Levelled (segment_level cat) 1) (sym (segments-cells cat cs)) listing-levelled)

module _ (cat : Bytes) (cs : List Segment) where
  short : (ms : List Level) (m : Level) → agree cat cs (ms ++ (m ∷ [])) [] ≡ false
  unfolding agree
  short [] m = refl
  short (l ∷ ms) m = refl

  past : (i : ℕ) (p : Path) → agree cat cs [] (i ∷ p) ≡ false
  unfolding agree
  past i p = refl

  agree-out : (l : Level) (ls : List Level) (i : ℕ) (p : Path) → agrees cat l (segment cs i) ≡ false → agree cat cs (l ∷ ls) (i ∷ p) ≡ false
  unfolding agree
  agree-out l ls i p e = rw (agree, e)

  -- the last level agrees with the end of the path
  agree-end : (ms : List Level) (m : Level) (p : Path) → agree cat cs (ms ++ (m ∷ [])) p ≡ true → agrees cat m (segment cs (end p)) ≡ true
  agree-end ms m [] e = never (agree cat cs (ms ++ (m ∷ [])) []) e (short ms m)
  agree-end [] m (i ∷ []) e = elim (is (agrees cat m (segment cs i))) [ on h ↦ h | off h ↦ never (agree cat cs (m ∷ []) (i ∷ [])) e (agree-out m [] i [] h) ]
  agree-end [] m (i ∷ (j ∷ p)) e = elim (is (agrees cat m (segment cs i))) [
    | on h ↦ never (agree cat cs (m ∷ []) (i ∷ (j ∷ p))) e (agree-in cat cs m [] i (j ∷ p) h ∙ past j p)
    | off h ↦ never (agree cat cs (m ∷ []) (i ∷ (j ∷ p))) e (agree-out m [] i (j ∷ p) h)
  ]
  agree-end (l ∷ ms) m (i ∷ []) e = elim (is (agrees cat l (segment cs i))) [
    | on h ↦ never (agree cat cs (l ∷ (ms ++ (m ∷ []))) (i ∷ [])) e (agree-in cat cs l (ms ++ (m ∷ [])) i [] h ∙ short ms m)
    | off h ↦ never (agree cat cs (l ∷ (ms ++ (m ∷ []))) (i ∷ [])) e (agree-out l (ms ++ (m ∷ [])) i [] h)
  ]
  agree-end (l ∷ ms) m (i ∷ (j ∷ p)) e = elim (is (agrees cat l (segment cs i))) [
    | on h ↦ agree-end ms m (j ∷ p) (sym (agree-in cat cs l (ms ++ (m ∷ [])) i (j ∷ p) h) ∙ e)
    | off h ↦ never (agree cat cs (l ∷ (ms ++ (m ∷ []))) (i ∷ (j ∷ p))) e (agree-out l (ms ++ (m ∷ [])) i (j ∷ p) h)
  ]

  matches-agree : (ms : List Level) (m : Level) (i : ℕ) → matches cat cs (ms ++ (m ∷ [])) i ≡ agree cat cs (ms ++ (m ∷ [])) (path_to cat cs i)
  unfolding matches
  matches-agree [] m i = refl
  matches-agree (l ∷ ms) m i = refl

  agrees-type : (m : Level) (s : Segment) → agrees cat m s ≡ true → m.code.0 ≡ s.code.0
  unfolding agrees
  agrees-type m s e = eqb-true m.code.0 s.code.0 (both_left (same_type m.code s.code) (satisfies cat s m.asked) e)

  module _ (g : good_catalogue cat ≡ true) (list : Bytes) (ar : List Argument) (t : TypeCode) (h : is_type cat t ≡ true) where
    abbrev level_of : ℕ → Level
    level_of u = record { code = code u; asked = asked_of cat list ar (code u) }

    complete-last : complete cat list ar t ≡ map level_of (reverse (lineage cat (parent_of cat t))) ++ (level_of t.0 ∷ [])
    unfolding complete
    complete-last =
        ap (λ (us : List ℕ). map level_of (reverse us)) (lineage-step cat g t h) ∙ ap (map level_of) (reverse-cons t.0 (lineage cat (parent_of cat t)))
        ∙ map-append level_of (reverse (lineage cat (parent_of cat t))) (t.0 ∷ [])

    -- LAW: what matches a list completed down to a type has that type
    pub match-type : (i : ℕ) → matches cat cs (complete cat list ar t) i ≡ true → t.0 ≡ (segment cs i).code.0
    match-type i e =
        let ms : List Level = map level_of (reverse (lineage cat (parent_of cat t))) in
        let f : matches cat cs (ms ++ (level_of t.0 ∷ [])) i ≡ true = rw complete-last at e in
        agrees-type (level_of t.0) (segment cs i)
        (ap (λ (j : ℕ). agrees cat (level_of t.0) (segment cs j)) (sym (end-path cat cs i))
        ∙ agree-end ms (level_of t.0) (path_to cat cs i) (sym (matches-agree ms (level_of t.0) i) ∙ f))
