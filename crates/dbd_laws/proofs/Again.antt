-- R84: what was written is read as the same pair, and written again it is the same text. Assumes nothing.
use Rattle.std.specs.Prelude.{None, Some, Option}
use mathlib.Core.Path.{◌≡◌, refl, ap, sym, ◌∙◌}
use mathlib.Core.Bool.{Bool, true, false}
use mathlib.Core.List.{List, [], ◌∷◌, ◌++◌, map}
use Prim.Native.Nat.{ℕ, zero, suc, ◌+◌, ◌-◌, ◌*◌, ◌<◌, ◌≤◌}
use native.Mathlib.Omega.{arith}
use lib.Dec.{eqb}
use borrow.Author.Tests.{eqb-true, eqb-false, ne_eqb}
use lib.ListN.{length}
use Rattle.terms.specs.Names.{field as field_of}
use Rattle.forest.specs.Good.{on, off, is}
use Rattle.forest.specs.Forest.{inside, outside, side}
use Rattle.forest.specs.Numbers.{range}
use Rattle.rules.specs.Block.{Bytes}
use Rattle.rules.specs.Catalogue.{types, fields, field_type}
use Rattle.rules.proofs.Entries.{header-facts, field-facts}
use Rattle.statements.specs.Words.{trimmed}
use Rattle.statements.specs.Lines.{text_of}
use Rattle.statements.specs.Statement.{Statement, dbd}
use Rattle.statements.specs.Draft.{Draft, blank, rows, goes, begun, taken}
use Rattle.statements.specs.Dbd.{Reading, given as given_of, ended, dbd_read, spelled, name_at, those, own_fields, could_give}
use Rattle.statements.specs.Dbd.{segm_statement, field_statement, type_statements, statements, dbd_write}
use Rattle.statements.proofs.Words.{clash}
use Rattle.statements.proofs.Written.{Good, AllGood, read_statements, text-written}
use Rattle.statements.proofs.Named.{name-trimmed, filled-trimmed}
use Rattle.dbd_laws.specs.RoundTrip.{given, ReadsBack, WritesAgain}
use Rattle.statements.proofs.Rows.{rows-length}
use Rattle.dbd_laws.proofs.AgainBlock.{up_to, within, within-whole, block-whole, names-whole}
use Rattle.dbd_laws.proofs.AgainFacts.{Facts, facts-of}
use Rattle.dbd_laws.proofs.AgainTaken.{opened, entry_at, keyed-whole}
use Rattle.dbd_laws.proofs.AgainSegment.{segm-good, segm-step}
use Rattle.dbd_laws.proofs.AgainField.{those-on, those-off, type_of, entry-begins, entry-ends, field-good, field_step}

-- these statements can be written, and read behind this draft they end so
abbrev Ends : Reading → Draft → List Statement → Type 0
Ends r d ss = AllGood ss × ((j : ℕ) → read_statements d j ss ≡ r)

read-on : (d e : Draft) (j : ℕ) (s : Statement) (ss : List Statement) → taken d s ≡ goes e → read_statements d j (s ∷ ss) ≡ read_statements e (suc j) ss
unfolding read_statements
read-on d e j s ss h = rw (read_statements, h)

ends-step : (r : Reading) (d e : Draft) (s : Statement) (ss : List Statement) → Good s → taken d s ≡ goes e → Ends r e ss → Ends r d (s ∷ ss)
ends-step r d e s ss g h f = ((g, f.0), λ j. read-on d e j s ss h ∙ f.1 (suc j))

-- numbers that pass no test
those-none : (p : ℕ → Bool) (i r : ℕ) → ((f : ℕ) → i ≤ f → f < i + r → p f ≡ false) → those p (range i r) ≡ []
unfolding those
those-none p i zero h = refl
those-none p i (suc r) h =
    those-off p i (range (suc i) r) (h i (omega arith) (omega arith)) ∙ those-none p (suc i) r (λ f a b. h f (omega arith) (omega arith))

those-skip : (p : ℕ → Bool) (i m r : ℕ) → ((f : ℕ) → i ≤ f → f < i + m → p f ≡ false) → those p (range i (m + r)) ≡ those p (range (i + m) r)
those-skip p i zero r h =
    let y : 0 + r ≡ r = omega arith in
    let z : i ≡ i + 0 = omega arith in
    ap (λ (x : ℕ). those p (range i x)) y ∙ ap (λ (x : ℕ). those p (range x r)) z
those-skip p i (suc m) r h =
    let y : suc m + r ≡ suc (m + r) = omega arith in
    let z : suc i + m ≡ i + suc m = omega arith in
    ap (λ (x : ℕ). those p (range i x)) y ∙ those-off p i (range (suc i) (m + r)) (h i (omega arith) (omega arith))
    ∙ those-skip p (suc i) m r (λ f a b. h f (omega arith) (omega arith)) ∙ ap (λ (x : ℕ). those p (range x r)) z

module _ (c n : Bytes) (facts : Facts c n) where
  -- fields 1 to m are those of types up to k
  record Cut (k m : ℕ) : Type 0 where
    some : m ≤ fields c
    before : (f : ℕ) → 1 ≤ f → f ≤ m → type_of c n f ≤ k
    behind : (f : ℕ) → m < f → f ≤ fields c → k < type_of c n f

  -- R82: fields stand by their types
  rises : (d f : ℕ) → 1 ≤ f → f + d ≤ fields c → type_of c n f ≤ type_of c n (f + d)
  rises zero f a b = let z : f + 0 ≡ f = omega arith in rw z (omega arith)
  rises (suc d) f a b =
      let z : f + suc d ≡ suc (f + d) = omega arith in
      rw z (omega (arith, rises d f a (omega arith), facts.ascends (f + d) (omega arith) (omega arith)))

  rise-to : (f g : ℕ) → 1 ≤ f → f ≤ g → g ≤ fields c → type_of c n f ≤ type_of c n g
  rise-to f g a b l = let z : f + (g - f) ≡ g = omega arith in rw z at (rises (g - f) f a (omega arith))

  module _ (r : Reading) where
    -- behind the last field of a type
    type-ends : (k m : ℕ) (ss : List Statement) → k < types c → Cut (suc k) m → Ends r (up_to c n (suc k) m) ss → Ends r (within c n k (entry_at c n k m) m) ss
    type-ends k m ss l cut e =
        let z : within c n k (entry_at c n k m) m ≡ up_to c n (suc k) m =
        ap (λ (x : Bytes). within c n k x m) (entry-ends c n facts k m l cut.behind ∙ keyed-whole c n facts k l) ∙ within-whole c n k m in
        (e.0, λ j. ap (λ (x : Draft). read_statements x j ss) z ∙ e.1 j)

    -- the fields from m + 1 on that are of type k + 1
    module _ (k : ℕ) (l : k < types c) (ss : List Statement) (next : (m : ℕ) → Cut (suc k) m → Ends r (up_to c n (suc k) m) ss) where
      abbrev own : ℕ → Bool
      own f = eqb (field_type c (field_of f)).0 (suc k)

      fields-run : (s m : ℕ) → m + s ≡ fields c → ((f : ℕ) → 1 ≤ f → f ≤ m → type_of c n f ≤ suc k) → ((f : ℕ) → m < f → f ≤ fields c → k < type_of c n f)
          → Ends r (within c n k (entry_at c n k m) m) (map (field_statement c n (suc k)) (those own (range (suc m) s)) ++ ss)
      unfolding those
      fields-run zero m z a b =
          let cut : Cut (suc k) m = record { some = omega arith; before = a; behind = λ f x y. absurd (omega arith) } in
          type-ends k m ss l cut (next m cut)
      fields-run (suc s) m z a b = elim (is (own (suc m))) [
        | on h ↦
            let t : type_of c n (suc m) ≡ suc k = eqb-true (type_of c n (suc m)) (suc k) h in
            rw (those-on own (suc m) (range (suc (suc m)) s) h)
            (ends-step r (within c n k (entry_at c n k m) m) (within c n k (entry_at c n k (suc m)) (suc m)) (field_statement c n (suc k) (suc m))
            (map (field_statement c n (suc k)) (those own (range (suc (suc m)) s)) ++ ss)
            (field-good c n facts k m l (omega arith)) (field_step c n facts k m l (omega arith) t)
            (fields-run s (suc m) (omega arith) (λ f x y. upto a t f x y) (λ f x y. b f (omega arith) y)))
        | off h ↦
            let t : type_of c n (suc m) ≡ suc k → ⊥ = eqb-false (type_of c n (suc m)) (suc k) h in
            let q : k < type_of c n (suc m) = b (suc m) (omega arith) (omega arith) in
            let v : suc k < type_of c n (suc m) = omega arith in
            let w : (f : ℕ) → m < f → f ≤ fields c → suc k < type_of c n f = (λ f x y. omega (arith, rise-to (suc m) f (omega arith) (omega arith) y)) in
            let cut : Cut (suc k) m = record { some = omega arith; before = a; behind = w } in
            rw (those-none own (suc m) (suc s) (λ f x y. ne_eqb (type_of c n f) (suc k) (λ e. omega (arith, w f (omega arith) (omega arith)))))
            (type-ends k m ss l cut (next m cut))
      ]
        where
          upto : {m : ℕ} → ((f : ℕ) → 1 ≤ f → f ≤ m → type_of c n f ≤ suc k) → type_of c n (suc m) ≡ suc k → (f : ℕ) → 1 ≤ f → f ≤ suc m → type_of c n f ≤ suc k
          upto {m} a t f x y = elim (side f (suc m)) [
            | inside h ↦ a f x (omega arith)
            | outside h ↦ (let z : f ≡ suc m = omega arith in rw z (omega arith))
          ]

    -- the fields of type k + 1 stand behind those of the types before
    own_behind : (k m : ℕ) → Cut k m → own_fields c (suc k) ≡ those (λ f. eqb (field_type c (field_of f)).0 (suc k)) (range (suc m) (fields c - m))
    unfolding own_fields
    own_behind k m cut =
        let l = cut.some in
        let z : fields c ≡ m + (fields c - m) = omega arith in
        let y : 1 + m ≡ suc m = omega arith in
        let p : ℕ → Bool = λ f. eqb (field_type c (field_of f)).0 (suc k) in
        ap (λ (x : ℕ). those p (range 1 x)) z
        ∙ those-skip p 1 m (fields c - m) (λ f a b. ne_eqb (type_of c n f) (suc k) (λ e. omega (arith, cut.before f a (omega arith))))
        ∙ ap (λ (x : ℕ). those p (range x (fields c - m))) y

    -- types k + 1 to T
    types-run : Ends r (up_to c n (types c) (fields c)) [] → (s k m : ℕ) → k + s ≡ types c → Cut k m
        → Ends r (up_to c n k m) (type_statements c n (range (suc k) s))
    unfolding type_statements
    types-run end zero k m z cut =
        let y : k ≡ types c = omega arith in
        let x : m ≡ fields c = all-fields k m y cut in
        rw (y, x) end
      where
        all-fields : (k m : ℕ) → k ≡ types c → Cut k m → m ≡ fields c
        all-fields k m y cut = elim (side m (fields c)) [
          | inside h ↦ absurd (
              let b : k < type_of c n (fields c) = cut.behind (fields c) h (omega arith) in
              omega (arith, (field-facts c facts.good (field_of (fields c)) (omega arith) (omega arith)).type-most))
          | outside h ↦ (let l = cut.some in omega arith)
        ]
    types-run end (suc s) k m z cut =
        let l : k < types c = omega arith in
        let o = cut.some in
        rw (own_behind k m cut)
        (ends-step r (up_to c n k m) (within c n k (opened c n k) m) (segm_statement c n (suc k))
        (map (field_statement c n (suc k)) (those (λ f. eqb (field_type c (field_of f)).0 (suc k)) (range (suc m) (fields c - m)))
        ++ type_statements c n (range (suc (suc k)) s))
        (segm-good c n facts k l) (segm-step c n facts k m l)
        (rw (← entry-begins c n facts k m l cut.before)
        (fields-run k l (type_statements c n (range (suc (suc k)) s)) (λ x v. types-run end s (suc k) x (omega arith) v) (fields c - m) m (omega arith)
        (λ f a b. omega (arith, cut.before f a b)) cut.behind)))

  -- the end, and the beginning
  end-given : Ends (given c n) (up_to c n (types c) (fields c)) []
  unfolding read_statements ended given_of
  end-given =
      let h = header-facts c facts.good in
      let t : length (rows 8 c 8 (types c)) ≡ types c = rows-length 8 c 8 (types c) in
      let f : length (rows 4 c (8 + 8 * types c) (fields c)) ≡ fields c = rows-length 4 c (8 + 8 * types c) (fields c) in
      let z : eqb (types c) 0 ≡ false = ne_eqb (types c) 0 (λ e. omega arith) in
      (tt, λ j. rw (t, z, f, block-whole c n h.size facts.head, names-whole c n facts.names-long facts.names-head))

  cut-none : Cut 0 0
  cut-none = record {
    some = omega arith;
    before = λ f a b. absurd (omega arith);
    behind = λ f a b. omega (arith, (field-facts c facts.good (field_of f) (omega arith) b).type-least);
  }

  dbd-step : taken blank (dbd (trimmed (name_at n 0))) ≡ goes (up_to c n 0 0)
  unfolding taken begun blank rows
  dbd-step = rw (filled-trimmed (name_at n 0) (facts.name 0 (omega arith)))

  all-run : Ends (given c n) blank (statements c n)
  unfolding statements
  all-run =
      ends-step (given c n) blank (up_to c n 0 0) (dbd (trimmed (name_at n 0))) (type_statements c n (range 1 (types c)))
      (name-trimmed (name_at n 0) (facts.name 0 (omega arith))) dbd-step
      (types-run (given c n) end-given (types c) 0 0 (omega arith) cut-none)

  pub written_read : dbd_read (text_of (map spelled (statements c n))) ≡ given c n
  written_read = let e = all-run in text-written (statements c n) e.0 ∙ e.1 1

module _ (c n : Bytes) where
  write-on : could_give c n ≡ true → dbd_write c n ≡ Some (text_of (map spelled (statements c n)))
  unfolding dbd_write
  write-on h = rw (dbd_write, h)

  write-off : could_give c n ≡ false → dbd_write c n ≡ None
  unfolding dbd_write
  write-off h = rw (dbd_write, h)

some-text : (a b : Bytes) → ◌≡◌ {A = Option Bytes} (Some a) (Some b) → a ≡ b
some-text a b e = cc

none-text : (a : Bytes) → ◌≡◌ {A = Option Bytes} None (Some a) → false ≡ true
none-text a e = let z : ◌≡◌ {A = ℕ} 0 1 = cc in absurd (omega arith)

-- R84: reading gives back what was written
pub reads-back : ReadsBack
reads-back cat names text e = elim (is (could_give cat names)) [
  | on h ↦
      let z : text_of (map spelled (statements cat names)) ≡ text =
      some-text (text_of (map spelled (statements cat names))) text (sym (write-on cat names h) ∙ e) in
      ap dbd_read (sym z) ∙ written_read cat names (facts-of cat names h)
  | off h ↦ clash (none-text text (sym (write-off cat names h) ∙ e))
]

-- and that is written as the same text
pub writes_again : WritesAgain
writes_again cat names text e = let r : dbd_read text ≡ given cat names = reads-back cat names text e in rw r e
