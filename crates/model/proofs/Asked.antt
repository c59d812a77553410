-- What the refusals leave: the facts on which a call that is not refused may lean. Assumes nothing.
use Rattle.std.specs.Prelude.{Err, Ok, Some, Result}
use mathlib.Core.Path.{◌≡◌, refl, sym, ◌∙◌, subst}
use mathlib.Core.Bool.{Bool, true, false, ◌&&◌, ◌||◌, not}
use mathlib.Core.List.{List, [], ◌∷◌}
use Prim.Native.Nat.{ℕ, zero, suc, ◌+◌, ◌-◌, ◌<◌, ◌≤◌}
use native.Mathlib.Omega.{arith}
use lib.Dec.{ltb, leb, eqb}
use lib.ListN.{length}
use borrow.Author.Tests.{ltb-true, ltb-false, leb-true, eqb-true, eqb-false}
use Rattle.terms.specs.declared.TypeCode.{TypeCode}
use Rattle.terms.specs.declared.CellNumber.{CellNumber}
use Rattle.terms.specs.declared.Place.{Place}
use Rattle.terms.specs.declared.Place.TheVariants.{On, Before}
use Rattle.terms.specs.declared.Position.{Position}
use Rattle.terms.specs.declared.Argument.{Argument}
use Rattle.terms.specs.declared.Status.{Status}
use Rattle.terms.specs.declared.Status.TheVariants.{Blank, GP, CX, TX, PX, AD, AJ, AK, AH, AB, DJ}
use Rattle.terms.specs.Choice.{pick}
use Rattle.terms.specs.Names.{code, field}
use Rattle.terms.specs.Moves.{is_absent, place_number, after_place}
use Rattle.forest.specs.Good.{on, off, is, both_left, both_right, is_nil}
use Rattle.rules.specs.Block.{Bytes, byte, part}
use Rattle.rules.specs.Order.{is_value}
use Rattle.rules.specs.Catalogue.{field_length, field_value, is_type, type_beneath, good_catalogue}
use Rattle.rules.specs.Cells.{Segment, end_at}
use Rattle.rules.specs.Table.{cell_size, listing, good_table}
use Rattle.rules.specs.Position.{good_place, good_parentage, good_hold, good_position}
use Rattle.rules.specs.Arguments.{good_next, is_field_of, argument_at, arguments_from, list_read, last_argument, is_qualified}
use Rattle.rules.specs.Matching.{path_to}
use Rattle.rules.specs.Paths.{current_path}
use Rattle.rules.specs.Outcome.{is_blank, is_gnp, is_isrt, is_dlet, is_held, unsound, misused}
use Rattle.rules.proofs.Cells.{row-run}
use Rattle.rules.proofs.Choice.{pick-of}
use Rattle.model.proofs.Paths.{placed}
use Rattle.model.proofs.Parents.{never}

-- the same choice between answers that are the same
pub pick_same : {A : Type 0} (b : Bool) (x y z w : A) → (b ≡ true → x ≡ z) → (b ≡ false → y ≡ w) → pick b x y ≡ pick b z w
pick_same true x y z w f g = f refl
pick_same false x y z w f g = g refl

-- where a refusal would not be blank, a blank answer says that it was not given
pub passed : (b : Bool) (s u : Status) → (b ≡ true → is_blank s ≡ false) → is_blank (pick b s u) ≡ true → (b ≡ false) × (is_blank u ≡ true)
passed true s u f e = never (is_blank s) e (f refl)
passed false s u f e = (refl, e)

pub not-true : (b : Bool) → not b ≡ false → b ≡ true
not-true true e = refl
not-true false e = sym e

not-of : (b : Bool) → not b ≡ true → b ≡ false
not-of true e = sym e
not-of false e = refl

and-false : (a b : Bool) → (a && b) ≡ false → a ≡ true → b ≡ false
and-false true b e h = e
and-false false b e h = never false h refl

-- what holds of each of the nine calls holds of the call of a good number
pub by_number : (P : ℕ → Type 0) → P 1 → P 2 → P 3 → P 4 → P 5 → P 6 → P 7 → P 8 → P 9 → (c : ℕ) → 1 ≤ c → c ≤ 9 → P c
by_number P p1 p2 p3 p4 p5 p6 p7 p8 p9 c low high =
    step 1 low p1 (λ l2. step 2 l2 p2 (λ l3. step 3 l3 p3 (λ l4. step 4 l4 p4 (λ l5. step 5 l5 p5 (λ l6. step 6 l6 p6 (λ l7. step 7 l7 p7 (λ l8.
    step 8 l8 p8 (λ l9. step 9 l9 p9 (λ l. absurd (omega arith))))))))))
  where
    step : (k : ℕ) → k ≤ c → P k → (suc k ≤ c → P c) → P c
    step k l p f = elim (is (eqb c k)) [
      | on e ↦ subst P (sym (eqb-true c k e)) p
      | off e ↦ f (let n : (c ≡ k) → ⊥ = eqb-false c k e in omega arith)
    ]

-- 20, 21 and 22 not given
pub record Sound (cat tab : Bytes) (pos : Position) : Type 0 where
  pub catalogue : good_catalogue cat ≡ true
  pub table : good_table cat tab ≡ true
  pub position : good_position cat (listing cat tab) pos ≡ true

pub sound-of : (cat tab : Bytes) (pos : Position) → is_blank (unsound cat tab pos) ≡ true → Sound cat tab pos
unfolding unsound
sound-of cat tab pos e =
    let p : Status = pick (not (good_position cat (listing cat tab) pos)) PX Blank in
    let a = passed (not (good_catalogue cat)) CX (pick (not (good_table cat tab)) TX p) (λ h. refl) e in
    let b = passed (not (good_table cat tab)) TX p (λ h. refl) a.1 in
    let d = passed (not (good_position cat (listing cat tab) pos)) PX Blank (λ h. refl) b.1 in
    record {
      catalogue = not-true (good_catalogue cat) a.0;
      table = not-true (good_table cat tab) b.0;
      position = not-true (good_position cat (listing cat tab) pos) d.0;
    }

-- none of what is asked, from AD to DJ in the order of R61, is given
pub record Usable (cat : Bytes) (pos : Position) (c : ℕ) (list area : Bytes) : Type 0 where
  pub first : 1 ≤ c
  pub last : c ≤ 9
  pub read : is_blank (list_read cat list).fault ≡ true
  pub some : is_isrt c ≡ true → is_nil (list_read cat list).arguments ≡ false
  pub long : is_dlet c ≡ false → cell_size cat - 1 ≤ length area
  pub parent : is_gnp c ≡ true → is_absent pos.parentage ≡ false
  pub held : is_held c ≡ true → pos.hold ≡ true

pub usable-of : (cat : Bytes) (pos : Position) (c : ℕ) (list area : Bytes) → is_blank (misused cat pos c list area) ≡ true → Usable cat pos c list area
unfolding misused
usable-of cat pos c list area e =
    let ar : List Argument = (list_read cat list).arguments in
    let fault : Status = (list_read cat list).fault in
    let g : Bool = is_held c && not pos.hold in
    let f : Bool = is_gnp c && is_absent pos.parentage in
    let b : Bool = not (is_dlet c) && ltb (length area) (cell_size cat - 1) in
    let q : Bool = (is_isrt c && is_qualified (last_argument ar).qualification) || (is_held c && not (is_nil ar)) in
    let h : Bool = is_isrt c && is_nil ar in
    let s6 : Status = pick g DJ Blank in
    let s5 : Status = pick f GP s6 in
    let s4 : Status = pick b AB s5 in
    let s3 : Status = pick q AJ s4 in
    let s2 : Status = pick h AH s3 in
    let s1 : Status = pick (not (is_blank fault)) fault s2 in
    let r0 = passed (not (leb 1 c && leb c 9)) AD s1 (λ z. refl) e in
    let r1 = passed (not (is_blank fault)) fault s2 (not-of (is_blank fault)) r0.1 in
    let r2 = passed h AH s3 (λ z. refl) r1.1 in
    let r3 = passed q AJ s4 (λ z. refl) r2.1 in
    let r4 = passed b AB s5 (λ z. refl) r3.1 in
    let r5 = passed f GP s6 (λ z. refl) r4.1 in
    let r6 = passed g DJ Blank (λ z. refl) r5.1 in
    let n : (leb 1 c && leb c 9) ≡ true = not-true (leb 1 c && leb c 9) r0.0 in
    record {
      first = leb-true 1 c (both_left (leb 1 c) (leb c 9) n);
      last = leb-true c 9 (both_right (leb 1 c) (leb c 9) n);
      read = not-true (is_blank fault) r1.0;
      some = and-false (is_isrt c) (is_nil ar) r2.0;
      long = λ d. ltb-false (length area) (cell_size cat - 1) (and-false (not (is_dlet c)) (ltb (length area) (cell_size cat - 1)) r4.0 (rw d));
      parent = and-false (is_gnp c) (is_absent pos.parentage) r5.0;
      held = λ d. not-true pos.hold (and-false (is_held c) (not pos.hold) r6.0 d);
    }

-- an argument that was got has a type of the catalogue
module _ (cat list : Bytes) where
  next-type : (before t : TypeCode) → good_next cat list before t ≡ true → is_type cat t ≡ true
  unfolding good_next
  next-type before t h = both_left (is_type cat t) (eqb before.0 0 || type_beneath cat t before) h

  abbrev Named : Result Argument Status → Type 0
  Named (Ok a) = is_type cat a.code ≡ true
  Named (Err s) = Unit {0}

  named-at : (before : TypeCode) (at : ℕ) → Named (argument_at cat list before at)
  unfolding argument_at
  named-at before at = elim (is (good_next cat list before (code (byte list at)))) [
    | on h ↦
        let k : is_type cat (code (byte list at)) ≡ true = next-type before (code (byte list at)) h in
        rw h
        (pick-of Named (leb (length list) (at + 1)) (Err AJ) _ tt
        (pick-of Named (eqb (byte list (at + 1)) 0) (Ok _) _ k
        (pick-of Named (ltb 6 (byte list (at + 1))) (Err AJ) _ tt
        (pick-of Named (leb (length list) (at + 2)) (Err AJ) _ tt
        (pick-of Named (not (is_field_of cat list (code (byte list at)) (field (byte list (at + 2))))) (Err AK) _ tt
        (pick-of Named (ltb (length list) (at + 3 + field_length cat (field (byte list (at + 2))))) (Err AJ) _ tt
        (pick-of Named (not (is_value (field_value cat (field (byte list (at + 2)))) (part list (at + 3) (field_length cat (field (byte list (at + 2)))))))
        (Err AJ) (Ok _) tt k)))))))
    | off h ↦ rw h tt
  ]

  abbrev pub Typed : List Argument → Type 0
  Typed [] = Unit {0}
  Typed (a ∷ ar) = (is_type cat a.code ≡ true) × Typed ar

  typed-from : (n : ℕ) (before : TypeCode) (at : ℕ) → Typed (arguments_from cat list n before at).arguments
  unfolding arguments_from
  typed-from zero before at = tt
  typed-from (suc n) before at = elim (is (leb (length list) at)) [
    | on e ↦ rw (arguments_from, e) tt
    | off e ↦ go n before at e (argument_at cat list before at) refl (named-at before at) (λ t k. typed-from n t k)
  ]
    where
      go : (n : ℕ) (before : TypeCode) (at : ℕ) → leb (length list) at ≡ false → (r : Result Argument Status) → argument_at cat list before at ≡ r → Named r
          → ((t : TypeCode) (k : ℕ) → Typed (arguments_from cat list n t k).arguments) → Typed (arguments_from cat list (suc n) before at).arguments
      go n before at e (Err s) q h f = rw (arguments_from, e, q) tt
      go n before at e (Ok a) q h f = rw (arguments_from, e, q) (h, f a.code a.next)

  typed-last : (ar : List Argument) → Typed ar → is_nil ar ≡ false → is_type cat (last_argument ar).code ≡ true
  typed-last [] t e = never true refl e
  typed-last (a ∷ []) t e = t.0
  typed-last (a ∷ (b ∷ ar)) t e = typed-last (b ∷ ar) t.1 refl

  -- LAW: the last argument of a list that is not empty has a type of the catalogue
  pub last-type : is_nil (list_read cat list).arguments ≡ false → is_type cat (last_argument (list_read cat list).arguments).code ≡ true
  unfolding list_read
  last-type e = typed-last (list_read cat list).arguments (typed-from (length list) (code 0) 0) e

-- what a good position says
module _ (cat : Bytes) (cs : List Segment) where
  pub good-place : (pos : Position) → good_position cat cs pos ≡ true → good_place cat cs pos.place ≡ true
  unfolding good_position
  good-place pos e = both_left (good_place cat cs pos.place) (good_parentage cat cs pos.place pos.parentage)
      (both_left (good_place cat cs pos.place && good_parentage cat cs pos.place pos.parentage) (good_hold cat cs pos.place pos.hold) e)

  pub good-parentage : (pos : Position) → good_position cat cs pos ≡ true → good_parentage cat cs pos.place pos.parentage ≡ true
  unfolding good_position
  good-parentage pos e = both_right (good_place cat cs pos.place) (good_parentage cat cs pos.place pos.parentage)
      (both_left (good_place cat cs pos.place && good_parentage cat cs pos.place pos.parentage) (good_hold cat cs pos.place pos.hold) e)

  pub good-hold : (pos : Position) → good_position cat cs pos ≡ true → good_hold cat cs pos.place pos.hold ≡ true
  unfolding good_position
  good-hold pos e =
      both_right (good_place cat cs pos.place && good_parentage cat cs pos.place pos.parentage) (good_hold cat cs pos.place pos.hold) e

  -- LAW: the parentage lies before the place
  pub parent-before : (q : Place) (p : CellNumber) → good_place cat cs q ≡ true → good_parentage cat cs q (Some p) ≡ true
      → (p.0 < length cs) × (p.0 < after_place q)
  parent-before (On c) p g e =
      let l : c.0 < length cs = ltb-true c.0 (length cs) g in
      let r : (leb p.0 c.0 && ltb c.0 (end_at cat cs p.0)) ≡ true = sym (row-run cat cs p.0 c.0 l) ∙ e in
      let k : p.0 ≤ c.0 = leb-true p.0 c.0 (both_left (leb p.0 c.0) (ltb c.0 (end_at cat cs p.0)) r) in
      (omega arith, omega arith)
  parent-before (Before c) p g e =
      let l : c.0 ≤ length cs = leb-true c.0 (length cs) g in
      let k : p.0 < c.0 = ltb-true p.0 c.0 (both_left (ltb p.0 c.0) (leb c.0 (end_at cat cs p.0)) e) in
      (omega arith, k)

  -- LAW: a hold is on a cell
  pub held_on : (q : Place) (h : Bool) → good_place cat cs q ≡ true → good_hold cat cs q h ≡ true → h ≡ true → place_number q < length cs
  held_on (On c) h g e f = ltb-true c.0 (length cs) g
  held_on (Before c) h g e f = never h f (not-of h e)

  -- LAW: and the path to it is the current one
  pub held-path : (q : Place) (h : Bool) → good_hold cat cs q h ≡ true → h ≡ true → current_path (placed cat cs q) ≡ path_to cat cs (place_number q)
  held-path (On c) h e f = refl
  held-path (Before c) h e f = never h f (not-of h e)
