-- What a call leaves untouched, and what its result tells. Assumes nothing.
use Rattle.terms.specs.declared.CellNumber.{CellNumber}
use Rattle.std.specs.Prelude.{Some, None, Option}
use mathlib.Core.Path.{◌≡◌, refl, ap}
use mathlib.Core.Bool.{Bool, true, false, ◌&&◌, ◌||◌, not}
use mathlib.Core.List.{List, [], ◌∷◌}
use Prim.Native.Nat.{ℕ, ◌-◌, ◌<◌, ◌≤◌}
use native.Mathlib.Omega.{arith}
use lib.Dec.{ltb, leb, eqb}
use lib.ListN.{length}
use borrow.Author.Tests.{leb-true, leb-false, ne_eqb}
use Rattle.terms.specs.declared.Place.{Place}
use Rattle.terms.specs.declared.Place.TheVariants.{On, Before}
use Rattle.terms.specs.declared.Position.{Position}
use Rattle.terms.specs.declared.Argument.{Argument}
use Rattle.terms.specs.declared.Status.{Status}
use Rattle.terms.specs.declared.Status.TheVariants.{Blank, GA, GK, GB, GE, GP, CX, TX, PX, AD, AC, AJ, AK, AH, AB, DJ, DA, II, FX, PD}
use Rattle.terms.specs.Choice.{pick}
use Rattle.terms.specs.Names.{same_type, Parentage}
use Rattle.terms.specs.Statuses.{number}
use Rattle.terms.specs.Moves.{place_number, after_place, is_absent}
use Rattle.forest.specs.Numbers.{is_in}
use Rattle.forest.specs.Good.{is_nil}
use Rattle.rules.specs.Block.{Bytes, same_bytes}
use Rattle.rules.specs.Catalogue.{key_kind, good_catalogue}
use Rattle.rules.specs.Cells.{Segment, segment, segment_of, arriving, shown_bytes, long, key, keyed, level_at, run_at}
use Rattle.rules.specs.Table.{cell_size, room, listing, good_table}
use Rattle.rules.specs.Position.{good_position}
use Rattle.rules.specs.Arguments.{Level, list_read, last_argument, is_qualified, get_levels}
use Rattle.rules.specs.Matching.{first_match, along}
use Rattle.rules.specs.Change.{Change}
use Rattle.rules.specs.Calls.{After, refused, missed, miss_status, level_status, parent_end, gotten, key_taken, inserted, insert_among, insert_under}
use Rattle.rules.specs.Calls.{insert, replaced, replacement, replace, deleted, delete, changed, answer_of, get_unique, get_next, get_next_within, called}
use Rattle.rules.specs.Outcome.{is_blank, unsound, misused, stopped, unless, after_sound, after_call, landed}
use Rattle.rules.proofs.Choice.{pick-by, pick-of}
use Rattle.model.proofs.Asked.{Usable, usable-of}
use Rattle.demands.specs.StatusTable.{numbers, get, isrt, dlet, new, held}
use Rattle.demands.specs.Demand1.{Untouched}
use Rattle.demands.specs.Demand2.{Tells}
use Rattle.demands.proofs.Faults.{FaultOf, no-fault, type-fault, list-fault, field-fault, list-fault-of}
use Rattle.model.proofs.Asked.{by_number}

-- a status that is blank or 10 and above
abbrev pub Hard : Status → Type 0
Hard s = is_blank s ≡ false → 10 ≤ number s

hard-blank : Hard Blank
hard-blank e = absurd (let z : ◌≡◌ {A = ℕ} 0 1 = cc in omega arith)

hard-fault : {s : Status} → FaultOf s → Hard s
hard-fault no-fault = hard-blank
hard-fault type-fault = λ e. omega arith
hard-fault list-fault = λ e. omega arith
hard-fault field-fault = λ e. omega arith

pub hard-unsound : (cat tab : Bytes) (pos : Position) → Hard (unsound cat tab pos)
unfolding unsound
hard-unsound cat tab pos =
    pick-of Hard (not (good_catalogue cat)) CX _ (λ e. omega arith)
    (pick-of Hard (not (good_table cat tab)) TX _ (λ e. omega arith)
    (pick-of Hard (not (good_position cat (listing cat tab) pos)) PX Blank (λ e. omega arith) hard-blank))

pub hard-misused : (cat : Bytes) (pos : Position) (c : ℕ) (list area : Bytes) → Hard (misused cat pos c list area)
unfolding misused
hard-misused cat pos c list area =
    let ar : List Argument = (list_read cat list).arguments in
    pick-of Hard (not (leb 1 c && leb c 9)) AD _ (λ e. omega arith)
    (pick-of Hard (not (is_blank (list_read cat list).fault)) (list_read cat list).fault _ (hard-fault (list-fault-of cat list))
    (pick-of Hard (eqb c 7 && is_nil ar) AH _ (λ e. omega arith)
    (pick-of Hard ((eqb c 7 && is_qualified (last_argument ar).qualification) || ((eqb c 8 || eqb c 9) && not (is_nil ar))) AJ _ (λ e. omega arith)
    (pick-of Hard (not (eqb c 9) && ltb (length area) (cell_size cat - 1)) AB _ (λ e. omega arith)
    (pick-of Hard ((eqb c 3 || eqb c 6) && is_absent pos.parentage) GP _ (λ e. omega arith)
    (pick-of Hard ((eqb c 8 || eqb c 9) && not pos.hold) DJ Blank (λ e. omega arith) hard-blank))))))

-- every status is one of the table's
pub number-known : (s : Status) → is_in (number s) numbers ≡ true
number-known Blank = refl
number-known GA = refl
number-known GK = refl
number-known GB = refl
number-known GE = refl
number-known GP = refl
number-known CX = refl
number-known TX = refl
number-known PX = refl
number-known AD = refl
number-known AC = refl
number-known AJ = refl
number-known AK = refl
number-known AH = refl
number-known AB = refl
number-known DJ = refl
number-known DA = refl
number-known II = refl
number-known FX = refl
number-known PD = refl

nor-both : (a b : Bool) → b ≡ false → (a && b) ≡ false
nor-both true b e = e
nor-both false b e = refl

high-hard : (s : Status) → 10 ≤ number s → is_blank s ≡ false
high-hard s l = ne_eqb (number s) 0 (λ e. omega arith)

module _ (cat tab : Bytes) (pos : Position) (list area : Bytes) where
  abbrev cs : List Segment
  cs = listing cat tab

  -- what is said of a call c that leaves a: nothing is touched from 10 on, and the result tells
  pub record Says (c : ℕ) (a : After) : Type 0 where
    pub high : 20 ≤ number a.answer.status → a ≡ refused a.answer.status pos area
    pub low : 10 ≤ number a.answer.status → number a.answer.status < 20 → a ≡ missed a.answer.status pos area
    pub tells : Tells cat tab pos c list area (landed cat tab a)

  says-refused : (c : ℕ) (s : Status) → 20 ≤ number s → Says c (refused s pos area)
  says-refused c s l = record {
    high = λ h. refl;
    low = λ h k. absurd (omega arith);
    tells = record { done = λ h. absurd (omega arith); removed = rw (nor-both (dlet c) (is_blank s) (high-hard s (omega arith))) };
  }

  says-missed : (c : ℕ) (s : Status) → 10 ≤ number s → number s < 20 → Says c (missed s pos area)
  says-missed c s l m = record {
    high = λ h. absurd (omega arith);
    low = λ h k. refl;
    tells = record { done = λ h. absurd (omega arith); removed = rw (nor-both (dlet c) (is_blank s) (high-hard s l)) };
  }

  says-unless : (c : ℕ) (s : Status) (done : After) → Hard s → (is_blank s ≡ true → Says c done) → Says c (unless s pos area done)
  unfolding unless stopped
  says-unless c s done h f =
      pick-by (Says c) (is_blank s) done _ f
      (λ e. pick-by (Says c) (leb 20 (number s)) (refused s pos area) (missed s pos area)
      (λ k. says-refused c s (leb-true 20 (number s) k)) (λ k. says-missed c s (h e) (leb-false 20 (number s) k)))

  says-gotten : (c : ℕ) → get c ≡ true → dlet c ≡ false → (miss : Status) → 10 ≤ number miss → number miss < 20 → (status : ℕ → Status)
      → ((i : ℕ) → number (status i) < 10)
      → (parentage : ℕ → Parentage) (hold : Bool) (f : Option CellNumber) → Says c (gotten cat cs pos area miss status parentage hold f)
  unfolding answer_of long shown_bytes
  says-gotten c g d miss l m status low parentage hold None = says-missed c miss l m
  says-gotten c g d miss l m status low parentage hold (Some i) = record {
    high = λ h. absurd (omega (arith, low i.0));
    low = λ h k. absurd (omega (arith, low i.0));
    tells = record {
      done = λ h. record { code = rw g; level = rw g; length = rw g; written = rw g };
      removed = rw d;
    };
  }

  pick_low : (b : Bool) (s u : Status) → number s < 10 → number u < 10 → number (pick b s u) < 10
  pick_low true s u l m = l
  pick_low false s u l m = m

  pub level-low : (ls : List Level) (q : Place) (i : ℕ) → number (level_status cat cs ls q i) < 10
  level-low [] (On c) i =
      pick_low (ltb (level_at cat cs i) (level_at cat cs c.0)) GA _ (omega arith)
      (pick_low (eqb (level_at cat cs i) (level_at cat cs c.0) && not (same_type (segment cs i).code (segment cs c.0).code)) GK Blank
      (omega arith) (omega arith))
  level-low [] (Before c) i = omega arith
  level-low (l ∷ ls) q i = omega arith

  pub miss-high : (ls : List Level) → 10 ≤ number (miss_status ls)
  miss-high [] = omega arith
  miss-high (l ∷ ls) = omega arith

  pub miss-low : (ls : List Level) → number (miss_status ls) < 20
  miss-low [] = omega arith
  miss-low (l ∷ ls) = omega arith

  says-unique : (c : ℕ) → get c ≡ true → dlet c ≡ false → (hold : Bool) (ls : List Level) → Says c (get_unique cat cs pos area hold ls)
  unfolding get_unique
  says-unique c g d hold ls = says-gotten c g d GE (omega arith) (omega arith) (λ i. Blank) (λ i. omega arith) _ hold (along cat cs ls pos.place)

  says-next : (c : ℕ) → get c ≡ true → dlet c ≡ false → (hold : Bool) (ls : List Level) → Says c (get_next cat cs pos area hold ls)
  unfolding get_next
  says-next c g d hold ls =
      says-gotten c g d (miss_status ls) (miss-high ls) (miss-low ls) (level_status cat cs ls pos.place) (level-low ls pos.place) _ hold
      (first_match cat cs ls (after_place pos.place) (length cs))

  says-within : (c : ℕ) → get c ≡ true → dlet c ≡ false → (hold : Bool) (ls : List Level) → Says c (get_next_within cat cs pos area hold ls)
  unfolding get_next_within
  says-within c g d hold ls =
      says-gotten c g d GE (omega arith) (omega arith) (level_status cat cs ls pos.place) (level-low ls pos.place) _ hold
      (first_match cat cs ls (after_place pos.place) (parent_end cat cs pos.parentage))

  -- ISRT, REPL and DLET done
  says-changed : (c : ℕ) → get c ≡ false → (p : Position) (x : Segment)
      → x.code ≡ (pick (isrt c) (new cat tab pos c list area) (held cat tab pos c list area)).code
      → (n : ℕ) → n ≡ pick (dlet c && true) (run_at cat cs (place_number pos.place)) 0 → (ch : Change) (ds : List Segment)
      → Says c (changed cat p x n ch ds area)
  unfolding changed answer_of long
  says-changed c g p x e n k ch ds = record {
    high = λ h. absurd (omega arith);
    low = λ h l. absurd (omega arith);
    tells = record { done = λ h. record { code = rw g e; level = rw (g, e); length = rw (g, e); written = rw g }; removed = k };
  }

  says-inserted : (m : ℕ) (above : List ℕ) (b : Bool) (r : ℕ) (ds : List Segment)
      → Says 7 (inserted cat cs pos area m (new cat tab pos 7 list area) above b r ds)
  unfolding inserted arriving segment_of
  says-inserted m above b r ds =
      pick-by (Says 7) (not (keyed cat (new cat tab pos 7 list area))) _ _ (λ k. says-refused 7 PD (omega arith))
      (λ k. pick-by (Says 7) (eqb (key_kind cat (last_argument (list_read cat list).arguments).code) 1 && b) _ _ (λ e. says-refused 7 II (omega arith))
      (λ e. pick-by (Says 7) (eqb (length cs) m) _ _ (λ f. says-refused 7 FX (omega arith))
      (λ f. says-changed 7 refl _ (new cat tab pos 7 list area) refl 0 refl _ ds)))

  says-among : (m : ℕ) (above : List ℕ) (i n : ℕ) → Says 7 (insert_among cat cs pos area m (new cat tab pos 7 list area) above i n)
  unfolding insert_among
  says-among m above i n = says-inserted m above (key_taken cat cs (new cat tab pos 7 list area) i n) _ _

  says-beneath : (m : ℕ) (f : Option CellNumber) → Says 7 (insert_under cat cs pos area m (new cat tab pos 7 list area) f)
  says-beneath m None = says-missed 7 GE (omega arith) (omega arith)
  says-beneath m (Some c) = says-among m _ _ _

  says-insert : (m : ℕ) (ls : List Level) → Says 7 (insert cat cs pos area m (last_argument (list_read cat list).arguments).code ls)
  unfolding insert
  says-insert m ls =
      pick-by (Says 7) (eqb (last_argument (list_read cat list).arguments).code.0 1) _ _ (λ e. says-among m _ _ _)
      (λ e. says-beneath m (along cat cs ls pos.place))

  says-replace : Says 8 (replace cat cs pos area)
  unfolding replace replaced replacement arriving segment_of
  says-replace =
      let i : ℕ = place_number pos.place in
      pick-by (Says 8) (not (same_bytes (key cat (segment cs i)) (key cat (replacement cat cs pos area i)))) _ _ (λ e. says-refused 8 DA (omega arith))
      (λ e. says-changed 8 refl _ (replacement cat cs pos area i) refl 0 refl _ _)

  says-delete : Says 9 (delete cat cs pos area)
  unfolding delete deleted
  says-delete = says-changed 9 refl _ (segment cs (place_number pos.place)) refl (run_at cat cs (place_number pos.place)) refl _ _

  says-called : (m c : ℕ) → 1 ≤ c → c ≤ 9 → Says c (called cat cs pos area m c list (list_read cat list).arguments)
  unfolding called
  says-called m c low high =
      let ls : List Level = get_levels cat list (list_read cat list).arguments in
      by_number (λ (k : ℕ). Says k (called cat cs pos area m k list (list_read cat list).arguments))
      (says-unique 1 refl refl false ls) (says-next 2 refl refl false ls) (says-within 3 refl refl false ls)
      (says-unique 4 refl refl true ls) (says-next 5 refl refl true ls) (says-within 6 refl refl true ls)
      (says-insert m _) says-replace says-delete c low high

  -- LAW: every call
  pub says-outcome : (c : ℕ) → Says c (after_call called cat tab pos c list area)
  unfolding after_call after_sound
  says-outcome c =
      says-unless c (unsound cat tab pos) _ (hard-unsound cat tab pos)
      (λ e. says-unless c (misused cat pos c list area) _ (hard-misused cat pos c list area)
      (λ f. let u : Usable cat pos c list area = usable-of cat pos c list area f in says-called (room cat tab) c u.first u.last))

  -- a call that leaves this is untouched
  pub untouched : (p : Position) (a : After) → a ≡ refused a.answer.status p area → Untouched tab area p (landed cat tab a)
  untouched p a e = record {
    table = ap (λ (x : After). (landed cat tab x).table) e;
    area = ap (λ (x : After). x.area) e;
    position = ap (λ (x : After). x.answer.position) e;
    code = ap (λ (x : After). x.answer.code.0) e;
    level = ap (λ (x : After). x.answer.level) e;
    length = ap (λ (x : After). x.answer.length) e;
    removed = ap (λ (x : After). x.answer.removed) e;
  }
