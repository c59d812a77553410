-- The promise meets demand 3. Assumes nothing.
use Rattle.std.specs.Prelude.{Some}
use mathlib.Core.Path.{◌≡◌, refl, ap, ◌∙◌}
use mathlib.Core.Bool.{Bool, true, false}
use mathlib.Core.List.{List, [], ◌∷◌, ◌++◌, map}
use Prim.Native.Nat.{ℕ, suc, ◌-◌, ◌<◌, ◌≤◌}
use native.Mathlib.Omega.{arith}
use lib.ListN.{length}
use Rattle.terms.specs.declared.Argument.{Argument}
use Rattle.terms.specs.declared.Position.{Position}
use Rattle.terms.specs.declared.Status.TheVariants.{Blank, GE}
use Rattle.terms.specs.Names.{code}
use Rattle.forest.specs.Good.{is_nil}
use Rattle.forest.specs.Numbers.{range}
use Rattle.rules.specs.Block.{Bytes}
use Rattle.rules.specs.Catalogue.{good_catalogue}
use Rattle.rules.specs.Cells.{end_at}
use Rattle.rules.specs.Table.{count, listing}
use Rattle.rules.specs.Position.{good_position}
use Rattle.rules.specs.Arguments.{ListRead, Level, list_read, complete, last_argument, get_levels}
use Rattle.rules.specs.Matching.{matches}
use Rattle.rules.specs.Calls.{miss_status}
use Rattle.rules.proofs.Cells.{listing-length}
use Rattle.arguments.specs.Sound.{SoundList, Downward}
use Rattle.arguments.proofs.Sound.{sound-down, list-empty, list-filled}
use Rattle.rules.specs.Outcome.{outcome}
use Rattle.report_loops.specs.Loops.{State, promised, start, loop}
use Rattle.report_loops.specs.Plain.{filter, meets, picked}
use Rattle.report_loops.specs.Demand3.{single, nested, seen_at, Ascending, no_more, Accepted, Cut, Reports, Demand3}
use Rattle.report_loops.proofs.Hits.{hits, hits-same, ascending-range}
use Rattle.report_loops.proofs.Scan.{after, Done, loop-seeks}
use Rattle.report_loops.proofs.Nest.{Nests, nested-seeks}
use Rattle.arguments.proofs.Cut.{parts}
use Rattle.report_loops.proofs.Asked.{last-type, asks}
use Rattle.report_loops.proofs.Matches.{levels-some, matches-meets, get-levels, tests-nest}
use Rattle.report_loops.proofs.Gets.{Fit, Under, start-fit, good-within, good-listing, gn-seeks, gnp-seeks}

-- the test of a list
abbrev pub test : Bytes → Bytes → Bytes → ℕ → Bool
test cat tab list = matches cat (listing cat tab) (get_levels cat list (list_read cat list).arguments)

some-missed : (ls : List Level) → 0 < length ls → miss_status ls ≡ GE
some-missed [] l = absurd (omega arith)
some-missed (x ∷ ls) l = refl

-- the status where no cell is left
miss-is : (cat : Bytes) → good_catalogue cat ≡ true → (list : Bytes) → (list_read cat list).fault ≡ Blank → miss_status (get_levels cat list (list_read cat list).arguments) ≡ no_more list
miss-is cat g [] f = ap (λ (r : ListRead). miss_status (get_levels cat [] r.arguments)) (list-empty cat [] refl)
miss-is cat g (x ∷ xs) f =
    let list : Bytes = x ∷ xs in
    let s : SoundList cat list = record { catalogue = g; read = f } in
    let ar : List Argument = (list_read cat list).arguments in
    let n : is_nil ar ≡ false = list-filled cat list s (omega arith) in
    rw (get-levels cat list ar n) (some-missed (complete cat list ar (last_argument ar).code) (levels-some cat g list ar (last_argument ar).code (last-type cat list g ar n (sound-down cat list s))))

more-missed : (list : Bytes) → 0 < length list → no_more list ≡ GE
more-missed [] l = absurd (omega arith)
more-missed (x ∷ xs) l = refl

module _ (cat tab area : Bytes) where
  abbrev pub n : ℕ
  n = length (listing cat tab)

  whole : n - 0 ≡ count tab
  whole = omega (arith, listing-length cat tab)

  -- the cells that match are those that are picked
  pub hits-picked : (list : Bytes) → Accepted cat tab list area → hits (test cat tab list) 0 n ≡ picked cat tab list
  unfolding picked
  hits-picked list A =
      let ar : List Argument = (list_read cat list).arguments in
      let plain : ℕ → Bool = meets cat list (listing cat tab) ar in
      let d : Downward cat list (code 0) ar = sound-down cat list (record { catalogue = A.catalogue; read = A.read }) in
      hits-same (test cat tab list) plain 0 n (λ i a l. matches-meets cat (listing cat tab) A.catalogue (good-listing cat tab A.catalogue A.table) list ar d i l)
      ∙ ap (λ (m : ℕ). filter plain (range 0 m)) whole

  -- get-next alone, with any list, from any state that fits
  module _ (list : Bytes) (A : Accepted cat tab list area) where
    abbrev fits : State → Type 0
    fits = Fit cat tab A.catalogue A.table

    scanned : (k : ℕ) → count tab < k → (s : State) → fits s → after s ≤ n → Done (seen_at cat tab) fits (test cat tab list) n (no_more list) s (loop (promised cat 2 list) k s)
    scanned k l s f a =
        loop-seeks (seen_at cat tab) fits (Under cat tab A.catalogue A.table) (test cat tab list) n (no_more list) (promised cat 2 list)
        (gn-seeks cat tab A.catalogue A.table list A.read (no_more list) (miss-is cat A.catalogue list A.read))
        (λ p s U. U.fit) k s f a (omega (arith, whole))

    single-reports : (k : ℕ) → count tab < k → Reports cat tab (single (promised cat) tab area k list) (picked cat tab list) (no_more list)
    single-reports k l =
        let r = scanned k l (start tab area) (start-fit cat tab A.catalogue A.table area A.long) (omega arith) in
        record { shows = r.seen ∙ ap (map (seen_at cat tab)) (hits-picked list A); ends = r.last }

    single-ends : (pos : Position) → good_position cat (listing cat tab) pos ≡ true → (loop (promised cat 2 list) (suc (count tab)) (record { table = tab; position = pos; area = area })).last ≡ Some (no_more list)
    single-ends pos p =
        (scanned (suc (count tab)) (omega arith) (record { table = tab; position = pos; area = area }) (record { table = refl; position = p; area = A.long }) (good-within cat (listing cat tab) pos p)).last

  module _ (one two : Bytes) (A : Accepted cat tab (one ++ two) area) (C : Cut cat one two) where
    abbrev g : good_catalogue cat ≡ true
    g = A.catalogue

    second-read : (list_read cat two).fault ≡ Blank
    second-read = (parts cat one two C.second C.between A.read).second

    -- the tests of the two lists, and of the joined one
    pub nests : Nests n (end_at cat (listing cat tab)) (test cat tab one) (test cat tab two) (test cat tab (one ++ two))
    nests =
        let p = parts cat one two C.second C.between A.read in
        let s₁ : SoundList cat one = record { catalogue = g; read = C.between } in
        let s₂ : SoundList cat two = record { catalogue = g; read = p.second } in
        let s₃ : SoundList cat (one ++ two) = record { catalogue = g; read = A.read } in
        let l : List Argument = (list_read cat one).arguments in
        let m : List Argument = (list_read cat two).arguments in
        let x : is_nil l ≡ false = list-filled cat one s₁ C.first in
        let y : is_nil m ≡ false = list-filled cat two s₂ C.second in
        rw p.joined (tests-nest cat (listing cat tab) g (good-listing cat tab g A.table) one two l m x y
        (asks cat one two g l m x y (sound-down cat one s₁) (sound-down cat two s₂) (rw p.joined at (sound-down cat (one ++ two) s₃))))

    nested-reports : (k : ℕ) → count tab < k → Reports cat tab (nested (promised cat) tab area k one two) (picked cat tab (one ++ two)) GE
    nested-reports k l =
        let h = A.table in
        let m : n < k = omega (arith, whole) in
        let r = nested-seeks n (end_at cat (listing cat tab)) (test cat tab one) (test cat tab two) (test cat tab (one ++ two)) nests (seen_at cat tab) (Fit cat tab g h) (Under cat tab g h)
        (promised cat 2 one) (promised cat 3 two)
        (gn-seeks cat tab g h one C.between GE (miss-is cat g one C.between ∙ more-missed one C.first)) (gnp-seeks cat tab g h two second-read)
        (λ p s U. U.fit) k m k (start tab area) (start-fit cat tab g h area A.long) refl m in
        record { shows = r.0 ∙ ap (map (seen_at cat tab)) (hits-picked (one ++ two) A); ends = r.1 }

joined-some : (one two : Bytes) → 0 < length one → 0 < length (one ++ two)
joined-some [] two l = absurd (omega arith)
joined-some (x ∷ one) two l = omega arith

picked-ascends : (cat tab list : Bytes) → Ascending (picked cat tab list)
unfolding picked
picked-ascends cat tab list = ascending-range (meets cat list (listing cat tab) (list_read cat list).arguments) (count tab) 0

-- the promise meets DEMAND 3
pub demand3 : Demand3 outcome
demand3 = record {
  agree = λ cat tab one two area A C k l. let s = single-reports cat tab area (one ++ two) A k l in (
    nested-reports cat tab area one two A C k l,
    record { shows = s.shows; ends = s.ends ∙ ap Some (more-missed (one ++ two) (joined-some one two C.first)) },
    picked-ascends cat tab (one ++ two),
  );
  read = λ cat tab list area A k l. single-reports cat tab area list A k l;
  end = λ cat tab list area pos A p. single-ends cat tab area list A pos p;
}
