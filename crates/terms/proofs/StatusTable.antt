-- `number` and `letters` are the columns of Paper.antt's statuses (R48), and tell the statuses apart. Assumes nothing.
use Rattle.std.specs.Prelude.{Some}
use mathlib.Core.Path.{◌≡◌, refl, sym, ap, ◌∙◌}
use mathlib.Core.List.{List, [], ◌∷◌}
use Prim.Native.Nat.{ℕ, ◌+◌, ◌*◌}
use lib.Dec.{eqb}
use lib.ListN.{get_or}
use Rattle.terms.specs.declared.Status.{Status}
use Rattle.terms.specs.declared.Status.TheVariants.{Blank, GA, GK, GB, GE, GP, CX, TX, PX, AD, AC, AJ, AK, AH, AB, DJ, DA, II, FX, PD}
use Rattle.terms.specs.Choice.{pick}
use Rattle.terms.specs.Statuses.{number, letters}
use Rattle.terms.specs.Paper.{printed_row, StatusRow, printed_statuses}
use Rattle.terms.specs.Printed.{StatusesPrinted, NumbersApart, LettersApart}
use Rattle.terms.proofs.Rows.{own_line}

-- where each stands
abbrev line : Status → ℕ
line Blank = 0
line GA = 1
line GK = 2
line GB = 3
line GE = 4
line GP = 5
line CX = 6
line TX = 7
line PX = 8
line AD = 9
line AC = 10
line AJ = 11
line AK = 12
line AH = 13
line AB = 14
line DJ = 15
line DA = 16
line II = 17
line FX = 18
line PD = 19

-- CLAIM: the row there holds its number and its letters
status-rows : (s : Status) → printed_row printed_statuses (line s) ≡ Some (record { status = s; number = number s; letters = letters s })
unfolding printed_statuses
status-rows Blank = refl
status-rows GA = refl
status-rows GK = refl
status-rows GB = refl
status-rows GE = refl
status-rows GP = refl
status-rows CX = refl
status-rows TX = refl
status-rows PX = refl
status-rows AD = refl
status-rows AC = refl
status-rows AJ = refl
status-rows AK = refl
status-rows AH = refl
status-rows AB = refl
status-rows DJ = refl
status-rows DA = refl
status-rows II = refl
status-rows FX = refl
status-rows PD = refl

-- THEOREM: the status table is as printed
pub statuses-printed : StatusesPrinted
unfolding printed_statuses
statuses-printed s = record {
  line = line s;
  row = status-rows s;
  once = λ i r there same. own_line (λ (q : StatusRow). line q.status) printed_statuses tt i r there ∙ ap line same;
}

-- the status of a number and of two letters, looked up in the table
abbrev by_number : ℕ → List StatusRow → Status
by_number n [] = Blank
by_number n (r ∷ rs) = pick (eqb n r.number) r.status (by_number n rs)

abbrev joined : List ℕ → ℕ
joined l = 256 * get_or l 0 0 + get_or l 1 0

abbrev by_letters : List ℕ → List StatusRow → Status
by_letters l [] = Blank
by_letters l (r ∷ rs) = pick (eqb (joined l) (joined r.letters)) r.status (by_letters l rs)

number-told : (s : Status) → by_number (number s) printed_statuses ≡ s
unfolding printed_statuses
number-told Blank = refl
number-told GA = refl
number-told GK = refl
number-told GB = refl
number-told GE = refl
number-told GP = refl
number-told CX = refl
number-told TX = refl
number-told PX = refl
number-told AD = refl
number-told AC = refl
number-told AJ = refl
number-told AK = refl
number-told AH = refl
number-told AB = refl
number-told DJ = refl
number-told DA = refl
number-told II = refl
number-told FX = refl
number-told PD = refl

letters-told : (s : Status) → by_letters (letters s) printed_statuses ≡ s
unfolding printed_statuses
letters-told Blank = refl
letters-told GA = refl
letters-told GK = refl
letters-told GB = refl
letters-told GE = refl
letters-told GP = refl
letters-told CX = refl
letters-told TX = refl
letters-told PX = refl
letters-told AD = refl
letters-told AC = refl
letters-told AJ = refl
letters-told AK = refl
letters-told AH = refl
letters-told AB = refl
letters-told DJ = refl
letters-told DA = refl
letters-told II = refl
letters-told FX = refl
letters-told PD = refl

-- THEOREM: no two statuses share a number
pub numbers_apart : NumbersApart
numbers_apart s t same = sym (number-told s) ∙ ap (λ (n : ℕ). by_number n printed_statuses) same ∙ number-told t

-- THEOREM: no two statuses share letters
pub letters-apart : LettersApart
letters-apart s t same = sym (letters-told s) ∙ ap (λ (l : List ℕ). by_letters l printed_statuses) same ∙ letters-told t
