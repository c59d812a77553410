-- The calls over the FOREST of the segments, in the terms of document 000, appendix I; the numbers in brackets are its formulas. Where the rules
-- differ they decide, and the line cites them. What becomes of the position is said of paths (Paths), and not of cells.
-- Assumes nothing: these are definitions.
use Rattle.std.specs.Prelude.{Bool, true, false, ◌&&◌, ◌||◌, not, List, [], ◌∷◌, ◌++◌, map, ℕ, suc, ◌+◌, ◌-◌, ltb, leb, eqb, length, take, drop, get_or, None, Some, Option}
use Rattle.terms.specs.declared.TypeCode.{TypeCode}
use Rattle.terms.specs.declared.Place.{Place}
use Rattle.terms.specs.declared.Place.TheVariants.{On, Before}
use Rattle.terms.specs.declared.Position.{Position}
use Rattle.terms.specs.declared.Argument.{Argument}
use Rattle.terms.specs.declared.Status.{Status}
use Rattle.terms.specs.declared.Status.TheVariants.{Blank, GA, GK, GE, DA, II, FX, PD}
use Rattle.terms.specs.Choice.{pick}
use Rattle.terms.specs.Names.{same_type, Parentage}
use Rattle.forest.specs.Forest.{Forest, void, node, cells_of, forest_of}
use Rattle.forest.specs.Rows.{map_f}
use Rattle.forest.specs.Edit.{size, kids}
use Rattle.forest.specs.Runs.{prune, swap as swapped}
use Rattle.forest.specs.Insert.{graft, insert_under as graft_under}
use Rattle.forest.specs.Numbers.{range}
use Rattle.rules.specs.Block.{Bytes, same_bytes}
use Rattle.rules.specs.Catalogue.{key_kind}
use Rattle.rules.specs.Cells.{Segment, segment, arriving, shown_bytes, key, keyed, same_key, goes_before, segment_level, level_at}
use Rattle.rules.specs.Change.{nothing, put, swap, cut}
use Rattle.rules.specs.Arguments.{Level, last_argument, get_levels, parent_levels}
use Rattle.rules.specs.Matching.{agrees, is_implied}
use Rattle.rules.specs.Paths.{Path, end, Current, on_path, in_gap, Standing, current_path, follows, beneath, start, moved_to, moved_within, let_go, after_put, after_cut, numbered}
use Rattle.rules.specs.Calls.{After, bare, over, miss_status, answer_of, changed}
use Rattle.rules.specs.Outcome.{Store, outcome_of}

unfoldable pub select : (Path → Bool) → List Path → List Path
select t [] = []
select t (p ∷ ps) = elim (t p) [ true ↦ p ∷ select t ps | false ↦ select t ps ]

-- (15) all-paths, in hierarchic order, without the empty path
unfoldable pub all_paths : Forest ℕ → List Path
all_paths void = []
all_paths (node i k s) = (i ∷ []) ∷ (map (λ p. i ∷ p) (all_paths k) ++ all_paths s)

-- how many levels from the root down to and including the last implied one
unfoldable pub last_implied : List Level → ℕ
last_implied [] = 0
last_implied (l ∷ ls) = let k = last_implied ls in pick (ltb 0 k) (suc k) (pick (is_implied l.asked) 1 0)

module _ (cat : Bytes) (cs : List Segment) where
  -- (9) the data part
  unfoldable pub data_part : Forest ℕ
  data_part = forest_of (level_at cat cs) (range 0 (length cs))

  -- (16) get-DP: what lies beneath the end of a path; the whole, for the empty one
  abbrev pub get_dp : Path → Forest ℕ
  get_dp [] = data_part
  get_dp (i ∷ p) = kids (end (i ∷ p)) data_part

  -- (34) search: the paths that agree with a completed list level by level
  unfoldable pub search : List Level → Forest ℕ → List Path
  search [] dp = [] ∷ []
  search (l ∷ ls) void = []
  search (l ∷ ls) (node i k s) = elim (agrees cat l (segment cs i)) [
    | true ↦ map (λ p. i ∷ p) (search ls k) ++ search (l ∷ ls) s
    | false ↦ search (l ∷ ls) s
  ]

  -- (33) eval-Ssa-list; the empty list of a get selects all (R31)
  abbrev pub eval : List Level → List Path
  eval [] = all_paths data_part
  eval (l ∷ ls) = search (l ∷ ls) data_part

  -- (38) try-path: the length of the longest stretch of a path that satisfies the list
  unfoldable pub try_path : List Level → Path → ℕ
  try_path [] p = 0
  try_path (l ∷ ls) [] = 0
  try_path (l ∷ ls) (i ∷ p) = elim (agrees cat l (segment cs i)) [ true ↦ suc (try_path ls p) | false ↦ 0 ]

  -- (37) search-along-path, with k ≤ j: the last implied level is kept too (R30)
  unfoldable pub search_along : List Level → Path → List Path
  search_along ls cur =
      let k = last_implied (take (try_path ls cur) ls) in
      map (λ p. take k cur ++ p) (search (drop k ls) (get_dp (take k cur)))

  -- (36) eval-Ssa-list-P; from a gap as if nothing was kept (R31)
  abbrev pub eval_along : List Level → Current → List Path
  eval_along [] q = all_paths data_part
  eval_along (l ∷ ls) (on_path p) = search_along (l ∷ ls) p
  eval_along (l ∷ ls) (in_gap i) = search (l ∷ ls) data_part

  -- the path of the segment of this number
  abbrev pub path_at : ℕ → Path
  path_at i = get_or (all_paths data_part) i []

  -- a position as paths
  abbrev pub current_of : Place → Current
  current_of (On c) = on_path (path_at c.0)
  current_of (Before c) = in_gap c.0

  abbrev pub parent_path : Parentage → Option Path
  parent_path None = None
  parent_path (Some c) = Some (path_at c.0)

  abbrev pub standing : Position → Standing
  standing pos = record { current = current_of pos.place; parent = parent_path pos.parentage; hold = pos.hold }

  -- (9) the same forest with the segments themselves
  unfoldable pub segments : Forest Segment
  segments = map_f (segment cs) data_part

  -- GA and GK (R49): a path is as long as its segment is deep
  abbrev pub step_status : List Level → Current → Path → Status
  step_status [] (on_path q) p =
      pick (ltb (length p) (length q)) GA
      (pick (eqb (length p) (length q) && not (same_type (segment cs (end p)).code (segment cs (end q)).code)) GK Blank)
  step_status [] (in_gap i) p = Blank
  step_status (l ∷ ls) q p = Blank

  -- (48) find-position: how many segments, with all beneath them, stand before x in a row of siblings; R41 says where equal keys go
  unfoldable pub find_position : Segment → Forest Segment → ℕ
  find_position x void = 0
  find_position x (node c k s) = elim (goes_before cat x c) [ true ↦ 0 | false ↦ suc (size k) + find_position x s ]

  -- (49) whether one of a row of siblings has the key of x
  unfoldable pub has_key : Segment → Forest Segment → Bool
  has_key x void = false
  has_key x (node c k s) = same_key cat x c || has_key x s

  module _ (here : Standing) (area : Bytes) where
    -- nothing but the position may change, and the answer tells a status alone
    abbrev pub answered : Status → Standing → After
    answered s now = record { answer = bare s (numbered now); change = nothing; cells = None; area = area }

    -- (41) to (43) from the paths, which stand in hierarchic order, so that first-path (20) is the first. Where there is none, `pos` is what R62 and R63
    -- make of the position
    abbrev pub retrieved : Status → Standing → (Path → Status) → (Path → Standing) → List Path → After
    retrieved miss unfound status moved [] = answered miss unfound
    retrieved miss unfound status moved (p ∷ ps) = record {
      answer = answer_of cat (status p) (numbered (moved p)) (segment cs (end p)) 0;
      change = nothing;
      cells = None;
      area = over (shown_bytes cat (segment cs (end p))) area;
    }

    -- (41)
    unfoldable pub int_gu : Bool → List Level → After
    int_gu hold ls = retrieved GE (let_go here) (λ p. Blank) (λ p. moved_to p hold) (eval_along ls here.current)

    -- get-next found nothing more: with an empty list that is the end of the data base, and it begins anew (R63)
    abbrev pub ran_out : List Level → Standing
    ran_out [] = start
    ran_out (l ∷ ls) = let_go here

    -- (42); GB apart from GE (R50, R51)
    unfoldable pub int_gn : Bool → List Level → After
    int_gn hold ls =
        retrieved (miss_status ls) (ran_out ls) (step_status ls here.current) (λ p. moved_to p hold)
        (select (follows here.current) (eval ls))

    -- (43)
    unfoldable pub int_gnp : Bool → List Level → After
    int_gnp hold ls =
        retrieved GE (let_go here) (step_status ls here.current) (λ p. moved_within here.parent p hold)
        (select (λ p. follows here.current p && beneath here.parent p) (eval ls))

    -- (49) x as number r beneath inspos, in a row of siblings of which one has its key or none; dp' is the whole afterwards
    unfoldable pub put_under : ℕ → Segment → Path → Bool → ℕ → List Segment → After
    put_under m x inspos taken r dp' =
        pick (not (keyed cat x)) (answered PD here)
        (pick (eqb (key_kind cat x.code) 1 && taken) (answered II here)
        (pick (eqb (length cs) m) (answered FX here)
        (changed cat (numbered (after_put inspos r here)) x 0 (put r (x ∷ [])) dp' area)))

    -- (49) insert-rec into the row of siblings subdp, whose first segment has number i
    abbrev pub insert_rec : ℕ → Segment → Path → ℕ → Forest Segment → Forest Segment → After
    insert_rec m x inspos i subdp dp' = put_under m x inspos (has_key x subdp) (i + find_position x subdp) (cells_of dp')

    -- (47), (44) modify beneath the first path found
    abbrev pub insert_at : ℕ → Segment → List Path → After
    insert_at m x [] = answered GE (let_go here)
    insert_at m x (p ∷ ps) =
        insert_rec m x p (suc (end p)) (kids (end p) segments) (graft_under (segment_level cat) x (goes_before cat x) (end p) segments)

    -- (47) int-Isrt: the parent by the arguments before the last, and none for a root (R40)
    unfoldable pub int_isrt : ℕ → TypeCode → List Level → After
    int_isrt m t ls =
        let x = arriving cat t area in
        pick (eqb t.0 1) (insert_rec m x [] 0 segments (graft (segment_level cat) x (goes_before cat x) segments))
        (insert_at m x (eval_along ls here.current))

    -- (54), (55) the current segment's record replaced by x, which must have its key
    unfoldable pub exchanged : ℕ → Segment → List Segment → After
    exchanged i x dp' =
        pick (not (same_bytes (key cat (segment cs i)) (key cat x))) (answered DA here)
        (changed cat (numbered (let_go here)) x 0 (swap i x) dp' area)

    unfoldable pub int_repl : After
    int_repl =
        let i = end (current_path here.current) in
        let x = arriving cat (segment cs i).code area in
        exchanged i x (cells_of (swapped (segment_level cat) x i segments))

    -- (52) the segment of a path removed, with all beneath it
    unfoldable pub taken_out : Path → ℕ → List Segment → After
    taken_out p n dp' = changed cat (numbered (after_cut p here)) (segment cs (end p)) n (cut (end p) n) dp' area

    unfoldable pub int_dlet : After
    int_dlet =
        let p = current_path here.current in
        taken_out p (suc (size (kids (end p) segments))) (cells_of (prune (segment_level cat) (end p) segments))

    -- (26) a get by its kind, and the call of a number (R32): the hold forms come three later
    abbrev pub get_by_kind : ℕ → Bool → List Level → After
    get_by_kind k hold ls = pick (eqb k 1) (int_gu hold ls) (pick (eqb k 2) (int_gn hold ls) (int_gnp hold ls))

    unfoldable pub call_of : ℕ → ℕ → Bytes → List Argument → After
    call_of m c list ar =
        let ls = get_levels cat list ar in
        pick (leb c 3) (get_by_kind c false ls)
        (pick (leb c 6) (get_by_kind (c - 3) true ls)
        (pick (eqb c 7) (int_isrt m (last_argument ar).code (parent_levels cat list ar))
        (pick (eqb c 8) int_repl int_dlet)))

  -- the call at a position
  unfoldable pub interpreted : Position → Bytes → ℕ → ℕ → Bytes → List Argument → After
  interpreted pos area m c list ar = call_of (standing pos) area m c list ar

-- the promise again, by the forest
unfoldable pub tree_outcome : Store
tree_outcome cat tab pos c list area = outcome_of interpreted cat tab pos c list area
