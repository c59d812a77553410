-- Document 000 defines the calls over a forest: segments in rows of siblings, paths from the root, a list searched level by level, a segment cut out or
-- put in (rules, Tree; where the rules differ from 000 they are followed, and Tree says so). The rules speak of cells by number (rules, Calls). They
-- are one and the same: for every catalogue, table, position, call number, list and area the outcome by the forest is the outcome by the cells, in each byte
-- of the table and the area, in the answer and in the position. The refusals that look only at what is lent are one definition for both (rules, Outcome).
-- So a caller may think in trees, and what the code promises over cells holds of the trees. Assumes nothing: a definition, and the proof is in proofs/.
use Rattle.std.specs.Prelude.{◌≡◌, ℕ}
use Rattle.terms.specs.declared.Position.{Position}
use Rattle.rules.specs.Block.{Bytes}
use Rattle.rules.specs.Outcome.{Store}
use Rattle.rules.specs.Tree.{tree_outcome}

-- asked of a store; the promise is one (rules, outcome)
abbrev pub ModelIsCells : Store → Type 0
ModelIsCells store = (cat tab : Bytes) (pos : Position) (c : ℕ) (list area : Bytes) → tree_outcome cat tab pos c list area ≡ store cat tab pos c list area
