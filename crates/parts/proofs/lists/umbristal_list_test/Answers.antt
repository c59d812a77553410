use mathlib.Core.Path.{◌∙◌}
use native.Mathlib.Omega.{arith}
use Rattle.parts.proofs.Written.{test-none, test-unlike, test-cut, test-some}
use Rattle.parts.proofs.lists.umbristal_list_test.Goals as goal
use Rattle.parts.proofs.lists.umbristal_list_test.Goals.{then-operator-eq0-via-then-operator-eq0}
use Rattle.parts.proofs.lists.umbristal_list_test.Goals.{then-operator-eq0-via-else-operator-eq0+then-value-long}
use Rattle.parts.proofs.lists.umbristal_list_test.Goals.{then-operator-eq0-via-else-operator-eq0+else-value-long+then-used-gt1842}
use Rattle.parts.proofs.lists.umbristal_list_test.Goals.{then-operator-eq0-via-else-operator-eq0+else-value-long+else-used-gt1842+then-used-long}

pub returns-then-operator-eq0 : goal.returns-then-operator-eq0
returns-then-operator-eq0 c =
    let long = c.wide-long.ensures.0 ∙ c.field_length.ensures in
    rw (c.spoil.ensures.0, c.spoil.ensures.1) (elim c.then-operator-eq0.branch [
      | then-operator-eq0-via-then-operator-eq0 w ↦ test-none _ _ _ _ _ _ _ w.if-operator-eq0.true
      | then-operator-eq0-via-else-operator-eq0+then-value-long w ↦ test-unlike _ _ _ _ _ _ _ w.if-operator-eq0.false _ long w.if-value-long.true
      | then-operator-eq0-via-else-operator-eq0+else-value-long+then-used-gt1842 w ↦
          test-cut _ _ _ _ _ _ _ w.if-operator-eq0.false _ long w.if-value-long.false (omega arith)
      | then-operator-eq0-via-else-operator-eq0+else-value-long+else-used-gt1842+then-used-long w ↦
          test-cut _ _ _ _ _ _ _ w.if-operator-eq0.false _ long w.if-value-long.false (omega arith)
    ])

pub returns : goal.returns
returns c = test-some _ _ _ _ _ _ _ c.if-operator-eq0.false c.wide-long.result (c.wide-long.ensures.0 ∙ c.field_length.ensures) c.if-value-long.false _
    (omega arith) c.put_test.ensures
