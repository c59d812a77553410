use mathlib.Core.Path.{sym}
use native.Mathlib.Omega.{arith}
use borrow.Author.Tests.{le-leb, lt-leb}
use Rattle.rules.specs.Arguments.{is_field_of}
use Rattle.rules.specs.Catalogue.{fields}
use Rattle.arguments.proofs.read.is_field_of.Goals as goal

pub returns-then-f-eq0 : goal.returns-then-f-eq0
unfolding is_field_of
returns-then-f-eq0 c = simp (lt-leb 1 c.args.f.0 (omega arith))

pub returns-then-fields-f : goal.returns-then-fields-f
unfolding is_field_of
returns-then-fields-f c = simp (
  le-leb 1 c.args.f.0 (omega arith),
  lt-leb c.args.f.0 (fields c.args.cat.now)
      (omega (arith, c.fields.ensures)),
)

pub returns : goal.returns
unfolding is_field_of
returns c = simp (
  le-leb 1 c.args.f.0 (omega arith),
  le-leb c.args.f.0 (fields c.args.cat.now)
      (omega (arith, c.fields.ensures)),
  sym
      c.field_type.ensures,
)
