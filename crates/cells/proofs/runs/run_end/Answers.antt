use mathlib.Core.Path.{ap, ◌∙◌}
use native.Mathlib.Omega.{arith}
use Rattle.terms.specs.declared.TypeCode.{TypeCode}
use Rattle.rules.proofs.Cells.{listing-length}
use Rattle.cells.proofs.Start.{inside-less, inside-sized}
use Rattle.cells.proofs.Ancestry.{sound-listing, own-type, end-run}
use Rattle.cells.proofs.runs.run_end.Goals as goal

pub last_beneath-last-requires : goal.last_beneath-last-requires
last_beneath-last-requires c = let o = own-type _ _ c.requires.0.catalogue
    (sound-listing c.requires.0) c.args.c.0
    (omega (arith, c.requires.1, listing-length c.args.cat.now c.args.tab.now)) in let e = ap
    (λ (x : TypeCode). x.0) c.code_at-t.ensures in
    (c.requires.0.catalogue, omega arith, omega arith)

pub end_from-requires : goal.end_from-requires
end_from-requires c = inside-less (inside-sized c.requires.0.sized) _
    (omega (arith, c.requires.1, c.count.ensures.0))

pub returns : goal.returns
returns c = c.end_from.ensures ∙ end-run c.requires.0 c.args.c.0 c.requires.1 c.code_at-t.result _ _ c.code_at-t.ensures
    c.last_beneath-last.ensures c.count.ensures.0
