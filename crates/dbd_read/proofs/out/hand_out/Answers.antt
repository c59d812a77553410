use mathlib.Core.Path.{sym, ◌∙◌}
use Rattle.dbd_read.proofs.HandedOut.{counted-by, out-no-room, out-no-names, out_both}
use Rattle.dbd_read.proofs.out.hand_out.Goals as goal
use Rattle.dbd_read.proofs.out.hand_out.Goals.{then-cat-top-via-then-cat-top, then-cat-top-via-else-cat-top+then-names-top}

pub returns-then-cat-top : goal.returns-then-cat-top
returns-then-cat-top c =
    let k = counted-by c.args.draft.now c.wide-top.result c.wide-last.result c.requires c.wide-top.ensures.0 c.wide-last.ensures.0 in
    elim c.then-cat-top.branch [
      | then-cat-top-via-then-cat-top w ↦ out-no-room _ _ _ k _ _ w.if-cat-top.true
      | then-cat-top-via-else-cat-top+then-names-top w ↦ out-no-names _ _ _ k _ _ w.if-cat-top.false w.if-names-top.true
    ]

pub put_catalogue-requires : goal.put_catalogue-requires
put_catalogue-requires c = record {
  counted = counted-by c.args.draft.now c.wide-top.result c.wide-last.result c.requires c.wide-top.ensures.0 c.wide-last.ensures.0;
  room = c.if-cat-top.false;
}

pub put_names-requires : goal.put_names-requires
put_names-requires c = record {
  counted = counted-by c.args.draft.now c.wide-top.result c.wide-last.result c.requires c.wide-top.ensures.0 c.wide-last.ensures.0;
  room = c.if-names-top.false;
}

pub returns : goal.returns
returns c =
    let k = counted-by c.args.draft.now c.wide-top.result c.wide-last.result c.requires c.wide-top.ensures.0 c.wide-last.ensures.0 in
    rw (c.from.ensures ∙ sym c.wide-top.ensures.0, c.from-2.ensures ∙ sym c.wide-last.ensures.0)
    (out_both _ _ _ k _ _ c.if-cat-top.false c.if-names-top.false _ _ c.put_catalogue.ensures c.put_names.ensures)
