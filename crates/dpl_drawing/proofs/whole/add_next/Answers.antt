use Rattle.std.proofs.Common.{rules, ◌<◌, sym, ◌∙◌, length, refl}
use Rattle.dpl_sign.proofs.ExcessLemmas.{kept_more}
use Rattle.dpl_drawing.proofs.InsertLemmas.{faces_more}
use Rattle.dpl_drawing.proofs.DrawnLemmas.{next_apart, edge_read}
use Rattle.dpl_drawing.proofs.LastLemmas.{last_first, last_second, lasts_drawn}
use Rattle.dpl_drawing.proofs.whole.add_next.Goals as goal

pub insert-requires-clause-apart : goal.insert-requires-clause-apart
insert-requires-clause-apart c = λ e. next_apart c.args.net.now _ _ (length c.args.all.now)
    (kept_more c.args.net.now c.args.all.now c.requires.edge) (sym c.next_from-next.ensures.value ∙ e)

pub next_from-next-requires-clause-last : goal.next_from-next-requires-clause-last
next_from-next-requires-clause-last c =
    let inside : length c.args.all.now < length c.as_slice.result.now = search rules in
    let edge = edge_read c.args.net.now.graph _ _ _ c.as_slice.ensures inside c.index-as_slice-edge.is in
    last_first c.args.net.now _ _ (length c.args.all.now) _ _ c.requires.lasts c.requires.edge edge refl

pub next_from-next_twin-requires-clause-last : goal.next_from-next_twin-requires-clause-last
next_from-next_twin-requires-clause-last c =
    let inside : length c.args.all.now < length c.as_slice.result.now = search rules in
    let edge = edge_read c.args.net.now.graph _ _ _ c.as_slice.ensures inside c.index-as_slice-edge.is in
    last_second c.args.net.now _ _ (length c.args.all.now) _ _ c.requires.lasts c.requires.edge edge refl

pub returns-clause-faces : goal.returns-clause-faces
returns-clause-faces c = faces_more c.args.net.now _ _ (length c.args.all.now) _ _ _ _
    (kept_more c.args.net.now c.args.all.now c.requires.edge) c.requires.faces c.next_from-next.ensures.value
    c.next_from-next_twin.ensures.value c.insert.ensures.value

pub returns-clause-lasts : goal.returns-clause-lasts
returns-clause-lasts c =
    let inside : length c.args.all.now < length c.as_slice.result.now = search rules in
    let edge = edge_read c.args.net.now.graph _ _ _ c.as_slice.ensures inside c.index-as_slice-edge.is in
    lasts_drawn c.args.net.now c.args.all.now _ _ _ c.requires.edge edge c.requires.lasts refl
