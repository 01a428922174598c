use Rattle.std.proofs.Common.{arith, rules, ◌≡◌, ap, length}
use Rattle.dpl_sign.specs.Drawings.{is_in}
use Rattle.dpl_sign.specs.Excess.{kept_edges, all_edges}
use Rattle.dpl_drawing.proofs.ExcessTotal.{excess_total, drawn_faces_same}
use Rattle.dpl_drawing.proofs.KeptLemmas.{all_kept}
use Rattle.dpl_drawing.proofs.drawn.excess_over.Goals as goal

pub returns-then-is_empty : goal.returns-then-is_empty
returns-then-is_empty c =
    let net = c.args.net.now in
    let none : length c.args.aside.now ≡ 0 = search rules in
    let same = drawn_faces_same net (is_in (kept_edges net)) all_edges (all_kept net c.args.aside.now c.requires.aside none) in
    omega (arith, excess_total net, same, none, ap length c.requires.aside)
