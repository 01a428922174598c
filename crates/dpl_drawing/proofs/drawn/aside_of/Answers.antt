use Rattle.std.proofs.Common.{arith, rules, ◌<◌, ap, ◌∙◌, length}
use Rattle.dpl_sign.proofs.ExcessLemmas.{kept_length}
use Rattle.dpl_drawing.proofs.drawn.aside_of.Goals as goal

pub bounds-kept-edge : goal.bounds-kept-edge
bounds-kept-edge c =
    let all : c.loop-edge.edge < length c.args.net.now.graph.edges = search rules in
    omega (arith, ap length c.requires ∙ kept_length c.args.net.now (length c.args.net.now.graph.edges), all)
