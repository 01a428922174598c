use Rattle.std.proofs.Common.{rules, ◌≡◌, map}
use Rattle.dpl_links.specs.Nets.{tie_of, ties_of}
use Rattle.dpl_links.proofs.NetLemmas.{tie_edges}
use Rattle.dpl_links.proofs.edging.edges_of.Goals as goal

pub returns : goal.returns
returns c =
    let t : map tie_of c.push_clashes.new.edges.items
    ≡ ties_of c.args.weights.now c.args.bonds.now c.args.cuts.now c.args.links.now = search rules in
    tie_edges c.args.weights.now c.args.bonds.now c.args.cuts.now c.args.links.now c.push_clashes.new.edges.items t
