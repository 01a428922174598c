use Rattle.std.proofs.Common.{arith, ◌∙◌, ◌<◌, ap, length}
use Rattle.dpl_flood.proofs.CloseLemmas.{are_sides, side_paired, mate_read}
use Rattle.dpl_flood.proofs.closing.sides_of.Goals as goal

pub unreachable-requires : goal.unreachable-requires
unreachable-requires c =
    let low : c.args.single < length c.args.state.now.mates.items = omega (arith, c.requires.single, c.requires.forest.1.mates) in
    side_paired c.requires.forest.0 c.args.state.now c.args.single c.requires.forest.1 c.requires.spent c.requires.single
    (mate_read c.args.state.now.mates.items c.args.single c.index.result.now low c.index.ensures ∙ c.in-None.is)

pub returns : goal.returns
returns c = λ d f.
    let low : c.args.single < length c.args.state.now.mates.items = omega (arith, c.requires.single, f.mates) in
    are_sides d c.args.state.now c.args.single c.link-from.result.0 c.in-Some.to f c.requires.spent c.requires.single (ap (λ z. z.0) c.link-from.ensures)
    (mate_read c.args.state.now.mates.items c.args.single c.index.result.now low c.index.ensures ∙ c.in-Some.is)
