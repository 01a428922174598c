use Rattle.std.proofs.Common.{arith, rules, ◌<◌, ◌∙◌, sym, refl}
use Rattle.dpl_sign.specs.Drawings.{dart_count}
use Rattle.dpl_drawing.proofs.LastLemmas.{is_last}
use Rattle.dpl_drawing.proofs.turning.start_at.Goals as goal

pub returns : goal.returns
returns c =
    let net = c.args.net.now in
    let inside : c.args.near < dart_count net = search rules in
    let small = net.graph.few_edges in
    is_last net _ _ _ c.args.near refl (omega (arith, inside, small))
    (record {
      inside = inside;
      chosen = sym c.is_in.ensures ∙ c.if-not-is_in.false;
      tail = sym c.tail.ensures.node ∙
          c.if-tail.false ∙ c.tail-2.ensures.node;
    })
