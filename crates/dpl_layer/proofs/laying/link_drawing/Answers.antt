use Rattle.std.proofs.Common.{ap, Err}
use Rattle.dpl_cell.specs.Layers.{cells_of}
use Rattle.dpl_layer.proofs.RefusalLemmas.{net_refuses}
use Rattle.dpl_layer.proofs.laying.link_drawing.Goals as goal

pub returns-in-Err-clause-refused : goal.returns-in-Err-clause-refused
returns-in-Err-clause-refused c = rw c.refusal.ensures
    (net_refuses c.args.options.now (cells_of c.args.drawing.now.layer) (cells_of c.args.drawing.now.keep)
    c.in_ok-fragments.fragments c.in-Err.error c.in_ok-fragments.ensures.fragments.0
    c.in_ok-fragments.ensures.fragments.1 c.in_ok-fragments.ensures.few
    (λ h. rw c.space_in_units-space.ensures.value at c.in-Err.ensures.many (ap Err h)))

pub returns-in-Ok-clause-layer : goal.returns-in-Ok-clause-layer
returns-in-Ok-clause-layer c = record {
  is = record {
    layer = record {
      fragments = c.in_ok-fragments.ensures.fragments.0;
      net =
          rw (c.weights.ensures, c.space_in_units-space.ensures.value) at c.in-Ok.ensures.net;
    };
    few_kept = c.in_ok-fragments.ensures.fragments.1;
    few_fragments = c.in_ok-fragments.ensures.few;
    few_edges = c.in-Ok.ensures.few;
  };
  shared = c.tiles_share_out.ensures;
  cut = c.in_ok-fragments.ensures.cut;
}
