use Rattle.std.proofs.Common.{rules, sym, ap, subst, ◌∙◌}
use Rattle.dpl_sign.specs.Colourings.{cost_of}
use Rattle.dpl_stay.specs.Order.{AreRectsInOrder}
use Rattle.dpl_edit.specs.Optima.{solved_of}
use Rattle.dpl_edit.proofs.OrderLemmas.{rects_in_order, edges_in_order}
use Rattle.dpl_edit.proofs.KeepLemmas.{is_best, recoloured}
use Rattle.dpl_edit.proofs.editing.keep_masks.Goals as goal

pub keep_colours-requires-clause-old : goal.keep_colours-requires-clause-old
keep_colours-requires-clause-old c = record {
  order = subst AreRectsInOrder (sym c.as_slice.ensures) (rects_in_order _ _ _ _ _ c.requires.old.is.layer.is.layer);
  edges = edges_in_order _ _ _ _ _ c.requires.old.is.layer.is.layer;
  nodes = search rules;
}

pub keep_colours-requires-clause-new : goal.keep_colours-requires-clause-new
keep_colours-requires-clause-new c = record {
  order = subst AreRectsInOrder (sym c.as_slice-3.ensures) (rects_in_order _ _ _ _ _ c.requires.new.is.layer.is.layer);
  edges = edges_in_order _ _ _ _ _ c.requires.new.is.layer.is.layer;
  nodes = search rules;
}

pub returns-clause-solved : goal.returns-clause-solved
returns-clause-solved c = λ cells kept h.
    let old = c.requires.old.is.optimum in
    let new = c.requires.new.is.optimum in
    let best = (rw (c.as_slice-2.ensures.value, c.as_slice-4.ensures.value) at c.in_ok-colours.ensures.best)
    old.colouring new.colouring (is_best (solved_of c.args.old.now) old) (is_best (solved_of c.args.new) new) in
    recoloured c.args.options.now cells kept (solved_of c.args.new) c.in_ok-colours.colours.items c.cost-cost.result h best.0 best.1
    (c.cost-cost.ensures ∙ ap (cost_of c.args.new.layer.net.graph) c.as_slice-5.ensures.value)
