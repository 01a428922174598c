use Rattle.std.proofs.Common.{arith, ap, ◌∙◌, length}
use Rattle.dpl_map.proofs.ViewLemmas.{map_of}
use Rattle.dpl_dual.proofs.DualLemmas.{ways_of}
use Rattle.dpl_dual.proofs.duals.dual_of.Goals as goal

pub crosses-requires : goal.crosses-requires
crosses-requires c = map_of c.args.graph.now c.args.map.now c.requires.map

pub parts-requires : goal.parts-requires
parts-requires c = rw (c.deref.ensures.value, c.in_ok-ways.ensures, c.faces-faces.ensures)
    (ways_of _ _ (map_of c.args.graph.now c.args.map.now c.requires.map))

pub returns : goal.returns
returns c = record {
  faces = c.faces-faces.ensures;
  crosses = c.new.ensures ∙ c.in_ok-ways.ensures;
  odd = c.new-2.ensures ∙ c.requires.odd;
  parts = ap length c.new-3.ensures ∙ c.in_ok-part.ensures.length ∙ c.faces-faces.ensures;
  part = λ f h hf hh. rw (c.new-3.ensures, c.new.ensures)
      (rw c.deref.ensures.value at (c.in_ok-part.ensures.each f h (omega (arith, hf, c.faces-faces.ensures))
      (omega (arith, hh, c.faces-faces.ensures))));
}
