use Rattle.std.proofs.Common.{◌≡◌, ◌≤◌, ◌+◌, ◌*◌}
use Rattle.dpl_sign.specs.Drawings.{is_in, dart_count}
use Rattle.dpl_sign.specs.Excess.{kept_before}
use Rattle.dpl_drawing.specs.Drawn.{IsDrawn, AreLasts}
use Rattle.dpl_drawing.proofs.drawn.keep.Given as goal

abbrev pub invariant-loop-edge : goal.invariant-loop-edge
invariant-loop-edge l = record {
  same : l.edges.items ≡ kept_before l.net l._edge;
  drawn : IsDrawn l.net (is_in l.edges.items) l.plane.faces.nexts l.plane.parts.nexts l.plane.components;
  lasts : AreLasts l.net (is_in l.edges.items) l.plane.lasts.items;
  room : l.plane.faces.fresh ≤ dart_count l.net + 3 * l._edge;
  part_room : l.plane.parts.fresh ≤ l.net.graph.nodes + l._edge;
}
