-- Gathered nets as parts.
use Rattle.std.specs.Prelude.{[], slice_index_or}
use Rattle.dpl_parts.specs.declared.gathering.Gathered.{Gathered}
use Rattle.dpl_parts.specs.Shares.{Part}

-- without colours and cycles
abbrev pub part_of : Gathered → Part
part_of g = record {
  net = g.net;
  node = λ v. slice_index_or g.nodes.items v 0;
  edge = λ e. slice_index_or g.edges.items e 0;
  colours = [];
  cycles = [];
}
