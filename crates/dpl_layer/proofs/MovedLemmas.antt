-- The layer of cells that are moved.
use Rattle.std.proofs.Common.{ℕ, ◌*◌, ℤ, map}
use Rattle.dpl_cell.specs.Images.{moved_cells, moved}
use Rattle.dpl_cell.proofs.ImageLemmas.{moved_tiles}
use Rattle.dpl_near.proofs.MovedLemmas.{moved_shapes}
use Rattle.dpl_cuts.specs.declared.types.Fragments.{Fragments}
use Rattle.dpl_cuts.specs.Images.{AreImages}
use Rattle.dpl_cuts.proofs.MovedLemmas.{fragments_moved}
use Rattle.dpl_sign.specs.declared.nets.Net.{Net}
use Rattle.dpl_sign.specs.Redrawn.{IsMovedPort, IsRedrawn}
use Rattle.dpl_links.specs.Moving.{key_shift}
use Rattle.dpl_links.proofs.ImageLemmas.{net_image, move_keeps}
use Rattle.dpl_options.specs.Options.{PlainOptions}
use Rattle.dpl_layer.specs.Drawings.{Cells}
use Rattle.dpl_layer.specs.Layers.{IsLayerOf}

-- cells that are moved have the layer with fragments and ports that are moved
pub moved_layer : (o : PlainOptions) (right up : ℤ) (cells kept : Cells) (f g : Fragments) (n m : Net)
    → AreImages (moved right up) f g → IsRedrawn (IsMovedPort (key_shift right up)) n m
    → IsLayerOf o cells kept f n → IsLayerOf o (moved_cells right up cells) (moved_cells right up kept) g m
moved_layer o right up cells kept f g n m i r l =
    let t = l.fragments in
    record {
      fragments = record {
        tiles = map (moved right up) t.tiles;
        label = t.label;
        count = t.count;
        keep = map (moved right up) t.keep;
        are_tiles = moved_tiles right up cells t.tiles t.are_tiles;
        are_shapes = moved_shapes right up t.tiles t.label t.count t.are_shapes;
        are_kept = moved_tiles right up kept t.keep t.are_kept;
        are_fragments = fragments_moved right up t.keep (2 * o.space) (2 * o.overlap) t.tiles t.label f g i t.are_fragments;
      };
      net = net_image (moved right up) (IsMovedPort (key_shift right up)) (move_keeps right up) f g o.weights (2 * o.space) n m i r l.net;
    }
