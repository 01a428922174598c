use Rattle.std.proofs.Common.{map, ap, Err}
use Rattle.std.proofs.lemmas.List.{length-map}
use Rattle.dpl_cell.specs.Places.{corners_of}
use Rattle.dpl_cell.specs.Layers.{cells_of}
use Rattle.dpl_layer.proofs.RefusalLemmas.{cuts_refuse}
use Rattle.dpl_layer.proofs.laying.cut_tiles.Goals as goal

pub shapes-requires-clause-apart : goal.shapes-requires-clause-apart
shapes-requires-clause-apart c = (c.tiles_share_out.ensures _ c.requires.tiles).apart

pub cut-requires-clause-apart : goal.cut-requires-clause-apart
cut-requires-clause-apart c = (c.tiles_share_out.ensures _ c.requires.tiles).apart

pub returns-clause-refused : goal.returns-clause-refused
returns-clause-refused c = rw c.refusal.ensures
    (cuts_refuse c.args.options.now (cells_of c.args.drawing.now.layer) (cells_of c.args.drawing.now.keep)
    c.args.tiles.now c.args.keep.now c.in-Err.error c.requires.tiles c.requires.kept c.requires.few c.requires.few_kept
    (λ h. rw (c.space_in_units.ensures.value, c.overlap_in_units.ensures.value) at c.in-Err.ensures.many (ap Err h)))

pub returns-in-Ok-clause-fragments : goal.returns-in-Ok-clause-fragments
returns-in-Ok-clause-fragments c = (
  record {
    tiles = map corners_of c.args.tiles.now;
    label = c.in_ok-shapes.shapes.label;
    count = c.in_ok-shapes.shapes.count;
    keep = map corners_of c.args.keep.now;
    are_tiles = c.requires.tiles;
    are_shapes = c.in_ok-shapes.ensures.shapes;
    are_kept = c.requires.kept;
    are_fragments = rw (c.space_in_units.ensures.value, c.overlap_in_units.ensures.value) at c.in-Ok.ensures.fragments;
  },
  rw (length-map c.args.keep.now corners_of) c.requires.few_kept,
)
