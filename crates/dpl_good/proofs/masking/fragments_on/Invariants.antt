use Rattle.std.proofs.Common.{◌≡◌, ◌++◌, drop}
use Rattle.dpl_good.specs.MaskRects.{fragments_on}
use Rattle.dpl_good.proofs.masking.fragments_on.Given as goal

abbrev pub invariant-loop-rect : goal.invariant-loop-rect
invariant-loop-rect l = l.found.items ++ fragments_on l.on_b (drop l.rect-index l.rects) l.left ≡ fragments_on l.on_b l.rects l.colours
