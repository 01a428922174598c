use Rattle.std.proofs.Common.{◌≡◌, filter, take}
use Rattle.dpl_links.specs.Found.{are_of_two_tiles}
use Rattle.dpl_links.proofs.bonding.of_two_tiles.Given as goal

abbrev pub invariant-loop-pair : goal.invariant-loop-pair
invariant-loop-pair l = l.found.items ≡ filter (are_of_two_tiles l.tile) (take l.pair-index l.pairs)
