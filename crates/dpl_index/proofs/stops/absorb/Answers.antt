use Rattle.std.proofs.Common.{refl}
use Rattle.dpl_index.proofs.KindLemmas.{kinds_absorbed}
use Rattle.dpl_index.proofs.StopLemmas.{blank, absorbed, absorb_keeps}
use Rattle.dpl_index.proofs.stops.absorb.Goals as goal

pub returns-clause-index : goal.returns-clause-index
returns-clause-index c =
    absorb_keeps c.args.items.now c.args.stops.now c.args.k _ _ _
    (absorbed c.args.stops.now c.args.k _ c.requires.within (c.requires.more blank) refl refl c.around.ensures.first c.around.ensures.second)
    c.requires.index

pub returns-clause-kinds : goal.returns-clause-kinds
returns-clause-kinds c =
    kinds_absorbed c.args.kinds.now c.args.stops.now c.args.k _ _ _
    (absorbed c.args.stops.now c.args.k _ c.requires.within (c.requires.more blank) refl refl c.around.ensures.first c.around.ensures.second)
    c.common.ensures.first c.common.ensures.second c.requires.kinds
