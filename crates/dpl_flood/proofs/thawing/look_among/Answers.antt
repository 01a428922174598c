use Rattle.dpl_flood.proofs.TopLemmas.{all_among}
use Rattle.dpl_flood.proofs.thawing.look_among.Goals as goal

pub returns : goal.returns
returns c = all_among c.args.dual.now c.args.state.now c.args.tops.now c.args.queue.now c.look_seats_among.new.queue c.look_stacks_among.new.queue
    c.requires.state c.requires.tops c.look_seats_among.ensures c.look_stacks_among.ensures
