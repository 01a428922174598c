use Rattle.dpl_flood.proofs.TopLemmas.{all_on}
use Rattle.dpl_flood.proofs.looks.look_top.Goals as goal

pub returns : goal.returns
returns c = record {
  keys = all_on c.args.dual.now c.args.state.now c.args.top c.members-members.result.now c.args.queue.now c.look_seats.new.queue
      c.look_stacks.new.queue c.requires.state c.requires.top c.members-members.ensures.held c.look_seats.ensures c.look_stacks.ensures;
}
