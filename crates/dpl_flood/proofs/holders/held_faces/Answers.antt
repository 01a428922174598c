use Rattle.std.proofs.Common.{List, length, subst}
use Rattle.dpl_pack.specs.declared.held.Held.{Held}
use Rattle.dpl_flood.specs.Listings.{AreNoted, IsOneOf}
use Rattle.dpl_flood.specs.States.{sea_of}
use Rattle.dpl_flood.proofs.HolderLemmas.{all_held, held_flood}
use Rattle.dpl_flood.proofs.holders.held_faces.Goals as goal

pub returns-clause-held : goal.returns-clause-held
returns-clause-held c =
    let point = (sea_of c.args.state.now).point in
    let between = c.note_all.new.found.items in
    all_held c.args.dual.now c.args.state.now between c.note_stacks.new.found.items c.requires.state
    (subst (λ (old : List Held). AreNoted point (IsOneOf c.args.state.now.seats (length c.args.state.now.seats)) old between) c.new-found.ensures.items
    (subst (λ z. AreNoted point (IsOneOf z (length z)) c.new-found.result.items between) c.as_slice.ensures c.in_ok-note_all.ensures))
    c.in_ok-note_stacks.ensures

pub returns-clause-flood : goal.returns-clause-flood
returns-clause-flood c = held_flood c.args.dual.now c.args.state.now c.note_stacks.new.found.items c.requires.state (returns-clause-held c)
