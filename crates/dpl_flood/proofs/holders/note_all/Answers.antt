use Rattle.std.proofs.Common.{◌≡◌, ◌+◌, get_or}
use Rattle.dpl_flood.specs.Listings.{IsOneOf}
use Rattle.dpl_flood.specs.States.{sea_of}
use Rattle.dpl_flood.proofs.HolderLemmas.{noted_more}
use Rattle.dpl_flood.proofs.TopLemmas.{one_face_more}
use Rattle.dpl_flood.proofs.holders.note_all.Goals as goal

pub loop-i-preserved : goal.loop-i-preserved
loop-i-preserved c =
    let faces = c.args.faces.now in
    let i = c.loop-i.i in
    noted_more (sea_of c.args.state.now).point (IsOneOf faces i) (λ g. g ≡ get_or faces i 0) (IsOneOf faces (i + 1)) c.args.found.now.items
    c.loop-i.found.items c.note.new.found.items c.loop-i.invariant c.in_ok-note.ensures (one_face_more faces i)
