use Rattle.std.proofs.Common.{arith, ◌≡◌, ◌∙◌, true, false, ap, sym, subst, eq-eqb}
use Rattle.std.specs.Prelude.{reverse}
use Rattle.std.proofs.lemmas.Bool.{true≢false}
use Rattle.dpl_laminar.specs.Families.{has}
use Rattle.dpl_laminar.specs.Storing.{sets_of}
use Rattle.dpl_pack.specs.Tides.{place_of}
use Rattle.dpl_flood.specs.Holdings.{stack_of}
use Rattle.dpl_flood.specs.States.{AreKeyedFor, IsStackedOn, sea_of}
use Rattle.dpl_flood.proofs.TopLemmas.{for_none, for_fewer, faces_inside}
use Rattle.dpl_flood.proofs.looks.look_stack.Goals as goal

pub look_at-requires-clause-faces : goal.look_at-requires-clause-faces
look_at-requires-clause-faces c =
    faces_inside c.args.dual.now c.args.state.now c.args.set c.faces.result.now c.requires.state c.requires.set c.faces.ensures
