use Rattle.std.proofs.Common.{sym, ◌∙◌, subst, length, []}
use Rattle.std.proofs.lemmas.List.{get_or_read}
use Rattle.dpl_laminar.specs.Storing.{AreBelow}
use Rattle.dpl_laminar.proofs.releasing.lift_set.Goals as goal

pub lift-requires : goal.lift-requires
lift-requires c =
    let read = get_or_read _ _ _ c.requires.set c.index-rows-set.is [] in
    subst (λ z. AreBelow z (length c.args.tops.now)) (sym (c.as_slice.ensures ∙ read)) (c.requires.rows c.args.set).below
