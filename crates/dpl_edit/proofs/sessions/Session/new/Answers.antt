use Rattle.std.proofs.Common.{inl, inr, ◌∙◌, ap, refl, Err}
use Rattle.dpl_edit.specs.Optima.{solved_of}
use Rattle.dpl_edit.proofs.SessionLemmas.{none_behind, ok_free, err_comes}
use Rattle.dpl_edit.proofs.sessions.Session.new.Goals as goal

pub returns-in-Ok-clause-exact : goal.returns-in-Ok-clause-exact
returns-in-Ok-clause-exact c = λ e r.
    absurd (ok_free c.args.options c.args.options _ c.args.drawing.layer.prims c.args.drawing.keep.prims
    c.args.drawing.keep.prims (solved_of c.in-Ok.solved)
    (record {
      options = refl;
      prims_are = none_behind _ _ _ refl
          (c.deref.ensures.value ∙ c.new-boxes.ensures.items);
      keep_is = refl;
    }) c.in-Ok.ensures.solved e r)

pub returns-in-Err-clause-exact : goal.returns-in-Err-clause-exact
returns-in-Err-clause-exact c = λ e r.
    elim (err_comes c.args.options c.args.options _ c.args.drawing.layer.prims c.args.drawing.keep.prims
    c.args.drawing.keep.prims c.in-Err.error (record {
      options = refl;
      prims_are = none_behind _ _ _ refl (c.deref.ensures.value ∙ c.new-boxes.ensures.items);
      keep_is = refl;
    }) c.in-Err.ensures.refused e r) [ inl x ↦ inl (ap Err x) | inr x ↦ inr (ap Err x) ]
