use Rattle.std.proofs.Common.{◌≡◌, inl, inr, ◌∙◌, ap, Err}
use Rattle.dpl_edit.specs.Optima.{solved_of}
use Rattle.dpl_edit.specs.Sessions.{State}
use Rattle.dpl_edit.proofs.SessionLemmas.{added, content_is, ok_free, err_comes}
use Rattle.dpl_edit.proofs.sessions.Session.add.Goals as goal

pub returns-in-Ok-solve_edit-clause-exact : goal.returns-in-Ok-solve_edit-clause-exact
returns-in-Ok-solve_edit-clause-exact c = λ e r.
    let o : c.self.inside.options ≡ c.args.self.now.options = ap (λ (z : State). z.options) c.self.view_is in
    let b : c.self.inside.drawing.layer.prims ≡ c.args.self.now.begun = ap (λ (z : State). z.begun) c.self.view_is in
    let k : c.self.inside.drawing.keep.prims ≡ c.args.self.now.keep = ap (λ (z : State). z.keep) c.self.view_is in
    let n : c.self.inside.count ≡ c.args.self.now.count = ap (λ (z : State). z.count) c.self.view_is in
    let old : c.deref.result.now ≡ c.args.self.now.boxes = c.deref.ensures.value ∙ ap (λ (z : State). z.boxes) c.self.view_is in
    let boxes = c.deref-2.ensures.value ∙ c.in-Ok.ensures ∙
    added c.deref.result.now c.args.self.now.boxes c.self.inside.count c.args.self.now.count c.args.rect old n in
    absurd (ok_free _ _ _ _ _ _ (solved_of c.in-Ok-solve_edit.solved)
    (record { options = o; prims_are = content_is _ _ _ _ b boxes; keep_is = k }) c.in-Ok-solve_edit.ensures.solved
    e r)

pub returns-in-Err-solve_edit-clause-exact : goal.returns-in-Err-solve_edit-clause-exact
returns-in-Err-solve_edit-clause-exact c = λ e r.
    let o : c.self.inside.options ≡ c.args.self.now.options = ap (λ (z : State). z.options) c.self.view_is in
    let b : c.self.inside.drawing.layer.prims ≡ c.args.self.now.begun = ap (λ (z : State). z.begun) c.self.view_is in
    let k : c.self.inside.drawing.keep.prims ≡ c.args.self.now.keep = ap (λ (z : State). z.keep) c.self.view_is in
    let n : c.self.inside.count ≡ c.args.self.now.count = ap (λ (z : State). z.count) c.self.view_is in
    let old : c.deref.result.now ≡ c.args.self.now.boxes = c.deref.ensures.value ∙ ap (λ (z : State). z.boxes) c.self.view_is in
    let boxes = c.deref-2.ensures.value ∙ c.in-Ok.ensures ∙
    added c.deref.result.now c.args.self.now.boxes c.self.inside.count c.args.self.now.count c.args.rect old n in
    elim (err_comes _ _ _ _ _ _ c.in-Err-solve_edit.error
    (record { options = o; prims_are = content_is _ _ _ _ b boxes; keep_is = k })
    c.in-Err-solve_edit.ensures.refused e r) [ inl x ↦ inl (ap Err x) | inr x ↦ inr (ap Err x) ]
