use Rattle.std.proofs.Common.{rules, true, ◌≡◌, inl, inr, ◌∙◌, ap, sym, Err}
use Rattle.dpl_edit.specs.Contents.{HasBox, has_number, boxes_without}
use Rattle.dpl_edit.specs.declared.errors.RemoveError.TheVariants.{Refused}
use Rattle.dpl_edit.specs.Optima.{solved_of}
use Rattle.dpl_edit.specs.Sessions.{State}
use Rattle.dpl_edit.proofs.SessionLemmas.{content_is, ok_free, err_comes, removal_edits}
use Rattle.dpl_edit.proofs.sessions.Session.remove.Goals as goal

pub returns-in-Ok-solve_edit-clause-exact : goal.returns-in-Ok-solve_edit-clause-exact
returns-in-Ok-solve_edit-clause-exact c = λ e r.
    let o : c.self.inside.options ≡ c.args.self.now.options = ap (λ (z : State). z.options) c.self.view_is in
    let b : c.self.inside.drawing.layer.prims ≡ c.args.self.now.begun = ap (λ (z : State). z.begun) c.self.view_is in
    let k : c.self.inside.drawing.keep.prims ≡ c.args.self.now.keep = ap (λ (z : State). z.keep) c.self.view_is in
    let mine : c.self.inside.boxes.items ≡ c.args.self.now.boxes = ap (λ (z : State). z.boxes) c.self.view_is in
    let seen : c.has_box.result ≡ true = search rules in
    let has : HasBox c.args.number c.args.self.now.boxes = ap (has_number c.args.number) (sym (c.deref.ensures.value ∙ mine)) ∙ sym c.has_box.ensures ∙ seen in
    let boxes : c.deref-3.result.now ≡ boxes_without c.args.number c.args.self.now.boxes = c.deref-3.ensures.value ∙
    c.in-Ok.ensures ∙ ap (boxes_without c.args.number) (c.deref-2.ensures.value ∙ mine) in
    let (x, is, refuses) = removal_edits c.args.self.now c.args.number has e r in
    absurd (ok_free _ _ _ _ _ _ (solved_of c.in-Ok-solve_edit.solved)
    (record { options = o; prims_are = content_is _ _ _ _ b boxes; keep_is = k }) c.in-Ok-solve_edit.ensures.solved
    x refuses)

pub returns-in-Err-solve_edit-clause-exact : goal.returns-in-Err-solve_edit-clause-exact
returns-in-Err-solve_edit-clause-exact c = λ e r.
    let o : c.self.inside.options ≡ c.args.self.now.options = ap (λ (z : State). z.options) c.self.view_is in
    let b : c.self.inside.drawing.layer.prims ≡ c.args.self.now.begun = ap (λ (z : State). z.begun) c.self.view_is in
    let k : c.self.inside.drawing.keep.prims ≡ c.args.self.now.keep = ap (λ (z : State). z.keep) c.self.view_is in
    let mine : c.self.inside.boxes.items ≡ c.args.self.now.boxes = ap (λ (z : State). z.boxes) c.self.view_is in
    let seen : c.has_box.result ≡ true = search rules in
    let has : HasBox c.args.number c.args.self.now.boxes = ap (has_number c.args.number) (sym (c.deref.ensures.value ∙ mine)) ∙ sym c.has_box.ensures ∙ seen in
    let boxes : c.deref-3.result.now ≡ boxes_without c.args.number c.args.self.now.boxes = c.deref-3.ensures.value ∙
    c.in-Ok.ensures ∙ ap (boxes_without c.args.number) (c.deref-2.ensures.value ∙ mine) in
    let (x, is, refuses) = removal_edits c.args.self.now c.args.number has e r in
    elim (err_comes _ _ _ _ _ _ c.in-Err-solve_edit.error
    (record { options = o; prims_are = content_is _ _ _ _ b boxes; keep_is = k })
    c.in-Err-solve_edit.ensures.refused x refuses) [
      | inl y ↦ inl (ap Err (ap Refused y ∙ is))
      | inr y ↦ inr (ap Err (ap Refused y))
    ]
