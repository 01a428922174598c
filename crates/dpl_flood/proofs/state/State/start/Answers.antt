use Rattle.std.proofs.Common.{ℕ, ◌∙◌, ap, refl, subst, Option, None, length}
use Rattle.std.proofs.lemmas.List.{length-replicate}
use Rattle.dpl_laminar.specs.Storing.{sets_of}
use Rattle.dpl_tree.specs.steps.Growth.{AreRoots}
use Rattle.dpl_flood.specs.Holdings.{Holding}
use Rattle.dpl_flood.proofs.TreedLemmas.{forest_begun}
use Rattle.dpl_flood.proofs.BeginLemmas.{begun}
use Rattle.dpl_flood.proofs.RunLemmas.{begun_roots}
use Rattle.dpl_flood.proofs.state.State.start.Goals as goal

pub returns-clause-begun : goal.returns-clause-begun
returns-clause-begun c = begun c.args.dual.now _ c.args.faces.now c.in_ok-held.held c.requires.ground c.requires.seats
    (c.new-seats.ensures ∙ c.in_ok-from_slice.ensures.items) c.in_ok-family.ensures.singles c.in_ok-family.ensures.family c.in_ok-seat_all.ensures
    (ap (λ (h : Holding). length h.nodes) c.in_ok-held.ensures ∙ length-replicate {A = Option ℕ} c.args.dual.now.faces None)
    (ap (λ (h : Holding). h.stacks) c.in_ok-held.ensures) c.in_ok-members.members.items
    (subst (λ z. AreRoots (sets_of c.in_ok-family.family) z c.in_ok-tree.tree) c.as_slice.ensures.value c.in_ok-tree.ensures)
    c.in_ok-members.ensures.length c.in_ok-members.ensures.each (c.in_ok-rests.ensures.items_if_clones_equal (λ y h. h)) (c.in_ok-inners.ensures.items_if_clones_equal (λ y h. h)) refl

pub returns-clause-forest : goal.returns-clause-forest
returns-clause-forest c = forest_begun c.args.dual.now _ c.args.faces.now c.in_ok-held.held c.in_ok-members.members.items (returns-clause-begun c)
    (c.new-seats.ensures ∙ c.in_ok-from_slice.ensures.items) c.in_ok-seat_all.ensures
    (subst (λ z. AreRoots (sets_of c.in_ok-family.family) z c.in_ok-tree.tree) c.as_slice.ensures.value c.in_ok-tree.ensures)
    c.in_ok-members.ensures.length c.in_ok-members.ensures.each c.in_ok-mates.ensures c.new-3.ensures

pub returns-clause-roots : goal.returns-clause-roots
returns-clause-roots c = begun_roots (length c.args.faces.now) (sets_of c.in_ok-family.family) c.in_ok-tree.tree c.in_ok-members.members.items
    c.in_ok-mates.mates.items c.in_ok-family.ensures.singles
    (subst (λ z. AreRoots (sets_of c.in_ok-family.family) z c.in_ok-tree.tree) c.as_slice.ensures.value c.in_ok-tree.ensures)
    c.in_ok-members.ensures.length c.in_ok-members.ensures.each
