use Rattle.std.proofs.Common.{refl, sym, ap, subst, ◌∙◌, length}
use Rattle.dpl_list.proofs.Lists.{refilled}
use Rattle.dpl_laminar.specs.Storing.{sets_of}
use Rattle.dpl_tree.specs.steps.Growth.{AreTightBy}
use Rattle.dpl_tree.specs.Views.{forest_of}
use Rattle.dpl_flood.specs.Foldings.{AreInner, AreTotals}
use Rattle.dpl_flood.specs.Forested.{dist_of}
use Rattle.dpl_flood.proofs.FoldingLemmas.{tight_by, totals_folded, next_pairs, folded_pairs}
use Rattle.dpl_flood.proofs.folding.fold_ring.Goals as goal

pub fold-requires-clause-tight : goal.fold-requires-clause-tight
fold-requires-clause-tight g c = (
  dist_of c.requires.tied.0 c.args.state.now,
  subst (λ z. AreTightBy (sets_of c.args.state.now.family) (forest_of c.args.state.now.tree z) c.args.join.0 c.args.join.1 (dist_of c.requires.tied.0 c.args.state.now))
      (sym c.deref_mut-2.ensures.value) (tight_by c.requires.tied.0 c.args.state.now c.args.join c.requires.tied.1),
)

pub drop_tops-requires-clause-totals : goal.drop_tops-requires-clause-totals
drop_tops-requires-clause-totals g c =
    let x = c.args.state.now in
    let sums = c.add_tops.new.sums in
    let back = refilled x.inners.len sums x.inners.items x.inners.ok.0 (c.add_tops.auto.sums ∙ ap length c.deref_mut.ensures.value) in
    subst (AreTotals (sets_of c.fold.new.family)) (sym (c.deref_mut-3.ensures.value ∙ back))
    (totals_folded (sets_of x.family) (sets_of c.fold.new.family) (forest_of x.tree c.deref_mut-2.result.now) (forest_of c.fold.new.tree c.fold.new.mates)
    c.in_ok-set.set sums c.in_ok-set.ensures.folded c.add_tops.ensures)

pub returns-clause-folded : goal.returns-clause-folded
returns-clause-folded g c =
    let x = c.args.state.now in
    let f = sets_of x.family in
    let new = sets_of c.fold.new.family in
    let first = refilled x.inners.len c.add_tops.new.sums x.inners.items x.inners.ok.0 (c.add_tops.auto.sums ∙ ap length c.deref_mut.ensures.value) in
    let many = c.add_tops.auto.sums ∙ ap length c.deref_mut.ensures.value in
    let count = c.drop_tops.auto.sums ∙ ap length c.deref_mut-3.ensures.value in
    let second = refilled x.inners.len c.drop_tops.new.sums _ (x.inners.ok.0 ∙ sym (ap length first ∙ many)) count in
    let mates = refilled x.mates.len c.fold.new.mates x.mates.items x.mates.ok.0 (c.fold.auto.mates ∙ ap length c.deref_mut-2.ensures.value) in
    record {
      seats = refl;
      held = refl;
      arena = refl;
      joins = refl;
      time = refl;
      rests = refl;
      mates = ap length mates ∙ c.fold.auto.mates ∙ ap length c.deref_mut-2.ensures.value;
      sized = c.in_ok-set.ensures.sized;
      members = ap length second ∙ count ∙ ap length first ∙ many;
      inner = subst (AreInner new) (sym second) c.drop_tops.ensures;
      folded = folded_pairs f new x.tree c.fold.new.tree _ x.mates.items c.fold.new.mates _ c.in_ok-set.set c.deref_mut-2.ensures.value (sym mates)
          c.in_ok-set.ensures.folded;
      next = next_pairs f new x.tree c.fold.new.tree _ x.mates.items c.fold.new.mates _ c.args.join c.deref_mut-2.ensures.value (sym mates)
          c.in_ok-set.ensures.next;
    }
