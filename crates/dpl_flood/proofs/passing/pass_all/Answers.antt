use Rattle.std.proofs.Common.{arith, ◌+◌, ◌*◌, ℕ, ap, ◌∙◌, inl, inr}
use Rattle.std.proofs.lemmas.Bool.{cases_eq}
use Rattle.dpl_laminar.specs.Families.{Sets}
use Rattle.dpl_laminar.specs.Storing.{sets_of}
use Rattle.dpl_tree.specs.steps.Forests.{drop_of}
use Rattle.dpl_tree.specs.Views.{place_in}
use Rattle.dpl_flood.proofs.ClockLemmas.{values_kept}
use Rattle.dpl_flood.proofs.passing.pass_all.Goals as goal

pub loop-i-preserved : goal.loop-i-preserved
loop-i-preserved g c =
    let i : ℕ = c.loop-i.i in
    let f : Sets = sets_of c.loop-i.family in
    let h : Sets = sets_of c.pass_one.new.family in
    let e = rw c.label_at.ensures at c.pass_one.ensures in
    let k = c.loop-i.invariant in
    record {
      rest = values_kept (sets_of c.args.family.now) f h k.rest e.rest;
      done = λ j low. elim (cases_eq j i) [
        | inl z ↦ rw z (omega (arith, e.value, k.todo i (omega arith)))
        | inr ne ↦ ap (λ a. a + drop_of (place_in c.args.labels.now j) * c.args.span) (e.others j ne) ∙ k.done j (omega (arith, low, ne))
      ];
      todo = λ j low. e.others j (λ z. omega (arith, low, z)) ∙ k.todo j (omega (arith, low));
      alive = λ j low p. ap (λ (z : Sets). z.live j) e.rest ∙ k.alive j low p;
      family = e.family;
      count = omega (arith, e.steps, k.count);
    }
