use Rattle.std.proofs.Common.{arith, rules, Ok, None, ◌≡◌, subst, ℕ, inl, inr}
use Rattle.std.proofs.lemmas.Bool.{cases_eq}
use Rattle.dpl_euler.specs.Crossings.{IsWith}
use Rattle.dpl_euler.proofs.crossings.crossing.Goals as goal

pub loop-edge-preserved : goal.loop-edge-preserved
loop-edge-preserved c = λ e w l is. elim (cases_eq e c.loop-edge.edge) [
  | inl t ↦
      let P : ℕ → Type 0 = λ z. IsWith c.args.fragments.now c.args.net.now z w in
      let none : c.crossed.result ≡ Ok None = search rules in
      c.crossed.ensures.none none w (subst P t is)
  | inr t ↦ c.loop-edge.invariant e w (omega (arith, l, t)) is
]
