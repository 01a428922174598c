use Rattle.std.proofs.Common.{arith, add-one, refl, sym, ap, ◌∙◌, ◌<◌, ◌-◌, inl, inr, length}
use Rattle.std.proofs.lemmas.List.{get_or_default}
use Rattle.std.proofs.lemmas.Bool.{both_ways}
use Rattle.dpl_sign.specs.Kinds.{is_bond}
use Rattle.dpl_sign.proofs.BondLemmas.{first_more}
use Rattle.dpl_sign.proofs.graph_tests.are_bonds_first.Goals as goal

pub loop-next-preserved : goal.loop-next-preserved
loop-next-preserved c =
    let inside : c.loop-next.next < length c.args.edges.now = omega arith in
    let before : c.loop-next.next - 1 < length c.args.edges.now = omega arith in (
      omega arith,
      rw add-one (first_more c.args.edges.now c.loop-next.next c.loop-next.invariant.1 c.loop-next.invariant.0 (λ d bond. elim c.else-here.either [
        | inl both ↦ ap (λ e. is_bond e.kind) (get_or_default _ _ _ _ before) ∙ sym c.is_bond-before.ensures ∙ both.1
        | inr none ↦ absurd (both_ways _ none (c.is_bond-here.ensures ∙ ap (λ e. is_bond e.kind) (get_or_default _ _ _ _ inside) ∙ bond))
      ])),
    )

pub returns : goal.returns
returns c = (λ t j k d jk kn. c.loop-next.invariant.1 j k d jk (omega arith), λ t. refl)
