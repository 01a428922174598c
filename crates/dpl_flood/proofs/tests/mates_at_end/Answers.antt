use Rattle.std.proofs.Common.{arith, ◌≡◌, ℕ, ◌<◌, sym, ap, ◌∙◌, subst, List, length, get_or}
use Rattle.std.specs.Prelude.{◌≤◌, ◌^◌}
use Rattle.dpl_laminar.specs.Storing.{sets_of}
use Rattle.dpl_dual.specs.declared.crosses.Cross.{Cross}
use Rattle.dpl_dual.specs.declared.crosses.Dual.{Dual}
use Rattle.dpl_dual.specs.Chains.{Leads, length_of}
use Rattle.dpl_flood.specs.declared.state.State.{State}
use Rattle.dpl_flood.specs.Seas.{IsNamed}
use Rattle.dpl_flood.specs.Starts.{HasBegun}
use Rattle.dpl_flood.specs.States.{sea_of}
use Rattle.dpl_flood.specs.Sweeps.{AreTwo}
use Rattle.dpl_flood.proofs.ForestLemmas.{start_total}
use Rattle.dpl_flood.proofs.tests.mates_at_end.Goals as goal

-- at the beginning each member names a tree
member_named : (d : Dual) (x : State) → HasBegun d x → (k : ℕ) → k < (sets_of x.family).size → IsNamed (sea_of x) k
member_named d x begun k h =
    let start = begun.start in
    record {
      member = h;
      grows = ap (sea_of x).gain (start.singles.top k h) ∙ start.grow k h;
      whole = start_total (sets_of x.family) start.singles.value k ∙ sym start.time;
    }

two_begun : (d : Dual) (x : State) (odd : List ℕ) → HasBegun d x → x.seats ≡ odd → length odd ≡ 2
    → (xs : List Cross) × Leads d.crosses (get_or odd 0 0) xs (get_or odd 1 0) × (length_of xs ≤ 2 ^ 51) → AreTwo d x
two_begun d x odd begun seats two chain =
    let size : (sets_of x.family).size ≡ 2 = begun.members ∙ ap length seats ∙ two in
    let first : 0 < (sets_of x.family).size = omega (arith, size) in
    let second : 1 < (sets_of x.family).size = omega (arith, size) in
    record {
      one = 0;
      two = 1;
      one_named = member_named d x begun 0 first;
      two_named = member_named d x begun 1 second;
      differ = λ e. omega (arith, e, begun.start.singles.top 0 first, begun.start.singles.top 1 second);
      chain = chain.0;
      leads = subst (λ z. Leads d.crosses (get_or z 0 0) chain.0 (get_or z 1 0)) (sym seats) chain.1;
      short = chain.2;
    }

pub sweep-requires-clause-some : goal.sweep-requires-clause-some
sweep-requires-clause-some g c = omega (
  arith,
  c.in_ok-queue.ensures.places,
  c.in_ok-state.ensures.begun.members,
  ap length c.in_ok-state.ensures.seats,
  ap length c.as_slice-2.ensures,
  c.in_ok-dual.ensures.odd,
)

pub sweep-requires-clause-two : goal.sweep-requires-clause-two
sweep-requires-clause-two g c = two_begun _ c.in_ok-state.state c.in_ok-dual.dual.odd c.in_ok-state.ensures.begun
    (c.in_ok-state.ensures.seats ∙ c.as_slice-2.ensures) c.in_ok-dual.ensures.odd c.in_ok-dual.ensures.chain
