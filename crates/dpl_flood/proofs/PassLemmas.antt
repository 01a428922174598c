-- States while time passes.
use Rattle.std.proofs.Common.{arith, ◌≡◌, ℕ, ◌+◌, ◌-◌, ◌*◌, ◌^◌, ◌<◌, ◌≤◌, sym, ap, ◌∙◌, subst, List, length, get_or}
use Rattle.std.proofs.Math.Path.{subst₂}
use Rattle.dpl_laminar.specs.Storing.{sets_of}
use Rattle.dpl_dual.specs.declared.crosses.Dual.{Dual}
use Rattle.dpl_pack.specs.Nests.{inner_of}
use Rattle.dpl_pack.proofs.TideLemmas.{inner_rests}
use Rattle.dpl_flood.specs.declared.state.State.{State}
use Rattle.dpl_flood.specs.Arenas.{AreNodes, node_at}
use Rattle.dpl_flood.specs.Dues.{NoneRests}
use Rattle.dpl_flood.specs.Holdings.{node_of, stack_of}
use Rattle.dpl_flood.specs.Seas.{Sea, IsSea, IsSeaDue, AreNow, AreLate, ArePassed, AreHeldBy, tide_of}
use Rattle.dpl_flood.specs.StateLaws.{ArePassedOver}
use Rattle.dpl_flood.specs.States.{sea_of, IsState, AreKeys, top_keys}
use Rattle.dpl_flood.proofs.SeaLemmas.{are_turned, sea_passed, due_passed}
use Rattle.dpl_flood.proofs.StackedLemmas.{held_passed}

-- the same state at a later time
pub passed_stands : (d : Dual) (x y : State) (t : ℕ) (v : ℕ → ℕ) (keys : List ℕ) → IsState d x → AreKeys d x keys
    → AreLate d (sea_of x) t (λ w. get_or keys w 0) (top_keys d keys) → NoneRests (tide_of d (sea_of x)) → ArePassed (sea_of x) t v
    → t ≤ 2 ^ 50 → ((k : ℕ) → 2 * (sets_of x.family).size ≤ k → v k ≤ 2 ^ 50) → ArePassedOver x y t v → IsState d y × AreKeys d y keys
passed_stands d x y t v keys st k late none p small out o =
    let s = sea_of x in
    let ways : ℕ → ℕ = λ w. get_or keys w 0 in
    let tops = top_keys d keys in
    let sea = sea_passed d x.seats s t v ways tops st.sea k.due late none p small out in
    let due = due_passed d x.seats s t v ways tops st.sea k.due late none p in
    let held = held_passed d x.seats s t v ways tops (stack_of x.held) st.sea k.due late p st.held in
    let back = sym o.sea in
    let size : (sets_of y.family).size ≡ (sets_of x.family).size = ap (λ (z : Sea). z.sets.size) o.sea in (
      record {
        ground = st.ground;
        sized = record {
          seats = ap length o.seats ∙ st.sized.seats ∙ sym size;
          faces = ap (λ h. length h.nodes) o.held ∙ st.sized.faces;
          stacks = ap (λ h. length h.stacks) o.held ∙ st.sized.stacks ∙ ap (λ z. 2 * z) (sym size);
          labels = ap (λ z. length z.labels.items) o.tree ∙ st.sized.labels ∙ ap (λ z. 2 * z) (sym size);
          rests = o.rests ∙ st.sized.rests ∙ ap (λ z. 2 * z) (sym size);
          inners = ap length o.inners ∙ st.sized.inners ∙ sym size;
        };
        sea = subst₂ (IsSea d) (sym o.seats) back sea;
        early = subst (λ (z : Sea). z.time ≤ 2 ^ 50) back small;
        held = subst (λ h. AreHeldBy y.seats (sea_of y) (stack_of h)) (sym o.held)
            (subst₂ (λ q z. AreHeldBy q z (stack_of x.held)) (sym o.seats) back held);
        chains = subst (AreNodes d.crosses) (sym o.arena) st.chains;
        ends = λ g a e.
            let q = st.ends g a (sym (ap (λ h. node_of h g) o.held) ∙ e) in
            (omega (arith, q.0, ap length o.arena), ap (λ z. (node_at z a).face) o.arena ∙ q.1);
        inner = λ m h.
            let hm : m < (sets_of x.family).size = omega (arith, h, size) in
            let tops = st.sea.family.laminar.tops in
            ap (λ z. get_or z m 0) o.inners ∙ st.inner m hm
            ∙ sym (inner_rests (sets_of x.family) (λ i. s.gain i * (t - s.time)) (λ i. s.loss i * (t - s.time)) v st.sea.family (are_turned s t v st.sea.moving p) m ((sets_of x.family).top m) hm
            (tops.top_range m hm) (tops.top_holds m hm))
            ∙ sym (ap (λ (z : Sea). inner_of z.sets (z.sets.top m) m) o.sea);
      },
      record {
        places = k.places ∙ ap (λ z. length d.crosses + 2 * z) (sym size);
        due = subst (λ z. IsSeaDue d z ways tops) back due;
        now = subst (λ z. AreNow d z ways tops) back (record { ways = late.ways; tops = late.tops });
      },
    )
