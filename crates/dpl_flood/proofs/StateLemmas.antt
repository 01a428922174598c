-- What a state tells of a member.
use Rattle.std.proofs.Common.{arith, ◌≡◌, ℕ, ◌+◌, ◌*◌, ◌^◌, ◌<◌, ◌≤◌, ap, ◌∙◌, Some, get_or}
use Rattle.dpl_laminar.specs.Storing.{sets_of}
use Rattle.dpl_dual.specs.declared.crosses.Dual.{Dual}
use Rattle.dpl_pack.specs.Points.{on, total_at}
use Rattle.dpl_flood.specs.declared.state.State.{State}
use Rattle.dpl_flood.specs.Arenas.{node_at}
use Rattle.dpl_flood.specs.Holdings.{node_of, point_at}
use Rattle.dpl_flood.specs.States.{sea_of, IsState}
use Rattle.dpl_flood.proofs.ShoreLemmas.{top_total}

-- the top of a member, and its total
pub top_inside : (d : Dual) (x : State) → IsState d x → (t : ℕ) → t < (sets_of x.family).size
    → (sets_of x.family).top t < 2 * (sets_of x.family).size
top_inside d x st t h = st.sea.family.laminar.tops.top_range t h

pub total_is : (d : Dual) (x : State) → IsState d x → (t : ℕ) → t < (sets_of x.family).size
    → get_or x.inners.items t 0 + (sets_of x.family).value ((sets_of x.family).top t) ≡ total_at (sets_of x.family) t
total_is d x st t h =
    ap (λ z. z + (sets_of x.family).value ((sets_of x.family).top t)) (st.inner t h) ∙ top_total (sets_of x.family) st.sea.family t h

pub total_small : (d : Dual) (x : State) → IsState d x → (t : ℕ) → t < (sets_of x.family).size → total_at (sets_of x.family) t ≤ 2 ^ 50
total_small d x st t h = omega (arith, st.sea.clock t h, st.early)

-- a held face is at the end of its chain, which is that of a member
pub held_at : (x : State) (g a : ℕ) → node_of x.held g ≡ Some a → (sea_of x).point g ≡ on (node_at x.arena a).member (node_at x.arena a).far
held_at x g a e = ap (point_at x.arena) e

pub held_inside : (d : Dual) (x : State) → IsState d x → (g a : ℕ) → node_of x.held g ≡ Some a
    → (node_at x.arena a).member < (sets_of x.family).size
held_inside d x st g a e = st.sea.flood.members g (node_at x.arena a).member (node_at x.arena a).far (held_at x g a e)
