-- What two tops that met have over their way is noted.
use Rattle.std.proofs.Common.{arith, ◌≡◌, ◌≢◌, ℕ, ◌+◌, ◌%◌, ◌⊎◌, refl, sym, ap, ◌∙◌, subst, inl, inr, Some, List}
use Rattle.std.proofs.lemmas.Bool.{cases_eq}
use Rattle.std.specs.Option.{option_map_or}
use Rattle.dpl_laminar.specs.Families.{Sets, load_of}
use Rattle.dpl_laminar.specs.Storing.{sets_of}
use Rattle.dpl_dual.specs.declared.crosses.Cross.{Cross}
use Rattle.dpl_dual.specs.declared.crosses.Dual.{Dual}
use Rattle.dpl_dual.specs.Chains.{no_cross}
use Rattle.dpl_dual.specs.Duals.{way_at}
use Rattle.dpl_pack.proofs.PointLemmas.{member_at, far_at}
use Rattle.dpl_tree.proofs.Ways.{load_turned}
use Rattle.dpl_flood.specs.declared.event.Crossing.{Crossing}
use Rattle.dpl_flood.specs.declared.nodes.Node.{Node}
use Rattle.dpl_flood.specs.declared.nodes.Join.{Join}
use Rattle.dpl_flood.specs.declared.state.State.{State}
use Rattle.dpl_flood.specs.Arenas.{AreNodes, IsOver, IsJoin, join_length, node_at, start_of, end_of, turned}
use Rattle.dpl_flood.specs.Forested.{IsForested, IsMeeting, HasTied, dist_of, trees_of}
use Rattle.dpl_flood.specs.Holdings.{node_of}
use Rattle.dpl_flood.specs.Joins.{Entries, AreJoins, IsNoted, dist_in, join_at}
use Rattle.dpl_flood.specs.States.{IsGround, IsState, sea_of}
use Rattle.dpl_flood.proofs.ArenaLemmas.{far_even}
use Rattle.dpl_flood.proofs.ForestLemmas.{far_within}
use Rattle.dpl_flood.proofs.NotedLemmas.{noted_joins, tied}
use Rattle.dpl_flood.proofs.StageLemmas.{stage_with}
use Rattle.dpl_flood.proofs.StateLemmas.{held_at}

-- ---- distances

-- two numbers are these two or one of them is not
both : (c d a b : ℕ) → ((c ≡ a) × (d ≡ b)) ⊎ ((c ≢ a) ⊎ (d ≢ b))
both c d a b = elim (cases_eq c a) [
  | inr ne ↦ inr (inl ne)
  | inl e ↦ elim (cases_eq d b) [
    | inl q ↦ inl (e, q)
    | inr ne ↦ inr (inr ne)
  ]
]

-- where a join is there it is how far its members are
pub far_there : (ways : List Cross) (nodes : List Node) (joins : Entries) (f : Sets) (a b : ℕ) (j : Join) → join_at joins a b ≡ Some j
    → dist_in ways nodes joins f a b ≡ join_length ways nodes j
far_there ways nodes joins f a b j e = ap (λ z. option_map_or (join_length ways nodes) z (load_of f a b + 1)) e

-- what was tight is so where a tight join is noted
pub far_noted : (ways : List Cross) (nodes : List Node) (old new : Entries) (f : Sets) (a b : ℕ) (j : Join) → IsNoted old new a b j
    → join_length ways nodes j ≡ load_of f a b → (c d : ℕ) → load_of f c d ≡ dist_in ways nodes old f c d
    → load_of f c d ≡ dist_in ways nodes new f c d
far_noted ways nodes old new f a b j n long c d e = elim (both c d a b) [
  | inl p ↦
      let there : join_at new c d ≡ Some j = ap (λ z. join_at new z d) p.0 ∙ ap (join_at new a) p.1 ∙ n.there in
      ap (λ z. load_of f z d) p.0 ∙ ap (load_of f a) p.1 ∙ sym long ∙ sym (far_there ways nodes new f c d j there)
  | inr p ↦ elim (both c d b a) [
    | inl q ↦
        let there : join_at new c d ≡ Some (turned j) = ap (λ z. join_at new z d) q.0 ∙ ap (join_at new b) q.1 ∙ n.back in
        let same : join_length ways nodes (turned j) ≡ join_length ways nodes j = omega arith in
        ap (λ z. load_of f z d) q.0 ∙ ap (load_of f b) q.1 ∙ load_turned f.size f b a ∙ sym long ∙ sym same
        ∙ sym (far_there ways nodes new f c d (turned j) there)
    | inr q ↦ e ∙ sym (ap (λ z. option_map_or (join_length ways nodes) z (load_of f c d + 1)) (n.others c d p q))
  ]
]

-- what tight members are apart is even
pub far_is_even : (d : Dual) (nodes : List Node) (joins : Entries) (f : Sets) (a b : ℕ) → IsGround d → AreNodes d.crosses nodes
    → AreJoins d.crosses nodes joins → load_of f a b ≡ dist_in d.crosses nodes joins f a b → dist_in d.crosses nodes joins f a b % 2 ≡ 0
far_is_even d nodes joins f a b ground chains are e =
    let w = tied d.crosses nodes joins f a b e in
    let j = w.join in
    let is = (are a b j w.there).join in
    let long : (node_at nodes j.first).far + (way_at d.crosses j.way).length + (node_at nodes j.second).far ≡ load_of f a b = w.long in
    omega (
      arith,
      e,
      long,
      far_even d.crosses nodes ground.even j.first j.first chains is.first (omega arith),
      far_even d.crosses nodes ground.even j.second j.second chains is.second (omega arith),
      ground.even j.way no_cross is.over.inside,
    )

-- ---- a join is noted

-- the same state with other joins
state_joined : (d : Dual) (x : State) (joins : Entries) → IsState d x → IsState d (record x { joins = joins })
state_joined d x joins st = record {
  ground = st.ground;
  sized = record { seats = st.sized.seats; faces = st.sized.faces; stacks = st.sized.stacks; labels = st.sized.labels; rests = st.sized.rests; inners = st.sized.inners };
  sea = st.sea;
  early = st.early;
  held = st.held;
  chains = st.chains;
  ends = st.ends;
  inner = st.inner;
}

pub forest_noted : (d : Dual) (x : State) (joins : Entries) (j : Join) → IsForested d x → IsNoted x.joins joins (start_of x.arena j) (end_of x.arena j) j
    → IsJoin d.crosses x.arena j → join_length d.crosses x.arena j ≡ load_of (sets_of x.family) (start_of x.arena j) (end_of x.arena j)
    → IsForested d (record x { joins = joins })
forest_noted d x joins j fx n is long =
    let f = sets_of x.family in
    let are = noted_joins d.crosses x.arena x.joins joins j n is fx.joins in
    record {
      state = state_joined d x joins fx.state;
      members = fx.members;
      mates = fx.mates;
      sized = fx.sized;
      joins = are;
      seats = fx.seats;
      trees = record {
        stage = stage_with f.size f (dist_of d x) (dist_in d.crosses x.arena joins f) (trees_of x) fx.trees.stage
            (far_within d x.seats x.arena joins f (sea_of x).point fx.state.sea.flood fx.state.chains are fx.seats fx.members)
            (λ s t _ _ e. far_noted d.crosses x.arena x.joins joins f (start_of x.arena j) (end_of x.arena j) j n long s t e);
        ready = fx.trees.ready;
        names = λ i ne. let w = fx.trees.names i ne in record { named = w.named; own = w.own };
        idle = fx.trees.idle;
      };
    }

-- the join over a way between two tops that met
pub record IsOverMeeting (d : Dual) (x : State) (c : Crossing) (j : Join) (one two : ℕ) : Type 0 where
  pub join : IsJoin d.crosses x.arena j
  pub start : start_of x.arena j ≡ one
  pub end : end_of x.arena j ≡ two
  pub long : join_length d.crosses x.arena j ≡ load_of (sets_of x.family) (start_of x.arena j) (end_of x.arena j)
  pub differ : start_of x.arena j ≢ end_of x.arena j

pub meeting_join : (d : Dual) (x : State) (c : Crossing) (j : Join) (m : IsMeeting d x c) → node_of x.held c.from ≡ Some j.first
    → node_of x.held c.to ≡ Some j.second → j.way ≡ c.way → IsOverMeeting d x c j m.met.one m.met.two
meeting_join d x c j m first second way =
    let st = m.forest.state in
    let f = sets_of x.family in
    let a = st.ends c.from j.first first in
    let b = st.ends c.to j.second second in
    let p = sym m.met.at_one ∙ held_at x c.from j.first first in
    let q = sym m.met.at_two ∙ held_at x c.to j.second second in
    let one : start_of x.arena j ≡ m.met.one = sym (ap member_at p) in
    let two : end_of x.arena j ≡ m.met.two = sym (ap member_at q) in
    let over : IsOver d.crosses (node_at x.arena j.first).face j.way (node_at x.arena j.second).face =
    subst (λ z. IsOver d.crosses (node_at x.arena j.first).face z (node_at x.arena j.second).face) (sym way)
    (subst (λ z. IsOver d.crosses z c.way (node_at x.arena j.second).face) (sym a.1) (subst (IsOver d.crosses c.from c.way) (sym b.1) m.over)) in
    let far_one : m.met.far ≡ (node_at x.arena j.first).far = ap far_at p in
    let far_two : m.met.beyond ≡ (node_at x.arena j.second).far = ap far_at q in
    let far_way : (way_at d.crosses j.way).length ≡ (way_at d.crosses c.way).length = ap (λ z. (way_at d.crosses z).length) way in
    let load : load_of f (start_of x.arena j) (end_of x.arena j) ≡ load_of f m.met.one m.met.two =
    ap (λ z. load_of f z (end_of x.arena j)) one ∙ ap (load_of f m.met.one) two in
    record {
      join = record { first = a.0; second = b.0; over = over };
      start = one;
      end = two;
      long = omega (arith, m.met.tight, far_one, far_two, far_way, load);
      differ = λ e. m.met.differ (ap f.top (sym one ∙ e ∙ two));
    }

pub tied_over : (d : Dual) (x : State) (c : Crossing) (j : Join) (joins : Entries) (m : IsMeeting d x c) → node_of x.held c.from ≡ Some j.first
    → node_of x.held c.to ≡ Some j.second → j.way ≡ c.way → IsNoted x.joins joins (start_of x.arena j) (end_of x.arena j) j
    → (p : ℕ × ℕ) → p.0 ≡ start_of x.arena j → p.1 ≡ end_of x.arena j
    → HasTied d x (record x { joins = joins }) m.met.one m.met.two p
tied_over d x c j joins m first second way n p from to =
    let w = meeting_join d x c j m first second way in
    let f = sets_of x.family in
    record {
      forest = forest_noted d x joins j m.forest n w.join w.long;
      rest = refl;
      from = from ∙ w.start;
      to = to ∙ w.end;
      tight = ap (λ z. load_of f z p.1) from ∙ ap (load_of f (start_of x.arena j)) to ∙ sym w.long
          ∙ sym (far_there d.crosses x.arena joins f (start_of x.arena j) (end_of x.arena j) j n.there)
          ∙ sym (ap (λ z. dist_in d.crosses x.arena joins f z p.1) from ∙ ap (dist_in d.crosses x.arena joins f (start_of x.arena j)) to);
    }
