-- States after a face is taken or left.
use Rattle.std.proofs.Common.{arith, ◌≡◌, ◌≢◌, ℕ, ◌+◌, ◌*◌, ◌<◌, refl, sym, ap, ◌∙◌, subst, inl, inr, Some, None, List, [], ◌∷◌, length}
use Rattle.std.proofs.Math.Path.{subst₂}
use Rattle.std.proofs.lemmas.List.{length-set}
use Rattle.dpl_laminar.specs.Families.{has}
use Rattle.dpl_laminar.specs.Storing.{sets_of}
use Rattle.dpl_laminar.proofs.Numbers.{has_head}
use Rattle.dpl_dual.specs.declared.crosses.Dual.{Dual}
use Rattle.dpl_dual.specs.Duals.{way_at}
use Rattle.dpl_pack.specs.Points.{water, on}
use Rattle.dpl_pack.proofs.PointLemmas.{on_water, member_at, far_at}
use Rattle.dpl_flood.specs.declared.nodes.Node.{Node}
use Rattle.dpl_flood.specs.declared.state.State.{State}
use Rattle.dpl_flood.specs.Arenas.{AreNodes, IsLonger, IsThere, node_at}
use Rattle.dpl_flood.specs.Holdings.{Holding, node_of, stack_of, pushed, popped}
use Rattle.dpl_flood.specs.Seas.{IsSea, AreHeldBy, Takes, Leaves, HasReached, Drops, noted_at}
use Rattle.dpl_flood.specs.States.{sea_of, IsState, IsTaken, IsLeft}
use Rattle.dpl_flood.proofs.ArenaLemmas.{same_node, length_longer}
use Rattle.dpl_flood.proofs.EventLemmas.{shift_stands, take_shifts, leave_shifts}
use Rattle.dpl_flood.proofs.HoldingLemmas.{points_longer, points_pushed, points_popped, stacks_pushed, stacks_popped, node_pushed, node_popped}
use Rattle.dpl_flood.proofs.StackedLemmas.{held_taken, held_left}
use Rattle.dpl_flood.proofs.StateLemmas.{held_at}

-- a state with these nodes and held faces
abbrev pub with_held : State → List Node → Holding → State
with_held x nodes held = record x { arena = nodes; held = held }

-- where nodes are added nothing else changes
pub longer_sea : (d : Dual) (x : State) (nodes : List Node) → IsState d x → IsLonger x.arena nodes → sea_of (record x { arena = nodes }) ≡ sea_of x
longer_sea d x nodes st p =
    let e = points_longer x.arena nodes x.held p (λ g a q. (st.ends g a q).0) in
    (λ z. record (sea_of x) { point = e z })

pub longer_stands : (d : Dual) (x : State) (nodes : List Node) → IsState d x → IsLonger x.arena nodes → AreNodes d.crosses nodes
    → IsState d (record x { arena = nodes })
longer_stands d x nodes st p chains =
    let e = longer_sea d x nodes st p in
    record {
      ground = st.ground;
      sized = record { seats = st.sized.seats; faces = st.sized.faces; stacks = st.sized.stacks; labels = st.sized.labels; rests = st.sized.rests; inners = st.sized.inners };
      sea = subst (IsSea d x.seats) (sym e) st.sea;
      early = st.early;
      held = subst (λ s. AreHeldBy x.seats s (stack_of x.held)) (sym e) st.held;
      chains = chains;
      ends = λ g a q.
          let o = st.ends g a q in
          (omega (arith, o.0, length_longer x.arena nodes p), ap (λ y. y.face) (same_node x.arena nodes a p o.0) ∙ o.1);
      inner = st.inner;
    }

-- ---- a face is taken

pub taken_sea : (d : Dual) (x : State) (nodes : List Node) (set h t far a : ℕ) → IsState d x → IsLonger x.arena nodes → IsThere nodes a h t far
    → h < length x.held.nodes → sea_of (with_held x nodes (pushed x.held set h a)) ≡ noted_at (sea_of x) h (on t far)
taken_sea d x nodes set h t far a st p there i =
    let e = points_pushed x.arena nodes x.held set h a p (λ g b q. (st.ends g b q).0) i in
    (λ z. record (sea_of x) { point = e z }) ∙ (λ z. noted_at (sea_of x) h (on (there.member z) (there.far z)))

pub taken_stands : (d : Dual) (x : State) (nodes : List Node) (h t far a : ℕ) → IsState d x → IsLonger x.arena nodes → AreNodes d.crosses nodes
    → IsThere nodes a h t far → Takes d x.seats (sea_of x) h t far
    → IsState d (with_held x nodes (pushed x.held ((sets_of x.family).top t) h a))
    × IsTaken d x (with_held x nodes (pushed x.held ((sets_of x.family).top t) h a)) h
taken_stands d x nodes h t far a st p chains there takes =
    let set = (sets_of x.family).top t in
    let range : set < length x.held.stacks = omega (arith, st.sea.family.laminar.tops.top_range t takes.member, st.sized.stacks) in
    let face : h < length x.held.nodes = omega (arith, takes.home.0, st.sized.faces) in
    let sea_is = taken_sea d x nodes set h t far a st p there face in
    let stacks_are = stacks_pushed x.held set h a range in (
      record {
        ground = st.ground;
        sized = record {
          seats = st.sized.seats;
          faces = length-set x.held.nodes h (Some a) ∙ st.sized.faces;
          stacks = length-set x.held.stacks set (h ∷ stack_of x.held set) ∙ st.sized.stacks;
          labels = st.sized.labels;
          rests = st.sized.rests;
          inners = st.sized.inners;
        };
        sea = subst (IsSea d x.seats) (sym sea_is) (shift_stands d x.seats (sea_of x) h (on t far) st.sea (take_shifts d x.seats (sea_of x) h t far st.sea takes));
        early = st.early;
        held = subst₂ (AreHeldBy x.seats) (sym sea_is) (sym stacks_are) (held_taken d x.seats (sea_of x) h t far (stack_of x.held) st.sea takes st.held);
        chains = chains;
        ends = λ g b q. elim (node_pushed x.held set h a g b face q) [
          | inl e ↦ (omega (arith, there.inside, e.1), ap (λ z. (node_at nodes z).face) (sym e.1) ∙ there.face ∙ sym e.0)
          | inr o ↦
              let old = st.ends g b o in
              (omega (arith, old.0, length_longer x.arena nodes p), ap (λ y. y.face) (same_node x.arena nodes b p old.0) ∙ old.1)
        ];
        inner = st.inner;
      },
      record {
        member = t;
        far = far;
        takes = takes;
        seats = refl;
        sea = sea_is;
        stacks = stacks_are;
      },
    )

-- from where its chain was made
pub taken_over : (d : Dual) (x : State) (nodes : List Node) (from way to before a top : ℕ) (held : Holding) → IsState d x
    → IsLonger x.arena nodes → AreNodes d.crosses nodes → HasReached d x.seats (sea_of x) from to (way_at d.crosses way).length
    → node_of x.held from ≡ Some before
    → IsThere nodes a to (node_at x.arena before).member ((node_at x.arena before).far + (way_at d.crosses way).length)
    → top ≡ (sets_of x.family).top (node_at x.arena before).member → held ≡ pushed x.held top to a
    → IsState d (with_held x nodes held) × IsTaken d x (with_held x nodes held) to
taken_over d x nodes from way to before a top held st p chains reached is there top_is held_is =
    let at : on reached.member reached.far ≡ on (node_at x.arena before).member (node_at x.arena before).far = sym reached.at ∙ held_at x from before is in
    let m : reached.member ≡ (node_at x.arena before).member = ap member_at at in
    let f : reached.far ≡ (node_at x.arena before).far = ap far_at at in
    let long = (way_at d.crosses way).length in
    let ends : IsThere nodes a to reached.member (reached.far + long) = record {
      inside = there.inside;
      face = there.face;
      member = there.member ∙ sym m;
      far = there.far ∙ ap (λ z. z + long) (sym f);
    } in
    let same : held ≡ pushed x.held ((sets_of x.family).top reached.member) to a =
    held_is ∙ ap (λ z. pushed x.held z to a) (top_is ∙ ap (sets_of x.family).top (sym m)) in
    let t = taken_stands d x nodes to reached.member (reached.far + long) a st p chains ends reached.takes in (
      subst (λ h. IsState d (with_held x nodes h)) (sym same) t.0,
      subst (λ h. IsTaken d x (with_held x nodes h) to) (sym same) t.1,
    )

-- ---- a face is left

-- the last face of a stack has a place
pub left_inside : (d : Dual) (x : State) (set h : ℕ) (rest : List ℕ) → IsState d x → set < 2 * (sets_of x.family).size
    → stack_of x.held set ≡ h ∷ rest → h < length x.held.nodes
left_inside d x set h rest st hs is =
    let o = st.held.each set h hs (ap (λ z. has z h) is ∙ has_head h h rest refl) in
    let land : (sea_of x).point h ≢ water = λ e. on_water o.member o.far (sym o.at ∙ e) in
    omega (arith, (st.sea.flood.home h land).0, st.sized.faces)

pub left_stands : (d : Dual) (x : State) (set h t far : ℕ) (rest : List ℕ) → IsState d x → set < 2 * (sets_of x.family).size
    → stack_of x.held set ≡ h ∷ rest → Leaves x.seats (sea_of x) h t far
    → IsState d (record x { held = popped x.held set h rest }) × IsLeft x (record x { held = popped x.held set h rest }) set h
left_stands d x set h t far rest st hs is leaves =
    let range : set < length x.held.stacks = omega (arith, hs, st.sized.stacks) in
    let face = left_inside d x set h rest st hs is in
    let e = points_popped x.arena x.held set h rest face in
    let sea_is : sea_of (record x { held = popped x.held set h rest }) ≡ noted_at (sea_of x) h water = λ z. record (sea_of x) { point = e z } in
    let stacks_are = stacks_popped x.held set h rest range in (
      record {
        ground = st.ground;
        sized = record {
          seats = st.sized.seats;
          faces = length-set x.held.nodes h None ∙ st.sized.faces;
          stacks = length-set x.held.stacks set rest ∙ st.sized.stacks;
          labels = st.sized.labels;
          rests = st.sized.rests;
          inners = st.sized.inners;
        };
        sea = subst (IsSea d x.seats) (sym sea_is) (shift_stands d x.seats (sea_of x) h water st.sea (leave_shifts d x.seats (sea_of x) h t far st.sea leaves));
        early = st.early;
        held = subst₂ (AreHeldBy x.seats) (sym sea_is) (sym stacks_are) (held_left d x.seats (sea_of x) set h rest (stack_of x.held) hs is st.held);
        chains = st.chains;
        ends = λ g b q. st.ends g b (node_popped x.held set h g b rest face q);
        inner = st.inner;
      },
      record {
        member = t;
        far = far;
        rest = rest;
        last = is;
        leaves = leaves;
        seats = refl;
        sea = sea_is;
        stacks = stacks_are;
      },
    )

-- as it stands on the stack
pub left_over : (d : Dual) (x : State) (set face : ℕ) (rest : List ℕ) (held : Holding) → IsState d x → set < 2 * (sets_of x.family).size
    → Drops x.seats (sea_of x) (stack_of x.held) set → stack_of x.held set ≡ face ∷ rest → held ≡ popped x.held set face rest
    → IsState d (record x { held = held }) × IsLeft x (record x { held = held }) set face
left_over d x set face rest held st hs drops is held_is =
    let same : drops.face ≡ face = ap first_of (sym drops.last ∙ is) in
    let t = left_stands d x set face drops.member drops.far rest st hs is
    (subst (λ z. Leaves x.seats (sea_of x) z drops.member drops.far) same drops.leaves) in (
      subst (λ h. IsState d (record x { held = h })) (sym held_is) t.0,
      subst (λ h. IsLeft x (record x { held = h }) set face) (sym held_is) t.1,
    )
  where
    first_of : List ℕ → ℕ
    first_of [] = 0
    first_of (h ∷ more) = h
