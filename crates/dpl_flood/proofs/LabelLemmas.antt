-- States whose tops stand another way in the trees.
use Rattle.std.proofs.Common.{arith, ◌≡◌, ℕ, ◌+◌, ◌*◌, ◌<◌, refl, sym, ap, ◌∙◌, subst, inl, inr, Bool, Option, false, List, length, get_or}
use Rattle.std.proofs.Math.Path.{subst₂}
use Rattle.std.specs.Prelude.{slice_set}
use Rattle.std.proofs.lemmas.Bool.{true≢false}
use Rattle.std.proofs.lemmas.List.{get_or-set_other}
use Rattle.std.proofs.lemmas.Grind.{get_or-set_at}
use Rattle.dpl_laminar.specs.Storing.{sets_of}
use Rattle.dpl_dual.specs.declared.crosses.Dual.{Dual}
use Rattle.dpl_tree.specs.declared.tree.Tree.{Tree}
use Rattle.dpl_tree.specs.steps.Forests as forests
use Rattle.dpl_tree.specs.steps.Forests.{gain, drop_of}
use Rattle.dpl_tree.specs.Views.{place_in, forest_of}
use Rattle.dpl_flood.specs.declared.state.State.{State}
use Rattle.dpl_pack.specs.Nests.{inner_of}
use Rattle.dpl_flood.specs.Arenas.{AreNodes, node_at}
use Rattle.dpl_flood.specs.Events.{IsRelabelled, MayGrow}
use Rattle.dpl_flood.specs.Holdings.{node_of, point_of, stack_of}
use Rattle.dpl_flood.specs.Rates.{gains_in, losses_in}
use Rattle.dpl_flood.specs.Seas.{Sea, IsSea, AreHeldBy, IsSeaDue, AreNow, AreRenewed, Grows, Ceases, changed}
use Rattle.dpl_flood.specs.States.{sea_of, IsState, AreKeys, top_keys}
use Rattle.dpl_flood.proofs.EventLemmas.{cease_due, event_kept}
use Rattle.dpl_flood.proofs.SeaLemmas.{now_kept}

-- what tops do, and which rest
abbrev pub relabelled : State → State → Sea
relabelled x y = changed (sea_of x) (sets_of x.family) (gains_in (place_in y.tree.labels.items)) (losses_in (place_in y.tree.labels.items))
    (λ k. get_or y.rests.items k false)

pub relabelled_sea : (x y : State) → IsRelabelled x y → sea_of y ≡ relabelled x y
relabelled_sea x y r = λ z. record {
  sets = sets_of (r.family z);
  point = point_of (r.arena z) (r.held z);
  gain = gains_in (place_in y.tree.labels.items);
  loss = losses_in (place_in y.tree.labels.items);
  rests = λ k. get_or y.rests.items k false;
  time = r.time z;
}

-- a top goes into a tree, and another one behind it
pub grown : (d : Dual) (x : State) (tree : Tree) (rests : List Bool) (s t o : ℕ) (mates : List (Option ℕ)) → IsState d x
    → MayGrow (sea_of x) ((sets_of x.family).top t) ((sets_of x.family).top o)
    → forests.Grows (sets_of x.family) (forest_of x.tree mates) s t o (forest_of tree mates)
    → rests ≡ slice_set x.rests.items ((sets_of x.family).top o) false
    → Grows (sea_of x) ((sets_of x.family).top t) ((sets_of x.family).top o) (gains_in (place_in tree.labels.items))
    (losses_in (place_in tree.labels.items)) (λ k. get_or rests k false)
grown d x tree rests s t o mates st may g r =
    let f = sets_of x.family in
    let hr : f.top o < length x.rests.items = omega (arith, (may.tops (f.top o) (inr refl)).0, st.sized.rests) in
    record {
      falls = (ap gain g.place_inner, ap drop_of g.place_inner);
      rises = (ap gain g.place_outer, ap drop_of g.place_outer);
      others = λ k ni no. (ap gain (g.place_others k ni no), ap drop_of (g.place_others k ni no));
      free = may.free;
      rest = λ k no. ap (λ z. get_or z k false) r ∙ get_or-set_other x.rests.items (f.top o) k false false no;
      awake = (may.awake, ap (λ z. get_or z (f.top o) false) r ∙ get_or-set_at x.rests.items (f.top o) (f.top o) false false refl hr);
      tops = may.tops;
      pace = may.pace;
    }

-- where tops stand still and rest, no key is too late
pub ceased_keys : (d : Dual) (x y : State) (keys : List ℕ) → IsState d x → IsRelabelled x y
    → Ceases (sea_of x) (gains_in (place_in y.tree.labels.items)) (losses_in (place_in y.tree.labels.items)) (λ k. get_or y.rests.items k false)
    → AreKeys d x keys → AreKeys d y keys
ceased_keys d x y keys st r ceases k =
    let none : ℕ → Bool = λ _. false in
    let way : ℕ → ℕ = λ w. get_or keys w 0 in
    let back = sym (relabelled_sea x y r) in
    let event = cease_due d x.seats (sea_of x) (gains_in (place_in y.tree.labels.items)) (losses_in (place_in y.tree.labels.items)) (λ j. get_or y.rests.items j false)
    none none st.sea ceases in
    let same : AreRenewed d (relabelled x y) none none way (top_keys d keys) way (top_keys d keys) = record {
      looks = record { one = λ w h e. absurd (true≢false (sym e)); two = λ w h e. absurd (true≢false (sym e)); others = λ w h a b. inl refl };
      seen_due = λ j e. absurd (true≢false (sym e));
      unseen = λ j e l. inl refl;
    } in
    record {
      places = k.places ∙ ap (λ z. length d.crosses + 2 * (sets_of z).size) (sym r.family);
      due = subst (λ s. IsSeaDue d s way (top_keys d keys)) back
          (event_kept d (sea_of x) (relabelled x y) none none way (top_keys d keys) way (top_keys d keys) k.due event same);
      now = subst (λ s. AreNow d s way (top_keys d keys)) back
          (now_kept d (sea_of x) (relabelled x y) way (top_keys d keys) way (top_keys d keys) refl k.now (λ w h. inl refl) (λ j l. elim (ceases.each j) [
            | inl o ↦ inl (sym o.1.0 ∙ l, refl)
            | inr o ↦ absurd (omega (arith, l, o.1.0))
          ]));
    }

-- faces stand on the stacks of their sets whatever the tops do
held_rated : (terminals : List ℕ) (s : Sea) (gain loss : ℕ → ℕ) (rests : ℕ → Bool) (stack : ℕ → List ℕ) → AreHeldBy terminals s stack
    → AreHeldBy terminals (changed s s.sets gain loss rests) stack
held_rated terminals s gain loss rests stack h = record {
  each = λ k g hk y.
      let o = h.each k g hk y in
      record { member = o.member; far = o.far; at = o.at; holds = o.holds; inside = o.inside; within = o.within };
  order = h.order;
  no_seat = h.no_seat;
  once = h.once;
  all = h.all;
}

-- the same moats whose tops stand another way are a state, where they are a sea
pub relabelled_stands : (d : Dual) (x y : State) → IsRelabelled x y → IsState d x → IsSea d x.seats (relabelled x y) → IsState d y
relabelled_stands d x y r st sea =
    let size : 2 * (sets_of x.family).size ≡ 2 * (sets_of y.family).size = ap (λ z. 2 * (sets_of z).size) (sym r.family) in
    let back = sym (relabelled_sea x y r) in
    record {
      ground = st.ground;
      sized = record {
        seats = ap length r.seats ∙ st.sized.seats ∙ ap (λ z. (sets_of z).size) (sym r.family);
        faces = ap (λ h. length h.nodes) r.held ∙ st.sized.faces;
        stacks = ap (λ h. length h.stacks) r.held ∙ st.sized.stacks ∙ size;
        labels = r.labels ∙ st.sized.labels ∙ size;
        rests = r.rests ∙ st.sized.rests ∙ size;
        inners = ap length r.inners ∙ st.sized.inners ∙ ap (λ z. (sets_of z).size) (sym r.family);
      };
      sea = subst₂ (IsSea d) (sym r.seats) back sea;
      early = omega (arith, st.early, r.time);
      held = subst (λ h. AreHeldBy y.seats (sea_of y) (stack_of h)) (sym r.held)
          (subst₂ (λ q z. AreHeldBy q z (stack_of x.held)) (sym r.seats) back (held_rated x.seats (sea_of x) (gains_in (place_in y.tree.labels.items))
          (losses_in (place_in y.tree.labels.items)) (λ k. get_or y.rests.items k false) (stack_of x.held) st.held));
      chains = subst (AreNodes d.crosses) (sym r.arena) st.chains;
      ends = λ g a e.
          let q = st.ends g a (sym (ap (λ h. node_of h g) r.held) ∙ e) in
          (omega (arith, q.0, ap length r.arena), ap (λ z. (node_at z a).face) r.arena ∙ q.1);
      inner = λ m h.
          ap (λ z. get_or z m 0) r.inners ∙ st.inner m (omega (arith, h, ap (λ z. (sets_of z).size) r.family))
          ∙ ap (λ z. inner_of (sets_of z) ((sets_of z).top m) m) (sym r.family);
    }
