-- The state at the beginning, and its keys.
use Rattle.std.proofs.Common.{arith, ◌≡◌, ◌≢◌, ℕ, ◌+◌, ◌*◌, ◌<◌, ◌≤◌, refl, sym, ap, ◌∙◌, subst, inl, inr, Bool, ◌&&◌, Some, None, true, false, cond, List, [], length, get_or}
use Rattle.std.specs.Prelude.{replicate}
use Rattle.std.proofs.lemmas.Bool.{cases_eq, cases_lt, true≢false}
use Rattle.std.proofs.lemmas.List.{get_or-set_other, get_or-replicate, get_or_past, length-replicate, length-set}
use Rattle.std.proofs.lemmas.Grind.{get_or-set_at}
use Rattle.std.proofs.lemmas.Option.{same_Some, none-some}
use Rattle.dpl_laminar.specs.Families.{Sets, IsFamily, has}
use Rattle.dpl_laminar.specs.Changes.{IsSingles}
use Rattle.dpl_laminar.specs.Storing.{sets_of, AreOnce}
use Rattle.dpl_laminar.proofs.Numbers.{cases_Option}
use Rattle.dpl_laminar.proofs.Sums.{sum_same, sum_zero}
use Rattle.dpl_dual.specs.declared.crosses.Cross.{Cross}
use Rattle.dpl_dual.specs.declared.crosses.Dual.{Dual}
use Rattle.dpl_dual.specs.Chains.{IsAt}
use Rattle.dpl_dual.specs.Duals.{way_at}
use Rattle.dpl_tree.specs.declared.tree.Tree.{Tree}
use Rattle.dpl_tree.specs.steps.Forests.{free, outer, gain, drop_of}
use Rattle.dpl_tree.specs.steps.Growth.{AreRoots}
use Rattle.dpl_tree.specs.Views.{place_in}
use Rattle.dpl_tree.proofs.Growing.{place_cases, outer_in, inner_in}
use Rattle.dpl_pack.specs.Nests.{inner_of, comes_before}
use Rattle.dpl_pack.specs.Points.{water, on}
use Rattle.dpl_pack.proofs.PointLemmas.{on_water, member_at, far_at}
use Rattle.dpl_pack.specs.Tides as tides
use Rattle.dpl_flood.specs.declared.nodes.Node.{Node}
use Rattle.dpl_flood.specs.declared.state.State.{State}
use Rattle.dpl_flood.specs.Arenas.{AreNodes, IsThere, IsLonger, node_at}
use Rattle.dpl_flood.specs.Dues.{IsDueAt}
use Rattle.dpl_flood.specs.Holdings.{Holding, node_of, stack_of, seated, point_at}
use Rattle.dpl_flood.specs.Queues.{never}
use Rattle.dpl_flood.specs.Seas.{Sea, IsStart, IsDueTime, IsPile, sides_of, tide_of, depth_above}
use Rattle.dpl_flood.specs.Starts.{AreSeats, AreSeated, AreFirst, HasBegun}
use Rattle.dpl_flood.specs.States.{IsGround, IsWayFrom, AreKeys, AreKeyedAround, sea_of, top_keys}
use Rattle.dpl_flood.proofs.ArenaLemmas.{same_node}
use Rattle.dpl_flood.proofs.LookLemmas.{around_either}
use Rattle.dpl_flood.proofs.MeetLemmas.{due_at}
use Rattle.dpl_flood.proofs.ShoreLemmas.{cases_point}
use Rattle.dpl_flood.proofs.StartLemmas.{start_stands, start_due}
use Rattle.dpl_flood.proofs.ToldLemmas.{told_is}

-- ---- seats

pub seated_none : (faces : List ℕ) (nodes : List Node) (x : Holding) → nodes ≡ [] → ((g : ℕ) → node_of x g ≡ None) → AreSeated faces 0 x nodes x
seated_none faces nodes x none blank = record {
  many = ap length none;
  chains = λ ways a h. absurd (omega (arith, h, ap length none));
  there = λ t h. absurd (omega (arith, h));
  holds = λ t h. absurd (omega (arith, h));
  only = λ g a e. absurd (none-some a (sym (blank g) ∙ e));
  places = refl;
  stacks = refl;
}

-- one seat more
pub seated_more : (faces : List ℕ) (i : ℕ) (old : Holding) (nodes new : List Node) (x : Holding) (a : ℕ) → AreOnce faces → i < length faces
    → get_or faces i 0 < length old.nodes → AreSeated faces i old nodes x
    → a ≡ length nodes → length new ≡ length nodes + 1 → IsThere new a (get_or faces i 0) a 0 → IsLonger nodes new
    → ((ways : List Cross) → AreNodes ways nodes → AreNodes ways new)
    → AreSeated faces (i + 1) old new (seated x (get_or faces i 0) a)
seated_more faces i old nodes new x a once hi low s number count is longer kept =
    let face = get_or faces i 0 in
    let place : face < length x.nodes = omega (arith, low, s.places) in
    let here : a ≡ i = omega (arith, number, s.many) in
    let other : (t : ℕ) → t < i → get_or faces t 0 ≢ face = λ t h. once t i h hi in
    record {
      many = omega (arith, count, s.many);
      chains = λ ways. kept ways (s.chains ways);
      there = λ t h. elim (cases_eq t i) [
        | inl e ↦ subst (λ z. IsThere new z (get_or faces z 0) z 0) (sym e) (subst (λ z. IsThere new z face z 0) here is)
        | inr ne ↦
            let before : t < i = omega (arith, h, ne) in
            let was = s.there t before in
            let same : node_at new t ≡ node_at nodes t = same_node nodes new t longer was.inside in
            record {
              inside = omega (arith, was.inside, count);
              face = ap (λ (z : Node). z.face) same ∙ was.face;
              member = ap (λ (z : Node). z.member) same ∙ was.member;
              far = ap (λ (z : Node). z.far) same ∙ was.far;
            }
      ];
      holds = λ t h. elim (cases_eq t i) [
        | inl e ↦ get_or-set_at x.nodes face (get_or faces t 0) (Some a) None (ap (λ z. get_or faces z 0) e) place ∙ ap Some (here ∙ sym e)
        | inr ne ↦
            let before : t < i = omega (arith, h, ne) in
            get_or-set_other x.nodes face (get_or faces t 0) (Some a) None (other t before) ∙ s.holds t before
      ];
      only = λ g b e. elim (cases_eq g face) [
        | inl same ↦
            let is_a : a ≡ b = same_Some a b (sym (get_or-set_at x.nodes face g (Some a) None same place) ∙ e) in
            (omega (arith, is_a, here), same ∙ ap (λ z. get_or faces z 0) (sym here ∙ is_a))
        | inr ne ↦
            let was = s.only g b (sym (get_or-set_other x.nodes face g (Some a) None ne) ∙ e) in
            (omega (arith, was.0), was.1)
      ];
      places = length-set x.nodes face (Some a) ∙ s.places;
      stacks = s.stacks;
    }

-- ---- the state

-- at first single members are outer, and no other set stands in a tree
pub first_low : (f : Sets) (tree : Tree) (members : List ℕ) → IsSingles f.size f → AreRoots f members tree → length members ≡ f.size
    → ((k : ℕ) → k < f.size → get_or members k 0 ≡ k) → (k : ℕ) → k < f.size → place_in tree.labels.items k ≡ outer
first_low f tree members singles roots many each k h =
    ap (place_in tree.labels.items) (sym (singles.top k h) ∙ ap f.top (sym (each k h))) ∙ roots.are_outer k (omega (arith, h, many))

pub first_high : (f : Sets) (tree : Tree) (members : List ℕ) → IsSingles f.size f → AreRoots f members tree → length members ≡ f.size
    → ((k : ℕ) → k < f.size → get_or members k 0 ≡ k) → (k : ℕ) → f.size ≤ k → place_in tree.labels.items k ≡ free
first_high f tree members singles roots many each k h = elim (place_cases (place_in tree.labels.items k)) [
  | inl e ↦ e
  | inr (inl e) ↦ absurd (none (outer_in e))
  | inr (inr e) ↦ absurd (none (inner_in e))
]
  where
    none : place_in tree.labels.items k ≢ free → ⊥
    none ne =
        let w = (roots.only k ne).1 in
        let low : w.0 < f.size = omega (arith, w.1, many) in
        omega (arith, h, low, sym w.2 ∙ ap f.top (each w.0 low) ∙ singles.top w.0 low)

-- without values nothing is inside
blank_inner : (f : Sets) → ((k : ℕ) → f.value k ≡ 0) → (k t : ℕ) → inner_of f k t ≡ 0
blank_inner f v k t = sum_same (2 * f.size) (λ j. cond (comes_before f j k && f.holds j t) (f.value j) 0) (λ j. 0)
    (λ j hj. none (comes_before f j k && f.holds j t) (f.value j) (v j)) ∙ sum_zero (2 * f.size)
  where
    none : (b : Bool) (x : ℕ) → x ≡ 0 → cond b x 0 ≡ 0
    none true x e = e
    none false x e = refl

-- the same item at each place, and the same where there is none
pub same_item : {X : Type 0} → (n k : ℕ) (v : X) → get_or (replicate n v) k v ≡ v
same_item n k v = elim (cases_lt k n) [
  | inl l ↦ get_or-replicate n k v v l
  | inr l ↦ get_or_past (replicate n v) k v (omega (arith, l, length-replicate n v))
]

-- what is made of so many seats has begun
pub begun : (d : Dual) (x : State) (faces : List ℕ) (old : Holding) → IsGround d → AreSeats d faces → x.seats ≡ faces
    → IsSingles (length faces) (sets_of x.family) → IsFamily (sets_of x.family) → AreSeated faces (length faces) old x.arena x.held
    → length old.nodes ≡ d.faces → old.stacks ≡ replicate (2 * length faces) [] → (members : List ℕ)
    → AreRoots (sets_of x.family) members x.tree → length members ≡ length faces → ((k : ℕ) → k < length faces → get_or members k 0 ≡ k)
    → x.rests.items ≡ replicate (2 * length faces) false → x.inners.items ≡ replicate (length faces) 0 → x.time ≡ 0 → HasBegun d x
begun d x faces old ground seats is singles family placed places stacks members roots many each rests inners time =
    let n = length faces in
    let f = sets_of x.family in
    let s = sea_of x in
    let size : f.size ≡ n = singles.size in
    let own : IsSingles f.size f = subst (λ z. IsSingles z f) (sym size) singles in
    let low : (k : ℕ) → k < f.size → place_in x.tree.labels.items k ≡ outer = first_low f x.tree members own roots (many ∙ sym size)
    (λ k h. each k (omega (arith, h, size))) in
    let high : (k : ℕ) → f.size ≤ k → place_in x.tree.labels.items k ≡ free = first_high f x.tree members own roots (many ∙ sym size)
    (λ k h. each k (omega (arith, h, size))) in
    let bare : (k : ℕ) → stack_of x.held k ≡ [] = λ k. ap (λ z. get_or z k []) (placed.stacks ∙ stacks) ∙ same_item {X = List ℕ} (2 * n) k [] in
    let start : IsStart d faces s = record {
      family = family;
      singles = own;
      seated = λ t ht.
          let h : t < n = omega (arith, ht, size) in
          let there = placed.there t h in
          ap (point_at x.arena) (placed.holds t h) ∙ (λ z. on (there.member z) (there.far z));
      others = λ g t far e. elim (cases_Option (node_of x.held g)) [
        | inl none ↦ absurd (on_water t far (sym e ∙ ap (point_at x.arena) none))
        | inr some ↦
            let a = some.0 in
            let o = placed.only g a some.1 in
            let there = placed.there a o.0 in
            let at : on t far ≡ on a 0 = sym e ∙ ap (point_at x.arena) some.1 ∙ (λ z. on (there.member z) (there.far z)) in
            let t_is : t ≡ a = ap member_at at in
            let far_is : far ≡ 0 = ap far_at at in
            (omega (arith, t_is, o.0, size), (far_is, o.1 ∙ ap (λ z. get_or faces z 0) (sym t_is)))
      ];
      seats = λ t ht. let h : t < n = omega (arith, ht, size) in (seats.inside t 0 h, seats.part t 0 h);
      grow = λ k h. ap gain (low k h);
      rest = λ k h. ap gain (high k h);
      none_falls = λ k. elim (cases_lt k f.size) [
        | inl l ↦ ap drop_of (low k l)
        | inr l ↦ ap drop_of (high k l)
      ];
      none_rests = λ k. ap (λ z. get_or z k false) rests ∙ same_item (2 * n) k false;
      time = time;
    } in
    let here : IsStart d x.seats s = subst (λ z. IsStart d z s) (sym is) start in
    record {
      state = record {
        ground = ground;
        sized = record {
          seats = sym (size ∙ ap length (sym is));
          faces = placed.places ∙ places;
          stacks = omega (arith, ap length (placed.stacks ∙ stacks), length-replicate {A = List ℕ} (2 * n) [], size);
          labels = roots.sized.labels;
          rests = omega (arith, ap length rests, length-replicate (2 * n) false, size);
          inners = omega (arith, ap length inners, length-replicate {A = ℕ} n 0, size);
        };
        sea = start_stands d x.seats s here;
        early = omega (arith, time);
        held = record {
          each = λ k g hk y. absurd (true≢false (sym y ∙ ap (λ z. has z g) (bare k)));
          order = λ k hk. subst (IsPile (λ g. depth_above f k (s.point g))) (sym (bare k)) tt;
          no_seat = λ k t hk ht. ap (λ z. has z (get_or x.seats t 0)) (bare k);
          once = λ k j g hk hj y _. absurd (true≢false (sym y ∙ ap (λ z. has z g) (bare k)));
          all = λ g t far e. inl (here.others g t far e).1;
        };
        chains = placed.chains d.crosses;
        ends = λ g a e. let o = placed.only g a e in let there = placed.there a o.0 in (there.inside, there.face ∙ sym o.1);
        inner = λ t h. ap (λ z. get_or z t 0) inners ∙ same_item {X = ℕ} n t 0 ∙ sym (blank_inner f singles.value (f.top t) t);
      };
      start = here;
      seats = subst (AreSeats d) (sym is) seats;
      members = size ∙ ap length (sym is);
    }

-- ---- keys

pub first_none : (d : Dual) (s : Sea) (faces old : List ℕ) → AreFirst d s faces 0 old old
first_none d s faces old = record { sizes = refl; done = λ t w h from. absurd (omega (arith, h)) }

-- those around one face more
pub first_more : (d : Dual) (s : Sea) (faces : List ℕ) (i : ℕ) (old between new : List ℕ) → AreFirst d s faces i old between
    → AreKeyedAround d s (get_or faces i 0) between new → AreFirst d s faces (i + 1) old new
first_more d s faces i old between new first around = record {
  sizes = around.sizes ∙ first.sizes;
  done = λ t w h from. elim (cases_eq t i) [
    | inl e ↦ around.at w (subst (λ z. IsWayFrom d (get_or faces z 0) w) e from)
    | inr ne ↦ elim (around_either d s (get_or faces i 0) between new around w) [
      | inl same ↦ same ∙ first.done t w (omega (arith, h, ne)) from
      | inr due ↦ due.1
    ]
  ];
}

-- All keys that must be set are.
pub first_due : (d : Dual) (x : State) (old new : List ℕ) → HasBegun d x → AreFirst d (sea_of x) x.seats (length x.seats) old new
    → length old ≡ length d.crosses + 2 * length x.seats → AreKeys d x new
first_due d x old new b first places =
    let s = sea_of x in
    let key : ℕ → ℕ = λ w. get_or new w 0 in
    let held : (w g : ℕ) → w < length d.crosses → IsAt (way_at d.crosses w) g → s.point g ≢ water
    → IsDueAt (sides_of d) (tide_of d s) s.time key w = λ w g hw at ne. elim (cases_eq (way_at d.crosses w).f (way_at d.crosses w).g) [
      | inl e ↦ inl (ap (λ z. tides.place_of s.sets (s.point z)) e)
      | inr differ ↦ elim (cases_point (s.point g)) [
        | inl e ↦ absurd (ne e)
        | inr o ↦
            let seat = b.start.others g o.0 o.1.0 o.1.1 in
            let from : IsWayFrom d (get_or x.seats o.0 0) w = record {
              inside = hw;
              at = subst (IsAt (way_at d.crosses w)) seat.1.1 at;
              differ = differ;
            } in
            due_at d s w key (subst (IsDueTime d s w) (sym (first.done o.0 w (omega (arith, seat.0, b.members)) from))
            (told_is d s never w b.state.sea.moving (omega (arith, b.start.time))))
      ]
    ] in
    record {
      places = omega (arith, first.sizes, places, b.members);
      due = start_due d x.seats s key (top_keys d new) b.start (λ w hw c. elim c [
        | inl ne ↦ held w (way_at d.crosses w).f hw (inl refl) ne
        | inr ne ↦ held w (way_at d.crosses w).g hw (inr refl) ne
      ]);
      now = record { ways = λ w hw. omega (arith, b.start.time); tops = λ k l. omega (arith, b.start.time) };
    }
