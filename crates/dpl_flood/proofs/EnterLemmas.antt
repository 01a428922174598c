-- A free top that was met and its mate go into a tree.
use Rattle.std.proofs.Common.{arith, ◌≡◌, ◌≢◌, ℕ, ◌+◌, ◌*◌, ◌%◌, ◌<◌, sym, ap, ◌∙◌, subst, inl, inr, false, Some, None, Option, List, length, get_or}
use Rattle.std.proofs.Math.Path.{subst₂}
use Rattle.std.proofs.lemmas.Bool.{cases_eq, true≢false}
use Rattle.std.proofs.lemmas.Option.{none-some}
use Rattle.dpl_laminar.specs.Families.{load_of}
use Rattle.dpl_laminar.specs.Storing.{sets_of}
use Rattle.dpl_dual.specs.declared.crosses.Dual.{Dual}
use Rattle.dpl_pack.specs.Points.{total_at}
use Rattle.dpl_tree.specs.Mates.{IsExit, loads, totals}
use Rattle.dpl_tree.specs.Stages.{IsStage, potential}
use Rattle.dpl_tree.specs.steps.Forests.{Place, Forest, free, outer, inner, gain, drop_of}
use Rattle.dpl_tree.specs.steps.Forests as forests
use Rattle.dpl_tree.specs.Views as views
use Rattle.dpl_tree.specs.Views.{forest_of, place_in, mate_in}
use Rattle.dpl_tree.proofs.Growing.{grown, place_cases, outer_in, mate_outside}
use Rattle.dpl_tree.proofs.Numbering.{grown_trees}
use Rattle.dpl_tree.proofs.Loads.{load_totals}
use Rattle.dpl_tree.proofs.Turning.{grown_falls}
use Rattle.dpl_flood.specs.declared.event.Crossing.{Crossing}
use Rattle.dpl_flood.specs.declared.state.State.{State}
use Rattle.dpl_flood.specs.Events.{IsRelabelled, MayGrow, Meets}
use Rattle.dpl_flood.specs.Forested.{NamesTree, AreTrees, IsForested, IsMeeting, HasTied, IsNearer, dist_of, trees_of}
use Rattle.dpl_flood.specs.Joins.{AreJoins, HaveSeats, dist_in}
use Rattle.dpl_flood.specs.Rates.{gains_in, losses_in}
use Rattle.dpl_flood.specs.Seas.{Sea, IsSeaDue, AreNow, Grows, changed}
use Rattle.dpl_flood.specs.States.{IsState, AreKeys, sea_of, top_keys}
use Rattle.dpl_flood.proofs.LabelLemmas.{relabelled_sea}
use Rattle.dpl_flood.proofs.NameLemmas.{named_grown}
use Rattle.dpl_flood.proofs.TiedLemmas.{far_is_even}

-- a place with no rates is free
still_free : (p : Place) → gain p ≡ 0 → drop_of p ≡ 0 → p ≡ free
still_free p g l = elim (place_cases p) [
  | inl e ↦ e
  | inr (inl e) ↦ absurd (omega (arith, ap gain e, g))
  | inr (inr e) ↦ absurd (omega (arith, ap drop_of e, l))
]

-- one that gains is outer
pub gains_outer : (p : Place) → gain p ≡ 1 → p ≡ outer
gains_outer p g = elim (place_cases p) [
  | inl e ↦ absurd (omega (arith, ap gain e, g))
  | inr (inl e) ↦ e
  | inr (inr e) ↦ absurd (omega (arith, ap gain e, g))
]

-- a member of a top that grows, and one of a free top that is met over tight members, whose top has the mate o of m
pub record IsMet (d : Dual) (x : State) (s t m o : ℕ) : Type 0 where
  pub forest : IsForested d x
  pub from : s < (sets_of x.family).size
  pub to : t < (sets_of x.family).size
  pub tight : load_of (sets_of x.family) s t ≡ dist_of d x s t
  pub grows : (sea_of x).gain ((sets_of x.family).top s) ≡ 1
  pub gains : (sea_of x).gain ((sets_of x.family).top t) ≡ 0
  pub stays : (sea_of x).loss ((sets_of x.family).top t) ≡ 0
  pub awake : (sea_of x).rests ((sets_of x.family).top t) ≡ false
  pub parity : total_at (sets_of x.family) s % 2 ≡ total_at (sets_of x.family) t % 2
  pub exit : IsExit (sets_of x.family).size (sets_of x.family) (mate_in x.mates.items) ((sets_of x.family).top t) m o

-- the mate is a member
pub mate_below : (d : Dual) (x : State) (s t m o : ℕ) → IsMet d x s t m o → o < (sets_of x.family).size
mate_below d x s t m o w = w.forest.trees.stage.rest.pairs.range m o w.exit.below w.exit.paired

-- its top is another one
pub mate_apart : (d : Dual) (x : State) (s t m o : ℕ) → IsMet d x s t m o → (sets_of x.family).top t ≢ (sets_of x.family).top o
mate_apart d x s t m o w e = w.forest.trees.stage.rest.pairs.leaves m o w.exit.below w.exit.paired (w.exit.top ∙ e)

-- and free too
pub mate_free : (d : Dual) (x : State) (s t m o : ℕ) → IsMet d x s t m o → (trees_of x).place ((sets_of x.family).top o) ≡ free
mate_free d x s t m o w =
    let f = sets_of x.family in
    let st = w.forest.trees.stage in
    mate_outside f.size f (loads f.size f) (dist_of d x) (trees_of x) st.rest.pairs st.tree (f.top t) m o
    (still_free ((trees_of x).place (f.top t)) w.gains w.stays) w.exit

pub may_grow : (d : Dual) (x : State) (s t m o : ℕ) → IsMet d x s t m o → MayGrow (sea_of x) ((sets_of x.family).top t) ((sets_of x.family).top o)
may_grow d x s t m o w =
    let f = sets_of x.family in
    let n = f.size in
    let st = w.forest.trees.stage in
    let sea = w.forest.state.sea in
    let tops = sea.family.laminar.tops in
    let ho = mate_below d x s t m o w in
    let first : total_at f t % 2 ≡ x.time % 2 = sym w.parity
    ∙ sea.pace s w.from (omega (arith, w.grows, sea.moving.once (f.top s))) in
    let own : totals n f m % 2 ≡ totals n f t % 2 = st.rest.parity m t w.exit.below w.to w.exit.top in
    let tight = st.rest.pairs.tight m o w.exit.below w.exit.paired in
    let load : loads n f m o ≡ totals n f m + totals n f o =
    load_totals n f f.value st.rest.laminar m o w.exit.below ho (st.rest.pairs.leaves m o w.exit.below w.exit.paired) in
    let pair : totals n f m % 2 ≡ totals n f o % 2 = omega (
      arith,
      load,
      tight,
      far_is_even d x.arena x.joins f m o w.forest.state.ground w.forest.state.chains w.forest.joins tight,
    ) in
    let second : total_at f o % 2 ≡ x.time % 2 = sym pair ∙ own ∙ first in
    record {
      differ = mate_apart d x s t m o w;
      free = (w.gains, w.stays);
      awake = w.awake;
      tops = λ k c. elim c [
        | inl e ↦ (omega (arith, e, tops.top_range t w.to), (ap f.live e ∙ tops.top_live t w.to, ap f.parent e ∙ tops.top_parent t w.to))
        | inr e ↦ (omega (arith, e, tops.top_range o ho), (ap f.live e ∙ tops.top_live o ho, ap f.parent e ∙ tops.top_parent o ho))
      ];
      pace = λ q hq c. elim c [
        | inl e ↦ st.rest.parity q t hq w.to e ∙ first
        | inr e ↦ st.rest.parity q o hq ho e ∙ second
      ];
    }

-- a tree has grown by two tops, and the pairs are as they were
pub record HasGrown (x y : State) (s t o : ℕ) : Type 0 where
  pub same : IsRelabelled x y
  pub mates : y.mates ≡ x.mates
  pub joins : y.joins ≡ x.joins
  pub sized : views.IsSized (sets_of x.family).size y.tree
  pub tree : forests.Grows (sets_of x.family) (trees_of x) s t o (forest_of y.tree x.mates.items)
  pub grows : Grows (sea_of x) ((sets_of x.family).top t) ((sets_of x.family).top o) (gains_in (place_in y.tree.labels.items))
      (losses_in (place_in y.tree.labels.items)) (λ k. get_or y.rests.items k false)

-- what stands in a tree moves
pub moving : (p : Place) → p ≢ free → gain p + drop_of p ≡ 1
moving p ne = elim (place_cases p) [
  | inl e ↦ absurd (ne e)
  | inr (inl e) ↦ omega (arith, ap gain e, ap drop_of e)
  | inr (inr e) ↦ omega (arith, ap gain e, ap drop_of e)
]

-- they are those of a stage, and nearer to its end
stage_grown : (d : Dual) (x y : State) (s t m o : ℕ) → IsMet d x s t m o → HasGrown x y s t o
    → IsStage (sets_of x.family).size (sets_of x.family) (dist_of d x) (forest_of y.tree x.mates.items)
    × (potential (sets_of x.family).size (sets_of x.family) (place_in y.tree.labels.items)
    < potential (sets_of x.family).size (sets_of x.family) (trees_of x).place)
stage_grown d x y s t m o w h =
    let f = sets_of x.family in
    let n = f.size in
    let old = trees_of x in
    let new = forest_of y.tree x.mates.items in
    let st = w.forest.trees.stage in
    let lam = st.rest.laminar in
    let g = h.tree in
    let may = may_grow d x s t m o w in
    let is_free : old.place (f.top t) ≡ free = still_free (old.place (f.top t)) w.gains w.stays in
    let is_outer : old.place (f.top s) ≡ outer = gains_outer (old.place (f.top s)) w.grows in
    let pace : (q : ℕ) → q < n → new.place (f.top q) ≢ free → totals n f q % 2 ≡ x.time % 2 = λ q hq k. elim (cases_eq (f.top q) (f.top t)) [
      | inl e ↦ may.pace q hq (inl e)
      | inr nt ↦ elim (cases_eq (f.top q) (f.top o)) [
        | inl e ↦ may.pace q hq (inr e)
        | inr nu ↦ w.forest.state.sea.pace q hq (moving (old.place (f.top q)) (λ z. k (g.place_others (f.top q) nt nu ∙ z)))
      ]
    ] in (
      record {
        rest = st.rest;
        tree = grown n f (loads n f) (dist_of d x) old new s t m o lam st.rest.pairs st.tree w.from w.to is_outer is_free w.tight w.exit g;
        even = λ a b ha hb ka kb. pace a ha ka ∙ sym (pace b hb kb);
      },
      grown_falls n f (loads n f) (dist_of d x) old new s t m o lam st.rest.pairs st.tree is_free w.exit g,
    )

-- the trees after it, over the same sets
trees_grown : (d : Dual) (x y : State) (s t m o : ℕ) → IsMet d x s t m o → HasGrown x y s t o
    → AreTrees (dist_of d x) (changed (sea_of x) (sets_of x.family) (gains_in (place_in y.tree.labels.items)) (losses_in (place_in y.tree.labels.items))
    (λ k. get_or y.rests.items k false)) (forest_of y.tree x.mates.items)
trees_grown d x y s t m o w h =
    let f = sets_of x.family in
    let n = f.size in
    let old = trees_of x in
    let new = forest_of y.tree x.mates.items in
    let trees = w.forest.trees in
    let g = h.tree in
    let is_free : old.place (f.top t) ≡ free = still_free (old.place (f.top t)) w.gains w.stays in
    let too : old.place (f.top o) ≡ free = mate_free d x s t m o w in
    let is_outer : old.place (f.top s) ≡ outer = gains_outer (old.place (f.top s)) w.grows in
    let stage = stage_grown d x y s t m o w h in
    let name : (a : ℕ) → NamesTree (sea_of x) old a
    → NamesTree (changed (sea_of x) f (gains_in new.place) (losses_in new.place) (λ k. get_or y.rests.items k false)) new a = λ a e.
    let top : old.place (f.top a) ≡ outer = gains_outer (old.place (f.top a)) e.named.grows in
    record {
      named = named_grown (sea_of x) (f.top t) (f.top o) (gains_in new.place) (losses_in new.place) (λ k. get_or y.rests.items k false) a h.grows e.named;
      own = g.tree_others (f.top a) (λ q. outer_in top (ap old.place q ∙ is_free)) (λ q. outer_in top (ap old.place q ∙ too)) ∙ e.own;
    } in
    record {
      stage = stage.0;
      ready = λ k hk. elim (trees.ready k hk) [
        | inl e ↦ inl e
        | inr e ↦ inr (elim (cases_eq (f.top k) (f.top o)) [
          | inl q ↦ ap new.place q ∙ g.place_outer
          | inr q ↦ g.place_others (f.top k) (λ z. outer_in e (ap old.place z ∙ is_free)) q ∙ e
        ])
      ];
      names = λ i ne. elim (cases_eq i (f.top t)) [
        | inl e ↦ subst (NamesTree (changed (sea_of x) f (gains_in new.place) (losses_in new.place) (λ k. get_or y.rests.items k false)) new)
            (sym (ap new.tree e ∙ g.tree_inner)) (name (old.tree (f.top s)) (trees.names (f.top s) (outer_in is_outer)))
        | inr nt ↦ elim (cases_eq i (f.top o)) [
          | inl e ↦ subst (NamesTree (changed (sea_of x) f (gains_in new.place) (losses_in new.place) (λ k. get_or y.rests.items k false)) new)
              (sym (ap new.tree e ∙ g.tree_outer)) (name (old.tree (f.top s)) (trees.names (f.top s) (outer_in is_outer)))
          | inr nu ↦ subst (NamesTree (changed (sea_of x) f (gains_in new.place) (losses_in new.place) (λ k. get_or y.rests.items k false)) new)
              (sym (g.tree_others i nt nu)) (name (old.tree i) (trees.names i (λ z. ne (g.place_others i nt nu ∙ z))))
        ]
      ];
      idle = λ k e. elim (cases_eq k (f.top o)) [
        | inl q ↦ absurd (true≢false (sym e ∙ ap (λ z. get_or y.rests.items z false) q ∙ h.grows.awake.1))
        | inr q ↦ trees.idle k (sym (h.grows.rest k q) ∙ e)
      ];
    }

pub forest_grown : (d : Dual) (x y : State) (s t m o : ℕ) → IsMet d x s t m o → HasGrown x y s t o → IsState d y → IsForested d y
forest_grown d x y s t m o w h st =
    let r = h.same in
    let sea = relabelled_sea x y r in
    let size : (sets_of y.family).size ≡ (sets_of x.family).size = ap (λ z. (sets_of z).size) r.family in
    let made = trees_grown d x y s t m o w h in
    record {
      state = st;
      members = ap length r.seats ∙ w.forest.members ∙ sym size;
      mates = ap (λ z. length z.items) h.mates ∙ w.forest.mates ∙ sym size;
      sized = subst (λ z. views.IsSized z y.tree) (sym size) h.sized;
      joins = subst (λ z. AreJoins d.crosses z y.joins) (sym r.arena) (subst (AreJoins d.crosses x.arena) (sym h.joins) w.forest.joins);
      seats = subst₂ HaveSeats (sym r.arena) (sym r.seats) w.forest.seats;
      trees = subst₂ (λ dist z. AreTrees dist (sea_of y) z)
          (λ z. dist_in d.crosses (sym r.arena z) (sym h.joins z) (sets_of (sym r.family z)))
          (λ z. forest_of y.tree (sym h.mates z).items)
          (subst (λ z. AreTrees (dist_of d x) z (forest_of y.tree x.mates.items)) (sym sea) made);
    }

pub grown_nearer : (d : Dual) (x y : State) (s t m o : ℕ) → IsMet d x s t m o → HasGrown x y s t o → IsNearer x y
grown_nearer d x y s t m o w h =
    let f = sets_of x.family in
    let n = f.size in
    let old = trees_of x in
    let new = forest_of y.tree x.mates.items in
    let g = h.tree in
    let is_outer : old.place (f.top s) ≡ outer = gains_outer (old.place (f.top s)) w.grows in
    let is_free : old.place (f.top t) ≡ free = still_free (old.place (f.top t)) w.gains w.stays in
    let too : old.place (f.top o) ≡ free = mate_free d x s t m o w in
    let stage = stage_grown d x y s t m o w h in
    record {
      time = h.same.time;
      seats = h.same.seats;
      falls = subst (λ z. potential n (sets_of z) (place_in y.tree.labels.items) < potential n f old.place) (sym h.same.family) stage.1;
      trees = grown_trees f old new s t o is_outer g;
      stay = λ a ha e.
          let nt : f.top a ≢ f.top t = λ q. outer_in e (ap old.place q ∙ is_free) in
          let nu : f.top a ≢ f.top o = λ q. outer_in e (ap old.place q ∙ too) in
          let top : (sets_of y.family).top a ≡ f.top a = ap (λ z. (sets_of z).top a) h.same.family in (
            ap (place_in y.tree.labels.items) top ∙ g.place_others (f.top a) nt nu ∙ e,
            ap new.tree top ∙ g.tree_others (f.top a) nt nu,
          );
      ranks = λ bound low i. elim (cases_eq i (f.top t)) [
        | inl e ↦ omega (arith, ap new.rank e, g.rank_inner, low (f.top s), w.from)
        | inr nt ↦ elim (cases_eq i (f.top o)) [
          | inl e ↦ omega (arith, ap new.rank e, g.rank_outer, low (f.top s), w.from)
          | inr nu ↦ omega (arith, g.rank_others i nt nu, low i)
        ]
      ];
    }

-- ---- after two tops were tied

-- the members are members
pub tied_below : (d : Dual) (x y : State) (c : Crossing) (m : IsMeeting d x c) (p : ℕ × ℕ) → HasTied d x y m.met.one m.met.two p
    → (p.0 < (sets_of y.family).size) × (p.1 < (sets_of y.family).size)
tied_below d x y c m p t =
    let size : (sets_of y.family).size ≡ (sets_of x.family).size = ap (λ (z : State). (sets_of z.family).size) t.rest in
    let flood = m.forest.state.sea.flood in (
      omega (arith, flood.members c.from m.met.one m.met.far m.met.at_one, t.from, size),
      omega (arith, flood.members c.to m.met.two m.met.beyond m.met.at_two, t.to, size),
    )

-- what a sea shows is as it was
pub tied_keys : (d : Dual) (x y : State) (one two : ℕ) (p : ℕ × ℕ) (keys : List ℕ) → HasTied d x y one two p → AreKeys d x keys → AreKeys d y keys
tied_keys d x y one two p keys t k =
    let back : sea_of x ≡ sea_of y = sym (ap sea_of t.rest) in
    record {
      places = k.places ∙ ap (λ (z : Sea). length d.crosses + 2 * z.sets.size) back;
      due = subst (λ z. IsSeaDue d z (λ w. get_or keys w 0) (top_keys d keys)) back k.due;
      now = subst (λ z. AreNow d z (λ w. get_or keys w 0) (top_keys d keys)) back k.now;
    }

-- the free top that was met, and its mate
pub tied_met : (d : Dual) (x y : State) (c : Crossing) (f : IsForested d x) (w : Meets d (sea_of x) 0 c) (p : ℕ × ℕ)
    → HasTied d x y w.met.one w.met.two p → (m o top : ℕ) (mates : List (Option ℕ)) → top ≡ (sets_of y.family).top p.1
    → mates ≡ y.mates.items → m < (sets_of y.family).size → (sets_of y.family).top m ≡ top → mate_in mates m ≡ Some o
    → IsMet d y p.0 p.1 m o
tied_met d x y c f w p t m o top mates is same below at paired =
    let s = sea_of x in
    let e : sea_of y ≡ s = ap sea_of t.rest in
    let low = tied_below d x y c (record { forest = f; over = w.over; met = w.met }) p t in
    record {
      forest = t.forest;
      from = low.0;
      to = low.1;
      tight = ap (λ (z : State). load_of (sets_of z.family) p.0 p.1) t.rest ∙ t.tight;
      grows = ap (λ (z : Sea). z.gain (z.sets.top p.0)) e ∙ ap (λ z. s.gain (s.sets.top z)) t.from ∙ w.grows;
      gains = ap (λ (z : Sea). z.gain (z.sets.top p.1)) e ∙ ap (λ z. s.gain (s.sets.top z)) t.to ∙ w.gains;
      stays = ap (λ (z : Sea). z.loss (z.sets.top p.1)) e ∙ ap (λ z. s.loss (s.sets.top z)) t.to ∙ w.stays;
      awake = ap (λ (z : Sea). z.rests (z.sets.top p.1)) e ∙ ap (λ z. s.rests (s.sets.top z)) t.to ∙ w.two_awake;
      parity = ap (λ (z : Sea). total_at z.sets p.0 % 2) e ∙ ap (λ z. total_at s.sets z % 2) t.from ∙ w.met.parity
          ∙ sym (ap (λ (z : Sea). total_at z.sets p.1 % 2) e ∙ ap (λ z. total_at s.sets z % 2) t.to);
      exit = record { below = below; top = at ∙ is; paired = subst (λ z. mate_in z m ≡ Some o) same paired };
    }

-- a free top has a mate
pub free_paired : (d : Dual) (x y : State) (c : Crossing) (f : IsForested d x) (w : Meets d (sea_of x) 0 c) (p : ℕ × ℕ)
    → HasTied d x y w.met.one w.met.two p → (top : ℕ) (mates : List (Option ℕ)) → top ≡ (sets_of y.family).top p.1 → mates ≡ y.mates.items
    → ((m : ℕ) → m < (sets_of y.family).size → (sets_of y.family).top m ≡ top → mate_in mates m ≡ None) → ⊥
free_paired d x y c f w p t top mates is same none =
    let s = sea_of x in
    let e : sea_of y ≡ s = ap sea_of t.rest in
    let low = tied_below d x y c (record { forest = f; over = w.over; met = w.met }) p t in
    elim (t.forest.trees.ready p.1 low.1) [
      | inl v ↦ none-some v.1 (sym (subst (λ z. mate_in z v.0 ≡ None) same (none v.0 v.2.below (v.2.top ∙ sym is))) ∙ v.2.paired)
      | inr out ↦ absurd (omega (
        arith,
        ap gain out,
        ap (λ (z : Sea). z.gain (z.sets.top p.1)) e ∙ ap (λ z. s.gain (s.sets.top z)) t.to ∙ w.gains,
      ))
    ]

-- nearer than where they were tied is nearer than before
pub tied_nearer : (d : Dual) (x y z : State) (one two : ℕ) (p : ℕ × ℕ) → HasTied d x y one two p → IsNearer y z → IsNearer x z
tied_nearer d x y z one two p t n =
    let b = subst (λ q. IsNearer q z) t.rest n in
    record { time = b.time; seats = b.seats; falls = b.falls; trees = b.trees; stay = b.stay; ranks = b.ranks }
