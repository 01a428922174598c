-- Trees over the tops of moats, while time passes and faces come and go.
use Rattle.std.proofs.Common.{arith, ◌≡◌, ℕ, ◌+◌, ◌-◌, ◌*◌, ◌%◌, ◌<◌, ◌≤◌, refl, sym, ap, ◌∙◌, subst, inl, inr, true, false, cond, Bool, Some, None, Option, List, length, get_or}
use Rattle.std.proofs.lemmas.Bool.{true≢false}
use Rattle.std.proofs.lemmas.Option.{none-some}
use Rattle.std.specs.Option.{option_map_or}
use Rattle.dpl_laminar.specs.Families.{Sets, load_of}
use Rattle.dpl_laminar.specs.Pairings.{AreWithin}
use Rattle.dpl_laminar.proofs.Sums.{sum_same, sum_zero}
use Rattle.dpl_dual.specs.declared.crosses.Dual.{Dual}
use Rattle.dpl_dual.specs.declared.crosses.Cross.{Cross}
use Rattle.dpl_dual.specs.Chains.{Leads}
use Rattle.dpl_pack.specs.Points.{Point}
use Rattle.dpl_pack.specs.Floods.{IsFlood}
use Rattle.dpl_pack.specs.Tides.{with_values}
use Rattle.dpl_pack.proofs.FloodLemmas.{flood_within}
use Rattle.dpl_tree.specs.declared.tree.Tree.{Tree}
use Rattle.dpl_tree.specs.Mates.{totals}
use Rattle.dpl_tree.specs.Stages.{IsRest, IsReady}
use Rattle.dpl_tree.specs.steps.Forests.{Forest, outer, gain}
use Rattle.dpl_tree.specs.steps.Growth.{AreRoots}
use Rattle.dpl_tree.specs.Views.{forest_of, mate_in}
use Rattle.dpl_tree.proofs.Rooting.{roots_stage}
use Rattle.dpl_flood.specs.declared.nodes.Node.{Node}
use Rattle.dpl_flood.specs.declared.nodes.Join.{Join}
use Rattle.dpl_flood.specs.Arenas.{AreNodes, join_chain, join_length, seat_of, start_of}
use Rattle.dpl_flood.specs.Forested.{NamesTree, AreTrees}
use Rattle.dpl_flood.specs.Joins.{Entries, AreJoins, HaveSeats, dist_in, join_at}
use Rattle.dpl_flood.specs.Rates.{AreRated}
use Rattle.dpl_flood.specs.Seas.{Sea, IsSea, IsStart, ArePassed, advanced, changed, noted_at}
use Rattle.dpl_flood.proofs.JoinLemmas.{join_leads, join_long}
use Rattle.dpl_flood.proofs.NameLemmas.{named_passed, named_shifted}
use Rattle.dpl_flood.proofs.StageLemmas.{stage_turned}

-- ---- distances by joins

-- In a flood no load is above them.
pub far_within : (d : Dual) (terminals : List ℕ) (nodes : List Node) (joins : Entries) (f : Sets) (point : ℕ → Point)
    → IsFlood d terminals f point → AreNodes d.crosses nodes → AreJoins d.crosses nodes joins → HaveSeats nodes terminals
    → length terminals ≡ f.size → AreWithin f.size (2 * f.size) f.value f.holds (dist_in d.crosses nodes joins f)
far_within d terminals nodes joins f point flood chains are seats members s t hs ht ne = by (join_at joins s t) refl
  where
    by : (o : Option Join) → join_at joins s t ≡ o → load_of f s t ≤ option_map_or (join_length d.crosses nodes) o (load_of f s t + 1)
    by None e = omega arith
    by (Some j) e =
        let b = are s t j e in
        let from = (seats s (omega (arith, hs, members))).1 in
        let to = (seats t (omega (arith, ht, members))).1 in
        let chain = join_chain d.crosses nodes j in
        let leads : Leads d.crosses (get_or terminals s 0) chain (get_or terminals t 0) =
        subst (λ z. Leads d.crosses z chain (get_or terminals t 0)) (ap (seat_of nodes) b.start ∙ from)
        (subst (λ z. Leads d.crosses (seat_of nodes (start_of nodes j)) chain z) (ap (seat_of nodes) b.end ∙ to) (join_leads d.crosses nodes j chains b.join)) in
        omega (arith, flood_within d terminals f point flood s t hs ht ne chain leads, join_long d.crosses nodes j chains b.join)

-- where loads are the same they are
pub far_alike : (ways : List Cross) (nodes : List Node) (joins : Entries) (f g : Sets) (a b : ℕ) → load_of g a b ≡ load_of f a b
    → dist_in ways nodes joins g a b ≡ dist_in ways nodes joins f a b
far_alike ways nodes joins f g a b e = ap (λ z. option_map_or (join_length ways nodes) (join_at joins a b) (z + 1)) e

-- a load that was tight is so, if it is as much as it was
pub far_kept : (ways : List Cross) (nodes : List Node) (joins : Entries) (f g : Sets) (a b : ℕ) → load_of f a b ≡ dist_in ways nodes joins f a b
    → load_of g a b ≡ dist_in ways nodes joins f a b → load_of g a b ≡ dist_in ways nodes joins g a b
far_kept ways nodes joins f g a b old new = new ∙ sym (far_alike ways nodes joins f g a b (new ∙ sym old))

-- ---- the beginning

-- without values all totals are 0
pub start_total : (f : Sets) → ((i : ℕ) → f.value i ≡ 0) → (m : ℕ) → totals f.size f m ≡ 0
start_total f none m = sum_same (2 * f.size) (λ i. cond (f.holds i m) (f.value i) 0) (λ i. 0) (λ i h. both (f.holds i m) (f.value i) (none i))
    ∙ sum_zero (2 * f.size)
  where
    both : (b : Bool) (v : ℕ) → v ≡ 0 → cond b v 0 ≡ 0
    both true v e = e
    both false v e = refl

pub trees_begun : (d : Dual) (terminals : List ℕ) (nodes : List Node) (joins : Entries) (s : Sea) (members : List ℕ) (tree : Tree) (mates : List (Option ℕ))
    → IsStart d terminals s → IsSea d terminals s → AreRated (forest_of tree mates).place s
    → AreNodes d.crosses nodes → AreJoins d.crosses nodes joins → HaveSeats nodes terminals → length terminals ≡ s.sets.size
    → AreRoots s.sets members tree → length members ≡ s.sets.size → ((k : ℕ) → k < s.sets.size → get_or members k 0 ≡ k)
    → ((m : ℕ) → mate_in mates m ≡ None) → AreTrees (dist_in d.crosses nodes joins s.sets) s (forest_of tree mates)
trees_begun d terminals nodes joins s members tree mates start sea rated chains are seats count roots many each alone =
    let f = s.sets in
    let n = f.size in
    let x = forest_of tree mates in
    let dist = dist_in d.crosses nodes joins f in
    let blank : (m : ℕ) → totals n f m ≡ 0 = λ m. start_total f start.singles.value m in
    let rest : IsRest n f dist (mate_in mates) = record {
      size = refl;
      family = sea.family;
      laminar = sea.family.laminar;
      within = far_within d terminals nodes joins f s.point sea.flood chains are seats count;
      pairs = record {
        range = λ m t _ e. absurd (none-some t (sym (alone m) ∙ e));
        back = λ m t _ e. absurd (none-some t (sym (alone m) ∙ e));
        leaves = λ m t _ e. absurd (none-some t (sym (alone m) ∙ e));
        tight = λ m t _ e. absurd (none-some t (sym (alone m) ∙ e));
        alone = λ m o t u _ _ _ e _. absurd (none-some t (sym (alone m) ∙ e));
      };
      joins = λ c p _ e. absurd (none-some p (sym (start.singles.parent c) ∙ e));
      parity = λ a b _ _ _. ap (λ z. z % 2) (blank a ∙ sym (blank b));
    } in
    let low : (k : ℕ) → k < length members → get_or members k 0 < n = λ k h. omega (arith, each k (omega (arith, h, many)), h, many) in
    let top : (k : ℕ) → k < n → f.top k ≡ k = start.singles.top in
    let is_outer : (k : ℕ) → k < n → x.place (f.top k) ≡ outer =
    λ k h. ap (λ z. x.place (f.top z)) (sym (each k h)) ∙ roots.are_outer k (omega (arith, h, many)) in
    record {
      stage = roots_stage n f dist members tree mates rest roots low
          (λ k h m t w. none-some t (sym (alone m) ∙ w.paired))
          (λ k l _ _. ap (λ z. z % 2) (blank (get_or members k 0) ∙ sym (blank (get_or members l 0))));
      ready = λ k h. inr (is_outer k h);
      names = λ i p.
          let w = (roots.only i p).1 in
          let h : w.0 < n = omega (arith, w.1, many) in
          let own : i ≡ w.0 = sym w.2 ∙ ap f.top (each w.0 h) ∙ top w.0 h in
          let name : x.tree i ≡ w.0 = w.3 ∙ each w.0 h in
          subst (NamesTree s x) (sym name) (record {
            named = record {
              member = h;
              grows = rated.gain_is (f.top w.0) ∙ ap gain (is_outer w.0 h);
              whole = blank w.0 ∙ sym start.time;
            };
            own = ap x.tree (top w.0 h ∙ sym own) ∙ name;
          });
      idle = λ k e. absurd (true≢false (sym e ∙ start.none_rests k));
    }

-- ---- time

-- values are no part of who has a pair
ready_with : (f : Sets) (v : ℕ → ℕ) (x : Forest) (k : ℕ) → IsReady f.size f x k → IsReady f.size (with_values f v) x k
ready_with f v x k (inl w) = inl (w.0, w.1, record { below = w.2.below; top = w.2.top; paired = w.2.paired })
ready_with f v x k (inr e) = inr e

pub trees_passed : (d : Dual) (terminals : List ℕ) (nodes : List Node) (joins : Entries) (s : Sea) (x : Forest) (t : ℕ) (v : ℕ → ℕ)
    → IsSea d terminals s → IsSea d terminals (advanced s t v) → ArePassed s t v → AreRated x.place s
    → AreNodes d.crosses nodes → AreJoins d.crosses nodes joins → HaveSeats nodes terminals → length terminals ≡ s.sets.size
    → AreTrees (dist_in d.crosses nodes joins s.sets) s x
    → AreTrees (dist_in d.crosses nodes joins (with_values s.sets v)) (advanced s t v) x
trees_passed d terminals nodes joins s x t v sea new p rated chains are seats count trees =
    let f = s.sets in
    let g = with_values f v in
    let span = t - s.time in
    let dist = dist_in d.crosses nodes joins f in
    record {
      stage = stage_turned f.size f dist (dist_in d.crosses nodes joins g) x span v trees.stage
          (record {
            tops = λ i _ ne. (trees.stage.tree.tops i ne).2;
            each = λ i h. omega (
              arith,
              p.each i h,
              ap (λ z. z * span) (rated.gain_is i),
              ap (λ z. z * span) (rated.loss_is i),
            );
          })
          new.family
          (far_within d terminals nodes joins g s.point new.flood chains are seats count)
          (λ a b _ _ old same. far_kept d.crosses nodes joins f g a b old same);
      ready = λ k h. ready_with f v x k (trees.ready k h);
      names = λ i ne.
          let w = trees.names i ne in
          record { named = named_passed d terminals s t v (x.tree i) sea p w.named; own = w.own };
      idle = trees.idle;
    }

-- ---- other events that leave the trees as they are

-- a face is taken or left
pub trees_shifted : (dist : ℕ → ℕ → ℕ) (s : Sea) (x : Forest) (h : ℕ) (p : Point) → AreTrees dist s x → AreTrees dist (noted_at s h p) x
trees_shifted dist s x h p trees = record {
  stage = trees.stage;
  ready = trees.ready;
  names = λ i ne. let w = trees.names i ne in record { named = named_shifted s h p (x.tree i) w.named; own = w.own };
  idle = trees.idle;
}

-- fewer sets rest
pub trees_woken : (dist : ℕ → ℕ → ℕ) (s : Sea) (x : Forest) (rests : ℕ → Bool) → ((k : ℕ) → rests k ≡ true → s.rests k ≡ true) → AreTrees dist s x
    → AreTrees dist (changed s s.sets s.gain s.loss rests) x
trees_woken dist s x rests fewer trees = record {
  stage = trees.stage;
  ready = trees.ready;
  names = λ i ne.
      let w = trees.names i ne in
      record { named = record { member = w.named.member; grows = w.named.grows; whole = w.named.whole }; own = w.own };
  idle = λ k e. trees.idle k (fewer k e);
}
