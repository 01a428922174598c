-- The pairs of all members, each over the chain of a join: they are tight.
use Rattle.std.proofs.Common.{arith, ◌≡◌, ℕ, ◌+◌, ◌<◌, ◌≤◌, ◌==◌, refl, sym, ap, ◌∙◌, subst, Bool, true, false, cond, inl, inr, ltb, eqb, eq-eqb, Option, List, length}
use Rattle.std.specs.Prelude.{slice_index}
use Rattle.std.proofs.Math.Path.{subst₂}
use Rattle.std.proofs.lemmas.Bool.{cases_eq, cases_Bool, cond-true, cond-false, ne_eqb}
use Rattle.dpl_laminar.specs.Families.{Sets, IsFamily, load_of}
use Rattle.dpl_laminar.specs.Loads.{differ}
use Rattle.dpl_laminar.specs.Pairings.{IsPairing, pairs_sum}
use Rattle.dpl_laminar.proofs.Duality.{sum_by_pairs}
use Rattle.dpl_laminar.proofs.Sums.{sum_same, sum_at}
use Rattle.dpl_dual.specs.declared.crosses.Cross.{Cross}
use Rattle.dpl_dual.specs.declared.crosses.Dual.{Dual}
use Rattle.dpl_dual.specs.Chains.{Leads}
use Rattle.dpl_tree.specs.Stages.{IsRest}
use Rattle.dpl_tree.specs.steps.Growth.{IsRestBy}
use Rattle.dpl_tree.specs.steps.Parted.{LeavesOnce, IsDone}
use Rattle.dpl_pack.specs.Points.{Point}
use Rattle.dpl_pack.specs.Floods.{IsFlood, leaving, AreTight}
use Rattle.dpl_pack.proofs.FloodLemmas.{flood_within}
use Rattle.dpl_pack.proofs.MoatLemmas.{count_places}
use Rattle.dpl_pack.proofs.TightLemmas.{tight_total, tight_least}
use Rattle.dpl_flood.specs.declared.nodes.Node.{Node}
use Rattle.dpl_flood.specs.Arenas.{AreNodes, seat_of, join_chain}
use Rattle.dpl_flood.specs.Joins.{Entries, AreJoins, HaveSeats, IsTied, dist_in}
use Rattle.dpl_flood.specs.Flips.{ArePairsJoined, AreJoinedBy, AreOverChains}
use Rattle.dpl_flood.proofs.JoinLemmas.{join_leads, join_long}
use Rattle.dpl_flood.proofs.NotedLemmas.{far_back, tied}

-- ---- just one pair leaves a set of which one member has its mate outside

one_side : (a b : Bool) → cond {A = ℕ} (differ a b) 1 0 ≡ cond {A = ℕ} a (cond b 0 1) 0 + cond {A = ℕ} b (cond a 0 1) 0
one_side true true = refl
one_side true false = refl
one_side false true = refl
one_side false false = refl

stays_in : (a b : Bool) → (a ≡ true → b ≡ false → ⊥) → cond {A = ℕ} a (cond b 0 1) 0 ≡ 0
stays_in false b never = refl
stays_in true true never = refl
stays_in true false never = absurd (never refl refl)

goes_out : (a b : Bool) → a ≡ true → b ≡ false → cond {A = ℕ} a (cond b 0 1) 0 ≡ 1
goes_out a b e o = cond-true {A = ℕ} a (cond b 0 1) 0 e ∙ cond-false {A = ℕ} b 0 1 o

leaving_once : (n : ℕ) (mate : ℕ → ℕ) (set : ℕ → Bool) → IsPairing n mate → LeavesOnce n mate set → leaving n mate set ≡ 1
leaving_once n mate set p w =
    let exits : ℕ → ℕ = λ m. cond {A = ℕ} (set m) (cond (set (mate m)) 0 1) 0 in
    sum_same n _ _ (λ m h. ap (λ z. cond {A = ℕ} (ltb m (mate m)) z 0) (one_side (set m) (set (mate m))
    ∙ ap (λ z. exits m + cond {A = ℕ} (set (mate m)) (cond (set z) 0 1) 0) (sym (p.back m h))))
    ∙ sym (sum_by_pairs n mate p exits)
    ∙ sum_same n exits (λ m. cond {A = ℕ} (eqb w.at m) 1 0) (λ m h. elim (cases_eq w.at m) [
      | inl e ↦ goes_out (set m) (set (mate m)) (ap set (sym e) ∙ w.inside) (ap (λ z. set (mate z)) (sym e) ∙ w.outside)
          ∙ sym (cond-true {A = ℕ} (eqb w.at m) 1 0 (eq-eqb w.at m e))
      | inr ne ↦ stays_in (set m) (set (mate m)) (λ a b. ne (sym (w.only m h a b))) ∙ sym (cond-false {A = ℕ} (eqb w.at m) 1 0 (ne_eqb w.at m ne))
    ])
    ∙ sum_at n w.at (λ _. 1) w.below

-- ---- by the joins that members have

-- pairs between two stages by these distances
pub rest_by : (ways : List Cross) (nodes : List Node) (joins : Entries) (f : Sets) (mate : ℕ → Option ℕ)
    → IsRest f.size f (dist_in ways nodes joins f) mate → IsRestBy f mate (dist_in ways nodes joins f)
rest_by ways nodes joins f mate r = record { symmetric = λ s t hs ht. far_back ways nodes joins f s t; rest = r }

-- each member has a join with its mate, as long as their load
pub pairs_tied : (ways : List Cross) (nodes : List Node) (joins : Entries) (f : Sets) (mate : ℕ → ℕ)
    → IsDone f.size f (dist_in ways nodes joins f) mate → (m : ℕ) → m < f.size → IsTied ways nodes joins f m (mate m)
pairs_tied ways nodes joins f mate done m h = tied ways nodes joins f m (mate m) (done.tight m h)

-- so the pairs are tight
pub pairs_tight : (d : Dual) (seats : List ℕ) (nodes : List Node) (joins : Entries) (f : Sets) (mate : ℕ → ℕ) → IsFamily f → AreNodes d.crosses nodes
    → AreJoins d.crosses nodes joins → HaveSeats nodes seats → f.size ≡ length seats → IsDone f.size f (dist_in d.crosses nodes joins f) mate → AreTight d seats f mate
pairs_tight d seats nodes joins f mate family are all have size done = record {
  pairing = done.pairs;
  chains = λ s h.
      let t = pairs_tied d.crosses nodes joins f mate done s h in
      let b = all s (mate s) t.join t.there in
      let from = ap (seat_of nodes) b.start ∙ (have s (omega (arith, h, size))).1 in
      let to = ap (seat_of nodes) b.end ∙ (have (mate s) (omega (arith, done.pairs.range s h, size))).1 in
      let leads = subst₂ (λ x y. Leads d.crosses x (join_chain d.crosses nodes t.join) y) from to (join_leads d.crosses nodes t.join are b.join) in
      (join_chain d.crosses nodes t.join, leads, join_long d.crosses nodes t.join are b.join ∙ t.long);
  once = λ k h some. elim (cases_Bool (f.live k)) [
    | inl live ↦ leaving_once f.size mate (f.holds k) done.pairs (done.once k h live)
    | inr dead ↦ absurd (omega (arith, some, family.value_dead k dead))
  ];
}

-- and the chains together are as long as the values
pub pairs_are_joined : (d : Dual) (seats : List ℕ) (nodes : List Node) (joins : Entries) (f : Sets) (point : ℕ → Point) (mate : ℕ → ℕ) (old new : List Bool)
    → IsFlood d seats f point → AreTight d seats f mate → f.size ≡ length seats → IsDone f.size f (dist_in d.crosses nodes joins f) mate
    → ArePairsJoined d.crosses seats mate (dist_in d.crosses nodes joins f) (length seats) old new → AreJoinedBy d seats f old new
pairs_are_joined d seats nodes joins f point mate old new flood tight size done j =
    let far = dist_in d.crosses nodes joins f in
    let same : pairs_sum f.size mate (load_of f) ≡ pairs_sum f.size mate far =
    sum_same f.size _ _ (λ m h. ap (λ z. cond {A = ℕ} (ltb m (mate m)) z 0) (done.tight m h)) in
    record {
      size = size;
      within = flood_within d seats f point flood;
      chains = j.chains;
      leads = j.leads;
      ends = λ x. j.ends x ∙ sym (sum_by_pairs (length seats) mate (subst (λ z. IsPairing z mate) size done.pairs)
          (λ s. cond {A = ℕ} (slice_index seats s == x) 1 0))
          ∙ sym (count_places (λ y. y == x) (λ i. slice_index seats i == x) seats (λ i l. refl));
      long = j.together ∙ ap (λ z. pairs_sum z mate far) (sym size) ∙ sym same ∙ sym (tight_total d seats f mate tight);
      places = j.places;
      each = j.each;
    }

-- no pairing over chains is shorter
pub pairs_least : (d : Dual) (seats : List ℕ) (f : Sets) (point : ℕ → Point) (mate other : ℕ → ℕ) (long : ℕ → ℕ → ℕ) → IsFamily f
    → IsFlood d seats f point → AreTight d seats f mate → f.size ≡ length seats → IsPairing f.size other → AreOverChains d.crosses seats long
    → pairs_sum f.size mate (load_of f) ≤ pairs_sum f.size other long
pairs_least d seats f point mate other long family flood tight size pairing chains =
    tight_least d seats f point mate other long family flood tight pairing
    (λ s t hs ht ne. chains s t (omega (arith, hs, size)) (omega (arith, ht, size)) ne)
