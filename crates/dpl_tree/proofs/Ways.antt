-- Pairs along the way to the root.
use Rattle.std.proofs.Common.{arith, ◌≡◌, ◌≢◌, ℕ, ◌*◌, ◌<◌, refl, sym, ap, ◌∙◌, subst, Bool, true, false, cond, inl, inr}
use Rattle.std.proofs.Common.{Option, Some, None, List, length, get_or, set, length-set, get_or-set_same}
use Rattle.std.proofs.Common.{get_or-set_other}
use Rattle.std.proofs.lemmas.Bool.{cases_eq}
use Rattle.dpl_laminar.specs.Loads.{differ}
use Rattle.dpl_laminar.specs.Families.{Sets}
use Rattle.dpl_laminar.proofs.Numbers.{some_none}
use Rattle.dpl_laminar.proofs.Sums.{sum_same}
use Rattle.dpl_tree.specs.declared.tree.Tree.{Tree}
use Rattle.dpl_tree.specs.steps.Climbs.{IsWay, IsClimbing, IsClimbed, IsReleased}
use Rattle.dpl_tree.specs.steps.Forests.{Forest, IsExposed, IsClimb, IsBeside, outer, inner}
use Rattle.dpl_tree.specs.Mates.{IsExit, Joins, loads}
use Rattle.dpl_tree.specs.Metrics.{AreSymmetric}
use Rattle.dpl_tree.specs.Stages.{IsStage}
use Rattle.dpl_tree.specs.Views.{mate_in, forest_of, place_in}
use Rattle.dpl_tree.proofs.Growing.{outer_in, inner_in, outer_inner_no}
use Rattle.dpl_tree.proofs.Climbing.{Drops, dropped_pairs, not_beside, climbed, climb_ended}

-- a pair given up in a list
pub drops_list : (xs : List (Option ℕ)) (a b : ℕ) → a < length xs → b < length xs → Drops (mate_in xs) a b (mate_in (set (set xs a None) b None))
drops_list xs a b ha hb = record {
  first = elim (cases_eq a b) [
    | inl e ↦ ap (λ z. get_or (set (set xs a None) b None) z None) e ∙ get_or-set_same (set xs a None) b None None (omega (arith, length-set xs a None))
    | inr ne ↦ get_or-set_other (set xs a None) b a None None ne ∙ get_or-set_same xs a None None ha
  ];
  second = get_or-set_same (set xs a None) b None None (omega (arith, length-set xs a None));
  others = λ i na nb. get_or-set_other (set xs a None) b i None None nb ∙ get_or-set_other xs a i None None na;
}

-- a pair made in a list
pub joins_list : (xs : List (Option ℕ)) (s t : ℕ) → s < length xs → t < length xs → s ≢ t
    → Joins (mate_in xs) s t (mate_in (set (set xs s (Some t)) t (Some s)))
joins_list xs s t hs ht ne = record {
  first = get_or-set_other (set xs s (Some t)) t s (Some s) None ne ∙ get_or-set_same xs s (Some t) None hs;
  second = get_or-set_same (set xs s (Some t)) t (Some s) None (omega (arith, length-set xs s (Some t)));
  others = λ i na nb. get_or-set_other (set xs s (Some t)) t i (Some s) None nb ∙ get_or-set_other xs s i (Some t) None na;
}

differ_turned : (a b : Bool) → differ a b ≡ differ b a
differ_turned true true = refl
differ_turned true false = refl
differ_turned false true = refl
differ_turned false false = refl

-- a load is the same from both sides
pub load_turned : (n : ℕ) (f : Sets) (s t : ℕ) → loads n f s t ≡ loads n f t s
load_turned n f s t = sum_same (2 * n) _ _ (λ i h. ap (λ z. cond z (f.value i) 0) (differ_turned (f.holds i s) (f.holds i t)))

-- a turn of the loop
pub way_turned : (n : ℕ) (f : Sets) (dist : ℕ → ℕ → ℕ) (x : Forest) (begin : ℕ → Option ℕ) (start : ℕ × ℕ) (mates : List (Option ℕ)) (s t ex b : ℕ)
    → AreSymmetric n dist → length mates ≡ n → IsStage n f dist x → IsClimbing n f dist x begin start (mate_in mates) (s, t)
    → ex < n → f.top ex ≡ f.top s → mate_in mates ex ≡ Some b
    → IsClimbing n f dist x begin start (mate_in (set (set (set (set mates ex None) b None) s (Some t)) t (Some s))) (x.above (f.top b), x.entry (f.top b))
way_turned n f dist x begin start mates s t ex b m len st g hx top w =
    let c = g.climb in
    let hb : b < n = c.pairs.range ex b hx w in
    let less : List (Option ℕ) = set (set mates ex None) b None in
    let size : length less ≡ n = length-set (set mates ex None) b None ∙ length-set mates ex None ∙ len in
    climbed n f dist x begin (mate_in mates) (mate_in less) _ start s t ex b st.tree (load_turned n f)
    m g (record { below = hx; top = top; paired = w })
    (drops_list mates ex b (omega (arith, hx, len)) (omega (arith, hb, len)))
    (joins_list less s t (omega (arith, c.s_range, size)) (omega (arith, c.t_range, size))
    (λ q. c.apart (ap f.top q)))

-- the set above has a lower rank
pub way_falls : (n : ℕ) (f : Sets) (dist : ℕ → ℕ → ℕ) (x : Forest) (mates : List (Option ℕ)) (s t ex b : ℕ)
    → IsStage n f dist x → IsClimb n f dist x (mate_in mates) (s, t) → ex < n → f.top ex ≡ f.top s
    → mate_in mates ex ≡ Some b
    → (x.place (f.top b) ≡ inner) × (x.rank (f.top (x.above (f.top b))) < x.rank (f.top s))
way_falls n f dist x mates s t ex b st c hx top w =
    let ps : x.place (f.top ex) ≡ outer = ap x.place top ∙ c.s_outer in
    let xb : x.mate ex ≡ Some b = sym (c.kept ex hx (λ z. outer_in ps z) (ap x.tree top) (omega (arith, ap x.rank top))) ∙ w in
    let up = st.tree.outer_mate (f.top s) ex b c.s_outer (record { below = hx; top = top; paired = xb }) in
    (up.0, omega (arith, up.1, st.tree.link_rank (f.top b) up.0))

-- the end of the loop, where the outer set has no pair
pub way_ended : (n : ℕ) (f : Sets) (dist : ℕ → ℕ → ℕ) (x : Forest) (begin : ℕ → Option ℕ) (start : ℕ × ℕ) (mates : List (Option ℕ)) (s t : ℕ)
    → length mates ≡ n → IsStage n f dist x → IsClimbing n f dist x begin start (mate_in mates) (s, t)
    → ((m : ℕ) → m < n → f.top m ≡ f.top s → mate_in mates m ≡ None)
    → IsClimbed n f dist x begin start (mate_in (set (set mates s (Some t)) t (Some s)))
way_ended n f dist x begin start mates s t len st g none =
    let c = g.climb in
    climb_ended n f dist x begin (mate_in mates) (mate_in (set (set mates s (Some t)) t (Some s))) start s t st.tree g
    (λ m u w. some_none (mate_in mates m) u w.paired (none m w.below w.top))
    (joins_list mates s t (omega (arith, c.s_range, len)) (omega (arith, c.t_range, len)) (λ q. c.apart (ap f.top q)))

-- ---- a top is freed

-- the way from the top of t, whose pair was given up
pub release_begun : (n : ℕ) (f : Sets) (dist : ℕ → ℕ → ℕ) (x : Forest) (less : ℕ → Option ℕ) (t ex b : ℕ) → AreSymmetric n dist
    → IsStage n f dist x → x.place (f.top t) ≡ outer → IsExit n f x.mate (f.top t) ex b → Drops x.mate ex b less
    → IsWay n f dist x less (x.above (f.top b), x.entry (f.top b))
release_begun n f dist x less t ex b me st pt w d =
    let i : ℕ = f.top b in
    let tree = st.tree in
    let p = st.rest.pairs in
    let up = tree.outer_mate (f.top t) ex b pt w in
    let hb : b < n = p.range ex b w.below w.paired in
    let bx : x.mate b ≡ Some ex = p.back ex b w.below w.paired in
    let link = tree.link_range i up.0 in
    let entry = tree.link_entry i up.0 in
    let over = tree.link_outer i up.0 in
    let above_rank = tree.link_rank i up.0 in
    let tight : (loads n f) (x.above i) (x.entry i) ≡ dist (x.above i) (x.entry i) = tree.link_tight i up.0 in
    record {
      stage = st;
      climb = record {
        s_range = link.0;
        t_range = link.1;
        s_outer = over.0;
        apart = λ e. outer_inner_no over.0 (ap x.place (e ∙ entry) ∙ up.0);
        tight = tight;
        tight_back = load_turned n f _ _ ∙ tight ∙ me _ _ link.0 link.1;
        pairs = dropped_pairs n f (loads n f) dist x.mate less ex b p w.below w.paired d;
        t_free = λ m u k. elim (cases_eq m b) [
          | inl e ↦ some_none (less m) u k.paired (ap less e ∙ d.second)
          | inr nb ↦
              let nx : m ≢ ex = λ e. outer_inner_no {P = ⊥} pt (ap x.place (sym w.top ∙ ap f.top (sym e) ∙ k.top ∙ entry) ∙ up.0) in
              nb (p.alone m b u ex k.below hb (k.top ∙ entry) (sym (d.others m nx nb) ∙ k.paired) bx)
        ];
        t_rank = λ z y. omega (arith, above_rank, ap x.rank entry);
        kept = λ m hm z e le. d.others m
            (λ y. omega (arith, le, above_rank, up.1, ap x.rank (ap f.top y ∙ w.top)))
            (λ y. omega (arith, le, above_rank, ap x.rank (ap f.top y)));
      };
    }

-- and what the climb along it makes of the pairs
pub release_ended : (n : ℕ) (f : Sets) (dist : ℕ → ℕ → ℕ) (x : Forest) (less new : ℕ → Option ℕ) (t ex b : ℕ)
    → IsStage n f dist x → x.place (f.top t) ≡ outer → IsExit n f x.mate (f.top t) ex b → Drops x.mate ex b less
    → IsClimbed n f dist x less (x.above (f.top b), x.entry (f.top b)) new → IsReleased n f dist x t new
release_ended n f dist x less new t ex b st pt w d c =
    let i : ℕ = f.top b in
    let tree = st.tree in
    let p = st.rest.pairs in
    let up = tree.outer_mate (f.top t) ex b pt w in
    let entry = tree.link_entry i up.0 in
    let over = tree.link_outer i up.0 in
    let above_rank = tree.link_rank i up.0 in
    let above_tree : x.tree (f.top (x.above i)) ≡ x.tree (f.top t) = over.1 ∙ up.2 in
    let inner_not : f.top t ≢ f.top (x.entry i) = λ e. outer_inner_no pt (ap x.place (e ∙ entry) ∙ up.0) in
    record {
      pairs = c.pairs;
      exposed = λ m u k.
          let far : IsBeside x (f.top (x.above i)) (f.top m) = inr (inr (omega (arith, above_rank, up.1, ap x.rank k.top))) in
          let l : less m ≡ Some u = sym (c.others m k.below far (λ e. inner_not (sym k.top ∙ e))) ∙ k.paired in
          elim (cases_eq m ex) [
            | inl e ↦ some_none (less m) u l (ap less e ∙ d.first)
            | inr nx ↦
                let nb : m ≢ b = λ e. inner_not (sym k.top ∙ ap f.top e ∙ sym entry) in
                nx (p.alone m ex u b k.below w.below (k.top ∙ sym w.top) (sym (d.others m nx nb) ∙ l) w.paired)
          ];
      kept = λ o m u ne k. elim (cases_eq o i) [
        | inl e ↦ let v = c.second in (v.0, v.1, record { below = v.2.below; top = v.2.top ∙ entry ∙ sym e; paired = v.2.paired })
        | inr oi ↦ c.kept o m u (record {
          below = k.below;
          top = k.top;
          paired = d.others m (λ e. ne (sym k.top ∙ ap f.top e ∙ w.top)) (λ e. oi (sym k.top ∙ ap f.top e)) ∙ k.paired;
        })
      ];
      root = λ o ne po e bare. c.root o po (e ∙ sym above_tree) bare;
      others = λ m hm out.
          let far : IsBeside x (f.top (x.above i)) (f.top m) = elim out [
            | inl z ↦ inl z
            | inr (inl z) ↦ inr (inl (λ e. z (e ∙ above_tree)))
            | inr (inr z) ↦ inr (inr (omega (arith, z, above_rank, up.1)))
          ] in
          let oi : f.top m ≢ i = λ e. not_beside x (f.top t) (f.top m) out (λ z. inner_in up.0 (ap x.place (sym e) ∙ z)) (ap x.tree e ∙ up.2) (omega (arith, ap x.rank e, up.1)) in
          let ot : f.top m ≢ f.top t = λ e. not_beside x (f.top t) (f.top m) out (λ z. outer_in pt (ap x.place (sym e) ∙ z)) (ap x.tree e) (omega (arith, ap x.rank e)) in
          c.others m hm far (λ e. oi (e ∙ entry)) ∙ d.others m (λ e. ot (ap f.top e ∙ w.top)) (λ e. oi (ap f.top e));
    }

-- a root is free as it stands
pub release_none : (n : ℕ) (f : Sets) (dist : ℕ → ℕ → ℕ) (x : Forest) (t : ℕ) → IsStage n f dist x → x.place (f.top t) ≡ outer
    → IsExposed n f x.mate (f.top t) → IsReleased n f dist x t x.mate
release_none n f dist x t st pt none = record {
  pairs = st.rest.pairs;
  exposed = none;
  kept = λ i m u ne k. (m, u, k);
  root = λ i ne pi e bare. absurd (ne (st.tree.root_alone i (f.top t) pi pt bare none e));
  others = λ m hm out. refl;
}

-- the same by the lists as each step of the code left them
pub record IsParted (n : ℕ) (f : Sets) (tree : Tree) (mates less : List (Option ℕ)) (t ex b : ℕ) (link : ℕ × ℕ) : Type 0 where
  pub exit : IsExit n f (mate_in mates) (f.top t) ex b
  pub drops : Drops (mate_in mates) ex b (mate_in less)
  pub leads : link ≡ get_or tree.links.items (f.top b) (0, 0)

pub parted : {n : ℕ} {f : Sets} {dist : ℕ → ℕ → ℕ} {tree : Tree} {mates less : List (Option ℕ)} {t ex b top over : ℕ} {link : ℕ × ℕ}
    → IsStage n f dist (forest_of tree mates) → length mates ≡ n → (ex < f.size) × (f.top ex ≡ top) × (mate_in mates ex ≡ Some b)
    → top ≡ f.top t → over ≡ f.top b → link ≡ get_or tree.links.items over (0, 0) → less ≡ set (set mates ex None) b None
    → IsParted n f tree mates less t ex b link
parted {n} {f} {dist} {tree} {mates} {less} {t} {ex} {b} {top} {over} {link} st len w et eo el es =
    let hx : ex < n = omega (arith, w.0, st.rest.size) in
    let hb : b < n = st.rest.pairs.range ex b hx w.2 in
    record {
      exit = record { below = hx; top = w.1 ∙ et; paired = w.2 };
      drops = subst (λ (z : List (Option ℕ)). Drops (mate_in mates) ex b (mate_in z)) (sym es)
          (drops_list mates ex b (omega (arith, hx, len)) (omega (arith, hb, len)));
      leads = el ∙ ap (λ z. get_or tree.links.items z (0, 0)) eo;
    }

pub parted_way : {n : ℕ} {f : Sets} {dist : ℕ → ℕ → ℕ} {tree : Tree} {mates less : List (Option ℕ)} {t ex b : ℕ} {link : ℕ × ℕ} → AreSymmetric n dist
    → IsStage n f dist (forest_of tree mates) → place_in tree.labels.items (f.top t) ≡ outer → IsParted n f tree mates less t ex b link
    → IsWay n f dist (forest_of tree mates) (mate_in less) (link.0, link.1)
parted_way {n} {f} {dist} {tree} {mates} {less} {t} {ex} {b} {link} me st pt p =
    subst (λ (z : ℕ × ℕ). IsWay n f dist (forest_of tree mates) (mate_in less) (z.0, z.1)) (sym p.leads)
    (release_begun n f dist (forest_of tree mates) (mate_in less) t ex b me st pt p.exit p.drops)

pub parted_ended : {n : ℕ} {f : Sets} {dist : ℕ → ℕ → ℕ} {tree : Tree} {mates less : List (Option ℕ)} {new : ℕ → Option ℕ} {t ex b : ℕ} {link : ℕ × ℕ}
    → IsStage n f dist (forest_of tree mates) → place_in tree.labels.items (f.top t) ≡ outer → IsParted n f tree mates less t ex b link
    → IsClimbed n f dist (forest_of tree mates) (mate_in less) (link.0, link.1) new → IsReleased n f dist (forest_of tree mates) t new
parted_ended {n} {f} {dist} {tree} {mates} {less} {new} {t} {ex} {b} {link} st pt p c =
    release_ended n f dist (forest_of tree mates) (mate_in less) new t ex b st pt p.exit p.drops
    (subst (λ (z : ℕ × ℕ). IsClimbed n f dist (forest_of tree mates) (mate_in less) (z.0, z.1) new) p.leads c)
