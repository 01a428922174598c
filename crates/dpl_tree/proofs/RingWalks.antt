-- An inner set of value 0 gives way to its children, of which those on the way stay in the tree.
use Rattle.std.proofs.Common.{arith, ◌≡◌, ◌≢◌, ℕ, zero, suc, ◌+◌, ◌-◌, ◌*◌, ◌/◌, ◌%◌, ◌<◌, ◌≤◌, ◌⊎◌, refl, sym, ap}
use Rattle.std.proofs.Common.{◌∙◌, subst, true, false, inl, inr, Option, Some, None, List, length, get_or, set}
use Rattle.std.proofs.Common.{length-set, get_or-set_same, get_or-set_other}
use Rattle.std.proofs.lemmas.Bool.{cases_eq, cases_lt, cases_Bool}
use Rattle.std.proofs.Math.Nat.{mod-eq_of_lt}
use Rattle.dpl_laminar.specs.Families.{Sets, IsFamily, has, next_in}
use Rattle.dpl_laminar.specs.Changes.{IsExpanded, Releases}
use Rattle.dpl_laminar.proofs.Numbers.{true_false, some_none}
use Rattle.dpl_tree.specs.declared.tree.Label.TheVariants.{Free, Outer, Inner}
use Rattle.dpl_tree.specs.steps.Forests.{free, Forest, IsBroken, Opens, Walks, gap}
use Rattle.dpl_tree.specs.Mates.{IsExit, ArePairs, loads}
use Rattle.dpl_tree.specs.Metrics.{AreSymmetric}
use Rattle.dpl_tree.specs.Stages.{IsStage, Advances, KeepsTrees}
use Rattle.dpl_tree.specs.Views.{mate_in, place_in, place_of}
use Rattle.dpl_tree.specs.steps.Opened.{IsAround, IsOpening, around, Lists, forest_in, step_in, walked_times, paired_times}
use Rattle.dpl_tree.proofs.Growing.{place_cases, outer_in, inner_in, exit_one}
use Rattle.dpl_tree.proofs.Numbering.{trees_on, opened_trees, walked_trees}
use Rattle.dpl_tree.proofs.Opening.{opened, walked, healed}
use Rattle.dpl_tree.proofs.Refining.{refined_pairs}
use Rattle.dpl_tree.proofs.Ways.{load_turned}
use Rattle.dpl_tree.proofs.Unfolding.{IsOpened, released_of, unfolded_stage}
use Rattle.dpl_tree.proofs.RingPairs.{IsRow, ArePaired, ring_paired}

-- ---- the lists

pub record AreLong (k : ℕ) (l : Lists) : Type 0 where
  pub labels : length l.labels ≡ k
  pub ranks : length l.ranks ≡ k
  pub links : length l.links ≡ k
  pub trees : length l.trees ≡ k

step_long : (k : ℕ) (l : Lists) (cur o next : ℕ) (link : ℕ × ℕ) → AreLong k l → AreLong k (step_in l cur o next link)
step_long k l cur o next link a = record {
  labels = length-set (set l.labels o Outer) next Inner ∙ length-set l.labels o Outer ∙ a.labels;
  ranks = length-set (set l.ranks o _) next _ ∙ length-set l.ranks o _ ∙ a.ranks;
  links = length-set l.links next link ∙ a.links;
  trees = length-set (set l.trees o _) next _ ∙ length-set l.trees o _ ∙ a.trees;
}

step_walks : (n : ℕ) (g : Sets) (k : ℕ) (l : Lists) (mate : ℕ → Option ℕ) (cur o next : ℕ) (link : ℕ × ℕ)
    → AreLong k l → o < k → next < k → o ≢ next
    → Walks (forest_in l mate) cur o next link (forest_in (step_in l cur o next link) mate)
step_walks n g k l mate cur o next link a ho hn ne =
    let hl : next < length (set l.labels o Outer) = omega (arith, length-set l.labels o Outer, a.labels, hn) in
    let r1 : ℕ = get_or l.ranks cur 0 + 1 in
    let r2 : ℕ = get_or l.ranks cur 0 + 2 in
    let hr : next < length (set l.ranks o r1) = omega (arith, length-set l.ranks o r1, a.ranks, hn) in
    let hk : next < length l.links = omega (arith, a.links, hn) in
    let number : ℕ = get_or l.trees cur 0 in
    let ht : next < length (set l.trees o number) = omega (arith, length-set l.trees o number, a.trees, hn) in
    record {
      mates = λ i. refl;
      place_outer = ap place_of (get_or-set_other (set l.labels o Outer) next o Inner Free ne ∙
          get_or-set_same l.labels o Outer Free (omega (arith, a.labels, ho)));
      place_inner = ap place_of (get_or-set_same (set l.labels o Outer) next Inner Free hl);
      place_others = λ i no nn. ap place_of (get_or-set_other (set l.labels o Outer) next i Inner Free nn ∙ get_or-set_other l.labels o i Outer Free no);
      rank_outer = get_or-set_other (set l.ranks o r1) next o r2 0 ne ∙ get_or-set_same l.ranks o r1 0 (omega (arith, a.ranks, ho));
      rank_inner = get_or-set_same (set l.ranks o r1) next r2 0 hr;
      rank_others = λ i no nn. get_or-set_other (set l.ranks o r1) next i r2 0 nn ∙ get_or-set_other l.ranks o i r1 0 no;
      above = ap (λ z. z.0) (get_or-set_same l.links next link (0, 0) hk);
      entry = ap (λ z. z.1) (get_or-set_same l.links next link (0, 0) hk);
      link_others = λ i nn. (ap (λ z. z.0) (get_or-set_other l.links next i link (0, 0) nn), ap (λ z. z.1) (get_or-set_other l.links next i link (0, 0) nn));
      tree_outer = get_or-set_other (set l.trees o number) next o number 0 ne ∙ get_or-set_same l.trees o number 0 (omega (arith, a.trees, ho));
      tree_inner = get_or-set_same (set l.trees o number) next number 0 ht;
      tree_others = λ i no nn. get_or-set_other (set l.trees o number) next i number 0 nn ∙ get_or-set_other l.trees o i number 0 no;
    }

-- ---- the walk

-- what the walk stands on: the children are tops, and each has its pair
pub record IsReadyRing (n : ℕ) (g : Sets) (load dist : ℕ → ℕ → ℕ) (sets : List ℕ) (joins : List (ℕ × ℕ)) (p : ℕ) (mate : ℕ → Option ℕ) : Type 0 where
  pub row : IsRow n g load dist sets joins
  pub pairs : ArePairs n g load dist mate
  pub tops : (i : ℕ) → i < length sets → (get_or sets i 0 < 2 * n) × (g.live (get_or sets i 0) ≡ true) × (g.parent (get_or sets i 0) ≡ None)
  pub exits : (i : ℕ) → i < length sets → (m : ℕ) × (t : ℕ) × IsExit n g mate (get_or sets i 0) m t
  pub along : (i : ℕ) → i % 2 ≡ 0 → i < p → mate (get_or joins i (0, 0)).0 ≡ Some (get_or joins i (0, 0)).1
  pub place : p < length sets

pub record IsWalked (n : ℕ) (g : Sets) (load dist : ℕ → ℕ → ℕ) (sets : List ℕ) (joins : List (ℕ × ℕ)) (p r : ℕ)
    (l m : Lists) (out : ℕ) (mate : ℕ → Option ℕ) (bound : ℕ) : Type 0 where
  pub long : AreLong (2 * n) m
  pub broken : IsBroken n g load dist (forest_in m mate) (gap (get_or sets (2 * r) 0) out (p - 2 * r))
  pub ahead : (j : ℕ) → 2 * r < j → j < length sets → place_in m.labels (get_or sets j 0) ≡ free
  pub others : (i : ℕ) → ((j : ℕ) → j < length sets → i ≢ get_or sets j 0) → place_in m.labels i ≡ place_in l.labels i
  pub ranked : (i : ℕ) → get_or m.ranks i 0 ≤ bound + 2 * r
  pub trees : KeepsTrees (forest_in l mate) (forest_in m mate)

walk_more : (n : ℕ) (g : Sets) (load dist : ℕ → ℕ → ℕ) (sets : List ℕ) (joins : List (ℕ × ℕ)) (p r : ℕ) (l m : Lists)
    (out : ℕ) (mate : ℕ → Option ℕ) (bound : ℕ) → IsReadyRing n g load dist sets joins p mate → 2 * r + 2 ≤ p →
    IsWalked n g load dist sets joins p r l m out mate bound →
    IsWalked n g load dist sets joins p (suc r) l (step_in m (get_or sets (2 * r) 0) (get_or sets (2 * r + 1) 0)
    (get_or sets (2 * r + 2) 0) (get_or joins (2 * r + 1) (0, 0))) out mate bound
walk_more n g load dist sets joins p r l m out mate bound q le w =
    let cur : ℕ = get_or sets (2 * r) 0 in
    let o : ℕ = get_or sets (2 * r + 1) 0 in
    let next : ℕ = get_or sets (2 * r + 2) 0 in
    let link : ℕ × ℕ = get_or joins (2 * r + 1) (0, 0) in
    let first : ℕ × ℕ = get_or joins (2 * r) (0, 0) in
    let h0 : 2 * r < length sets = omega (arith, q.place, le) in
    let h1 : 2 * r + 1 < length sets = omega (arith, q.place, le) in
    let h2 : 2 * r + 2 < length sets = omega (arith, q.place, le) in
    let on : o ≢ next = q.row.distinct (2 * r + 1) (2 * r + 2) (omega arith) h2 in
    let e2 : 2 * r + 1 + 1 ≡ 2 * r + 2 = omega arith in
    let step = step_walks n g (2 * n) m mate cur o next link w.long (q.tops (2 * r + 1) h1).0 (q.tops (2 * r + 2) h2).0 on in
    let f0 = q.row.from (2 * r) h0 in
    let t0 = q.row.to (2 * r) h1 in
    let f1 = q.row.from (2 * r + 1) h1 in
    let t1 = q.row.to (2 * r + 1) (omega (arith, h2)) in
    let ex : IsExit n g mate cur first.0 first.1 = record { below = f0.0; top = f0.1; paired = q.along (2 * r) (omega arith) (omega (arith, le)) } in
    let room : p - 2 * r ≡ (p - 2 * suc r) + 2 = omega (arith, le) in
    let b = walked n g load dist (forest_in m mate) (forest_in (step_in m cur o next link) mate) cur out
    (p - 2 * suc r) o next first.0 first.1 link.0 link.1 q.pairs
    (subst (λ (z : ℕ). IsBroken n g load dist (forest_in m mate) (gap cur out z)) room w.broken) ex t0.1
    (w.ahead (2 * r + 1) (omega arith) h1) (w.ahead (2 * r + 2) (omega arith) h2) on (q.tops (2 * r + 1) h1)
    (q.tops (2 * r + 2) h2)
    f1.0 t1.0 f1.1 (t1.1 ∙ ap (λ z. get_or sets z 0) e2) (q.row.tight (2 * r + 1) (omega (arith, h2))) (q.exits (2 * r + 2) h2) step in
    let e3 : 2 * r + 2 ≡ 2 * suc r = omega arith in
    record {
      long = step_long (2 * n) m cur o next link w.long;
      broken = subst (λ (z : ℕ). IsBroken n g load dist (forest_in (step_in m cur o next link) mate) (gap (get_or sets z 0) out (p - 2 * suc r))) e3 b;
      ahead = λ j lt h. step.place_others (get_or sets j 0)
          (λ z. q.row.distinct (2 * r + 1) j (omega (arith, lt)) h (sym z))
          (λ z. q.row.distinct (2 * r + 2) j (omega (arith, lt)) h (sym z)) ∙ w.ahead j (omega (arith, lt)) h;
      others = λ i none. step.place_others i (none (2 * r + 1) h1) (none (2 * r + 2) h2) ∙ w.others i none;
      ranked = λ i. elim (cases_eq i next) [
        | inl z ↦ omega (arith, ap (λ y. get_or (step_in m cur o next link).ranks y 0) z, step.rank_inner, w.ranked cur)
        | inr z ↦ elim (cases_eq i o) [
          | inl y ↦ omega (arith, ap (λ y'. get_or (step_in m cur o next link).ranks y' 0) y, step.rank_outer, w.ranked cur)
          | inr y ↦ omega (arith, step.rank_others i y z, w.ranked i)
        ]
      ];
      trees = trees_on (forest_in l mate) (forest_in m mate) (forest_in (step_in m cur o next link) mate) w.trees
          (walked_trees (forest_in m mate) (forest_in (step_in m cur o next link) mate) cur o next link w.broken.cur_inner step);
    }

-- so many steps of the walk
pub walk_all : (n : ℕ) (g : Sets) (load dist : ℕ → ℕ → ℕ) (sets : List ℕ) (joins : List (ℕ × ℕ)) (p : ℕ)
    → (l : Lists) (out : ℕ) (mate : ℕ → Option ℕ) (bound : ℕ)
    → IsReadyRing n g load dist sets joins p mate
    → IsWalked n g load dist sets joins p 0 l l out mate bound → (r : ℕ) → 2 * r ≤ p
    → IsWalked n g load dist sets joins p r l (walked_times l sets joins r) out mate bound
walk_all n g load dist sets joins p l out mate bound q w zero h = w
walk_all n g load dist sets joins p l out mate bound q w (suc r) h =
    walk_more n g load dist sets joins p r l (walked_times l sets joins r) out mate bound q (omega (arith, h))
    (walk_all n g load dist sets joins p l out mate bound q w r (omega (arith, h)))

-- ---- the whole

-- the next one around, but for the last
pub next_of : (sets : List ℕ) (i : ℕ) → i + 1 < length sets → next_in sets i ≡ get_or sets (i + 1) 0
next_of sets i h = ap (λ z. get_or sets z 0) (mod-eq_of_lt h)

place_free : (n : ℕ) (f : Sets) (dist : ℕ → ℕ → ℕ) (x : Forest) (set c : ℕ) → IsStage n f dist x → f.parent c ≡ Some set → (x.place c ≡ free) ⊎ ⊥
place_free n f dist x set c st e = elim (place_cases (x.place c)) [
  | inl z ↦ inl z
  | inr (inl z) ↦ some_none (f.parent c) set e (st.tree.tops c (outer_in z)).2
  | inr (inr z) ↦ some_none (f.parent c) set e (st.tree.tops c (inner_in z)).2
]

-- the children of a set that was taken away, as tops
pub opening_row : (n : ℕ) (f g : Sets) (dist : ℕ → ℕ → ℕ) (set : ℕ) (sets : List ℕ) (joins : List (ℕ × ℕ))
    → Releases n f set g → IsAround n f dist set sets joins → IsRow n g (loads n f) dist sets joins
opening_row n f g dist set sets joins q a = record {
  from = λ i h. let w = a.from i h in (w.0, q.top_inside (get_or sets i 0) _ w.0 (a.kids i h) w.1);
  to = λ i h.
      let w = a.to i (omega (arith, h)) in
      let e = next_of sets i h in
      (w.0, q.top_inside (get_or sets (i + 1) 0) _ w.0 (a.kids (i + 1) h) (ap (λ z. f.holds z (get_or joins i (0, 0)).1) (sym e) ∙ w.1));
  tight = λ i h. a.tight i (omega (arith, h));
  distinct = a.distinct;
}

-- an inner set has given way to the children of its ring
pub opening_done : (n : ℕ) (f g : Sets) (dist : ℕ → ℕ → ℕ) (x : Forest) (set : ℕ) (sets : List ℕ) (joins : List (ℕ × ℕ))
    (p : ℕ) (mates : List (Option ℕ)) (l : Lists) (bound : ℕ) → AreSymmetric n dist → length mates ≡ n →
    x.mate ≡ mate_in mates → IsStage n f dist x →
    IsOpening n f dist x set (around sets joins p) → IsExpanded f set g → IsFamily g → AreLong (2 * n) l →
    Opens x set (get_or sets 0 0) p (forest_in l
    (mate_in (paired_times mates joins p (length joins / 2)))) → ((i : ℕ) → x.rank i ≤ bound) →
    Advances n dist f x g (forest_in (walked_times l sets joins (p / 2))
    (mate_in (paired_times mates joins p (length joins / 2)))) ×
    ((i : ℕ) → get_or (walked_times l sets joins (p / 2)).ranks i 0 ≤ bound + 2 * p) ×
    KeepsTrees x (forest_in (walked_times l sets joins (p / 2))
    (mate_in (paired_times mates joins p (length joins / 2))))
opening_done n f g dist x set sets joins p mates l bound me len em st o ex fam long op ranked =
    let m0 : ℕ = o.from in
    let t0 : ℕ = o.to in
    let r = st.rest in
    let lam = r.laminar in
    let q = released_of n f g set r.size ex in
    let at = st.tree.tops set (inner_in o.is_inner) in
    let a = o.ring in
    let row = opening_row n f g dist set sets joins q a in
    let load : ℕ → ℕ → ℕ = loads n f in
    let new : ℕ → Option ℕ = mate_in (paired_times mates joins p (length joins / 2)) in
    let xm = λ (m : ℕ). ap (λ (h : ℕ → Option ℕ). h m) em in
    let kid = λ (i : ℕ) (h : i < length sets). lam.children.child set (get_or sets i 0) at.0 (a.kids i h) in
    let ref = refined_pairs n f g load dist x.mate set lam q o.above at.0 r.pairs in
    -- a member of a child is one of the set
    let back = λ (i m : ℕ) (h : i < length sets) (hm : m < n) (e : g.top m ≡ get_or sets i 0). (elim (cases_eq (f.top m) set) as (λ _. f.top m ≡ set) [
      | inl z ↦ z
      | inr z ↦ some_none (f.parent (get_or sets i 0)) set (kid i h).2 (ap f.parent (sym e ∙ q.top_others m hm z) ∙ lam.tops.top_parent m hm)
    ]) in
    let top0 : g.top m0 ≡ get_or sets p 0 = q.top_inside (get_or sets p 0) m0 o.exit.below (a.kids p o.place) o.leaves in
    let apart = λ (i j : ℕ) (hi : i < length sets) (hj : j < length sets) (ne : i ≢ j)
    (e : get_or sets i 0 ≡ get_or sets j 0). (elim (cases_lt i j) as (λ _. ⊥) [
      | inl lt ↦ a.distinct i j lt hj e
      | inr ge ↦ a.distinct j i (omega (arith, ge, ne)) hi (sym e)
    ]) in
    let begun : ArePaired n g load dist sets joins p 0 (mate_in mates) (mate_in mates) = record {
      pairs = subst (λ (h : ℕ → Option ℕ). ArePairs n g load dist h) em ref;
      unpaired = λ i _ h ne m u w.
          let fm = back i m h w.below w.top in
          let one = exit_one n f load dist x.mate r.pairs set m u m0 t0 (record { below = w.below; top = fm; paired = xm m ∙ w.paired }) o.exit in
          apart i p h o.place ne (sym w.top ∙ ap g.top one.0 ∙ top0);
      paired = λ i lt h ne. absurd (omega (arith, lt));
      along = λ i z lp lt h. absurd (omega (arith, lt));
      kept = λ m hm out. refl;
    } in
    let half : ℕ = length joins / 2 in
    let eh : 2 * half + 1 ≡ length sets = omega (arith, a.count, a.odd) in
    let by = ring_paired n g load dist sets joins p mates len (load_turned n f) me row a.odd o.even o.place begun half (omega (arith, eh)) in
    let pd : ArePaired n g load dist sets joins p (2 * half + 1) (mate_in mates) new = by.behind (omega (arith, eh, o.place)) in
    let keep = λ (m : ℕ) (hm : m < n) (ne : f.top m ≢ set). pd.kept m hm (λ i h _ e. ne (back i m h hm e)) ∙ sym (xm m) in
    let kept0 : new m0 ≡ Some t0 = pd.kept m0 o.exit.below (λ i h ne e. apart i p h o.place ne (sym e ∙ top0)) ∙ sym (xm m0) ∙ o.exit.paired in
    let exits = λ (i : ℕ) (h : i < length sets). (elim (cases_eq i p) as (λ _. (m : ℕ) × (t : ℕ) × IsExit n g new (get_or sets i 0) m t) [
      | inl z ↦ (m0, t0, record { below = o.exit.below; top = top0 ∙ ap (λ y. get_or sets y 0) (sym z); paired = kept0 })
      | inr z ↦ pd.paired i (omega (arith, h, eh)) h z
    ]) in
    let gtop = λ (i : ℕ) (h : i < length sets). (
    let k = kid i h in
    let ns : get_or sets i 0 ≢ set = λ e. some_none (f.parent (get_or sets i 0)) set k.2 (ap f.parent e ∙ at.2) in
    let w : (get_or sets i 0 < 2 * n) × (g.live (get_or sets i 0) ≡ true) × (g.parent (get_or sets i 0) ≡ None) =
    (k.0, q.live_others (get_or sets i 0) ns ∙ k.1, q.parent_child (get_or sets i 0) (a.kids i h)) in w) in
    let h0 : 0 < length sets = omega (arith, o.place) in
    let g0 = gtop 0 h0 in
    let y0 : Forest = forest_in l new in
    let ent = st.tree.link_range set o.is_inner in
    let broken = opened n f g load dist x y0 set (get_or sets 0 0) m0 t0 p lam q r.pairs st.tree pd.pairs o.above
    o.is_inner o.exit g0.0 g0.1 g0.2 (kid 0 h0).2 (q.top_inside (get_or sets 0 0) (x.entry set) ent.1 (a.kids 0 h0)
    o.enters) keep (exits 0 h0) op in
    let ring : IsReadyRing n g load dist sets joins p new = record {
      row = row;
      pairs = pd.pairs;
      tops = gtop;
      exits = exits;
      along = λ i z lp. pd.along i z lp (omega (arith, lp, o.place, eh)) (omega (arith, lp, o.place));
      place = o.place;
    } in
    let free_in = λ (i : ℕ) (h : i < length sets). (elim (place_free n f dist x set (get_or sets i 0) st (kid i h).2) as
    (λ _. x.place (get_or sets i 0) ≡ free) [
      | inl z ↦ z
      | inr z ↦ absurd z
    ]) in
    let w0 : IsWalked n g load dist sets joins p 0 l l (f.top t0) new (bound + p) = record {
      long = long;
      broken = subst (λ (z : ℕ). IsBroken n g load dist y0 (gap (get_or sets 0 0) (f.top t0) z)) (let z : p ≡ p - 2 * 0 = omega arith in z) broken;
      ahead = λ j lt h.
          let ns : get_or sets j 0 ≢ set = λ e. some_none (f.parent (get_or sets j 0)) set (kid j h).2 (ap f.parent e ∙ at.2) in
          op.place_others (get_or sets j 0) ns (λ e. a.distinct 0 j (omega (arith, lt)) h (sym e)) ∙ free_in j h;
      others = λ i none. refl;
      ranked = λ i. elim (cases_eq i (get_or sets 0 0)) [
        | inl z ↦ omega (arith, ap (λ y. get_or l.ranks y 0) z, op.rank_first, ranked set)
        | inr z ↦ elim (cases_lt (x.rank set) (x.rank i)) [
          | inl hi ↦ omega (arith, op.rank_high i z hi, ranked i)
          | inr lo ↦ omega (arith, op.rank_low i z lo, ranked i)
        ]
      ];
      trees = λ i k. (i, k, refl);
    } in
    let ph : 2 * (p / 2) ≡ p = omega (arith, o.even) in
    let w = walk_all n g load dist sets joins p l (f.top t0) new (bound + p) ring w0 (p / 2) (omega (arith, ph)) in
    let y : Forest = forest_in (walked_times l sets joins (p / 2)) new in
    let nt0 : f.top t0 ≢ set = λ e. r.pairs.leaves m0 t0 o.exit.below o.exit.paired (o.exit.top ∙ sym e) in
    let ht0 : t0 < n = r.pairs.range m0 t0 o.exit.below o.exit.paired in
    let last : IsExit n g new (get_or sets (2 * (p / 2)) 0) m0 t0 =
    record { below = o.exit.below; top = top0 ∙ ap (λ z. get_or sets z 0) (sym ph); paired = kept0 } in
    let tree = healed n g load dist y (get_or sets (2 * (p / 2)) 0) (f.top t0) (p - 2 * (p / 2)) m0 t0 pd.pairs w.broken last (q.top_others t0 ht0 nt0) in
    let outside = λ (i : ℕ) (k : has (f.children set) i ≡ false) (j : ℕ) (h : j < length sets)
    (e : i ≡ get_or sets j 0). true_false {P = ⊥} (has (f.children set) i)
    (ap (has (f.children set)) e ∙ a.kids j h) k in
    let set_out : has (f.children set) set ≡ false = elim (cases_Bool (has (f.children set) set)) [
      | inl k ↦ some_none (f.parent set) set (lam.children.child set set at.0 k).2 at.2
      | inr k ↦ k
    ] in
    let done : IsOpened n f g set x y = record {
      above = o.above;
      was_inner = o.is_inner;
      was_empty = o.empty;
      expanded = ex;
      place_set = w.others set (outside set set_out) ∙ op.place_set;
      place_others = λ i k ne. w.others i (outside i k) ∙ op.place_others i ne (outside i k 0 h0);
      mates = keep;
      paired = λ c k.
          let v = a.all c k in
          let e = exits v.0 v.1 in
          (e.0, e.1, record { below = e.2.below; top = e.2.top ∙ v.2; paired = e.2.paired });
    } in
    let u = unfolded_stage n f g dist x y set st fam done pd.pairs tree in (
      record { stage = u.0; falls = u.1; ready = u.2 },
      λ i. omega (arith, w.ranked i, ph),
      trees_on x y0 y (opened_trees x y0 set (get_or sets 0 0) p o.is_inner op) w.trees,
    )
