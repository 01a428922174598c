-- Trees whose roots got pairs are gone, and the others stand as they did.
use Rattle.std.proofs.Common.{arith, ◌≡◌, ◌≢◌, ℕ, ◌<◌, ◌⊎◌, refl, sym, ap, ◌∙◌, subst, inl, inr, Option, List, length, get_or}
use Rattle.std.proofs.lemmas.Bool.{cases_eq}
use Rattle.std.proofs.lemmas.Grind.{get_or_default_zero}
use Rattle.dpl_laminar.specs.Families.{Sets, IsLaminar}
use Rattle.dpl_tree.specs.declared.tree.Tree.{Tree}
use Rattle.dpl_tree.specs.steps.Climbs.{IsWay, IsClimbed, IsReleased}
use Rattle.dpl_tree.specs.steps.Forests.{free, outer, inner, Forest, IsForest, IsExposed, IsPair}
use Rattle.dpl_tree.specs.Mates.{IsExit, ArePairs, loads}
use Rattle.dpl_tree.specs.Metrics.{AreSymmetric}
use Rattle.dpl_tree.specs.Stages.{IsStage, IsReady, Ends}
use Rattle.dpl_tree.specs.Views.{forest_of, place_in, mate_in, IsSized}
use Rattle.dpl_tree.proofs.Growing.{outer_in, inner_in, exit_cases}
use Rattle.dpl_tree.proofs.Unfolding.{augmented_rest}
use Rattle.dpl_tree.proofs.Ways.{load_turned}

-- the new pairs: each top keeps one, the roots of two trees have some, and the sets of the others theirs
pub record ArePaired (n : ℕ) (f : Sets) (dist : ℕ → ℕ → ℕ) (one two : ℕ) (x : Forest) (new : ℕ → Option ℕ) : Type 0 where
  pub pairs : ArePairs n f (loads n f) dist new
  pub kept : (i m u : ℕ) → IsExit n f x.mate i m u → (a : ℕ) × (c : ℕ) × IsExit n f new i a c
  pub roots : (i : ℕ) → x.place i ≡ outer → (x.tree i ≡ one) ⊎ (x.tree i ≡ two) → IsExposed n f x.mate i →
      (a : ℕ) × (c : ℕ) × IsExit n f new i a c
  pub others : (m : ℕ) → m < n → x.place (f.top m) ≢ free → x.tree (f.top m) ≢ one → x.tree (f.top m) ≢ two → new m ≡ x.mate m

-- the forest that is left
pub record AreGone (one two : ℕ) (x y : Forest) : Type 0 where
  pub gone : (i : ℕ) → (x.tree i ≡ one) ⊎ (x.tree i ≡ two) → y.place i ≡ free
  pub others : (i : ℕ) → x.tree i ≢ one → x.tree i ≢ two → y.place i ≡ x.place i
  pub trees : (i : ℕ) → y.tree i ≡ x.tree i
  pub ranks : (i : ℕ) → y.rank i ≡ x.rank i
  pub above : (i : ℕ) → y.above i ≡ x.above i
  pub entry : (i : ℕ) → y.entry i ≡ x.entry i

-- a set that is left
pub record IsLeft (one two i : ℕ) (x y : Forest) : Type 0 where
  pub not_one : x.tree i ≢ one
  pub not_two : x.tree i ≢ two
  pub place : y.place i ≡ x.place i
  pub in_tree : x.place i ≢ free

left_of : (one two i : ℕ) (x y : Forest) → AreGone one two x y → y.place i ≢ free → IsLeft one two i x y
left_of one two i x y g p =
    let a : x.tree i ≢ one = λ e. p (g.gone i (inl e)) in
    let b : x.tree i ≢ two = λ e. p (g.gone i (inr e)) in
    let e : y.place i ≡ x.place i = g.others i a b in
    record { not_one = a; not_two = b; place = e; in_tree = λ z. p (e ∙ z) }

pub ended_forest : (n : ℕ) (f : Sets) (dist : ℕ → ℕ → ℕ) (one two : ℕ) (x y : Forest)
    → IsForest n f (loads n f) dist x → ArePaired n f dist one two x y.mate → AreGone one two x y
    → IsForest n f (loads n f) dist y
ended_forest n f dist one two x y tree p g =
    let left = λ (i : ℕ) (k : y.place i ≢ free). left_of one two i x y g k in
    let was = λ (i : ℕ) (k : y.place i ≢ free) (m t : ℕ) (w : IsExit n f y.mate i m t). (
    let l = left i k in
    let same : y.mate m ≡ x.mate m = p.others m w.below (λ z. l.in_tree (ap x.place (sym w.top) ∙ z)) (λ z. l.not_one (ap x.tree (sym w.top) ∙ z))
    (λ z. l.not_two (ap x.tree (sym w.top) ∙ z)) in
    let r : IsExit n f x.mate i m t = record { below = w.below; top = w.top; paired = sym same ∙ w.paired } in r) in
    let now = λ (i : ℕ) (k : y.place i ≢ free) (m t : ℕ) (w : IsExit n f x.mate i m t). (
    let l = left i k in
    let same : y.mate m ≡ x.mate m = p.others m w.below (λ z. l.in_tree (ap x.place (sym w.top) ∙ z)) (λ z. l.not_one (ap x.tree (sym w.top) ∙ z))
    (λ z. l.not_two (ap x.tree (sym w.top) ∙ z)) in
    let r : IsExit n f y.mate i m t = record { below = w.below; top = w.top; paired = same ∙ w.paired } in r) in
    let old_outer = λ (i : ℕ) (e : y.place i ≡ outer). let r : x.place i ≡ outer = sym (left i (outer_in e)).place ∙ e in r in
    let old_inner = λ (i : ℕ) (e : y.place i ≡ inner). let r : x.place i ≡ inner = sym (left i (inner_in e)).place ∙ e in r in
    -- a set of the tree of one that is left
    let beside = λ (i j : ℕ) (k : y.place i ≢ free) (e : x.tree j ≡ x.tree i). (
    let l = left i k in
    let r : y.place j ≡ x.place j = g.others j (λ z. l.not_one (sym e ∙ z)) (λ z. l.not_two (sym e ∙ z)) in r) in
    let same_tree = λ (i j : ℕ) (e : x.tree j ≡ x.tree i). let r : y.tree j ≡ y.tree i = g.trees j ∙ e ∙ sym (g.trees i) in r in
    record {
      tops = λ i k. tree.tops i (left i k).in_tree;
      root_alone = λ i j ei ej ni nj e. tree.root_alone i j (old_outer i ei) (old_outer j ej)
          (λ m t w. ni m t (now i (outer_in ei) m t w)) (λ m t w. nj m t (now j (outer_in ej) m t w))
          (sym (g.trees i) ∙ e ∙ g.trees j);
      outer_mate = λ i m t e w.
          let v = tree.outer_mate i m t (old_outer i e) (was i (outer_in e) m t w) in (
            beside i (f.top t) (outer_in e) v.2 ∙ v.0,
            omega (arith, v.1, g.ranks (f.top t), g.ranks i),
            same_tree i (f.top t) v.2,
          );
      inner_pair = λ i e. let v = tree.inner_pair i (old_inner i e) in (v.0, v.1, now i (inner_in e) v.0 v.1 v.2);
      inner_mate = λ i m t e w.
          let v = tree.inner_mate i m t (old_inner i e) (was i (inner_in e) m t w) in
          (beside i (f.top t) (inner_in e) v.1 ∙ v.0, same_tree i (f.top t) v.1);
      link_range = λ i e. let v = tree.link_range i (old_inner i e) in (omega (arith, v.0, g.above i), omega (arith, v.1, g.entry i));
      link_entry = λ i e. ap f.top (g.entry i) ∙ tree.link_entry i (old_inner i e);
      link_outer = λ i e.
          let v = tree.link_outer i (old_inner i e) in (
            ap (λ z. y.place (f.top z)) (g.above i) ∙ beside i (f.top (x.above i)) (inner_in e) v.1 ∙ v.0,
            ap (λ z. y.tree (f.top z)) (g.above i) ∙ same_tree i (f.top (x.above i)) v.1,
          );
      link_rank = λ i e. omega (
        arith,
        ap (λ z. y.rank (f.top z)) (g.above i),
        g.ranks (f.top (x.above i)),
        g.ranks i,
        tree.link_rank i (old_inner i e),
      );
      link_tight = λ i e. ap (λ z. loads n f z (y.entry i)) (g.above i) ∙ ap (loads n f (x.above i)) (g.entry i) ∙ tree.link_tight i (old_inner i e) ∙
          sym (ap (λ z. dist z (y.entry i)) (g.above i) ∙ ap (dist (x.above i)) (g.entry i));
    }

pub ended : (n : ℕ) (f : Sets) (dist : ℕ → ℕ → ℕ) (one two : ℕ) (x y : Forest)
    → IsStage n f dist x → ArePaired n f dist one two x y.mate → AreGone one two x y
    → (i : ℕ) × (x.place i ≢ free) × (x.tree i ≡ one) → Ends n dist f one two x y
ended n f dist one two x y st p g stood = record {
  stage = record {
    rest = augmented_rest n f dist x.mate y.mate st.rest p.pairs;
    tree = ended_forest n f dist one two x y st.tree p g;
    even = λ s t hs ht ks kt. st.even s t hs ht (left_of one two (f.top s) x y g ks).in_tree (left_of one two (f.top t) x y g kt).in_tree;
  };
  ready = λ k hk r. elim r [
    | inl w ↦ inl (p.kept (f.top k) w.0 w.1 w.2)
    | inr e ↦
        let gone = λ (h : (x.tree (f.top k) ≡ one) ⊎ (x.tree (f.top k) ≡ two)). (
        elim (exit_cases n f x.mate (f.top k)) as (λ _. IsReady n f y k) [
          | inl w ↦ inl (p.kept (f.top k) w.0 w.1 w.2)
          | inr bare ↦ inl (p.roots (f.top k) e h bare)
        ]) in
        elim (cases_eq (x.tree (f.top k)) one) [
          | inl a ↦ gone (inl a)
          | inr a ↦ elim (cases_eq (x.tree (f.top k)) two) [
            | inl b ↦ gone (inr b)
            | inr b ↦ inr (g.others (f.top k) a b ∙ e)
          ]
        ]
  ];
  gone = g.gone;
  others = g.others;
  trees = g.trees;
  ranks = g.ranks;
  stood = stood;
}

-- the climb in the first of two trees, where the top of t in the second one has been freed
pub join_begun : (n : ℕ) (f : Sets) (dist : ℕ → ℕ → ℕ) (x : Forest) (mid : ℕ → Option ℕ) (s t : ℕ) → AreSymmetric n dist
    → IsStage n f dist x → IsPair n f x.place outer s t → loads n f s t ≡ dist s t → x.tree (f.top s) ≢ x.tree (f.top t)
    → IsReleased n f dist x t mid → IsWay n f dist x mid (s, t)
join_begun n f dist x mid s t me st p tight ne r = record {
  stage = st;
  climb = record {
    s_range = p.from;
    t_range = p.to;
    s_outer = p.from_outer;
    apart = p.apart;
    tight = tight;
    tight_back = load_turned n f t s ∙ tight ∙ me s t p.from p.to;
    pairs = r.pairs;
    t_free = r.exposed;
    t_rank = λ z e. absurd (ne (sym e));
    kept = λ m hm z e le. r.others m hm (inr (inl (λ y. ne (sym e ∙ y))));
  };
}

-- the pair of outer members of two trees ends both
pub join_paired : (n : ℕ) (f : Sets) (dist : ℕ → ℕ → ℕ) (x : Forest) (mid new : ℕ → Option ℕ) (s t : ℕ)
    → IsReleased n f dist x t mid → IsClimbed n f dist x mid (s, t) new
    → ArePaired n f dist (x.tree (f.top s)) (x.tree (f.top t)) x new
join_paired n f dist x mid new s t r c =
    let second = λ (i : ℕ) (e : i ≡ f.top t). (
    let w : (a : ℕ) × (z : ℕ) × IsExit n f new i a z =
    (c.second.0, c.second.1, record { below = c.second.2.below; top = c.second.2.top ∙ sym e; paired = c.second.2.paired }) in w) in
    record {
      pairs = c.pairs;
      kept = λ i m u k. elim (cases_eq i (f.top t)) [
        | inl e ↦ second i e
        | inr ne ↦ let w = r.kept i m u ne k in c.kept i w.0 w.1 w.2
      ];
      roots = λ i pi e bare. elim e [
        | inl z ↦ c.root i pi z bare
        | inr z ↦ elim (cases_eq i (f.top t)) [
          | inl y ↦ second i y
          | inr ne ↦ let w = r.root i ne pi z bare in c.kept i w.0 w.1 w.2
        ]
      ];
      others = λ m hm k a b. c.others m hm (inr (inl a)) (λ e. b (ap x.tree e)) ∙ r.others m hm (inr (inl b));
    }

-- the lists of a tree without some labels
pub gone_of : (one two : ℕ) (old new : Tree) (mates made : List (Option ℕ))
    → ((i : ℕ) → (get_or old.trees.items i 0 ≡ one) ⊎ (get_or old.trees.items i 0 ≡ two) → place_in new.labels.items i ≡ free)
    → ((i : ℕ) → get_or old.trees.items i 0 ≢ one → get_or old.trees.items i 0 ≢ two → place_in new.labels.items i ≡ place_in old.labels.items i)
    → new ≡ record old { labels = new.labels } → AreGone one two (forest_of old mates) (forest_of new made)
gone_of one two old new mates made gone others rest = record {
  gone = gone;
  others = others;
  trees = λ i. ap (λ (z : Tree). get_or z.trees.items i 0) rest;
  ranks = λ i. ap (λ (z : Tree). get_or z.ranks.items i 0) rest;
  above = λ i. ap (λ (z : Tree). (get_or z.links.items i (0, 0)).0) rest;
  entry = λ i. ap (λ (z : Tree). (get_or z.links.items i (0, 0)).1) rest;
}

-- the number of the tree of a member's top, as it was read
pub number_read : {n : ℕ} {f : Sets} {tree : Tree} {number set s : ℕ} → IsLaminar n f → IsSized n tree → s < n
    → number ≡ get_or tree.trees.items set number → set ≡ f.top s → number ≡ get_or tree.trees.items (f.top s) 0
number_read {n} {f} {tree} {number} {set} {s} lam size hs e es =
    let low : set < length tree.trees.items = omega (arith, lam.tops.top_range s hs, es, size.trees) in
    e ∙ get_or_default_zero tree.trees.items set number low ∙ ap (λ z. get_or tree.trees.items z 0) es

-- ---- the calls, by the lists as each step of the code left them

-- the same of outer members of two trees
pub join_way : {n : ℕ} {f : Sets} {dist : ℕ → ℕ → ℕ} {read mid : List (Option ℕ)} {s t : ℕ} (tree : Tree) (mates : List (Option ℕ)) → AreSymmetric n dist
    → IsStage n f dist (forest_of tree mates) → IsPair n f (place_in tree.labels.items) outer s t → loads n f s t ≡ dist s t
    → get_or tree.trees.items (f.top s) 0 ≢ get_or tree.trees.items (f.top t) 0
    → IsReleased n f dist (forest_of tree mates) t (mate_in mid) → read ≡ mid → IsWay n f dist (forest_of tree mates) (mate_in read) (s, t)
join_way {n} {f} {dist} {read} {mid} {s} {t} tree mates me st p tight ne r e =
    subst (λ (z : List (Option ℕ)). IsWay n f dist (forest_of tree mates) (mate_in z) (s, t)) (sym e)
    (join_begun n f dist (forest_of tree mates) (mate_in mid) s t me st p tight ne r)

pub join_done : {n : ℕ} {f : Sets} {dist : ℕ → ℕ → ℕ} {read mid made back : List (Option ℕ)} {s t first second : ℕ} (old new : Tree) (mates : List (Option ℕ))
    → IsStage n f dist (forest_of old mates) → IsPair n f (place_in old.labels.items) outer s t
    → first ≡ get_or old.trees.items (f.top s) 0 → second ≡ get_or old.trees.items (f.top t) 0
    → ((i : ℕ) → (get_or old.trees.items i 0 ≡ first) ⊎ (get_or old.trees.items i 0 ≡ second) → place_in new.labels.items i ≡ free)
    → ((i : ℕ) → get_or old.trees.items i 0 ≢ first → get_or old.trees.items i 0 ≢ second → place_in new.labels.items i ≡ place_in old.labels.items i)
    → new ≡ record old { labels = new.labels } → IsReleased n f dist (forest_of old mates) t (mate_in mid) → read ≡ mid
    → IsClimbed n f dist (forest_of old mates) (mate_in read) (s, t) (mate_in made) → back ≡ made
    → (one two : ℕ) → one ≡ get_or old.trees.items (f.top s) 0 → two ≡ get_or old.trees.items (f.top t) 0
    → Ends n dist f one two (forest_of old mates) (forest_of new back)
join_done {n} {f} {dist} {read} {mid} {made} {back} {s} {t} {first} {second} old new mates st p e1 e2 gone others rest r er c eb one two eo et =
    let x : Forest = forest_of old mates in
    let y : Forest = forest_of new back in
    let a : ℕ = x.tree (f.top s) in
    let b : ℕ = x.tree (f.top t) in
    let c1 : IsClimbed n f dist x (mate_in mid) (s, t) (mate_in made) =
    subst (λ (z : List (Option ℕ)). IsClimbed n f dist x (mate_in z) (s, t) (mate_in made)) er c in
    let c2 : IsClimbed n f dist x (mate_in mid) (s, t) (mate_in back) =
    subst (λ (z : List (Option ℕ)). IsClimbed n f dist x (mate_in mid) (s, t) (mate_in z)) (sym eb) c1 in
    let pd = join_paired n f dist x (mate_in mid) (mate_in back) s t r c2 in
    let g = gone_of first second old new mates back gone others rest in
    let g1 : AreGone a second x y = subst (λ (z : ℕ). AreGone z second x y) e1 g in
    let g2 : AreGone a b x y = subst (λ (z : ℕ). AreGone a z x y) e2 g1 in
    let done : Ends n dist f a b x y = ended n f dist a b x y st pd g2 (f.top s, outer_in p.from_outer, refl) in
    let done1 : Ends n dist f one b x y = subst (λ (z : ℕ). Ends n dist f z b x y) (sym eo) done in
    subst (λ (z : ℕ). Ends n dist f one z x y) (sym et) done1
