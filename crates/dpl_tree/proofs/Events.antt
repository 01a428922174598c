-- What each event of a stage keeps.
use Rattle.std.proofs.Common.{arith, ◌≡◌, ◌≢◌, ℕ, zero, suc, ◌+◌, ◌-◌, ◌*◌, ◌%◌, ◌<◌, ◌≤◌, sym, ap, ◌∙◌, subst, true}
use Rattle.std.proofs.Common.{cond, inl, inr, Some, List, length, get_or}
use Rattle.std.proofs.lemmas.Bool.{cases_eq, cases_Bool}
use Rattle.dpl_laminar.specs.Families.{Sets, IsFamily, has}
use Rattle.dpl_laminar.specs.Changes.{Gathers, AreTops, IsShrunk}
use Rattle.dpl_laminar.proofs.Sums.{sum_same}
use Rattle.dpl_laminar.proofs.Numbers.{true_false, place_in}
use Rattle.dpl_tree.specs.steps.Forests.{free, outer, inner, Forest, IsForest, IsExposed, IsCycle, Folds}
use Rattle.dpl_tree.specs.Mates.{IsExit, DropsInside, total_in, loads, totals}
use Rattle.dpl_tree.specs.Stages.{IsStage, IsReady, potential, Advances, AreRanked, KeepsTrees, Widens}
use Rattle.dpl_tree.proofs.Growing.{place_cases, outer_in, exit_cases}
use Rattle.dpl_tree.proofs.Parity.{folded_parity}
use Rattle.dpl_tree.proofs.Folding.{folded, folded_pairs}
use Rattle.dpl_tree.proofs.Turning.{folded_falls}
use Rattle.dpl_tree.proofs.Stages.{stage_parity, laminar_sized}
use Rattle.dpl_tree.proofs.Alike.{loads_alike, totals_alike, shrunk_alike, pairs_alike, tree_alike}

-- what is said of an event that rebuilds the tree, with the bound of the ranks after it
pub record IsEvent (n : ℕ) (dist : ℕ → ℕ → ℕ) (after : ℕ → ℕ) (f : Sets) (x : Forest) (g : Sets) (y : Forest) : Type 0 where
  pub advances : Advances n dist f x g y
  pub ranks : (bound : ℕ) → AreRanked x bound → AreRanked y (after bound)
  pub sums : (m : ℕ) → m < n → totals n g m ≡ totals n f m
  pub widens : Widens n f x.place g y.place
  pub trees : KeepsTrees x y

-- ---- the root

-- the root has the least rank of all outer sets of its tree
pub root_lowest : (n : ℕ) (f : Sets) (load dist : ℕ → ℕ → ℕ) (x : Forest) → IsForest n f load dist x
    → (root : ℕ) → x.place root ≡ outer → IsExposed n f x.mate root
    → (bound i : ℕ) → x.rank i ≤ bound → x.place i ≡ outer → x.tree i ≡ x.tree root → i ≢ root → x.rank root < x.rank i
root_lowest n f load dist x tree root pr none zero i low e same ne = elim (exit_cases n f x.mate i) [
  | inr bare ↦ absurd (ne (tree.root_alone i root e pr bare none same))
  | inl w ↦ absurd (omega (arith, (tree.outer_mate i w.0 w.1 e w.2).1, low))
]
root_lowest n f load dist x tree root pr none (suc bound) i low e same ne = elim (exit_cases n f x.mate i) [
  | inr bare ↦ absurd (ne (tree.root_alone i root e pr bare none same))
  | inl w ↦
      let v = tree.outer_mate i w.0 w.1 e w.2 in
      let up = tree.link_rank (f.top w.1) v.0 in
      let o = tree.link_outer (f.top w.1) v.0 in
      elim (cases_eq (f.top (x.above (f.top w.1))) root) [
        | inl z ↦ omega (arith, v.1, up, ap x.rank z)
        | inr z ↦ omega (
          arith,
          v.1,
          up,
          root_lowest n f load dist x tree root pr none bound (f.top (x.above (f.top w.1)))
              (omega (arith, v.1, up, low)) o.0 (o.1 ∙ v.2 ∙ same) z,
        )
      ]
]

-- of two outer sets of one tree the one with no less rank has a pair
pub higher_pair : (n : ℕ) (f : Sets) (load dist : ℕ → ℕ → ℕ) (x : Forest) → IsForest n f load dist x
    → (a b : ℕ) → x.place a ≡ outer → x.place b ≡ outer → x.tree a ≡ x.tree b → a ≢ b → x.rank b ≤ x.rank a
    → (m : ℕ) × (t : ℕ) × IsExit n f x.mate a m t
higher_pair n f load dist x tree a b pa pb same ne low = elim (exit_cases n f x.mate a) [
  | inl w ↦ w
  | inr none ↦ absurd (omega (
    arith,
    root_lowest n f load dist x tree a pa none (x.rank b) b (omega arith) pb (sym same) (λ z. ne (sym z)),
    low,
  ))
]

-- a set of a tree is outer or has a pair
pub tree_ready : (n : ℕ) (f : Sets) (load dist : ℕ → ℕ → ℕ) (x : Forest) → IsForest n f load dist x → (k : ℕ) → x.place (f.top k) ≢ free → IsReady n f x k
tree_ready n f load dist x tree k ne = elim (place_cases (x.place (f.top k))) [
  | inl z ↦ absurd (ne z)
  | inr (inl z) ↦ inr z
  | inr (inr z) ↦ inl (tree.inner_pair (f.top k) z)
]

-- ---- growth

-- totals by the same values
moved : (n : ℕ) (f g : Sets) → ((i : ℕ) → g.value i ≡ f.value i) → (s : ℕ) → total_in (2 * n) f.value g.holds s ≡ totals n g s
moved n f g e s = sum_same (2 * n) _ _ (λ i h. ap (λ z. cond (g.holds i s) z 0) (sym (e i)))

pub folded_stage : (n : ℕ) (f g : Sets) (dist : ℕ → ℕ → ℕ) (x y : Forest) (cs : List ℕ) (js : List (ℕ × ℕ)) (set meet c : ℕ)
    → IsStage n f dist x → AreTops n f cs → IsShrunk f cs js set g → IsFamily g → IsCycle n f x cs meet
    → DropsInside n g x.mate y.mate → Folds x cs meet set y
    → ((i : ℕ) → i < length cs → loads n f (g.join (get_or cs i 0)).0 (g.join (get_or cs i 0)).1 ≡ dist (g.join (get_or cs i 0)).0 (g.join (get_or cs i 0)).1)
    → has cs c ≡ true → x.place c ≡ inner
    → IsStage n g dist y × (potential n g y.place < potential n f x.place)
folded_stage n f g dist x y cs js set meet c st at sh fam cy d o tight hc pc =
    let r = st.rest in
    let lam = r.laminar in
    let size : g.size ≡ n = sh.size ∙ r.size in
    let q : Gathers n f cs set g = subst (λ (z : ℕ). Gathers z f cs set g) r.size sh.sets in
    let al = shrunk_alike n f g cs js set r.size sh in
    let lo = λ (s t : ℕ) (hs : s < n) (ht : t < n). loads_alike n f g al s t hs ht in
    let to = λ (s : ℕ) (hs : s < n). totals_alike n f g al s hs in
    let glam = laminar_sized n g size fam in
    let pairs = folded_pairs n f g (loads n f) dist x y.mate cs set meet lam q r.pairs cy d in
    let tree = folded n f g (loads n f) dist x y cs set meet lam at q r.pairs st.tree cy d o in
    let par = folded_parity n f g f.value x y cs set meet lam q cy o (λ s hs. moved n f g (sh.value) s ∙ to s hs) (stage_parity n f dist x st) in
    let er : set ≡ n + (set - n) = omega (arith, q.at_least) in
    let hr : set - n < n = omega (arith, q.below, q.at_least) in
    let named = glam.sets.named (set - n) hr (ap g.live (sym er) ∙ q.live_set) in
    let in_set : has cs (f.top (set - n)) ≡ true = sym (q.holds_set (set - n) hr) ∙ ap (λ z. g.holds z (set - n)) er ∙ named.0 in (
      record {
        rest = record {
          size = size;
          family = fam;
          laminar = glam;
          within = λ s t hs ht ne. omega (arith, lo s t hs ht, r.within s t hs ht ne);
          pairs = pairs_alike n g (loads n f) (loads n g) dist y.mate lo pairs;
          joins = λ a p ha e. elim (cases_Bool (has cs a)) [
            | inl k ↦
                let w = place_in cs a k in
                let tie = fam.tied a p e in
                let h0 : (g.join a).0 < n = omega (arith, tie.from_range, size) in
                let h1 : (g.join a).1 < n = omega (arith, tie.to_range, size) in
                lo (g.join a).0 (g.join a).1 h0 h1 ∙ subst (λ (z : ℕ). loads n f (g.join z).0 (g.join z).1 ≡ dist (g.join z).0 (g.join z).1) w.2 (tight w.0 w.1)
            | inr k ↦
                let same = sh.join_others a k in
                let e' : f.parent a ≡ Some p = sym (q.parent_others a k) ∙ e in
                let tie = fam.tied a p e in
                let h0 : (g.join a).0 < n = omega (arith, tie.from_range, size) in
                let h1 : (g.join a).1 < n = omega (arith, tie.to_range, size) in
                lo (g.join a).0 (g.join a).1 h0 h1 ∙ subst (λ (z : ℕ × ℕ). loads n f z.0 z.1 ≡ dist z.0 z.1) (sym same) (r.joins a p ha e')
          ];
          parity = λ s t hs ht e. ap (λ z. z % 2) (sym (moved n f g sh.value s)) ∙ par.in_top s t hs ht e ∙ ap (λ z. z % 2) (moved n f g sh.value t);
        };
        tree = tree_alike n g (loads n f) (loads n g) dist y lo tree;
        even = λ s t hs ht ks kt. ap (λ z. z % 2) (sym (moved n f g sh.value s)) ∙ par.in_tree s t hs ht ks kt ∙ ap (λ z. z % 2) (moved n f g sh.value t);
      },
      folded_falls n f g (loads n f) dist x y cs set meet (set - n) c lam q st.tree o er in_set hc pc,
    )

-- members that were ready are ready
pub folded_ready : (n : ℕ) (f g : Sets) (dist : ℕ → ℕ → ℕ) (x y : Forest) (cs : List ℕ) (set meet k : ℕ)
    → IsStage n f dist x → IsForest n g (loads n g) dist y → Gathers n f cs set g → IsCycle n f x cs meet
    → DropsInside n g x.mate y.mate → Folds x cs meet set y → k < n → IsReady n f x k → IsReady n g y k
folded_ready n f g dist x y cs set meet k st tree q cy d o hk (inl w) =
    elim (cases_Bool (has cs (f.top k))) [
      | inl z ↦ tree_ready n g (loads n g) dist y tree k (outer_in (ap y.place (q.top_inside k hk z) ∙ o.place_set))
      | inr z ↦
          let p = st.rest.pairs in
          let gk : g.top k ≡ f.top k = q.top_others k hk z in
          let m : ℕ = w.0 in
          let t : ℕ = w.1 in
          let hm = w.2.below in
          let gm : g.top m ≡ f.top k = q.top_others m hm (ap (has cs) w.2.top ∙ z) ∙ w.2.top in
          let ht : t < n = p.range m t hm w.2.paired in
          let ne : g.top m ≢ g.top t = λ e. elim (cases_Bool (has cs (f.top t))) [
            | inl a ↦ true_false (f.live set) (ap f.live (sym (sym gm ∙ e ∙ q.top_inside t ht a)) ∙ st.rest.laminar.tops.top_live k hk) q.was_free
            | inr a ↦ p.leaves m t hm w.2.paired (w.2.top ∙ sym gm ∙ e ∙ q.top_others t ht a)
          ] in
          inl (m, t, record { below = hm; top = gm ∙ sym gk; paired = d.outside m t hm w.2.paired ne })
    ]
folded_ready n f g dist x y cs set meet k st tree q cy d o hk (inr w) =
    elim (cases_Bool (has cs (f.top k))) [
      | inl z ↦ inr (ap y.place (q.top_inside k hk z) ∙ o.place_set)
      | inr z ↦
          let old : f.top k ≢ set = λ e. true_false {P = ⊥} (f.live set) (ap f.live (sym e) ∙ st.rest.laminar.tops.top_live k hk) q.was_free in
          inr (ap y.place (q.top_others k hk z) ∙ o.place_others (f.top k) old z ∙ w)
    ]
