-- An inner set of value 0 has given way to its children.
use Rattle.std.proofs.Common.{arith, ◌≡◌, ◌≢◌, ℕ, ◌+◌, ◌-◌, ◌*◌, ◌%◌, ◌<◌, ◌≤◌, sym, ap, ◌∙◌, subst, true, false, inl, inr, Option, Some}
use Rattle.std.proofs.lemmas.Bool.{cases_eq, cases_Bool}
use Rattle.dpl_laminar.specs.Families.{Sets, IsFamily, IsLaminar, has}
use Rattle.dpl_laminar.specs.Changes.{Releases, IsExpanded}
use Rattle.dpl_laminar.proofs.Numbers.{some_none}
use Rattle.dpl_tree.specs.steps.Forests.{free, inner, Forest, IsForest}
use Rattle.dpl_tree.specs.Mates.{IsExit, ArePairs, loads, totals}
use Rattle.dpl_tree.specs.Stages.{IsRest, IsStage, IsReady, potential}
use Rattle.dpl_tree.proofs.Growing.{inner_in}
use Rattle.dpl_tree.proofs.Refining.{tops_refine}
use Rattle.dpl_tree.proofs.Turning.{opened_falls}
use Rattle.dpl_tree.proofs.Stages.{laminar_sized}
use Rattle.dpl_tree.proofs.Alike.{loads_alike, totals_alike, expanded_alike, pairs_alike, tree_alike}

-- what happened to the places and pairs of the other sets
pub record IsOpened (n : ℕ) (f g : Sets) (set : ℕ) (x y : Forest) : Type 0 where
  pub above : n ≤ set
  pub was_inner : x.place set ≡ inner
  pub was_empty : f.value set ≡ 0
  pub expanded : IsExpanded f set g
  pub place_set : y.place set ≡ free
  pub place_others : (i : ℕ) → has (f.children set) i ≡ false → i ≢ set → y.place i ≡ x.place i
  pub mates : (m : ℕ) → m < n → f.top m ≢ set → y.mate m ≡ x.mate m
  pub paired : (c : ℕ) → has (f.children set) c ≡ true → (m : ℕ) × (t : ℕ) × IsExit n g y.mate c m t

pub released_of : (n : ℕ) (f g : Sets) (set : ℕ) → f.size ≡ n → IsExpanded f set g → Releases n f set g
released_of n f g set e x = subst (λ (z : ℕ). Releases z f set g) e x.sets

-- a top other than the set is no child of it
no_child : (n : ℕ) (f : Sets) → IsLaminar n f → (set m : ℕ) → set < 2 * n → m < n → has (f.children set) (f.top m) ≡ false
no_child n f lam set m hs hm = elim (cases_Bool (has (f.children set) (f.top m))) [
  | inl k ↦ some_none (f.parent (f.top m)) set (lam.children.child set (f.top m) hs k).2 (lam.tops.top_parent m hm)
  | inr k ↦ k
]

pub unfolded_stage : (n : ℕ) (f g : Sets) (dist : ℕ → ℕ → ℕ) (x y : Forest) (set : ℕ) → IsStage n f dist x
    → IsFamily g → IsOpened n f g set x y → ArePairs n g (loads n f) dist y.mate
    → IsForest n g (loads n f) dist y
    → IsStage n g dist y × (potential n g y.place < potential n f x.place) × ((k : ℕ) → k < n → IsReady n f x k → IsReady n g y k)
unfolded_stage n f g dist x y set st fam o pairs tree =
    let r = st.rest in
    let lam = r.laminar in
    let q = released_of n f g set r.size o.expanded in
    let size : g.size ≡ n = o.expanded.size ∙ r.size in
    let at = st.tree.tops set (inner_in o.was_inner) in
    let al = expanded_alike n f g set r.size o.was_empty o.expanded in
    let lo = λ (s t : ℕ) (hs : s < n) (ht : t < n). loads_alike n f g al s t hs ht in
    let to = λ (s : ℕ) (hs : s < n). totals_alike n f g al s hs in
    let par = λ (s t : ℕ) (hs : s < n) (ht : t < n) (e : totals n f s % 2 ≡ totals n f t % 2). ap (λ z. z % 2)
    (to s hs) ∙ e ∙ sym (ap (λ z. z % 2) (to t ht)) in
    let same = λ (m : ℕ) (hm : m < n) (ne : f.top m ≢ set). ap y.place (q.top_others m hm ne) ∙ o.place_others (f.top m) (no_child n f lam set m at.0 hm) ne in
    let was = λ (m : ℕ) (hm : m < n) (k : y.place (g.top m) ≢ free). (elim (cases_eq (f.top m) set) as (λ _. x.place (f.top m) ≢ free) [
      | inl e ↦ λ z. inner_in o.was_inner (ap x.place (sym e) ∙ z)
      | inr ne ↦ λ z. k (same m hm ne ∙ z)
    ]) in
    let er : set ≡ n + (set - n) = omega (arith, o.above) in
    let hr : set - n < n = omega (arith, at.0, o.above) in
    let named = lam.sets.named (set - n) hr (ap f.live (sym er) ∙ at.1) in
    let tr : f.top (set - n) ≡ set = lam.tops.top_alone set (set - n) at.0 hr at.2 (ap (λ z. f.holds z (set - n)) er ∙ named.0) in (
      record {
        rest = record {
          size = size;
          family = fam;
          laminar = laminar_sized n g size fam;
          within = λ s t hs ht ne. omega (arith, lo s t hs ht, r.within s t hs ht ne);
          pairs = pairs_alike n g (loads n f) (loads n g) dist y.mate lo pairs;
          joins = λ a p ha e.
              let nk : has (f.children set) a ≡ false = elim (cases_Bool (has (f.children set) a)) [
                | inl k ↦ some_none (g.parent a) p e (q.parent_child a k)
                | inr k ↦ k
              ] in
              let e' : f.parent a ≡ Some p = sym (q.parent_others a nk) ∙ e in
              let tie = fam.tied a p e in
              let h0 : (g.join a).0 < n = omega (arith, tie.from_range, size) in
              let h1 : (g.join a).1 < n = omega (arith, tie.to_range, size) in
              lo (g.join a).0 (g.join a).1 h0 h1 ∙ subst (λ (z : ℕ × ℕ). loads n f z.0 z.1 ≡ dist z.0 z.1) (sym (o.expanded.join a)) (r.joins a p ha e');
          parity = λ s t hs ht e. par s t hs ht (r.parity s t hs ht (tops_refine n f g set lam q o.above at.0 s t hs ht e));
        };
        tree = tree_alike n g (loads n f) (loads n g) dist y lo tree;
        even = λ s t hs ht ks kt. par s t hs ht (st.even s t hs ht (was s hs ks) (was t ht kt));
      },
      opened_falls n f g x y set (set - n) lam q o.was_inner at.1 er hr tr same,
      λ k hk w. (elim (cases_eq (f.top k) set) as (λ _. IsReady n g y k) [
        | inl e ↦
            let c = lam.children.covered set k o.above at.0 hk (ap (λ z. f.holds z k) (sym e) ∙ lam.tops.top_holds k hk) in
            let p = o.paired c.0 c.1 in
            inl (p.0, p.1, record { below = p.2.below; top = p.2.top ∙ sym (q.top_inside c.0 k hk c.1 c.2); paired = p.2.paired })
        | inr ne ↦
            let gk = q.top_others k hk ne in
            elim w [
              | inr z ↦ inr (ap y.place gk ∙ o.place_others (f.top k) (no_child n f lam set k at.0 hk) ne ∙ z)
              | inl v ↦
                  let hm = v.2.below in
                  let nm : f.top v.0 ≢ set = λ z. ne (sym v.2.top ∙ z) in
                  inl (v.0, v.1, record { below = hm; top = q.top_others v.0 hm nm ∙ v.2.top ∙ sym gk; paired = o.mates v.0 hm nm ∙ v.2.paired })
            ]
      ]),
    )

-- ---- the end of a stage

pub augmented_rest : (n : ℕ) (f : Sets) (dist : ℕ → ℕ → ℕ) (mate new : ℕ → Option ℕ) → IsRest n f dist mate
    → ArePairs n f (loads n f) dist new → IsRest n f dist new
augmented_rest n f dist mate new r p = record {
  size = r.size;
  family = r.family;
  laminar = r.laminar;
  within =
      r.within;
  pairs = p;
  joins = r.joins;
  parity = r.parity;
}
