-- The events of trees are those of moats.
use Rattle.std.proofs.Common.{arith, ◌≡◌, ◌≢◌, ℕ, ◌+◌, ◌*◌, ◌%◌, ◌<◌, ◌≤◌, ◌⊎◌, refl, sym, ap, ◌∙◌}
use Rattle.std.proofs.Common.{Bool, true, false, cond, inl, inr, None, List}
use Rattle.std.proofs.lemmas.Bool.{cases_eq, true≢false}
use Rattle.dpl_laminar.specs.Loads.{sum_below}
use Rattle.dpl_laminar.specs.Families.{Sets, IsFamily, has}
use Rattle.dpl_laminar.specs.Changes.{IsShrunk, IsExpanded}
use Rattle.dpl_dual.specs.declared.crosses.Dual.{Dual}
use Rattle.dpl_pack.specs.Points.{total_at}
use Rattle.dpl_tree.specs.Mates.{totals}
use Rattle.dpl_tree.specs.Stages.{IsStage, Ends}
use Rattle.dpl_tree.specs.steps.Forests.{Place, free, outer, inner, gain, drop_of, Forest, IsCycle, Opens, Walks, KeepOthers}
use Rattle.dpl_tree.specs.steps.Forests as forests
use Rattle.dpl_flood.specs.Seas.{Sea, IsSea, Grows, Ceases, Folds, GivesWay}
use Rattle.dpl_flood.specs.Rates.{gains_in, losses_in, AreRated, AreRested}

cases_place : (p : Place) → (p ≡ free) ⊎ ((p ≢ free) × (gain p + drop_of p ≡ 1))
cases_place free = inl refl
cases_place outer = inr ((λ e. omega (arith, ap (λ z. gain z + drop_of z) e)), refl)
cases_place inner = inr ((λ e. omega (arith, ap (λ z. gain z + drop_of z) e)), refl)

place_most : (p : Place) → gain p + drop_of p ≤ 1
place_most free = omega arith
place_most outer = omega arith
place_most inner = omega arith

outer_not_free : (p : Place) → p ≡ outer → p ≢ free
outer_not_free p e q = omega (arith, ap gain (sym e ∙ q))

total_is : (n : ℕ) (f : Sets) → f.size ≡ n → (t : ℕ) → totals n f t ≡ total_at f t
total_is n f e t = ap (λ z. sum_below (2 * z) (λ k. cond (f.holds k t) (f.value k) 0)) (sym e)

-- a free top and its mate that go into a tree
pub forest_grows : (d : Dual) (terminals : List ℕ) (n : ℕ) (s : Sea) (dist : ℕ → ℕ → ℕ) (x y : Forest) (m t o : ℕ) (rests : ℕ → Bool)
    → IsSea d terminals s → s.sets.size ≡ n → AreRated x.place s → IsStage n s.sets dist y → forests.Grows s.sets x m t o y → m < n → t < n → o < n
    → x.place (s.sets.top m) ≡ outer → x.place (s.sets.top t) ≡ free → s.sets.top t ≢ s.sets.top o → s.rests (s.sets.top t) ≡ false
    → rests (s.sets.top o) ≡ false → ((k : ℕ) → k ≢ s.sets.top o → rests k ≡ s.rests k)
    → Grows s (s.sets.top t) (s.sets.top o) (gains_in y.place) (losses_in y.place) rests
forest_grows d terminals n s dist x y m t o rests sea size rated stage g hm ht ho is_outer is_free ne awake woken others =
    let f = s.sets in
    let tops = sea.family.laminar.tops in
    let low : (i : ℕ) → i < n → i < f.size = λ i h. omega (arith, h, size) in
    let top_of : (i : ℕ) → i < n → (f.top i < 2 * f.size) × ((f.live (f.top i) ≡ true) × (f.parent (f.top i) ≡ None)) =
    λ i h. (tops.top_range i (low i h), (tops.top_live i (low i h), tops.top_parent i (low i h))) in
    let meets : f.top m ≢ f.top t = λ e. outer_not_free (x.place (f.top m)) is_outer (ap x.place e ∙ is_free) in
    let there : y.place (f.top m) ≡ outer = elim (cases_eq (f.top m) (f.top o)) [
      | inl e ↦ ap y.place e ∙ g.place_outer
      | inr no_o ↦ g.place_others (f.top m) meets no_o ∙ is_outer
    ] in
    let pace_m : total_at f m % 2 ≡ s.time % 2 = sea.pace m (low m hm)
    (omega (arith, rated.gain_is (f.top m), rated.loss_is (f.top m), ap gain is_outer, ap drop_of is_outer)) in
    let pace : (i : ℕ) → i < f.size → y.place (f.top i) ≢ free → total_at f i % 2 ≡ s.time % 2 = λ i h nf.
    let e = stage.even m i hm (omega (arith, h, size)) (outer_not_free (y.place (f.top m)) there) nf in
    omega (arith, e, pace_m, total_is n f size m, total_is n f size i) in
    record {
      falls = (ap gain g.place_inner, ap drop_of g.place_inner);
      rises = (ap gain g.place_outer, ap drop_of g.place_outer);
      others = λ k ni nu.
          let e = g.place_others k ni nu in
          (ap gain e ∙ sym (rated.gain_is k), ap drop_of e ∙ sym (rated.loss_is k));
      free = (rated.gain_is (f.top t) ∙ ap gain is_free, rated.loss_is (f.top t) ∙ ap drop_of is_free);
      rest = others;
      awake = (awake, woken);
      tops = λ k c. elim c [
        | inl e ↦ (omega (arith, e, (top_of t ht).0), (ap f.live e ∙ (top_of t ht).1.0, ap f.parent e ∙ (top_of t ht).1.1))
        | inr e ↦ (omega (arith, e, (top_of o ho).0), (ap f.live e ∙ (top_of o ho).1.0, ap f.parent e ∙ (top_of o ho).1.1))
      ];
      pace = λ i h c. pace i h (elim c [
        | inl e ↦ λ q. omega (arith, ap drop_of (sym (ap y.place e ∙ g.place_inner) ∙ q))
        | inr e ↦ outer_not_free (y.place (f.top i)) (ap y.place e ∙ g.place_outer)
      ]);
    }

-- trees that end
pub forest_ceases : (n : ℕ) (dist : ℕ → ℕ → ℕ) (s : Sea) (one two : ℕ) (x y : Forest) (rests : ℕ → Bool) → AreRated x.place s
    → Ends n dist s.sets one two x y → AreRested x.place y.place s.rests rests → ((k : ℕ) → rests k ≡ true → k < 2 * s.sets.size)
    → Ceases s (gains_in y.place) (losses_in y.place) rests
forest_ceases n dist s one two x y rests rated ends rested range = record {
  each = λ k.
      let gone : y.place k ≡ free
      → ((gains_in y.place k ≡ s.gain k) × ((losses_in y.place k ≡ s.loss k) × (rests k ≡ s.rests k)))
      ⊎ ((gains_in y.place k ≡ 0) × ((losses_in y.place k ≡ 0) × (rests k ≡ true))) =
      λ e. elim (cases_place (x.place k)) [
        | inl was ↦ inl (stays k (e ∙ sym was))
        | inr stood ↦ inr (ap gain e, (ap drop_of e, rested.left k stood.0 e))
      ] in
      elim (cases_eq (x.tree k) one) [
        | inl e ↦ gone (ends.gone k (inl e))
        | inr n1 ↦ elim (cases_eq (x.tree k) two) [
          | inl e ↦ gone (ends.gone k (inr e))
          | inr n2 ↦ inl (stays k (ends.others k n1 n2))
        ]
      ];
  range = range;
}
  where
    stays : (k : ℕ) → y.place k ≡ x.place k
        → (gains_in y.place k ≡ s.gain k) × ((losses_in y.place k ≡ s.loss k) × (rests k ≡ s.rests k))
    stays k e = (ap gain e ∙ sym (rated.gain_is k), (ap drop_of e ∙ sym (rated.loss_is k), rested.others k e))

-- a ring of tops of a tree that becomes one
pub forest_folds : (n : ℕ) (s : Sea) (x y : Forest) (children : List ℕ) (joins : List (ℕ × ℕ)) (meet set : ℕ) (new : Sets) (rests : ℕ → Bool)
    → AreRated x.place s → IsShrunk s.sets children joins set new → IsFamily new → IsCycle n s.sets x children meet
    → forests.Folds x children meet set y → rests set ≡ false → ((c : ℕ) → has children c ≡ true → rests c ≡ false)
    → ((k : ℕ) → k ≢ set → has children k ≡ false → rests k ≡ s.rests k)
    → Folds s children joins set new (gains_in y.place) (losses_in y.place) rests
forest_folds n s x y children joins meet set new rests rated shrunk family cycle folds woken calm others = record {
  shrunk = shrunk;
  family = family;
  moved = λ c h. elim (cases_place (x.place c)) [
    | inl e ↦ absurd (cycle.in_tree c h e)
    | inr e ↦ omega (arith, rated.gain_is c, rated.loss_is c, e.1)
  ];
  rises = (ap gain folds.place_set, (ap drop_of folds.place_set, woken));
  still = λ c h. let e = folds.place_child c h in (ap gain e, (ap drop_of e, calm c h));
  others = λ k ne h.
      let e = folds.place_others k ne h in
      (ap gain e ∙ sym (rated.gain_is k), (ap drop_of e ∙ sym (rated.loss_is k), others k ne h));
}

-- an inner set that gives way to its children, one after another
pub opens_keeps : (x y : Forest) (children : List ℕ) (set first room : ℕ) → Opens x set first room y → has children first ≡ true
    → KeepOthers children set x.place y.place
opens_keeps x y children set first room o h k ne away = o.place_others k ne (λ e. true≢false (sym h ∙ ap (has children) (sym e) ∙ away))

-- a step of the walk around an opened set moves its children alone
pub walks_keeps : (x y z : Forest) (children : List ℕ) (set cur o next : ℕ) (join : ℕ × ℕ) → KeepOthers children set x.place y.place
    → Walks y cur o next join z → has children o ≡ true → has children next ≡ true → KeepOthers children set x.place z.place
walks_keeps x y z children set cur o next join kept w ho hn k ne away =
    w.place_others k (λ e. true≢false (sym ho ∙ ap (has children) (sym e) ∙ away)) (λ e. true≢false (sym hn ∙ ap (has children) (sym e) ∙ away)) ∙
    kept k ne away

-- where an inner set gives way the rates are those of its children
pub forest_gives : (s : Sea) (x y : Forest) (set : ℕ) (new : Sets) (rests : ℕ → Bool) → AreRated x.place s → IsExpanded s.sets set new
    → IsFamily new → s.sets.size ≤ set → set < 2 * s.sets.size → s.sets.value set ≡ 0 → x.place set ≡ inner → y.place set ≡ free
    → KeepOthers (s.sets.children set) set x.place y.place → rests set ≡ false
    → ((c : ℕ) → has (s.sets.children set) c ≡ true → rests c ≡ false)
    → ((k : ℕ) → k ≢ set → has (s.sets.children set) k ≡ false → rests k ≡ s.rests k)
    → GivesWay s set new (gains_in y.place) (losses_in y.place) rests
forest_gives s x y set new rests rated expanded family above below empty was_inner is_free kept calm awake others = record {
  expanded = expanded;
  family = family;
  above = above;
  below = below;
  empty = empty;
  fell = rated.loss_is set ∙ ap drop_of was_inner;
  still = (ap gain is_free, (ap drop_of is_free, calm));
  once = λ c _. place_most (y.place c);
  awake = awake;
  others = λ k ne away.
      let e = kept k ne away in
      (ap gain e ∙ sym (rated.gain_is k), (ap drop_of e ∙ sym (rated.loss_is k), others k ne away));
}
