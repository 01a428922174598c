-- Pairs along the joins of a ring.
use Rattle.std.proofs.Common.{arith, ◌≡◌, ◌≢◌, ℕ, zero, suc, ◌+◌, ◌*◌, ◌%◌, ◌<◌, ◌≤◌, refl, sym, ap, ◌∙◌, subst, cond}
use Rattle.std.proofs.Common.{inl, inr, Option, Some, List, length, get_or, set, length-set}
use Rattle.std.proofs.lemmas.Bool.{cases_eq, cases_lt, lt-ltb, le-ltb}
use Rattle.dpl_laminar.specs.Families.{Sets}
use Rattle.dpl_tree.specs.Mates.{IsExit, ArePairs, Joins}
use Rattle.dpl_tree.specs.Views.{mate_in}
use Rattle.dpl_tree.specs.steps.Opened.{pair_up, join_at, paired_times}
use Rattle.dpl_tree.proofs.Climbing.{joined_pairs}
use Rattle.dpl_tree.proofs.Ways.{joins_list}

-- tops in a row with tight joins from each to the next one
pub record IsRow (n : ℕ) (g : Sets) (load dist : ℕ → ℕ → ℕ) (sets : List ℕ) (joins : List (ℕ × ℕ)) : Type 0 where
  pub from : (i : ℕ) → i < length sets → ((get_or joins i (0, 0)).0 < n) × (g.top (get_or joins i (0, 0)).0 ≡ get_or sets i 0)
  pub to : (i : ℕ) → i + 1 < length sets → ((get_or joins i (0, 0)).1 < n) × (g.top (get_or joins i (0, 0)).1 ≡ get_or sets (i + 1) 0)
  pub tight : (i : ℕ) → i + 1 < length sets → load (get_or joins i (0, 0)).0 (get_or joins i (0, 0)).1 ≡ dist
      (get_or joins i (0, 0)).0 (get_or joins i (0, 0)).1
  pub distinct : (i j : ℕ) → i < j → j < length sets → get_or sets i 0 ≢ get_or sets j 0

-- the sets before e have their pairs, but for the one at p, which keeps what it had
pub record ArePaired (n : ℕ) (g : Sets) (load dist : ℕ → ℕ → ℕ) (sets : List ℕ) (joins : List (ℕ × ℕ)) (p e : ℕ) (old mate : ℕ → Option ℕ) : Type 0 where
  pub pairs : ArePairs n g load dist mate
  pub unpaired : (i : ℕ) → e ≤ i → i < length sets → i ≢ p → (m u : ℕ) → IsExit n g mate (get_or sets i 0) m u → ⊥
  pub paired : (i : ℕ) → i < e → i < length sets → i ≢ p → (m : ℕ) × (u : ℕ) × IsExit n g mate (get_or sets i 0) m u
  pub along : (i : ℕ) → i % 2 ≡ 0 → i < p → i < e → i + 1 < length sets → mate (get_or joins i (0, 0)).0 ≡ Some (get_or joins i (0, 0)).1
  pub kept : (m : ℕ) → m < n → ((i : ℕ) → i < length sets → i ≢ p → g.top m ≢ get_or sets i 0) → mate m ≡ old m

unique : (n : ℕ) (g : Sets) (load dist : ℕ → ℕ → ℕ) (sets : List ℕ) (joins : List (ℕ × ℕ))
    → IsRow n g load dist sets joins → (i j : ℕ) → i < length sets → j < length sets
    → get_or sets i 0 ≡ get_or sets j 0 → i ≡ j
unique n g load dist sets joins r i j hi hj e = elim (cases_lt i j) [
  | inl lt ↦ absurd (r.distinct i j lt hj e)
  | inr le ↦ elim (cases_eq i j) [
    | inl z ↦ z
    | inr z ↦ absurd (r.distinct j i (omega (arith, le, z)) hi (sym e))
  ]
]

-- the place that is left out
pub paired_past : (n : ℕ) (g : Sets) (load dist : ℕ → ℕ → ℕ) (sets : List ℕ) (joins : List (ℕ × ℕ)) (p : ℕ) (old mate : ℕ → Option ℕ)
    → p % 2 ≡ 0 → ArePaired n g load dist sets joins p p old mate
    → ArePaired n g load dist sets joins p (p + 1) old mate
paired_past n g load dist sets joins p old mate even a = record {
  pairs = a.pairs;
  unpaired = λ i le h ne. a.unpaired i (omega (arith, le)) h ne;
  paired = λ i lt h ne. a.paired i (omega (arith, lt, ne)) h ne;
  along = λ i z lt lt' h. a.along i z lt lt h;
  kept = a.kept;
}

-- two sets more are paired by the join between them
pub paired_more : (n : ℕ) (g : Sets) (load dist : ℕ → ℕ → ℕ) (sets : List ℕ) (joins : List (ℕ × ℕ)) (p e : ℕ) (old mate new : ℕ → Option ℕ)
    → ((s t : ℕ) → load s t ≡ load t s) → ((s t : ℕ) → s < n → t < n → dist s t ≡ dist t s)
    → IsRow n g load dist sets joins → e + 1 < length sets → e ≢ p → e + 1 ≢ p → (e < p → e % 2 ≡ 0)
    → (p < e → e % 2 ≡ 1) → p % 2 ≡ 0 → Joins mate (get_or joins e (0, 0)).0 (get_or joins e (0, 0)).1 new
    → ArePaired n g load dist sets joins p e old mate → ArePaired n g load dist sets joins p (e + 2) old new
paired_more n g load dist sets joins p e old mate new ls ds r h ep ep' low high even j a =
    let s : ℕ = (get_or joins e (0, 0)).0 in
    let t : ℕ = (get_or joins e (0, 0)).1 in
    let f1 = r.from e (omega (arith, h)) in
    let f2 = r.to e h in
    let apart : g.top s ≢ g.top t = λ z. r.distinct e (e + 1) (omega arith) h (sym f1.1 ∙ z ∙ f2.1) in
    let tight : load s t ≡ dist s t = r.tight e h in
    let sfree = λ (m u : ℕ) (w : IsExit n g mate (g.top s) m u). a.unpaired e (omega arith) (omega (arith, h)) ep m u
    (record { below = w.below; top = w.top ∙ f1.1; paired = w.paired }) in
    let tfree = λ (m u : ℕ) (w : IsExit n g mate (g.top t) m u). a.unpaired (e + 1) (omega arith) h ep' m u
    (record { below = w.below; top = w.top ∙ f2.1; paired = w.paired }) in
    -- a member of another set keeps what it has
    let same = λ (m i : ℕ) (k : g.top m ≡ get_or sets i 0) (hi : i < length sets) (n1 : i ≢ e) (n2 : i ≢ e + 1). (
    let d1 : m ≢ s = λ z. n1 (unique n g load dist sets joins r i e hi (omega (arith, h)) (sym k ∙ ap g.top z ∙ f1.1)) in
    let d2 : m ≢ t = λ z. n2 (unique n g load dist sets joins r i (e + 1) hi h (sym k ∙ ap g.top z ∙ f2.1)) in
    let q : new m ≡ mate m = j.others m d1 d2 in q) in
    record {
      pairs = joined_pairs n g load dist mate new s t a.pairs f1.0 f2.0 apart tight (ls t s ∙ tight ∙ ds s t f1.0 f2.0) sfree tfree j;
      unpaired = λ i le hi ne m u w. a.unpaired i (omega (arith, le)) hi ne m u
          (record {
            below = w.below;
            top = w.top;
            paired =
                sym (same m i w.top hi (λ z. omega (arith, le, z)) (λ z. omega (arith, le, z))) ∙ w.paired;
          });
      paired = λ i lt hi ne. elim (cases_eq i e) [
        | inl z ↦ (s, t, record { below = f1.0; top = f1.1 ∙ ap (λ y. get_or sets y 0) (sym z); paired = j.first })
        | inr z ↦ elim (cases_eq i (e + 1)) [
          | inl y ↦ (t, s, record { below = f2.0; top = f2.1 ∙ ap (λ y'. get_or sets y' 0) (sym y); paired = j.second })
          | inr y ↦
              let w = a.paired i (omega (arith, lt, z, y)) hi ne in
              (w.0, w.1, record { below = w.2.below; top = w.2.top; paired = same w.0 i w.2.top hi z y ∙ w.2.paired })
        ]
      ];
      along = λ i z lp lt hi. elim (cases_eq i e) [
        | inl y ↦ ap (λ k. new (get_or joins k (0, 0)).0) y ∙ j.first ∙ ap (λ k. Some (get_or joins k (0, 0)).1) (sym y)
        | inr y ↦
            let ne : i ≢ e + 1 = λ k. elim (cases_lt e p) [
              | inl l ↦ omega (arith, low l, k, z)
              | inr l ↦ omega (arith, l, k, lp)
            ] in
            same (get_or joins i (0, 0)).0 i (r.from i (omega (arith, hi))).1 (omega (arith, hi)) y ne ∙ a.along i z lp (omega (arith, lt, y, ne)) hi
      ];
      kept = λ m hm out. j.others m (λ z. out e (omega (arith, h)) ep (ap g.top z ∙ f1.1)) (λ z. out (e + 1) h ep' (ap g.top z ∙ f2.1)) ∙ a.kept m hm out;
    }

-- ---- all pairs

pub record ArePairedBy (n : ℕ) (g : Sets) (load dist : ℕ → ℕ → ℕ) (sets : List ℕ) (joins : List (ℕ × ℕ)) (p r : ℕ) (old mate : ℕ → Option ℕ) : Type 0 where
  pub before : 2 * r ≤ p → ArePaired n g load dist sets joins p (2 * r) old mate
  pub behind : p ≤ 2 * r → ArePaired n g load dist sets joins p (2 * r + 1) old mate

at_limit : (n : ℕ) (g : Sets) (load dist : ℕ → ℕ → ℕ) (sets : List ℕ) (joins : List (ℕ × ℕ)) (p e : ℕ) (old mate : ℕ → Option ℕ)
    → p % 2 ≡ 0 → p ≡ e → ArePaired n g load dist sets joins p e old mate
    → ArePaired n g load dist sets joins p (e + 1) old mate
at_limit n g load dist sets joins p e old mate even z a =
    subst (λ (k : ℕ). ArePaired n g load dist sets joins p (k + 1) old mate) z
    (paired_past n g load dist sets joins p old mate even
    (subst (λ (k : ℕ). ArePaired n g load dist sets joins p k old mate) (sym z) a))

paired_length : (mates : List (Option ℕ)) (joins : List (ℕ × ℕ)) (p r : ℕ) → length (paired_times mates joins p r) ≡ length mates
paired_length mates joins p zero = refl
paired_length mates joins p (suc r) = length-set (set (paired_times mates joins p r) _ _) _ _ ∙
    length-set (paired_times mates joins p r) _ _ ∙ paired_length mates joins p r

pub ring_paired : (n : ℕ) (g : Sets) (load dist : ℕ → ℕ → ℕ) (sets : List ℕ) (joins : List (ℕ × ℕ)) (p : ℕ) (mates : List (Option ℕ))
    → length mates ≡ n → ((s t : ℕ) → load s t ≡ load t s) → ((s t : ℕ) → s < n → t < n → dist s t ≡ dist t s)
    → IsRow n g load dist sets joins → length sets % 2 ≡ 1 → p % 2 ≡ 0 → p < length sets
    → ArePaired n g load dist sets joins p 0 (mate_in mates) (mate_in mates) → (r : ℕ) → 2 * r < length sets
    → ArePairedBy n g load dist sets joins p r (mate_in mates) (mate_in (paired_times mates joins p r))
ring_paired n g load dist sets joins p mates len ls ds row odd even hp a zero h = record {
  before = λ le. a;
  behind = λ le. at_limit n g load dist sets joins p 0 _ _ even (omega (arith, le)) a;
}
ring_paired n g load dist sets joins p mates len ls ds row odd even hp a (suc r) h =
    let was = ring_paired n g load dist sets joins p mates len ls ds row odd even hp a r (omega (arith, h)) in
    let list : List (Option ℕ) = paired_times mates joins p r in
    let size : length list ≡ n = paired_length mates joins p r ∙ len in
    let step = λ (e : ℕ) (he : e + 1 < length sets) (ep : e ≢ p) (ep' : e + 1 ≢ p) (lo : e < p → e % 2 ≡ 0)
    (hi : p < e → e % 2 ≡ 1) (b : ArePaired n g load dist sets joins p e (mate_in mates) (mate_in list)). (
    let f1 = row.from e (omega (arith, he)) in
    let f2 = row.to e he in
    let ne : (get_or joins e (0, 0)).0 ≢ (get_or joins e (0, 0)).1 = λ z. row.distinct e (e + 1) (omega arith) he (sym f1.1 ∙ ap g.top z ∙ f2.1) in
    let k : ArePaired n g load dist sets joins p (e + 2) (mate_in mates) (mate_in (pair_up list (get_or joins e (0, 0)))) =
    paired_more n g load dist sets joins p e (mate_in mates) (mate_in list) _ ls ds row he ep ep' lo hi even
    (joins_list list (get_or joins e (0, 0)).0 (get_or joins e (0, 0)).1 (omega (arith, f1.0, size))
    (omega (arith, f2.0, size)) ne) b in k) in
    elim (cases_lt (2 * r) p) [
      | inl lt ↦
          let at : join_at p r ≡ 2 * r = ap (λ z. cond z (2 * r) (2 * r + 1)) (lt-ltb (2 * r) p lt) in
          let k = step (2 * r) (omega (arith, h)) (λ z. omega (arith, z, lt)) (λ z. omega (arith, z, even))
          (λ _. omega arith) (λ z. absurd (omega (arith, z, lt))) (was.before (omega (arith, lt))) in
          let k' : ArePaired n g load dist sets joins p (2 * suc r) (mate_in mates) (mate_in (paired_times mates joins p (suc r))) =
          subst (λ (z : ℕ). ArePaired n g load dist sets joins p z (mate_in mates)
          (mate_in (paired_times mates joins p (suc r)))) (let z : 2 * r + 2 ≡ 2 * suc r = omega arith in z)
          (subst (λ (z : ℕ). ArePaired n g load dist sets joins p (2 * r + 2) (mate_in mates) (mate_in (pair_up list (get_or joins z (0, 0))))) (sym at) k) in
          record {
            before = λ le. k';
            behind = λ le. at_limit n g load dist sets joins p (2 * suc r) _ _ even (omega (arith, le, lt, even)) k';
          }
      | inr le ↦
          let at : join_at p r ≡ 2 * r + 1 = ap (λ z. cond z (2 * r) (2 * r + 1)) (le-ltb (2 * r) p le) in
          let k = step (2 * r + 1) (omega (arith, h, odd)) (λ z. omega (arith, z, le)) (λ z. omega (arith, z, le))
          (λ z. absurd (omega (arith, z, le))) (λ _. omega arith) (was.behind le) in
          record {
            before = λ z. absurd (omega (arith, z, le));
            behind = λ z. subst (λ (y : ℕ). ArePaired n g load dist sets joins p y (mate_in mates)
                (mate_in (paired_times mates joins p (suc r))))
                (let y : 2 * r + 1 + 2 ≡ 2 * suc r + 1 = omega arith in y)
                (subst (λ (y : ℕ). ArePaired n g load dist sets joins p (2 * r + 1 + 2) (mate_in mates)
                (mate_in (pair_up list (get_or joins y (0, 0))))) (sym at) k);
          }
    ]
