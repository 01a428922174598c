-- What a walk keeps true, while groups are merged, edges looked at and nodes left.
use Rattle.std.proofs.Common.{◌≡◌, ◌≢◌, inl, inr, ℕ, ◌+◌, ◌-◌, ◌<◌, ◌≤◌, length, sym, ◌∙◌, ap, subst, arith, get_or}
use Rattle.std.proofs.lemmas.Bool.{cases_eq}
use Rattle.std.proofs.Math.Nat.{eq-or-lt_of_le}
use Rattle.dpl_groups.specs.Graph.{Graph, next_of, IsEdge, Reaches}
use Rattle.dpl_groups.specs.declared.walk.Mark.TheVariants.{Open}
use Rattle.dpl_groups.specs.Walk.{View, NoStart, IsDone, IsSettled, IsOnStack, IsWalk, IsMerge, merged, looked, popped}
use Rattle.dpl_groups.proofs.Reach.{reaches_trans, reaches_edge, cases_le, set_same, set_other, below_is}
use Rattle.dpl_groups.proofs.Walks.{open_inj, open_new, top, to_top}

module _ (g : Graph) (v : View) (I : IsWalk g v) where
  module _ (j m : ℕ) (here : j < v.depth) (busy : 0 < v.height) (edge : IsEdge g (v.path (top g v I)) (v.path j)) (M : IsMerge v j m) where
    abbrev w : View
    w = merged v m

    start_old : (t : ℕ) → t < m → w.start t ≡ v.start t
    start_old t h = below_is v.start m t h

    some : 0 < m
    some = elim (cases_le m 0) [
      | inl le ↦ let l : v.start 0 ≡ 0 = I.lowest (I.first j here) in let b : j < v.start 0 = M.merged 0 (omega arith) (I.first j here) in absurd (omega arith)
      | inr lt ↦ lt
    ]

    -- a group that begins at place j or before is still there
    low_start : (i k : ℕ) → NoStart w i k → (l : ℕ) → l ≤ j → l ≤ k → NoStart v i l
    low_start i k ns l lj lk t ht lo hi = elim (cases_le m t) [
      | inl le ↦ let b : j < v.start t = M.merged t le ht in omega arith
      | inr lt ↦ let s : w.start t ≡ v.start t = start_old t lt in ns t lt (omega arith) (omega arith)
    ]

    pub merged_none : (i : ℕ) → NoStart w j i
    merged_none i t ht lo hi = let s : w.start t ≡ v.start t = start_old t ht in let k : v.start t ≤ j = M.kept t ht in omega arith

    settle : (i z : ℕ) → IsSettled v i z → IsSettled w i z
    settle i z (inl d) = inl (record { label = d.label; done = d.done; low = d.low })
    settle i z (inr o) = inr (record {
      at = o.at;
      here = o.here;
      later = λ t ht lo up.
          let s : w.start t ≡ v.start t = start_old t ht in let f : m ≤ v.tops = M.fewer in o.later t (omega arith) (omega arith) (omega arith);
    })

    pub merged_kept : IsWalk g w
    merged_kept = record {
      size = I.size;
      lefts = I.lefts;
      few = I.few;
      fresh = I.fresh;
      node = I.node;
      here = I.here;
      onpath = I.onpath;
      itself = I.itself;
      upward = I.upward;
      back = λ i k le h ns. elim (cases_le j k) [
        | inl jk ↦
            let round : Reaches g (v.path k) (v.path j) =
            reaches_trans g (v.path k) (v.path (top g v I)) (v.path j) (to_top g v I busy k h)
            (reaches_edge g (v.path (top g v I)) (v.path j) edge) in
            reaches_trans g (v.path k) (v.path j) (v.path i) round (elim (cases_le j i) [
              | inl ji ↦ I.upward j i ji (omega arith)
              | inr ij ↦ I.back i j (omega arith) here (low_start i k ns j (omega arith) jk)
            ])
        | inr kj ↦ I.back i k le h (low_start i k ns k (omega arith) (omega arith))
      ];
      first = λ i h. some;
      lowest = λ h. start_old 0 h ∙ I.lowest (I.first j here);
      rising = λ t u l h. let f : m ≤ v.tops = M.fewer in
          let st : w.start t ≡ v.start t = start_old t (omega arith) in let su : w.start u ≡ v.start u = start_old u h in
          let r : v.start t < v.start u = I.rising t u l (omega arith) in omega arith;
      begun = λ t h. let f : m ≤ v.tops = M.fewer in let b : IsOnStack v (v.start t) = I.begun t (omega arith) in
          record { t = b.t; within = b.within; there = b.there ∙ sym (start_old t h) };
      climbing = I.climbing;
      placed = I.placed;
      busy = λ i h. elim (I.busy i h) [ inl s ↦ inl (record { t = s.t; within = s.within; there = s.there }) | inr z ↦ inr z ];
      settled = λ x i k e lt. settle i (get_or (next_of g x) k 0) (I.settled x i k e lt);
      downward = λ x l k e lt. let d : IsDone v (get_or (next_of g x) k 0) l = I.downward x l k e lt in record { label = d.label; done = d.done; low = d.low };
      joined = I.joined;
      numbered = I.numbered;
      headed = I.headed;
      own = I.own;
    }

  module _ (x a : ℕ) (open_at : v.mark x ≡ Open a) (more : 0 < v.left x) (seen : IsSettled v a (get_or (next_of g x) (length (next_of g x) - v.left x) 0)) where
    abbrev l : View
    l = looked v x

    left_new : (z : ℕ) → z ≡ x → l.left z ≡ v.left x - 1
    left_new z e = set_same v.left x z (v.left x - 1) e

    left_old : (z : ℕ) → z ≢ x → l.left z ≡ v.left z
    left_old z e = set_other v.left x z (v.left x - 1) e

    settle_looked : (i z : ℕ) → IsSettled v i z → IsSettled l i z
    settle_looked i z (inl d) = inl (record { label = d.label; done = d.done; low = d.low })
    settle_looked i z (inr o) = inr (record { at = o.at; here = o.here; later = o.later })

    pub looked_kept : IsWalk g l
    looked_kept = record {
      size = I.size;
      lefts = I.lefts;
      few = λ z. elim (cases_eq z x) [
        | inl e ↦ let n : l.left z ≡ v.left x - 1 = left_new z e in let f : v.left z ≤ length (next_of g z) = I.few z in
            let s : v.left z ≡ v.left x = ap v.left e in omega arith
        | inr e ↦ subst (λ (n : ℕ). n ≤ length (next_of g z)) (sym (left_old z e)) (I.few z)
      ];
      fresh = λ z n. elim (cases_eq z x) [
        | inl e ↦ absurd (open_new a (sym open_at ∙ (ap v.mark (sym e) ∙ n)))
        | inr e ↦ left_old z e ∙ I.fresh z n
      ];
      node = I.node;
      here = I.here;
      onpath = I.onpath;
      itself = I.itself;
      upward = I.upward;
      back = I.back;
      first = I.first;
      lowest = I.lowest;
      rising = I.rising;
      begun = λ t h. let b : IsOnStack v (v.start t) = I.begun t h in record { t = b.t; within = b.within; there = b.there };
      climbing = I.climbing;
      placed = I.placed;
      busy = λ i h. elim (I.busy i h) [
        | inl s ↦ inl (record { t = s.t; within = s.within; there = s.there })
        | inr z ↦ inr (left_old (v.path i) (λ e. let s : v.left (v.path i) ≡ v.left x = ap v.left e in absurd (omega arith)) ∙ z)
      ];
      settled = λ z i k e lt. elim (cases_eq z x) [
        | inl s ↦
            let n : l.left z ≡ v.left x - 1 = left_new z s in
            let same : i ≡ a = open_inj i a (sym e ∙ (ap v.mark s ∙ open_at)) in
            let len : length (next_of g z) ≡ length (next_of g x) = ap (λ (q : ℕ). length (next_of g q)) s in
            let f : v.left x ≤ length (next_of g x) = I.few x in
            let le : k ≤ length (next_of g x) - v.left x = omega arith in
            settle_looked i (get_or (next_of g z) k 0) (elim (eq-or-lt_of_le le) [
              | inl q ↦ subst (λ (u : ℕ). IsSettled v u (get_or (next_of g z) k 0)) (sym same)
                  (subst (λ (u : ℕ). IsSettled v a (get_or (next_of g u) k 0)) (sym s)
                  (subst (λ (u : ℕ). IsSettled v a (get_or (next_of g x) u 0)) (sym q) seen))
              | inr q ↦ let old : v.left z ≡ v.left x = ap v.left s in I.settled z i k e (omega arith)
            ])
        | inr s ↦ settle_looked i (get_or (next_of g z) k 0) (I.settled z i k e (subst (λ (n : ℕ). k + n < length (next_of g z)) (left_old z s) lt))
      ];
      downward = λ z n k e lt. let d : IsDone v (get_or (next_of g z) k 0) n = I.downward z n k e lt in record { label = d.label; done = d.done; low = d.low };
      joined = I.joined;
      numbered = I.numbered;
      headed = I.headed;
      own = I.own;
    }

  module _ (busy : 0 < v.height) (none : v.left (v.path (top g v I)) ≡ 0) (inner : (t : ℕ) → t < v.tops → v.start t ≢ top g v I) where
    abbrev p : View
    p = popped v

    stack_old : (t : ℕ) → t < v.height - 1 → p.stack t ≡ v.stack t
    stack_old t h = below_is v.stack (v.height - 1) t h

    not_top : (i : ℕ) → i ≢ top g v I → IsOnStack v i → IsOnStack p i
    not_top i ne s =
        let h : s.t < v.height = s.within in
        let le : s.t ≤ v.height - 1 = omega arith in
        elim (eq-or-lt_of_le le) [
          | inl e ↦ absurd (ne (sym s.there ∙ ap v.stack e))
          | inr lt ↦ record { t = s.t; within = lt; there = stack_old s.t lt ∙ s.there }
        ]

    settle_popped : (i z : ℕ) → IsSettled v i z → IsSettled p i z
    settle_popped i z (inl d) = inl (record { label = d.label; done = d.done; low = d.low })
    settle_popped i z (inr o) = inr (record { at = o.at; here = o.here; later = o.later })

    pub popped_kept : IsWalk g p
    popped_kept = record {
      size = I.size;
      lefts = I.lefts;
      few = I.few;
      fresh = I.fresh;
      node = I.node;
      here = I.here;
      onpath = I.onpath;
      itself = I.itself;
      upward = I.upward;
      back = I.back;
      first = I.first;
      lowest = I.lowest;
      rising = I.rising;
      begun = λ t h. not_top (v.start t) (inner t h) (I.begun t h);
      climbing = λ t u lt h. let st : p.stack t ≡ v.stack t = stack_old t (omega arith) in let su : p.stack u ≡ v.stack u = stack_old u h in
          let r : v.stack t < v.stack u = I.climbing t u lt (omega arith) in omega arith;
      placed = λ t h. subst (λ (n : ℕ). n < v.depth) (sym (stack_old t h)) (I.placed t (omega arith));
      busy = λ i h. elim (cases_eq i (top g v I)) [
        | inl e ↦ inr (ap (λ (q : ℕ). v.left (v.path q)) e ∙ none)
        | inr e ↦ elim (I.busy i h) [ inl s ↦ inl (not_top i e s) | inr z ↦ inr z ]
      ];
      settled = λ x i k e lt. settle_popped i (get_or (next_of g x) k 0) (I.settled x i k e lt);
      downward = λ x n k e lt. let d : IsDone v (get_or (next_of g x) k 0) n = I.downward x n k e lt in record { label = d.label; done = d.done; low = d.low };
      joined = I.joined;
      numbered = I.numbered;
      headed = I.headed;
      own = I.own;
    }
