-- Totals where no call leads back.
use Rattle.std.proofs.Common.{◌≡◌, inl, inr, ℕ, zero, suc, ◌+◌, ◌≤◌, ◌<◌, true, ◌==◌, List, [], ◌∷◌, length, Option}
use Rattle.std.proofs.Common.{None, Some, sum_by, refl, sym, ◌∙◌, ap, subst, arith, get_or, set}
use Rattle.std.specs.List.{list_any}
use Rattle.std.proofs.lemmas.List.{length-map, get_or-set_same, get_or-set_other}
use Rattle.std.proofs.lemmas.Bool.{cases_eq, or_left, or_right}
use Rattle.std.proofs.Math.Nat.{eq-or-lt_of_le}
use Rattle.std.proofs.lemmas.List.Sums.{sum_by-cons}
use Rattle.indexmap.specs.IndexMap.{keys}
use Rattle.indexmap.proofs.IndexTableLemmas.Probe.{pigeonhole}
use Rattle.dpl_groups.specs.Graph.{Leads}
use Rattle.dpl_groups.specs.Graph.Leads.{once as edge, more as edge_and}
use Rattle.dpl_groups.specs.Groups.{AreGroups}
use Rattle.dpl_calls.specs.declared.table.Table.{Table}
use Rattle.dpl_calls.specs.Parts.{Part, Bodies}
use Rattle.dpl_calls.specs.Parts.Part.{Drawn, Called}
use Rattle.dpl_calls.specs.Loops.{names}
use Rattle.dpl_calls.specs.Totals.{part_total, total_of, shown}
use Rattle.dpl_calls.specs.Table.{bodies_of}
use Rattle.dpl_calls.specs.Places.{place_among, body_at, graph_of}
use Rattle.dpl_calls.specs.Counted.{total_at, kept_of, kept_total, HasNoLoop, AreRight}
use Rattle.dpl_calls.proofs.Cases.{to_eq}
use Rattle.dpl_calls.proofs.LoopPaths.{placed_key}
use Rattle.dpl_calls.proofs.Edges.{body_placed, body_absent, next_is, edge_in, At, graph_size, is_graph}

-- sums that agree on what is called agree
pub sums_same : (own : Part → ℕ) (b : Bodies) (f h : List Part → ℕ) (parts : List Part)
    → ((m : ℕ) → list_any (names m) parts ≡ true → f (b (Some m)) ≡ h (b (Some m)))
    → sum_by (part_total own b f) parts ≡ sum_by (part_total own b h) parts
sums_same own b f h [] same = refl
sums_same own b f h (Drawn x ∷ ps) same =
    let rest : sum_by (part_total own b f) ps ≡ sum_by (part_total own b h) ps =
    sums_same own b f h ps (λ m c. same m (or_right (names m (Drawn x)) (list_any (names m) ps) c)) in
    omega (arith, sum_by-cons (part_total own b f) (Drawn x) ps, sum_by-cons (part_total own b h) (Drawn x) ps)
sums_same own b f h (Called n moves ∷ ps) same =
    let here : f (b (Some n)) ≡ h (b (Some n)) = same n (or_left (n == n) (list_any (names n) ps) (to_eq n n refl)) in
    let rest : sum_by (part_total own b f) ps ≡ sum_by (part_total own b h) ps =
    sums_same own b f h ps (λ m c. same m (or_right (n == m) (list_any (names m) ps) c)) in
    omega (arith, sum_by-cons (part_total own b f) (Called n moves) ps, sum_by-cons (part_total own b h) (Called n moves) ps)

-- what is kept is as good as what it stands for
pub kept_same : (own : Part → ℕ) (b : Bodies) (kept : ℕ → ℕ) (f : List Part → ℕ) (parts : List Part)
    → ((m : ℕ) → list_any (names m) parts ≡ true → shown (kept m) ≡ shown (f (b (Some m))))
    → shown (sum_by (kept_total own kept) parts) ≡ shown (sum_by (part_total own b f) parts)
kept_same own b kept f [] same = refl
kept_same own b kept f (Drawn x ∷ ps) same =
    let rest : shown (sum_by (kept_total own kept) ps) ≡ shown (sum_by (part_total own b f) ps) =
    kept_same own b kept f ps (λ m c. same m (or_right (names m (Drawn x)) (list_any (names m) ps) c)) in
    omega (arith, sum_by-cons (kept_total own kept) (Drawn x) ps, sum_by-cons (part_total own b f) (Drawn x) ps)
kept_same own b kept f (Called n moves ∷ ps) same =
    let here : shown (kept n) ≡ shown (f (b (Some n))) = same n (or_left (n == n) (list_any (names n) ps) (to_eq n n refl)) in
    let rest : shown (sum_by (kept_total own kept) ps) ≡ shown (sum_by (part_total own b f) ps) =
    kept_same own b kept f ps (λ m c. same m (or_right (n == m) (list_any (names m) ps) c)) in
    omega (arith, sum_by-cons (kept_total own kept) (Called n moves) ps, sum_by-cons (part_total own b f) (Called n moves) ps)

total_nil : (own : Part → ℕ) (b : Bodies) (k : ℕ) → total_of own k b [] ≡ 0
total_nil own b zero = refl
total_nil own b (suc k) = refl

module _ (own : Part → ℕ) (t : Table) (labels heads : List ℕ) (G : AreGroups (graph_of t) labels heads) (none : HasNoLoop (graph_of t) labels) where
  abbrev b : Bodies
  b = bodies_of t

  abbrev count : ℕ
  count = length t.definitions.entries

  -- a definition that is called has a smaller number
  pub callee_low : (x m y : ℕ) → list_any (names m) (body_at t x) ≡ true → place_among m (keys t.definitions) ≡ Some y → get_or labels y 0 < get_or labels x 0
  callee_low x m y c h =
      let a : At t y _ = edge_in t m y h (body_at t x) c in
      none x y (record {
        k = a.k;
        within = subst (λ (ps : List ℕ). a.k < length ps) (sym (next_is t x)) a.within;
        there = subst (λ (ps : List ℕ). get_or ps a.k 0 ≡ y) (sym (next_is t x)) a.there;
      })

  -- deeper calls change nothing
  stable : (j x : ℕ) → get_or labels x 0 < j → total_of own j b (body_at t x) ≡ total_of own (suc j) b (body_at t x)
  stable zero x h = absurd (omega arith)
  stable (suc j) x h = sums_same own b (total_of own j b) (total_of own (suc j) b) (body_at t x)
      (λ m c. by m c (place_among m (keys t.definitions)) refl (λ y l. stable j y l))
    where
      by : (m : ℕ) → list_any (names m) (body_at t x) ≡ true → (o : Option ℕ) → place_among m (keys t.definitions) ≡ o →
          ((y : ℕ) → get_or labels y 0 < j → total_of own j b (body_at t y) ≡ total_of own (suc j) b (body_at t y)) →
          total_of own j b (b (Some m)) ≡ total_of own (suc j) b (b (Some m))
      by m c None e ih = rw (body_absent t m e) (total_nil own b j ∙ sym (total_nil own b (suc j)))
      by m c (Some y) e ih =
          let low : get_or labels y 0 < get_or labels x 0 = callee_low x m y c e in
          rw (body_placed t m y e) (ih y (omega arith))

  leads_less : (x y : ℕ) → Leads (graph_of t) x y → get_or labels y 0 < get_or labels x 0
  leads_less _ _ (edge x y e) = none x y e
  leads_less _ _ (edge_and x y z e p) = let f : get_or labels y 0 < get_or labels x 0 = none x y e in
      let r : get_or labels z 0 < get_or labels y 0 = leads_less y z p in omega arith

  -- each group is one definition
  alone : (x l : ℕ) → x < length (graph_of t) → l < length heads → get_or labels x 0 ≡ l → x ≡ get_or heads l 0
  alone x l hx hl e =
      let h : ℕ = get_or heads l 0 in
      let own_label : get_or labels h 0 ≡ l = G.own l hl in
      elim (G.joined x h hx (G.headed l hl) (e ∙ sym own_label)) [
        | inl s ↦ s
        | inr p ↦ let less : get_or labels h 0 < get_or labels x 0 = leads_less x h p in absurd (omega arith)
      ]

  -- there are no more groups than definitions
  few : length heads ≤ count
  few =
      let size : length (graph_of t) ≡ count = graph_size t in
      pigeonhole (length heads) count (λ l. get_or heads l 0)
      (λ l hl. let i : get_or heads l 0 < length (graph_of t) = G.headed l hl in omega arith)
      (λ l m hl hm e. sym (G.own l hl) ∙ (ap (λ (x : ℕ). get_or labels x 0) e ∙ G.own m hm))

  pub label_few : (x : ℕ) → x < count → get_or labels x 0 < count
  label_few x h =
      let size : length (graph_of t) ≡ count = graph_size t in
      let n : get_or labels x 0 < length heads = G.numbered x (omega arith) in
      let f : length heads ≤ count = few in omega arith

  shown_twice : (n : ℕ) → shown (shown n) ≡ shown n
  shown_twice n = omega arith

  -- the total of a definition whose callees are right
  pub next_right : (k x : ℕ) (totals : List ℕ) → AreRight own t labels k totals → x < count → get_or labels x 0 ≡ k →
      shown (sum_by (kept_total own (kept_of (keys t.definitions) totals)) (body_at t x)) ≡ shown
      (total_of own count b (body_at t x))
  next_right k x totals right hx e =
      kept_same own b (kept_of (keys t.definitions) totals) (total_of own count b) (body_at t x) (λ m c. by m c (place_among m (keys t.definitions)) refl)
      ∙ ap (λ (n : ℕ). shown n) (sym (stable count x (label_few x hx)))
    where
      by : (m : ℕ) → list_any (names m) (body_at t x) ≡ true → (o : Option ℕ) → place_among m (keys t.definitions) ≡ o →
          shown (total_at (place_among m (keys t.definitions)) totals) ≡ shown (total_of own count b (b (Some m)))
      by m c None q = rw (q, body_absent t m q, total_nil own b count) refl
      by m c (Some y) q =
          let low : get_or labels y 0 < get_or labels x 0 = callee_low x m y c q in
          let a : At t y _ = edge_in t m y q (body_at t x) c in
          let size : length (graph_of t) ≡ count = graph_size t in
          let inside : y < length (graph_of t) = is_graph t x y (record {
            k = a.k;
            within = subst (λ (ps : List ℕ). a.k < length ps) (sym (next_is t x)) a.within;
            there = subst (λ (ps : List ℕ). get_or ps a.k 0 ≡ y) (sym (next_is t x)) a.there;
          }) in
          rw (q, body_placed t m y q, right y (omega arith) (omega arith)) (shown_twice (total_of own count b (body_at t y)))

  -- what stands outside definitions
  pub top_right : (totals : List ℕ) (parts : List Part) → AreRight own t labels count totals →
      shown (sum_by (kept_total own (kept_of (keys t.definitions) totals)) parts) ≡ shown
      (total_of own (suc count) b parts)
  top_right totals parts right = kept_same own b (kept_of (keys t.definitions) totals) (total_of own count b) parts
      (λ m c. by m (place_among m (keys t.definitions)) refl)
    where
      by : (m : ℕ) → (o : Option ℕ) → place_among m (keys t.definitions) ≡ o →
          shown (total_at (place_among m (keys t.definitions)) totals) ≡ shown (total_of own count b (b (Some m)))
      by m None q = rw (q, body_absent t m q, total_nil own b count) refl
      by m (Some y) q =
          let at = placed_key m y (keys t.definitions) q in
          let size : length (keys t.definitions) ≡ count = length-map t.definitions.entries (λ e. e.0) in
          let inside : y < count = omega (arith, at.0) in
          rw (q, body_placed t m y q, right y inside (label_few y inside)) (shown_twice (total_of own count b (body_at t y)))

  -- one group more
  pub step_right : (k v : ℕ) (totals totals' : List ℕ) → k < length heads → length totals ≡ count →
      totals' ≡ set totals (get_or heads k 0) v → v ≡ shown
      (sum_by (kept_total own (kept_of (keys t.definitions) totals)) (body_at t (get_or heads k 0))) →
      AreRight own t labels k totals → AreRight own t labels (k + 1) totals'
  step_right k v totals totals' hk len es ev right x hx low =
      let h : ℕ = get_or heads k 0 in
      let size : length (graph_of t) ≡ count = graph_size t in
      let there : h < length (graph_of t) = G.headed k hk in
      let le : get_or labels x 0 ≤ k = omega arith in
      rw es (elim (cases_eq x h) [
        | inl e ↦
            ap (λ (n : ℕ). get_or (set totals h v) n 0) e
            ∙ (get_or-set_same totals h v 0 (omega arith)
            ∙ (ev ∙ (next_right k h totals right (omega arith) (G.own k hk)
            ∙ ap (λ (n : ℕ). shown (total_of own count b (body_at t n))) (sym e))))
        | inr e ↦ get_or-set_other totals h x v 0 e ∙ right x hx (elim (eq-or-lt_of_le le) [
          | inl q ↦ absurd (e (alone x k (omega arith) hk q))
          | inr l ↦ l
        ])
      ])
