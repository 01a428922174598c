-- The cycles of the parts, in the numbers of the whole, are a packing of it.
use Rattle.std.proofs.Common.{arith, ◌≡◌, ◌≢◌, ℕ, suc, ◌*◌, ◌%◌, ◌<◌, ◌≤◌, ◌==◌, refl, sym, ap, subst, ◌∙◌, true, false}
use Rattle.std.proofs.Common.{cond, inl, inr, List, [], ◌∷◌, length, map, eq-eqb, length-append}
use Rattle.std.specs.Prelude.{All, sum_by, count_by, slice_index_or}
use Rattle.std.proofs.lemmas.Bool.{cases_eq, ne_eqb, and_from, or_left, or_right, lt-ltb, cond-false}
use Rattle.std.proofs.lemmas.List.{length-map}
use Rattle.std.proofs.lemmas.List.Sums.{sum_by-cons, sum_by-append}
use Rattle.std.proofs.lemmas.List.Elements.{All-nil, All-append, All-map}
use Rattle.dpl_sign.specs.declared.nets.Net.{Net}
use Rattle.dpl_sign.specs.declared.walks.Cycle.{Cycle}
use Rattle.dpl_sign.specs.Kinds.{is_bond, is_clash}
use Rattle.dpl_sign.specs.Walks.{edge_at, across, leaves, IsPath, clashes, IsOddWalk}
use Rattle.dpl_sign.specs.Packings.{IsPacking, bound_of}
use Rattle.dpl_sign.proofs.ComponentLemmas.{start_below, end_below}
use Rattle.dpl_sign.proofs.LoadLaw.{loads_counted}
use Rattle.dpl_sign.proofs.WalkLemmas.{leaves_ends, across_first, across_second, path_inside}
use Rattle.dpl_parts.specs.Parts.{IsPartOf}
use Rattle.dpl_parts.specs.Shares.{Part, ShareOut, renumbered, all_cycles}
use Rattle.dpl_parts.proofs.Faces.{found}
use Rattle.dpl_parts.proofs.Darts.{edge_apart}
use Rattle.dpl_parts.proofs.Places.{AreShares, shares_rest}
use Rattle.dpl_parts.proofs.Shared.{edges_in, edge_shares}
use Rattle.dpl_list.proofs.Sums.{sum_by_alike}

sum_by_map : {X Y : Type 0} (f : Y → ℕ) (g : X → Y) (xs : List X) → sum_by f (map g xs) ≡ sum_by (λ x. f (g x)) xs
sum_by_map f g [] = refl
sum_by_map f g (x ∷ xs) =
    let a = sum_by-cons f (g x) (map g xs) in
    let b = sum_by-cons (λ z. f (g z)) x xs in
    let r = sum_by_map f g xs in
    omega (arith, a, b, r)

-- ---- walks of a part

module _ (part whole : Net) (node edge : ℕ → ℕ) (h : IsPartOf part whole node edge) where
  step_up : (e v : ℕ) → leaves part.graph e v ≡ true → (leaves whole.graph (edge e) (node v) ≡ true) ×
      (across (edge_at whole.graph (edge e)) (node v) ≡ node (across (edge_at part.graph e) v))
  step_up e v t =
      let s = leaves_ends part.graph e v t in
      let l = s.inside in
      let low = lt-ltb (edge e) (length whole.graph.edges) (h.edges e l) in
      let a = h.first e l in
      let b = h.second e l in
      elim (cases_eq (edge_at part.graph e).a v) [
        | inl x ↦
            let at : (edge_at whole.graph (edge e)).a ≡ node v = a ∙ ap node x in (
              and_from _ _ low (or_left _ _ (eq-eqb _ _ at)),
              across_first (edge_at whole.graph (edge e)) (node v) at ∙ b ∙ ap node (sym (across_first (edge_at part.graph e) v x)),
            )
        | inr x ↦
            let other : (edge_at part.graph e).b ≡ v = elim s.ends [ inl r ↦ absurd (x r.0) | inr r ↦ r.0 ] in
            let at : (edge_at whole.graph (edge e)).b ≡ node v = b ∙ ap node other in
            let below : v < part.graph.nodes = let k = end_below part.graph e l in omega (arith, k, other) in
            let away : (edge_at whole.graph (edge e)).a ≢ node v = λ r. x (h.apart _ _ (start_below part.graph e l) below (sym a ∙ r)) in (
              and_from _ _ low (or_right _ _ (eq-eqb _ _ at)),
              across_second (edge_at whole.graph (edge e)) (node v) away ∙ a ∙ ap node (sym (across_second (edge_at part.graph e) v x)),
            )
      ]

  path_up : (v : ℕ) (es : List ℕ) (w : ℕ) → IsPath part.graph v es w → IsPath whole.graph (node v) (map edge es) (node w)
  path_up v [] w e = ap node e
  path_up v (e ∷ es) w (l, more) =
      let (here, far) = step_up e v l in
      let P : ℕ → Type 0 = λ z. IsPath whole.graph z (map edge es) (node w) in
      (here, subst P (sym far) (path_up (across (edge_at part.graph e) v) es w more))

  clashes_up : (es : List ℕ) → All (λ e. e < length part.graph.edges) es → clashes whole.graph (map edge es) ≡ clashes part.graph es
  clashes_up es inside =
      sum_by_map (λ e. cond (is_clash (edge_at whole.graph e).kind) 1 0) edge es
      ∙ sum_by_alike (λ e. cond (is_clash (edge_at whole.graph (edge e)).kind) 1 0)
      (λ e. cond (is_clash (edge_at part.graph e).kind) 1 0) es
      (λ k d l. ap (λ z. cond (is_clash z) 1 0) (h.kind (slice_index_or es k d) (inside k d l)))

  -- how often a walk passes an edge
  passes_up : (e : ℕ) → e < length part.graph.edges → (es : List ℕ) → All (λ x. x < length part.graph.edges) es →
      count_by (λ x. x == edge e) (map edge es) ≡ count_by (λ x. x == e) es
  passes_up e l es inside =
      sum_by_map (λ x. cond (x == edge e) 1 0) edge es
      ∙ sum_by_alike (λ x. cond (edge x == edge e) 1 0) (λ x. cond (x == e) 1 0) es (λ k d m.
      let x = slice_index_or es k d in
      ap (λ b. cond b 1 0) (elim (cases_eq x e) [
        | inl r ↦ eq-eqb _ _ (ap edge r) ∙ sym (eq-eqb _ _ r)
        | inr r ↦ ne_eqb _ _ (λ s. r (edge_apart part whole node edge h x e (inside k d m) l s)) ∙ sym (ne_eqb _ _ r)
      ]))

  -- and that it passes no edge of another part
  passes_none : (f : ℕ) → ((e : ℕ) → e < length part.graph.edges → edge e ≢ f) → (es : List ℕ) →
      All (λ x. x < length part.graph.edges) es → count_by (λ x. x == f) (map edge es) ≡ 0
  passes_none f none [] inside = refl
  passes_none f none (e ∷ es) inside =
      let c = sum_by-cons (λ x. cond (x == f) 1 0) (edge e) (map edge es) in
      let z : cond (edge e == f) 1 0 ≡ 0 = cond-false {A = ℕ} (edge e == f) 1 0 (ne_eqb (edge e) f (none e (inside 0 e (omega arith)))) in
      let rest : All (λ x. x < length part.graph.edges) es = λ k d l. inside (suc k) d (omega (arith, l)) in
      let r = passes_none f none es rest in
      omega (arith, c, z, r)

-- ---- cycles of a part

-- the edges of an odd walk are edges of its net
pub walk_inside : (net : Net) (c : Cycle) → IsOddWalk net.graph c.walk → All (λ e. e < length net.graph.edges) c.walk.edges
walk_inside net c o = path_inside net.graph c.walk.start c.walk.edges c.walk.start o.closed.1

-- the half weights of the passages of an edge, by cycle
abbrev carried : List Cycle → ℕ → ℕ
carried cs e = sum_by (λ c. c.half * count_by (λ x. x == e) c.walk.edges) cs

module _ (whole : Net) (p : Part) (h : IsPartOf p.net whole p.node p.edge) where
  odd_up : (c : Cycle) → IsOddWalk p.net.graph c.walk → IsOddWalk whole.graph (renumbered p c).walk
  odd_up c o =
      let n = length-map c.walk.edges p.edge in
      let long = o.closed.0 in
      record {
        closed = (omega (arith, n, long), path_up p.net whole p.node p.edge h c.walk.start c.walk.edges c.walk.start o.closed.1);
        odd = ap (λ z. z % 2) (clashes_up p.net whole p.node p.edge h c.walk.edges (walk_inside p.net c o)) ∙ o.odd;
      }

  carried_up : (e : ℕ) → e < edges_in p → (cs : List Cycle) → All (λ c. IsOddWalk p.net.graph c.walk) cs →
      carried (map (renumbered p) cs) (p.edge e) ≡ carried cs e
  carried_up e l cs odd =
      sum_by_map (λ c. c.half * count_by (λ x. x == p.edge e) c.walk.edges) (renumbered p) cs
      ∙ sum_by_alike (λ c. c.half * count_by (λ x. x == p.edge e) (map p.edge c.walk.edges)) (λ c. c.half * count_by (λ x. x == e) c.walk.edges) cs (λ k d m.
      let c = slice_index_or cs k d in
      ap (λ z. c.half * z) (passes_up p.net whole p.node p.edge h e l c.walk.edges (walk_inside p.net c (odd k d m))))

  carried_none : (f : ℕ) → ((e : ℕ) → e < edges_in p → p.edge e ≢ f) → (cs : List Cycle) →
      All (λ c. IsOddWalk p.net.graph c.walk) cs → carried (map (renumbered p) cs) f ≡ 0
  carried_none f none [] odd = refl
  carried_none f none (c ∷ cs) odd =
      let a = sum_by-cons (λ z. z.half * count_by (λ x. x == f) z.walk.edges) (renumbered p c) (map (renumbered p) cs) in
      let z = passes_none p.net whole p.node p.edge h f none c.walk.edges (walk_inside p.net c (odd 0 c (omega arith))) in
      let w : c.half * count_by (λ x. x == f) (map p.edge c.walk.edges) ≡ 0 = ap (λ n. c.half * n) z ∙ omega arith in
      let r = carried_none f none cs (λ k d l. odd (suc k) d (omega (arith, l))) in
      omega (arith, a, w, r)

  once_up : (c : Cycle) → IsOddWalk p.net.graph c.walk → ((e : ℕ) → count_by (λ x. x == e) c.walk.edges ≤ 1) → (f : ℕ) →
      count_by (λ x. x == f) (renumbered p c).walk.edges ≤ 1
  once_up c o once f = elim (found p.edge (edges_in p) f) [
    | inl (e, l, r) ↦
        let u = passes_up p.net whole p.node p.edge h e l c.walk.edges (walk_inside p.net c o) in
        let t : count_by (λ x. x == f) (map p.edge c.walk.edges) ≡ count_by (λ x. x == p.edge e)
        (map p.edge c.walk.edges) = ap (λ z. count_by (λ x. x == z) (map p.edge c.walk.edges)) (sym r) in
        let o = once e in
        omega (arith, u, t, o)
    | inr none ↦ let u = passes_none p.net whole p.node p.edge h f none c.walk.edges (walk_inside p.net c o) in omega (arith, u)
  ]

-- ---- cycles of all parts

-- what each cycle of each part has, each of all has
pub all_have : (P : Cycle → Type 0) (parts : List Part) → All (λ p. All (λ c. P (renumbered p c)) p.cycles) parts → All P (all_cycles parts)
all_have P [] each = All-nil P
all_have P (p ∷ parts) each = All-append P (map (renumbered p) p.cycles) (all_cycles parts)
    (All-map P (renumbered p) p.cycles (each 0 p (omega arith)))
    (all_have P parts (λ k d l. each (suc k) d (omega (arith, l))))

pub bound_sum : (parts : List Part) → bound_of (all_cycles parts) ≡ sum_by (λ p. bound_of p.cycles) parts
bound_sum [] = refl
bound_sum (p ∷ parts) =
    let a = sum_by-append (λ (c : Cycle). c.half) (map (renumbered p) p.cycles) (all_cycles parts) in
    let b = sum_by_map (λ (c : Cycle). c.half) (renumbered p) p.cycles in
    let c = sum_by-cons (λ (p : Part). bound_of p.cycles) p parts in
    let r = bound_sum parts in
    omega (arith, a, b, c, r)

pub count_sum : (parts : List Part) → length (all_cycles parts) ≡ sum_by (λ p. length p.cycles) parts
count_sum [] = refl
count_sum (p ∷ parts) =
    let a = length-append (map (renumbered p) p.cycles) (all_cycles parts) in
    let b = length-map p.cycles (renumbered p) in
    let c = sum_by-cons (λ (p : Part). length p.cycles) p parts in
    let r = count_sum parts in
    omega (arith, a, b, c, r)

abbrev AreOdd : List Part → Type 0
AreOdd parts = All (λ p. All (λ c. IsOddWalk p.net.graph c.walk) p.cycles) parts

module _ (whole : Net) where
  abbrev ArePartsOf : List Part → Type 0
  ArePartsOf parts = All (λ p. IsPartOf p.net whole p.node p.edge) parts

  all_none : (f : ℕ) (parts : List Part) → ArePartsOf parts → AreOdd parts →
      All (λ p. (e : ℕ) → e < edges_in p → p.edge e ≢ f) parts → carried (all_cycles parts) f ≡ 0
  all_none f [] are odd none = refl
  all_none f (p ∷ parts) are odd none =
      let a = sum_by-append (λ (c : Cycle). c.half * count_by (λ x. x == f) c.walk.edges) (map (renumbered p) p.cycles) (all_cycles parts) in
      let z = carried_none whole p (are 0 p (omega arith)) f (none 0 p (omega arith)) p.cycles (odd 0 p (omega arith)) in
      let r = all_none f parts (λ k d l. are (suc k) d (omega (arith, l))) (λ k d l. odd (suc k) d (omega (arith, l)))
      (λ k d l. none (suc k) d (omega (arith, l))) in
      omega (arith, a, z, r)

  -- an edge carries what it carries in its part
  all_within : (f : ℕ) → is_bond (edge_at whole.graph f).kind ≡ false → (parts : List Part) → ArePartsOf parts →
      AreShares edges_in (λ p. p.edge) (length whole.graph.edges) parts
      → All (λ p. IsPacking p.net.graph p.cycles) parts → carried (all_cycles parts) f ≤ 2 * (edge_at whole.graph f).weight
  all_within f bond [] are shares packed = omega arith
  all_within f bond (p ∷ parts) are shares packed =
      let here = are 0 p (omega arith) in
      let own = packed 0 p (omega arith) in
      let a = sum_by-append (λ (c : Cycle). c.half * count_by (λ x. x == f) c.walk.edges) (map (renumbered p) p.cycles) (all_cycles parts) in
      let later : ArePartsOf parts = λ k d l. are (suc k) d (omega (arith, l)) in
      elim (found p.edge (edges_in p) f) [
        | inl (e, l, r) ↦
            let c = carried_up whole p here e l p.cycles own.odd in
            let at : carried (map (renumbered p) p.cycles) f ≡ carried (map (renumbered p) p.cycles) (p.edge e) =
            ap (carried (map (renumbered p) p.cycles)) (sym r) in
            let kind : is_bond (edge_at p.net.graph e).kind ≡ false = ap is_bond (sym (here.kind e l)) ∙
            ap (λ z. is_bond (edge_at whole.graph z).kind) r ∙ bond in
            let w = own.within e l kind in
            let n = loads_counted p.cycles e in
            let weight : (edge_at whole.graph f).weight ≡ (edge_at p.net.graph e).weight = ap (λ z. (edge_at whole.graph z).weight) (sym r) ∙ here.weight e l in
            let z = all_none f parts later (λ k d m. (packed (suc k) d (omega (arith, m))).odd)
            (λ k d m x b s. shares.apart 0 (suc k) d (omega arith) (omega (arith, m)) e x l b (r ∙ sym s)) in
            omega (arith, a, c, at, w, n, weight, z)
        | inr none ↦
            let z = carried_none whole p here f none p.cycles own.odd in
            let r = all_within f bond parts later (shares_rest edges_in (λ q. q.edge) (length whole.graph.edges) p parts
            shares) (λ k d l. packed (suc k) d (omega (arith, l))) in
            omega (arith, a, z, r)
      ]

pub packing_sum : (whole : Net) (parts : List Part) → ShareOut whole parts
    → All (λ p. IsPacking p.net.graph p.cycles) parts → IsPacking whole.graph (all_cycles parts)
packing_sum whole parts h packed = record {
  halves = all_have (λ c. 1 ≤ c.half) parts (λ k d l. (packed k d l).halves);
  odd = all_have (λ c. IsOddWalk whole.graph c.walk) parts (λ k d l.
      let p = slice_index_or parts k d in
      let o = (packed k d l).odd in
      λ j c m. odd_up whole p (h.are k d l) (slice_index_or p.cycles j c) (o j c m));
  within = λ f l bond. let a = loads_counted (all_cycles parts) f in let b =
      all_within whole f bond parts h.are (edge_shares whole parts h) packed in omega (arith, a, b);
}

-- each cycle passes each edge at most once where it does in its part
pub once_sum : (whole : Net) (parts : List Part) → ShareOut whole parts
    → All (λ p. IsPacking p.net.graph p.cycles) parts
    → All (λ p. All (λ c. (e : ℕ) → count_by (λ x. x == e) c.walk.edges ≤ 1) p.cycles) parts
    → All (λ c. (e : ℕ) → count_by (λ x. x == e) c.walk.edges ≤ 1) (all_cycles parts)
once_sum whole parts h packed once = all_have (λ c. (e : ℕ) → count_by (λ x. x == e) c.walk.edges ≤ 1) parts (λ k d l.
    let p = slice_index_or parts k d in
    let o = (packed k d l).odd in
    let s = once k d l in
    λ j c m. once_up whole p (h.are k d l) (slice_index_or p.cycles j c) (o j c m) (s j c m))
