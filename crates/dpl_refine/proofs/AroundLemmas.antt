-- What colours cost in a component, and what is left as it was.
use Rattle.std.proofs.Common.{arith, ◌≡◌, ◌≢◌, ◌⊎◌, ◌+◌, ◌<◌, ◌==◌, ℕ, zero, suc, Bool, true, false, cond, List, [], ◌∷◌, ◌++◌, length, refl, sym, ap, subst, ◌∙◌, All, Contains, get_or, inl, inr}
use Rattle.std.specs.Prelude.{◌&&◌, not, nat_lt, sum_by}
use Rattle.std.proofs.lemmas.Bool.{cases_Bool, cases_eq, cond-true, cond-false, eq-eqb, eqb-true, ne_eqb, ltb-true, both_ways}
use Rattle.std.proofs.lemmas.List.Elements.{All-nil, All-cons, All-head, All-tail, All-weaker, All-contains, All-from_get_or, Contains-append_right}
use Rattle.std.proofs.lemmas.List.Sums.{sum_by-cons}
use Rattle.dpl_classes.specs.Chains.{IsChain, AreLinked}
use Rattle.dpl_classes.proofs.ChainLemmas.{link_pair}
use Rattle.dpl_classes.proofs.NumberLemmas.{labels_below}
use Rattle.dpl_sign.specs.declared.edges.Edge.{Edge}
use Rattle.dpl_sign.specs.declared.graphs.Signed.{Signed}
use Rattle.dpl_sign.specs.Kinds.{is_bond}
use Rattle.dpl_sign.specs.Walks.{no_edge}
use Rattle.dpl_sign.specs.Colourings.{IsColouring, agree, is_broken, breaks, colour_of}
use Rattle.dpl_sign.specs.Components.{component_of}
use Rattle.dpl_sign.specs.Excess.{all_edges}
use Rattle.dpl_sign.proofs.ComponentLemmas.{component_joined, component_label}
use Rattle.dpl_refine.specs.Pieces.{bonds_of, AreOnePiece, ArePieces}
use Rattle.dpl_refine.specs.Components.{is_around, weight_in, cost_in, cost_around, ends_of, AreParts, is_of, cost_of_part}
use Rattle.dpl_refine.specs.Refined.{IsSameAround, IsCheaperOrSame, IsCheaperOrSameAround, IsRefined}
use Rattle.dpl_refine.specs.Gains.{piece_at, weighed_at, won_of, lost_of, turn}
use Rattle.dpl_refine.proofs.TurnLemmas.{TurnsEnds, one_edge}
use Rattle.dpl_refine.proofs.PieceLemmas.{bonds_in, bonds_out, AreBelow, piece_ends, AreTurned, both_cheaper}

-- ---- labels that agree at pairs

abbrev HaveOne : (ℕ → ℕ) → ℕ × ℕ → Type 0
HaveOne label p = label p.0 ≡ label p.1

abbrev EndsHaveOne : (ℕ → ℕ) → Edge → Type 0
EndsHaveOne label e = label e.a ≡ label e.b

-- a label that agrees at each pair agrees along chains
chain_label : (pairs : List (ℕ × ℕ)) (label : ℕ → ℕ) → All (HaveOne label) pairs → (i : ℕ) (js : List ℕ) (k : ℕ)
    → IsChain pairs i js k → label i ≡ label k
chain_label pairs label h i [] k e = ap label e
chain_label pairs label h i (j ∷ js) k (c, s) = (elim c [
  | inl x ↦ All-contains (HaveOne label) pairs (i, j) h x
  | inr y ↦ sym (All-contains (HaveOne label) pairs (j, i) h y)
]) ∙ chain_label pairs label h j js k s

bonds_label : (label : ℕ → ℕ) (edges : List Edge) → All (EndsHaveOne label) edges → All (HaveOne label) (bonds_of edges)
bonds_label label [] h = All-nil (HaveOne label)
bonds_label label (e ∷ edges) h =
    let rest = bonds_label label edges (All-tail (EndsHaveOne label) e edges h) in
    elim (cases_Bool (is_bond e.kind)) [
      | inl t ↦ subst (All (HaveOne label)) (sym (bonds_in e edges t))
          (All-cons (HaveOne label) (e.a, e.b) (bonds_of edges) (All-head (EndsHaveOne label) e edges h) rest)
      | inr t ↦ subst (All (HaveOne label)) (sym (bonds_out e edges t)) rest
    ]

ends_label : (label : ℕ → ℕ) (edges : List Edge) → All (EndsHaveOne label) edges → All (HaveOne label) (ends_of edges)
ends_label label [] h = All-nil (HaveOne label)
ends_label label (e ∷ edges) h = All-cons (HaveOne label) (e.a, e.b) (ends_of edges) (All-head (EndsHaveOne label) e edges h)
    (ends_label label edges (All-tail (EndsHaveOne label) e edges h))

-- the ends of each edge are among them
end_there : (edges : List Edge) (k : ℕ) (d : Edge) → k < length edges
    → Contains (ends_of edges) ((get_or edges k d).a, (get_or edges k d).b)
end_there [] k d l = absurd (omega arith)
end_there (e ∷ edges) zero d l = (0, omega arith, refl)
end_there (e ∷ edges) (suc k) d l =
    Contains-append_right ((e.a, e.b) ∷ []) (ends_of edges) ((get_or edges k d).a, (get_or edges k d).b) (end_there edges k d (omega arith))

pub push_ends : (edges : List Edge) (e : Edge) → ends_of (edges ++ e ∷ []) ≡ ends_of edges ++ (e.a, e.b) ∷ []
push_ends [] e = refl
push_ends (d ∷ edges) e = ap (λ z. (d.a, d.b) ∷ z) (push_ends edges e)

pub ends_within : (n : ℕ) (edges : List Edge) → All (λ (e : Edge). e.b < n) edges → All (AreBelow n) (ends_of edges)
ends_within n [] h = All-nil (AreBelow n)
ends_within n (e ∷ edges) h =
    let b : e.b < n = All-head (λ (e : Edge). e.b < n) e edges h in
    let o = e.ordered in
    All-cons (AreBelow n) (e.a, e.b) (ends_of edges) (omega (arith, b, o), b) (ends_within n edges (All-tail (λ (e : Edge). e.b < n) e edges h))

-- the ends of an edge are of one component
edges_joined : (g : Signed) → All (EndsHaveOne (component_of g all_edges)) g.edges
edges_joined g = All-from_get_or (EndsHaveOne (component_of g all_edges)) g.edges no_edge (λ i l. component_joined g all_edges i l refl)

linked_ends : (g : Signed) (i k : ℕ) → AreLinked (ends_of g.edges) i k → component_of g all_edges i ≡ component_of g all_edges k
linked_ends g i k l = chain_label (ends_of g.edges) (component_of g all_edges)
    (ends_label (component_of g all_edges) g.edges (edges_joined g)) i l.chain k l.is

-- a piece lies in one component
one_piece : (g : Signed) (i k : ℕ) → AreOnePiece g i k → component_of g all_edges i ≡ component_of g all_edges k
one_piece g i k l = chain_label (bonds_of g.edges) (component_of g all_edges)
    (bonds_label (component_of g all_edges) g.edges (edges_joined g)) i l.chain k l.is

pub edge_around : (g : Signed) (u k : ℕ) (d : Edge) → k < length g.edges
    → is_around g u (get_or g.edges k d).a ≡ is_around g u (get_or g.edges k d).b
edge_around g u k d l = ap (λ c. c == component_of g all_edges u) (edges_joined g k d l)

pub start_below : (g : Signed) (k : ℕ) (d : Edge) → k < length g.edges → (get_or g.edges k d).a < g.nodes
start_below g k d l = let b = g.inside k d l in let o = (get_or g.edges k d).ordered in omega (arith, b, o)

-- ---- sums over edges

sum_same : (f h : Edge → ℕ) (edges : List Edge) → All (λ e. f e ≡ h e) edges → sum_by f edges ≡ sum_by h edges
sum_same f h [] a = refl
sum_same f h (e ∷ edges) a =
    let here : f e ≡ h e = All-head (λ e. f e ≡ h e) e edges a in
    let rest = sum_same f h edges (All-tail (λ e. f e ≡ h e) e edges a) in
    let one = sum_by-cons f e edges in
    let two = sum_by-cons h e edges in
    omega (arith, here, rest, one, two)

sum_law : (f h i j : Edge → ℕ) (edges : List Edge) → All (λ e. f e + h e ≡ i e + j e) edges
    → sum_by f edges + sum_by h edges ≡ sum_by i edges + sum_by j edges
sum_law f h i j [] a = refl
sum_law f h i j (e ∷ edges) a =
    let here : f e + h e ≡ i e + j e = All-head (λ e. f e + h e ≡ i e + j e) e edges a in
    let rest = sum_law f h i j edges (All-tail (λ e. f e + h e ≡ i e + j e) e edges a) in
    let one = sum_by-cons f e edges in
    let two = sum_by-cons h e edges in
    let three = sum_by-cons i e edges in
    let four = sum_by-cons j e edges in
    omega (arith, here, rest, one, two, three, four)

-- ---- colours that are the same at the edges of a set

record IsAlike (s t : ℕ → Bool) (one other : List Bool) (e : Edge) : Type 0 where
  test : s e.a ≡ t e.a
  first : s e.a ≡ true → colour_of one e.a ≡ colour_of other e.a
  second : s e.a ≡ true → colour_of one e.b ≡ colour_of other e.b

alike_weight : (s t : ℕ → Bool) (one other : List Bool) (e : Edge) → IsAlike s t one other e → weight_in s one e ≡ weight_in t other e
alike_weight s t one other e h = elim (cases_Bool (s e.a)) [
  | inl y ↦ ap (λ b. cond {A = ℕ} (b && breaks one e) e.weight 0) h.test
      ∙ ap (λ x. cond {A = ℕ} (t e.a && is_broken e.kind x (colour_of one e.b)) e.weight 0) (h.first y)
      ∙ ap (λ x. cond {A = ℕ} (t e.a && is_broken e.kind (colour_of other e.a) x) e.weight 0) (h.second y)
  | inr f ↦ ap (λ b. cond {A = ℕ} (b && breaks one e) e.weight 0) f
      ∙ sym (ap (λ b. cond {A = ℕ} (b && breaks other e) e.weight 0) (sym h.test ∙ f))
]

same_in : (s t : ℕ → Bool) (one other : List Bool) (edges : List Edge) → All (IsAlike s t one other) edges
    → cost_in s edges one ≡ cost_in t edges other
same_in s t one other edges h = sum_same (weight_in s one) (weight_in t other) edges
    (All-weaker (IsAlike s t one other) (λ e. weight_in s one e ≡ weight_in t other e) (alike_weight s t one other) edges h)

-- colours that are the same in a component cost the same there
pub around_same : (g : Signed) (u : ℕ) (old new : List Bool) → IsSameAround g u old new → cost_around g u new ≡ cost_around g u old
around_same g u old new same = same_in (is_around g u) (is_around g u) new old g.edges (λ k d l. record {
  test = refl;
  first = λ y. same (get_or g.edges k d).a (start_below g k d l) y;
  second = λ y. same (get_or g.edges k d).b (g.inside k d l) (sym (edge_around g u k d l) ∙ y);
})

pub none_around : (g : Signed) (colours : List Bool) → IsCheaperOrSameAround g colours colours
none_around g colours u l = inr (λ v m t. refl)

pub both_around : (g : Signed) (a b c : List Bool) → IsCheaperOrSameAround g a b → IsCheaperOrSameAround g b c → IsCheaperOrSameAround g a c
both_around g a b c h m u l = elim (m u l) [
  | inl y ↦ elim (h u l) [
    | inl x ↦ inl (omega (arith, x, y))
    | inr x ↦ inl (let s = around_same g u a b x in omega (arith, s, y))
  ]
  | inr y ↦ elim (h u l) [
    | inl x ↦ inl (let s = around_same g u b c y in omega (arith, s, x))
    | inr x ↦ inr (λ v n t. y v n t ∙ x v n t)
  ]
]

-- ---- one piece turned over

-- an edge with no end of the piece wins and loses nothing
away : (broken : Bool) (piece : List ℕ) (p : ℕ) (colours : List Bool) (e : Edge) → piece_at piece e.a ≢ p → piece_at piece e.b ≢ p
    → weighed_at broken piece colours p e ≡ 0
away broken piece p colours e n m =
    ap (λ s. cond {A = ℕ} (not (agree s (piece_at piece e.b == p)) && agree broken (breaks colours e)) e.weight 0) (ne_eqb _ _ n)
    ∙ ap (λ s. cond {A = ℕ} (not (agree false s) && agree broken (breaks colours e)) e.weight 0) (ne_eqb _ _ m)

record HasEnd (piece : List ℕ) (p : ℕ) (edges : List Edge) : Type 0 where
  place : ℕ
  inside : place < length edges
  ends : (d : Edge) → (piece_at piece (get_or edges place d).a ≡ p) ⊎ (piece_at piece (get_or edges place d).b ≡ p)

ends_at : (piece : List ℕ) (p : ℕ) (colours : List Bool) (e : Edge) → weighed_at true piece colours p e ≢ 0
    → (piece_at piece e.a ≡ p) ⊎ (piece_at piece e.b ≡ p)
ends_at piece p colours e some = elim (cases_eq (piece_at piece e.a) p) [
  | inl x ↦ inl x
  | inr n ↦ elim (cases_eq (piece_at piece e.b) p) [
    | inl y ↦ inr y
    | inr m ↦ absurd (some (away true piece p colours e n m))
  ]
]

-- what wins has an edge that ends there
won_end : (piece : List ℕ) (p : ℕ) (colours : List Bool) (edges : List Edge) → 0 < won_of edges piece colours p → HasEnd piece p edges
won_end piece p colours [] h = absurd (omega (arith, h))
won_end piece p colours (e ∷ edges) h = elim (cases_eq (weighed_at true piece colours p e) 0) [
  | inl z ↦
      let one = sum_by-cons (weighed_at true piece colours p) e edges in
      let rest = won_end piece p colours edges (omega (arith, z, one, h)) in
      record { place = suc rest.place; inside = (let i = rest.inside in omega (arith, i)); ends = rest.ends }
  | inr some ↦ record { place = 0; inside = omega arith; ends = λ d. ends_at piece p colours e some }
]

module _ (g : Signed) (piece : List ℕ) (count' : ℕ) (a : ArePieces g piece count') where
  piece_around : (u v w : ℕ) → v < g.nodes → w < g.nodes → piece_at piece v ≡ piece_at piece w → is_around g u v ≡ is_around g u w
  piece_around u v w l m e = ap (λ c. c == component_of g all_edges u) (one_piece g v w ((a.same v w l m).0 e))

  -- where the piece lies in a component, that component wins and loses as the whole does
  abbrev LiesAround : ℕ → ℕ → Type 0
  LiesAround u p = (v : ℕ) → v < g.nodes → piece_at piece v ≡ p → is_around g u v ≡ true

  edge_turned : (u p : ℕ) (old new : List Bool) → LiesAround u p → (k : ℕ) (d : Edge) → k < length g.edges
      → TurnsEnds piece p old new (get_or g.edges k d)
      → weight_in (is_around g u) new (get_or g.edges k d) + weighed_at true piece old p (get_or g.edges k d)
      ≡ weight_in (is_around g u) old (get_or g.edges k d) + weighed_at false piece old p (get_or g.edges k d)
  edge_turned u p old new lies k d l t =
      let e = get_or g.edges k d in
      elim (cases_Bool (is_around g u e.a)) [
        | inl y ↦
            let one = ap (λ b. cond {A = ℕ} (b && breaks new e) e.weight 0) y in
            let two = ap (λ b. cond {A = ℕ} (b && breaks old e) e.weight 0) y in
            let law = one_edge piece p old new e t in
            omega (arith, one, two, law)
        | inr f ↦
            let one = ap (λ b. cond {A = ℕ} (b && breaks new e) e.weight 0) f in
            let two = ap (λ b. cond {A = ℕ} (b && breaks old e) e.weight 0) f in
            let n : piece_at piece e.a ≢ p = λ q. both_ways _ f (lies e.a (start_below g k d l) q) in
            let m : piece_at piece e.b ≢ p = λ q. both_ways _ (sym (edge_around g u k d l) ∙ f) (lies e.b (g.inside k d l) q) in
            let three = away true piece p old e n m in
            let four = away false piece p old e n m in
            omega (arith, one, two, three, four)
      ]

  turned_in : (u p : ℕ) (old new : List Bool) → LiesAround u p → All (TurnsEnds piece p old new) g.edges
      → cost_around g u new + won_of g.edges piece old p ≡ cost_around g u old + lost_of g.edges piece old p
  turned_in u p old new lies t = sum_law (weight_in (is_around g u) new) (weighed_at true piece old p) (weight_in (is_around g u) old)
      (weighed_at false piece old p) g.edges (λ k d l. edge_turned u p old new lies k d l (t k d l))

  -- a node of a piece that wins
  won_node : (p : ℕ) (old : List Bool) → 0 < won_of g.edges piece old p → (w : ℕ) × (w < g.nodes) × (piece_at piece w ≡ p)
  won_node p old h =
      let end = won_end piece p old g.edges h in
      let e = get_or g.edges end.place no_edge in
      elim (end.ends no_edge) [
        | inl x ↦ (e.a, start_below g end.place no_edge end.inside, x)
        | inr y ↦ (e.b, g.inside end.place no_edge end.inside, y)
      ]

  -- a turn that wins lowers the cost of the component of the piece, and leaves all others
  pub turned_around : (p : ℕ) (old new : List Bool) → IsColouring g old → AreTurned g piece count' a p old new
      → lost_of g.edges piece old p < won_of g.edges piece old p → IsCheaperOrSameAround g old new
  turned_around p old new c t wins u l =
      let node = won_node p old (omega (arith, wins)) in
      let long = c.length in
      elim (cases_Bool (is_around g u node.0)) [
        | inl y ↦
            let lies : LiesAround u p = λ v m e. piece_around u v node.0 m node.1 (e ∙ sym node.2) ∙ y in
            let law = turned_in u p old new lies (piece_ends g piece count' a p old new c.length t) in
            inl (omega (arith, law, wins))
        | inr f ↦ inr (λ v m s.
            let other : piece_at piece v ≢ p = λ e. both_ways _ (piece_around u v node.0 m node.1 (e ∙ sym node.2) ∙ f) s in
            t v (omega (arith, m, long)) ∙ ap (λ b. turn b (colour_of old v)) (ne_eqb _ _ other))
      ]

-- ---- other colours where they cost less

module _ (g : Signed) (part : List ℕ) (count' : ℕ) (c : AreParts g part count') where
  edge_part : All (EndsHaveOne (piece_at part)) g.edges
  edge_part k d l =
      let e = get_or g.edges k d in
      (c.same e.a e.b (start_below g k d l) (g.inside k d l)).1 (link_pair (ends_of g.edges) e.a e.b (end_there g.edges k d l))

  -- the number of a component tells its nodes
  part_is : (u v : ℕ) → u < g.nodes → v < g.nodes → is_around g u v ≡ is_of part (piece_at part u) v
  part_is u v l m = elim (cases_Bool (is_around g u v)) [
    | inl y ↦
        let label : ℕ → ℕ = piece_at part in
        let named = component_label g all_edges label (λ e i t. edge_part e no_edge i) in
        let one : label v ≡ label u = sym (named v) ∙ ap label (eqb-true _ _ y) ∙ named u in
        y ∙ sym (eq-eqb _ _ one)
    | inr f ↦
        let apart : piece_at part v ≢ piece_at part u = λ e. both_ways _ f (eq-eqb _ _ (linked_ends g v u ((c.same v u m l).0 e))) in
        f ∙ sym (ne_eqb _ _ apart)
  ]

  -- each node has the tried colour where the test of its component says so
  abbrev pub AreChosen : (ℕ → Bool) → List Bool → List Bool → List Bool → Type 0
  AreChosen test old tried new = (v : ℕ) → v < length old
      → get_or new v false ≡ cond (test (get_or part v 0)) (get_or tried v false) (get_or old v false)

  pub chosen_colouring : (test : ℕ → Bool) (old tried new : List Bool) → IsColouring g old → IsColouring g tried
      → length new ≡ length old → AreChosen test old tried new → IsColouring g new
  chosen_colouring test old tried new o t n h = record {
    length = n ∙ o.length;
    bonds = λ k d l b.
        let e = get_or g.edges k d in
        let f = start_below g k d l in
        let s = g.inside k d l in
        let m = o.length in
        h e.a (omega (arith, f, m)) ∙ ap (λ x. cond (test (piece_at part e.a)) x (colour_of old e.a)) (t.bonds k d l b)
        ∙ ap (λ x. cond (test (piece_at part e.a)) (colour_of tried e.b) x) (o.bonds k d l b)
        ∙ ap (λ p. cond (test p) (colour_of tried e.b) (colour_of old e.b)) (edge_part k d l) ∙ sym (h e.b (omega (arith, s, m)));
  }

  abbrev pub AreCosts : List Bool → List ℕ → Type 0
  AreCosts colours costs = (k : ℕ) → k < count' → get_or costs k 0 ≡ cost_of_part part k g.edges colours

  pub chosen_around : (old tried new : List Bool) (before after : List ℕ) → length old ≡ g.nodes → AreCosts old before
      → AreCosts tried after → AreChosen (λ p. nat_lt (get_or after p 0) (get_or before p 0)) old tried new
      → IsCheaperOrSameAround g old new
  chosen_around old tried new before after long b t h u l =
      let p = piece_at part u in
      let less : ℕ → Bool = λ q. nat_lt (get_or after q 0) (get_or before q 0) in
      let n = c.long in
      let below : p < count' = labels_below (ends_of g.edges) g.nodes part count' c u 0 (omega (arith, n, l)) in
      let number : (v : ℕ) → v < g.nodes → is_around g u v ≡ true → less (piece_at part v) ≡ less p =
      λ v m y. ap less (eqb-true _ _ (sym (part_is u v l m) ∙ y)) in
      elim (cases_Bool (less p)) [
        | inl y ↦
            let taken : (v : ℕ) → v < g.nodes → is_around g u v ≡ true → colour_of new v ≡ colour_of tried v =
            λ v m z. h v (omega (arith, m, long)) ∙ cond-true _ (colour_of tried v) (colour_of old v) (number v m z ∙ y) in
            let one : cost_around g u new ≡ cost_of_part part p g.edges tried =
            same_in (is_around g u) (is_of part p) new tried g.edges (λ k d i. record {
              test = part_is u (get_or g.edges k d).a l (start_below g k d i);
              first = λ z. taken (get_or g.edges k d).a (start_below g k d i) z;
              second = λ z. taken (get_or g.edges k d).b (g.inside k d i) (sym (edge_around g u k d i) ∙ z);
            }) in
            let two : cost_around g u old ≡ cost_of_part part p g.edges old =
            same_in (is_around g u) (is_of part p) old old g.edges (λ k d i. record {
              test = part_is u (get_or g.edges k d).a l (start_below g k d i);
              first = λ z. refl;
              second = λ z. refl;
            }) in
            let three = b p below in
            let four = t p below in
            let five = ltb-true _ _ y in
            inl (omega (arith, one, two, three, four, five))
        | inr f ↦ inr (λ v m z. h v (omega (arith, m, long)) ∙ cond-false _ (colour_of tried v) (colour_of old v) (number v m z ∙ f))
      ]

-- ---- what is refined from what is cheaper

pub refined_on : (g : Signed) (a b c : List Bool) → IsCheaperOrSame g a b → IsCheaperOrSameAround g a b → IsRefined g b c → IsRefined g a c
refined_on g a b c h i r = record {
  colouring = r.colouring;
  cheaper = both_cheaper g a b c h r.cheaper;
  around = both_around g a b c i r.around;
  settled = r.settled;
}
