-- Walks and colourings.
use Rattle.std.proofs.Common.{arith, lit≤, ◌^◌, ◌≡◌, ◌≢◌, ℕ, zero, suc, ◌+◌, ◌*◌, ◌%◌, ◌<◌, ◌≤◌, refl, ap, Bool, true}
use Rattle.std.proofs.Common.{false, cond, inl, inr, ◌⊎◌, List, [], ◌∷◌, length, eq-eqb, get_or, ◌∙◌}
use Rattle.std.specs.Prelude.{count_by, All}
use Rattle.std.proofs.lemmas.List.Sums.{sum_by-cons}
use Rattle.std.proofs.lemmas.List.Elements.{All-head, All-tail, All-cons, All-nil, All-append, All-map, All-get_or, All-weaker}
use Rattle.std.proofs.lemmas.Bool.{true≢false, false≢true, ne_eqb, eqb-true, ltb-true, cases_eq, cases_Bool, cond-true, cond-false, and_parts, or_cases}
use Rattle.dpl_sign.specs.declared.edges.Kind.{Kind}
use Rattle.dpl_sign.specs.declared.edges.Kind.TheVariants.{Bond, Stitch, Clash}
use Rattle.dpl_sign.specs.declared.edges.Edge.{Edge}
use Rattle.dpl_sign.specs.declared.graphs.Signed.{Signed}
use Rattle.dpl_sign.specs.declared.walks.Cycle.{Cycle}
use Rattle.dpl_sign.specs.Kinds.{is_bond, is_clash}
use Rattle.dpl_sign.specs.Weights.{most_weight}
use Rattle.dpl_sign.specs.Colourings.{is_broken, colour_of, breaks, broken_weight, cost_of, IsColouring}
use Rattle.dpl_sign.specs.Walks.{no_edge, edge_at, across, leaves, IsPath, clashes, IsOddWalk}
use Rattle.dpl_sign.specs.Packings.{passages, passages_of, load, OverloadsNoEdge, IsPacking, bound_of}
use Rattle.dpl_sign.proofs.Loads.{sum_to, sum_to_le, sum_to_twice, sum_by_places, passed_by_edge, bound_passed}
use Rattle.std.proofs.lemmas.List.{get_or_read}

abbrev bit : Bool → ℕ
bit b = cond b 1 0

-- an edge changes the colour where it is a broken stitch or a clash that is not broken
edge_parity : (k : Kind) (x y : Bool) → (is_bond k ≡ true → x ≡ y) → (bit x + bit y + bit (is_broken k x y) + bit (is_clash k)) % 2 ≡ 0
edge_parity Bond true true h = refl
edge_parity Bond false false h = refl
edge_parity Bond true false h = absurd (true≢false (h refl))
edge_parity Bond false true h = absurd (false≢true (h refl))
edge_parity Stitch true true h = refl
edge_parity Stitch true false h = refl
edge_parity Stitch false true h = refl
edge_parity Stitch false false h = refl
edge_parity Clash true true h = refl
edge_parity Clash true false h = refl
edge_parity Clash false true h = refl
edge_parity Clash false false h = refl

-- the two ends of an edge that is left
pub record Leaves (g : Signed) (e v : ℕ) : Type 0 where
  pub inside : e < length g.edges
  pub ends : (((edge_at g e).a ≡ v) × (across (edge_at g e) v ≡ (edge_at g e).b)) ⊎ (((edge_at g e).b ≡ v) × (across (edge_at g e) v ≡ (edge_at g e).a))

-- an edge leads from its first end to its second
pub across_first : (e : Edge) (v : ℕ) → e.a ≡ v → across e v ≡ e.b
across_first e v h = rw (eq-eqb e.a v h, across)

-- an edge leads from its second end to its first
pub across_second : (e : Edge) (v : ℕ) → e.a ≢ v → across e v ≡ e.a
across_second e v h = rw (ne_eqb e.a v h, across)

-- an edge that leaves a node is one of the graph that ends there
pub leaves_ends : (g : Signed) (e v : ℕ) → leaves g e v ≡ true → Leaves g e v
leaves_ends g e v h =
    let parts = and_parts _ _ h in
    record {
      inside = ltb-true e (length g.edges) parts.0;
      ends = elim (cases_eq (edge_at g e).a v) [
        | inl t ↦ inl (t, across_first (edge_at g e) v t)
        | inr t ↦ elim (or_cases _ _ parts.1) [
          | inl b ↦ absurd (t (eqb-true (edge_at g e).a v b))
          | inr b ↦ inr (eqb-true (edge_at g e).b v b, across_second (edge_at g e) v t)
        ]
      ];
    }

-- how many of these edges a colouring breaks, each passage counted
abbrev pub breaks_at : Signed → List Bool → ℕ → Bool
breaks_at g colours e = breaks colours (edge_at g e)

step_parity : (g : Signed) (colours : List Bool) → IsColouring g colours → (e v : ℕ) → leaves g e v ≡ true
    → (bit (colour_of colours v) + bit (colour_of colours (across (edge_at g e) v)) + bit (breaks_at g colours e) + bit (is_clash (edge_at g e).kind)) % 2 ≡ 0
step_parity g colours k e v h =
    let l = leaves_ends g e v h in
    let edge = edge_at g e in
    let col = colour_of colours in
    let same : is_bond edge.kind ≡ true → col edge.a ≡ col edge.b =
    λ b. All-get_or (λ x. is_bond x.kind ≡ true → colour_of colours x.a ≡ colour_of colours x.b) g.edges e no_edge
    l.inside k.bonds b in
    let p = edge_parity edge.kind (col edge.a) (col edge.b) same in
    elim l.ends [
      | inl t ↦ omega (arith, p, ap (λ z. bit (col z)) t.0, ap (λ z. bit (col z)) t.1)
      | inr t ↦ omega (arith, p, ap (λ z. bit (col z)) t.0, ap (λ z. bit (col z)) t.1)
    ]

-- the colours at the ends of a path, its broken edges and its clashes make an even number
pub path_parity : (g : Signed) (colours : List Bool) → IsColouring g colours → (v : ℕ) (es : List ℕ) (w : ℕ)
    → IsPath g v es w
    → (bit (colour_of colours v) + bit (colour_of colours w) + count_by (breaks_at g colours) es + clashes g es) % 2 ≡ 0
path_parity g colours k v [] w h = omega (arith, ap (λ z. bit (colour_of colours z)) h)
path_parity g colours k v (e ∷ es) w h =
    let rest = path_parity g colours k (across (edge_at g e) v) es w h.1 in
    let here = step_parity g colours k e v h.0 in
    let b : count_by (breaks_at g colours) (e ∷ es) ≡ bit (breaks_at g colours e) + count_by (breaks_at g colours) es =
    sum_by-cons (λ x. cond (breaks_at g colours x) 1 0) e es in
    let c : clashes g (e ∷ es) ≡ bit (is_clash (edge_at g e).kind) + clashes g es = sum_by-cons (λ x. cond (is_clash (edge_at g x).kind) 1 0) e es in
    omega (arith, rest, here, b, c)

-- every colouring breaks an odd walk somewhere
pub odd_broken : (g : Signed) (colours : List Bool) → IsColouring g colours → (c : Cycle) → IsOddWalk g c.walk → 1 ≤ count_by (breaks_at g colours) c.walk.edges
odd_broken g colours k c h = omega (arith, path_parity g colours k c.walk.start c.walk.edges c.walk.start h.closed.1, h.odd)

-- a path passes edges of the graph alone
pub path_inside : (g : Signed) (v : ℕ) (es : List ℕ) (w : ℕ) → IsPath g v es w → All (λ e. e < length g.edges) es
path_inside g v [] w h = All-nil (λ e. e < length g.edges)
path_inside g v (e ∷ es) w h = All-cons (λ x. x < length g.edges) e es (leaves_ends g e v h.0).inside (path_inside g (across (edge_at g e) v) es w h.1)

-- odd walks pass edges of the graph alone
pub passages_inside : (g : Signed) (cs : List Cycle) → All (λ c. IsOddWalk g c.walk) cs → All (λ p. p.0 < length g.edges) (passages cs)
passages_inside g [] h = All-nil (λ p. p.0 < length g.edges)
passages_inside g (c ∷ cs) h =
    let one = All-head (λ x. IsOddWalk g x.walk) c cs h in
    All-append (λ p. p.0 < length g.edges) (passages_of c) (passages cs)
    (All-map (λ p. p.0 < length g.edges) (λ e. (e, c.half)) c.walk.edges (path_inside g c.walk.start c.walk.edges c.walk.start one.closed.1))
    (passages_inside g cs (All-tail (λ x. IsOddWalk g x.walk) c cs h))

each_odd : (g : Signed) (v : ℕ → Bool) → ((c : Cycle) → IsOddWalk g c.walk → 1 ≤ count_by v c.walk.edges)
    → (cs : List Cycle) → All (λ c. IsOddWalk g c.walk) cs → All (λ c. 1 ≤ count_by v c.walk.edges) cs
each_odd g v one cs h = All-weaker (λ c. IsOddWalk g c.walk) (λ c. 1 ≤ count_by v c.walk.edges) one cs h

-- where each odd walk passes one of some edges that are no bonds, the bound is at most twice their weight
pub bound_by_edges : (g : Signed) (v : ℕ → Bool)
    → ((c : Cycle) → IsOddWalk g c.walk → 1 ≤ count_by v c.walk.edges)
    → ((e : ℕ) → v e ≡ true → is_bond (edge_at g e).kind ≡ false) → (cs : List Cycle)
    → All (λ c. IsOddWalk g c.walk) cs → OverloadsNoEdge g (passages cs)
    → bound_of cs ≤ 2 * sum_to (λ e. cond (v e) (edge_at g e).weight 0) (length g.edges)
bound_by_edges g v one firm cs odd within =
    let n = length g.edges in
    let passing = bound_passed v cs (each_odd g v one cs odd) in
    let by_edge = passed_by_edge v n (passages cs) (passages_inside g cs odd) in
    let most : sum_to (λ e. cond (v e) (load (passages cs) e) 0) n ≤ sum_to (λ e. 2 * cond (v e) (edge_at g e).weight 0) n =
    sum_to_le _ _ n (λ e l. elim (cases_Bool (v e)) [
      | inl b ↦ omega (arith, cond-true (v e) (load (passages cs) e) 0 b, cond-true (v e) (edge_at g e).weight 0 b, within e l (firm e b))
      | inr b ↦ omega (arith, cond-false (v e) (load (passages cs) e) 0 b, cond-false (v e) (edge_at g e).weight 0 b)
    ]) in
    omega (arith, passing, by_edge, most, sum_to_twice (λ e. cond (v e) (edge_at g e).weight 0) n)

-- what is broken is no bond
pub broken_no_bond : (k : Kind) (x y : Bool) → is_broken k x y ≡ true → is_bond k ≡ false
broken_no_bond Bond x y h = absurd (false≢true h)
broken_no_bond Stitch x y h = refl
broken_no_bond Clash x y h = refl

-- a packing bounds the cost of every colouring
pub packing_bounds : (g : Signed) (cs : List Cycle) (colours : List Bool) → IsPacking g cs → IsColouring g colours → bound_of cs ≤ 2 * cost_of g colours
packing_bounds g cs colours p k =
    let b = bound_by_edges g (breaks_at g colours) (odd_broken g colours k) (λ e h. broken_no_bond _ _ _ h) cs p.odd p.within in
    let c : cost_of g colours ≡ sum_to (λ e. broken_weight colours (edge_at g e)) (length g.edges) = sum_by_places (broken_weight colours) g.edges no_edge in
    omega (arith, b, c)

-- no kind of edge may weigh more than 1,000,000
pub most_most : (k : Kind) → most_weight k ≤ 1000000
most_most Bond = lit≤ tt
most_most Stitch = lit≤ tt
most_most Clash = lit≤ tt

-- no edge weighs more than 1,000,000
pub weight_most : (e : Edge) → e.weight ≤ 1000000
weight_most e = omega (arith, e.most, most_most e.kind)

weights_most : (g : Signed) (v : ℕ → Bool) (n : ℕ) → sum_to (λ e. cond (v e) (edge_at g e).weight 0) n ≤ 1000000 * n
weights_most g v zero = omega arith
weights_most g v (suc n) = elim (cases_Bool (v n)) [
  | inl b ↦ omega (arith, cond-true (v n) (edge_at g n).weight 0 b, weight_most (edge_at g n), weights_most g v n)
  | inr b ↦ omega (arith, cond-false (v n) (edge_at g n).weight 0 b, weights_most g v n)
]

-- a clash is no bond
pub clash_no_bond : (k : Kind) → is_clash k ≡ true → is_bond k ≡ false
clash_no_bond Bond h = absurd (false≢true h)
clash_no_bond Stitch h = refl
clash_no_bond Clash h = refl

-- odd walks that overload nothing have a small bound, since each passes a clash
pub bound_small : (g : Signed) (cs : List Cycle) → All (λ c. IsOddWalk g c.walk) cs → OverloadsNoEdge g (passages cs) → bound_of cs < 2 ^ 52
bound_small g cs odd within =
    let v : ℕ → Bool = λ e. is_clash (edge_at g e).kind in
    let b = bound_by_edges g v (λ c h. omega (arith, h.odd)) (λ e h. clash_no_bond _ h) cs odd within in
    omega (arith, b, weights_most g v (length g.edges), g.few_edges)

-- an edge that was read
pub edge_is : (g : Signed) (es : List Edge) (x : ℕ) (e : Edge) → es ≡ g.edges → x < length es → e ≡ get_or es x e → e ≡ edge_at g x
edge_is g es x e h l r = get_or_read es x e l r no_edge ∙ ap (λ (z : List Edge). get_or z x no_edge) h
