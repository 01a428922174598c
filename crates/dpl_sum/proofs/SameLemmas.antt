-- A solution of a net is one of each net with the same nodes, edges and ports.
use Rattle.std.proofs.Common.{arith, ◌≡◌, ℕ, zero, suc, ◌≤◌, not, List, [], ◌∷◌, ◌++◌, length, map, refl, sym, ap, subst, ◌∙◌, Bool}
use Rattle.std.specs.Prelude.{All, if◌then◌else◌}
use Rattle.std.proofs.lemmas.List.{append-nil}
use Rattle.std.proofs.lemmas.List.Sums.{sum_by-cons}
use Rattle.dpl_sign.specs.declared.edges.Edge.{Edge}
use Rattle.dpl_sign.specs.declared.nets.Net.{Net}
use Rattle.dpl_sign.specs.declared.walks.Cycle.{Cycle}
use Rattle.dpl_sign.specs.Colourings.{cost_of}
use Rattle.dpl_sign.specs.Excess.{all_edges, aside_before, aside_edges, excess, is_aside}
use Rattle.dpl_sign.specs.Packings.{bound_of}
use Rattle.dpl_parts.specs.Parts.{IsPartOf}
use Rattle.dpl_parts.specs.Shares.{Part, ShareOut, AgreeWith, renumbered, all_cycles}
use Rattle.dpl_parts.proofs.Kept.{keeps_alike}
use Rattle.dpl_parts.proofs.Shared.{cost_sum, excess_sum}
use Rattle.dpl_solve.specs.Solved.{IsSolution}
use Rattle.dpl_sum.specs.Solved.{IsSolved, AreSameNets}
use Rattle.dpl_sum.proofs.SolutionLemmas.{as_solved, solution_sum, restated}

map_same : (es : List ℕ) → map (λ e. e) es ≡ es
map_same [] = refl
map_same (e ∷ es) = ap (λ zs. e ∷ zs) (map_same es)

-- the whole net as a part, with colours and cycles
abbrev itself : Net → List Bool → List Cycle → Part
itself net colours cycles = record { net = net; node = λ v. v; edge = λ e. e; colours = colours; cycles = cycles }

numbers_stay : (net : Net) (colours : List Bool) (all cs : List Cycle) → map (renumbered (itself net colours all)) cs ≡ cs
numbers_stay net colours all [] = refl
numbers_stay net colours all (c ∷ cs) =
    let one : renumbered (itself net colours all) c ≡ c =
    ap (λ (es : List ℕ). record { half = c.half; walk = record { start = c.walk.start; edges = es } })
    (map_same c.walk.edges) in
    ap (λ z. z ∷ map (renumbered (itself net colours all)) cs) one ∙ ap (λ zs. c ∷ zs) (numbers_stay net colours all cs)

module _ (old new : Net) (same : AreSameNets old new) where
  is_part : IsPartOf old new (λ v. v) (λ e. e)
  is_part =
      let n = same.nodes in
      let m = same.count in
      record {
        nodes = λ v l. omega (arith, l, n);
        apart = λ u v l k e. e;
        edges = λ e l. omega (arith, l, m);
        order = λ e f l k. l;
        first = λ e l. ap (λ (x : Edge). x.a) (sym (same.edges e l));
        second = λ e l. ap (λ (x : Edge). x.b) (sym (same.edges e l));
        kind = λ e l. ap (λ (x : Edge). x.kind) (sym (same.edges e l));
        weight = λ e l. ap (λ (x : Edge). x.weight) (sym (same.edges e l));
        ports = λ e l. sym (same.ports e l);
        closed = λ f v l k near. (f, omega (arith, l, m), refl);
      }

  aside_same : (n : ℕ) → n ≤ length old.graph.edges → aside_before old n ≡ aside_before new n
  aside_same zero l = refl
  aside_same (suc n) l =
      let r = aside_same n (omega (arith, l)) in
      let k : is_aside old n ≡ is_aside new n = ap not (sym (keeps_alike old new (λ v. v) (λ e. e) is_part n (omega (arith, l)))) in
      ap (λ (zs : List ℕ). if is_aside old n then zs ++ n ∷ [] else zs) r ∙ ap (λ b. if b then aside_before new n ++ n ∷ [] else aside_before new n) k

  module _ (colours : List Bool) (cycles : List Cycle) where
    alone : ShareOut new (itself old colours cycles ∷ [])
    alone =
        let n = same.nodes in record {
          are = are_one;
          apart = λ i j d l k. absurd (omega (arith, l, k));
          all = λ w l. record { part = itself old colours cycles; among = (0, omega arith, refl); own = w; below = omega (arith, l, n); is = refl };
        } where
          are_one : All (λ p. IsPartOf p.net new p.node p.edge) (itself old colours cycles ∷ [])
          are_one zero d l = is_part
          are_one (suc k) d l = absurd (omega (arith, l))

    agree_alone : AgreeWith colours (itself old colours cycles ∷ [])
    agree_alone zero d l v m = refl
    agree_alone (suc k) d l v m = absurd (omega (arith, l))

  pub solution_stays : (colours : List Bool) (cost : ℕ) (aside : List ℕ) (excess' : ℕ) (cycles : List Cycle) (bound : ℕ)
      → IsSolution old colours cost aside excess' cycles bound → IsSolution new colours cost aside excess' cycles bound
  solution_stays colours cost aside excess' cycles bound s =
      let p = itself old colours cycles in
      let share = alone colours cycles in
      let agree = agree_alone colours cycles in
      let long : length colours ≡ new.graph.nodes = s.colouring.length ∙ same.nodes in
      let whole = solution_sum new (p ∷ []) share (one_solved p (as_solved p cost aside excess' bound s)) colours long agree in
      let costs = cost_sum new (p ∷ []) share colours agree in
      let cost_one = sum_by-cons (λ (q : Part). cost_of q.net.graph q.colours) p [] in
      let over = excess_sum new (p ∷ []) share all_edges (λ q. all_edges) (λ k d l e m. refl) in
      let over_one = sum_by-cons (λ (q : Part). excess q.net all_edges) p [] in
      let is_cost = s.cost_is in
      let is_excess = s.excess_is in
      let ec : cost ≡ cost_of new.graph colours = omega (arith, costs, cost_one, is_cost) in
      let ex : excess' ≡ excess new all_edges = omega (arith, over, over_one, is_excess) in
      let ea : aside ≡ aside_edges new = s.aside_is ∙ aside_same (length old.graph.edges) (omega arith) ∙ ap (aside_before new) same.count in
      let ey : cycles ≡ all_cycles (p ∷ []) = sym (append-nil (map (renumbered p) cycles) ∙ numbers_stay old colours cycles cycles) in
      restated new colours _ cost _ aside _ excess' _ cycles _ bound whole ec ea ex ey (s.bound_is ∙ ap bound_of ey) where
        one_solved : (p : Part) → IsSolved p → All IsSolved (p ∷ [])
        one_solved p h zero d l = h
        one_solved p h (suc k) d l = absurd (omega (arith, l))

-- a part with the colours and the cycles of one whose net is the same
pub solved_stays : (old new : Part) → AreSameNets old.net new.net → new.colours ≡ old.colours → new.cycles ≡ old.cycles → IsSolved old → IsSolved new
solved_stays old new same ec ey h =
    let s = solution_stays old.net new.net same old.colours _ _ _ old.cycles _ h in
    let between : Part = record { net = new.net; node = new.node; edge = new.edge; colours = old.colours; cycles = old.cycles } in
    let u = as_solved between _ _ _ _ s in
    let P : List Bool → Type 0 = λ c. IsSolution new.net c (cost_of new.net.graph c) (aside_edges new.net)
    (excess new.net all_edges) old.cycles (bound_of old.cycles) in
    let Q : List Cycle → Type 0 = λ y. IsSolution new.net new.colours (cost_of new.net.graph new.colours)
    (aside_edges new.net) (excess new.net all_edges) y (bound_of y) in
    subst Q (sym ey) (subst P (sym ec) u)
