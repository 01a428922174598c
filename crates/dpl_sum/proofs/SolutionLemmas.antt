-- Solutions of the parts are a solution of the whole.
use Rattle.std.proofs.Common.{arith, ◌≡◌, ℕ, suc, ◌+◌, ◌*◌, ◌^◌, ◌<◌, ◌≤◌, refl, sym, subst, ◌∙◌, Bool, true, List, [], ◌∷◌, length}
use Rattle.std.specs.Prelude.{All, sum_by, slice_index_or}
use Rattle.std.proofs.lemmas.List.Sums.{sum_by-cons}
use Rattle.std.proofs.lemmas.List.Elements.{All-map}
use Rattle.dpl_sign.specs.declared.nets.Net.{Net}
use Rattle.dpl_sign.specs.declared.walks.Cycle.{Cycle}
use Rattle.dpl_sign.specs.Colourings.{cost_of}
use Rattle.dpl_sign.specs.Drawings.{dart_count, face_count}
use Rattle.dpl_sign.specs.Parity.{is_odd_face}
use Rattle.dpl_cycle.specs.Sums.{count_on}
use Rattle.dpl_sign.specs.Excess.{all_edges, aside_edges, excess}
use Rattle.dpl_sign.specs.Packings.{bound_of}
use Rattle.dpl_sign.proofs.WalkLemmas.{bound_small}
use Rattle.dpl_parts.specs.Parts.{broken_on}
use Rattle.dpl_parts.specs.Shares.{Part, ShareOut, AgreeWith, all_cycles}
use Rattle.dpl_parts.proofs.Kept.{keeps_alike}
use Rattle.dpl_parts.proofs.Shared.{sum_by_twice, cost_sum, broken_sum, faces_sum, odd_sum, kept_alike}
use Rattle.dpl_parts.proofs.Packed.{walk_inside, all_have, bound_sum, count_sum, packing_sum, once_sum}
use Rattle.dpl_parts.proofs.Together.{colouring_sum}
use Rattle.dpl_solve.specs.Named.{keeps, odd_faces}
use Rattle.dpl_solve.specs.Solved.{IsSolution, KeepToKept, kept_cost, aside_cost}
use Rattle.dpl_solve.proofs.FinishLemmas.{cost_parted}
use Rattle.dpl_sum.specs.Solved.{IsSolved}
use Rattle.dpl_sum.proofs.OddLemmas.{odd_counted}
use Rattle.dpl_list.proofs.Sums.{sum_by_alike, sum_by_two}

-- a solution says its own numbers
pub as_solved : (p : Part) (cost : ℕ) (aside : List ℕ) (excess' bound : ℕ) → IsSolution p.net p.colours cost aside excess' p.cycles bound → IsSolved p
as_solved p cost aside excess' bound s = record {
  colouring = s.colouring;
  cost_is = refl;
  aside_is = refl;
  excess_is = refl;
  packing = s.packing;
  kept = s.kept;
  bound_is = refl;
  tight = sym s.bound_is ∙ s.tight;
  rest = sym s.cost_is ∙ s.rest;
  once = s.once;
  few = s.few;
}

sum_by_most : {X : Type 0} (f g : X → ℕ) (xs : List X) → All (λ x. f x ≤ g x) xs → sum_by f xs ≤ sum_by g xs
sum_by_most f g [] h = omega arith
sum_by_most f g (x ∷ xs) h =
    let a = sum_by-cons f x xs in
    let b = sum_by-cons g x xs in
    let here : f x ≤ g x = h 0 x (omega arith) in
    let rest = sum_by_most f g xs (λ k d l. h (suc k) d (omega (arith, l))) in
    omega (arith, a, b, here, rest)

pub odd_faces_sum : (whole : Net) (parts : List Part) → ShareOut whole parts → length (odd_faces whole) ≡ sum_by (λ p. length (odd_faces p.net)) parts
odd_faces_sum whole parts h =
    odd_counted whole
    ∙ odd_sum whole parts h (keeps whole) (λ p. keeps p.net) (kept_alike whole parts h)
    ∙ sym (sum_by_alike (λ p. length (odd_faces p.net))
    (λ p. count_on (is_odd_face p.net (keeps p.net)) (dart_count p.net)) parts
    (λ k d l. let p = slice_index_or parts k d in odd_counted p.net))

pub aside_sum : (whole : Net) (parts : List Part) → ShareOut whole parts → (colours : List Bool)
    → AgreeWith colours parts → aside_cost whole colours ≡ sum_by (λ p. aside_cost p.net p.colours) parts
aside_sum whole parts h colours agree =
    let all = cost_parted whole colours in
    let costs = cost_sum whole parts h colours agree in
    let kept : kept_cost whole colours ≡ sum_by (λ p. kept_cost p.net p.colours) parts = broken_sum whole parts h colours agree in
    let each = sum_by_alike (λ p. cost_of p.net.graph p.colours)
    (λ p. kept_cost p.net p.colours + aside_cost p.net p.colours) parts
    (λ k d l. let p = slice_index_or parts k d in cost_parted p.net p.colours) in
    let two = sum_by_two (λ p. kept_cost p.net p.colours) (λ p. aside_cost p.net p.colours) parts in
    omega (arith, all, costs, kept, each, two)

module _ (whole : Net) (parts : List Part) (h : ShareOut whole parts) (solved : All IsSolved parts) where
  kept_sum : KeepToKept whole (all_cycles parts)
  kept_sum = all_have (λ c. All (λ e. keeps whole e ≡ true) c.walk.edges) parts (λ k d l.
      let p = slice_index_or parts k d in
      let s = solved k d l in
      λ j c m.
      let o = slice_index_or p.cycles j c in
      let inside = walk_inside p.net o (s.packing.odd j c m) in
      let own = s.kept j c m in
      All-map (λ e. keeps whole e ≡ true) p.edge o.walk.edges
      (λ i x b. keeps_alike p.net whole p.node p.edge (h.are k d l) (slice_index_or o.walk.edges i x)
      (inside i x b) ∙ own i x b))

  few_sum : length (all_cycles parts) ≤ face_count whole (keeps whole) + 2 * length (odd_faces whole)
  few_sum =
      let n = count_sum parts in
      let each = sum_by_most (λ p. length p.cycles) (λ p. face_count p.net (keeps p.net) + 2 * length (odd_faces p.net)) parts (λ k d l. (solved k d l).few) in
      let two = sum_by_two (λ p. face_count p.net (keeps p.net)) (λ p. 2 * length (odd_faces p.net)) parts in
      let twice = sum_by_twice (λ p. length (odd_faces p.net)) parts in
      let faces : face_count whole (keeps whole) ≡ sum_by (λ p. face_count p.net (keeps p.net)) parts =
      faces_sum whole parts h (keeps whole) (λ p. keeps p.net) (kept_alike whole parts h) in
      let odd = odd_faces_sum whole parts h in
      omega (arith, n, each, two, twice, faces, odd)

  tight_sum : (colours : List Bool) → AgreeWith colours parts → bound_of (all_cycles parts) ≡ 2 * kept_cost whole colours
  tight_sum colours agree =
      let b = bound_sum parts in
      let each = sum_by_alike (λ p. bound_of p.cycles) (λ p. 2 * broken_on p.net p.colours) parts (λ k d l. (solved k d l).tight) in
      let twice = sum_by_twice (λ p. broken_on p.net p.colours) parts in
      let all : kept_cost whole colours ≡ sum_by (λ p. broken_on p.net p.colours) parts = broken_sum whole parts h colours agree in
      omega (arith, b, each, twice, all)

  pub solution_sum : (colours : List Bool) → length colours ≡ whole.graph.nodes → AgreeWith colours parts
      → IsSolution whole colours (cost_of whole.graph colours) (aside_edges whole) (excess whole all_edges) (all_cycles parts) (bound_of (all_cycles parts))
  solution_sum colours long agree = record {
    colouring = colouring_sum whole parts h colours long agree (λ k d l. (solved k d l).colouring);
    cost_is = refl;
    aside_is = refl;
    excess_is = refl;
    packing = packing_sum whole parts h (λ k d l. (solved k d l).packing);
    kept = kept_sum;
    bound_is = refl;
    tight = tight_sum colours agree;
    rest = cost_parted whole colours;
    once = once_sum whole parts h (λ k d l. (solved k d l).packing) (λ k d l. (solved k d l).once);
    few = few_sum;
  }

-- the same solution by numbers that are the same
pub restated : (net : Net) (colours : List Bool) (cost cost' : ℕ) (aside aside' : List ℕ)
    → (excess' excess'' : ℕ) (cycles cycles' : List Cycle) (bound bound' : ℕ)
    → IsSolution net colours cost aside excess' cycles bound → cost' ≡ cost → aside' ≡ aside
    → excess'' ≡ excess' → cycles' ≡ cycles → bound' ≡ bound
    → IsSolution net colours cost' aside' excess'' cycles' bound'
restated net colours cost cost' aside aside' excess' excess'' cycles cycles' bound bound' s ec ea ex ey eb =
    subst (λ y. IsSolution net colours cost' aside' excess'' y bound') (sym ey) (record {
      colouring = s.colouring;
      cost_is = ec ∙ s.cost_is;
      aside_is = ea ∙ s.aside_is;
      excess_is = ex ∙ s.excess_is;
      packing = s.packing;
      kept = s.kept;
      bound_is = eb ∙ s.bound_is;
      tight = eb ∙ s.tight;
      rest = ec ∙ s.rest;
      once = s.once;
      few = s.few;
    })

pub bound_low : (net : Net) (parts : List Part) → ShareOut net parts → All IsSolved parts → bound_of (all_cycles parts) < 2 ^ 64
bound_low net parts h solved =
    let p = packing_sum net parts h (λ k d l. (solved k d l).packing) in
    let b = bound_small net.graph (all_cycles parts) p.odd p.within in
    omega (arith, b)
