-- The dual is a ground in which moats grow, and the odd faces of a part are seats of members.
use Rattle.std.proofs.Common.{arith, ◌≡◌, ℕ, zero, suc, ◌%◌, ◌^◌, ◌≤◌, ◌==◌, Bool, refl, sym, ap, ◌∙◌, subst}
use Rattle.std.proofs.Common.{inl, inr, List, [], ◌∷◌, length, length-append, get_or, cond}
use Rattle.std.specs.Prelude.{All, Contains, filter, slice_index}
use Rattle.std.specs.List.{range_with_len}
use Rattle.std.proofs.lemmas.Bool.{cases_Bool, eqb-true, cond-true, cond-false}
use Rattle.std.proofs.lemmas.List.FromFn.{length-range_with_len}
use Rattle.std.proofs.lemmas.List.Sorted.{length_permutation}
use Rattle.std.proofs.lemmas.List.Sums.{count_by-le-length, length-filter}
use Rattle.dpl_limits.specs.declared.TheConstants.{MOST_EDGES}
use Rattle.dpl_limits.proofs.Fits.{darts_fit}
use Rattle.dpl_laminar.specs.declared.TheConstants.{MOST_MEMBERS}
use Rattle.dpl_sign.specs.declared.graphs.Signed.{Signed}
use Rattle.dpl_sign.specs.declared.nets.Net.{Net}
use Rattle.dpl_sign.specs.Drawings.{dart_count}
use Rattle.dpl_sign.specs.Parity.{is_odd_face}
use Rattle.dpl_map.specs.Built.{IsMapOf}
use Rattle.dpl_map.specs.Views.{MapView, view_of}
use Rattle.dpl_map.proofs.ViewLemmas.{map_of}
use Rattle.dpl_dual.specs.declared.crosses.Cross.{Cross}
use Rattle.dpl_dual.specs.declared.crosses.Dual.{Dual}
use Rattle.dpl_dual.specs.Chains.{Leads}
use Rattle.dpl_dual.specs.Duals.{IsDual, CameFromDual, is_crossable, cross_of, crosses_below}
use Rattle.dpl_dual.proofs.ChainLemmas.{IsCross, below_cross, beyond_first, crosses_inside}
use Rattle.dpl_dual.proofs.NameLemmas.{has_cross}
use Rattle.dpl_pack.specs.Moats.{AreTerminals}
use Rattle.dpl_pack.proofs.MoatLemmas.{terminal_facts}
use Rattle.dpl_flood.specs.Flips.{AreOverChains}
use Rattle.dpl_flood.specs.Starts.{AreSeats}
use Rattle.dpl_flood.specs.States.{IsGround}
use Rattle.dpl_solve.specs.Named.{keeps}
use Rattle.dpl_solve.proofs.EvenLemmas.{even_terminals}
use Rattle.dpl_solve.proofs.NamedLemmas.{odd_named_most}
use Rattle.dpl_solve.proofs.ShortLemmas.{cross_length, short_chain}
use Rattle.dpl_solve.proofs.TerminalLemmas.{terminal_at, terminals_linked, terminals_apart}

pub dual_crosses : (g : Signed) (m : MapView) (d : Dual) → IsDual g m d → All (IsCross g m) d.crosses
dual_crosses g m d k = subst (λ z. All (IsCross g m) z) (sym k.crosses) (below_cross g m (length g.edges) (omega arith))

-- there are no more ways than edges
crosses_few : (g : Signed) (m : MapView) (n : ℕ) → length (crosses_below g m n) ≤ n
crosses_few g m zero = omega arith
crosses_few g m (suc n) =
    let one : List Cross = cross_of g m n ∷ [] in
    let last : length (cond (is_crossable g m n) one []) ≤ 1 = elim (cases_Bool (is_crossable g m n)) [
      | inl t ↦ omega (arith, ap length (cond-true (is_crossable g m n) one [] t))
      | inr t ↦ omega (arith, ap length (cond-false (is_crossable g m n) one [] t))
    ] in
    omega (arith, crosses_few g m n, last, length-append (crosses_below g m n) (cond (is_crossable g m n) one []))

-- the two faces of a way are of one part
part_same : (d : Dual) → CameFromDual d → All (λ x. slice_index d.part x.f ≡ slice_index d.part x.g) d.crosses
part_same d c i y l =
    let g = c.0 in
    let m = view_of c.1 in
    let dual : IsDual g m d = c.3 in
    let x : Cross = get_or d.crosses i y in
    let is = dual_crosses g m d dual i y l in
    let there : Contains d.crosses (cross_of g m x.edge) =
    subst (λ z. Contains z (cross_of g m x.edge)) (sym dual.crosses) (has_cross g m (length g.edges) x.edge is.edge is.crossable) in
    let leads : Leads d.crosses x.f (x ∷ []) x.g = (subst (Contains d.crosses) (sym is.is) there, inl refl, beyond_first x) in
    let inside = crosses_inside d c i y l in
    (dual.part x.f x.g (omega (arith, inside.0, dual.faces)) (omega (arith, inside.1, dual.faces))).1 (x ∷ [], leads)

pub dual_ground : (d : Dual) → CameFromDual d → IsGround d
dual_ground d c =
    let g = c.0 in
    let m = view_of c.1 in
    let dual : IsDual g m d = c.3 in
    let crosses = dual_crosses g m d dual in
    record {
      inside = crosses_inside d c;
      part = part_same d c;
      even = λ i y l. omega (arith, ap (λ z. z.length) (crosses i y l).is);
      short = λ i y l. omega (arith, cross_length g m (get_or d.crosses i y) (crosses i y l));
      few = omega (arith, ap length dual.crosses, crosses_few g m (length g.edges), g.few_edges);
    }

-- ---- the odd faces of a part

-- odd faces are named by darts, of which each edge has two
pub terminals_few : (g : Signed) (net : Net) → IsMapOf g net → (d : Dual) → IsDual g (view_of net) d
    → length g.edges ≤ MOST_EDGES → (terminals : List ℕ) → AreTerminals d terminals
    → length terminals ≤ MOST_MEMBERS
terminals_few g net same d dual few terminals t =
    let own : IsDual net.graph (view_of net) d = subst (λ (z : Signed). IsDual z (view_of net) d) (sym same) dual in
    let of_part : ℕ → Bool = λ f. slice_index d.part f == t.part in
    let odd : ℕ → Bool = is_odd_face net (keeps net) in
    omega (
      arith,
      length_permutation (filter of_part d.odd) terminals t.are,
      length-filter of_part d.odd,
      count_by-le-length of_part d.odd,
      odd_named_most net d own,
      length-filter odd (range_with_len 0 (dart_count net)),
      count_by-le-length odd (range_with_len 0 (dart_count net)),
      length-range_with_len 0 (dart_count net),
      ap (λ (z : Signed). length z.edges) same,
      few,
      darts_fit,
    )

pub terminal_seats : (d : Dual) (terminals : List ℕ) → CameFromDual d → AreTerminals d terminals
    → length terminals ≤ MOST_MEMBERS → AreSeats d terminals
terminal_seats d terminals c t few = record {
  few = few;
  inside = λ i y l. (terminal_facts d terminals c t i y l).0;
  part = λ i y l. eqb-true (slice_index d.part (get_or terminals i y)) t.part (terminal_facts d terminals c t i y l).1 ∙
      sym (terminal_at d terminals c t 0 t.some).1;
  once = λ i j l h. terminals_apart d terminals c t i j 0 l h;
}

pub terminals_even : (d : Dual) (terminals : List ℕ) → CameFromDual d → AreTerminals d terminals → length terminals % 2 ≡ 0
terminals_even d terminals c t = even_terminals c.0 (view_of c.1) (map_of c.0 c.1 c.2) d c.3 terminals t

-- a chain leads from each to each other one that is not long
pub terminals_near : (d : Dual) (terminals : List ℕ) → CameFromDual d → AreTerminals d terminals
    → AreOverChains d.crosses terminals (λ s u. 2 ^ 51)
terminals_near d terminals c t s u hs hu n =
    let g = c.0 in
    let m = view_of c.1 in
    let link = terminals_linked d terminals c t s u hs hu in
    let short = short_chain g m d.crosses (dual_crosses g m d c.3) (slice_index terminals s) (slice_index terminals u) link in
    (short.0, short.1, omega (arith, short.2, g.few_edges))
