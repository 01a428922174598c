-- The odd faces of a part: different faces of it, each linked to each other one.
use Rattle.std.proofs.Common.{arith, ◌≡◌, ◌≢◌, ℕ, ◌<◌, ◌==◌, sym, ◌∙◌, subst, List, length, get_or}
use Rattle.std.specs.Prelude.{AllPairs, slice_index, nat_eq}
use Rattle.std.specs.List.{range_with_len}
use Rattle.std.specs.Cmp.{nat_eq_equiv}
use Rattle.std.proofs.lemmas.Bool.{eqb-true}
use Rattle.std.proofs.lemmas.Bool.Decides.{Decides-eqb}
use Rattle.std.proofs.lemmas.List.FromFn.{get_or-range_with_len, length-range_with_len}
use Rattle.std.proofs.lemmas.List.Kept.{AllPairs-filter}
use Rattle.std.proofs.lemmas.Map.Keys.{IsDistinct-IsPermutation}
use Rattle.std.proofs.lemmas.Map.Made.{IsDistinct-from_AllPairs, AllPairs-from_IsDistinct}
use Rattle.dpl_sign.specs.declared.graphs.Signed.{Signed}
use Rattle.dpl_map.specs.Views.{MapView, view_of}
use Rattle.dpl_map.specs.Sides.{is_odd_face}
use Rattle.dpl_dual.specs.declared.crosses.Dual.{Dual}
use Rattle.dpl_dual.specs.Chains.{AreLinked}
use Rattle.dpl_dual.specs.Duals.{IsDual, CameFromDual}
use Rattle.dpl_pack.specs.Moats.{AreTerminals}
use Rattle.dpl_pack.proofs.MoatLemmas.{terminal_facts, linked_parts}
use Rattle.dpl_solve.specs.Parts.{odd_of}

-- ---- faces of the part

-- a terminal is a face of the part
pub terminal_at : (d : Dual) (terminals : List ℕ) → CameFromDual d → (t : AreTerminals d terminals) → (i : ℕ)
    → i < length terminals
    → (slice_index terminals i < d.faces) × (slice_index d.part (slice_index terminals i) ≡ t.part)
terminal_at d terminals c t i h =
    let k = terminal_facts d terminals c t i 0 h in
    (k.0, eqb-true (slice_index d.part (get_or terminals i 0)) t.part k.1)

pub terminals_linked : (d : Dual) (terminals : List ℕ) → CameFromDual d → AreTerminals d terminals → (i j : ℕ)
    → i < length terminals → j < length terminals
    → AreLinked d.crosses (slice_index terminals i) (slice_index terminals j)
terminals_linked d terminals c t i j hi hj =
    let a = terminal_at d terminals c t i hi in
    let b = terminal_at d terminals c t j hj in
    linked_parts d c (slice_index terminals i) (slice_index terminals j) a.0 b.0 (a.1 ∙ sym b.1)

-- ---- different ones

range_apart : (n : ℕ) → AllPairs (λ x y. x ≢ y) (range_with_len 0 n)
range_apart n i j d l m e =
    let size = length-range_with_len 0 n in
    absurd (omega (arith, l, e, get_or-range_with_len 0 n i d (omega (arith, l, m, size)), get_or-range_with_len 0 n j d (omega (arith, m, size))))

pub odd_apart : (g : Signed) (m : MapView) (d : Dual) → IsDual g m d → AllPairs (λ x y. x ≢ y) d.odd
odd_apart g m d k = subst (AllPairs (λ x y. x ≢ y)) (sym k.odd)
    (AllPairs-filter (λ x y. x ≢ y) (is_odd_face g m) (range_with_len 0 m.faces) (range_apart m.faces))

pub part_apart : (g : Signed) (m : MapView) (d : Dual) → IsDual g m d → (q : ℕ) → AllPairs (λ x y. x ≢ y) (odd_of d q)
part_apart g m d k q = AllPairs-filter (λ x y. x ≢ y) (λ x. slice_index d.part x == q) d.odd (odd_apart g m d k)

pub terminals_apart : (d : Dual) (terminals : List ℕ) → CameFromDual d → AreTerminals d terminals → AllPairs (λ x y. x ≢ y) terminals
terminals_apart d terminals c t = AllPairs-from_IsDistinct Decides-eqb terminals
    (IsDistinct-IsPermutation nat_eq nat_eq_equiv.symm (odd_of d t.part) terminals t.are
    (IsDistinct-from_AllPairs Decides-eqb (odd_of d t.part) (part_apart c.0 (view_of c.1) d c.3 t.part)))
