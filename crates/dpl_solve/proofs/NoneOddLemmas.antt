-- Where no face is odd, no edge is joined, and there are no walks.
use Rattle.std.proofs.Common.{arith, ◌≡◌, ℕ, zero, suc, ◌*◌, ◌/◌, ◌%◌, ◌≤◌, ◌==◌, ◌&&◌, refl, sym, ap, ◌∙◌, subst}
use Rattle.std.proofs.Common.{Bool, true, false, inl, inr, List, [], ◌∷◌, length, get_or, replicate, eq-eqb}
use Rattle.std.specs.Prelude.{All, count_by}
use Rattle.std.proofs.lemmas.Bool.{cases_eq, cases_Bool, cond-true, cond-false, true≢false}
use Rattle.std.proofs.lemmas.List.{length-replicate}
use Rattle.std.proofs.lemmas.List.Elements.{All-nil}
use Rattle.dpl_cycle.specs.Sums.{sum_on}
use Rattle.dpl_list.proofs.Lists.{repeated}
use Rattle.dpl_sign.specs.declared.graphs.Signed.{Signed}
use Rattle.dpl_sign.specs.declared.nets.Net.{Net}
use Rattle.dpl_sign.specs.declared.walks.Cycle.{Cycle}
use Rattle.dpl_sign.specs.Walks.{edge_at, IsOddWalk}
use Rattle.dpl_map.specs.Views.{MapView, view_of}
use Rattle.dpl_map.specs.Sides.{is_kept, face, clash_bit, is_odd_face}
use Rattle.dpl_map.specs.Planes.{joined_bit}
use Rattle.dpl_colour.specs.Meets.{is_joined, bits_on}
use Rattle.dpl_dual.specs.Duals.{odd_numbers}
use Rattle.dpl_solve.specs.Optimum.{MakeSolution}
use Rattle.dpl_solve.proofs.NamedLemmas.{none_odd}

sum_zeros : (p : ℕ → Bool) (w : ℕ → ℕ) (n : ℕ) → ((e : ℕ) → w e ≡ 0) → sum_on p w n ≡ 0
sum_zeros p w zero h = refl
sum_zeros p w (suc n) h = elim (cases_Bool (p n)) [
  | inl t ↦ omega (arith, sum_zeros p w n h, h n, cond-true {A = ℕ} (p n) (w n) 0 t)
  | inr t ↦ omega (arith, sum_zeros p w n h, cond-false {A = ℕ} (p n) (w n) 0 t)
]

sum_over_none : (p : ℕ → Bool) (w : ℕ → ℕ) (n : ℕ) → ((e : ℕ) → p e ≡ false) → sum_on p w n ≡ 0
sum_over_none p w zero h = refl
sum_over_none p w (suc n) h = omega (arith, sum_over_none p w n h, cond-false {A = ℕ} (p n) (w n) 0 (h n))

even_bits : (g : Signed) (m : MapView) (f : ℕ) → is_odd_face g m f ≡ false → bits_on g m (clash_bit g) f % 2 ≡ 0
even_bits g m f h = elim (cases_eq (bits_on g m (clash_bit g) f % 2) 1) [
  | inl t ↦ absurd (true≢false (sym (eq-eqb (bits_on g m (clash_bit g) f % 2) 1 t) ∙ h))
  | inr t ↦ omega (arith, t)
]

no_items : (xs : List ℕ) → length xs ≡ 0 → xs ≡ []
no_items [] h = refl
no_items (x ∷ xs) h = absurd (omega (arith, h))

made_here : (net n : Net) → n ≡ net → odd_numbers net.graph (view_of n) ≡ [] → (joined : List Bool)
    → joined ≡ replicate (length net.graph.edges) false → MakeSolution net (view_of n) joined []
made_here net n same none joined is =
    let g = net.graph in
    let m = view_of n in
    let off : (e : ℕ) → is_joined joined e ≡ false = λ e. ap (λ z. get_or z e false) is ∙ repeated (length g.edges) e false in
    let bit_off : (e : ℕ) → joined_bit joined e ≡ 0 = λ e. cond-false {A = ℕ} (is_joined joined e) 1 0 (off e) in
    record {
      places = ap (λ (z : List Bool). length z) is ∙ length-replicate (length g.edges) false;
      meets = record {
        kept = λ e l j. absurd (true≢false (sym j ∙ off e));
        firm = λ e l j. absurd (true≢false (sym j ∙ off e));
        faces = λ f l. omega (
          arith,
          even_bits g m f (none_odd (is_odd_face g m) m.faces none f l),
          sum_zeros (λ d. is_kept m d && (face m d == f)) (λ d. joined_bit joined (d / 2)) (2 * length g.edges) (λ d. bit_off (d / 2)),
        );
      };
      packing = record {
        halves = All-nil (λ (c : Cycle). 1 ≤ c.half);
        odd = All-nil (λ (c : Cycle). IsOddWalk g c.walk);
        within = λ e l b. omega arith;
      };
      kept = All-nil (λ (c : Cycle). All (λ e. is_kept m (2 * e) ≡ true) c.walk.edges);
      once = All-nil (λ (c : Cycle). (e : ℕ) → count_by (λ x. x == e) c.walk.edges ≤ 1);
      light = omega (arith, sum_over_none (is_joined joined) (λ e. (edge_at g e).weight) (length g.edges) off);
      few = omega arith;
    }

-- where the list of odd faces is empty
pub made_even : (net n : Net) → n ≡ net → (odd : List ℕ) → odd ≡ odd_numbers net.graph (view_of n) → length odd ≡ 0
    → (joined : List Bool) → joined ≡ replicate (length net.graph.edges) false → (cs : List Cycle) → cs ≡ []
    → MakeSolution net (view_of n) joined cs
made_even net n same odd are none joined is cs fresh =
    subst (λ z. MakeSolution net (view_of n) joined z) (sym fresh)
    (made_here net n same (sym are ∙ no_items odd none) joined is)
