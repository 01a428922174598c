-- What is alike is alone.
use Rattle.std.proofs.Common.{arith, ◌≡◌, ℕ, ◌<◌, inl, inr, true, List, length, refl, sym, ap, subst, ◌∙◌, slice_index_or}
use Rattle.std.specs.Prelude.{Option, Some}
use Rattle.std.proofs.lemmas.Bool.{cases_lt, both_ways}
use Rattle.std.proofs.lemmas.Option.{same_Some}
use Rattle.dpl_sign.specs.declared.edges.Edge.{Edge}
use Rattle.dpl_sign.specs.declared.nets.Net.{Net}
use Rattle.dpl_sign.specs.declared.ports.Port.{Port}
use Rattle.dpl_sign.specs.Walks.{no_edge, edge_at}
use Rattle.dpl_stay.specs.Order.{rank_of, key_of, key_before, AreEdgesInOrder}
use Rattle.dpl_stay.specs.Pairs.{at, IsAlikeBy}
use Rattle.dpl_stay.proofs.OrderLemmas.{key_self}

-- no two edges have one key
pub one_edge : (edges : List Edge) → AreEdgesInOrder edges → (d f : ℕ) → d < length edges → f < length edges
    → key_of (slice_index_or edges d no_edge) ≡ key_of (slice_index_or edges f no_edge) → d ≡ f
one_edge edges up d f l m e = elim (cases_lt d f) [
  | inl low ↦ absurd (both_ways _ (key_self (key_of (slice_index_or edges f no_edge)))
      (subst (λ k. key_before k (key_of (slice_index_or edges f no_edge)) ≡ true) e (up d f no_edge low m)))
  | inr a ↦ elim (cases_lt f d) [
    | inl low ↦ absurd (both_ways _ (key_self (key_of (slice_index_or edges f no_edge)))
        (subst (λ k. key_before (key_of (slice_index_or edges f no_edge)) k ≡ true) e (up f d no_edge low l)))
    | inr b ↦ omega (arith, a, b)
  ]
]

-- what is alike has the key that is looked for
pub alike_key : (partners : List (Option ℕ)) (m : Net) (e : Edge) (p : Port × Port) (d a b : ℕ)
    → IsAlikeBy partners m e p d → at partners e.a ≡ Some a → at partners e.b ≡ Some b
    → key_of (edge_at m.graph d) ≡ record { rank = rank_of e.kind; a = a; b = b }
alike_key partners m e p d a b h ea eb =
    let x : (edge_at m.graph d).a ≡ a = same_Some _ _ (sym h.first ∙ ea) in
    let y : (edge_at m.graph d).b ≡ b = same_Some _ _ (sym h.second ∙ eb) in
    let z : rank_of (edge_at m.graph d).kind ≡ rank_of e.kind = ap rank_of h.kind in
    rw (x, y, z) refl
