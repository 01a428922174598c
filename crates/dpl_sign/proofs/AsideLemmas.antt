-- What is set aside depends on the excess alone, and an edge that is set aside would raise it.
use Rattle.std.proofs.Common.{arith, ◌≡◌, ℕ, zero, suc, ◌<◌, ◌==◌, ◌||◌, refl, sym, ap, ◌∙◌, Bool}
use Rattle.std.proofs.Common.{true, false, not, inl, inr, List, [], ◌∷◌, ◌++◌, length, nat_lt, eq-eqb}
use Rattle.std.specs.Prelude.{◌↔◌, if◌then◌else◌}
use Rattle.std.proofs.lemmas.Bool.{cases_eq, cases_Bool, ne_eqb, ltb-true, not-true, not-false}
use Rattle.dpl_sign.specs.declared.nets.Net.{Net}
use Rattle.dpl_sign.specs.Drawings.{is_in}
use Rattle.dpl_sign.specs.Excess.{excess, with_edge, raises_excess, kept_before, kept_edges, is_aside, aside_before, aside_edges}
use Rattle.dpl_sign.proofs.Same.{excess_same}
use Rattle.dpl_sign.proofs.ExcessLemmas.{kept_plane, kept_length, in_front}
use Rattle.dpl_sign.proofs.KeptLemmas.{kept_at, kept_early, kept_inside}
use Rattle.dpl_sign.proofs.MonotoneLemmas.{excess_rises}

-- ---- by the excess alone

-- the sets of one net have the excess that they have in the other
abbrev pub HaveOneExcess : Net → Net → Type 0
HaveOneExcess n m = (set : ℕ → Bool) → excess m set ≡ excess n set

raises_alike : (n m : Net) → HaveOneExcess n m → (kept : List Bool) → raises_excess m kept ≡ raises_excess n kept
raises_alike n m h kept = ap (λ z. nat_lt z (excess m (is_in (kept ++ true ∷ [])))) (h (is_in kept)) ∙
    ap (λ z. nat_lt (excess n (is_in kept)) z) (h (is_in (kept ++ true ∷ [])))

kept_alike : (n m : Net) → HaveOneExcess n m → (e : ℕ) → kept_before m e ≡ kept_before n e
kept_alike n m h zero = refl
kept_alike n m h (suc e) = ap (λ ks. ks ++ not (raises_excess m ks) ∷ []) (kept_alike n m h e) ∙
    ap (λ b. kept_before n e ++ not b ∷ []) (raises_alike n m h (kept_before n e))

-- then the same edges are kept
pub kept_by_excess : (n m : Net) → length m.graph.edges ≡ length n.graph.edges → HaveOneExcess n m → kept_edges m ≡ kept_edges n
kept_by_excess n m l h = ap (kept_before m) l ∙ kept_alike n m h (length n.graph.edges)

aside_alike : (n m : Net) → kept_edges m ≡ kept_edges n → (e : ℕ) → aside_before m e ≡ aside_before n e
aside_alike n m k zero = refl
aside_alike n m k (suc e) = ap (λ ks. if not (is_in ks e) then aside_before m e ++ e ∷ [] else aside_before m e) k ∙
    ap (λ (xs : List ℕ). if is_aside n e then xs ++ e ∷ [] else xs) (aside_alike n m k e)

-- and the same are set aside
pub aside_by_excess : (n m : Net) → length m.graph.edges ≡ length n.graph.edges → HaveOneExcess n m → aside_edges m ≡ aside_edges n
aside_by_excess n m l h = ap (aside_before m) l ∙ aside_alike n m (kept_by_excess n m l h) (length n.graph.edges)

-- ---- put back

either : (a b : Bool) → b ≡ true → (a || b) ≡ true
either true b h = refl
either false b h = h

-- what is kept before an edge, and the edge, is in the set of all kept edges with that edge
in_more : (net : Net) (e x : ℕ) → e < length net.graph.edges → x < length net.graph.edges
    → is_in (kept_before net e ++ true ∷ []) x ≡ true → with_edge (is_in (kept_edges net)) e x ≡ true
in_more net e x l m t = elim (cases_eq x e) [
  | inl r ↦ rw (eq-eqb x e r) refl
  | inr r ↦
      let s : is_in (kept_before net e) x ≡ true = sym (in_front (kept_before net e) true x (λ q. r (q ∙ kept_length net e))) ∙ t in
      either (x == e) (is_in (kept_edges net) x) (kept_early net (length net.graph.edges) e x m (kept_inside net e x s) ∙ s)
]

raised : (net : Net) (e : ℕ) → e < length net.graph.edges → is_aside net e ≡ true
    → excess net (is_in (kept_edges net)) < excess net (with_edge (is_in (kept_edges net)) e)
raised net e l t =
    let plane : excess net (is_in (kept_edges net)) ≡ 0 = kept_plane net (length net.graph.edges) (omega arith) in
    let out : not (raises_excess net (kept_before net e)) ≡ false = sym (kept_at net (length net.graph.edges) e l) ∙ not-true (is_in (kept_edges net) e) t in
    let raises = ltb-true (excess net (is_in (kept_before net e))) (excess net (is_in (kept_before net e ++ true ∷ []))) (not-false _ out) in
    let rest = excess_rises net (is_in (kept_before net e ++ true ∷ [])) (with_edge (is_in (kept_edges net)) e) (λ x m s. in_more net e x l m s) in
    omega (arith, plane, raises, rest)

back_in : (net : Net) (e : ℕ) → is_in (kept_edges net) e ≡ true → excess net (with_edge (is_in (kept_edges net)) e) ≡ excess net (is_in (kept_edges net))
back_in net e t = excess_same net (with_edge (is_in (kept_edges net)) e) (is_in (kept_edges net)) (λ x m. elim (cases_eq x e) [
  | inl r ↦ rw (eq-eqb x e r) (sym (ap (is_in (kept_edges net)) r ∙ t))
  | inr r ↦ rw (ne_eqb x e r) refl
])

-- an edge is set aside exactly where the kept edges have a higher excess with it
pub aside_raises : (net : Net) (e : ℕ) → e < length net.graph.edges
    → (is_aside net e ≡ true ↔ excess net (is_in (kept_edges net)) < excess net (with_edge (is_in (kept_edges net)) e))
aside_raises net e l = (
  raised net e l,
  λ h. elim (cases_Bool (is_in (kept_edges net) e)) [
    | inl t ↦ absurd (omega (arith, back_in net e t, h))
    | inr t ↦ ap not t
  ],
)
