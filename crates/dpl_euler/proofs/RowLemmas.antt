-- The edges of a set at each node, as they are put into rows.
use Rattle.std.proofs.Common.{arith, ◌≡◌, ◌≢◌, ℕ, ◌+◌, ◌<◌, ◌==◌, ◌||◌, ◌⊎◌, refl, sym, ap, ◌∙◌, subst, Bool, true}
use Rattle.std.proofs.Common.{false, inl, inr, List, [], ◌∷◌, ◌++◌, length, length-append, get_or, eq-eqb}
use Rattle.std.specs.Prelude.{All, Contains}
use Rattle.std.proofs.lemmas.Bool.{cases_eq, cases_lt, and_from, and_parts, or_left, or_right, lt-ltb, ltb-true, true≢false, or_cases, eqb-true}
use Rattle.std.proofs.lemmas.List.Elements.{All-push, All-nil, All-get_or, Contains-append_left, Contains-push}
use Rattle.dpl_sign.specs.declared.graphs.Signed.{Signed}
use Rattle.dpl_sign.specs.Walks.{edge_at, leaves, no_edge}
use Rattle.dpl_sign.specs.declared.edges.Edge.{Edge}
use Rattle.dpl_sign.specs.Drawings.{is_in}
use Rattle.dpl_sign.proofs.ComponentLemmas.{ends_below}
use Rattle.std.proofs.lemmas.List.{get_or_past}
use Rattle.dpl_list.specs.Rows.{of_key, rows_by}
use Rattle.dpl_list.proofs.Grouping.{of_key_yes, of_key_no, rows_by_at, rows_by_length}
use Rattle.dpl_euler.specs.Searches.{IsAt, AreRows}
use Rattle.dpl_euler.specs.Rows.{AreListed}

-- an end of an edge is a node
end_below : (g : Signed) (v e : ℕ) → e < length g.edges → (((edge_at g e).a == v) || ((edge_at g e).b == v)) ≡ true → v < g.nodes
end_below g v e h q =
    let low = ends_below g e h in
    elim (or_cases _ _ q) [
      | inl t ↦ omega (arith, eqb-true (edge_at g e).a v t, low.0)
      | inr t ↦ omega (arith, eqb-true (edge_at g e).b v t, low.1)
    ]

pub listed_none : (g : Signed) (chosen : List Bool) → AreListed g chosen 0 [] []
listed_none g chosen = record {
  sizes = refl;
  below = All-nil (λ v. v < g.nodes);
  only = λ v. All-nil (IsAt g chosen v);
  all = λ v e h at. absurd (omega (arith, h));
}

pub listed_skip : (g : Signed) (chosen : List Bool) (nodes edges : List ℕ) (k : ℕ) → is_in chosen k ≡ false
    → AreListed g chosen k nodes edges → AreListed g chosen (k + 1) nodes edges
listed_skip g chosen nodes edges k out r = record {
  sizes = r.sizes;
  below = r.below;
  only = r.only;
  all = λ v e h at. elim (cases_eq e k) [
    | inl t ↦ absurd (true≢false (sym at.1 ∙ ap (is_in chosen) t ∙ out))
    | inr t ↦ r.all v e (omega (arith, h, t)) at
  ];
}

pub rows_whole : (g : Signed) (chosen : List Bool) (nodes edges : List ℕ) (rows : List (List ℕ))
    → rows ≡ rows_by nodes edges g.nodes → AreListed g chosen (length g.edges) nodes edges
    → AreRows g chosen rows
rows_whole g chosen nodes edges rows e r =
    let at : (v : ℕ) → v < g.nodes → get_or rows v [] ≡ of_key v nodes edges = λ v h.
    ap (λ (z : List (List ℕ)). get_or z v []) e ∙ rows_by_at nodes edges g.nodes v h in
    let size : length rows ≡ g.nodes = ap (λ (z : List (List ℕ)). length z) e ∙ rows_by_length nodes edges g.nodes in
    record {
      sizes = size;
      only = λ v.
          let P : List ℕ → Type 0 = λ xs. All (IsAt g chosen v) xs in
          elim (cases_lt v g.nodes) [
            | inl h ↦ subst P (sym (at v h)) (r.only v)
            | inr h ↦ subst P (sym (get_or_past rows v [] (omega (arith, h, size)))) (All-nil (IsAt g chosen v))
          ];
      all = λ v e q.
          let inside = ltb-true e (length g.edges) (and_parts _ _ q.0).0 in
          let P : List ℕ → Type 0 = λ xs. Contains xs e in
          subst P (sym (at v (end_below g v e inside (and_parts _ _ q.0).1))) (r.all v e inside q);
    }

-- ---- one edge more at a node

more_only : (P : ℕ → Type 0) (nodes edges : List ℕ) (u x v : ℕ) → length nodes ≡ length edges → All P (of_key v nodes edges) →
    (v ≡ u → P x) → All P (of_key v (nodes ++ u ∷ []) (edges ++ x ∷ []))
more_only P nodes edges u x v n old new =
    let Q : List ℕ → Type 0 = λ xs. All P xs in
    elim (cases_eq u v) [
      | inl t ↦ subst Q (sym (of_key_yes v u x nodes edges n t)) (All-push P (of_key v nodes edges) x old (new (sym t)))
      | inr t ↦ subst Q (sym (of_key_no v u x nodes edges n t)) old
    ]

more_kept : (nodes edges : List ℕ) (u x v y : ℕ) → length nodes ≡ length edges
    → Contains (of_key v nodes edges) y → Contains (of_key v (nodes ++ u ∷ []) (edges ++ x ∷ [])) y
more_kept nodes edges u x v y n old =
    let Q : List ℕ → Type 0 = λ xs. Contains xs y in
    elim (cases_eq u v) [
      | inl t ↦ subst Q (sym (of_key_yes v u x nodes edges n t)) (Contains-append_left (of_key v nodes edges) (x ∷ []) y old)
      | inr t ↦ subst Q (sym (of_key_no v u x nodes edges n t)) old
    ]

more_has : (nodes edges : List ℕ) (u x : ℕ) → length nodes ≡ length edges → Contains (of_key u (nodes ++ u ∷ []) (edges ++ x ∷ [])) x
more_has nodes edges u x n =
    let Q : List ℕ → Type 0 = λ xs. Contains xs x in
    subst Q (sym (of_key_yes u u x nodes edges n refl)) (Contains-push (of_key u nodes edges) x)

more_size : (nodes edges : List ℕ) (u x : ℕ) → length nodes ≡ length edges → length (nodes ++ u ∷ []) ≡ length (edges ++ x ∷ [])
more_size nodes edges u x n = omega (
  arith,
  n,
  length-append nodes (u ∷ []),
  length-append edges (x ∷ []),
)

-- ---- an edge of the set in the rows of its two ends

first_end : (g : Signed) (e : ℕ) → e < length g.edges → leaves g e (edge_at g e).a ≡ true
first_end g e h = and_from _ _ (lt-ltb e (length g.edges) h) (or_left _ _ (eq-eqb (edge_at g e).a (edge_at g e).a refl))

second_end : (g : Signed) (e : ℕ) → e < length g.edges → leaves g e (edge_at g e).b ≡ true
second_end g e h = and_from _ _ (lt-ltb e (length g.edges) h) (or_right _ _ (eq-eqb (edge_at g e).b (edge_at g e).b refl))

both : (g : Signed) (chosen : List Bool) (nodes edges : List ℕ) (k : ℕ) → k < length g.edges
    → is_in chosen k ≡ true → AreListed g chosen k nodes edges
    → AreListed g chosen (k + 1) ((nodes ++ (edge_at g k).a ∷ []) ++ (edge_at g k).b ∷ []) ((edges ++ k ∷ []) ++ k ∷ [])
both g chosen nodes edges k h in_set r =
    let a = (edge_at g k).a in
    let b = (edge_at g k).b in
    let low = ends_below g k h in
    let ns = nodes ++ a ∷ [] in
    let es = edges ++ k ∷ [] in
    let n = more_size nodes edges a k r.sizes in
    let at_a : (v : ℕ) → v ≡ a → IsAt g chosen v k = λ v e. (ap (leaves g k) e ∙ first_end g k h, in_set) in
    let at_b : (v : ℕ) → v ≡ b → IsAt g chosen v k = λ v e. (ap (leaves g k) e ∙ second_end g k h, in_set) in
    record {
      sizes = more_size ns es b k n;
      below = All-push (λ v. v < g.nodes) ns b (All-push (λ v. v < g.nodes) nodes a r.below low.0) low.1;
      only = λ v. more_only (IsAt g chosen v) ns es b k v n (more_only (IsAt g chosen v) nodes edges a k v r.sizes (r.only v) (at_a v)) (at_b v);
      all = λ v e l at. elim (cases_eq e k) [
        | inl t ↦
            let P : ℕ → Type 0 = λ z. Contains (of_key v (ns ++ b ∷ []) (es ++ k ∷ [])) z in
            let Q : ℕ → Type 0 = λ z. Contains (of_key z (ns ++ b ∷ []) (es ++ k ∷ [])) k in
            let ends = (and_parts _ _ at.0).1 in
            let there : ((edge_at g k).a == v) ≡ true ⊎ ((edge_at g k).b == v) ≡ true =
            or_cases _ _ (ap (λ z. ((edge_at g z).a == v) || ((edge_at g z).b == v)) (sym t) ∙ ends) in
            subst P (sym t) (elim there [
              | inl q ↦ subst Q (eqb-true a v q) (more_kept ns es b k a k n (more_has nodes edges a k r.sizes))
              | inr q ↦ subst Q (eqb-true b v q) (more_has ns es b k n)
            ])
        | inr t ↦ more_kept ns es b k v e n (more_kept nodes edges a k v e r.sizes (r.all v e (omega (arith, l, t)) at))
      ];
    }

pub listed_take : (g : Signed) (chosen : List Bool) (nodes mid new edges edges_mid edges_new : List ℕ) (k : ℕ) (ends : Edge)
    → k < length g.edges → ends ≡ edge_at g k → is_in chosen k ≡ true → mid ≡ nodes ++ ends.a ∷ []
    → edges_mid ≡ edges ++ k ∷ [] → new ≡ mid ++ ends.b ∷ [] → edges_new ≡ edges_mid ++ k ∷ []
    → AreListed g chosen k nodes edges → AreListed g chosen (k + 1) new edges_new
listed_take g chosen nodes mid new edges edges_mid edges_new k ends h e in_set em fm en fn r =
    let N : List ℕ → List ℕ → Type 0 = λ x y. AreListed g chosen (k + 1) x y in
    let first : mid ≡ nodes ++ (edge_at g k).a ∷ [] = em ∙ ap (λ (z : Edge). nodes ++ z.a ∷ []) e in
    let second : new ≡ (nodes ++ (edge_at g k).a ∷ []) ++ (edge_at g k).b ∷ [] = en ∙ ap (λ (z : Edge). mid ++ z.b ∷ []) e ∙
    ap (λ (z : List ℕ). z ++ (edge_at g k).b ∷ []) first in
    let edges_are : edges_new ≡ (edges ++ k ∷ []) ++ k ∷ [] = fn ∙ ap (λ (z : List ℕ). z ++ k ∷ []) fm in
    subst (N new) (sym edges_are) (subst (λ z. N z ((edges ++ k ∷ []) ++ k ∷ [])) (sym second) (both g chosen nodes edges k h in_set r))
