-- Nodes without an edge of a set.
use Rattle.std.proofs.Common.{arith, ◌≡◌, ◌≢◌, ℕ, zero, suc, ◌+◌, ◌*◌, ◌/◌, ◌<◌, ◌==◌, ◌&&◌, ◌||◌, refl, sym, ap, ◌∙◌}
use Rattle.std.proofs.Common.{Bool, true, false, not, cond, inl, inr, ◌⊎◌, length, eq-eqb}
use Rattle.std.proofs.lemmas.Bool.{cases_eq, and_parts, and_from, or_cases, eqb-true, ne_eqb, cond-true, cond-false}
use Rattle.std.proofs.lemmas.Bool.{true≢false, false≢true, or_left, or_right, not-false, not-true}
use Rattle.std.specs.Cmp.{both_ways}
use Rattle.std.proofs.lemmas.Bool.{both_ways as contradict}
use Rattle.dpl_cycle.proofs.MemberLemmas.{count_more}
use Rattle.dpl_cycle.proofs.SumLemmas.{count_on_same}
use Rattle.dpl_sign.specs.declared.graphs.Signed.{Signed}
use Rattle.dpl_sign.specs.declared.nets.Net.{Net}
use Rattle.dpl_sign.specs.Walks.{edge_at}
use Rattle.dpl_sign.specs.Drawings.{tail_of, is_met_below, is_bare, bare_count}
use Rattle.dpl_sign.proofs.DartLemmas.{dart_cases, first_half, second_half, first_tail, second_tail}
use Rattle.dpl_sign.proofs.Rotation.{InSet}
use Rattle.dpl_sign.proofs.Insert.{IsOneMore}
use Rattle.dpl_sign.proofs.ComponentLemmas.{start_below, end_below}

-- an edge ends at a node
abbrev pub EndsAt : Signed → ℕ → ℕ → Type 0
EndsAt g e v = ((edge_at g e).a ≡ v) ⊎ ((edge_at g e).b ≡ v)

-- a node at which an edge of the set ends is met
pub met_from : (g : Signed) (p : ℕ → Bool) (n e v : ℕ) → e < n → p e ≡ true → EndsAt g e v → is_met_below g p n v ≡ true
met_from g p zero e v h t k = absurd (omega arith)
met_from g p (suc n) e v h t k = elim (cases_eq e n) [
  | inl r ↦
      let ends : (((edge_at g e).a == v) || ((edge_at g e).b == v)) ≡ true = elim k [
        | inl a ↦ or_left _ _ (eq-eqb (edge_at g e).a v a)
        | inr b ↦ or_right _ _ (eq-eqb (edge_at g e).b v b)
      ] in
      or_left _ _ (ap (λ x. p x && (((edge_at g x).a == v) || ((edge_at g x).b == v))) (sym r) ∙ and_from _ _ t ends)
  | inr r ↦ or_right _ _ (met_from g p n e v (omega arith) t k)
]

-- an edge of the set, below n, that ends at the node
pub record IsMet (g : Signed) (p : ℕ → Bool) (n v : ℕ) : Type 0 where
  pub edge : ℕ
  pub inside : edge < n
  pub chosen : p edge ≡ true
  pub ends : EndsAt g edge v

-- a node that is met has an edge of the set
pub met_is : (g : Signed) (p : ℕ → Bool) (n v : ℕ) → is_met_below g p n v ≡ true → IsMet g p n v
met_is g p zero v h = absurd (false≢true h)
met_is g p (suc n) v h = elim (or_cases _ _ h) [
  | inl k ↦
      let parts = and_parts _ _ k in
      record {
        edge = n;
        inside = omega arith;
        chosen = parts.0;
        ends =
            elim (or_cases _ _ parts.1) [ inl a ↦ inl (eqb-true _ _ a) | inr b ↦ inr (eqb-true _ _ b) ];
      }
  | inr k ↦
      let rest = met_is g p n v k in
      record { edge = rest.edge; inside = omega (arith, rest.inside); chosen = rest.chosen; ends = rest.ends }
]

-- a node that is not bare has a dart
pub record HasDart (net : Net) (p : ℕ → Bool) (v : ℕ) : Type 0 where
  pub dart : ℕ
  pub set : InSet net p dart
  pub tail : tail_of net.graph dart ≡ v

-- a dart of the set leaves each node that is not bare
pub has_dart : (net : Net) (p : ℕ → Bool) (v : ℕ) → is_bare net.graph p v ≡ false → HasDart net p v
has_dart net p v h =
    let n = length net.graph.edges in
    let m = met_is net.graph p n v (not-false _ h) in
    elim m.ends [
      | inl a ↦ record {
        dart = 2 * m.edge;
        set = record
            { inside = omega (arith, m.inside); chosen = ap p (first_half m.edge) ∙ m.chosen };
        tail =
            first_tail net.graph m.edge ∙ a;
      }
      | inr b ↦ record {
        dart = 2 * m.edge + 1;
        set = record
            { inside = omega (arith, m.inside); chosen = ap p (second_half m.edge) ∙ m.chosen };
        tail =
            second_tail net.graph m.edge ∙ b;
      }
    ]

-- no edge of the set ends at a bare node
pub bare_edges : (g : Signed) (p : ℕ → Bool) (v : ℕ) → is_bare g p v ≡ true → (e : ℕ) → e < length g.edges → p e ≡ true → EndsAt g e v → ⊥
bare_edges g p v h e l t k = contradict _ (not-true _ h) (met_from g p (length g.edges) e v l t k)

-- nor does a dart leave it
pub bare_darts : (net : Net) (p : ℕ → Bool) (v : ℕ) → is_bare net.graph p v ≡ true → (d : ℕ) → InSet net p d → tail_of net.graph d ≢ v
bare_darts net p v h d k t =
    let e = d / 2 in
    let l : e < length net.graph.edges = omega (arith, k.inside) in
    elim (dart_cases d) [
      | inl c ↦ bare_edges net.graph p v h e l k.chosen (inl (sym (first_tail net.graph e) ∙ ap (tail_of net.graph) (sym c.0) ∙ t))
      | inr c ↦ bare_edges net.graph p v h e l k.chosen (inr (sym (second_tail net.graph e) ∙ ap (tail_of net.graph) (omega (arith, c.0)) ∙ t))
    ]

-- ---- one edge more

bare_end : (net : Net) (p q : ℕ → Bool) (e v : ℕ) → IsOneMore net p q e → EndsAt net.graph e v → is_bare net.graph q v ≡ false
bare_end net p q e v k ends = ap not (met_from net.graph q (length net.graph.edges) e v k.inside k.chosen ends)

bare_elsewhere : (net : Net) (p q : ℕ → Bool) (e v : ℕ) → IsOneMore net p q e → (EndsAt net.graph e v → ⊥) → is_bare net.graph q v ≡ is_bare net.graph p v
bare_elsewhere net p q e v k far =
    let g = net.graph in
    let n = length g.edges in
    ap not (both_ways (is_met_below g q n v) (is_met_below g p n v)
    (λ h. let m = met_is g q n v h in elim (cases_eq m.edge e) [
      | inl r ↦ absurd (far (elim m.ends [ inl a ↦ inl (ap (λ x. (edge_at g x).a) (sym r) ∙ a) | inr b ↦ inr (ap (λ x. (edge_at g x).b) (sym r) ∙ b) ]))
      | inr r ↦ met_from g p n m.edge v m.inside (k.same m.edge m.inside r ∙ m.chosen) m.ends
    ])
    (λ h. let m = met_is g p n v h in elim (cases_eq m.edge e) [
      | inl r ↦ absurd (contradict _ k.out (ap p (sym r) ∙ m.chosen))
      | inr r ↦ met_from g q n m.edge v m.inside (sym (k.same m.edge m.inside r) ∙ m.chosen) m.ends
    ]))

neither : (g : Signed) (e v : ℕ) → v ≢ (edge_at g e).a → v ≢ (edge_at g e).b → EndsAt g e v → ⊥
neither g e v na nb h = elim h [ inl a ↦ na (sym a) | inr b ↦ nb (sym b) ]

-- one edge more between nodes that are not bare leaves as many bare ones
pub bare_none : (net : Net) (p q : ℕ → Bool) (e : ℕ) → IsOneMore net p q e
    → is_bare net.graph p (edge_at net.graph e).a ≡ false
    → is_bare net.graph p (edge_at net.graph e).b ≡ false → bare_count net.graph q ≡ bare_count net.graph p
bare_none net p q e k ha hb =
    let g = net.graph in
    count_on_same g.nodes _ _ (λ v h. elim (cases_eq v (edge_at g e).a) [
      | inl r ↦ bare_end net p q e v k (inl (sym r)) ∙ sym (ap (is_bare g p) r ∙ ha)
      | inr na ↦ elim (cases_eq v (edge_at g e).b) [
        | inl r ↦ bare_end net p q e v k (inr (sym r)) ∙ sym (ap (is_bare g p) r ∙ hb)
        | inr nb ↦ bare_elsewhere net p q e v k (neither g e v na nb)
      ]
    ])

-- one edge more takes one bare node where its first end alone was bare
pub bare_first : (net : Net) (p q : ℕ → Bool) (e : ℕ) → IsOneMore net p q e
    → is_bare net.graph p (edge_at net.graph e).a ≡ true → is_bare net.graph p (edge_at net.graph e).b ≡ false
    → bare_count net.graph p ≡ bare_count net.graph q + 1
bare_first net p q e k ha hb =
    let g = net.graph in
    count_more g.nodes (is_bare g q) (is_bare g p) (edge_at g e).a (start_below g e k.inside)
    (bare_end net p q e _ k (inl refl)) ha (λ v h na. elim (cases_eq v (edge_at g e).b) [
      | inl r ↦ bare_end net p q e v k (inr (sym r)) ∙ sym (ap (is_bare g p) r ∙ hb)
      | inr nb ↦ bare_elsewhere net p q e v k (neither g e v na nb)
    ])

-- one edge more takes one bare node where its second end alone was bare
pub bare_second : (net : Net) (p q : ℕ → Bool) (e : ℕ) → IsOneMore net p q e
    → is_bare net.graph p (edge_at net.graph e).a ≡ false → is_bare net.graph p (edge_at net.graph e).b ≡ true
    → bare_count net.graph p ≡ bare_count net.graph q + 1
bare_second net p q e k ha hb =
    let g = net.graph in
    count_more g.nodes (is_bare g q) (is_bare g p) (edge_at g e).b (end_below g e k.inside)
    (bare_end net p q e _ k (inr refl)) hb (λ v h nb. elim (cases_eq v (edge_at g e).a) [
      | inl r ↦ bare_end net p q e v k (inl (sym r)) ∙ sym (ap (is_bare g p) r ∙ ha)
      | inr na ↦ bare_elsewhere net p q e v k (neither g e v na nb)
    ])

-- p without one number
taken : (ℕ → Bool) → ℕ → ℕ → Bool
taken p a v = cond (v == a) false (p v)

taken_here : (p : ℕ → Bool) (a v : ℕ) → v ≡ a → taken p a v ≡ false
unfolding taken
taken_here p a v h = cond-true (v == a) false (p v) (eq-eqb v a h)

taken_other : (p : ℕ → Bool) (a v : ℕ) → v ≢ a → taken p a v ≡ p v
unfolding taken
taken_other p a v h = cond-false (v == a) false (p v) (ne_eqb v a h)

-- one edge more takes two bare nodes where both its ends were bare
pub bare_both : (net : Net) (p q : ℕ → Bool) (e : ℕ) → IsOneMore net p q e
    → is_bare net.graph p (edge_at net.graph e).a ≡ true → is_bare net.graph p (edge_at net.graph e).b ≡ true
    → bare_count net.graph p ≡ bare_count net.graph q + 2
bare_both net p q e k ha hb =
    let g = net.graph in
    let a = (edge_at g e).a in
    let b = (edge_at g e).b in
    let t = taken (is_bare g p) a in
    let ne : b ≢ a = λ r. omega (arith, (edge_at g e).ordered, r) in
    let one = count_more g.nodes t (is_bare g p) a (start_below g e k.inside) (taken_here (is_bare g p) a a refl) ha
    (λ v h na. taken_other (is_bare g p) a v na) in
    let two = count_more g.nodes (is_bare g q) t b (end_below g e k.inside) (bare_end net p q e b k (inr refl))
    (taken_other (is_bare g p) a b ne ∙ hb) (λ v h nb. elim (cases_eq v a) [
      | inl r ↦ bare_end net p q e v k (inl (sym r)) ∙ sym (taken_here (is_bare g p) a v r)
      | inr na ↦ bare_elsewhere net p q e v k (neither g e v na nb) ∙ sym (taken_other (is_bare g p) a v na)
    ]) in
    omega (arith, one, two)
