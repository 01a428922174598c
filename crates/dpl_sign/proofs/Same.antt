-- Sets that agree on the edges of a net have the same drawing.
use Rattle.std.proofs.Common.{arith, ◌≡◌, ℕ, zero, suc, ◌<◌, ◌+◌, ◌*◌, ◌/◌, refl, sym, ap, ◌∙◌, Bool, not, inl, inr, length}
use Rattle.std.proofs.lemmas.Bool.{cases_Bool}
use Rattle.dpl_cycle.specs.Among.{cycles_among, members}
use Rattle.dpl_cycle.proofs.AmongLemmas.{among_same, members_same}
use Rattle.dpl_cycle.proofs.NameLemmas.{name_count_same, join_same}
use Rattle.dpl_cycle.proofs.SumLemmas.{count_on_same}
use Rattle.dpl_sign.specs.declared.graphs.Signed.{Signed}
use Rattle.dpl_sign.specs.declared.nets.Net.{Net}
use Rattle.dpl_sign.specs.Walks.{edge_at}
use Rattle.dpl_sign.specs.Drawings.{next_below, next_in_face, first_met, is_met_below, dart_count, bare_count, face_count, twin_of}
use Rattle.dpl_sign.specs.Components.{names_below, component_count}
use Rattle.dpl_sign.specs.Excess.{edge_count, excess}
use Rattle.dpl_sign.proofs.Unfold.{next_in, next_out, names_in, names_out}

-- sets that agree below k have the same next darts by the edges below k
pub next_same : (net : Net) (p q : ℕ → Bool) (k d : ℕ) → ((e : ℕ) → e < k → p e ≡ q e) → next_below net p k d ≡ next_below net q k d
next_same net p q zero d h = refl
next_same net p q (suc k) d h =
    let rest : next_below net p k d ≡ next_below net q k d = next_same net p q k d (λ e l. h e (omega arith)) in
    elim (cases_Bool (p k)) [
      | inl t ↦ next_in net p k d t ∙ ap (λ n. first_met net d (2 * k + 1) (first_met net d (2 * k) n)) rest ∙
          sym (next_in net q k d (sym (h k (omega arith)) ∙ t))
      | inr t ↦ next_out net p k d t ∙ rest ∙ sym (next_out net q k d (sym (h k (omega arith)) ∙ t))
    ]

-- sets that agree below k have the same components by the edges below k
pub names_same : (g : Signed) (p q : ℕ → Bool) (k v : ℕ) → ((e : ℕ) → e < k → p e ≡ q e) → names_below g p k v ≡ names_below g q k v
names_same g p q zero v h = refl
names_same g p q (suc k) v h =
    let rest = λ (w : ℕ). names_same g p q k w (λ e l. h e (omega arith)) in
    elim (cases_Bool (p k)) [
      | inl t ↦ names_in g p k v t ∙ join_same (names_below g p k) (names_below g q k) (edge_at g k).a (edge_at g k).b v
          (rest (edge_at g k).a) (rest (edge_at g k).b) (rest v) ∙ sym (names_in g q k v (sym (h k (omega arith)) ∙ t))
      | inr t ↦ names_out g p k v t ∙ rest v ∙ sym (names_out g q k v (sym (h k (omega arith)) ∙ t))
    ]

-- sets that agree below k meet the same nodes by the edges below k
pub met_same : (g : Signed) (p q : ℕ → Bool) (k v : ℕ) → ((e : ℕ) → e < k → p e ≡ q e) → is_met_below g p k v ≡ is_met_below g q k v
met_same g p q zero v h = refl
met_same g p q (suc k) v h = rw (h k (omega arith), met_same g p q k v (λ e l. h e (omega arith))) refl

-- sets that agree on the edges of a net have as many faces
pub faces_same : (net : Net) (p q : ℕ → Bool) → ((e : ℕ) → e < length net.graph.edges → p e ≡ q e) → face_count net p ≡ face_count net q
faces_same net p q h =
    let n = dart_count net in
    let half = λ (d : ℕ) (l : d < n). h (d / 2) (omega arith) in
    let lists : members (λ d. p (d / 2)) n ≡ members (λ d. q (d / 2)) n = members_same n _ _ half in
    let maps : (d : ℕ) → d < n → next_in_face net p d ≡ next_in_face net q d =
    λ d l. rw (half d l, next_same net p q (length net.graph.edges) (twin_of d) h) refl in
    let cycles : cycles_among (next_in_face net p) (members (λ d. p (d / 2)) n) ≡ cycles_among (next_in_face net q) (members (λ d. q (d / 2)) n) =
    among_same n _ (next_in_face net p) (next_in_face net q) maps ∙ ap (cycles_among (next_in_face net q)) lists in
    let bare : bare_count net.graph p ≡ bare_count net.graph q =
    count_on_same net.graph.nodes _ _ (λ v l. ap not (met_same net.graph p q (length net.graph.edges) v h)) in
    omega (arith, cycles, bare)

-- sets that agree on the edges of a net have the same excess
pub excess_same : (net : Net) (p q : ℕ → Bool) → ((e : ℕ) → e < length net.graph.edges → p e ≡ q e) → excess net p ≡ excess net q
excess_same net p q h =
    let faces : face_count net p ≡ face_count net q = faces_same net p q h in
    let edges : edge_count net p ≡ edge_count net q = count_on_same (length net.graph.edges) p q h in
    let parts : component_count net.graph p ≡ component_count net.graph q =
    name_count_same net.graph.nodes _ _ (λ v l. names_same net.graph p q (length net.graph.edges) v h) in
    rw (faces, edges, parts) refl
