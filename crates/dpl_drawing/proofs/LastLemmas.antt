-- A dart of each node while edges are drawn.
use Rattle.std.proofs.Common.{arith, ◌≡◌, ◌≢◌, ℕ, ◌+◌, ◌*◌, ◌/◌, ◌<◌, refl, sym, ap, ◌∙◌, Bool, true, false, inl, inr}
use Rattle.std.proofs.Common.{List, [], ◌∷◌, ◌++◌, length, get_or, set, length-set, get_or-set_same, get_or-set_other}
use Rattle.std.proofs.Common.{subst}
use Rattle.std.proofs.lemmas.Bool.{cases_eq, both_ways}
use Rattle.dpl_sign.specs.declared.edges.Edge.{Edge}
use Rattle.dpl_sign.specs.declared.nets.Net.{Net}
use Rattle.dpl_sign.specs.Walks.{edge_at}
use Rattle.dpl_sign.specs.Drawings.{is_in, tail_of}
use Rattle.dpl_sign.proofs.DartLemmas.{first_half, second_half, first_tail, second_tail, of_edge}
use Rattle.dpl_sign.proofs.Insert.{IsOneMore, half_below}
use Rattle.dpl_sign.proofs.ComponentLemmas.{start_below, end_below}
use Rattle.dpl_sign.proofs.ExcessLemmas.{kept_more, past_end}
use Rattle.dpl_sign.specs.Rotations.{Leaves}
use Rattle.dpl_drawing.specs.Drawn.{IsLast, AreLasts}

-- before the first edge no node has a dart
pub lasts_none : (net : Net) (lasts : List ℕ) → length lasts ≡ net.graph.nodes
    → ((k : ℕ) → k < length lasts → get_or lasts k 0 ≡ 4294967295) → AreLasts net (is_in []) lasts
lasts_none net lasts l h = record {
  per_node = l;
  each = λ v hv. record { bare = λ e d k. absurd (both_ways _ refl k.chosen); used = λ ne. absurd (ne (h v (omega (arith, l)))) };
}

-- the same darts are those of an equal list of kept edges
pub lasts_list : (net : Net) (xs ys : List Bool) (lasts : List ℕ) → xs ≡ ys → AreLasts net (is_in ys) lasts → AreLasts net (is_in xs) lasts
lasts_list net xs ys lasts e k = let P : List Bool → Type 0 = λ zs. AreLasts net (is_in zs) lasts in subst P (sym e) k

at_both : (net : Net) (p : ℕ → Bool) (a b c d : ℕ) → b ≡ a → d ≡ c → IsLast net p a c → IsLast net p b d
at_both net p a b c d e f k =
    let P : ℕ → Type 0 = λ x. IsLast net p x c in
    let Q : ℕ → Type 0 = λ x. IsLast net p b x in
    subst Q (sym f) (subst P (sym e) k)

-- the list has a place for both ends of an edge
pub ends_in : (net : Net) (p : ℕ → Bool) (lasts : List ℕ) (e : ℕ) (edge : Edge) → AreLasts net p lasts
    → e < length net.graph.edges → edge ≡ edge_at net.graph e
    → (edge.a < length lasts) × (edge.b < length lasts)
ends_in net p lasts e edge k h same =
    let a : edge.a ≡ (edge_at net.graph e).a = ap (λ (x : Edge). x.a) same in
    let b : edge.b ≡ (edge_at net.graph e).b = ap (λ (x : Edge). x.b) same in
    (omega (arith, a, start_below net.graph e h, k.per_node), omega (arith, b, end_below net.graph e h, k.per_node))

-- a dart of the set that leaves the node may stand for it
pub is_last : (net : Net) (q : ℕ → Bool) (v last d : ℕ) → last ≡ d → d < 4294967295 → Leaves net q v d → IsLast net q v last
is_last net q v last d e small l =
    let P : ℕ → Type 0 = λ x. IsLast net q v x in
    subst P (sym e) (record { bare = λ r. absurd (omega (arith, r)); used = λ ne. l })

-- what is read for the first node of the next edge
pub last_first : (net : Net) (p : ℕ → Bool) (lasts : List ℕ) (e last : ℕ) (edge : Edge) → AreLasts net p lasts
    → e < length net.graph.edges → edge ≡ edge_at net.graph e → last ≡ get_or lasts edge.a 0
    → IsLast net p (tail_of net.graph (2 * e)) last
last_first net p lasts e last edge k h same read =
    let g = net.graph in
    let v = (edge_at g e).a in
    at_both net p v _ _ last (first_tail g e) (read ∙ ap (λ (x : Edge). get_or lasts x.a 0) same) (k.each v (start_below g e h))

-- what the list has at the second end stands for the node that the second dart leaves
pub last_second : (net : Net) (p : ℕ → Bool) (lasts : List ℕ) (e last : ℕ) (edge : Edge)
    → AreLasts net p lasts → e < length net.graph.edges → edge ≡ edge_at net.graph e
    → last ≡ get_or lasts edge.b 0 → IsLast net p (tail_of net.graph (2 * e + 1)) last
last_second net p lasts e last edge k h same read =
    let g = net.graph in
    let v = (edge_at g e).b in
    at_both net p v _ _ last (second_tail g e) (read ∙ ap (λ (x : Edge). get_or lasts x.b 0) same) (k.each v (end_below g e h))

-- sets that agree
lasts_same : (net : Net) (p q : ℕ → Bool) (lasts : List ℕ) → ((e : ℕ) → e < length net.graph.edges → p e ≡ q e) → AreLasts net p lasts → AreLasts net q lasts
lasts_same net p q lasts same k = record {
  per_node = k.per_node;
  each = λ v h.
      let old = k.each v h in
      record {
        bare = λ e d l. old.bare e d (record { inside = l.inside; chosen = same (d / 2) (half_below net d l.inside) ∙ l.chosen; tail = l.tail });
        used = λ ne.
            let l = old.used ne in
            record { inside = l.inside; chosen = sym (same _ (half_below net _ l.inside)) ∙ l.chosen; tail = l.tail };
      };
}

-- an edge more, whose darts are now the last of their nodes
lasts_more : (net : Net) (p q : ℕ → Bool) (e : ℕ) (lasts : List ℕ) → IsOneMore net p q e
    → AreLasts net p lasts
    → AreLasts net q (set (set lasts (edge_at net.graph e).a (2 * e)) (edge_at net.graph e).b (2 * e + 1))
lasts_more net p q e lasts more k =
    let g = net.graph in
    let a = (edge_at g e).a in
    let b = (edge_at g e).b in
    let one = set lasts a (2 * e) in
    let new = set one b (2 * e + 1) in
    let ha : a < length lasts = omega (arith, start_below g e more.inside, k.per_node) in
    let hb : b < length one = omega (arith, end_below g e more.inside, k.per_node, length-set lasts a (2 * e)) in
    let small = g.few_edges in
    record {
      per_node = length-set one b (2 * e + 1) ∙ length-set lasts a (2 * e) ∙ k.per_node;
      each = λ v h. elim (cases_eq v b) [
        | inl r ↦
            let here : get_or new v 0 ≡ 2 * e + 1 = ap (λ x. get_or new x 0) r ∙ get_or-set_same one b (2 * e + 1) 0 hb in
            is_last net q v (get_or new v 0) (2 * e + 1) here (omega (arith, more.inside))
            (record {
              inside = omega (arith, more.inside);
              chosen = ap q (second_half e) ∙ more.chosen;
              tail =
                  second_tail g e ∙ sym r;
            })
        | inr vb ↦ elim (cases_eq v a) [
          | inl r ↦
              let here : get_or new v 0 ≡ 2 * e = get_or-set_other one b v (2 * e + 1) 0 vb ∙
              ap (λ x. get_or one x 0) r ∙ get_or-set_same lasts a (2 * e) 0 ha in
              is_last net q v (get_or new v 0) (2 * e) here (omega (arith, more.inside))
              (record {
                inside = omega (arith, more.inside);
                chosen = ap q (first_half e) ∙ more.chosen;
                tail =
                    first_tail g e ∙ sym r;
              })
          | inr va ↦
              let here : get_or new v 0 ≡ get_or lasts v 0 = get_or-set_other one b v (2 * e + 1) 0 vb ∙ get_or-set_other lasts a v (2 * e) 0 va in
              let old = k.each v h in
              let P : ℕ → Type 0 = λ x. IsLast net q v x in
              subst P (sym here) (record {
                bare = λ r d l. elim (cases_eq (d / 2) e) [
                  | inl s ↦ elim (of_edge d e s) [
                    | inl t ↦ va (sym l.tail ∙ ap (tail_of g) t ∙ first_tail g e)
                    | inr t ↦ vb (sym l.tail ∙ ap (tail_of g) t ∙ second_tail g e)
                  ]
                  | inr s ↦ old.bare r d (record { inside = l.inside; chosen = more.same (d / 2) (half_below net d l.inside) s ∙ l.chosen; tail = l.tail })
                ];
                used = λ ne.
                    let l = old.used ne in
                    let s : get_or lasts v 0 / 2 ≢ e = λ r. both_ways _ more.out (ap p (sym r) ∙ l.chosen) in
                    record { inside = l.inside; chosen = sym (more.same _ (half_below net _ l.inside) s) ∙ l.chosen; tail = l.tail };
              })
        ]
      ];
    }

-- after an edge is drawn its two darts may stand for its ends
pub lasts_drawn : (net : Net) (kept : List Bool) (lasts new : List ℕ) (edge : Edge)
    → length kept < length net.graph.edges → edge ≡ edge_at net.graph (length kept)
    → AreLasts net (is_in kept) lasts
    → new ≡ set (set lasts edge.a (2 * length kept)) edge.b (2 * length kept + 1)
    → AreLasts net (is_in (kept ++ true ∷ [])) new
lasts_drawn net kept lasts new edge h same k e =
    let n = 2 * length kept in
    let here : new ≡ set (set lasts (edge_at net.graph (length kept)).a n) (edge_at net.graph (length kept)).b (n + 1) =
    e ∙ ap (λ (x : Edge). set (set lasts x.a n) x.b (n + 1)) same in
    let P : List ℕ → Type 0 = λ xs. AreLasts net (is_in (kept ++ true ∷ [])) xs in
    subst P (sym here) (lasts_more net (is_in kept) (is_in (kept ++ true ∷ [])) (length kept) lasts (kept_more net kept h) k)

-- after an edge is set aside the same darts stand for the nodes
pub lasts_aside : (net : Net) (kept : List Bool) (lasts : List ℕ)
    → ((x : ℕ) → is_in kept x ≡ is_in (kept ++ false ∷ []) x) → AreLasts net (is_in kept) lasts
    → AreLasts net (is_in (kept ++ false ∷ [])) lasts
lasts_aside net kept lasts same k = lasts_same net (is_in kept) (is_in (kept ++ false ∷ [])) lasts (λ e h. same e) k

-- the next edge is not drawn yet
pub fresh_first : (kept : List Bool) → is_in kept (2 * length kept / 2) ≡ false
fresh_first kept = ap (is_in kept) (first_half (length kept)) ∙ past_end kept

-- the second dart of the next edge is not in the set
pub fresh_second : (kept : List Bool) → is_in kept ((2 * length kept + 1) / 2) ≡ false
fresh_second kept = ap (is_in kept) (second_half (length kept)) ∙ past_end kept
