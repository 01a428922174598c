-- Nets that are drawn in opposite orders: the faces of the one are those of the other, walked backwards.
use Rattle.std.proofs.Common.{arith, ◌≡◌, ◌≢◌, ◌↔◌, ℕ, zero, suc, ◌+◌, ◌*◌, ◌/◌, ◌%◌, ◌==◌, ◌<◌, ◌≤◌, ◌&&◌, refl, sym, ap, ◌∙◌, inl, inr}
use Rattle.std.proofs.Common.{Bool, true, false, length, nat_lt, subst, eq-eqb, cond}
use Rattle.std.proofs.lemmas.Bool.{cases_Bool, cases_eq, ltb-false, lt-ltb, le-ltb, both_ways, ne_eqb}
use Rattle.dpl_cycle.specs.Sums.{count_on}
use Rattle.dpl_cycle.proofs.Least.{least_step, label_least}
use Rattle.dpl_cycle.proofs.SumLemmas.{count_on_same}
use Rattle.dpl_cycle.proofs.Turns.{turn, Mem}
use Rattle.dpl_cycle.proofs.TurnLemmas.{turn_forms, turn_self, turn_less, next_least, next_in}
use Rattle.dpl_sign.specs.declared.graphs.Signed.{Signed}
use Rattle.dpl_sign.specs.declared.nets.Net.{Net}
use Rattle.dpl_sign.specs.Kinds.{is_clash}
use Rattle.dpl_sign.specs.Walks.{edge_at}
use Rattle.dpl_sign.specs.Drawings.{is_in, dart_count, tail_of, twin_of, is_bare, is_met_before, next_around, next_in_face, face_of, corner_face}
use Rattle.dpl_sign.specs.Rotations.{Leaves}
use Rattle.dpl_sign.specs.Components.{component_of}
use Rattle.dpl_sign.specs.Excess.{excess, kept_before, kept_edges, aside_edges, AreEndsJoined, LiesInFace}
use Rattle.dpl_sign.specs.Parity.{is_clash_edge, is_odd_face}
use Rattle.dpl_sign.specs.Redrawn.{AreThreeAround, AreDrawnAlike, AreOpposite}
use Rattle.dpl_sign.proofs.DartLemmas.{twin_half, twin_below, twin_twin, twin_even, twin_odd, first_half, second_half, first_tail, second_tail}
use Rattle.dpl_sign.proofs.Turning.{IsAt, rank_of, rank_end, ranked, met_turn}
use Rattle.dpl_sign.proofs.Rotation.{InSet, around, around_from, around_set, around_tail, next_is}
use Rattle.dpl_sign.proofs.Rotation.{twin_set, face_in, face_out, face_set, face_back, face_permutes}
use Rattle.dpl_sign.proofs.BareLemmas.{has_dart}
use Rattle.dpl_sign.proofs.EdgeEffect.{first_apart, second_apart}
use Rattle.dpl_sign.proofs.Insert.{IsOneMore}
use Rattle.dpl_sign.proofs.Same.{excess_same}
use Rattle.dpl_sign.proofs.ExcessLemmas.{kept_plane, excess_effect, same_component, one_face}
use Rattle.dpl_sign.proofs.MonotoneLemmas.{excess_rises, mixed, mixed_below, mixed_above, mixed_other, mixed_at}
use Rattle.dpl_sign.proofs.AsideLemmas.{HaveOneExcess, kept_by_excess, aside_by_excess}
use Rattle.dpl_sign.proofs.RedrawnNets.{same_darts, same_tail, rank_differs, corner_alike}

-- ---- what is met first around one node

at_of : (net : Net) (set : ℕ → Bool) (v d : ℕ) → Leaves net set v d → IsAt net v d
at_of net set v d l = record { inside = l.inside; tail = l.tail }

leaves_in : (n m : Net) → m.graph ≡ n.graph → (set : ℕ → Bool) (v d : ℕ) → Leaves n set v d → Leaves m set v d
leaves_in n m g set v d l =
    let e = same_darts n m g in
    let i = l.inside in
    record { inside = omega arith; chosen = l.chosen; tail = same_tail n m g d ∙ l.tail }

abbrev turn_of : Net → ℕ → ℕ → ℕ → ℕ
turn_of net v a b = turn (rank_end net v) (rank_of net v) a b

met_is : (net : Net) (v d c e : ℕ) → IsAt net v d → IsAt net v c → IsAt net v e
    → is_met_before net d c e ≡ nat_lt (turn_of net v d c) (turn_of net v d e)
met_is net v d c e hd hc he = met_turn net v (rank_end net v) (rank_of net v) (ranked net v) d c e hd hc he

not_met : (net : Net) (v d c e : ℕ) → IsAt net v d → IsAt net v c → IsAt net v e
    → is_met_before net d c e ≡ false → turn_of net v d e ≤ turn_of net v d c
not_met net v d c e hd hc he h = ltb-false _ _ (sym (met_is net v d c e hd hc he) ∙ h)

-- all others are met before a dart comes round to itself
met_itself : (net : Net) (v d x : ℕ) → IsAt net v d → IsAt net v x → x ≢ d → is_met_before net d x d ≡ true
met_itself net v d x hd hx ne =
    let r = ranked net v in
    let less = turn_less (rank_end net v) (rank_of net v) d x (r.below d hd.inside hd.tail) (r.below x hx.inside hx.tail)
    (rank_differs net v d x hd hx (λ q. ne (sym q))) in
    let whole = turn_self (rank_end net v) (rank_of net v) d in
    met_is net v d x d hd hx hd ∙ lt-ltb _ _ (omega (arith, less, whole))

-- where a dart of the set leaves the node, the next one is one of the set there
next_there : (net : Net) (set : ℕ → Bool) (v d x : ℕ) → IsAt net v d → Leaves net set v x → Leaves net set v (next_around net set d)
next_there net set v d x hd lx =
    let m = rank_end net v in
    let r = rank_of net v in
    let cs = around net set v in
    let is = next_is net set v d hd.inside hd.tail in
    let mem : Mem x cs = around_from net set v x (record { inside = lx.inside; chosen = lx.chosen }) lx.tail in
    elim (next_in m r d cs) [
      | inl e ↦ elim (cases_eq x d) [
        | inl q ↦ let P : ℕ → Type 0 = λ z. Leaves net set v z in subst P (q ∙ sym (is ∙ e)) lx
        | inr q ↦
            let k = ranked net v in
            let less = turn_less m r d x (k.below d hd.inside hd.tail) (k.below x lx.inside lx.tail)
            (rank_differs net v d x hd (at_of net set v x lx) (λ z. q (sym z))) in
            absurd (omega (arith, next_least m r d cs x mem, ap (turn m r d) e, turn_self m r d, less))
      ]
      | inr h ↦
          let P : ℕ → Type 0 = λ z. Leaves net set v z in
          let s = around_set net set v _ h in
          subst P (sym is) (record { inside = s.inside; chosen = s.chosen; tail = around_tail net set v _ h })
    ]

-- nothing of the set is met before the next one
none_met : (net : Net) (set : ℕ → Bool) (v d x : ℕ) → IsAt net v d → Leaves net set v x → is_met_before net d x (next_around net set d) ≡ false
none_met net set v d x hd lx =
    let m = rank_end net v in
    let r = rank_of net v in
    let cs = around net set v in
    let mem : Mem x cs = around_from net set v x (record { inside = lx.inside; chosen = lx.chosen }) lx.tail in
    let near = next_least m r d cs x mem in
    let is = ap (turn m r d) (next_is net set v d hd.inside hd.tail) in
    met_is net v d x (next_around net set d) hd (at_of net set v x lx) (at_of net set v _ (next_there net set v d x hd lx)) ∙
    not_less _ _ (omega (arith, near, is)) where
      not_less : (a b : ℕ) → b ≤ a → nat_lt a b ≡ false
      not_less a b h = le-ltb a b h

-- ---- the opposite order

three_at : (net : Net) (v d c e : ℕ) → IsAt net v d → IsAt net v c → IsAt net v e → d ≢ c → d ≢ e → c ≢ e → AreThreeAround net d c e
three_at net v d c e hd hc he p q r = record {
  one = record { first = hd.inside; second = hc.inside; tail = hd.tail ∙ sym hc.tail };
  two = record { first = hd.inside; second = he.inside; tail = hd.tail ∙ sym he.tail };
  apart = p;
  far = q;
  other = r;
}

pub opposite_back : (n m : Net) → AreOpposite n m → AreOpposite m n
opposite_back n m o = record {
  graph = sym o.graph;
  order = λ d c e h.
      let size = same_darts n m o.graph in
      let i = h.one.first in let j = h.one.second in let k = h.two.second in
      sym (o.order d e c (record {
        one = record { first = omega arith; second = omega arith; tail = sym (same_tail n m o.graph d) ∙ h.two.tail ∙ same_tail n m o.graph e };
        two = record { first = omega arith; second = omega arith; tail = sym (same_tail n m o.graph d) ∙ h.one.tail ∙ same_tail n m o.graph c };
        apart = h.far;
        far = h.apart;
        other = λ q. h.other (sym q);
      }));
}

-- turning from c one does not meet d first and from d one does not meet c first, where there is a third
never_both : (m : ℕ) (r : ℕ → ℕ) (d c e : ℕ) → r d < m → r c < m → r e < m → r d ≢ r c → r d ≢ r e → r c ≢ r e
    → turn m r c d ≤ turn m r c e → turn m r d c ≤ turn m r d e → ⊥
never_both m r d c e hd hc he p q s h k = grind (arith, turn_forms m r c d, turn_forms m r c e, turn_forms m r d c, turn_forms m r d e)

-- from d one meets c, then e, then b; so from b one meets c before e
never_four : (m : ℕ) (r : ℕ → ℕ) (d b c e : ℕ) → r d < m → r b < m → r c < m → r e < m → r d ≢ r b → r d ≢ r c
    → r d ≢ r e → r b ≢ r c → r b ≢ r e → r c ≢ r e → turn m r d c ≤ turn m r d e
    → turn m r d e ≤ turn m r d b → turn m r b e ≤ turn m r b c → ⊥
never_four m r d b c e hd hb hc he p q s t u w h k l =
    grind (arith, turn_forms m r d c, turn_forms m r d e, turn_forms m r d b, turn_forms m r b e, turn_forms m r b c)

-- the next dart in the one net is the one before in the other
pub next_back : (n m : Net) → AreOpposite n m → (set : ℕ → Bool) (v d : ℕ) → Leaves n set v d → next_around m set (next_around n set d) ≡ d
next_back n m o set v d ld =
    let g = o.graph in
    let c = next_around n set d in
    let e = next_around m set c in
    let ad = at_of n set v d ld in
    let lc : Leaves n set v c = next_there n set v d d ad ld in
    let ac = at_of n set v c lc in
    let mc = leaves_in n m g set v c lc in
    let md = leaves_in n m g set v d ld in
    let me : Leaves m set v e = next_there m set v c c (at_of m set v c mc) mc in
    let le : Leaves n set v e = leaves_in m n (sym g) set v e me in
    let ae = at_of n set v e le in
    let r = ranked n v in
    elim (cases_eq e d) [
      | inl q ↦ q
      | inr ed ↦ elim (cases_eq c d) [
        | inl cd ↦ absurd (both_ways _ (ap (is_met_before n d e) (sym cd) ∙ none_met n set v d e ad le) (met_itself n v d e ad ae ed))
        | inr cd ↦ elim (cases_eq e c) [
          | inl ec ↦ absurd (both_ways _ (ap (is_met_before m c d) (sym ec) ∙ none_met m set v c d (at_of m set v c mc) md)
              (met_itself m v c d (at_of m set v c mc) (at_of m set v d md) (λ q. cd (sym q))))
          | inr ec ↦
              let one : is_met_before n c e d ≡ false =
              sym (o.order c d e (three_at n v c d e ac ad ae cd (λ q. ec (sym q)) (λ q. ed (sym q)))) ∙
              none_met m set v c d (at_of m set v c mc) md in
              let two : is_met_before n d e c ≡ false = none_met n set v d e ad le in
              absurd (never_both (rank_end n v) (rank_of n v) d c e (r.below d ad.inside ad.tail) (r.below c ac.inside ac.tail)
              (r.below e ae.inside ae.tail) (rank_differs n v d c ad ac (λ q. cd (sym q))) (rank_differs n v d e ad ae (λ q. ed (sym q)))
              (rank_differs n v c e ac ae (λ q. ec (sym q))) (not_met n v c e d ac ae ad one) (not_met n v d e c ad ae ac two))
        ]
      ]
    ]

-- of a dart that is not in the set: the dart before it leads to the one after it
pub next_over : (n m : Net) → AreOpposite n m → (set : ℕ → Bool) (v d x : ℕ) → IsAt n v d
    → set (d / 2) ≡ false → Leaves n set v x → next_around n set (next_around m set d) ≡ next_around n set d
next_over n m o set v d x ad out lx =
    let g = o.graph in
    let dm : IsAt m v d = record { inside = let e = same_darts n m g in let i = ad.inside in omega arith; tail = same_tail n m g d ∙ ad.tail } in
    let b = next_around m set d in
    let c = next_around n set d in
    let mb : Leaves m set v b = next_there m set v d x dm (leaves_in n m g set v x lx) in
    let lb : Leaves n set v b = leaves_in m n (sym g) set v b mb in
    let lc : Leaves n set v c = next_there n set v d x ad lx in
    let ab = at_of n set v b lb in
    let ac = at_of n set v c lc in
    let e = next_around n set b in
    let le : Leaves n set v e = next_there n set v b b ab lb in
    let ae = at_of n set v e le in
    let me = leaves_in n m g set v e le in
    let apart = λ (y : ℕ) (l : Leaves n set v y) (q : d ≡ y). both_ways _ out (ap (λ z. set (z / 2)) q ∙ l.chosen) in
    let db : d ≢ b = apart b lb in
    let dc : d ≢ c = apart c lc in
    let de : d ≢ e = apart e le in
    let r = ranked n v in
    let near : turn_of n v d c ≤ turn_of n v d e = not_met n v d e c ad ae ac (none_met n set v d e ad le) in
    let far : e ≢ b → turn_of n v d e ≤ turn_of n v d b = λ eb.
    not_met n v d b e ad ab ae (sym (o.order d e b (three_at n v d e b ad ae ab de db eb)) ∙ none_met m set v d e dm me) in
    elim (cases_eq e c) [
      | inl q ↦ q
      | inr ec ↦ elim (cases_eq c b) [
        | inl cb ↦ absurd (rank_differs n v e b ae ab (λ q. ec (q ∙ sym cb))
            (turn_same (rank_end n v) (rank_of n v) d e b (r.below d ad.inside ad.tail) (r.below e ae.inside ae.tail) (r.below b ab.inside ab.tail)
            (rank_differs n v d e ad ae de) (rank_differs n v d b ad ab db)
            (far (λ q. ec (q ∙ sym cb))) (omega (arith, near, ap (turn_of n v d) cb))))
        | inr cb ↦ elim (cases_eq e b) [
          | inl eb ↦ absurd (both_ways _ (ap (is_met_before n b c) (sym eb) ∙ none_met n set v b c ab lc) (met_itself n v b c ab ac cb))
          | inr eb ↦
              absurd (never_four (rank_end n v) (rank_of n v) d b c e (r.below d ad.inside ad.tail) (r.below b ab.inside ab.tail)
              (r.below c ac.inside ac.tail) (r.below e ae.inside ae.tail) (rank_differs n v d b ad ab db) (rank_differs n v d c ad ac dc)
              (rank_differs n v d e ad ae de) (rank_differs n v b c ab ac (λ q. cb (sym q))) (rank_differs n v b e ab ae (λ q. eb (sym q)))
              (rank_differs n v c e ac ae (λ q. ec (sym q))) near (far eb) (not_met n v b c e ab ac ae (none_met n set v b c ab lc)))
        ]
      ]
    ] where
      turn_same : (m : ℕ) (r : ℕ → ℕ) (d e b : ℕ) → r d < m → r e < m → r b < m → r d ≢ r e → r d ≢ r b → turn m r d e ≤ turn m r d b →
          turn m r d b ≤ turn m r d e → r e ≡ r b
      turn_same m r d e b hd he hb p q h k = grind (arith, turn_forms m r d e, turn_forms m r d b)

-- ---- faces, walked backwards

pub walk_back : (n m : Net) → AreOpposite n m → (set : ℕ → Bool) (d : ℕ) → d < dart_count n
    → set (d / 2) ≡ true → next_in_face m set (twin_of (next_in_face n set d)) ≡ twin_of d
walk_back n m o set d l t =
    let k : InSet n set d = record { inside = l; chosen = t } in
    let x = next_in_face n set d in
    let s : InSet n set x = face_set n set d k in
    let w = twin_set n set d k in
    let half : set (twin_of x / 2) ≡ true = (twin_set n set x s).chosen in
    face_in m set (twin_of x) half ∙ ap (next_around m set) (twin_twin x ∙ face_in n set d t) ∙
    next_back n m o set (tail_of n.graph (twin_of d)) (twin_of d) (record { inside = w.inside; chosen = w.chosen; tail = refl })

-- the name of the face of the twin stays along a face
label_stays : (n m : Net) → AreOpposite n m → (set : ℕ → Bool) (d : ℕ) → d < dart_count n
    → face_of m set (twin_of (next_in_face n set d)) ≡ face_of m set (twin_of d)
label_stays n m o set d l = elim (cases_Bool (set (d / 2))) [
  | inl t ↦
      let x = twin_of (next_in_face n set d) in
      let k : InSet n set d = record { inside = l; chosen = t } in
      let e = same_darts n m o.graph in
      let i = (twin_set n set _ (face_set n set d k)).inside in
      let inside : x < dart_count m = omega arith in
      sym (least_step (dart_count m) (next_in_face m set) (face_back m set) (face_permutes m set) x inside) ∙
      ap (face_of m set) (walk_back n m o set d l t)
  | inr t ↦ ap (λ z. face_of m set (twin_of z)) (face_out n set d t)
]

faces_there : (n m : Net) → AreOpposite n m → (set : ℕ → Bool) (d c : ℕ) → d < dart_count n → c < dart_count n
    → face_of n set d ≡ face_of n set c → face_of m set (twin_of d) ≡ face_of m set (twin_of c)
faces_there n m o set d c ld lc e =
    let label = λ (z : ℕ). face_of m set (twin_of z) in
    let at = λ (z : ℕ) (l : z < dart_count n). label_least (dart_count n) (next_in_face n set) (face_back n set) (face_permutes n set) label
    (label_stays n m o set) z l in
    sym (at d ld) ∙ ap label e ∙ at c lc

-- two darts are on one face of the one net exactly where their twins are on one face of the other
pub faces_opposite : (n m : Net) → AreOpposite n m → (set : ℕ → Bool) (d c : ℕ) → d < dart_count n
    → c < dart_count n
    → (face_of n set d ≡ face_of n set c ↔ face_of m set (twin_of d) ≡ face_of m set (twin_of c))
faces_opposite n m o set d c ld lc = (
  faces_there n m o set d c ld lc,
  λ e.
      let size = same_darts n m o.graph in
      let i = twin_below d (length n.graph.edges) ld in
      let j = twin_below c (length n.graph.edges) lc in
      ap (face_of n set) (sym (twin_twin d)) ∙
      faces_there m n (opposite_back n m o) set (twin_of d) (twin_of c) (omega arith) (omega arith) e ∙
      ap (face_of n set) (twin_twin c),
)

-- the corner at a dart outside of the set, by the dart before it
corner_opposite : (n m : Net) → AreOpposite n m → (set : ℕ → Bool) (v d x : ℕ) → IsAt n v d
    → set (d / 2) ≡ false → Leaves n set v x
    → Leaves n set v (next_around m set d) × (face_of n set (twin_of (next_around m set d)) ≡ corner_face n set d)
corner_opposite n m o set v d x ad out lx =
    let g = o.graph in
    let dm : IsAt m v d = record { inside = let e = same_darts n m g in let i = ad.inside in omega arith; tail = same_tail n m g d ∙ ad.tail } in
    let b = next_around m set d in
    let lb : Leaves n set v b = leaves_in m n (sym g) set v b (next_there m set v d x dm (leaves_in n m g set v x lx)) in
    let w = twin_set n set b (record { inside = lb.inside; chosen = lb.chosen }) in (
      lb,
      sym (least_step (dart_count n) (next_in_face n set) (face_back n set) (face_permutes n set) (twin_of b) w.inside) ∙
          ap (face_of n set) (face_in n set (twin_of b) w.chosen ∙ ap (next_around n set) (twin_twin b) ∙ next_over n m o set v d x ad out lx),
    )

-- ---- nets in which each edge lies in one face or in two alike

pub record HaveAlikeFaces (n m : Net) : Type 0 where
  pub graph : m.graph ≡ n.graph
  pub lies : (set : ℕ → Bool) (e : ℕ) → e < length n.graph.edges → set e ≡ false → AreEndsJoined n set e →
      (LiesInFace m set e ↔ LiesInFace n set e)

ends_alike : (n m : Net) → m.graph ≡ n.graph → (set : ℕ → Bool) (e : ℕ) → AreEndsJoined m set e → AreEndsJoined n set e
ends_alike n m g set e h =
    let P : Signed → Type 0 = λ a. component_of a set (edge_at a e).a ≡ component_of a set (edge_at a e).b in
    subst P g h

no_edges : ℕ → Bool
no_edges e = false

none_plane : (net : Net) → excess net no_edges ≡ 0
unfolding no_edges
none_plane net =
    let k = kept_plane net (length net.graph.edges) (omega arith) in
    let r = excess_rises net no_edges (is_in (kept_before net (length net.graph.edges))) (λ e l h. absurd (both_ways _ refl h)) in
    omega (arith, k, r)

grown_alike : (n m : Net) → HaveAlikeFaces n m → (p q : ℕ → Bool) (e : ℕ) → IsOneMore n p q e → excess m p ≡ excess n p → excess m q ≡ excess n q
grown_alike n m h p q e k s =
    let more : IsOneMore m p q e = record {
      inside = let size = ap (λ (a : Signed). length a.edges) h.graph in let i = k.inside in omega arith;
      out = k.out;
      chosen = k.chosen;
      same = λ x l ne. k.same x (let size = ap (λ (a : Signed). length a.edges) h.graph in omega arith) ne;
    } in
    let f = excess_effect n p q e k in
    let f' = excess_effect m p q e more in
    elim (same_component n p e) [
      | inr ne ↦ omega (arith, s, f.joins ne, f'.joins (λ j. ne (ends_alike n m h.graph p e j)))
      | inl j ↦
          let j' = ends_alike m n (sym h.graph) p e j in
          elim (one_face n p e) [
            | inl r ↦ omega (arith, s, f.splits j r, f'.splits j' ((h.lies p e k.inside k.out j).1 r))
            | inr r ↦ omega (arith, s, f.crosses j r, f'.crosses j' (λ z. r ((h.lies p e k.inside k.out j).0 z)))
          ]
    ]

mixed_alike : (n m : Net) → HaveAlikeFaces n m → (p : ℕ → Bool) (k : ℕ) → k ≤ length n.graph.edges
    → excess m (mixed no_edges p k) ≡ excess n (mixed no_edges p k)
unfolding no_edges
mixed_alike n m h p zero l =
    let at = λ (net : Net). excess_same net no_edges (mixed no_edges p 0) (λ e i. sym (mixed_above no_edges p 0 e (omega arith))) in
    sym (at m) ∙ none_plane m ∙ sym (none_plane n) ∙ at n
mixed_alike n m h p (suc k) l =
    let rest = mixed_alike n m h p k (omega arith) in
    elim (cases_Bool (p k)) [
      | inl t ↦ grown_alike n m h (mixed no_edges p k) (mixed no_edges p (suc k)) k (record {
        inside = omega arith;
        out = mixed_above no_edges p k k (omega arith);
        chosen = mixed_below no_edges p (suc k) k (omega arith) ∙ t;
        same = λ x i ne. mixed_other no_edges p k x ne;
      }) rest
      | inr t ↦
          let at = λ (net : Net). excess_same net (mixed no_edges p k) (mixed no_edges p (suc k)) (λ e i. mixed_at no_edges p k e (sym t)) in
          sym (at m) ∙ rest ∙ at n
    ]

-- they have one excess for each set
excess_alike : (n m : Net) → HaveAlikeFaces n m → (p : ℕ → Bool) → excess m p ≡ excess n p
excess_alike n m h p =
    let size = ap (λ (a : Signed). length a.edges) h.graph in
    let whole = mixed_alike n m h p (length n.graph.edges) (omega arith) in
    sym (excess_same m (mixed no_edges p (length n.graph.edges)) p (λ e i. mixed_below no_edges p (length n.graph.edges) e (omega arith))) ∙
    whole ∙ excess_same n (mixed no_edges p (length n.graph.edges)) p (λ e i. mixed_below no_edges p (length n.graph.edges) e i)

-- nets that have one excess for each set, and keep and set aside the same edges
pub record AreKeptAlike (n m : Net) : Type 0 where
  pub excesses : HaveOneExcess n m
  pub kept : kept_edges m ≡ kept_edges n
  pub aside : aside_edges m ≡ aside_edges n

pub kept_by_faces : (n m : Net) → HaveAlikeFaces n m → AreKeptAlike n m
kept_by_faces n m h =
    let size = ap (λ (g : Signed). length g.edges) h.graph in
    let same = excess_alike n m h in
    record { excesses = same; kept = kept_by_excess n m size same; aside = aside_by_excess n m size same }

-- nets that are drawn alike have alike faces
pub drawn_alike_faces : (n m : Net) → AreDrawnAlike n m → HaveAlikeFaces n m
drawn_alike_faces n m a = record {
  graph = a.graph;
  lies = λ set e l out j.
      let one = corner_alike n m a set (2 * e) (omega arith) in
      let two = corner_alike n m a set (2 * e + 1) (omega arith) in
      ((λ r. sym one ∙ r ∙ two), (λ r. one ∙ r ∙ sym two));
}

-- and so have nets that are drawn in opposite orders
pub opposite_faces : (n m : Net) → AreOpposite n m → HaveAlikeFaces n m
opposite_faces n m o = record {
  graph = o.graph;
  lies = λ set e l out j.
      let a = tail_of n.graph (2 * e) in
      let b = tail_of n.graph (2 * e + 1) in
      let da = has_dart n set (edge_at n.graph e).a (used_first n set e j) in
      let db = has_dart n set (edge_at n.graph e).b (used_second n set e j) in
      let one = corner_opposite n m o set a (2 * e) da.dart (record { inside = omega arith; tail = refl })
      (ap set (first_half e) ∙ out)
      (record { inside = da.set.inside; chosen = da.set.chosen; tail = da.tail ∙ sym (first_tail n.graph e) }) in
      let two = corner_opposite n m o set b (2 * e + 1) db.dart (record { inside = omega arith; tail = refl })
      (ap set (second_half e) ∙ out)
      (record { inside = db.set.inside; chosen = db.set.chosen; tail = db.tail ∙ sym (second_tail n.graph e) }) in
      let x = next_around m set (2 * e) in
      let y = next_around m set (2 * e + 1) in
      let f = faces_opposite n m o set (twin_of x) (twin_of y) (twin_below x (length n.graph.edges) one.0.inside)
      (twin_below y (length n.graph.edges) two.0.inside) in (
        (λ r. sym one.1 ∙ f.1 (ap (face_of m set) (twin_twin x) ∙ r ∙ ap (face_of m set) (sym (twin_twin y))) ∙ two.1),
        (λ r. ap (face_of m set) (sym (twin_twin x)) ∙ f.0 (one.1 ∙ r ∙ sym two.1) ∙ ap (face_of m set) (twin_twin y)),
      );
} where
  used_first : (n : Net) (set : ℕ → Bool) (e : ℕ) → AreEndsJoined n set e → is_bare n.graph set (edge_at n.graph e).a ≡ false
  used_first n set e j = elim (cases_Bool (is_bare n.graph set (edge_at n.graph e).a)) [
    | inl t ↦ absurd (first_apart n set e t j)
    | inr t ↦ t
  ]

  used_second : (n : Net) (set : ℕ → Bool) (e : ℕ) → AreEndsJoined n set e → is_bare n.graph set (edge_at n.graph e).b ≡ false
  used_second n set e j = elim (cases_Bool (is_bare n.graph set (edge_at n.graph e).b)) [
    | inl t ↦ absurd (second_apart n set e t j)
    | inr t ↦ t
  ]

-- ---- odd faces

-- a count of darts is one of their twins
pub count_twins : (p : ℕ → Bool) (k : ℕ) → count_on (λ d. p (twin_of d)) (2 * k) ≡ count_on p (2 * k)
count_twins p zero = refl
count_twins p (suc k) =
    let size : 2 * suc k ≡ suc (suc (2 * k)) = omega arith in
    let even : twin_of (2 * k) ≡ suc (2 * k) = twin_even (2 * k) (omega arith) ∙ omega arith in
    let odd : twin_of (suc (2 * k)) ≡ 2 * k = twin_odd (suc (2 * k)) (λ q. omega arith) ∙ omega arith in
    omega (
      arith,
      ap (count_on (λ d. p (twin_of d))) size,
      ap (count_on p) size,
      count_twins p k,
      ap (λ z. cond {A = ℕ} (p z) 1 0) even,
      ap (λ z. cond {A = ℕ} (p z) 1 0) odd,
    )

eq_alike : (a b c d : ℕ) → (a ≡ b → c ≡ d) → (c ≡ d → a ≡ b) → (a == b) ≡ (c == d)
eq_alike a b c d f g = elim (cases_eq a b) [
  | inl h ↦ eq-eqb a b h ∙ sym (eq-eqb c d (f h))
  | inr h ↦ ne_eqb a b h ∙ sym (ne_eqb c d (λ k. h (g k)))
]

-- the face of the twin is odd exactly where the face is
pub odd_opposite : (n m : Net) → AreOpposite n m → (set : ℕ → Bool) (d : ℕ) → d < dart_count n
    → is_odd_face m set (face_of m set (twin_of d)) ≡ is_odd_face n set (face_of n set d)
odd_opposite n m o set d l =
    let k = length n.graph.edges in
    let size = same_darts n m o.graph in
    let at_m = λ (z : ℕ). set (z / 2) && (face_of m set z == face_of m set (twin_of d)) && is_clash_edge m (z / 2) in
    let at_n = λ (z : ℕ). set (z / 2) && (face_of n set z == face_of n set d) && is_clash_edge n (z / 2) in
    let each : (z : ℕ) → z < 2 * k → at_m (twin_of z) ≡ at_n z = λ z i.
    let f = faces_opposite n m o set z d i l in
    ap (λ h. set h && (face_of m set (twin_of z) == face_of m set (twin_of d)) && is_clash_edge m h) (twin_half z) ∙
    ap (λ b. set (z / 2) && b && is_clash_edge m (z / 2)) (eq_alike _ _ _ _ (f.1) (f.0)) ∙
    ap (λ b. set (z / 2) && (face_of n set z == face_of n set d) && b) (ap (λ (a : Signed). is_clash (edge_at a (z / 2)).kind) o.graph) in
    ap (λ z. z % 2 == 1) (ap (count_on at_m) size ∙ sym (count_twins at_m k) ∙ count_on_same (2 * k) (λ z. at_m (twin_of z)) at_n each)
