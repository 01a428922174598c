-- Where a new dart stands between two that follow one another around a node.
use Rattle.std.proofs.Common.{arith, ◌≡◌, ◌≢◌, ℕ, ◌+◌, ◌/◌, ◌<◌, ◌≤◌, refl, sym, ap, ◌∙◌, Bool, true, false, inl, inr, ◌∷◌, List, length, get_or, subst}
use Rattle.std.proofs.lemmas.Bool.{both_ways, ltb-true}
use Rattle.dpl_cycle.proofs.Turns.{turn, next, Mem}
use Rattle.dpl_cycle.proofs.TurnLemmas.{OnCircle, turn_add, turn_self, turn_less, turn_one, next_least, next_in, next_stays}
use Rattle.dpl_sign.specs.declared.nets.Net.{Net}
use Rattle.dpl_sign.specs.Drawings.{tail_of, twin_of, dart_count, next_around, next_in_face, is_met_before}
use Rattle.dpl_sign.proofs.DartLemmas.{twin_half, twin_below, twin_twin}
use Rattle.dpl_sign.proofs.Turning.{rank_of, rank_end, ranked, met_turn}
use Rattle.dpl_sign.proofs.Rotation.{InSet, around, around_from, around_set, around_tail, on_circle_more, next_is, next_member, mem_at, face_in, face_tail}
use Rattle.dpl_drawing.specs.Faces.{AreFaces}
use Rattle.dpl_sign.specs.Rotations.{Leaves}
use Rattle.dpl_drawing.specs.Drawn.{IsLast}
use Rattle.dpl_drawing.proofs.InsertLemmas.{bare_next}
use Rattle.dpl_drawing.proofs.FaceLists.{face_stays}

-- a dart that leaves a node in the set is of the set
pub in_set : (net : Net) (p : ℕ → Bool) (v d : ℕ) → Leaves net p v d → InSet net p d
in_set net p v d k = record { inside = k.inside; chosen = k.chosen }

-- the next one around leaves the same node
pub leaves_next : (net : Net) (p : ℕ → Bool) (v d : ℕ) → Leaves net p v d → Leaves net p v (next_around net p d)
leaves_next net p v d k =
    let m = next_member net p v d (in_set net p v d k) k.tail in
    let s = around_set net p v _ m in
    record { inside = s.inside; chosen = s.chosen; tail = around_tail net p v _ m }

-- on a circle what is met after c, where c is met from y before the next one
next_between : (m : ℕ) (r : ℕ → ℕ) (c y : ℕ) (cs : List ℕ) → OnCircle m r (c ∷ cs) → Mem y cs → (Mem c cs → ⊥)
    → turn m r y c < turn m r y (next m r y cs) → next m r c cs ≡ next m r y cs
next_between m r c y cs k hy new lt =
    let a = next m r y cs in
    let b = next m r c cs in
    let ha : Mem a cs = next_stays m r y cs hy in
    let rc : r c < m = k.below c (inl refl) in
    let ry : r y < m = k.below y (inr hy) in
    let ra : r a < m = k.below a (inr ha) in
    let one : turn m r y a ≡ turn m r y c + turn m r c a = turn_add m r y c a ry rc ra lt in
    let low : turn m r c b ≤ turn m r c a = next_least m r c cs a ha in
    let ca : r c ≢ r a = λ e. new (mem_at c a cs (k.apart c a (inl refl) (inr ha) e) ha) in
    let less : turn m r c a < m = turn_less m r c a rc ra ca in
    elim (next_in m r c cs) [
      | inl e ↦ absurd (omega (arith, ap (turn m r c) e, turn_self m r c, low, less))
      | inr hb ↦
          let rb : r b < m = k.below b (inr hb) in
          let far : turn m r y a ≤ turn m r y b = next_least m r y cs b hb in
          let two : turn m r y b ≡ turn m r y c + turn m r c b = turn_add m r y c b ry rc rb (omega (arith, lt, far)) in
          let same : turn m r c b ≡ turn m r c a = omega (arith, one, low, far, two) in
          k.apart b a (inr hb) (inr ha) (turn_one m r c b a rc rb ra same)
    ]

-- where a new dart is met, turning from y, before the one that follows y, that one follows it too
pub between_next : (net : Net) (p : ℕ → Bool) (c y : ℕ) → c < dart_count net → p (c / 2) ≡ false
    → Leaves net p (tail_of net.graph c) y → is_met_before net y c (next_around net p y) ≡ true
    → next_around net p c ≡ next_around net p y
between_next net p c y h new k met =
    let v = tail_of net.graph c in
    let m = rank_end net v in
    let r = rank_of net v in
    let cs = around net p v in
    let ks = in_set net p v y k in
    let hy : Mem y cs = around_from net p v y ks k.tail in
    let there = leaves_next net p v y k in
    let is_y : next_around net p y ≡ next m r y cs = next_is net p v y k.inside k.tail in
    let turns = met_turn net v m r (ranked net v) y c (next_around net p y)
    (record { inside = k.inside; tail = k.tail }) (record { inside = h; tail = refl })
    (record { inside = there.inside; tail = there.tail }) in
    let lt : turn m r y c < turn m r y (next_around net p y) = ltb-true _ _ (sym turns ∙ met) in
    let out : Mem c cs → ⊥ = λ q. both_ways _ new (around_set net p v c q).chosen in
    next_is net p v c h refl ∙ next_between m r c y cs (on_circle_more net p v c h refl) hy out (omega (arith, lt, ap (turn m r y) is_y)) ∙ sym is_y

-- ---- what the list of the faces tells about turning

-- behind the twin of a dart the list has the one next around its node
pub after_is : (net : Net) (p : ℕ → Bool) (faces : List ℕ) (v y : ℕ) → AreFaces net p faces → Leaves net p v y
    → get_or faces (twin_of y) 0 ≡ next_around net p y
after_is net p faces v y k l =
    let inside = twin_below y (length net.graph.edges) l.inside in
    k.next (twin_of y) inside ∙ face_in net p (twin_of y) (ap p (twin_half y) ∙ l.chosen) ∙ ap (next_around net p) (twin_twin y)

-- what leads to a dart of the set is the twin of the dart before it
pub before_is : (net : Net) (p : ℕ → Bool) (faces : List ℕ) (v y x : ℕ) → AreFaces net p faces
    → Leaves net p v y → x < dart_count net → get_or faces x 0 ≡ y
    → Leaves net p v (twin_of x) × (next_around net p (twin_of x) ≡ y)
before_is net p faces v y x k l h e =
    let here : next_in_face net p x ≡ y = sym (k.next x h) ∙ e in
    let chosen : p (x / 2) ≡ true = sym (face_stays net p x h) ∙ ap (λ z. p (z / 2)) here ∙ l.chosen in
    let s : InSet net p x = record { inside = h; chosen = chosen } in (
      record {
        inside = twin_below x (length net.graph.edges) h;
        chosen = ap p (twin_half x) ∙ chosen;
        tail = sym (face_tail net p x s) ∙ ap (tail_of net.graph) here ∙ l.tail;
      },
      sym (face_in net p x chosen) ∙ here,
    )

-- at a bare node a new dart follows itself
pub last_bare : (net : Net) (p : ℕ → Bool) (c last : ℕ) → c < dart_count net
    → IsLast net p (tail_of net.graph c) last → last ≡ 4294967295 → next_around net p c ≡ c
last_bare net p c last h k e = bare_next net p c h (λ y s t. k.bare e y (record { inside = s.inside; chosen = s.chosen; tail = t }))

-- one step ahead
pub ahead_is : (net : Net) (p : ℕ → Bool) (faces : List ℕ) (v y t a : ℕ) → AreFaces net p faces
    → Leaves net p v y → t ≡ twin_of y → a ≡ get_or faces t 0 → a ≡ next_around net p y
ahead_is net p faces v y t a k l e h = h ∙ ap (λ z. get_or faces z 0) e ∙ after_is net p faces v y k l

leaves_at : (net : Net) (p : ℕ → Bool) (v d c : ℕ) → c ≡ d → Leaves net p v d → Leaves net p v c
leaves_at net p v d c e k = let P : ℕ → Type 0 = λ x. Leaves net p v x in subst P (sym e) k

-- the dart found next leaves the same node in the set
pub ahead_in : (net : Net) (p : ℕ → Bool) (faces : List ℕ) (v y t a : ℕ) → AreFaces net p faces
    → Leaves net p v y → t ≡ twin_of y → a ≡ get_or faces t 0 → Leaves net p v a
ahead_in net p faces v y t a k l e h = leaves_at net p v _ a (ahead_is net p faces v y t a k l e h) (leaves_next net p v y l)

-- the new dart is met there
pub found_ahead : (net : Net) (p : ℕ → Bool) (faces : List ℕ) (c y t a : ℕ) (b : Bool) → c < dart_count net
    → p (c / 2) ≡ false → AreFaces net p faces → Leaves net p (tail_of net.graph c) y → t ≡ twin_of y
    → a ≡ get_or faces t 0 → b ≡ is_met_before net y c a → b ≡ true → a ≡ next_around net p c
found_ahead net p faces c y t a b h new k l e q met agrees =
    let here = ahead_is net p faces (tail_of net.graph c) y t a k l e q in
    here ∙ sym (between_next net p c y h new l (ap (is_met_before net y c) (sym here) ∙ sym met ∙ agrees))

-- one step back
pub back_in : (net : Net) (p : ℕ → Bool) (faces : List ℕ) (v y x t : ℕ) → AreFaces net p faces
    → Leaves net p v y → x < dart_count net → get_or faces x 0 ≡ y → t ≡ twin_of x → Leaves net p v t
back_in net p faces v y x t k l h e q = leaves_at net p v _ t q (before_is net p faces v y x k l h e).0

-- a dart found by turning back is the one that follows the new dart
pub found_back : (net : Net) (p : ℕ → Bool) (faces : List ℕ) (c y x t : ℕ) (b : Bool) → c < dart_count net
    → p (c / 2) ≡ false → AreFaces net p faces → Leaves net p (tail_of net.graph c) y → x < dart_count net
    → get_or faces x 0 ≡ y → t ≡ twin_of x → b ≡ is_met_before net t c y → b ≡ true → y ≡ next_around net p c
found_back net p faces c y x t b h new k l hx e q met agrees =
    let step = before_is net p faces (tail_of net.graph c) y x k l hx e in
    let test : is_met_before net (twin_of x) c (next_around net p (twin_of x)) ≡ true =
    ap (is_met_before net (twin_of x) c) step.1 ∙ ap (λ z. is_met_before net z c y) (sym q) ∙ sym met ∙ agrees in
    sym step.1 ∙ sym (between_next net p c (twin_of x) h new step.0 test)
