-- Turning around the nodes permutes the darts of a set, and so does going along the faces.
use Rattle.std.proofs.Common.{arith, ◌≡◌, ℕ, ◌/◌, ◌<◌, refl, sym, ap, ◌∙◌, Bool, true, false, cond, inl, inr, List, ◌∷◌, subst, eq-eqb, length}
use Rattle.std.proofs.lemmas.Bool.{cases_Bool, cond-true, cond-false, and_parts, and_from, eqb-true}
use Rattle.dpl_cycle.specs.Cycles.{Permutes}
use Rattle.dpl_cycle.specs.Among.{members}
use Rattle.dpl_cycle.proofs.MemberLemmas.{member_from, member_is}
use Rattle.dpl_cycle.proofs.Turns.{next, before, Mem}
use Rattle.dpl_cycle.proofs.TurnLemmas.{OnCircle, next_stays, before_in, before_next, next_before}
use Rattle.dpl_cycle.proofs.Least.{least_le}
use Rattle.dpl_sign.specs.declared.nets.Net.{Net}
use Rattle.dpl_sign.specs.Drawings.{tail_of, twin_of, dart_count, next_around, next_in_face, face_of}
use Rattle.dpl_sign.proofs.DartLemmas.{twin_half, twin_below, twin_twin}
use Rattle.dpl_sign.proofs.Turning.{ranked, rank_of, rank_end, is_near, next_near}

-- a dart of an edge of the set
pub record InSet (net : Net) (set : ℕ → Bool) (d : ℕ) : Type 0 where
  pub inside : d < dart_count net
  pub chosen : set (d / 2) ≡ true

-- the darts of the set that leave a node
abbrev pub around : Net → (ℕ → Bool) → ℕ → List ℕ
around net set v = members (is_near net set v) (dart_count net)

-- a dart of the set that leaves the node is among those around it
pub around_from : (net : Net) (set : ℕ → Bool) (v d : ℕ) → InSet net set d → tail_of net.graph d ≡ v → Mem d (around net set v)
around_from net set v d h t = member_from (is_near net set v) (dart_count net) d h.inside (and_from _ _ h.chosen (eq-eqb (tail_of net.graph d) v t))

-- what is around a node is in the set
pub around_set : (net : Net) (set : ℕ → Bool) (v d : ℕ) → Mem d (around net set v) → InSet net set d
around_set net set v d h =
    let k = member_is (is_near net set v) (dart_count net) d h in
    record { inside = k.0; chosen = (and_parts _ _ k.1).0 }

-- what is around a node leaves it
pub around_tail : (net : Net) (set : ℕ → Bool) (v d : ℕ) → Mem d (around net set v) → tail_of net.graph d ≡ v
around_tail net set v d h = eqb-true (tail_of net.graph d) v (and_parts _ _ (member_is (is_near net set v) (dart_count net) d h).1).1

-- the darts around a node stand on a circle by their ranks
pub on_circle : (net : Net) (set : ℕ → Bool) (v : ℕ) → OnCircle (rank_end net v) (rank_of net v) (around net set v)
on_circle net set v =
    let r = ranked net v in
    record {
      below = λ k h. r.below k (around_set net set v k h).inside (around_tail net set v k h);
      apart = λ k l h i e. r.apart k l (around_set net set v k h).inside (around_set net set v l i).inside
          (around_tail net set v k h) (around_tail net set v l i) e;
    }

-- with one more dart of the node
pub on_circle_more : (net : Net) (set : ℕ → Bool) (v c : ℕ) → c < dart_count net → tail_of net.graph c ≡ v
    → OnCircle (rank_end net v) (rank_of net v) (c ∷ around net set v)
on_circle_more net set v c hc tc =
    let r = ranked net v in
    let inside : (k : ℕ) → Mem k (c ∷ around net set v) → (k < dart_count net) × (tail_of net.graph k ≡ v) = λ k h. elim h [
      | inl e ↦ (omega (arith, e), ap (tail_of net.graph) e ∙ tc)
      | inr m ↦ ((around_set net set v k m).inside, around_tail net set v k m)
    ] in
    record {
      below = λ k h. r.below k (inside k h).0 (inside k h).1;
      apart = λ k l h i e. r.apart k l (inside k h).0 (inside l i).0 (inside k h).1 (inside l i).1 e;
    }

-- the next dart around a node is the next one on its circle
pub next_is : (net : Net) (set : ℕ → Bool) (v d : ℕ) → d < dart_count net → tail_of net.graph d ≡ v
    → next_around net set d ≡ next (rank_end net v) (rank_of net v) d (around net set v)
next_is net set v d h t = (next_near net set v (rank_end net v) (rank_of net v) (ranked net v) d
    (record { inside = h; tail = t }) (length net.graph.edges) (omega arith)).0

-- an equal dart is in the set too
pub in_set_at : (net : Net) (set : ℕ → Bool) (d c : ℕ) → c ≡ d → InSet net set c → InSet net set d
in_set_at net set d c e h = let P : ℕ → Type 0 = λ x. InSet net set x in subst P e h

-- an equal dart is among them too
pub mem_at : (x y : ℕ) (ds : List ℕ) → x ≡ y → Mem y ds → Mem x ds
mem_at x y ds e h = let P : ℕ → Type 0 = λ z. Mem z ds in subst P (sym e) h

-- the next dart around a node is one of the set that leaves the same node
pub next_member : (net : Net) (set : ℕ → Bool) (v d : ℕ) → InSet net set d → tail_of net.graph d ≡ v → Mem (next_around net set d) (around net set v)
next_member net set v d h t = mem_at _ _ (around net set v) (next_is net set v d h.inside t)
    (next_stays (rank_end net v) (rank_of net v) d (around net set v) (around_from net set v d h t))

-- the dart before it
pub prev_around : Net → (ℕ → Bool) → ℕ → ℕ
prev_around net set d = let v = tail_of net.graph d in before (rank_end net v) (rank_of net v) d (around net set v)

-- the dart before around a node is the one before on its circle
pub prev_is : (net : Net) (set : ℕ → Bool) (v d : ℕ) → tail_of net.graph d ≡ v
    → prev_around net set d ≡ before (rank_end net v) (rank_of net v) d (around net set v)
unfolding prev_around
prev_is net set v d t = ap (λ w. before (rank_end net w) (rank_of net w) d (around net set w)) t

-- the dart before is around the same node
pub prev_member : (net : Net) (set : ℕ → Bool) (v d : ℕ) → InSet net set d → tail_of net.graph d ≡ v → Mem (prev_around net set d) (around net set v)
prev_member net set v d h t = mem_at _ _ (around net set v) (prev_is net set v d t) (elim (before_in (rank_end net v) (rank_of net v) d (around net set v)) [
  | inl e ↦ mem_at _ d (around net set v) e (around_from net set v d h t)
  | inr m ↦ m
])

-- the dart before the next one is the dart itself
pub prev_next : (net : Net) (set : ℕ → Bool) (d : ℕ) → InSet net set d → prev_around net set (next_around net set d) ≡ d
prev_next net set d h =
    let v = tail_of net.graph d in
    let m = rank_end net v in
    let r = rank_of net v in
    let cs = around net set v in
    let n = next_around net set d in
    let hn : Mem n cs = next_member net set v d h refl in
    let hp : Mem (prev_around net set n) cs = prev_member net set v n (around_set net set v n hn) (around_tail net set v n hn) in
    let same : n ≡ next m r d cs = next_is net set v d h.inside refl in
    let e : prev_around net set n ≡ before m r (next m r d cs) cs = prev_is net set v n (around_tail net set v n hn) ∙ ap (λ x. before m r x cs) same in
    e ∙ before_next m r cs (on_circle net set v) d (around_from net set v d h refl) (mem_at _ _ cs (sym same) hn) (mem_at _ _ cs (sym e) hp)

-- the dart next to the one before is the dart itself
pub next_prev : (net : Net) (set : ℕ → Bool) (d : ℕ) → InSet net set d → next_around net set (prev_around net set d) ≡ d
next_prev net set d h =
    let v = tail_of net.graph d in
    let m = rank_end net v in
    let r = rank_of net v in
    let cs = around net set v in
    let x = prev_around net set d in
    let hx : Mem x cs = prev_member net set v d h refl in
    let hn : Mem (next_around net set x) cs = next_member net set v x (around_set net set v x hx) (around_tail net set v x hx) in
    let same : x ≡ before m r d cs = prev_is net set v d refl in
    let e : next_around net set x ≡ next m r (before m r d cs) cs =
    next_is net set v x (around_set net set v x hx).inside (around_tail net set v x hx) ∙
    ap (λ y. next m r y cs) same in
    e ∙ next_before m r cs (on_circle net set v) d (around_from net set v d h refl) (mem_at _ _ cs (sym same) hx) (mem_at _ _ cs (sym e) hn)

-- ---- along the faces

-- the twin of a dart of the set is in the set
pub twin_set : (net : Net) (set : ℕ → Bool) (d : ℕ) → InSet net set d → InSet net set (twin_of d)
twin_set net set d h = record { inside = twin_below d (length net.graph.edges) h.inside; chosen = ap set (twin_half d) ∙ h.chosen }

-- a dart of the set leads in its face to the one next around its far node
pub face_in : (net : Net) (set : ℕ → Bool) (d : ℕ) → set (d / 2) ≡ true → next_in_face net set d ≡ next_around net set (twin_of d)
face_in net set d h = cond-true (set (d / 2)) _ d h

-- a dart outside of the set leads to itself
pub face_out : (net : Net) (set : ℕ → Bool) (d : ℕ) → set (d / 2) ≡ false → next_in_face net set d ≡ d
face_out net set d h = cond-false (set (d / 2)) (next_around net set (twin_of d)) d h

-- in a face the darts of the set lead to such darts
pub face_set : (net : Net) (set : ℕ → Bool) (d : ℕ) → InSet net set d → InSet net set (next_in_face net set d)
face_set net set d h =
    let t = twin_set net set d h in
    in_set_at net set _ _ (sym (face_in net set d h.chosen)) (around_set net set _ _ (next_member net set _ (twin_of d) t refl))

-- the tail of the next dart of a face is the other end of this one
pub face_tail : (net : Net) (set : ℕ → Bool) (d : ℕ) → InSet net set d → tail_of net.graph (next_in_face net set d) ≡ tail_of net.graph (twin_of d)
face_tail net set d h = ap (tail_of net.graph) (face_in net set d h.chosen) ∙
    around_tail net set _ _ (next_member net set _ (twin_of d) (twin_set net set d h) refl)

-- the dart that leads to this one in its face
pub face_back : Net → (ℕ → Bool) → ℕ → ℕ
face_back net set d = cond (set (d / 2)) (twin_of (prev_around net set d)) d

back_in : (net : Net) (set : ℕ → Bool) (d : ℕ) → set (d / 2) ≡ true → face_back net set d ≡ twin_of (prev_around net set d)
unfolding face_back
back_in net set d h = cond-true (set (d / 2)) _ d h

back_out : (net : Net) (set : ℕ → Bool) (d : ℕ) → set (d / 2) ≡ false → face_back net set d ≡ d
unfolding face_back
back_out net set d h = cond-false (set (d / 2)) (twin_of (prev_around net set d)) d h

prev_set : (net : Net) (set : ℕ → Bool) (d : ℕ) → InSet net set d → InSet net set (prev_around net set d)
prev_set net set d h = around_set net set _ _ (prev_member net set _ d h refl)

back_set : (net : Net) (set : ℕ → Bool) (d : ℕ) → InSet net set d → InSet net set (face_back net set d)
back_set net set d h = in_set_at net set _ _ (sym (back_in net set d h.chosen)) (twin_set net set _ (prev_set net set d h))

-- the face rule permutes the darts
pub face_permutes : (net : Net) (set : ℕ → Bool) → Permutes (dart_count net) (next_in_face net set) (face_back net set)
face_permutes net set = record {
  to = λ d h. elim (cases_Bool (set (d / 2))) [
    | inl t ↦ (face_set net set d (record { inside = h; chosen = t })).inside
    | inr t ↦ omega (arith, face_out net set d t, h)
  ];
  from = λ d h. elim (cases_Bool (set (d / 2))) [
    | inl t ↦ (back_set net set d (record { inside = h; chosen = t })).inside
    | inr t ↦ omega (arith, back_out net set d t, h)
  ];
  back = λ d h. elim (cases_Bool (set (d / 2))) [
    | inl t ↦
        let k : InSet net set d = record { inside = h; chosen = t } in
        back_in net set _ (face_set net set d k).chosen ∙
        ap (λ x. twin_of (prev_around net set x)) (face_in net set d t) ∙
        ap twin_of (prev_next net set (twin_of d) (twin_set net set d k)) ∙ twin_twin d
    | inr t ↦ ap (face_back net set) (face_out net set d t) ∙ back_out net set d t
  ];
  forth = λ d h. elim (cases_Bool (set (d / 2))) [
    | inl t ↦
        let k : InSet net set d = record { inside = h; chosen = t } in
        face_in net set _ (back_set net set d k).chosen ∙
        ap (λ x. next_around net set (twin_of x)) (back_in net set d t) ∙
        ap (next_around net set) (twin_twin (prev_around net set d)) ∙ next_prev net set d k
    | inr t ↦ ap (next_in_face net set) (back_out net set d t) ∙ face_out net set d t
  ];
}

-- the name of a face is a dart
pub face_below : (net : Net) (set : ℕ → Bool) (d : ℕ) → d < dart_count net → face_of net set d < dart_count net
face_below net set d h = omega (arith, least_le _ _ _ (face_permutes net set) d h, h)
