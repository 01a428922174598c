-- One edge more: where its darts come around their nodes.
use Rattle.std.proofs.Common.{arith, ◌≡◌, ◌≢◌, ℕ, ◌/◌, ◌<◌, refl, sym, ap, ◌∙◌, Bool, true, false, inl, inr, [], ◌∷◌, length}
use Rattle.std.proofs.lemmas.Bool.{cases_eq, both_ways}
use Rattle.dpl_cycle.proofs.Turns.{next, before, Mem}
use Rattle.dpl_cycle.proofs.TurnLemmas.{next_stays, next_alike, next_itself, before_member, next_more_other, next_more_before, next_more_new}
use Rattle.dpl_sign.specs.declared.nets.Net.{Net}
use Rattle.dpl_sign.specs.Drawings.{tail_of, dart_count, next_around}
use Rattle.dpl_sign.proofs.DartLemmas.{tails_apart}
use Rattle.dpl_sign.proofs.Turning.{rank_of, rank_end}
use Rattle.dpl_sign.proofs.Rotation.{InSet, around, around_from, around_set, around_tail, on_circle, on_circle_more, next_is, prev_around, prev_is, mem_at}

-- q is p with the edge e
pub record IsOneMore (net : Net) (p q : ℕ → Bool) (e : ℕ) : Type 0 where
  pub inside : e < length net.graph.edges
  pub out : p e ≡ false
  pub chosen : q e ≡ true
  pub same : (x : ℕ) → x < length net.graph.edges → x ≢ e → p x ≡ q x

-- each dart is of an edge of the net
pub half_below : (net : Net) (d : ℕ) → d < dart_count net → d / 2 < length net.graph.edges
half_below net d h = omega arith

-- one edge more takes no dart from the set
pub grown : (net : Net) (p q : ℕ → Bool) (e : ℕ) → IsOneMore net p q e → (d : ℕ) → InSet net p d → InSet net q d
grown net p q e k d h = elim (cases_eq (d / 2) e) [
  | inl t ↦ absurd (both_ways _ k.out (ap p (sym t) ∙ h.chosen))
  | inr t ↦ record { inside = h.inside; chosen = sym (k.same (d / 2) (half_below net d h.inside) t) ∙ h.chosen }
]

-- without the new edge a dart was in the set before
pub shrunk : (net : Net) (p q : ℕ → Bool) (e : ℕ) → IsOneMore net p q e → (d : ℕ) → InSet net q d → d / 2 ≢ e → InSet net p d
shrunk net p q e k d h t = record { inside = h.inside; chosen = k.same (d / 2) (half_below net d h.inside) t ∙ h.chosen }

-- a dart of the new edge
pub record IsNewDart (net : Net) (p q : ℕ → Bool) (e c : ℕ) : Type 0 where
  pub more : IsOneMore net p q e
  pub inside : c < dart_count net
  pub half : c / 2 ≡ e

-- a dart of the new edge is in the new set
pub new_dart_set : (net : Net) (p q : ℕ → Bool) (e c : ℕ) → IsNewDart net p q e c → InSet net q c
new_dart_set net p q e c k = record { inside = k.inside; chosen = ap q k.half ∙ k.more.chosen }

not_there : (net : Net) (p q : ℕ → Bool) (e c v : ℕ) → IsNewDart net p q e c → Mem c (around net p v) → ⊥
not_there net p q e c v k h = both_ways _ k.more.out (ap p (sym k.half) ∙ (around_set net p v c h).chosen)

-- the new dart among the darts of its node
alike : (net : Net) (p q : ℕ → Bool) (e c y : ℕ) → IsNewDart net p q e c → InSet net q y
    → tail_of net.graph y ≡ tail_of net.graph c
    → next_around net q y ≡ next (rank_end net (tail_of net.graph c)) (rank_of net (tail_of net.graph c)) y (c ∷ around net p (tail_of net.graph c))
alike net p q e c y k h t =
    let u = tail_of net.graph c in
    next_is net q u y h.inside t ∙ next_alike (rank_end net u) (rank_of net u) y (around net q u) (c ∷ around net p u)
    (on_circle net q u) (around_from net q u y h t)
    (λ z m. elim (cases_eq (z / 2) e) [
      | inl a ↦ inl (tails_apart net.graph z c (a ∙ sym k.half) (around_tail net q u z m))
      | inr a ↦ inr (around_from net p u z (shrunk net p q e k.more z (around_set net q u z m) a) (around_tail net q u z m))
    ])
    (λ z m. elim m [
      | inl a ↦ mem_at z c (around net q u) a (around_from net q u c (new_dart_set net p q e c k) refl)
      | inr a ↦ around_from net q u z (grown net p q e k.more z (around_set net p u z a)) (around_tail net p u z a)
    ])

-- at the other nodes nothing changes
pub next_elsewhere : (net : Net) (p q : ℕ → Bool) (e y : ℕ) → IsOneMore net p q e → InSet net p y
    → ((z : ℕ) → z < dart_count net → z / 2 ≡ e → tail_of net.graph y ≢ tail_of net.graph z)
    → next_around net q y ≡ next_around net p y
next_elsewhere net p q e y k h far =
    let w = tail_of net.graph y in
    next_is net q w y h.inside refl ∙ next_alike (rank_end net w) (rank_of net w) y (around net q w) (around net p w)
    (on_circle net q w) (around_from net q w y (grown net p q e k y h) refl)
    (λ z m. elim (cases_eq (z / 2) e) [
      | inl a ↦ absurd (far z (around_set net q w z m).inside a (sym (around_tail net q w z m)))
      | inr a ↦ around_from net p w z (shrunk net p q e k z (around_set net q w z m) a) (around_tail net q w z m)
    ])
    (λ z m. around_from net q w z (grown net p q e k z (around_set net p w z m)) (around_tail net p w z m)) ∙ sym (next_is net p w y h.inside refl)

-- where the set has darts at the node of the new dart, it comes after one of them
pub record IsBetween (net : Net) (p q : ℕ → Bool) (c : ℕ) : Type 0 where
  pub prev_in : InSet net p (prev_around net p c)
  pub prev_tail : tail_of net.graph (prev_around net p c) ≡ tail_of net.graph c
  pub to_new : next_around net q (prev_around net p c) ≡ c
  pub from_new : next_around net q c ≡ next_around net p (prev_around net p c)
  pub corner : next_around net p c ≡ next_around net p (prev_around net p c)
  pub others : (y : ℕ) → InSet net p y → tail_of net.graph y ≡ tail_of net.graph c → y ≢ prev_around net p c → next_around net q y ≡ next_around net p y

-- where a dart of the set leaves the node of a new dart, that comes after one of them
pub between : (net : Net) (p q : ℕ → Bool) (e c k : ℕ) → IsNewDart net p q e c → InSet net p k → tail_of net.graph k ≡ tail_of net.graph c → IsBetween net p q c
between net p q e c k n hk tk =
    let u = tail_of net.graph c in
    let m = rank_end net u in
    let r = rank_of net u in
    let cs = around net p u in
    let x = prev_around net p c in
    let circle = on_circle_more net p u c n.inside refl in
    let new : Mem c cs → ⊥ = not_there net p q e c u n in
    let is : x ≡ before m r c cs = prev_is net p u c refl in
    let hb : Mem (before m r c cs) cs = before_member m r c k cs circle (around_from net p u k hk tk) new in
    let hx : Mem x cs = mem_at x _ cs is hb in
    let hn : Mem (next m r (before m r c cs) cs) cs = next_stays m r (before m r c cs) cs hb in
    let set = around_set net p u x hx in
    let tail = around_tail net p u x hx in
    let inner : next_around net p x ≡ next m r (before m r c cs) cs = next_is net p u x set.inside tail ∙ ap (λ z. next m r z cs) is in
    let past : next m r c (c ∷ cs) ≡ next m r (before m r c cs) cs = next_more_new m r c cs circle hb new in
    record {
      prev_in = set;
      prev_tail = tail;
      to_new = alike net p q e c x n (grown net p q e n.more x set) tail ∙ ap (λ z. next m r z (c ∷ cs)) is ∙ next_more_before m r c cs circle hb hn new;
      from_new = alike net p q e c c n (new_dart_set net p q e c n) refl ∙ past ∙ sym inner;
      corner = next_is net p u c n.inside refl ∙ sym (next_itself m r c cs) ∙ past ∙ sym inner;
      others = λ y hy ty ne.
          alike net p q e c y n (grown net p q e n.more y hy) ty ∙
          next_more_other m r c cs circle y (around_from net p u y hy ty) hb new (λ a. ne (a ∙ sym is)) ∙
          sym (next_is net p u y hy.inside ty);
    }

-- where it has none, the new dart is alone
pub alone : (net : Net) (p q : ℕ → Bool) (e c : ℕ) → IsNewDart net p q e c
    → ((y : ℕ) → InSet net p y → tail_of net.graph y ≢ tail_of net.graph c) → next_around net q c ≡ c
alone net p q e c n none =
    let u = tail_of net.graph c in
    let m = rank_end net u in
    let r = rank_of net u in
    next_is net q u c n.inside refl ∙ next_alike m r c (around net q u) (c ∷ []) (on_circle net q u) (around_from net q u c (new_dart_set net p q e c n) refl)
    (λ z h. elim (cases_eq (z / 2) e) [
      | inl a ↦ inl (tails_apart net.graph z c (a ∙ sym n.half) (around_tail net q u z h))
      | inr a ↦ absurd (none z (shrunk net p q e n.more z (around_set net q u z h) a) (around_tail net q u z h))
    ])
    (λ z h. elim h [
      | inl a ↦ mem_at z c (around net q u) a (around_from net q u c (new_dart_set net p q e c n) refl)
      | inr a ↦ absurd a
    ]) ∙ next_itself m r c []
