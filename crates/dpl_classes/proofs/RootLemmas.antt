-- Roots of classes, pair by pair.
use Rattle.std.proofs.Common.{arith, ◌≡◌, ◌≢◌, ℕ, ◌+◌, ◌<◌, ◌≤◌, ◌==◌, List, length, get_or, ◌∙◌, All, Contains, refl}
use Rattle.std.proofs.Common.{sym, ap, subst, inl, inr, ◌⊎◌, ◌∷◌, [], cond, max, min}
use Rattle.std.proofs.lemmas.Bool.{cases_lt, cases_eq}
use Rattle.std.proofs.lemmas.Bool.Decides.{nat_tests}
use Rattle.std.proofs.lemmas.List.{get_or_default}
use Rattle.dpl_classes.specs.Chains.{IsChain, AreLinked}
use Rattle.dpl_classes.specs.Roots.{AreRoots}
use Rattle.dpl_classes.proofs.ChainLemmas.{link_here, link_on, link_back, link_pair}

-- the roots after the first t pairs
pub record Rooted (pairs : List (ℕ × ℕ)) (n t : ℕ) (roots : List ℕ) : Type 0 where
  pub long : length roots ≡ n
  pub low : (i : ℕ) → i < n → get_or roots i 0 ≤ i
  pub fixed : (i : ℕ) → i < n → get_or roots (get_or roots i 0) 0 ≡ get_or roots i 0
  pub linked : (i : ℕ) → i < n → AreLinked pairs i (get_or roots i 0)
  pub done : (k : ℕ) (d : ℕ × ℕ) → k < t → k < length pairs → get_or roots (get_or pairs k d).0 0 ≡ get_or roots (get_or pairs k d).1 0

pub rooted_none : (pairs : List (ℕ × ℕ)) (roots : List ℕ) → ((k : ℕ) → k < length roots → get_or roots k 0 ≡ k) → Rooted pairs (length roots) 0 roots
rooted_none pairs roots h = record {
  long = refl;
  low = λ i l. let e = h i l in omega arith;
  fixed = λ i l. let e = h i l in ap (λ m. get_or roots m 0) e;
  linked = λ i l. link_here pairs i _ (sym (h i l));
  done = λ k d l. absurd (omega arith);
}

pub moved_yes : (from to r : ℕ) → r ≡ from → cond (r == from) to r ≡ to
moved_yes from to r e = grind (arith, nat_tests)

pub moved_no : (from to r : ℕ) → r ≢ from → cond (r == from) to r ≡ r
moved_no from to r e = grind (arith, nat_tests)

-- the root `from` gives way to the smaller root `to`: they are those of the two ends of a pair
pub record IsMove (pairs : List (ℕ × ℕ)) (roots new : List ℕ) (p q from to : ℕ) : Type 0 where
  pub each : (k : ℕ) → k < length roots → get_or new k 0 ≡ cond (get_or roots k 0 == from) to (get_or roots k 0)
  pub long : length new ≡ length roots
  pub pair : Contains pairs (p, q)
  pub first : p < length roots
  pub second : q < length roots
  pub ends : ((get_or roots p 0 ≡ from) × (get_or roots q 0 ≡ to)) ⊎ ((get_or roots p 0 ≡ to) × (get_or roots q 0 ≡ from))
  pub falls : to ≤ from

-- what becomes of a root
move_cases : {P : Type 0} (pairs : List (ℕ × ℕ)) (roots new : List ℕ) (p q from to k : ℕ) → IsMove pairs roots new p q from to → k < length roots
    → (get_or roots k 0 ≡ from → get_or new k 0 ≡ to → P) → (get_or roots k 0 ≢ from → get_or new k 0 ≡ get_or roots k 0 → P) → P
move_cases pairs roots new p q from to k m l f g = elim (cases_eq (get_or roots k 0) from) [
  | inl h ↦ f h (m.each k l ∙ moved_yes from to _ h)
  | inr h ↦ g h (m.each k l ∙ moved_no from to _ h)
]

move_same : (pairs : List (ℕ × ℕ)) (roots new : List ℕ) (p q from to i j : ℕ)
    → IsMove pairs roots new p q from to → i < length roots → j < length roots
    → get_or roots i 0 ≡ get_or roots j 0 → get_or new i 0 ≡ get_or new j 0
move_same pairs roots new p q from to i j m l l' e = m.each i l ∙ ap (λ r. cond (r == from) to r) e ∙ sym (m.each j l')

-- an end's new root
move_end : (pairs : List (ℕ × ℕ)) (roots new : List ℕ) (p q from to k : ℕ)
    → IsMove pairs roots new p q from to → k < length roots
    → (get_or roots k 0 ≡ from) ⊎ (get_or roots k 0 ≡ to) → get_or new k 0 ≡ to
move_end pairs roots new p q from to k m l h = move_cases pairs roots new p q from to k m l (λ e f. f) (λ n f. elim h [ inl e ↦ absurd (n e) | inr e ↦ f ∙ e ])

move_bridge : (pairs : List (ℕ × ℕ)) (n t : ℕ) (roots new : List ℕ) (p q from to : ℕ) → Rooted pairs n t roots
    → IsMove pairs roots new p q from to → AreLinked pairs from to
move_bridge pairs n t roots new p q from to r m =
    let a = r.linked p (rw (← r.long) m.first) in
    let b = r.linked q (rw (← r.long) m.second) in
    let c = link_pair pairs p q m.pair in
    elim m.ends [
      | inl e ↦ link_on pairs from p to (link_back pairs p from (rw e.0 at a)) (link_on pairs p q to c (rw e.1 at b))
      | inr e ↦ link_on pairs from q to (link_back pairs q from (rw e.1 at b)) (link_on pairs q p to (link_back pairs p q c) (rw e.0 at a))
    ]

to_fixed : (pairs : List (ℕ × ℕ)) (n t : ℕ) (roots new : List ℕ) (p q from to : ℕ) → Rooted pairs n t roots
    → IsMove pairs roots new p q from to → get_or roots to 0 ≡ to
to_fixed pairs n t roots new p q from to r m = elim m.ends [
  | inl e ↦ rw e.1 at (r.fixed q (rw (← r.long) m.second))
  | inr e ↦ rw e.0 at (r.fixed p (rw (← r.long) m.first))
]

to_within : (pairs : List (ℕ × ℕ)) (n t : ℕ) (roots new : List ℕ) (p q from to : ℕ) → Rooted pairs n t roots
    → IsMove pairs roots new p q from to → to < length roots
to_within pairs n t roots new p q from to r m = elim m.ends [
  | inl e ↦ let l = r.low q (rw (← r.long) m.second) in let s = m.second in omega arith
  | inr e ↦ let l = r.low p (rw (← r.long) m.first) in let s = m.first in omega arith
]

move_fixed : (pairs : List (ℕ × ℕ)) (n t : ℕ) (roots new : List ℕ) (p q from to i : ℕ)
    → Rooted pairs n t roots → IsMove pairs roots new p q from to → i < n
    → get_or new (get_or new i 0) 0 ≡ get_or new i 0
move_fixed pairs n t roots new p q from to i r m l =
    let l' : i < length roots = rw r.long l in
    move_cases pairs roots new p q from to i m l'
    (λ e f. ap (λ k. get_or new k 0) f ∙ move_end pairs roots new p q from to to m
    (to_within pairs n t roots new p q from to r m) (inr (to_fixed pairs n t roots new p q from to r m)) ∙ sym f)
    (λ n' f. let g = r.low i l in let h : get_or roots i 0 < length roots = omega arith in
    let own = r.fixed i l in
    move_cases pairs roots new p q from to (get_or roots i 0) m h
    (λ e k. absurd (n' (sym own ∙ e)))
    (λ e k. ap (λ j. get_or new j 0) f ∙ k ∙ own ∙ sym f))

pub rooted_more : (pairs : List (ℕ × ℕ)) (n t : ℕ) (roots new : List ℕ) (p : ℕ × ℕ) (from to : ℕ)
    → All (λ p. (p.0 < n) × (p.1 < n)) pairs → t < length pairs → p ≡ get_or pairs t p
    → Rooted pairs n t roots → IsMove pairs roots new p.0 p.1 from to → Rooted pairs n (t + 1) new
rooted_more pairs n t roots new p from to inside within is r m = record {
  long = m.long ∙ r.long;
  low = λ i l. let g = r.low i l in let f = m.falls in move_cases pairs roots new p.0 p.1 from to i m (rw r.long l) (λ e h. omega arith) (λ e h. omega arith);
  fixed = λ i l. move_fixed pairs n t roots new p.0 p.1 from to i r m l;
  linked = λ i l. let P : ℕ → Type 0 = AreLinked pairs i in let a = r.linked i l in move_cases pairs roots new p.0 p.1 from to i m (rw r.long l)
      (λ e h. subst P (sym h) (link_on pairs i from to (subst P e a) (move_bridge pairs n t roots new p.0 p.1 from to r m)))
      (λ e h. subst P (sym h) a);
  done = λ k d l g. let w = inside k d g in elim (cases_lt k t) [
    | inl h ↦ move_same pairs roots new p.0 p.1 from to _ _ m (rw r.long (w.0)) (rw r.long (w.1)) (r.done k d h g)
    | inr h ↦ let e : k ≡ t = omega arith in let f : get_or pairs k d ≡ p = ap (λ j. get_or pairs j d) e ∙ get_or_default pairs t d p within ∙ sym is in
        rw f (elim m.ends [
          | inl e ↦ move_end pairs roots new p.0 p.1 from to p.0 m m.first (inl e.0) ∙ sym (move_end pairs roots new p.0 p.1 from to p.1 m m.second (inr e.1))
          | inr e ↦ move_end pairs roots new p.0 p.1 from to p.0 m m.first (inr e.0) ∙ sym (move_end pairs roots new p.0 p.1 from to p.1 m m.second (inl e.1))
        ])
  ];
}

done_pair : (pairs : List (ℕ × ℕ)) (n t : ℕ) (roots : List ℕ) (i j : ℕ) → length pairs ≤ t
    → Rooted pairs n t roots → Contains pairs (i, j) → get_or roots i 0 ≡ get_or roots j 0
done_pair pairs n t roots i j whole r (k, l, e) = let d : ℕ × ℕ = (i, j) in let h = r.done k d (omega arith) l in rw e at h

along : (pairs : List (ℕ × ℕ)) (n t : ℕ) (roots : List ℕ) → length pairs ≤ t → Rooted pairs n t roots
    → (i : ℕ) (js : List ℕ) (k : ℕ) → IsChain pairs i js k → get_or roots i 0 ≡ get_or roots k 0
along pairs n t roots whole r i [] k e = ap (λ m. get_or roots m 0) e
along pairs n t roots whole r i (m ∷ js) k (h, s) =
    elim h [ inl c ↦ done_pair pairs n t roots i m whole r c | inr c ↦ sym (done_pair pairs n t roots m i whole r c) ] ∙ along pairs n t roots whole r m js k s

pub rooted_all : (pairs : List (ℕ × ℕ)) (n t : ℕ) (roots : List ℕ) → length pairs ≤ t → Rooted pairs n t roots → AreRoots pairs n roots
rooted_all pairs n t roots whole r = record {
  long = r.long;
  falls = λ i l. r.low i (rw r.long at l);
  fixed = λ i l. r.fixed i (rw r.long at l);
  same = λ i j l m. (
    (λ e. let a = r.linked i l in link_on pairs i _ j (rw e at a) (link_back pairs j _ (r.linked j m))),
    (λ a. along pairs n t roots whole r i a.chain j a.is),
  );
}

-- the move at a pair, from what the code computes
pub move_at : (pairs : List (ℕ × ℕ)) (n t : ℕ) (roots new : List ℕ) (p : ℕ × ℕ) (from to : ℕ)
    → All (λ p. (p.0 < n) × (p.1 < n)) pairs → t < length pairs → p ≡ get_or pairs t p → length roots ≡ n
    → length new ≡ length roots → from ≡ max (get_or roots p.0 0) (get_or roots p.1 0)
    → to ≡ min (get_or roots p.0 0) (get_or roots p.1 0)
    → ((k : ℕ) → k < length roots → get_or new k 0 ≡ cond (get_or roots k 0 == from) to (get_or roots k 0))
    → IsMove pairs roots new p.0 p.1 from to
move_at pairs n t roots new p from to inside within is long long' e f each =
    let P : ℕ × ℕ → Type 0 = λ q. (q.0 < n) × (q.1 < n) in
    let w : P p = subst P (sym is) (inside t p within) in record {
      each = each;
      long = long';
      pair = (t, within, get_or_default pairs t _ p within ∙ sym is);
      first = rw long (w.0);
      second = rw long (w.1);
      ends = elim (cases_lt (get_or roots p.1 0) (get_or roots p.0 0)) [ inl h ↦ inl (omega arith, omega arith) | inr h ↦ inr (omega arith, omega arith) ];
      falls = omega arith;
    }
