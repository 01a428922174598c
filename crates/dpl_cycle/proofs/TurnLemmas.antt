-- What is met first when turning, before and after one more number comes on the circle.
use Rattle.std.proofs.Common.{arith, ◌≡◌, ◌≢◌, ℕ, ◌+◌, ◌-◌, ◌<◌, ◌≤◌, refl, sym, ap, ◌∙◌, inl, inr, ◌⊎◌, List, [], ◌∷◌, subst}
use Rattle.std.proofs.lemmas.Bool.{cases_lt, lt-ltb, le-ltb}
use Rattle.dpl_cycle.proofs.Turns.{turn, nearer, next, later, before, Mem}

-- the two forms of a turn, for arithmetic
turn_up : (m : ℕ) (r : ℕ → ℕ) (d c : ℕ) → r d < r c → turn m r d c ≡ r c - r d
turn_up m r d c h = rw (lt-ltb (r d) (r c) h, turn)

turn_over : (m : ℕ) (r : ℕ → ℕ) (d c : ℕ) → r c ≤ r d → turn m r d c ≡ m + r c - r d
turn_over m r d c h = rw (le-ltb (r d) (r c) h, turn)

pub turn_forms : (m : ℕ) (r : ℕ → ℕ) (d c : ℕ) → ((r d < r c) × (turn m r d c + r d ≡ r c)) ⊎ ((r c ≤ r d) × (turn m r d c ≡ m + r c - r d))
turn_forms m r d c = elim (cases_lt (r d) (r c)) [ inl h ↦ inl (h, omega (arith, turn_up m r d c h)) | inr h ↦ inr (h, turn_over m r d c h) ]

-- what lies on the way
pub turn_add : (m : ℕ) (r : ℕ → ℕ) (a b c : ℕ) → r a < m → r b < m → r c < m → turn m r a b < turn m r a c → turn m r a c ≡ turn m r a b + turn m r b c
turn_add m r a b c ha hb hc h = grind (arith, turn_forms m r a b, turn_forms m r b c, turn_forms m r a c)

pub turn_self : (m : ℕ) (r : ℕ → ℕ) (a : ℕ) → turn m r a a ≡ m
turn_self m r a = omega (arith, turn_over m r a a (omega arith))

pub turn_less : (m : ℕ) (r : ℕ → ℕ) (a b : ℕ) → r a < m → r b < m → r a ≢ r b → turn m r a b < m
turn_less m r a b ha hb h = grind (arith, turn_forms m r a b)

pub turn_most : (m : ℕ) (r : ℕ → ℕ) (a b : ℕ) → r a < m → r b < m → turn m r a b ≤ m
turn_most m r a b ha hb = grind (arith, turn_forms m r a b)

pub turn_pos : (m : ℕ) (r : ℕ → ℕ) (a b : ℕ) → r a < m → r b < m → 0 < turn m r a b
turn_pos m r a b ha hb = grind (arith, turn_forms m r a b)

pub turn_one : (m : ℕ) (r : ℕ → ℕ) (a b c : ℕ) → r a < m → r b < m → r c < m → turn m r a b ≡ turn m r a c → r b ≡ r c
turn_one m r a b c ha hb hc h = grind (arith, turn_forms m r a b, turn_forms m r a c)

pub turn_one_back : (m : ℕ) (r : ℕ → ℕ) (a b c : ℕ) → r a < m → r b < m → r c < m → turn m r a c ≡ turn m r b c → r a ≡ r b
turn_one_back m r a b c ha hb hc h = grind (arith, turn_forms m r a c, turn_forms m r b c)

-- if a is nearer to c than b is, then a lies on the way from b to c
pub turn_add_back : (m : ℕ) (r : ℕ → ℕ) (a b c : ℕ) → r a < m → r b < m → r c < m → turn m r a c < turn m r b c → turn m r b c ≡ turn m r b a + turn m r a c
turn_add_back m r a b c ha hb hc h = grind (arith, turn_forms m r a c, turn_forms m r b a, turn_forms m r b c)

-- ---- the next and the one before

nearer_forms : (m : ℕ) (r : ℕ → ℕ) (d c e : ℕ)
    → ((turn m r d c < turn m r d e) × (nearer m r d c e ≡ c)) ⊎ ((turn m r d e ≤ turn m r d c) × (nearer m r d c e ≡ e))
nearer_forms m r d c e = elim (cases_lt (turn m r d c) (turn m r d e)) [
  | inl h ↦ inl (h, rw (lt-ltb (turn m r d c) (turn m r d e) h, nearer))
  | inr h ↦ inr (h, rw (le-ltb (turn m r d c) (turn m r d e) h, nearer))
]

later_forms : (m : ℕ) (r : ℕ → ℕ) (d c e : ℕ)
    → ((turn m r c d < turn m r e d) × (later m r d c e ≡ c)) ⊎ ((turn m r e d ≤ turn m r c d) × (later m r d c e ≡ e))
later_forms m r d c e = elim (cases_lt (turn m r c d) (turn m r e d)) [
  | inl h ↦ inl (h, rw (lt-ltb (turn m r c d) (turn m r e d) h, later))
  | inr h ↦ inr (h, rw (le-ltb (turn m r c d) (turn m r e d) h, later))
]

pub next_whole : (m : ℕ) (r : ℕ → ℕ) (d : ℕ) (cs : List ℕ) → turn m r d (next m r d cs) ≤ m
next_whole m r d [] = omega (arith, turn_self m r d)
next_whole m r d (c ∷ cs) = elim (nearer_forms m r d c (next m r d cs)) [
  | inl h ↦ omega (arith, ap (turn m r d) h.1, h.0, next_whole m r d cs)
  | inr h ↦ omega (arith, ap (turn m r d) h.1, next_whole m r d cs)
]

pub next_least : (m : ℕ) (r : ℕ → ℕ) (d : ℕ) (cs : List ℕ) (k : ℕ) → Mem k cs → turn m r d (next m r d cs) ≤ turn m r d k
next_least m r d [] k h = absurd h
next_least m r d (c ∷ cs) k h = elim (nearer_forms m r d c (next m r d cs)) [
  | inl f ↦ elim h [
    | inl e ↦ omega (arith, ap (turn m r d) f.1, ap (turn m r d) e)
    | inr q ↦ omega (arith, ap (turn m r d) f.1, f.0, next_least m r d cs k q)
  ]
  | inr f ↦ elim h [
    | inl e ↦ omega (arith, ap (turn m r d) f.1, ap (turn m r d) e, f.0)
    | inr q ↦ omega (arith, ap (turn m r d) f.1, next_least m r d cs k q)
  ]
]

pub next_in : (m : ℕ) (r : ℕ → ℕ) (d : ℕ) (cs : List ℕ) → (next m r d cs ≡ d) ⊎ Mem (next m r d cs) cs
next_in m r d [] = inl refl
next_in m r d (c ∷ cs) = elim (nearer_forms m r d c (next m r d cs)) [
  | inl f ↦ inr (inl f.1)
  | inr f ↦ elim (next_in m r d cs) [ inl e ↦ inl (f.1 ∙ e) | inr q ↦ inr (inr (let P : ℕ → Type 0 = λ x. Mem x cs in subst P (sym f.1) q)) ]
]

pub before_whole : (m : ℕ) (r : ℕ → ℕ) (d : ℕ) (cs : List ℕ) → turn m r (before m r d cs) d ≤ m
before_whole m r d [] = omega (arith, turn_self m r d)
before_whole m r d (c ∷ cs) = elim (later_forms m r d c (before m r d cs)) [
  | inl h ↦ omega (arith, ap (λ x. turn m r x d) h.1, h.0, before_whole m r d cs)
  | inr h ↦ omega (arith, ap (λ x. turn m r x d) h.1, before_whole m r d cs)
]

pub before_least : (m : ℕ) (r : ℕ → ℕ) (d : ℕ) (cs : List ℕ) (k : ℕ) → Mem k cs → turn m r (before m r d cs) d ≤ turn m r k d
before_least m r d [] k h = absurd h
before_least m r d (c ∷ cs) k h = elim (later_forms m r d c (before m r d cs)) [
  | inl f ↦ elim h [
    | inl e ↦ omega (arith, ap (λ x. turn m r x d) f.1, ap (λ x. turn m r x d) e)
    | inr q ↦ omega (arith, ap (λ x. turn m r x d) f.1, f.0, before_least m r d cs k q)
  ]
  | inr f ↦ elim h [
    | inl e ↦ omega (arith, ap (λ x. turn m r x d) f.1, ap (λ x. turn m r x d) e, f.0)
    | inr q ↦ omega (arith, ap (λ x. turn m r x d) f.1, before_least m r d cs k q)
  ]
]

pub before_in : (m : ℕ) (r : ℕ → ℕ) (d : ℕ) (cs : List ℕ) → (before m r d cs ≡ d) ⊎ Mem (before m r d cs) cs
before_in m r d [] = inl refl
before_in m r d (c ∷ cs) = elim (later_forms m r d c (before m r d cs)) [
  | inl f ↦ inr (inl f.1)
  | inr f ↦ elim (before_in m r d cs) [ inl e ↦ inl (f.1 ∙ e) | inr q ↦ inr (inr (let P : ℕ → Type 0 = λ x. Mem x cs in subst P (sym f.1) q)) ]
]

-- the places are below m, and no two are one
pub record OnCircle (m : ℕ) (r : ℕ → ℕ) (cs : List ℕ) : Type 0 where
  pub below : (k : ℕ) → Mem k cs → r k < m
  pub apart : (k l : ℕ) → Mem k cs → Mem l cs → r k ≡ r l → k ≡ l

-- next and before lead back
pub before_next : (m : ℕ) (r : ℕ → ℕ) (cs : List ℕ) → OnCircle m r cs → (d : ℕ) → Mem d cs
    → Mem (next m r d cs) cs → Mem (before m r (next m r d cs) cs) cs → before m r (next m r d cs) cs ≡ d
before_next m r cs p d hd hn hb =
    let n = next m r d cs in
    let x = before m r n cs in
    let le : turn m r x n ≤ turn m r d n = before_least m r n cs d hd in
    let least : turn m r d n ≤ turn m r d x = next_least m r d cs x hb in
    elim (cases_lt (turn m r x n) (turn m r d n)) [
      | inl lt ↦
          let on_way : turn m r d n ≡ turn m r d x + turn m r x n = turn_add_back m r x d n (p.below x hb) (p.below d hd) (p.below n hn) lt in
          absurd (omega (arith, on_way, least, turn_pos m r x n (p.below x hb) (p.below n hn)))
      | inr ge ↦ p.apart x d hb hd (turn_one_back m r x d n (p.below x hb) (p.below d hd) (p.below n hn) (omega (arith, le, ge)))
    ]

pub next_before : (m : ℕ) (r : ℕ → ℕ) (cs : List ℕ) → OnCircle m r cs → (d : ℕ) → Mem d cs
    → Mem (before m r d cs) cs → Mem (next m r (before m r d cs) cs) cs → next m r (before m r d cs) cs ≡ d
next_before m r cs p d hd hb hn =
    let x = before m r d cs in
    let n = next m r x cs in
    let le : turn m r x n ≤ turn m r x d = next_least m r x cs d hd in
    let least : turn m r x d ≤ turn m r n d = before_least m r d cs n hn in
    elim (cases_lt (turn m r x n) (turn m r x d)) [
      | inl lt ↦
          let on_way : turn m r x d ≡ turn m r x n + turn m r n d = turn_add m r x n d (p.below x hb) (p.below n hn) (p.below d hd) lt in
          absurd (omega (arith, on_way, least, turn_pos m r x n (p.below x hb) (p.below n hn)))
      | inr ge ↦ p.apart n d hn hd (turn_one m r x n d (p.below x hb) (p.below n hn) (p.below d hd) (omega (arith, le, ge)))
    ]

-- ---- one more on the circle

-- a new number c comes after the one before it, and after no other
pub next_more_other : (m : ℕ) (r : ℕ → ℕ) (c : ℕ) (cs : List ℕ) → OnCircle m r (c ∷ cs) → (y : ℕ) → Mem y cs
    → Mem (before m r c cs) cs → (Mem c cs → ⊥) → y ≢ before m r c cs → next m r y (c ∷ cs) ≡ next m r y cs
next_more_other m r c cs p y hy hx new ne =
    let x = before m r c cs in
    let rx : r x < m = p.below x (inr hx) in
    let ry : r y < m = p.below y (inr hy) in
    let rc : r c < m = p.below c (inl refl) in
    let le : turn m r x c ≤ turn m r y c = before_least m r c cs y hy in
    let differ : turn m r x c ≢ turn m r y c = λ e. ne (p.apart y x (inr hy) (inr hx) (sym (turn_one_back m r x y c rx ry rc e))) in
    let on_way : turn m r y c ≡ turn m r y x + turn m r x c = turn_add_back m r x y c rx ry rc (omega (arith, le, differ)) in
    let least : turn m r y (next m r y cs) ≤ turn m r y x = next_least m r y cs x hx in
    elim (nearer_forms m r y c (next m r y cs)) [
      | inl f ↦ absurd (omega (arith, f.0, on_way, least, turn_pos m r x c rx rc))
      | inr f ↦ f.1
    ]

pub next_more_before : (m : ℕ) (r : ℕ → ℕ) (c : ℕ) (cs : List ℕ) → OnCircle m r (c ∷ cs)
    → Mem (before m r c cs) cs → Mem (next m r (before m r c cs) cs) cs → (Mem c cs → ⊥)
    → next m r (before m r c cs) (c ∷ cs) ≡ c
next_more_before m r c cs p hx hn new =
    let x = before m r c cs in
    let n = next m r x cs in
    let rx : r x < m = p.below x (inr hx) in
    let rn : r n < m = p.below n (inr hn) in
    let rc : r c < m = p.below c (inl refl) in
    elim (nearer_forms m r x c n) [
      | inl f ↦ f.1
      | inr f ↦
          let differ : turn m r x n ≢ turn m r x c = λ e. new
          (let P : ℕ → Type 0 = λ z. Mem z cs in subst P
          (p.apart n c (inr hn) (inl refl) (turn_one m r x n c rx rn rc e)) hn) in
          let on_way : turn m r x c ≡ turn m r x n + turn m r n c = turn_add m r x n c rx rn rc (omega (arith, f.0, differ)) in
          let least : turn m r x c ≤ turn m r n c = before_least m r c cs n hn in
          absurd (omega (arith, on_way, least, turn_pos m r x n rx rn))
    ]

pub next_stays : (m : ℕ) (r : ℕ → ℕ) (d : ℕ) (cs : List ℕ) → Mem d cs → Mem (next m r d cs) cs
next_stays m r d cs h = elim (next_in m r d cs) [ inl e ↦ (let P : ℕ → Type 0 = λ z. Mem z cs in subst P (sym e) h) | inr q ↦ q ]

-- the new number leads where the one before it led
pub next_more_new : (m : ℕ) (r : ℕ → ℕ) (c : ℕ) (cs : List ℕ) → OnCircle m r (c ∷ cs)
    → Mem (before m r c cs) cs → (Mem c cs → ⊥) → next m r c (c ∷ cs) ≡ next m r (before m r c cs) cs
next_more_new m r c cs p hx new =
    let x = before m r c cs in
    let n = next m r x cs in
    let n' = next m r c cs in
    let rx : r x < m = p.below x (inr hx) in
    let rc : r c < m = p.below c (inl refl) in
    let hn : Mem n cs = next_stays m r x cs hx in
    let apart = λ (k : ℕ) (h : Mem k cs) (e : r k ≡ r c). new (let P : ℕ → Type 0 = λ z. Mem z cs in subst P (p.apart k c (inr h) (inl refl) e) h) in
    let whole : turn m r c n' ≤ m = next_whole m r c cs in
    let near : turn m r c n' ≤ turn m r c x = next_least m r c cs x hx in
    let short : turn m r c x < m = turn_less m r c x rc rx (λ e. apart x hx (sym e)) in
    let hn' : Mem n' cs = elim (next_in m r c cs) [ inl e ↦ absurd (omega (arith, ap (turn m r c) e, turn_self m r c, near, short)) | inr q ↦ q ] in
    let rest : (k : ℕ) → Mem k cs → turn m r x k ≡ turn m r x c + turn m r c k = λ k h.
    let rk : r k < m = p.below k (inr h) in
    let least : turn m r x c ≤ turn m r k c = before_least m r c cs k h in
    let differ : turn m r x k ≢ turn m r x c = λ e. apart k h (turn_one m r x k c rx rk rc e) in
    elim (cases_lt (turn m r x k) (turn m r x c)) [
      | inl lt ↦ absurd (omega (arith, turn_add m r x k c rx rk rc lt, least, turn_pos m r x k rx rk))
      | inr ge ↦ turn_add m r x c k rx rc rk (omega (arith, ge, differ))
    ] in
    let same : r n' ≡ r n = turn_one m r c n' n rc (p.below n' (inr hn')) (p.below n (inr hn))
    (omega (arith, next_least m r c cs n hn, next_least m r x cs n' hn', rest n hn, rest n' hn')) in
    elim (nearer_forms m r c c n') [
      | inl f ↦ absurd (omega (arith, f.0, turn_self m r c, whole))
      | inr f ↦ f.1 ∙ p.apart n' n (inr hn') (inr hn) same
    ]

-- what is met first depends on the members alone
pub next_alike : (m : ℕ) (r : ℕ → ℕ) (d : ℕ) (cs ds : List ℕ) → OnCircle m r cs → Mem d cs
    → ((k : ℕ) → Mem k cs → Mem k ds) → ((k : ℕ) → Mem k ds → Mem k cs) → next m r d cs ≡ next m r d ds
next_alike m r d cs ds p hd to from =
    let n = next m r d cs in
    let k = next m r d ds in
    let hn : Mem n cs = next_stays m r d cs hd in
    let hk : Mem k ds = next_stays m r d ds (to d hd) in
    let one : turn m r d n ≤ turn m r d k = next_least m r d cs k (from k hk) in
    let two : turn m r d k ≤ turn m r d n = next_least m r d ds n (to n hn) in
    p.apart n k hn (from k hk) (turn_one m r d n k (p.below d hd) (p.below n hn) (p.below k (from k hk)) (omega (arith, one, two)))

-- with its own number on the circle, a number is met last
pub next_itself : (m : ℕ) (r : ℕ → ℕ) (c : ℕ) (cs : List ℕ) → next m r c (c ∷ cs) ≡ next m r c cs
next_itself m r c cs = elim (nearer_forms m r c c (next m r c cs)) [
  | inl f ↦ absurd (omega (arith, f.0, turn_self m r c, next_whole m r c cs))
  | inr f ↦ f.1
]

-- a number that is not on the circle has one before it there
pub before_member : (m : ℕ) (r : ℕ → ℕ) (c k : ℕ) (cs : List ℕ) → OnCircle m r (c ∷ cs) → Mem k cs → (Mem c cs → ⊥) → Mem (before m r c cs) cs
before_member m r c k cs p hk new = elim (before_in m r c cs) [
  | inl e ↦
      let rk : r k < m = p.below k (inr hk) in
      let rc : r c < m = p.below c (inl refl) in
      let apart : r k ≢ r c = λ q. new (let P : ℕ → Type 0 = λ z. Mem z cs in subst P (p.apart k c (inr hk) (inl refl) q) hk) in
      absurd (omega (arith, ap (λ x. turn m r x c) e, turn_self m r c, before_least m r c cs k hk, turn_less m r k c rk rc apart))
  | inr h ↦ h
]
