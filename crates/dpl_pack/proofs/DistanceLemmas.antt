-- Up to each limit there is a distance between two faces.
use Rattle.std.proofs.Common.{arith, ◌≡◌, ℕ, zero, suc, ◌+◌, ◌-◌, ◌<◌, ◌≤◌, ◌⊎◌, refl, subst, inl, inr, List, [], ◌∷◌, length, get_or}
use Rattle.std.specs.Prelude.{Contains, All}
use Rattle.std.proofs.lemmas.Bool.{cases_eq}
use Rattle.std.proofs.lemmas.List.Sums.{sum_by-cons}
use Rattle.std.proofs.lemmas.List.Elements.{All-contains}
use Rattle.dpl_dual.specs.declared.crosses.Cross.{Cross}
use Rattle.dpl_dual.specs.declared.crosses.Dual.{Dual}
use Rattle.dpl_dual.specs.Chains.{Leads, IsAt, beyond, length_of}
use Rattle.dpl_dual.specs.Duals.{CameFromDual}
use Rattle.dpl_dual.proofs.ChainLemmas.{crosses_long}
use Rattle.dpl_pack.specs.Stacks.{IsDistanceUpTo}

-- a chain that is shorter than a limit
record IsShorter (ways : List Cross) (limit f h : ℕ) : Type 0 where
  pub chain : List Cross
  pub leads : Leads ways f chain h
  pub less : length_of chain < limit

-- no chain that begins with this way is
AreLonger : List Cross → ℕ → ℕ → ℕ → Cross → Type 0
AreLonger ways limit f h x = IsAt x f → (xs : List Cross) → Leads ways (beyond x f) xs h → limit ≤ x.length + length_of xs

is_at : (x : Cross) (f : ℕ) → IsAt x f ⊎ (IsAt x f → ⊥)
is_at x f = elim (cases_eq x.f f) [
  | inl a ↦ inl (inl a)
  | inr a ↦ elim (cases_eq x.g f) [
    | inl b ↦ inl (inr b)
    | inr b ↦ inr (λ c. elim c [ inl d ↦ a d | inr d ↦ b d ])
  ]
]

-- what some of a list has, or else each
some_or_each : (S : Type 0) (P : Cross → Type 0) (xs : List Cross)
    → ((x : Cross) → Contains xs x → S ⊎ P x) → S ⊎ ((x : Cross) → Contains xs x → P x)
some_or_each S P [] d = inr (λ x c. absurd (omega (arith, c.1)))
some_or_each S P (y ∷ ys) d = elim (d y (zero, omega arith, refl)) [
  | inl s ↦ inl s
  | inr p ↦ elim (some_or_each S P ys (λ x c. d x (suc c.0, omega (arith, c.1), c.2))) [
    | inl s ↦ inl s
    | inr q ↦ inr (λ x c. at p q x c.0 c.1 c.2)
  ]
]
  where
    at : P y → ((x : Cross) → Contains ys x → P x) → (x : Cross) (n : ℕ) → n < length (y ∷ ys) → get_or (y ∷ ys) n x ≡ x → P x
    at p q x zero l e = subst P e p
    at p q x (suc n) l e = q x (n, omega (arith, l), e)

-- a chain is shorter, or none is
IsDecided : List Cross → ℕ → ℕ → ℕ → Type 0
IsDecided ways limit f h = IsShorter ways limit f h ⊎ ((xs : List Cross) → Leads ways f xs h → limit ≤ length_of xs)

shorter_or_none : (ways : List Cross) → All (λ x. 1 ≤ x.length) ways → (most limit : ℕ) → limit ≤ most → (f h : ℕ) → IsDecided ways limit f h
unfolding AreLonger IsDecided
shorter_or_none ways some zero limit small f h = inr (λ xs l. omega (arith, small))
shorter_or_none ways some (suc most) zero small f h = inr (λ xs l. omega arith)
shorter_or_none ways some (suc most) (suc limit) small f h =
    let after = λ (less : ℕ) (l : less ≤ most) (g : ℕ). shorter_or_none ways some most less l g h in
    elim (cases_eq f h) [
      | inl e ↦ inl (record { chain = []; leads = e; less = omega arith })
      | inr apart ↦ elim (some_or_each (IsShorter ways (suc limit) f h) (AreLonger ways (suc limit) f h) ways (first after)) [
        | inl s ↦ inl s
        | inr long ↦ inr (each apart long)
      ]
    ]
  where
    first : ((less : ℕ) → less ≤ most → (g : ℕ) → IsDecided ways less g h) → (x : Cross) → Contains ways x
        → IsShorter ways (suc limit) f h ⊎ AreLonger ways (suc limit) f h x
    first after x c = elim (is_at x f) [
      | inr off ↦ inr (λ a. absurd (off a))
      | inl a ↦
          let one = All-contains (λ z. 1 ≤ z.length) ways x some c in
          elim (after (suc limit - x.length) (omega (arith, small, one)) (beyond x f)) [
            | inl s ↦ inl (record { chain = x ∷ s.chain; leads = (c, a, s.leads); less = omega (arith, s.less, sum_by-cons (λ z. z.length) x s.chain) })
            | inr all ↦ inr (λ b xs l. omega (arith, all xs l))
          ]
    ]

    each : (f ≡ h → ⊥) → ((x : Cross) → Contains ways x → AreLonger ways (suc limit) f h x)
        → (xs : List Cross) → Leads ways f xs h → suc limit ≤ length_of xs
    each apart long [] l = absurd (apart l)
    each apart long (x ∷ xs) l = omega (arith, long x l.0 l.1 xs l.2, sum_by-cons (λ z. z.length) x xs)

shortest_up_to : (ways : List Cross) → All (λ x. 1 ≤ x.length) ways → (limit f h : ℕ) → (x : ℕ) × IsDistanceUpTo ways limit f h x
unfolding IsDecided
shortest_up_to ways some zero f h = (zero, record { most = omega arith; shorter = λ xs l. omega arith; met = inl refl })
shortest_up_to ways some (suc limit) f h =
    let d = shortest_up_to ways some limit f h in
    elim d.1.met [
      | inr c ↦ (d.0, record { most = omega (arith, d.1.most); shorter = d.1.shorter; met = inr c })
      | inl e ↦ elim (shorter_or_none ways some (suc limit) (suc limit) (omega arith) f h) [
        | inl s ↦ (
          limit,
          record {
            most = omega arith;
            shorter = λ xs l. omega (arith, e, d.1.shorter xs l);
            met = inr (s.chain, s.leads, omega (arith, s.less, e, d.1.shorter s.chain s.leads));
          },
        )
        | inr all ↦ (suc limit, record { most = omega arith; shorter = all; met = inl refl })
      ]
    ]

pub distance_up_to : (d : Dual) → CameFromDual d → (limit f h : ℕ) → (x : ℕ) × IsDistanceUpTo d.crosses limit f h x
distance_up_to d came limit f h = shortest_up_to d.crosses (crosses_long d came) limit f h
