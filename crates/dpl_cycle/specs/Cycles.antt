-- The cycles of a permutation of the numbers below n. That exchanging two values splits one cycle or joins two
-- is the classical law on multiplying a permutation by a transposition.
use Rattle.std.specs.Prelude.{◌≡◌, ◌≢◌, ℕ, ◌+◌, ◌<◌, ◌==◌, zero, suc, true, false}

-- f is a permutation of the numbers below n, and g leads back
pub record Permutes (n : ℕ) (f g : ℕ → ℕ) : Type 0 where
  pub to : (x : ℕ) → x < n → f x < n
  pub from : (x : ℕ) → x < n → g x < n
  pub back : (x : ℕ) → x < n → g (f x) ≡ x
  pub forth : (x : ℕ) → x < n → f (g x) ≡ x

-- the permutation with d taken out of its cycle: what led to d leads where d led
abbrev pub without : ℕ → (ℕ → ℕ) → ℕ → ℕ
without d f x = elim (f x == d) [ true ↦ f d | false ↦ f x ]

-- The number of cycles. The greatest number is taken out first: where it leads to itself it is a cycle of its own.
abbrev pub cycles : (ℕ → ℕ) → ℕ → ℕ
cycles f zero = 0
cycles f (suc n) = elim (f n == n) [
  | true ↦ suc (cycles (without n f) n)
  | false ↦ cycles (without n f) n
]

-- The least number of the cycle of x. Two numbers are on one cycle where these are the same.
abbrev pub least : (ℕ → ℕ) → ℕ → ℕ → ℕ
least f zero x = x
least f (suc n) x = elim (x == n) [
  | true ↦ elim (f n == n) [
    | true ↦ n
    | false ↦ least (without n f) n (f n)
  ]
  | false ↦ least (without n f) n x
]

-- the same permutation but for the numbers that i and j lead to, which are exchanged
abbrev pub exchange : (ℕ → ℕ) → ℕ → ℕ → ℕ → ℕ
exchange f i j x = elim (x == i) [ true ↦ f j | false ↦ elim (x == j) [ true ↦ f i | false ↦ f x ] ]

-- where i and j are on one cycle of f it falls into two, and otherwise their two cycles become one
pub record SplitsOrMerges (n : ℕ) (f : ℕ → ℕ) (i j : ℕ) : Type 0 where
  pub splits : least f n i ≡ least f n j → cycles (exchange f i j) n ≡ cycles f n + 1
  pub merges : least f n i ≢ least f n j → cycles (exchange f i j) n + 1 ≡ cycles f n
