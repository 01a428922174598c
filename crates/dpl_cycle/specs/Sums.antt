-- Sums over the numbers below n, and labels along the cycles of a permutation.
use Rattle.std.specs.Prelude.{◌≡◌, ℕ, ◌+◌, ◌%◌, ◌<◌, ◌==◌, zero, suc, Bool, if◌then◌else◌}
use Rattle.dpl_cycle.specs.Cycles.{least}

-- the sum of w over the numbers below n that pass the test
abbrev pub sum_on : (ℕ → Bool) → (ℕ → ℕ) → ℕ → ℕ
sum_on p w zero = 0
sum_on p w (suc n) = (if p n then w n else 0) + sum_on p w n

-- around each cycle the weights sum to an even number
abbrev pub IsEvenAround : (ℕ → ℕ) → (ℕ → ℕ) → ℕ → Type 0
IsEvenAround f w n = (x : ℕ) → x < n → sum_on (λ d. least f n d == least f n x) w n % 2 ≡ 0

-- there are numbers of which those at x and at f x differ by the weight of x, up to parity
abbrev pub HasLabels : (ℕ → ℕ) → (ℕ → ℕ) → ℕ → Type 0
HasLabels f w n = (h : ℕ → ℕ) × ((d : ℕ) → d < n → h (f d) % 2 ≡ (h d + w d) % 2)

-- how many numbers below n pass the test
abbrev pub count_on : (ℕ → Bool) → ℕ → ℕ
count_on p n = sum_on p (λ x. 1) n
