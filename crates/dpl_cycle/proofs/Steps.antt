-- What the definitions give at one number.
use Rattle.std.proofs.Common.{◌≡◌, ◌≢◌, ℕ, suc, refl, eq-eqb}
use Rattle.std.proofs.lemmas.Bool.{ne_eqb}
use Rattle.dpl_cycle.specs.Cycles.{without, cycles, least, exchange}

pub without_hit : (d : ℕ) (f : ℕ → ℕ) (x : ℕ) → f x ≡ d → without d f x ≡ f d
without_hit d f x h = rw (eq-eqb (f x) d h, without)

pub without_miss : (d : ℕ) (f : ℕ → ℕ) (x : ℕ) → f x ≢ d → without d f x ≡ f x
without_miss d f x h = rw (ne_eqb (f x) d h, without)

pub cycles_alone : (f : ℕ → ℕ) (n : ℕ) → f n ≡ n → cycles f (suc n) ≡ suc (cycles (without n f) n)
cycles_alone f n h = rw (eq-eqb (f n) n h, cycles)

pub cycles_more : (f : ℕ → ℕ) (n : ℕ) → f n ≢ n → cycles f (suc n) ≡ cycles (without n f) n
cycles_more f n h = rw (ne_eqb (f n) n h, cycles)

pub least_alone : (f : ℕ → ℕ) (n : ℕ) → f n ≡ n → least f (suc n) n ≡ n
least_alone f n h = rw (eq-eqb n n refl, eq-eqb (f n) n h, least)

pub least_top : (f : ℕ → ℕ) (n : ℕ) → f n ≢ n → least f (suc n) n ≡ least (without n f) n (f n)
least_top f n h = rw (eq-eqb n n refl, ne_eqb (f n) n h, least)

pub least_under : (f : ℕ → ℕ) (n x : ℕ) → x ≢ n → least f (suc n) x ≡ least (without n f) n x
least_under f n x h = rw (ne_eqb x n h, least)

pub exchange_first : (f : ℕ → ℕ) (i j : ℕ) → exchange f i j i ≡ f j
exchange_first f i j = rw (eq-eqb i i refl, exchange)

pub exchange_second : (f : ℕ → ℕ) (i j : ℕ) → j ≢ i → exchange f i j j ≡ f i
exchange_second f i j h = rw (ne_eqb j i h, eq-eqb j j refl, exchange)

pub exchange_other : (f : ℕ → ℕ) (i j x : ℕ) → x ≢ i → x ≢ j → exchange f i j x ≡ f x
exchange_other f i j x h k = rw (ne_eqb x i h, ne_eqb x j k, exchange)
