-- Lists of pairs after a write, read as the list of nexts and the list of prevs.
use Rattle.std.proofs.Common.{arith, ◌≡◌, ℕ, zero, suc, ◌<◌, ap, ◌∙◌, refl, List, [], ◌∷◌, length, get_or, set}
use Rattle.std.proofs.lemmas.List.{length-map}
use Rattle.dpl_ring.specs.declared.pair.Pair.{Pair}
use Rattle.dpl_ring.specs.Places.{pair_at}
use Rattle.dpl_ring.specs.Pairs.{nexts_of, prevs_of}

pub nexts_set : (ps : List Pair) (i : ℕ) (p : Pair) → nexts_of (set ps i p) ≡ set (nexts_of ps) i p.next
nexts_set [] i p = refl
nexts_set (q ∷ ps) zero p = refl
nexts_set (q ∷ ps) (suc i) p = ap (λ (l : List ℕ). q.next ∷ l) (nexts_set ps i p)

pub prevs_set : (ps : List Pair) (i : ℕ) (p : Pair) → prevs_of (set ps i p) ≡ set (prevs_of ps) i p.prev
prevs_set [] i p = refl
prevs_set (q ∷ ps) zero p = refl
prevs_set (q ∷ ps) (suc i) p = ap (λ (l : List ℕ). q.prev ∷ l) (prevs_set ps i p)

pub nexts_kept : (ps : List Pair) (i : ℕ) (p : Pair) → p.next ≡ (pair_at ps i).next → nexts_of (set ps i p) ≡ nexts_of ps
nexts_kept [] i p e = refl
nexts_kept (q ∷ ps) zero p e = ap (λ (n : ℕ). n ∷ nexts_of ps) e
nexts_kept (q ∷ ps) (suc i) p e = ap (λ (l : List ℕ). q.next ∷ l) (nexts_kept ps i p e)

pub prevs_kept : (ps : List Pair) (i : ℕ) (p : Pair) → p.prev ≡ (pair_at ps i).prev → prevs_of (set ps i p) ≡ prevs_of ps
prevs_kept [] i p e = refl
prevs_kept (q ∷ ps) zero p e = ap (λ (n : ℕ). n ∷ prevs_of ps) e
prevs_kept (q ∷ ps) (suc i) p e = ap (λ (l : List ℕ). q.prev ∷ l) (prevs_kept ps i p e)

pub nexts_at : (ps : List Pair) (i : ℕ) → get_or (nexts_of ps) i 0 ≡ (pair_at ps i).next
nexts_at [] i = refl
nexts_at (q ∷ ps) zero = refl
nexts_at (q ∷ ps) (suc i) = nexts_at ps i

pub prevs_at : (ps : List Pair) (i : ℕ) → get_or (prevs_of ps) i 0 ≡ (pair_at ps i).prev
prevs_at [] i = refl
prevs_at (q ∷ ps) zero = refl
prevs_at (q ∷ ps) (suc i) = prevs_at ps i

-- where each place has its own number twice, both lists do
pub nexts_alone : (ps : List Pair) (n : ℕ) → length ps ≡ n
    → ((k : ℕ) → k < n → pair_at ps k ≡ record { next = k; prev = k })
    → (length (nexts_of ps) ≡ n) × ((k : ℕ) → k < length (nexts_of ps) → get_or (nexts_of ps) k 0 ≡ k)
nexts_alone ps n e own = (
  length-map ps _ ∙ e,
  λ k h. nexts_at ps k ∙
      ap (λ (p : Pair). p.next) (own k (omega (arith, h, length-map ps (λ (p : Pair). p.next), e))),
)

pub prevs_alone : (ps : List Pair) (n : ℕ) → length ps ≡ n
    → ((k : ℕ) → k < n → pair_at ps k ≡ record { next = k; prev = k })
    → (length (prevs_of ps) ≡ n) × ((k : ℕ) → k < length (prevs_of ps) → get_or (prevs_of ps) k 0 ≡ k)
prevs_alone ps n e own = (
  length-map ps _ ∙ e,
  λ k h. prevs_at ps k ∙
      ap (λ (p : Pair). p.prev) (own k (omega (arith, h, length-map ps (λ (p : Pair). p.prev), e))),
)
