-- Faces that are near each other, as those of tests are.
use Rattle.std.proofs.Common.{arith, ℕ, ◌<◌, ◌≤◌, ◌^◌, ◌++◌, List, length, get_or}
use Rattle.std.proofs.lemmas.List.Sums.{sum_by-append}
use Rattle.dpl_dual.specs.declared.crosses.Cross.{Cross}
use Rattle.dpl_dual.specs.Chains.{Leads, length_of}
use Rattle.dpl_dual.proofs.ChainLemmas.{leads_on, leads_back}
use Rattle.dpl_flood.specs.Flips.{AreOverChains}

-- Faces to which short chains lead from one face are near each other.
pub near_hub : (ways : List Cross) (seats : List ℕ) (hub : ℕ)
    → ((t : ℕ) → t < length seats → (xs : List Cross) × Leads ways hub xs (get_or seats t 0) × (length_of xs ≤ 2 ^ 50))
    → AreOverChains ways seats (λ s t. 2 ^ 51)
near_hub ways seats hub from s t hs ht ne =
    let a = from s hs in
    let b = from t ht in
    let back = leads_back ways hub a.0 (get_or seats s 0) a.1 in (
      back.0 ++ b.0,
      leads_on ways (get_or seats s 0) back.0 hub b.0 (get_or seats t 0) back.1 b.1,
      omega (arith, sum_by-append (λ (x : Cross). x.length) back.0 b.0, back.2, a.2, b.2),
    )
