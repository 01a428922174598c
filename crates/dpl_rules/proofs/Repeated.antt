-- Parts that stand one after another.
use Rattle.std.proofs.Common.{◌≡◌, ℕ, zero, suc, ◌+◌, ◌-◌, ◌<◌, List, [], ◌∷◌, ◌++◌, Option, None, Some, refl, arith, append_assoc}
use Rattle.std.proofs.lemmas.List.{append-nil}
use Rattle.dpl_rules.specs.Readers.{repeated, after_parts}

pub repeated_step : {X : Type 0}
    → (read : List ℕ → Option (X × List ℕ)) (n i : ℕ) (front : List X) (bytes : List ℕ) (x : X) (rest : List ℕ)
    → i < n → read bytes ≡ Some (x, rest)
    → after_parts (front ++ x ∷ []) (repeated read (n - (i + 1)) rest) ≡ after_parts front (repeated read (n - i) bytes)
repeated_step read n i front bytes x rest h r =
    let e : n - i ≡ suc (n - (i + 1)) = omega arith in
    rw (e, r, append_assoc) refl

pub repeated_stop : {X : Type 0}
    → (read : List ℕ → Option (X × List ℕ)) (n : ℕ) (front : List X) (bytes : List ℕ) → read bytes ≡ None
    → after_parts front (repeated read n bytes) ≡ (front, bytes)
repeated_stop read zero front bytes r = rw append-nil refl
repeated_stop read (suc n) front bytes r = rw (r, append-nil) refl

pub repeated_none : {X : Type 0} → (read : List ℕ → Option (X × List ℕ)) (n : ℕ) (front : List X) (bytes : List ℕ) →
    n ≡ 0 → after_parts front (repeated read n bytes) ≡ (front, bytes)
repeated_none read n front bytes r = rw (r, append-nil) refl
