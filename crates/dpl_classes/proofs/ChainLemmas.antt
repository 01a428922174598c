-- Ways over pairs.
use Rattle.std.proofs.Common.{◌≡◌, ℕ, List, Contains, refl, sym, subst, inl, inr, ◌⊎◌, ◌∷◌, [], ◌++◌}
use Rattle.dpl_classes.specs.Chains.{IsChain, AreLinked}

chain_append : (pairs : List (ℕ × ℕ)) (i : ℕ) (js : List ℕ) (j : ℕ) (ks : List ℕ) (k : ℕ)
    → IsChain pairs i js j → IsChain pairs j ks k → IsChain pairs i (js ++ ks) k
chain_append pairs i [] j ks k e t = let P : ℕ → Type 0 = λ n. IsChain pairs n ks k in subst P (sym e) t
chain_append pairs i (m ∷ js) j ks k (h, s) t = (h, chain_append pairs m js j ks k s t)

turned : {A B : Type 0} → A ⊎ B → B ⊎ A
turned h = elim h [ inl a ↦ inr a | inr b ↦ inl b ]

chain_back : (pairs : List (ℕ × ℕ)) (i : ℕ) (js : List ℕ) (k : ℕ) → IsChain pairs i js k → AreLinked pairs k i
chain_back pairs i [] k e = record { chain = []; is = sym e }
chain_back pairs i (m ∷ js) k (h, s) =
    let b = chain_back pairs m js k s in
    record { chain = b.chain ++ i ∷ []; is = chain_append pairs k b.chain m (i ∷ []) i b.is (turned h, refl) }

pub link_here : (pairs : List (ℕ × ℕ)) (i k : ℕ) → i ≡ k → AreLinked pairs i k
link_here pairs i k e = record { chain = []; is = e }

pub link_on : (pairs : List (ℕ × ℕ)) (i j k : ℕ) → AreLinked pairs i j → AreLinked pairs j k → AreLinked pairs i k
link_on pairs i j k a b = record { chain = a.chain ++ b.chain; is = chain_append pairs i a.chain j b.chain k a.is b.is }

pub link_back : (pairs : List (ℕ × ℕ)) (i k : ℕ) → AreLinked pairs i k → AreLinked pairs k i
link_back pairs i k a = chain_back pairs i a.chain k a.is

pub link_pair : (pairs : List (ℕ × ℕ)) (i j : ℕ) → Contains pairs (i, j) → AreLinked pairs i j
link_pair pairs i j h = record { chain = j ∷ []; is = (inl h, refl) }
