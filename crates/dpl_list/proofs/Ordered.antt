-- Lists are the same where they have the same items in order, place by place, or under a map.
use Rattle.std.proofs.Common.{arith, ◌≡◌, ◌<◌, ◌⊎◌, inl, inr, ℕ, suc, List, [], ◌∷◌, length, map, refl, sym, ◌∙◌, subst, AllPairs, Contains, get_or}
use Rattle.dpl_list.proofs.Lists.{none_in, in_cons, in_head, in_tail, pairs_tail}

-- what stands behind the first
pub behind_first : {X : Type 0} (R : X → X → Type 0) (x z : X) (xs : List X) → AllPairs R (x ∷ xs) → Contains xs z → R x z
behind_first R x z xs p (k, l, e) = let r = p 0 (suc k) z (omega arith) (omega arith) in subst (λ w. R x w) e r

-- lists in one order with the same items
pub ordered_same : {X : Type 0} (R : X → X → Type 0) → ((x y : X) → R x y → R y x → ⊥) → (xs ys : List X) → AllPairs R xs → AllPairs R ys
    → ((z : X) → Contains xs z → Contains ys z) → ((z : X) → Contains ys z → Contains xs z) → xs ≡ ys
ordered_same R asym [] [] p q f g = refl
ordered_same R asym [] (y ∷ ys) p q f g = none_in y (g y (in_head y y ys refl))
ordered_same R asym (x ∷ xs) [] p q f g = none_in x (f x (in_head x x xs refl))
ordered_same {X} R asym (x ∷ xs) (y ∷ ys) p q f g =
    let head : x ≡ y = heads (in_cons y x ys (f x (in_head x x xs refl))) (in_cons x y xs (g y (in_head y y ys refl))) in
    let rest : xs ≡ ys = ordered_same R asym xs ys (pairs_tail R x xs p) (pairs_tail R y ys q)
    (λ z c. there head z c (in_cons y z ys (f z (in_tail x z xs c))))
    (λ z c. back head z c (in_cons x z xs (g z (in_tail y z ys c))))
    in
    cc
  where
    heads : (y ≡ x) ⊎ Contains ys x → (x ≡ y) ⊎ Contains xs y → x ≡ y
    heads (inl e) h = sym e
    heads (inr c) (inl e) = e
    heads (inr c) (inr d) = absurd (asym x y (behind_first R x y xs p d) (behind_first R y x ys q c))

    there : x ≡ y → (z : X) → Contains xs z → (y ≡ z) ⊎ Contains ys z → Contains ys z
    there e z c (inr d) = d
    there e z c (inl d) = let r = subst (λ w. R x w) (sym (e ∙ d)) (behind_first R x z xs p c) in absurd (asym x x r r)

    back : x ≡ y → (z : X) → Contains ys z → (x ≡ z) ⊎ Contains xs z → Contains xs z
    back e z c (inr d) = d
    back e z c (inl d) = let r = subst (λ w. R y w) (sym (sym e ∙ d)) (behind_first R y z ys q c) in absurd (asym y y r r)

-- lists with the same item at each place
pub lists_same : {X : Type 0} (xs ys : List X) (d : X) → length xs ≡ length ys → ((k : ℕ) → k < length xs → get_or xs k d ≡ get_or ys k d) → xs ≡ ys
lists_same [] [] d n f = refl
lists_same [] (y ∷ ys) d n f = absurd (omega arith)
lists_same (x ∷ xs) [] d n f = absurd (omega arith)
lists_same (x ∷ xs) (y ∷ ys) d n f =
    let e : x ≡ y = f 0 (omega arith) in
    let r : xs ≡ ys = lists_same xs ys d (omega arith) (λ k l. f (suc k) (omega arith)) in
    cc

-- lists that are the same under a map that gives no two items one value
pub maps_same : {X Y : Type 0} (f : X → Y) → ((x y : X) → f x ≡ f y → x ≡ y) → (xs ys : List X) → map f xs ≡ map f ys → xs ≡ ys
maps_same f one [] [] e = refl
maps_same f one [] (y ∷ ys) e = absurd (cc)
maps_same f one (x ∷ xs) [] e = absurd (cc)
maps_same f one (x ∷ xs) (y ∷ ys) e =
    let h : f x ≡ f y = cc in
    let t : map f xs ≡ map f ys = cc in
    let a : x ≡ y = one x y h in
    let b : xs ≡ ys = maps_same f one xs ys t in
    cc
