-- Numbers in a list, truth values and options.
use Rattle.std.proofs.Common.{arith, ◌≡◌, ◌≢◌, ℕ, zero, suc, ◌+◌, ◌<◌, ◌⊎◌, refl, sym, ap, ◌∙◌, Bool, true, false, inl}
use Rattle.std.proofs.Common.{inr, eqb, eq-eqb, ◌||◌, List, [], ◌∷◌, take, length, get_or, Option, Some, None}
use Rattle.std.proofs.lemmas.Bool.{cases_eq, cases_Bool, ne_eqb, eqb-true}
use Rattle.std.proofs.lemmas.List.Folds.{list_any_more}
use Rattle.dpl_laminar.specs.Families.{has}

pub true_false : {P : Type 0} (b : Bool) → b ≡ true → b ≡ false → P
true_false b t f = let no : true ≡ false = sym t ∙ f in cc

pub some_none : {P : Type 0} (o : Option ℕ) (p : ℕ) → o ≡ Some p → o ≡ None → P
some_none o p s n = let no : Some p ≡ None = sym s ∙ n in cc

pub cases_Option : (o : Option ℕ) → (o ≡ None) ⊎ ((p : ℕ) × (o ≡ Some p))
cases_Option None = inl refl
cases_Option (Some p) = inr (p, refl)

pub has_head : (c x : ℕ) (cs : List ℕ) → c ≡ x → has (c ∷ cs) x ≡ true
has_head c x cs e = rw (eq-eqb c x e) refl

pub has_tail : (c x : ℕ) (cs : List ℕ) → c ≢ x → has (c ∷ cs) x ≡ has cs x
has_tail c x cs ne = rw (ne_eqb c x ne) refl

pub has_at : (xs : List ℕ) (i : ℕ) → i < length xs → has xs (get_or xs i 0) ≡ true
has_at [] i h = absurd (omega arith)
has_at (x ∷ xs) zero h = has_head x x xs refl
has_at (x ∷ xs) (suc i) h = elim (cases_eq x (get_or xs i 0)) [
  | inl e ↦ has_head x (get_or xs i 0) xs e
  | inr ne ↦ has_tail x (get_or xs i 0) xs ne ∙ has_at xs i (omega arith)
]

pub place_in : (xs : List ℕ) (x : ℕ) → has xs x ≡ true → (i : ℕ) × (i < length xs) × (get_or xs i 0 ≡ x)
place_in [] x h = let no : false ≡ true = h in cc
place_in (y ∷ ys) x h = elim (cases_eq y x) [
  | inl e ↦ (0, omega arith, e)
  | inr ne ↦ let r = place_in ys x (sym (has_tail y x ys ne) ∙ h) in (suc r.0, omega (arith, r.1), r.2)
]

pub has_taken : (xs : List ℕ) (i c : ℕ) → i < length xs → has (take (i + 1) xs) c ≡ true → (has (take i xs) c ≡ true) ⊎ (get_or xs i 0 ≡ c)
has_taken xs i c h k = elim (cases_Bool (has (take i xs) c)) [
  | inl t ↦ inl t
  | inr f ↦ inr (eqb-true (get_or xs i 0) c (
      let G : Bool → Bool = λ z. z || eqb (get_or xs i 0) c in
      sym (list_any_more (λ y. eqb y c) xs i 0 h ∙ ap G f) ∙ k))
]

pub taken_has : (xs : List ℕ) (i : ℕ) → i < length xs → has (take (i + 1) xs) (get_or xs i 0) ≡ true
taken_has xs i h =
    let x : ℕ = get_or xs i 0 in
    list_any_more (λ y. eqb y x) xs i 0 h ∙ (elim (cases_Bool (has (take i xs) x)) [
      | inl t ↦ (let G : Bool → Bool = λ z. z || eqb x x in ap G t)
      | inr f ↦ (let G : Bool → Bool = λ z. z || eqb x x in ap G f ∙ eq-eqb x x refl)
    ])

pub taken_of : (xs : List ℕ) (i c : ℕ) → has (take i xs) c ≡ true → has xs c ≡ true
taken_of xs zero c k = let no : false ≡ true = k in cc
taken_of [] (suc i) c k = let no : false ≡ true = k in cc
taken_of (x ∷ xs) (suc i) c k = elim (cases_eq x c) [
  | inl e ↦ has_head x c xs e
  | inr ne ↦ has_tail x c xs ne ∙ taken_of xs i c (sym (has_tail x c (take i xs) ne) ∙ k)
]

pub not_taken : (xs : List ℕ) (i c : ℕ) → i < length xs → get_or xs i 0 ≢ c → has (take (i + 1) xs) c ≡ has (take i xs) c
not_taken xs i c h ne = elim (cases_Bool (has (take i xs) c)) [
  | inl t ↦ list_any_more (λ y. eqb y c) xs i 0 h ∙ (let G : Bool → Bool = λ z. z || eqb (get_or xs i 0) c in ap G t) ∙ sym t
  | inr f ↦ list_any_more (λ y. eqb y c) xs i 0 h ∙ (let G : Bool → Bool = λ z. z || eqb (get_or xs i 0) c in ap G f) ∙ ne_eqb (get_or xs i 0) c ne ∙ sym f
]
