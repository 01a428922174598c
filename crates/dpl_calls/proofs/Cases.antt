-- Small cases.
use Rattle.std.proofs.Common.{◌≡◌, inl, inr, ℕ, zero, suc, true, false, ◌==◌, List, [], ◌∷◌, map, refl, sym, ◌∙◌, get_or}
use Rattle.std.proofs.lemmas.Bool.Decides.{eqb_tells}

pub of_eq : (a b : ℕ) → (a == b) ≡ true → a ≡ b
of_eq a b h = elim (eqb_tells a b) [ inl e ↦ e.1 | inr e ↦ let f : false ≡ true = sym e.0 ∙ h in cc ]

pub to_eq : (a b : ℕ) → a ≡ b → (a == b) ≡ true
to_eq a b h = elim (eqb_tells a b) [ inl e ↦ e.0 | inr e ↦ absurd (e.1 h) ]

-- a read of a list of images
pub get_map : {X Y : Type 0} (f : X → Y) (xs : List X) (i : ℕ) (d : X) → get_or (map f xs) i (f d) ≡ f (get_or xs i d)
get_map f [] i d = refl
get_map f (x ∷ xs) zero d = refl
get_map f (x ∷ xs) (suc i) d = get_map f xs i d
