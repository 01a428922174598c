-- A number that no definition has.
use Rattle.std.proofs.Common.{◌≡◌, ℕ, false, eqb, List, [], ◌∷◌, ◌++◌, None, refl, is_some, arith, nat_eq}
use Rattle.std.specs.List.{list_any}
use Rattle.std.specs.Map.{lookup, keys_of}
use Rattle.indexmap.specs.IndexMap.{insert_entry}
use Rattle.std.proofs.lemmas.Grind.{common_steps}
use Rattle.dpl_calls.specs.declared.entry.Entry.{Entry}

pub absent : (n : ℕ) (es : List (ℕ × List Entry)) → list_any (λ m. eqb m n) (keys_of es) ≡ false → lookup (nat_eq n) es ≡ None
absent n [] h = refl
absent n (e ∷ es) h = grind (arith, common_steps, absent n es)

pub keys_put : (n : ℕ) (body : List Entry) (es : List (ℕ × List Entry))
    → list_any (λ m. eqb m n) (keys_of es) ≡ false
    → keys_of (insert_entry nat_eq es n body) ≡ keys_of es ++ n ∷ []
keys_put n body [] h = refl
keys_put n body (e ∷ es) h = grind (arith, common_steps, keys_put n body es)

pub present : (n : ℕ) (es : List (ℕ × List Entry)) → is_some (lookup (nat_eq n) es) ≡ list_any (λ m. eqb m n) (keys_of es)
present n [] = refl
present n (e ∷ es) = grind (arith, common_steps, present n es)
