-- A single member that is a top.
use Rattle.std.proofs.Common.{◌≡◌, ℕ, ◌<◌, sym, ap, ◌∙◌, true}
use Rattle.std.proofs.lemmas.Bool.{eqb-true}
use Rattle.dpl_laminar.specs.Families.{Sets, IsLaminar}

-- it has no other member beside it
pub alone_in : (n : ℕ) (f : Sets) (s m : ℕ) → IsLaminar n f → s < n → m < n → f.top s ≡ s → f.top m ≡ f.top s
    → m ≡ s
alone_in n f s m lam hs hm e k =
    let held : f.holds s m ≡ true = ap (λ z. f.holds z m) (sym (k ∙ e)) ∙ lam.tops.top_holds m hm in
    sym (eqb-true s m (sym (lam.sets.single s m hs hm) ∙ held))
