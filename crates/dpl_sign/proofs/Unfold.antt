-- What the definitions of drawings give for one edge more.
use Rattle.std.proofs.Common.{◌≡◌, ℕ, suc, ◌+◌, ◌*◌, sym, ap, ◌∙◌, Bool, true, false, inl, inr}
use Rattle.std.specs.Prelude.{if◌then◌else◌}
use Rattle.std.proofs.lemmas.Bool.{cases_Bool, cond-true, cond-false}
use Rattle.dpl_cycle.specs.Names.{join}
use Rattle.dpl_sign.specs.declared.graphs.Signed.{Signed}
use Rattle.dpl_sign.specs.declared.nets.Net.{Net}
use Rattle.dpl_sign.specs.Walks.{edge_at}
use Rattle.dpl_sign.specs.Drawings.{next_below, first_met}
use Rattle.dpl_sign.specs.Components.{names_below}

-- what an edge of the set does to the next dart: each of its darts may be met first
pub next_in : (net : Net) (set : ℕ → Bool) (k d : ℕ) → set k ≡ true
    → next_below net set (suc k) d ≡ first_met net d (2 * k + 1) (first_met net d (2 * k) (next_below net set k d))
next_in net set k d h = rw (h, next_below)

-- an edge outside of the set leaves the next dart as it is
pub next_out : (net : Net) (set : ℕ → Bool) (k d : ℕ) → set k ≡ false → next_below net set (suc k) d ≡ next_below net set k d
next_out net set k d h = rw (h, next_below)

-- an edge of the set joins the components of its ends
pub names_in : (g : Signed) (set : ℕ → Bool) (k v : ℕ) → set k ≡ true
    → names_below g set (suc k) v ≡ join (names_below g set k) (edge_at g k).a (edge_at g k).b v
names_in g set k v h = rw (h, names_below)

-- an edge outside of the set leaves the components as they are
pub names_out : (g : Signed) (set : ℕ → Bool) (k v : ℕ) → set k ≡ false → names_below g set (suc k) v ≡ names_below g set k v
names_out g set k v h = rw (h, names_below)

-- the first met with one edge more
pub next_more : (net : Net) (set : ℕ → Bool) (k d n r : ℕ) → n ≡ next_below net set k d
    → r ≡ (if set k then first_met net d (2 * k + 1) (first_met net d (2 * k) n) else n)
    → r ≡ next_below net set (suc k) d
next_more net set k d n r e h = elim (cases_Bool (set k)) [
  | inl t ↦ h ∙ cond-true (set k) _ _ t ∙ ap (λ m. first_met net d (2 * k + 1) (first_met net d (2 * k) m)) e ∙ sym (next_in net set k d t)
  | inr t ↦ h ∙ cond-false (set k) _ _ t ∙ e ∙ sym (next_out net set k d t)
]
