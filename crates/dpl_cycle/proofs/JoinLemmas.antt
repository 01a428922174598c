-- What is of one class once two classes are joined.
use Rattle.std.proofs.Common.{◌≡◌, ℕ, sym, ◌∙◌, inl, inr, ◌⊎◌}
use Rattle.std.specs.Prelude.{◌↔◌}
use Rattle.std.proofs.lemmas.Bool.{cases_eq}
use Rattle.dpl_cycle.specs.Names.{join}
use Rattle.dpl_cycle.proofs.NameLemmas.{join_hit, join_miss}

-- of the class of a, or of that of b
abbrev pub OnEither : (ℕ → ℕ) → ℕ → ℕ → ℕ → Type 0
OnEither label a b u = (label u ≡ label a) ⊎ (label u ≡ label b)

-- of one class once the classes of a and b are one
abbrev pub AreMerged : (ℕ → ℕ) → ℕ → ℕ → ℕ → ℕ → Type 0
AreMerged label a b u v = (label u ≡ label v) ⊎ (OnEither label a b u × OnEither label a b v)

joined_either : (r : ℕ → ℕ) (a b u : ℕ) → OnEither r a b u → join r a b u ≡ r a
joined_either r a b u h = elim (cases_eq (r u) (r b)) [
  | inl q ↦ join_hit r a b u q
  | inr q ↦ elim h [ inl k ↦ join_miss r a b u q ∙ k | inr k ↦ absurd (q k) ]
]

-- joined names are the same exactly for what is merged
pub joined_merged : (r : ℕ → ℕ) (a b u v : ℕ) → (join r a b u ≡ join r a b v ↔ AreMerged r a b u v)
joined_merged r a b u v = (
  λ e. elim (cases_eq (r u) (r b)) [
    | inl k ↦ elim (cases_eq (r v) (r b)) [
      | inl l ↦ inl (k ∙ sym l)
      | inr l ↦ inr (inr k, inl (sym (join_miss r a b v l) ∙ sym e ∙ join_hit r a b u k))
    ]
    | inr k ↦ elim (cases_eq (r v) (r b)) [
      | inl l ↦ inr (inl (sym (join_miss r a b u k) ∙ e ∙ join_hit r a b v l), inr l)
      | inr l ↦ inl (sym (join_miss r a b u k) ∙ e ∙ join_miss r a b v l)
    ]
  ],
  λ h. elim h [
    | inl e ↦ elim (cases_eq (r u) (r b)) [
      | inl k ↦ join_hit r a b u k ∙ sym (join_hit r a b v (sym e ∙ k))
      | inr k ↦ join_miss r a b u k ∙ e ∙ sym (join_miss r a b v (λ l. k (e ∙ l)))
    ]
    | inr k ↦ joined_either r a b u k.0 ∙ sym (joined_either r a b v k.1)
  ],
)
