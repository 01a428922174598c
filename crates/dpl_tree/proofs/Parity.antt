use Rattle.std.proofs.Common.{◌≡◌, ◌≢◌, ℕ, ◌*◌, ◌%◌, ◌<◌, sym, ap, ◌∙◌, inl, inr, List}
use Rattle.std.proofs.lemmas.Bool.{cases_Bool}
use Rattle.dpl_laminar.proofs.Numbers.{true_false}
use Rattle.dpl_laminar.specs.Changes.{Gathers}
use Rattle.dpl_laminar.specs.Families.{Sets, IsLaminar, has}
use Rattle.dpl_tree.specs.steps.Forests.{free, Forest, IsCycle, Folds}
use Rattle.dpl_tree.specs.Mates.{total_in}
use Rattle.dpl_tree.specs.Stages.{HasParity}
use Rattle.dpl_tree.proofs.Folding.{tops_of}

-- the totals are the same numbers before and after a set of value 0 is made or taken away, so `same` stands for that
pub folded_parity : (n : ℕ) (f g : Sets) (v : ℕ → ℕ) (x y : Forest) (cs : List ℕ) (set meet : ℕ)
    → IsLaminar n f → Gathers n f cs set g → IsCycle n f x cs meet → Folds x cs meet set y
    → ((q : ℕ) → q < n → total_in (2 * n) v g.holds q ≡ total_in (2 * n) v f.holds q)
    → HasParity n f x.place v → HasParity n g y.place v
folded_parity n f g v x y cs set meet p q c o same h =
    let ts = tops_of n f g cs set p q in
    let par : ℕ → ℕ = λ a. total_in (2 * n) v f.holds a % 2 in
    let in_f = λ (a b : ℕ) (ha : a < n) (hb : b < n) (e : par a ≡ par b). ap (λ z. z % 2) (same a ha) ∙ e ∙ sym (ap (λ z. z % 2) (same b hb)) in
    -- a member of the new tree stood in the old one
    let old = λ (a : ℕ) (ha : a < n) (k : y.place (g.top a) ≢ free). (elim (cases_Bool (has cs (f.top a))) as (λ _. x.place (f.top a) ≢ free) [
      | inl z ↦ c.in_tree (f.top a) z
      | inr z ↦ (λ w.
          let gt : g.top a ≡ f.top a = q.top_others a ha z in
          let ns : f.top a ≢ set = λ e. true_false (f.live set) (ap f.live (sym e) ∙ p.tops.top_live a ha) q.was_free in
          k (ap y.place gt ∙ o.place_others (f.top a) ns z ∙ w))
    ]) in
    record {
      in_top = λ a b ha hb e. in_f a b ha hb (elim (cases_Bool (has cs (f.top a))) [
        | inl z ↦
            let zb = ts.inside b hb (sym e ∙ q.top_inside a ha z) in
            h.in_tree a b ha hb (c.in_tree (f.top a) z) (c.in_tree (f.top b) zb)
        | inr z ↦
            let ns : f.top a ≢ set = λ k. true_false (f.live set) (ap f.live (sym k) ∙ p.tops.top_live a ha) q.was_free in
            h.in_top a b ha hb (sym (ts.outside b (f.top a) hb (sym e ∙ q.top_others a ha z) ns).0)
      ]);
      in_tree = λ a b ha hb ka kb. in_f a b ha hb (h.in_tree a b ha hb (old a ha ka) (old b hb kb));
    }
