-- Walks that go on edge by edge, and the clashes that they pass.
use Rattle.std.proofs.Common.{arith, ◌≡◌, ℕ, ◌+◌, ◌%◌, ◌<◌, Bool, true, false, not, cond, refl, sym, ap, subst, ◌∙◌, List, [], ◌∷◌, ◌++◌, length, take, get_or}
use Rattle.std.proofs.lemmas.List.{take_more}
use Rattle.std.proofs.lemmas.List.Sums.{sum_by_push}
use Rattle.dpl_sign.specs.declared.graphs.Signed.{Signed}
use Rattle.dpl_sign.specs.Colourings.{agree}
use Rattle.dpl_sign.specs.Kinds.{is_clash}
use Rattle.dpl_sign.specs.Walks.{edge_at, across, leaves, IsPath, clashes}
use Rattle.dpl_sign.proofs.PathLemmas.{path_more}

-- a front of a walk has led from one node to another, over an odd number of clashes or not
pub record HasCome (g : Signed) (start : ℕ) (es : List ℕ) (node : ℕ) (odd : Bool) : Type 0 where
  pub path : IsPath g start es node
  pub parity : clashes g es % 2 ≡ cond odd 1 0

pub come_none : (g : Signed) (start : ℕ) → HasCome g start [] start false
come_none g start = record { path = refl; parity = refl }

flips : (n : ℕ) (clash odd : Bool) → n % 2 ≡ cond odd 1 0 → (n + cond clash 1 0) % 2 ≡ cond (not (agree clash odd)) 1 0
flips n true true h = omega (arith, h)
flips n true false h = omega (arith, h)
flips n false true h = omega (arith, h)
flips n false false h = omega (arith, h)

come_more : (g : Signed) (start : ℕ) (es : List ℕ) (u e : ℕ) (odd : Bool) → HasCome g start es u odd → leaves g e u ≡ true
    → HasCome g start (es ++ e ∷ []) (across (edge_at g e) u) (not (agree (is_clash (edge_at g e).kind) odd))
come_more g start es u e odd h l = record {
  path = path_more g start es u e h.path l;
  parity = ap (λ z. z % 2) (sum_by_push (λ x. cond (is_clash (edge_at g x).kind) 1 0) es e)
      ∙ flips (clashes g es) (is_clash (edge_at g e).kind) odd h.parity;
}

-- one edge more
pub come_next : (g : Signed) (start : ℕ) (es : List ℕ) (k u v : ℕ) (odd next : Bool) → k < length es
    → HasCome g start (take k es) u odd → leaves g (get_or es k 0) u ≡ true → v ≡ across (edge_at g (get_or es k 0)) u
    → next ≡ not (agree (is_clash (edge_at g (get_or es k 0)).kind) odd) → HasCome g start (take (k + 1) es) v next
come_next g start es k u v odd next l h out to flip =
    let e = get_or es k 0 in
    let here = come_more g start (take k es) u e odd h out in
    let P : List ℕ → Type 0 = λ z. HasCome g start z v next in
    let Q : ℕ → Type 0 = λ z. HasCome g start (take k es ++ e ∷ []) z next in
    let R : Bool → Type 0 = λ z. HasCome g start (take k es ++ e ∷ []) (across (edge_at g e) u) z in
    subst P (sym (take_more es k 0 l)) (subst Q (sym to) (subst R (sym flip) here))
