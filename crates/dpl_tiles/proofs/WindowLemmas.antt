-- What a change of some columns leaves of the runs of a row.
use Rattle.std.proofs.Common.{ℤ, pos, ◌-ℤ◌, ◌≤ℤ◌, List, inl, inr, Bool, IsTrue, sym, arith, ◌≡◌, ◌⊎◌, ℕ, suc, ◌<◌}
use Rattle.std.proofs.Common.{length, get_or, subst, All, Any, [], ◌∷◌}
use Rattle.std.specs.List.{AllZip}
use Rattle.dpl_cell.specs.declared.rect.Rect.{Rect}
use Rattle.dpl_cell.specs.Tiles.{IsRun}
use Rattle.dpl_stacks.specs.Stacks.{IsParted}
use Rattle.dpl_tiles.specs.Windows.{IsOutside, IsChange, IsFar, IsContinued}
use Rattle.dpl_list.proofs.Integers.{signed}

-- a column of far columns, or right beside them, is outside
far_column : (d1 d2 x1 x2 x : ℤ) → IsFar d1 d2 x1 x2 → (x1 -ℤ pos 1) ≤ℤ x → x ≤ℤ x2 → IsOutside d1 d2 x
far_column d1 d2 x1 x2 x (inl h) f t = inl (omega signed)
far_column d1 d2 x1 x2 x (inr h) f t = inr (omega signed)

-- ---- far runs stay

pub run_up : (old new : ℤ → ℤ → Bool) (z d1 d2 x1 x2 : ℤ) → IsChange old new z d1 d2 → IsFar d1 d2 x1 x2 → IsRun old x1 x2 z → IsRun new x1 x2 z
run_up old new z d1 d2 x1 x2 same far run = record {
  long = run.long;
  full = λ x w. let e = same x (far_column d1 d2 x1 x2 x far (let f = w.from in omega signed)
      (let t = w.to in omega signed)) in let h : IsTrue (old x z) = run.full x w in rw e at h;
  left = let e = same (x1 -ℤ pos 1) (far_column d1 d2 x1 x2 (x1 -ℤ pos 1) far (omega signed) (let l = run.long in omega signed)) in λ h. run.left (rw e h);
  right = let e = same x2 (far_column d1 d2 x1 x2 x2 far (let l = run.long in omega signed) (omega signed)) in λ h. run.right (rw e h);
}

pub run_down : (old new : ℤ → ℤ → Bool) (z d1 d2 x1 x2 : ℤ) → IsChange old new z d1 d2 → IsFar d1 d2 x1 x2 → IsRun new x1 x2 z → IsRun old x1 x2 z
run_down old new z d1 d2 x1 x2 same far run = run_up new old z d1 d2 x1 x2 (λ x out. sym (same x out)) far run

-- ---- the stacks near the columns that change

-- none of them is far
pub between : (held : List Rect) (d1 d2 : ℤ) (before near behind : List Rect) → IsParted held d1 d2 before near behind
    → All (λ r. ¬ IsFar d1 d2 r.x1 r.x2) near
between held d1 d2 before near behind p k d l = close _ _ (p.not_left k d l) (p.not_right k d l) where
  close : (a b : ℤ) → d1 ≤ℤ b → a ≤ℤ d2 → ¬ IsFar d1 d2 a b
  close a b h g f = elim f [ inl x ↦ absurd (omega signed) | inr x ↦ absurd (omega signed) ]

pub at_most_on : (a b c : ℤ) → a ≤ℤ b → b ≤ℤ c → a ≤ℤ c
at_most_on a b c h k = omega signed

-- an end that stays or is that of one more stack
pub reached : (end : Rect → ℤ) (near : List Rect) (i : ℕ) (r : Rect) (change old new : ℤ) → i < length near
    → r ≡ get_or near i r → (new ≡ old) ⊎ (new ≡ end r) → (old ≡ change) ⊎ Any (λ o. end o ≡ old) near
    → (new ≡ change) ⊎ Any (λ o. end o ≡ new) near
reached end near i r change old new l is (inl e) so = subst (λ z. (z ≡ change) ⊎ Any (λ o. end o ≡ z) near) (sym e) so
reached end near i r change old new l is (inr e) so = inr (i, r, l, sym is, sym e)

-- the stacks of runs of row z
pub continued_at : (near : List Rect) (z : ℤ) (runs stacks : List Rect) → All (λ r. r.y1 ≡ z) runs
    → AllZip (λ run r. IsContinued near run.y1 run r) runs stacks → AllZip (IsContinued near z) runs stacks
continued_at near z [] [] a c = tt
continued_at near z [] (s ∷ ss) a c = elim c [ ]
continued_at near z (r ∷ rs) [] a c = elim c [ ]
continued_at near z (r ∷ rs) (s ∷ ss) a c = (
  let P : ℤ → Type 0 = λ t. IsContinued near t r s in
      subst P (a 0 r (omega arith)) c.0,
  continued_at near z rs ss (λ k d l. a (suc k) d (omega arith)) c.1,
)
