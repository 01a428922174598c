-- Components turned over one after the other: the heavier side of each comes on the lighter mask.
use Rattle.std.proofs.Common.{arith, ◌≡◌, ◌+◌, ◌*◌, ◌<◌, ◌≤◌, ◌^◌, ℕ, suc, Bool, true, false, List, [], ◌∷◌, ◌++◌}
use Rattle.std.proofs.Common.{length, refl, sym, ap, subst, ◌∙◌, All, Contains, append_assoc, length-append}
use Rattle.std.specs.Prelude.{sum_by, set, not, nat_le}
use Rattle.std.specs.List.{IsDistinct, AllByRecursion}
use Rattle.std.proofs.lemmas.Bool.{leb-true, leb-false, eqb-false}
use Rattle.std.proofs.lemmas.List.{append-nil, get_or-set_same, get_or-set_other, length-set}
use Rattle.std.proofs.lemmas.List.Sums.{sum_by-cons}
use Rattle.std.proofs.lemmas.List.Elements.{All-contains, Contains-append_right}
use Rattle.dpl_sign.specs.Colourings.{agree}
use Rattle.dpl_balance.specs.declared.turning.Part.{Part}
use Rattle.dpl_balance.specs.declared.types.Areas.{Areas}
use Rattle.dpl_balance.specs.Balance.{difference}
use Rattle.dpl_balance.specs.Parts.{have_one_number, cells_after, is_turned, cells_by, lightens, IsWithinRoom}

abbrev pub IsUnlike : ℕ → Part → Type 0
IsUnlike most p = difference p.on_a p.on_b ≤ most

-- the components behind the rest were settled: what they have on the masks, and how far that is apart
pub record IsSettled (parts rest : List Part) (turned : List Bool) (on_a on_b : ℕ) : Type 0 where
  pub done : List Part
  pub split : parts ≡ rest ++ done
  pub a : on_a ≡ sum_by (cells_by turned false) done
  pub b : on_b ≡ sum_by (cells_by turned true) done
  pub even : (most : ℕ) → All (IsUnlike most) parts → difference on_a on_b ≤ most
  pub room_a : on_a ≤ length done * 2 ^ 94
  pub room_b : on_b ≤ length done * 2 ^ 94

pub none_settled : (parts : List Part) (turned : List Bool) → IsSettled parts parts turned 0 0
none_settled parts turned = record {
  done = [];
  split = sym (append-nil parts);
  a = refl;
  b = refl;
  even = λ most all. omega arith;
  room_a = omega arith;
  room_b = omega arith;
}

-- ---- one component more

distinct_behind : (xs ys : List Part) → IsDistinct have_one_number (xs ++ ys) → IsDistinct have_one_number ys
unfolding IsDistinct
distinct_behind [] ys d = d
distinct_behind (x ∷ xs) ys d = distinct_behind xs ys d.1

no_other : (p : Part) (ps : List Part) → IsDistinct have_one_number (p ∷ ps) → AllByRecursion (λ q. have_one_number p q ≡ false) ps
unfolding IsDistinct
no_other p ps d = d.0

-- what others have does not change
others_stay : (turned : List Bool) (p : Part) (t b : Bool) (done : List Part)
    → AllByRecursion (λ q. have_one_number p q ≡ false) done
    → sum_by (cells_by (set turned p.number t) b) done ≡ sum_by (cells_by turned b) done
others_stay turned p t b [] apart = refl
others_stay turned p t b (q ∷ qs) apart =
    let one : is_turned (set turned p.number t) q ≡ is_turned turned q =
    get_or-set_other turned p.number q.number t false (λ e. eqb-false p.number q.number apart.0 (sym e)) in
    let first : cells_by (set turned p.number t) b q ≡ cells_by turned b q = ap (λ z. cells_after z b q) one in
    sum_by-cons (cells_by (set turned p.number t) b) q qs ∙ omega (arith, first, others_stay turned p t b qs apart.1) ∙
    sym (sum_by-cons (cells_by turned b) q qs)

one_more : (turned : List Bool) (p : Part) (t b : Bool) (done : List Part) (on : ℕ) → p.number < length turned
    → AllByRecursion (λ q. have_one_number p q ≡ false) done → on ≡ sum_by (cells_by turned b) done
    → on + cells_after t b p ≡ sum_by (cells_by (set turned p.number t) b) (p ∷ done)
one_more turned p t b done on l apart e =
    let own : is_turned (set turned p.number t) p ≡ t = get_or-set_same turned p.number t false l in
    let first : cells_by (set turned p.number t) b p ≡ cells_after t b p = ap (λ z. cells_after z b p) own in
    omega (arith, e, first, others_stay turned p t b done apart) ∙ sym (sum_by-cons (cells_by (set turned p.number t) b) p done)

-- the heavier side on the lighter mask: the masks differ by no more than they did, or than the component does
evens : (on : Areas) (p : Part) (most : ℕ) → difference on.a on.b ≤ most → difference p.on_a p.on_b ≤ most
    → difference (on.a + cells_after (lightens on p) false p) (on.b + cells_after (lightens on p) true p) ≤ most
evens on p most d e = by_tests (nat_le on.a on.b) refl (nat_le p.on_b p.on_a) refl where
  by_tests : (x : Bool) → nat_le on.a on.b ≡ x → (y : Bool) → nat_le p.on_b p.on_a ≡ y →
      difference (on.a + cells_after (not (agree x y)) false p) (on.b + cells_after (not (agree x y)) true p) ≤ most
  by_tests true f true g = let h = leb-true on.a on.b f in let k = leb-true p.on_b p.on_a g in omega (arith, d, e)
  by_tests true f false g = let h = leb-true on.a on.b f in let k = leb-false p.on_b p.on_a g in omega (arith, d, e)
  by_tests false f true g = let h = leb-false on.a on.b f in let k = leb-true p.on_b p.on_a g in omega (arith, d, e)
  by_tests false f false g = let h = leb-false on.a on.b f in let k = leb-false p.on_b p.on_a g in omega (arith, d, e)

within_room : (t b : Bool) (p : Part) → IsWithinRoom p → cells_after t b p ≤ 2 ^ 94
within_room true true p r = r.a
within_room true false p r = r.b
within_room false true p r = r.b
within_room false false p r = r.a

more_room : (on cells n m : ℕ) → on ≤ n * 2 ^ 94 → cells ≤ 2 ^ 94 → m ≡ suc n → on + cells ≤ m * 2 ^ 94
more_room on cells n m h k e = omega arith

pub settled_more : (parts rest others : List Part) (turned : List Bool) (on : Areas) (p : Part) (on_a on_b : ℕ)
    → IsSettled parts rest turned on.a on.b → rest ≡ others ++ p ∷ [] → IsDistinct have_one_number parts
    → p.number < length turned → IsWithinRoom p → on_a ≡ on.a + cells_after (lightens on p) false p
    → on_b ≡ on.b + cells_after (lightens on p) true p
    → IsSettled parts others (set turned p.number (lightens on p)) on_a on_b
settled_more parts rest others turned on p on_a on_b s e distinct l room f g =
    let t = lightens on p in
    let split : parts ≡ others ++ (p ∷ s.done) = s.split ∙ ap (λ z. z ++ s.done) e ∙ append_assoc others (p ∷ []) s.done in
    let apart : AllByRecursion (λ q. have_one_number p q ≡ false) s.done =
    no_other p s.done (distinct_behind others (p ∷ s.done) (subst (IsDistinct have_one_number) split distinct)) in
    record {
      done = p ∷ s.done;
      split = split;
      a = f ∙ one_more turned p t false s.done on.a l apart s.a;
      b = g ∙ one_more turned p t true s.done on.b l apart s.b;
      even = λ most all.
          let here : Contains parts p = let P : List Part → Type 0 = λ z. Contains z p in
          subst P (sym split) (Contains-append_right others (p ∷ s.done) p (0, omega arith, refl)) in
          let D : ℕ → Type 0 = λ z. difference z on_b ≤ most in
          let E : ℕ → Type 0 = λ z. difference (on.a + cells_after t false p) z ≤ most in
          subst D (sym f) (subst E (sym g) (evens on p most (s.even most all) (All-contains (IsUnlike most) parts p all here)));
      room_a = let k = within_room t false p room in let h = s.room_a in let P : ℕ → Type 0 =
          λ z. z ≤ length (p ∷ s.done) * 2 ^ 94 in subst P (sym f)
          (more_room on.a (cells_after t false p) (length s.done) (length (p ∷ s.done)) h k refl);
      room_b = let k = within_room t true p room in let h = s.room_b in let P : ℕ → Type 0 =
          λ z. z ≤ length (p ∷ s.done) * 2 ^ 94 in subst P (sym g)
          (more_room on.b (cells_after t true p) (length s.done) (length (p ∷ s.done)) h k refl);
    }

-- the part before which the others stand is one of all
part_of : (parts rest done others : List Part) (p : Part) → parts ≡ rest ++ done → rest ≡ others ++ p ∷ [] → Contains parts p
part_of parts rest done others p split e =
    let P : List Part → Type 0 = λ z. Contains z p in
    subst P (sym (split ∙ ap (λ z. z ++ done) e ∙ append_assoc others (p ∷ []) done)) (Contains-append_right others (p ∷ done) p (0, omega arith, refl))

pub settled_by : (parts rest others : List Part) (turned start : List Bool) (on : Areas) (p : Part) (t : Bool) (on_a on_b : ℕ)
    → IsSettled parts rest turned on.a on.b × (length turned ≡ length start) → rest ≡ others ++ p ∷ []
    → IsDistinct have_one_number parts → All (λ (q : Part). q.number < length start) parts
    → All IsWithinRoom parts → t ≡ lightens on p → on_a ≡ on.a + cells_after t false p
    → on_b ≡ on.b + cells_after t true p
    → IsSettled parts others (set turned p.number t) on_a on_b × (length (set turned p.number t) ≡ length start)
settled_by parts rest others turned start on p t on_a on_b (s, n) e distinct within room h f g =
    let there = part_of parts rest s.done others p s.split e in
    let l : p.number < length start = All-contains (λ (q : Part). q.number < length start) parts p within there in
    let r : IsWithinRoom p = All-contains IsWithinRoom parts p room there in
    let P : Bool → Type 0 = λ z. on_a ≡ on.a + cells_after z false p → on_b ≡ on.b + cells_after z true p →
    IsSettled parts others (set turned p.number z) on_a on_b in
    (subst P (sym h) (λ f g. settled_more parts rest others turned on p on_a on_b s e distinct (omega arith) r f g) f g, length-set turned p.number t ∙ n)

-- at the end all were settled
pub all_settled : (parts : List Part) (turned : List Bool) (on_a on_b : ℕ)
    → IsSettled parts [] turned on_a on_b → (most : ℕ) → All (IsUnlike most) parts
    → difference (sum_by (cells_by turned false) parts) (sum_by (cells_by turned true) parts) ≤ most
all_settled parts turned on_a on_b s most all =
    let D : ℕ → Type 0 = λ z. difference z (sum_by (cells_by turned true) parts) ≤ most in
    let E : ℕ → Type 0 = λ z. difference on_a z ≤ most in
    subst D (s.a ∙ ap (λ z. sum_by (cells_by turned false) z) (sym s.split))
    (subst E (s.b ∙ ap (λ z. sum_by (cells_by turned true) z) (sym s.split)) (s.even most all))

-- the sums so far fit
pub room_left : (parts rest : List Part) (turned : List Bool) (on_a on_b : ℕ)
    → IsSettled parts rest turned on_a on_b → length parts < 2 ^ 32 → (on_a ≤ 2 ^ 126) × (on_b ≤ 2 ^ 126)
room_left parts rest turned on_a on_b s few =
    let n : length parts ≡ length rest + length s.done = ap length s.split ∙ length-append rest s.done in
    let a = s.room_a in let b = s.room_b in
    (few_cells on_a (length s.done) (omega arith) a, few_cells on_b (length s.done) (omega arith) b) where
      few_cells : (on n : ℕ) → n ≤ 2 ^ 32 → on ≤ n * 2 ^ 94 → on ≤ 2 ^ 126
      few_cells on n h k = omega arith
