-- The groups that a walk over all nodes leaves.
use Rattle.std.proofs.Common.{◌≡◌, ◌≢◌, inl, inr, ℕ, zero, suc, true, false, ◌+◌, ◌-◌, ◌<◌, ◌≤◌, List, [], ◌∷◌, map}
use Rattle.std.proofs.Common.{length, refl, sym, ◌∙◌, ap, subst, arith, get_or}
use Rattle.std.proofs.Math.Nat.{eq-or-lt_of_le}
use Rattle.std.proofs.lemmas.Bool.{cases_eq}
use Rattle.std.proofs.lemmas.List.{length-map}
use Rattle.dpl_groups.specs.Graph.{Graph, next_of}
use Rattle.dpl_groups.specs.Groups.{AreGroups}
use Rattle.dpl_groups.specs.declared.walk.Mark.{Mark}
use Rattle.dpl_groups.specs.declared.walk.Mark.TheVariants.{New, Open, Done}
use Rattle.dpl_groups.specs.declared.walk.Walk.{Walk}
use Rattle.dpl_groups.specs.Walk.{View, view, IsWalk, IsDone, IsTop, opened, StaySeen, AreDone, label_of, is_new_mark}
use Rattle.dpl_groups.proofs.Reach.{set_same, set_other}
use Rattle.dpl_groups.proofs.Walks.{open_new, done_new, opened_kept, path_empty}

pub empty_height : (w : Walk) → w.stack.items ≡ [] → (view w).height ≡ 0
unfolding view
empty_height w e = rw e refl

pub last_top : (w : Walk) (i : ℕ) → 0 < length w.stack.items → i ≡ get_or w.stack.items (length w.stack.items - 1) 0 → IsTop (view w) i
unfolding view
last_top w i h e = record { busy = h; top = sym e }

pub opened_first : (g : Graph) (a b : Walk) (y : ℕ) → IsWalk g (view a) → y < length g → (view a).mark y ≡ New
    → a.stack.items ≡ [] → view b ≡ opened (view a) y → IsWalk g (view b)
opened_first g a b y I h new empty e = subst (IsWalk g) (sym e) (opened_kept g (view a) I y h new (inl (empty_height a empty)))

pub opened_seen : (a b : Walk) (y x : ℕ) → view b ≡ opened (view a) y → (view a).mark x ≢ New → (view b).mark x ≢ New
opened_seen a b y x e n = subst (λ (v : View). v.mark x ≢ New) (sym e) (λ m. elim (cases_eq x y) [
  | inl s ↦ open_new (view a).depth (sym (set_same (view a).mark y x (Open (view a).depth) s) ∙ m)
  | inr s ↦ n (sym (set_other (view a).mark y x (Open (view a).depth) s) ∙ m)
])

pub opened_node : (a b : Walk) (y : ℕ) → view b ≡ opened (view a) y → (view b).mark y ≢ New
opened_node a b y e = subst (λ (v : View). v.mark y ≢ New) (sym e)
    (λ m. open_new (view a).depth (sym (set_same (view a).mark y y (Open (view a).depth) refl) ∙ m))

-- all nodes are done once all were visited
pub all_done : (g : Graph) (w : Walk) (n : ℕ) → IsWalk g (view w) → w.stack.items ≡ [] → length g ≤ n
    → ((x : ℕ) → x < n → (view w).mark x ≢ New) → AreDone w.marks.items
unfolding view
all_done g w n I empty all seen x h = by (get_or w.marks.items x New) refl
  where
    by : (m : Mark) → get_or w.marks.items x New ≡ m → (l : ℕ) × (get_or w.marks.items x New ≡ Done l)
    by New e = let s : length w.marks.items ≡ length g = I.size in absurd (seen x (omega arith) e)
    by (Open i) e = let d : length w.path.items ≡ 0 = path_empty g (view w) I (empty_height w empty) in
        let p : i < length w.path.items = I.onpath x i e in absurd (omega arith)
    by (Done l) e = (l, e)

label_at : (marks : List Mark) (x l : ℕ) → get_or marks x New ≡ Done l → get_or (map label_of marks) x 0 ≡ l
label_at [] x l e = cc
label_at (m ∷ ms) zero l e = ap label_of e
label_at (m ∷ ms) (suc x) l e = label_at ms x l e

pub are_groups : (g : Graph) (w : Walk) (labels heads : List ℕ) → IsWalk g (view w) → AreDone w.marks.items
    → labels ≡ map label_of w.marks.items → heads ≡ w.heads.items → AreGroups g labels heads
unfolding view
are_groups g w labels heads I done el eh =
    let size : length w.marks.items ≡ length g = I.size in
    let at : (x l : ℕ) → get_or w.marks.items x New ≡ Done l → get_or labels x 0 ≡ l =
    λ x l e. ap (λ (xs : List ℕ). get_or xs x 0) el ∙ label_at w.marks.items x l e in
    let count : length heads ≡ length w.heads.items = ap (λ (xs : List ℕ). length xs) eh in
    let head : (l : ℕ) → get_or heads l 0 ≡ get_or w.heads.items l 0 = λ l. ap (λ (xs : List ℕ). get_or xs l 0) eh in record {
      size = (ap (λ (xs : List ℕ). length xs) el ∙ length-map w.marks.items label_of) ∙ size;
      downward = λ x y h e.
          let d = done x (omega arith) in
          let n : IsDone (view w) (get_or (next_of g x) e.k 0) d.0 = I.downward x d.0 e.k d.1 e.within in
          let ly : get_or labels y 0 ≡ n.label = at y n.label (ap (λ (z : ℕ). get_or w.marks.items z New) (sym e.there) ∙ n.done) in
          let lx : get_or labels x 0 ≡ d.0 = at x d.0 d.1 in
          let low : n.label ≤ d.0 = n.low in omega arith;
      joined = λ x y hx hy same.
          let d = done x (omega arith) in
          let q = done y (omega arith) in
          let lx : get_or labels x 0 ≡ d.0 = at x d.0 d.1 in
          let ly : get_or labels y 0 ≡ q.0 = at y q.0 q.1 in
          let s : q.0 ≡ d.0 = omega arith in
          I.joined x y d.0 d.1 (q.1 ∙ ap Done s);
      numbered = λ x h.
          let d = done x (omega arith) in
          let lx : get_or labels x 0 ≡ d.0 = at x d.0 d.1 in
          let n : d.0 < length w.heads.items = I.numbered x d.0 d.1 in omega arith;
      headed = λ l h. subst (λ (n : ℕ). n < length g) (sym (head l)) (I.headed l (omega arith));
      own = λ l h. at (get_or heads l 0) l (ap (λ (z : ℕ). get_or w.marks.items z New) (head l) ∙ I.own l (omega arith));
    }

pub is_new : (m : Mark) → is_new_mark m ≡ true → m ≡ New
is_new New e = refl
is_new (Open i) e = cc
is_new (Done l) e = cc

pub is_seen : (m n : Mark) → m ≡ n → is_new_mark m ≡ false → n ≡ New → ⊥
is_seen m New e f h = let g : is_new_mark New ≡ false = subst (λ (x : Mark). is_new_mark x ≡ false) e f in cc
is_seen m (Open i) e f h = open_new i h
is_seen m (Done l) e f h = done_new l h

pub seen_more : (v v' : View) (n x : ℕ) → StaySeen v v' → v'.mark n ≢ New → ((y : ℕ) → y < n → v.mark y ≢ New) → x < n + 1 → v'.mark x ≢ New
seen_more v v' n x stay new before h =
    let le : x ≤ n = omega arith in
    elim (eq-or-lt_of_le le) [
      | inl e ↦ subst (λ (y : ℕ). v'.mark y ≢ New) (sym e) new
      | inr lt ↦ stay x (before x lt)
    ]
