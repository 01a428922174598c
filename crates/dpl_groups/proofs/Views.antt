-- Where a walk stands, after writes.
use Rattle.std.proofs.Common.{◌≡◌, ◌≢◌, ◌⊎◌, inl, inr, ℕ, zero, suc, ◌+◌, ◌-◌, ◌<◌, ◌≤◌, List, [], ◌∷◌, ◌++◌, map, take}
use Rattle.std.proofs.Common.{replicate, length, sum_by, refl, sym, ◌∙◌, ap, subst, arith, get_or, set}
use Rattle.std.proofs.lemmas.Bool.{cases_eq}
use Rattle.std.proofs.lemmas.List.{get_or-set_same, get_or-set_other, get_or_push, get_or_append_left, get_or_past}
use Rattle.std.proofs.lemmas.List.{get_or_default, get_or-take, length_push, length-replicate, length-set, length-take}
use Rattle.std.proofs.lemmas.List.{length-map}
use Rattle.std.proofs.lemmas.List.Sums.{sum_by-set}
use Rattle.std.proofs.lemmas.Grind.{common_steps}
use Rattle.std.proofs.Math.Nat.{eq-or-lt_of_le}
use mathlib.Core.Path.{fun_ext}
use Rattle.dpl_groups.specs.Graph.{Graph, next_of}
use Rattle.dpl_groups.specs.declared.walk.Mark.{Mark}
use Rattle.dpl_groups.specs.declared.walk.Mark.TheVariants.{New, Open}
use Rattle.dpl_groups.specs.declared.walk.Walk.{Walk}
use Rattle.dpl_groups.specs.Walk.{View, view, IsWalk, set_at, below, shut, opened, merged, popped, closed, looked}
use Rattle.dpl_groups.specs.Walk.{Rises, DropsAbove, AreMerged, AreOnPath, IsTop, work}
use Rattle.dpl_groups.proofs.Reach.{cases_le, set_same, set_other, below_is}
use Rattle.dpl_groups.proofs.Walks.{open_new, done_new}

pub set_view : {A : Type 0} (xs : List A) (y : ℕ) (a d : A) → y < length xs → (λ x. get_or (set xs y a) x d) ≡ set_at (λ x. get_or xs x d) y a
set_view xs y a d h = fun_ext (λ x. elim (cases_eq x y) [
  | inl e ↦ ap (λ (n : ℕ). get_or (set xs y a) n d) e ∙ (get_or-set_same xs y a d h ∙ sym (set_same (λ n. get_or xs n d) y x a e))
  | inr e ↦ get_or-set_other xs y x a d e ∙ sym (set_other (λ n. get_or xs n d) y x a e)
])

pub push_view : (xs : List ℕ) (y : ℕ) → (λ i. get_or (xs ++ y ∷ []) i 0) ≡ set_at (λ i. get_or xs i 0) (length xs) y
push_view xs y = fun_ext (λ i. elim (cases_eq i (length xs)) [
  | inl e ↦ get_or_push xs y 0 i (sym e) ∙ sym (set_same (λ n. get_or xs n 0) (length xs) i y e)
  | inr e ↦ other i e (cases_le i (length xs)) ∙ sym (set_other (λ n. get_or xs n 0) (length xs) i y e)
])
  where
    other : (i : ℕ) → i ≢ length xs → (i ≤ length xs) ⊎ (length xs < i) → get_or (xs ++ y ∷ []) i 0 ≡ get_or xs i 0
    other i e (inl le) = elim (eq-or-lt_of_le le) [ inl q ↦ absurd (e q) | inr lt ↦ get_or_append_left xs (y ∷ []) 0 i lt ]
    other i e (inr lt) =
        let long : length (xs ++ y ∷ []) ≡ length xs + 1 = length_push xs y in
        get_or_past (xs ++ y ∷ []) i 0 (omega arith) ∙ sym (get_or_past xs i 0 (omega arith))

length_of_take : {A : Type 0} (xs : List A) (n : ℕ) → n ≤ length xs → length (take n xs) ≡ n
length_of_take xs n h = grind (arith, common_steps, length-take)

pub take_view : (xs : List ℕ) (n : ℕ) → (λ i. get_or (take n xs) i 0) ≡ below (λ i. get_or xs i 0) n
take_view xs n = fun_ext (λ i. elim (cases_le n i) [
  | inl le ↦ let short : length (take n xs) ≤ n = grind (arith, common_steps, length-take) in get_or_past (take n xs) i 0 (omega arith) ∙ sym (past i le)
  | inr lt ↦ get_or-take n xs i 0 lt ∙ sym (below_is (λ k. get_or xs k 0) n i lt)
])
  where
    past : (i : ℕ) → n ≤ i → below (λ k. get_or xs k 0) n i ≡ 0
    past i le = grind (arith, common_steps)

pub opened_view : (a b : Walk) (y : ℕ) → y < length a.marks.items
    → b.marks.items ≡ set a.marks.items y (Open (length a.path.items)) → b.left.items ≡ a.left.items
    → b.path.items ≡ a.path.items ++ y ∷ [] → b.starts.items ≡ a.starts.items ++ length a.path.items ∷ []
    → b.stack.items ≡ a.stack.items ++ length a.path.items ∷ [] → b.heads.items ≡ a.heads.items
    → view b ≡ opened (view a) y
unfolding view
opened_view a b y h em el ep es ek eh =
    let place : ℕ = length a.path.items in
    let size : length (set a.marks.items y (Open place)) ≡ length a.marks.items = length-set a.marks.items y (Open place) in
    rw (
      em,
      el,
      ep,
      es,
      ek,
      eh,
      size,
      set_view a.marks.items y (Open place) New h,
      push_view a.path.items y,
      push_view a.starts.items place,
      push_view a.stack.items place,
      length_push a.path.items y,
      length_push a.starts.items place,
      length_push a.stack.items place,
    ) refl

get_new : (n x : ℕ) → get_or (replicate n New) x New ≡ New
get_new zero x = refl
get_new (suc n) zero = refl
get_new (suc n) (suc x) = get_new n x

get_count : (g : Graph) (x : ℕ) → get_or (map (λ e. length e) g) x 0 ≡ length (get_or g x [])
get_count [] x = refl
get_count (e ∷ g) zero = refl
get_count (e ∷ g) (suc x) = get_count g x

-- nothing has been seen
unseen : (g : Graph) (v : View) → v.size ≡ length g → v.lefts ≡ length g → ((x : ℕ) → v.mark x ≡ New)
    → ((x : ℕ) → v.left x ≡ length (next_of g x)) → v.depth ≡ 0 → v.tops ≡ 0 → v.height ≡ 0 → v.count ≡ 0
    → IsWalk g v
unseen g v size lefts new left depth tops height count = record {
  size = size;
  lefts = lefts;
  few = λ x. let e : v.left x ≡ length (next_of g x) = left x in omega arith;
  fresh = λ x m. left x;
  node = λ i h. absurd (omega arith);
  here = λ i h. absurd (omega arith);
  onpath = λ x i m. absurd (open_new i (sym m ∙ new x));
  itself = λ x i m. absurd (open_new i (sym m ∙ new x));
  upward = λ i j le h. absurd (omega arith);
  back = λ i j le h ns. absurd (omega arith);
  first = λ i h. absurd (omega arith);
  lowest = λ h. absurd (omega arith);
  rising = λ t u l h. absurd (omega arith);
  begun = λ t h. absurd (omega arith);
  climbing = λ t u l h. absurd (omega arith);
  placed = λ t h. absurd (omega arith);
  busy = λ i h. absurd (omega arith);
  settled = λ x i k m lt. absurd (open_new i (sym m ∙ new x));
  downward = λ x l k m lt. absurd (done_new l (sym m ∙ new x));
  joined = λ x y l m n. absurd (done_new l (sym m ∙ new x));
  numbered = λ x l m. absurd (done_new l (sym m ∙ new x));
  headed = λ l h. absurd (omega arith);
  own = λ l h. absurd (omega arith);
}

pub new_walk : (g : Graph) (w : Walk) → w.marks.items ≡ replicate (length g) New
    → w.left.items ≡ map (λ e. length e) g → w.path.items ≡ [] → w.starts.items ≡ [] → w.stack.items ≡ []
    → w.heads.items ≡ [] → IsWalk g (view w)
unfolding view
new_walk g w em el ep es ek eh = unseen g (view w)
    (rw em (length-replicate (length g) New))
    (rw el (length-map g (λ e. length e)))
    (λ x. rw em (get_new (length g) x))
    (λ x. rw el (get_count g x))
    (rw ep refl) (rw es refl) (rw ek refl) (rw eh refl)

pub popped_view : (a b : Walk) → b.marks.items ≡ a.marks.items → b.left.items ≡ a.left.items
    → b.path.items ≡ a.path.items → b.starts.items ≡ a.starts.items
    → b.stack.items ≡ take (length a.stack.items - 1) a.stack.items → b.heads.items ≡ a.heads.items
    → view b ≡ popped (view a)
unfolding view
popped_view a b em el ep es ek eh =
    let short : length (take (length a.stack.items - 1) a.stack.items) ≡ length a.stack.items - 1 =
    length_of_take a.stack.items (length a.stack.items - 1) (omega arith) in
    rw (em, el, ep, es, ek, eh, short, take_view a.stack.items (length a.stack.items - 1)) refl

pub closed_view : (a b : Walk) (i : ℕ) → i < length a.path.items → length b.marks.items ≡ length a.marks.items
    → ((x : ℕ) → get_or b.marks.items x New ≡ shut i (length a.heads.items) (get_or a.marks.items x New))
    → b.left.items ≡ a.left.items → b.path.items ≡ take i a.path.items
    → b.starts.items ≡ take (length a.starts.items - 1) a.starts.items
    → b.stack.items ≡ take (length a.stack.items - 1) a.stack.items
    → b.heads.items ≡ a.heads.items ++ get_or a.path.items i 0 ∷ [] → view b ≡ closed (view a) i
unfolding view
closed_view a b i h size marks el ep es ek eh =
    let mark : (λ x. get_or b.marks.items x New) ≡ (λ x. shut i (length a.heads.items) (get_or a.marks.items x New)) = fun_ext marks in
    let depth : length (take i a.path.items) ≡ i = length_of_take a.path.items i (omega arith) in
    let tops : length (take (length a.starts.items - 1) a.starts.items) ≡ length a.starts.items - 1 =
    length_of_take a.starts.items (length a.starts.items - 1) (omega arith) in
    let short : length (take (length a.stack.items - 1) a.stack.items) ≡ length a.stack.items - 1 =
    length_of_take a.stack.items (length a.stack.items - 1) (omega arith) in
    rw (
      size,
      mark,
      el,
      ep,
      es,
      ek,
      eh,
      depth,
      tops,
      short,
      take_view a.path.items i,
      take_view a.starts.items (length a.starts.items - 1),
      take_view a.stack.items (length a.stack.items - 1),
      push_view a.heads.items (get_or a.path.items i 0),
      length_push a.heads.items (get_or a.path.items i 0),
    ) refl

starts_same : (a b : Walk) (m : ℕ) → length (take m a.starts.items) ≡ m → b.starts.items ≡ take m a.starts.items → record {
  size = length a.marks.items;
  mark = λ x. get_or a.marks.items x New;
  lefts = length a.left.items;
  left = λ x. get_or a.left.items x 0;
  depth = length a.path.items;
  path = λ i. get_or a.path.items i 0;
  tops = length b.starts.items;
  start = λ t. get_or b.starts.items t 0;
  height = length a.stack.items;
  stack = λ t. get_or a.stack.items t 0;
  count = length a.heads.items;
  head = λ l. get_or a.heads.items l 0;
} ≡ merged (view a) m
unfolding view
starts_same a b m short e = rw (e, short, take_view a.starts.items m) refl

pub merged_view : (a b : Walk) (j : ℕ) → Rises (view a) → b.marks.items ≡ a.marks.items
    → b.left.items ≡ a.left.items → b.path.items ≡ a.path.items → b.stack.items ≡ a.stack.items
    → b.heads.items ≡ a.heads.items → DropsAbove j a.starts.items b.starts.items
    → AreMerged (view a) (view b) j
unfolding view
merged_view a b j rises em el ep ek eh d =
    let m : ℕ = length b.starts.items in
    let short : length (take m a.starts.items) ≡ m = length_of_take a.starts.items m d.fewer in
    let front : (t : ℕ) → t < m → get_or b.starts.items t 0 ≡ get_or a.starts.items t 0 =
    λ t h. ap (λ (xs : List ℕ). get_or xs t 0) d.front ∙ get_or-take m a.starts.items t 0 h in record {
      m = m;
      merge = record {
        fewer = d.fewer;
        kept = λ t h.
            let low : get_or b.starts.items (m - 1) 0 ≤ j = d.last (omega arith) in
            let same : get_or b.starts.items (m - 1) 0 ≡ get_or a.starts.items (m - 1) 0 = front (m - 1) (omega arith) in
            let le : t ≤ m - 1 = omega arith in
            elim (eq-or-lt_of_le le) [
              | inl e ↦ let s : get_or a.starts.items t 0 ≡ get_or a.starts.items (m - 1) 0 = ap (λ (n : ℕ). get_or a.starts.items n 0) e in omega arith
              | inr l ↦ let f : m ≤ length a.starts.items = d.fewer in
                  let r : get_or a.starts.items t 0 < get_or a.starts.items (m - 1) 0 = rises t (m - 1) l (omega arith)
                  in omega arith
            ];
        merged = d.gone;
      };
      same = rw (em, el, ep, ek, eh) (starts_same a b m short d.front);
    }

pub looked_view : (a b : Walk) (x n : ℕ) → x < length a.left.items → n ≡ get_or a.left.items x 0 - 1
    → b.marks.items ≡ a.marks.items → b.left.items ≡ set a.left.items x n → b.path.items ≡ a.path.items
    → b.starts.items ≡ a.starts.items → b.stack.items ≡ a.stack.items → b.heads.items ≡ a.heads.items
    → view b ≡ looked (view a) x
unfolding view
looked_view a b x n h en em el ep es ek eh =
    let same : length (set a.left.items x n) ≡ length a.left.items = length-set a.left.items x n in
    rw (em, el, ep, es, ek, eh, same, set_view a.left.items x n 0 h, en) refl

pub looked_work : (a b : Walk) (x n : ℕ) → x < length a.left.items → n + 1 ≡ get_or a.left.items x 0
    → b.left.items ≡ set a.left.items x n → b.stack.items ≡ a.stack.items → work b + 2 ≡ work a
unfolding work
looked_work a b x n h en el ek =
    let s : sum_by (λ m. m) (set a.left.items x n) + get_or a.left.items x 0 ≡ sum_by (λ m. m) a.left.items + n = sum_by-set (λ m. m) a.left.items x n 0 h in
    rw (el, ek) (omega (arith, s, en))

-- the height and the work
pub work_is : (a b : Walk) → b.left.items ≡ a.left.items → work b + (view a).height ≡ work a + (view b).height
unfolding work view
work_is a b el = rw el (omega arith)

pub read_mark : (w : Walk) (x : ℕ) (m : Mark) → x < length w.marks.items → m ≡ get_or w.marks.items x m → (view w).mark x ≡ m
unfolding view
read_mark w x m h e = get_or_default w.marks.items x New m h ∙ sym e

pub read_path : (w : Walk) (i x d : ℕ) → i < length w.path.items → x ≡ get_or w.path.items i d → (view w).path i ≡ x
unfolding view
read_path w i x d h e = get_or_default w.path.items i 0 d h ∙ sym e

pub marks_size : (g : Graph) (w : Walk) → IsWalk g (view w) → length w.marks.items ≡ length g
unfolding view
marks_size g w I = I.size

pub left_size : (g : Graph) (w : Walk) → IsWalk g (view w) → length w.left.items ≡ length g
unfolding view
left_size g w I = I.lefts

pub path_deep : (g : Graph) (w : Walk) (i : ℕ) → IsWalk g (view w) → IsTop (view w) i → i < length w.path.items
unfolding view
path_deep g w i I t = subst (λ (n : ℕ). n < length w.path.items) t.top
    (I.placed (length w.stack.items - 1) (let b : 0 < length w.stack.items = t.busy in omega arith))

pub left_at : (w : Walk) (x : ℕ) → (view w).left x ≡ get_or w.left.items x 0
unfolding view
left_at w x = refl

pub on_path : (g : Graph) (w : Walk) → IsWalk g (view w) → AreOnPath w.marks.items w.path.items
unfolding view
on_path g w I = record {
  node = λ i h. let n : get_or w.path.items i 0 < length g = I.node i h in let s : length w.marks.items ≡ length g = I.size in omega arith;
  here = I.here;
  onpath = I.onpath;
  itself = I.itself;
}

pub left_few : (g : Graph) (w : Walk) (x : ℕ) → IsWalk g (view w) → get_or w.left.items x 0 ≤ length (next_of g x)
unfolding view
left_few g w x I = I.few x

pub looked_lower : (o a b : Walk) (x n : ℕ) → x < length a.left.items → n + 1 ≡ get_or a.left.items x 0
    → a.left.items ≡ o.left.items → (view a).height ≤ (view o).height + 1
    → b.left.items ≡ set a.left.items x n → b.stack.items ≡ a.stack.items → work b < work o
looked_lower o a b x n h en eo high el ek =
    let less : work b + 2 ≡ work a = looked_work a b x n h en el ek in
    let same : work a + (view o).height ≡ work o + (view a).height = work_is o a eo in
    omega arith
