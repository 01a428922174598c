-- An edge from the top of the stack is taken into account.
use Rattle.std.proofs.Common.{◌≡◌, ◌≢◌, inl, inr, ℕ, ◌+◌, ◌-◌, ◌<◌, ◌≤◌, true, false, List, [], length, refl, sym, ◌∙◌}
use Rattle.std.proofs.Common.{ap, subst, arith, get_or, Result, Ok, Err, OnOk}
use Rattle.std.proofs.lemmas.Bool.{cases_eq}
use Rattle.std.proofs.lemmas.Grind.{common_steps}
use Rattle.std.proofs.Math.Nat.{eq-or-lt_of_le}
use Rattle.dpl_groups.specs.Graph.{Graph, next_of, IsEdge}
use Rattle.dpl_groups.specs.declared.walk.Mark.TheVariants.{New, Open, Done}
use Rattle.dpl_groups.specs.Walk.{View, view, IsSettled, IsWalk, IsTopNode, IsTop, opened, looked, popped, closed, AreMerged, Settles, StaySeen, begins_at}
use Rattle.std.proofs.lemmas.List.{get_or_default}
use Rattle.dpl_groups.specs.declared.walk.Walk.{Walk}
use Rattle.dpl_groups.proofs.Views.{left_size, left_few, read_path, path_deep}
use Rattle.dpl_groups.proofs.Reach.{set_same, set_other}
use Rattle.dpl_groups.proofs.Walks.{open_new, top, start_low, opened_kept}
use Rattle.dpl_groups.proofs.Steps.{merged_none, merged_kept, looked_kept, popped_kept}
use Rattle.dpl_groups.proofs.Closing.{shut_new, closed_kept}

pub on_both : {A E P Q R : Type 0} (r : Result A E) → (P → Q → R) → OnOk r P → OnOk r Q → OnOk r R
on_both (Ok a) f p q = f p q
on_both (Err e) f p q = tt

pub look_edge : (g : Graph) (x : ℕ) (list : List ℕ) (left : ℕ) → list ≡ next_of g x → 0 < left
    → left ≤ length list → IsEdge g x (get_or list (length list - left) 0)
look_edge g x list left e more few =
    let long : length list ≡ length (next_of g x) = ap (λ (xs : List ℕ). length xs) e in record {
      k = length list - left;
      within = omega arith;
      there = ap (λ (xs : List ℕ). get_or xs (length list - left) 0) (sym e);
    }

pub same_next : (g : Graph) (x : ℕ) (list : List ℕ) (left l : ℕ) → list ≡ next_of g x → left ≡ l
    → get_or list (length list - left) 0 ≡ get_or (next_of g x) (length (next_of g x) - l) 0
same_next g x list left l e el = rw (e, el) refl

pub top_node : (g : Graph) (v : View) (x : ℕ) → IsWalk g v → IsTopNode v x → x < length g
top_node g v x I t = let b : 0 < v.height = t.busy in subst (λ (n : ℕ). n < length g) t.node
    (I.node (v.stack (v.height - 1)) (I.placed (v.height - 1) (omega arith)))

pub node_of_top : (v : View) (i x : ℕ) → IsTop v i → v.path i ≡ x → IsTopNode v x
node_of_top v i x t e = record { busy = t.busy; node = ap v.path t.top ∙ e }

-- the node at the top of the stack, as the lists of the walk give it
pub record IsRead (w : Walk) (place n : ℕ) : Type 0 where
  pub node : (view w).path place ≡ n
  pub top : IsTopNode (view w) n
  pub within : n < length w.left.items

-- what was read at the top of the path is that node
pub top_read : (g : Graph) (w : Walk) (place n d : ℕ) → IsWalk g (view w) → IsTop (view w) place
    → n ≡ get_or w.path.items place d → IsRead w place n
top_read g w place n d walk top e =
    let node = read_path w place n d (path_deep g w place walk top) e in
    let at = node_of_top (view w) place n top node in
    let here = top_node g (view w) n walk at in
    let size = left_size g w walk in
    record { node = node; top = at; within = omega (arith, here, size) }

pub close_seen : (v w : View) (i : ℕ) → w ≡ closed v i → StaySeen v w
close_seen v w i e = subst (StaySeen v) (sym e) (λ x n m. n (shut_new i v.count (v.mark x) m))

pub pop_seen : (v w : View) → w ≡ popped v → StaySeen v w
pop_seen v w e = subst (StaySeen v) (sym e) (λ x n m. n m)

pub lower : (work work' : ℕ) (v w : View) → 0 < v.height → w.height ≡ v.height - 1 → work' + v.height ≡ work + w.height → work' < work
lower work work' v w b e s = omega (arith, b, e, s)

module _ (g : Graph) (v : View) (I : IsWalk g v) (x y : ℕ) (t : IsTopNode v x) (hy : y < length g) (edge : IsEdge g x y) where
  abbrev i : ℕ
  i = top g v I

  deep : i < v.depth
  deep = I.placed (v.height - 1) (let b : 0 < v.height = t.busy in omega arith)

  here : v.mark x ≡ Open i
  here = subst (λ (n : ℕ). v.mark n ≡ Open i) t.node (I.here i deep)

  top_edge : IsEdge g (v.path i) y
  top_edge = subst (λ (n : ℕ). IsEdge g n y) (sym t.node) edge

  pub settle_new : (w : View) → v.mark y ≡ New → w ≡ opened v y → Settles g v w x y
  settle_new w new e = subst (λ (u : View). Settles g v u x y) (sym e) (record {
    walk = opened_kept g v I y hy new (inr (record { some = t.busy; edge = top_edge }));
    at = i;
    still = set_other v.mark y x (Open v.depth) (λ s. open_new i (sym here ∙ (ap v.mark s ∙ new))) ∙ here;
    settled = inr (record { at = v.depth; here = set_same v.mark y y (Open v.depth) refl; later = λ u hu lo hi. let d : i < v.depth = deep in omega arith });
    left = refl;
    size = refl;
    height = omega arith;
    seen = λ z n m. elim (cases_eq z y) [
      | inl s ↦ open_new v.depth (sym (set_same v.mark y z (Open v.depth) s) ∙ m)
      | inr s ↦ n (sym (set_other v.mark y z (Open v.depth) s) ∙ m)
    ];
  })

  pub settle_open : (w : View) (j : ℕ) → v.mark y ≡ Open j → AreMerged v w j → Settles g v w x y
  settle_open w j open_at m =
      let jd : j < v.depth = I.onpath y j open_at in
      let edge_j : IsEdge g (v.path i) (v.path j) = subst (IsEdge g (v.path i)) (sym (I.itself y j open_at)) top_edge in
      subst (λ (u : View). Settles g v u x y) (sym m.same) (record {
        walk = merged_kept g v I j m.m jd t.busy edge_j m.merge;
        at = i;
        still = here;
        settled = inr (record { at = j; here = open_at; later = merged_none g v I j m.m jd t.busy edge_j m.merge i });
        left = refl;
        size = refl;
        height = omega arith;
        seen = λ z n. n;
      })

  pub settle_done : (l : ℕ) → v.mark y ≡ Done l → Settles g v v x y
  settle_done l done = record {
    walk = I;
    at = i;
    still = here;
    settled = inl (let n : l < v.count = I.numbered y l done in record { label = l; done = done; low = omega arith });
    left = refl;
    size = refl;
    height = omega arith;
    seen = λ z n. n;
  }

-- the settled edge was the next one
pub look_kept : (g : Graph) (v v' w : View) (x y : ℕ) → Settles g v v' x y → 0 < v.left x
    → y ≡ get_or (next_of g x) (length (next_of g x) - v.left x) 0 → w ≡ looked v' x → IsWalk g w
look_kept g v v' w x y s more ey ew =
    let same : v'.left x ≡ v.left x = ap (λ (f : ℕ → ℕ). f x) s.left in
    let seen : IsSettled v' s.at (get_or (next_of g x) (length (next_of g x) - v'.left x) 0) = rw same (subst (IsSettled v' s.at) ey s.settled) in
    subst (IsWalk g) (sym ew) (looked_kept g v' s.walk x s.at s.still (omega arith) seen)

pub look_seen : (g : Graph) (v v' w : View) (x y : ℕ) → Settles g v v' x y → w ≡ looked v' x → StaySeen v w
look_seen g v v' w x y s ew = subst (StaySeen v) (sym ew) s.seen

begins_facts : (v : View) (i : ℕ) → begins_at v i ≡ true → (0 < v.tops) × (v.start (v.tops - 1) ≡ i)
begins_facts v i h = (grind (arith, common_steps), grind (arith, common_steps))

begins_not : (v : View) (i : ℕ) → begins_at v i ≡ false → 0 < v.tops → v.start (v.tops - 1) ≢ i
begins_not v i h some e = grind (arith, common_steps)

module _ (g : Graph) (v : View) (I : IsWalk g v) (i x : ℕ) (t : IsTop v i) (node : v.path i ≡ x) (none : v.left x ≡ 0) where
  none_top : v.left (v.path (top g v I)) ≡ 0
  none_top = ap (λ (n : ℕ). v.left (v.path n)) t.top ∙ (ap v.left node ∙ none)

  pub close_kept : (w : View) → begins_at v i ≡ true → w ≡ closed v i → IsWalk g w
  close_kept w b e =
      let f = begins_facts v i b in
      let k : IsWalk g (closed v (top g v I)) = closed_kept g v I t.busy none_top f.0 (f.1 ∙ sym t.top) in
      subst (IsWalk g) (sym e) (subst (λ (n : ℕ). IsWalk g (closed v n)) t.top k)

  pub pop_kept : (w : View) → begins_at v i ≡ false → w ≡ popped v → IsWalk g w
  pop_kept w b e = subst (IsWalk g) (sym e) (popped_kept g v I t.busy none_top inner)
    where
      inner : (u : ℕ) → u < v.tops → v.start u ≢ top g v I
      inner u h s =
          let le : u ≤ v.tops - 1 = omega arith in
          let q : v.start u ≡ i = s ∙ t.top in
          elim (eq-or-lt_of_le le) [
            | inl e ↦ begins_not v i b (omega arith) (ap v.start (sym e) ∙ q)
            | inr l ↦
                let r : v.start u < v.start (v.tops - 1) = I.rising u (v.tops - 1) l (omega arith) in
                let lo : v.start (v.tops - 1) ≤ top g v I = start_low g v I (v.tops - 1) (omega arith) in omega arith
          ]

-- what the next edge of the top of the stack is read from
pub record Looking (g : Graph) (w : Walk) (x : ℕ) (list : List ℕ) (left : ℕ) : Type 0 where
  pub node : x < length w.left.items
  pub same : list ≡ next_of g x
  pub count : left ≡ get_or w.left.items x 0
  pub more : 0 < left
  pub few : left ≤ length list

pub looking : (g : Graph) (w : Walk) (x : ℕ) (list entry : List ℕ) (left : ℕ) → IsWalk g (view w)
    → IsTopNode (view w) x → 0 < get_or w.left.items x 0 → list ≡ entry → entry ≡ get_or g x entry
    → left ≡ get_or w.left.items x left → Looking g w x list left
looking g w x list entry left I t more el ee eq =
    let size : length w.left.items ≡ length g = left_size g w I in
    let here : x < length g = top_node g (view w) x I t in
    let node : x < length w.left.items = omega arith in
    let same : list ≡ next_of g x = el ∙ (ee ∙ get_or_default g x entry [] here) in
    let count : left ≡ get_or w.left.items x 0 = eq ∙ get_or_default w.left.items x left 0 node in
    let long : length list ≡ length (next_of g x) = ap (λ (xs : List ℕ). length xs) same in
    let few : get_or w.left.items x 0 ≤ length (next_of g x) = left_few g w x I in
    record { node = node; same = same; count = count; more = omega arith; few = omega arith }
