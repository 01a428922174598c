-- Steps of the plain programs.
use Rattle.std.proofs.Common.{arith, ◌≡◌, ◌≢◌, ℕ, suc, ◌<◌, ◌≤◌, ◌==◌, ◌+◌, ◌-◌, ◌/◌, sym, ap, ◌∙◌, Bool, true, false}
use Rattle.std.proofs.Common.{inl, inr, List, length, get_or, eq-eqb, ◌&&◌}
use Rattle.std.specs.Prelude.{if◌then◌else◌, slice_index}
use Rattle.std.proofs.lemmas.Bool.{cases_eq, ne_eqb, cond-true, cond-false}
use Rattle.dpl_cycle.specs.Cycles.{without, least}
use Rattle.dpl_cycle.specs.Among.{cycles_among, members}
use Rattle.dpl_cycle.specs.Names.{name_count}
use Rattle.dpl_cycle.proofs.AmongLemmas.{among_same, among_alone, among_more, members_in, members_out}
use Rattle.dpl_cycle.proofs.Shorter.{least_same}
use Rattle.dpl_cycle.proofs.Steps.{least_alone, least_top, least_under}
use Rattle.dpl_cycle.proofs.NameLemmas.{name_count_same}
use Rattle.dpl_sign.specs.declared.nets.Net.{Net}
use Rattle.dpl_sign.specs.Drawings.{is_in, next_in_face, dart_count, bare_count, face_count, face_of}
use Rattle.dpl_sign.specs.Parity.{passages_on_face}
use Rattle.dpl_cycle.proofs.SumLemmas.{count_on_same}

-- one number stands in the place of another below a place
pub record IsReplaced (before now : List ℕ) (old new place : ℕ) : Type 0 where
  pub lengths : length now ≡ length before
  pub done : (k : ℕ) → k < place → get_or now k 0 ≡ (if get_or before k 0 == old then new else get_or before k 0)
  pub left : (k : ℕ) → place ≤ k → get_or now k 0 ≡ get_or before k 0

-- the cycles through the darts from a place on are counted, and these darts taken out
pub record IsCounted (before now : List ℕ) (set : List Bool) (count place : ℕ) : Type 0 where
  pub lengths : length now ≡ length before
  pub counted : count + cycles_among (slice_index now) (members (λ d. is_in set (d / 2)) place) ≡ cycles_among
      (slice_index before) (members (λ d. is_in set (d / 2)) (length before))
  pub bound : count + place ≤ length before

-- a number below the darts counted
last : (n : ℕ) → 0 < n → n ≡ suc (n - 1)
last n h = omega arith

pub count_alone : (before now next : List ℕ) (set : List Bool) (count place : ℕ)
    → IsCounted before now set count place → 0 < place → length next ≡ length now
    → ((x : ℕ) → x < length next → get_or next x 0 ≡ without (place - 1) (slice_index now) x)
    → is_in set ((place - 1) / 2) ≡ true → get_or now (place - 1) 0 ≡ place - 1
    → IsCounted before next set (count + 1) (place - 1)
count_alone before now next set count place c h l w inside alone =
    let p : ℕ → Bool = λ d. is_in set (d / 2) in
    let k = place - 1 in
    let e : place ≡ suc k = last place h in
    let one : cycles_among (slice_index now) (members p place) ≡ suc (cycles_among (without k (slice_index now)) (members p k)) =
    ap (λ n. cycles_among (slice_index now) (members p n)) e ∙
    ap (cycles_among (slice_index now)) (members_in p k inside) ∙
    among_alone (slice_index now) k (members p k) alone in
    let same : cycles_among (slice_index next) (members p k) ≡ cycles_among (without k (slice_index now)) (members p k) =
    among_same k p _ _ (λ x q. w x (omega (arith, l, c.lengths, c.bound))) in
    record { lengths = l ∙ c.lengths; counted = omega (arith, c.counted, one, same); bound = omega (arith, c.bound) }

pub count_more : (before now next : List ℕ) (set : List Bool) (count place : ℕ)
    → IsCounted before now set count place → 0 < place → length next ≡ length now
    → ((x : ℕ) → x < length next → get_or next x 0 ≡ without (place - 1) (slice_index now) x)
    → is_in set ((place - 1) / 2) ≡ true → get_or now (place - 1) 0 ≢ place - 1
    → IsCounted before next set count (place - 1)
count_more before now next set count place c h l w inside more =
    let p : ℕ → Bool = λ d. is_in set (d / 2) in
    let k = place - 1 in
    let e : place ≡ suc k = last place h in
    let one : cycles_among (slice_index now) (members p place) ≡ cycles_among (without k (slice_index now)) (members p k) =
    ap (λ n. cycles_among (slice_index now) (members p n)) e ∙
    ap (cycles_among (slice_index now)) (members_in p k inside) ∙ among_more (slice_index now) k (members p k) more
    in
    let same : cycles_among (slice_index next) (members p k) ≡ cycles_among (without k (slice_index now)) (members p k) =
    among_same k p _ _ (λ x q. w x (omega (arith, l, c.lengths, c.bound))) in
    record { lengths = l ∙ c.lengths; counted = omega (arith, c.counted, one, same); bound = omega (arith, c.bound) }

pub count_out : (before now : List ℕ) (set : List Bool) (count place : ℕ)
    → IsCounted before now set count place → 0 < place → is_in set ((place - 1) / 2) ≡ false
    → IsCounted before now set count (place - 1)
count_out before now set count place c h outside =
    let p : ℕ → Bool = λ d. is_in set (d / 2) in
    let k = place - 1 in
    let e : place ≡ suc k = last place h in
    let one : cycles_among (slice_index now) (members p place) ≡ cycles_among (slice_index now) (members p k) =
    ap (λ n. cycles_among (slice_index now) (members p n)) e ∙ ap (cycles_among (slice_index now)) (members_out p k outside) in
    record { lengths = c.lengths; counted = omega (arith, c.counted, one); bound = omega (arith, c.bound) }

pub count_named : (names items : List ℕ) (n r : ℕ) (f : ℕ → ℕ) → names ≡ items → length items ≡ n
    → ((k : ℕ) → k < length items → get_or items k 0 ≡ f k)
    → r ≡ name_count (slice_index names) (length names) → r ≡ name_count f n
count_named names items n r f e l each h =
    h ∙ ap (λ (xs : List ℕ). name_count (slice_index xs) (length xs)) e ∙ ap (name_count (slice_index items)) l ∙
    name_count_same n _ _ (λ v k. each v (omega (arith, l)))

pub count_faces : (net : Net) (set : ℕ → Bool) (nexts items : List ℕ) (r b : ℕ) → nexts ≡ items
    → length items ≡ dart_count net → ((k : ℕ) → k < length items → get_or items k 0 ≡ next_in_face net set k)
    → r ≡ cycles_among (slice_index nexts) (members (λ d. set (d / 2)) (length nexts))
    → b ≡ bare_count net.graph set → r + b ≡ face_count net set
count_faces net set nexts items r b e l each h k =
    let p : ℕ → Bool = λ d. set (d / 2) in
    let one : r ≡ cycles_among (slice_index items) (members p (length items)) = h ∙
    ap (λ (xs : List ℕ). cycles_among (slice_index xs) (members p (length xs))) e in
    let two : r ≡ cycles_among (slice_index items) (members p (dart_count net)) = one ∙ ap (λ n. cycles_among (slice_index items) (members p n)) l in
    let three : r ≡ cycles_among (next_in_face net set) (members p (dart_count net)) = two ∙
    among_same (dart_count net) p _ _ (λ x q. each x (omega (arith, l))) in
    omega (arith, three, k)

-- the least number of a cycle is that of what is left below a place
pub record IsOnWay (before now : List ℕ) (number here place : ℕ) : Type 0 where
  pub lengths : length now ≡ length before
  pub bound : place ≤ length before
  pub same : least (slice_index now) place here ≡ least (slice_index before) (length before) number

pub way_more : (before now next : List ℕ) (number here place to : ℕ) → IsOnWay before now number here place
    → 0 < place → length next ≡ length now
    → ((x : ℕ) → x < length next → get_or next x 0 ≡ without (place - 1) (slice_index now) x)
    → to ≡ (if here == place - 1 then get_or now (place - 1) 0 else here)
    → ((here ≡ place - 1) → get_or now (place - 1) 0 ≢ place - 1) → IsOnWay before next number to (place - 1)
way_more before now next number here place to c h l w e more =
    let k = place - 1 in
    let f = slice_index now in
    let size : place ≡ suc k = last place h in
    let below : least (slice_index next) k to ≡ least (without k f) k to = least_same k _ _ (λ x q. w x (omega (arith, l, c.lengths, c.bound))) to in
    let there : least (without k f) k to ≡ least f (suc k) here = elim (cases_eq here k) [
      | inl a ↦ ap (least (without k f) k) (e ∙ cond-true (here == k) (get_or now k 0) here (eq-eqb here k a)) ∙
          sym (ap (least f (suc k)) a ∙ least_top f k (more a))
      | inr a ↦ ap (least (without k f) k) (e ∙ cond-false (here == k) (get_or now k 0) here (ne_eqb here k a)) ∙ sym (least_under f k here a)
    ] in
    record { lengths = l ∙ c.lengths; bound = omega (arith, c.bound); same = below ∙ there ∙ ap (λ n. least f n here) (sym size) ∙ c.same }

pub way_ends : (before now : List ℕ) (number here place : ℕ) → IsOnWay before now number here place
    → 0 < place → here ≡ place - 1 → get_or now (place - 1) 0 ≡ place - 1
    → place - 1 ≡ least (slice_index before) (length before) number
way_ends before now number here place c h a alone =
    let k = place - 1 in
    let f = slice_index now in
    sym (least_alone f k alone) ∙ ap (least f (suc k)) (sym a) ∙ ap (λ n. least f n here) (sym (last place h)) ∙ c.same

pub named_face : (net : Net) (set : ℕ → Bool) (nexts items : List ℕ) (dart r : ℕ) → nexts ≡ items
    → length items ≡ dart_count net → ((k : ℕ) → k < length items → get_or items k 0 ≡ next_in_face net set k)
    → r ≡ least (slice_index nexts) (length nexts) dart → r ≡ face_of net set dart
named_face net set nexts items dart r e l each h =
    h ∙ ap (λ (xs : List ℕ). least (slice_index xs) (length xs) dart) e ∙ ap (λ n. least (slice_index items) n dart) l ∙
    least_same (dart_count net) _ _ (λ x q. each x (omega (arith, l))) dart

pub passages_same : (net : Net) (set p q : ℕ → Bool) (f : ℕ)
    → ((e : ℕ) → e < length net.graph.edges → p e ≡ q e)
    → passages_on_face net set p f ≡ passages_on_face net set q f
passages_same net set p q f h = count_on_same (dart_count net) _ _ (λ d l. ap (λ b. set (d / 2) && (face_of net set d == f) && b) (h (d / 2) (omega arith)))
