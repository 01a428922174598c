-- The turns of an unfolding.
use Rattle.std.proofs.Common.{◌≡◌, ℕ, suc, ◌≤◌, ◌<◌, ◌+◌, ◌*◌, ◌^◌, List, [], ◌∷◌, ◌++◌, length, map, None, Some}
use Rattle.std.proofs.Common.{sum_by, refl, sym, ◌∙◌, ap, subst, arith, append_assoc, All, get_or}
use Rattle.std.proofs.lemmas.List.{append-nil, nil_from_length, length_push, get_or_append_left, get_or_push}
use Rattle.std.proofs.lemmas.List.Sums.{sum_by_push, sum_by-append, sum_by-cons}
use Rattle.std.proofs.lemmas.List.Elements.{All-append, All-head, All-tail, All-push}
use mathlib.Core.Path.{fun_ext}
use Rattle.dpl_calls.specs.declared.figure.Corner.{Corner}
use Rattle.dpl_calls.specs.declared.figure.Figure.{Figure}
use Rattle.dpl_calls.specs.declared.placement.Placement.{Placement}
use Rattle.dpl_calls.specs.declared.entry.Entry.{Entry}
use Rattle.dpl_calls.specs.declared.entry.Entry.TheVariants as entry
use Rattle.dpl_calls.specs.declared.unfolding.Frame.{Frame}
use Rattle.dpl_calls.specs.Parts.{Bodies}
use Rattle.dpl_calls.specs.Parts.Part.{Drawn, Called}
use Rattle.dpl_calls.specs.Unfolding.{placed, part_figures, figures_of}
use Rattle.dpl_calls.specs.Totals.{part_total, total_of, own_calls}
use Rattle.dpl_calls.specs.Placement.{apply, IsNear}
use Rattle.dpl_calls.specs.Entries.{IsEntryNear}
use Rattle.dpl_calls.specs.Table.{entry_part}
use Rattle.dpl_calls.specs.Kept.{IsFigureNear, IsPartKept}
use Rattle.dpl_calls.specs.Stack.{left, frame_figures, pending, part_turns, turns_of, frame_turns, turns_left, frame_calls, calls_left, IsFrameNear, Goes}
use Rattle.dpl_calls.proofs.Pending.{pending_push, pending_append, called_figures, called_calls, called_turns}

all_popped : {X : Type 0} (P : X → Type 0) (xs : List X) (x : X) → All P (xs ++ x ∷ []) → All P xs × P x
all_popped P xs x h =
    let long : length (xs ++ x ∷ []) ≡ length xs + 1 = length_push xs x in (
      λ k d lt. subst P (get_or_append_left xs (x ∷ []) d k lt) (h k d (omega arith)),
      subst P (get_or_push xs x x (length xs) refl) (h (length xs) x (omega arith)),
    )

near_more : (n m : ℕ) (f : Frame) → n ≤ m → IsFrameNear n f → IsFrameNear m f
near_more n m f le h = record { place = record { x = omega (arith, h.place.x); y = omega (arith, h.place.y) }; entries = h.entries; parts = h.parts }

all_near_more : (n m : ℕ) (fs : List Frame) → n ≤ m → All (IsFrameNear n) fs → All (IsFrameNear m) fs
all_near_more n m fs le h k d lt = near_more n m (get_or fs k d) le (h k d lt)

-- the last frame gives way to others, with these figures and so many calls done
goes_on : (b : Bodies) (all : List Figure) (t : ℕ) (s : List Figure) (fs : List Frame) (f : Frame) (n : ℕ) (xs : List Figure) (gs : List Frame) (k : ℕ)
    → frame_figures b f ≡ xs ++ pending b gs → frame_calls b f ≡ k + calls_left b gs
    → All (IsFrameNear (n + k)) gs → Goes b all t s (fs ++ f ∷ []) n
    → Goes b all t (s ++ xs) (fs ++ gs) (n + k)
goes_on b all t s fs f n xs gs k es ec near h =
    let new : pending b (fs ++ gs) ≡ pending b gs ++ pending b fs = pending_append b fs gs in
    let old : pending b (fs ++ f ∷ []) ≡ (xs ++ pending b gs) ++ pending b fs = pending_push b fs f ∙ ap (λ (x : List Figure). x ++ pending b fs) es in
    let regrouped : (s ++ xs) ++ (pending b gs ++ pending b fs) ≡ s ++ ((xs ++ pending b gs) ++ pending b fs) = grind (arith, append_assoc) in
    let calls : calls_left b (fs ++ f ∷ []) ≡ calls_left b fs + frame_calls b f = sum_by_push (frame_calls b) fs f in
    let others : calls_left b (fs ++ gs) ≡ calls_left b fs + calls_left b gs = sum_by-append (frame_calls b) fs gs in record {
      figures_come = (ap (λ (x : List Figure). (s ++ xs) ++ x) new ∙ regrouped) ∙ (ap (λ (x : List Figure). s ++ x) (sym old) ∙ h.figures_come);
      calls_come = omega (arith, h.calls_come);
      near = All-append (IsFrameNear (n + k)) fs gs (all_near_more n (n + k) fs (omega arith) (all_popped (IsFrameNear n) fs f h.near).0) near;
    }

one_near : (n : ℕ) (g : Frame) → IsFrameNear n g → All (IsFrameNear n) (g ∷ [])
one_near n g h = All-push (IsFrameNear n) [] g (λ k d lt. absurd (omega arith)) h

-- the last frame of a stack is near
last_near : (b : Bodies) (all : List Figure) (t : ℕ) (s : List Figure) (fs : List Frame) (f : Frame) (n : ℕ) → Goes b all t s (fs ++ f ∷ []) n → IsFrameNear n f
last_near b all t s fs f n h = (all_popped (IsFrameNear n) fs f h.near).1

goes_empty : (b : Bodies) (all : List Figure) (t : ℕ) (s : List Figure) (fs : List Frame) (f : Frame) (n : ℕ)
    → f.rest.now ≡ [] → Goes b all t s (fs ++ f ∷ []) n → Goes b all t s fs n
goes_empty b all t s fs f n e h =
    let g : Goes b all t (s ++ []) (fs ++ []) (n + 0) = goes_on b all t s fs f n [] [] 0 (rw e refl) (rw e refl) (λ k d lt. absurd (omega arith)) h in
    let z : n + 0 ≡ n = omega arith in
    rw (append-nil s, append-nil fs, z) at g

-- the last frame f gives its first entry, and g has the others
module _ (b : Bodies) (f g : Frame) (e : Entry) (split : f.rest.now ≡ e ∷ g.rest.now) (place : g.place ≡ f.place) (below : g.below ≡ f.below) where
  rest_near : (n m : ℕ) → n ≤ m → IsFrameNear n f → IsFrameNear m g
  rest_near n m le h =
      let parts : left f ≡ entry_part e ∷ left g = ap (λ (es : List Entry). map entry_part es) split in record {
        place = subst (IsNear (m * 2 ^ 107)) (sym place) (near_more n m f le h).place;
        entries = All-tail IsEntryNear e g.rest.now (subst (All IsEntryNear) split h.entries);
        parts = All-tail IsPartKept (entry_part e) (left g) (subst (All IsPartKept) parts h.parts);
      }

  front_figures : frame_figures b f ≡ part_figures b (figures_of f.below b) (apply f.place) (entry_part e) ++ frame_figures b g
  front_figures = rw (split, place, below) refl

  front_calls : frame_calls b f ≡ part_total own_calls b (total_of own_calls f.below b) (entry_part e) + frame_calls b g
  front_calls = rw (split, below) (sum_by-cons (part_total own_calls b (total_of own_calls f.below b)) (entry_part e) (left g))

  front_turns : frame_turns b f ≡ 1 + (part_turns b (turns_of f.below b) (entry_part e) + sum_by (part_turns b (turns_of g.below b)) (left g))
  front_turns = rw (split, below) (ap (λ (n : ℕ). 1 + n) (sum_by-cons (part_turns b (turns_of f.below b)) (entry_part e) (left g)))

  module _ (all : List Figure) (t : ℕ) (s : List Figure) (fs : List Frame) (n : ℕ) (h : Goes b all t s (fs ++ f ∷ []) n) where
    rest_after : (m : ℕ) → n ≤ m → IsFrameNear m g
    rest_after m le = rest_near n m le (last_near b all t s fs f n h)

    goes_figure : (figure x : Figure) → e ≡ entry.Drawn figure → x ≡ placed (apply f.place) figure → Goes b all t (s ++ x ∷ []) (fs ++ g ∷ []) n
    goes_figure figure x ee ex =
        let z : n + 0 ≡ n = omega arith in
        let figures : frame_figures b f ≡ (x ∷ []) ++ frame_figures b g = front_figures ∙ rw (ee, ex) refl in
        let calls : frame_calls b f ≡ 0 + frame_calls b g = front_calls ∙ rw ee refl in
        let r : Goes b all t (s ++ x ∷ []) (fs ++ g ∷ []) (n + 0) =
        goes_on b all t s fs f n (x ∷ []) (g ∷ []) 0 figures (omega (arith, calls))
        (one_near (n + 0) g (rest_after (n + 0) (omega arith))) h in
        rw z at r

    goes_flat : (at m : ℕ) (p : Placement) → e ≡ entry.Called at m p → f.below ≡ 0 → Goes b all t s (fs ++ g ∷ []) (n + 1)
    goes_flat at m p ee z =
        let figures : frame_figures b f ≡ [] ++ frame_figures b g = front_figures ∙ rw (ee, z) refl in
        let calls : frame_calls b f ≡ 1 + frame_calls b g = front_calls ∙ rw (ee, z) refl in
        let r : Goes b all t (s ++ []) (fs ++ g ∷ []) (n + 1) =
        goes_on b all t s fs f n [] (g ∷ []) 1 figures (omega (arith, calls))
        (one_near (n + 1) g (rest_after (n + 1) (omega arith))) h in
        rw (append-nil s) at r

    goes_deep : (c : Frame) (at m : ℕ) (p : Placement) → e ≡ entry.Called at m p → f.below ≡ suc c.below →
        left c ≡ b (Some m) → ((d : Corner) → apply c.place d ≡ apply f.place (apply p d)) → IsFrameNear (n + 1) c →
        Goes b all t s ((fs ++ g ∷ []) ++ c ∷ []) (n + 1)
    goes_deep c at m p ee z ec inner near =
        let inside : part_figures b (figures_of f.below b) (apply f.place) (Called m (apply p)) ≡ frame_figures b c =
        called_figures b f.below c.below m (apply p) (left c) z ec (apply f.place) (apply c.place) inner in
        let counted : part_total own_calls b (total_of own_calls f.below b) (Called m (apply p)) ≡ 1 + frame_calls b c =
        called_calls b f.below c.below m (apply p) (left c) z ec in
        let gs : List Frame = g ∷ c ∷ [] in
        let figures : frame_figures b f ≡ [] ++ pending b gs = front_figures ∙ rw ee (ap (λ (x : List Figure). x ++ frame_figures b g) inside) in
        let calls : frame_calls b f ≡ part_total own_calls b (total_of own_calls f.below b) (Called m (apply p)) + frame_calls b g = front_calls ∙ rw ee refl in
        let r : Goes b all t (s ++ []) (fs ++ gs) (n + 1) = goes_on b all t s fs f n [] gs 1 figures
        (omega (arith, calls, counted))
        (All-push (IsFrameNear (n + 1)) (g ∷ []) c (one_near (n + 1) g (rest_after (n + 1) (omega arith))) near)
        h in
        rw (append-nil s, ← append_assoc fs (g ∷ []) (c ∷ [])) at r

  deep_turns : (fs : List Frame) (c : Frame) (at m : ℕ) (p : Placement) → e ≡ entry.Called at m p →
      f.below ≡ suc c.below → left c ≡ b (Some m) → turns_left b ((fs ++ g ∷ []) ++ c ∷ []) < turns_left b
      (fs ++ f ∷ [])
  deep_turns fs c at m p ee z ec =
      let front : frame_turns b f ≡ 1 + (part_turns b (turns_of f.below b) (Called m (apply p)) + sum_by
      (part_turns b (turns_of g.below b)) (left g)) = front_turns ∙ rw ee refl in
      omega (
        arith,
        sum_by_push (frame_turns b) fs f,
        sum_by_push (frame_turns b) fs g,
        sum_by_push (frame_turns b) (fs ++ g ∷ []) c,
        front,
        called_turns b f.below c.below m (apply p) (left c) z ec,
      )

  -- a call in the last frame
  called_near : (n at m : ℕ) (p : Placement) → e ≡ entry.Called at m p → IsFrameNear n f → IsNear (2 ^ 107) p
  called_near n at m p ee h =
      let first : IsEntryNear e = All-head IsEntryNear e g.rest.now (subst (All IsEntryNear) split h.entries) in
      subst IsEntryNear ee first

  -- a figure in the last frame
  drawn_near : (n : ℕ) (figure : Figure) → e ≡ entry.Drawn figure → IsFrameNear n f → IsFigureNear figure
  drawn_near n figure ee h =
      let parts : left f ≡ entry_part e ∷ left g = ap (λ (es : List Entry). map entry_part es) split in
      let first : IsPartKept (entry_part e) = All-head IsPartKept (entry_part e) (left g) (subst (All IsPartKept) parts h.parts) in
      let kept : IsPartKept (Drawn figure) = subst (λ (x : Entry). IsPartKept (entry_part x)) ee first in
      kept.0

pub goes_start : (b : Bodies) (depth : ℕ) (f : Frame) (s : List Figure) (fs : List Frame) → s ≡ []
    → fs ≡ f ∷ [] → depth ≡ suc f.below → left f ≡ b None → ((c : Corner) → apply f.place c ≡ c)
    → IsNear 0 f.place → All IsEntryNear f.rest.now → All IsPartKept (b None)
    → Goes b (figures_of depth b (λ c. c) (b None)) (total_of own_calls depth b (b None)) s fs 0
goes_start b depth f s fs es efs ed er place near entries parts =
    let same : apply f.place ≡ (λ c. c) = fun_ext place in
    let zero_near : IsNear (0 * 2 ^ 107) f.place = record { x = omega (arith, near.x); y = omega (arith, near.y) } in record {
      figures_come = rw (es, efs, ed, er, same) refl;
      calls_come = rw (efs, ed, er) (omega arith);
      near = rw efs (one_near 0 f (record { place = zero_near; entries = entries; parts = rw er parts }));
    }

-- ---- the same at the names of a loop

pub empty_at : (b : Bodies) (all : List Figure) (t : ℕ) (s : List Figure) (fs stack : List Frame) (f : Frame) (n : ℕ)
    → stack ≡ fs ++ f ∷ [] → length f.rest.now ≡ 0 → Goes b all t s stack n → Goes b all t s fs n
empty_at b all t s fs stack f n ek e h = goes_empty b all t s fs f n (nil_from_length f.rest.now e) (rw ek at h)

module _ (b : Bodies) (all : List Figure) (t : ℕ) (s : List Figure) (fs stack : List Frame) (f g : Frame) (n : ℕ)
    (e : Entry) (ek : stack ≡ fs ++ f ∷ []) (split : f.rest.now ≡ e ∷ g.rest.now) (place : g.place ≡ f.place)
    (below : g.below ≡ f.below) (h : Goes b all t s stack n) where
  here : Goes b all t s (fs ++ f ∷ []) n
  here = rw ek at h

  pub figure_at : (s' : List Figure) (stack' : List Frame) (figure x : Figure) → stack' ≡ fs ++ g ∷ [] → s' ≡ s ++ x ∷
      [] → e ≡ entry.Drawn figure → x ≡ placed (apply f.place) figure → Goes b all t s' stack' n
  figure_at s' stack' figure x ek' es ee ex = rw (ek', es) (goes_figure b f g e split place below all t s fs n here figure x ee ex)

  pub flat_at : (stack' : List Frame) (at m : ℕ) (p : Placement) → stack' ≡ fs ++ g ∷ [] → e ≡ entry.Called at m p → f.below ≡ 0 → Goes b all t s stack' (n + 1)
  flat_at stack' at m p ek' ee z = rw ek' (goes_flat b f g e split place below all t s fs n here at m p ee z)

  pub deep_at : (between stack' : List Frame) (c : Frame) (at m : ℕ) (p : Placement) → between ≡ fs ++ g ∷ [] →
      stack' ≡ between ++ c ∷ [] → e ≡ entry.Called at m p → f.below ≡ suc c.below → left c ≡ b (Some m) →
      ((d : Corner) → apply c.place d ≡ apply f.place (apply p d)) → IsFrameNear (n + 1) c →
      Goes b all t s stack' (n + 1)
  deep_at between stack' c at m p eg ek' ee z ec inner near = rw (ek', eg) (goes_deep b f g e split place below all t s fs n here c at m p ee z ec inner near)

  pub deep_smaller_at : (between stack' : List Frame) (c : Frame) (at m : ℕ) (p : Placement) → between ≡ fs ++ g ∷ [] →
      stack' ≡ between ++ c ∷ [] → e ≡ entry.Called at m p → f.below ≡ suc c.below → left c ≡ b (Some m) →
      turns_left b stack' < turns_left b stack
  deep_smaller_at between stack' c at m p eg ek' ee z ec = rw (ek', eg, ek) (deep_turns b f g e split place below fs c at m p ee z ec)

  pub frame_near : IsFrameNear n f
  frame_near = last_near b all t s fs f n here

  pub called_at : (at m : ℕ) (p : Placement) → e ≡ entry.Called at m p → IsNear (2 ^ 107) p
  called_at at m p ee = called_near b f g e split place below n at m p ee frame_near

  pub drawn_at : (figure : Figure) → e ≡ entry.Drawn figure → IsFigureNear figure
  drawn_at figure ee = drawn_near b f g e split place below n figure ee frame_near

-- the frame of a call
pub child_near : (n : ℕ) (f c : Frame) (p : Placement)
    → ((a b : ℕ) → IsNear a f.place → IsNear b p → IsNear (a + b) c.place) → IsNear (2 ^ 107) p
    → IsFrameNear n f → All IsEntryNear c.rest.now → All IsPartKept (left c) → IsFrameNear (n + 1) c
child_near n f c p place near h entries parts =
    let q : IsNear (n * 2 ^ 107 + 2 ^ 107) c.place = place (n * 2 ^ 107) (2 ^ 107) h.place near in
    record { place = record { x = omega (arith, q.x); y = omega (arith, q.y) }; entries = entries; parts = parts }
