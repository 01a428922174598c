-- Frames on a stack.
use Rattle.std.proofs.Common.{◌≡◌, ℕ, suc, ◌+◌, List, [], ◌∷◌, ◌++◌, Some, sum_by, refl, sym, ◌∙◌, ap, append_assoc}
use Rattle.std.specs.List.{flat_map}
use Rattle.std.proofs.lemmas.List.{append-nil}
use mathlib.Core.Path.{fun_ext}
use Rattle.dpl_calls.specs.declared.figure.Corner.{Corner}
use Rattle.dpl_calls.specs.declared.figure.Figure.{Figure}
use Rattle.dpl_calls.specs.declared.unfolding.Frame.{Frame}
use Rattle.dpl_calls.specs.Parts.{Part, Bodies}
use Rattle.dpl_calls.specs.Parts.Part.{Called}
use Rattle.dpl_calls.specs.Unfolding.{part_figures, figures_of}
use Rattle.dpl_calls.specs.Totals.{part_total, total_of, own_calls}
use Rattle.dpl_calls.specs.Stack.{frame_figures, pending, part_turns, turns_of}

pub pending_push : (bodies : Bodies) (fs : List Frame) (f : Frame) → pending bodies (fs ++ f ∷ []) ≡ frame_figures bodies f ++ pending bodies fs
pending_push bodies [] f = sym (append-nil (frame_figures bodies f))
pending_push bodies (g ∷ fs) f = ap (λ (x : List Figure). x ++ frame_figures bodies g) (pending_push bodies fs f) ∙
    append_assoc (frame_figures bodies f) (pending bodies fs) (frame_figures bodies g)

pub pending_append : (bodies : Bodies) (fs gs : List Frame) → pending bodies (fs ++ gs) ≡ pending bodies gs ++ pending bodies fs
pending_append bodies [] gs = sym (append-nil (pending bodies gs))
pending_append bodies (f ∷ fs) gs = ap (λ (x : List Figure). x ++ frame_figures bodies f)
    (pending_append bodies fs gs) ∙ append_assoc (pending bodies gs) (pending bodies fs) (frame_figures bodies f)

-- a call is the frame that carries it out
module _ (bodies : Bodies) (below b n : ℕ) (moves : Corner → Corner) (parts : List Part) (deeper : below ≡ suc b) (body : parts ≡ bodies (Some n)) where
  pub called_figures : (place inner : Corner → Corner) → ((c : Corner) → inner c ≡ place (moves c)) →
      part_figures bodies (figures_of below bodies) place (Called n moves) ≡ flat_map
      (part_figures bodies (figures_of b bodies) inner) parts
  called_figures place inner h =
      let same : inner ≡ (λ c. place (moves c)) = fun_ext h in
      rw (deeper, body, same) refl

  pub called_calls : part_total own_calls bodies (total_of own_calls below bodies) (Called n moves) ≡ 1 + sum_by
      (part_total own_calls bodies (total_of own_calls b bodies)) parts
  called_calls = rw (deeper, body) refl

  pub called_turns : part_turns bodies (turns_of below bodies) (Called n moves) ≡ 1 + (1 + sum_by (part_turns bodies (turns_of b bodies)) parts)
  called_turns = rw (deeper, body) refl
