-- The rectangles of a wire, one after another.
use Rattle.std.proofs.Common.{◌≡◌, ℕ, List, [], ◌∷◌, ◌++◌, map, ◌∙◌, append_assoc}
use Rattle.dpl_rules.specs.declared.command.Spot.{Spot}
use Rattle.dpl_rules.specs.declared.figures.Extent.{Extent}
use Rattle.dpl_rules.specs.Figures.{leg, legs_from}
use Rattle.dpl_calls.specs.Parts.{Part}

pub next_leg : (make : Extent → Part) (w : ℕ) (before now all : List Part) (r : Part) (p q : Spot) (qs rest : List Spot)
    → rest ≡ q ∷ qs → r ≡ make (leg w p q) → now ≡ before ++ r ∷ []
    → before ++ map make (legs_from w p rest) ≡ all → now ++ map make (legs_from w q qs) ≡ all
next_leg make w before now all r p q qs rest e er en h =
    let h' : before ++ map make (legs_from w p (q ∷ qs)) ≡ all = rw e at h in
    rw (en, er) (append_assoc before (make (leg w p q) ∷ []) (map make (legs_from w q qs)) ∙ h')
