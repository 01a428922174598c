-- The calls of a layout are those of its definitions.
use Rattle.std.proofs.Common.{◌≡◌, ℕ, ◌+◌, Bool, true, false, ◌||◌, ◌&&◌, ◌==◌, not, map, List, [], ◌∷◌, Some, Result, Ok, Err, refl}
use Rattle.std.specs.List.{list_any}
use Rattle.std.proofs.lemmas.List.Folds.{list_any-append}
use Rattle.dpl_rules.specs.declared.command.Command.{Command}
use Rattle.dpl_rules.specs.declared.command.Command.TheVariants.{Idle, Polygon, Box, Wire, Flash, Layer, Start, Finish, Delete, Call}
use Rattle.dpl_rules.specs.declared.command.Scale.{Scale}
use Rattle.dpl_rules.specs.declared.figures.Extent.{Extent}
use Rattle.dpl_rules.specs.declared.scope.Scope.{Scope}
use Rattle.dpl_rules.specs.declared.what.What.{What}
use Rattle.dpl_rules.specs.Rules.{after, is_chosen}
use Rattle.dpl_rules.specs.Figures.{box_extent, legs}
use Rattle.dpl_calls.specs.declared.table.CallSite.{CallSite}
use Rattle.dpl_calls.specs.Parts.{Part, is_same, parts_of, parts_from, rectangle, scaled_corner}
use Rattle.dpl_calls.specs.Put.{where_true}
use Rattle.dpl_calls.specs.Parts.Part.{Drawn}
use Rattle.dpl_calls.specs.declared.figure.Figure.TheVariants as figure
use Rattle.dpl_calls.specs.Loops.{names, sites_of, sites_from}

-- the call stands in d and names e
abbrev pub is_from : ℕ → ℕ → CallSite → Bool
is_from d e s = is_same (Some d) s.definition && (s.called == e)

no_names : (e : ℕ) (scale : Scale) (es : List Extent) → list_any (names e) (map (rectangle scale) es) ≡ false
no_names e scale [] = refl
no_names e scale (x ∷ xs) = no_names e scale xs

where_none : (e : ℕ) (b : Bool) (parts : List Part) → list_any (names e) parts ≡ false → list_any (names e) (where_true b parts) ≡ false
where_none e true parts h = h
where_none e false parts h = refl

none_in : (d e : ℕ) (s : Scope) (parts : List Part) → list_any (names e) parts ≡ false
    → list_any (names e) (where_true (is_same (Some d) s.definition) parts) ≡ false
none_in d e s parts h = where_none e (is_same (Some d) s.definition) parts h

one_site : (t q : Bool) (e : ℕ) (parts : List Part) → list_any (names e) parts ≡ (q || false) → list_any (names e) (where_true t parts) ≡ ((t && q) || false)
one_site true q e parts h = h
one_site false q e parts h = refl

command_calls : (d e : ℕ) (s : Scope) (at : ℕ) (c : Command)
    → list_any (names e) (where_true (is_same (Some d) s.definition) (parts_of s c)) ≡ list_any (is_from d e) (sites_of s at c)
command_calls d e s at Idle = none_in d e s [] refl
command_calls d e s at (Polygon path) = none_in d e s (parts_of s (Polygon path))
    (where_none e (is_chosen s.layer) (Drawn (figure.Polygon (map (scaled_corner s.scale) path)) ∷ []) refl)
command_calls d e s at (Box b) = none_in d e s (parts_of s (Box b))
    (where_none e (is_chosen s.layer && not (b.length == 0 || b.width == 0)) (rectangle s.scale (box_extent b) ∷ [])
    refl)
command_calls d e s at (Wire width path) = none_in d e s (parts_of s (Wire width path))
    (where_none e (is_chosen s.layer && not (width == 0)) (map (rectangle s.scale) (legs width path))
    (no_names e s.scale (legs width path)))
command_calls d e s at (Flash w p) = none_in d e s [] refl
command_calls d e s at (Layer n) = none_in d e s [] refl
command_calls d e s at (Start n k) = none_in d e s [] refl
command_calls d e s at Finish = none_in d e s [] refl
command_calls d e s at (Delete n) = none_in d e s [] refl
command_calls d e s at (Call n ts) = one_site (is_same (Some d) s.definition) (n == e) e (parts_of s (Call n ts)) refl

-- definition d has a call of e exactly where one of the calls stands in d and names e
pub calls_are_sites : (chosen : List ℕ) (d e : ℕ) (s : Scope) (at : ℕ) (commands : List (Result Command What))
    → list_any (names e) (parts_from chosen s commands (Some d)) ≡ list_any (is_from d e) (sites_from chosen s at commands)
calls_are_sites chosen d e s at [] = refl
calls_are_sites chosen d e s at (Err w ∷ rest) = calls_are_sites chosen d e s (at + 1) rest
calls_are_sites chosen d e s at (Ok c ∷ rest) =
    rw (list_any-append (names e), list_any-append (is_from d e), command_calls d e s at c, calls_are_sites chosen d e (after chosen s c) (at + 1) rest) refl
