-- A Loop is a call from which a path of calls leads back.
use Rattle.std.proofs.Common.{◌≡◌, ℕ, Bool, true, false, cond, ◌==◌, List, [], ◌∷◌, ◌++◌, Option, None, Some, Result, Ok, Err, refl, ◌∙◌, ap}
use Rattle.dpl_rules.specs.declared.command.Command.{Command}
use Rattle.dpl_rules.specs.declared.command.Command.TheVariants.{Layer, Start, Finish}
use Rattle.dpl_rules.specs.declared.scope.Scope.{Scope}
use Rattle.dpl_rules.specs.declared.what.What.{What}
use Rattle.dpl_rules.specs.Rules.{at_first, after, with_start}
use Rattle.dpl_calls.specs.Parts.{is_same, parts_of, parts_from}
use Rattle.dpl_calls.specs.Put.{where_true}
use Rattle.dpl_calls.specs.Loops.{LoopsLeadBack, numbers_from}
use Rattle.dpl_calls.specs.Places.{place_among, one_further}
use Rattle.dpl_calls.proofs.LoopPaths.{looped_back, back_looped}

one_none : (o : Option ℕ) → one_further o ≡ None → o ≡ None
one_none None h = refl
one_none (Some i) h = cc

-- a number that is not among more is not among fewer
not_before : (n : ℕ) (ks ms : List ℕ) → place_among n (ks ++ ms) ≡ None → place_among n ks ≡ None
not_before n [] ms h = refl
not_before n (k ∷ ks) ms h = by (n == k) h (λ q. not_before n ks ms q)
  where
    by : (b : Bool) → cond b (Some 0) (one_further (place_among n (ks ++ ms))) ≡ None →
        (place_among n (ks ++ ms) ≡ None → place_among n ks ≡ None) → cond b (Some 0) (one_further (place_among n ks)) ≡ None
    by true f ih = cc
    by false f ih = ap one_further (ih (one_none (place_among n (ks ++ ms)) f))

-- the number at the end is there
not_last : (n m : ℕ) (ks : List ℕ) → place_among n (ks ++ m ∷ []) ≡ None → (n == m) ≡ false
not_last n m [] h = by (n == m) h
  where
    by : (b : Bool) → cond b (Some 0) (one_further (place_among n [])) ≡ None → b ≡ false
    by true f = cc
    by false f = refl
not_last n m (k ∷ ks) h = by (n == k) h (λ q. not_last n m ks q)
  where
    by : (b : Bool) → cond b (Some 0) (one_further (place_among n (ks ++ m ∷ []))) ≡ None →
        (place_among n (ks ++ m ∷ []) ≡ None → (n == m) ≡ false) → (n == m) ≡ false
    by true f ih = cc
    by false f ih = ih (one_none (place_among n (ks ++ m ∷ [])) f)

not_seen : (n : ℕ) (seen : List ℕ) (commands : List (Result Command What)) → place_among n (numbers_from seen commands) ≡ None → place_among n seen ≡ None
not_seen n seen [] h = h
not_seen n seen (Err w ∷ rest) h = not_seen n seen rest h
not_seen n seen (Ok c ∷ rest) h = by c (not_seen n (with_start c seen) rest h)
  where
    by : (c : Command) → place_among n (with_start c seen) ≡ None → place_among n seen ≡ None
    by (Start m scale) q = not_before n seen (m ∷ []) q
    by c q = q

-- the definition that was begun is not this one
abbrev NotIn : ℕ → Option ℕ → Type 0
NotIn n o = is_same (Some n) o ≡ false

-- what no definition has as its number has no parts
none_there : (chosen : List ℕ) (n : ℕ) (s : Scope) (seen : List ℕ) (commands : List (Result Command What))
    → NotIn n s.definition → place_among n (numbers_from seen commands) ≡ None
    → parts_from chosen s commands (Some n) ≡ []
none_there chosen n s seen [] out h = refl
none_there chosen n s seen (Err w ∷ rest) out h = none_there chosen n s seen rest out h
none_there chosen n s seen (Ok c ∷ rest) out h =
    ap (λ (b : Bool). where_true b (parts_of s c) ++ parts_from chosen (after chosen s c) rest (Some n)) out
    ∙ none_there chosen n (after chosen s c) (with_start c seen) rest (by c h) h
  where
    by : (c : Command) → place_among n (numbers_from (with_start c seen) rest) ≡ None → NotIn n (after chosen s c).definition
    by (Start m scale) q = not_last n m seen (not_seen n (seen ++ m ∷ []) rest q)
    by Finish q = refl
    by (Layer name) q = out
    by c q = out

pub loops_lead_back : LoopsLeadBack
loops_lead_back chosen commands s = (
  looped_back (parts_from chosen at_first commands) (numbers_from [] commands) (λ n h. none_there chosen n at_first [] commands refl h) s,
  back_looped (parts_from chosen at_first commands) (numbers_from [] commands) (λ n h. none_there chosen n at_first [] commands refl h) s,
)
