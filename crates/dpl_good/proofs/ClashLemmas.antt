-- One broken clash more.
use Rattle.std.proofs.Common.{◌≡◌, Bool, true, false, List, [], ◌++◌, refl, ap, ◌∙◌, append_assoc}
use Rattle.dpl_report.specs.declared.marks.Broken.{Broken}
use Rattle.dpl_good.specs.Conditions.{where_broken}

where-append : (t : Bool) (b : Broken) (bs : List Broken) → where_broken t b [] ++ bs ≡ where_broken t b bs
where-append true b bs = refl
where-append false b bs = refl

-- a clash put at the end where it is broken, and what follows it
pub one_clash : (front : List Broken) (t : Bool) (b : Broken) (bs : List Broken) → (front ++ where_broken t b []) ++ bs ≡ front ++ where_broken t b bs
one_clash front t b bs = append_assoc front (where_broken t b []) bs ∙ ap (λ xs. front ++ xs) (where-append t b bs)
