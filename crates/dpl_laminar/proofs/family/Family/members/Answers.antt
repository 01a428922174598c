use Rattle.std.proofs.Common.{arith, ◌≡◌, ◌<◌, ◌*◌, ℕ, ap, sym, ◌∙◌, subst, length, get_or, All, []}
use Rattle.std.proofs.lemmas.List.{get_or_default}
use Rattle.std.proofs.lemmas.List.{get_or_read}
use Rattle.dpl_laminar.specs.Families.{has}
use Rattle.dpl_laminar.specs.Storing.{Stored, sets_of}
use Rattle.dpl_laminar.proofs.Rows.{row_listed}
use Rattle.dpl_laminar.proofs.family.Family.members.Goals as goal

pub returns : goal.returns
returns c =
    let size : c.args.set < 2 * c.self.inside.size = omega (arith, c.requires, ap (λ (z : Stored). z.size) c.self.view_is) in
    let here : c.args.set < length c.self.inside.rows.items = omega (arith, size, c.self.invariant.rows_length) in
    let row = c.self.invariant.rows_are c.args.set in
    let read = c.as_slice.ensures ∙ get_or_read _ _ _ here c.index.ensures [] in
    rw (← c.self.view_is) (record {
      members = read ∙ row_listed _ _ row;
      held = λ m. ap (λ z. has z m) read;
      below = subst (All (λ m. m < c.self.inside.size)) (sym read) (λ i d h. omega (arith, get_or_default _ i d 0 h, row.below i h));
      family = c.self.invariant.family;
    })
