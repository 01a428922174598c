use Rattle.std.proofs.Common.{arith, rules, length-take, ap, sym, ◌≡◌, ℕ, ◌+◌, ◌-◌, length}
use Rattle.dpl_ext.proofs.HeldLemmas.{left_after, ended_after}
use Rattle.dpl_ext.proofs.mem_shelf.MemShelfSource.read.Goals as goal

pub returns-clause-bytes : goal.returns-clause-bytes
returns-clause-bytes c =
    let bytes = c.self.inside.text.items in
    let at = c.self.inside.at in
    let n = c.min-count.result in
    let size : length c.copy_from_slice.new.self ≡ n = omega (arith, c.copy_from_slice.ensures.len, length-take {A = ℕ}) in (
      left_after bytes c.copy_from_slice.new.self c.args.into.now _ at n (at + n - at)
          (ap (λ s. s.left) (sym c.self.view_is)) (search rules) (omega arith) (omega arith),
      ended_after bytes c.copy_from_slice.new.self c.args.into.now at n c.self.inside.piece size (search rules) (omega arith),
    )
