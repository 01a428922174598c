use Rattle.std.proofs.Common.{rules, ◌≡◌, ◌⊎◌, Contains, None, inl, inr, refl}
use Rattle.dpl_ext.specs.Device.{first_text}
use Rattle.dpl_ext.proofs.mem_shelf.MemShelfShelf.open.Goals.{in_default-copy-via-in-Some+else-not-contains, in_default-copy-via-in_default-copy}
use Rattle.dpl_ext.proofs.mem_shelf.MemShelfShelf.open.Goals as goal

pub returns-in_default-copy-clause-fails : goal.returns-in_default-copy-clause-fails
returns-in_default-copy-clause-fails c =
    let why : Contains c.args.self.now.fails c.args.self.now.calls ⊎ (first_text c.args.name.now c.args.self.now.texts ≡ None) = elim c.in_default-copy.branch [
      | in_default-copy-via-in-Some+else-not-contains w ↦ inl (search rules)
      | in_default-copy-via-in_default-copy w ↦ inr (search rules)
    ] in
    inr ((λ _. why), (λ _. refl))
