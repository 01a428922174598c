use Rattle.std.proofs.Common.{◌≡◌, drop}
use Rattle.dpl_ext.specs.Device.{first_text}
use Rattle.dpl_ext.specs.Memory.{texts_of}
use Rattle.dpl_ext.proofs.mem_shelf.copy_of.Given as goal

abbrev pub invariant-loop-key : goal.invariant-loop-key
invariant-loop-key l = first_text l.name (texts_of l.files) ≡ first_text l.name (texts_of (drop l.key-index l.files))
