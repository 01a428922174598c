use Rattle.std.proofs.Common.{◌≡◌, ◌++◌, ℕ, Option, drop, map}
use Rattle.dpl_rules.specs.Figures.{legs, legs_from}
use Rattle.dpl_calls.specs.Parts.{rectangle}
use Rattle.dpl_calls.specs.Table.{entry_part}
use Rattle.dpl_calls.specs.Found.{calls_in}
use Rattle.dpl_calls.proofs.putting.put_legs.Given as goal

abbrev pub invariant-loop-spot : goal.invariant-loop-spot
invariant-loop-spot l =
    record {
      parts : map entry_part l.body ++ map (rectangle l.scale)
          (legs_from l.width l.before (drop l.spot-index l.rest)) ≡ map entry_part l.fn.body ++ map (rectangle l.scale)
          (legs l.width l.path);
      calls : (place : Option ℕ) → calls_in place l.body ≡ calls_in place l.fn.body;
    }
