-- What a function that reads lines answers.
use Rattle.std.specs.Prelude.{◌≡◌, ℕ, Result, Ok, Err}
use Rattle.dpl_parse.specs.declared.stops.Stop.{Stop}
use Rattle.dpl_parse.specs.declared.stops.Stop.TheVariants as stops

-- the line that cannot stand is the one that the definition names
abbrev pub Fails : {Y : Type 0} → Stop → Result Y ℕ → Type 0
Fails stops.NoMemory read = Unit {0}
Fails (stops.Line left) read = read ≡ Err left

-- what was returned, seen by view, is what the definition reads, unless memory ran out
abbrev pub Gives : {X Y : Type 0} → (X → Y) → Result X Stop → Result Y ℕ → Type 0
Gives view (Ok x) read = read ≡ Ok (view x)
Gives view (Err e) read = Fails e read
