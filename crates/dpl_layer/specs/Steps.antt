-- The words of the step that reads both layers.
use Rattle.std.specs.Prelude.{ℕ, List, [], Option, Some, None}
use Rattle.dpl_cif.specs.Reading.{Reading, reading}
use Rattle.dpl_cif.specs.Reading.Reading.{Faulty, TooMany, TooManyCalls, TooFar, Good}

-- what a text says about the keep layer: nothing is drawn where there is none
abbrev pub keep_reading : Option (List ℕ) → List ℕ → Reading
keep_reading None text = Good []
keep_reading (Some name) text = reading name text

-- a fault, or otherwise the other reading
abbrev pub fault_or : Reading → Reading → Reading
fault_or (Faulty f) other = Faulty f
fault_or (TooMany n) other = other
fault_or (TooManyCalls n) other = other
fault_or (TooFar n) other = other
fault_or (Good parts) other = other

-- what stops the reading of two layers, good where nothing does
abbrev pub joined : Reading → Reading → Reading
joined (Faulty f) keep = Faulty f
joined (TooMany n) keep = fault_or keep (TooMany n)
joined (TooManyCalls n) keep = fault_or keep (TooManyCalls n)
joined (TooFar n) keep = fault_or keep (TooFar n)
joined (Good parts) keep = keep
