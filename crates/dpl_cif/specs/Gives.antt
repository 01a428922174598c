-- What reading a layout answers.
use Rattle.std.specs.Prelude.{◌≡◌, map, Result, Ok, Err}
use Rattle.dpl_cell.specs.declared.layout.Layout.{Layout}
use Rattle.dpl_cell.specs.Outlines.{outline_of}
use Rattle.dpl_rules.specs.Rules.{fault}
use Rattle.dpl_cif.specs.Reading.{Reading}
use Rattle.dpl_cif.specs.Reading.Reading.{Faulty, TooMany, TooManyCalls, TooFar, Good}
use Rattle.dpl_cif.specs.declared.error.CifError.{CifError}
use Rattle.dpl_cif.specs.declared.error.CifError.TheVariants.{Fault, Limit, NoMemory}
use Rattle.dpl_cif.specs.declared.error.CifLimit.TheVariants.{Primitives, Calls, Coordinate}

-- why there is no layout
abbrev pub Refuses : CifError → Reading → Type 0
Refuses (Fault command what) r = r ≡ Faulty (fault command what)
Refuses (Limit Primitives n) r = r ≡ TooMany n
Refuses (Limit Calls n) r = r ≡ TooManyCalls n
Refuses (Limit Coordinate n) r = r ≡ TooFar n
Refuses NoMemory r = Unit {0}

-- the answer is what the text gives, unless memory ran out
abbrev pub Gives : Result Layout CifError → Reading → Type 0
Gives (Ok layout) r = r ≡ Good (map outline_of layout.prims)
Gives (Err e) r = Refuses e r
