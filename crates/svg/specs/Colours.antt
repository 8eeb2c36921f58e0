-- Which cells have a colour: those of the first 16 kinds.
use Rattle.std.specs.Prelude.{ℕ, List}
use Rattle.rules.specs.Rules.{Stray}
use Rattle.svg.specs.declared.drawing.NoDrawing.{NoDrawing}
use Rattle.svg.specs.declared.drawing.NoDrawing.TheVariants.{NoColour, Stream}

-- why cells are not drawn: the first without a colour stands at p; a stream that fails says nothing of the cells
abbrev pub Uncoloured : List ℕ → NoDrawing → Type 0
Uncoloured u (NoColour p) = Stray 16 u p
Uncoloured u (Stream e) = Unit {0}
