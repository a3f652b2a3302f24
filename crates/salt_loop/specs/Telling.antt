-- How the texts of events are written under a schema.
use Rattle.salt_io.specs.Streams.{GainsShort}
use Rattle.salt_loop.specs.declared.stop.Stop.{Stop}
use Rattle.salt_loop.specs.declared.stop.Stop.TheVariants.{WriteFault}
use Rattle.std.specs.Prelude.{List, Option, ℕ}

-- how the writing of a text stops: with a part of it written
abbrev pub StopsWriting : List ℕ → Option (List ℕ) → Option (List ℕ) → Stop → Type 0
StopsWriting text before held WriteFault = GainsShort before text held
StopsWriting text before held stop = ⊥
