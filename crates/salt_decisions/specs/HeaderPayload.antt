-- The header of these parts.
use Rattle.salt_bytes.specs.Coordinator.{CoordinatorHeader}
use Rattle.salt_decisions.specs.Header.{numbered_of}
use Rattle.salt_decisions.specs.declared.header.Definition.{Definition}
use Rattle.salt_decisions.specs.declared.header_payload.TheConstants.{FORMAT}
use Rattle.salt_values.specs.declared.cont.Cont.{Cont}
use Rattle.salt_place.specs.declared.placement.Shape.{Shape}
use Rattle.std.specs.Prelude.{List, map, ℕ}

abbrev pub header_with : (generation : ℕ) (shape : Shape) (boot decisions : ℕ) → List Definition → List Cont → CoordinatorHeader
header_with generation shape boot decisions definitions conts = record {
  format = FORMAT;
  generation = generation;
  shape = shape;
  boot = boot;
  decisions = decisions;
  definitions = map numbered_of definitions;
  conts = conts;
}
