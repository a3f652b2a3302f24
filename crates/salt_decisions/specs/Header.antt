-- What a header in hand stands for, and the rest of a header, from each of its parts on.
use Rattle.salt_bytes.specs.Conts.{take_cont}
use Rattle.salt_bytes.specs.Coordinator.{CoordinatorHeader, NumberedText, is_number_of_parts, take_kind, take_numbered}
use Rattle.salt_bytes.specs.Numbers.{take_64, take_counted}
use Rattle.salt_bytes.specs.Taking.{Take, give, only_if, take_byte, then_take}
use Rattle.salt_decisions.specs.declared.header.Definition.{Definition}
use Rattle.salt_decisions.specs.declared.header.Header.{Header}
use Rattle.salt_place.specs.declared.placement.Shape.{Shape}
use Rattle.std.specs.Prelude.{List, codes, map, ℕ}

abbrev pub mark : List ℕ
mark = codes "SALTC"

abbrev pub numbered_of : Definition → NumberedText
numbered_of d = record { number = d.number; text = d.text }

abbrev pub header_of : Header → CoordinatorHeader
header_of h = record {
  format = h.format;
  generation = h.generation;
  shape = h.shape;
  boot = h.boot;
  decisions = h.decisions;
  definitions = map numbered_of h.definitions;
  conts = h.conts;
}

abbrev pub take_lists : (format generation : ℕ) (shape : Shape) (boot decisions : ℕ) → Take CoordinatorHeader
take_lists format generation shape boot decisions =
    then_take (take_counted take_numbered) (λ definitions.
    then_take (take_counted (take_cont format)) (λ conts.
    give (record { format = format; generation = generation; shape = shape; boot = boot; decisions = decisions; definitions = definitions; conts = conts })))

abbrev pub take_numbers : (format generation : ℕ) (shape : Shape) → Take CoordinatorHeader
take_numbers format generation shape = then_take take_64 (λ boot. then_take take_64 (λ decisions. take_lists format generation shape boot decisions))

abbrev pub take_shape : (format generation : ℕ) → Take CoordinatorHeader
take_shape format generation =
    then_take take_byte (λ parts. only_if (is_number_of_parts parts) (
    then_take take_kind (λ kind. take_numbers format generation (record { parts = parts; kind = kind }))))
