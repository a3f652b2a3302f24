-- What the bytes of devices stand for, and how they open.
use Rattle.salt_ast.specs.ProgramTexts.{program_text}
use Rattle.salt_ast.specs.Texts.{table_text}
use Rattle.salt_stands.specs.Fitting.{definitions_reading, kept_in}
use Rattle.salt_model.specs.Kept.{Definition, Kept, OfProgram, OfTable}
use Rattle.salt_model.specs.Printable.{IsSpelledProgram, IsSpelledTable}
use Rattle.salt_stands.specs.Stands.{Found, Opening, Stands, stands_on, opening_of}
use Rattle.salt_place.specs.declared.placement.Shape.{Shape}
use Rattle.std.specs.Prelude.{List, Ok, Option, Some, ℕ, ◌↔◌, ◌≡◌}

-- the canonical text of a definition, which some text spells within the limits
abbrev pub IsTextOf : Definition → List ℕ → Type 0
IsTextOf (OfTable d) text = IsSpelledTable d × (text ≡ table_text d)
IsTextOf (OfProgram p) text = IsSpelledProgram p × (text ≡ program_text p)

-- it reads each canonical text as its definition, and nothing else
pub record IsReader (read : List ℕ → Option Definition) : Type 0 where
  pub each : (text : List ℕ) (d : Definition) → (read text ≡ Some d) ↔ IsTextOf d text

-- WHAT STANDS

-- the bytes of the devices stand for this, in this shape; blank ones for nothing
pub record StandFor (shape : Shape) (bytes : ℕ → List ℕ) (k : Kept) : Type 0 where
  pub read : List ℕ → Option Definition
  pub reads : IsReader read
  pub found : Found Definition
  pub is : stands_on (definitions_reading read) bytes shape ≡ Ok found
  pub has_shape : found.shape ≡ shape
  pub keeps : kept_in found ≡ k

-- HOW THEY OPEN

-- what an opening that asks for this shape answers of the bytes
pub record AnswersTo (shape : Shape) (bytes : ℕ → List ℕ) (answer : Opening Definition) : Type 0 where
  pub read : List ℕ → Option Definition
  pub reads : IsReader read
  pub is : opening_of (definitions_reading read) bytes shape ≡ answer

-- they open: they stand for this in the shape that is asked for, and its numbers are not spent
pub record OpenAs (shape : Shape) (bytes : ℕ → List ℕ) (k : Kept) : Type 0 where
  pub found : Found Definition
  pub answers : AnswersTo shape bytes (Stands found)
  pub keeps : kept_in found ≡ k
