-- The line in front of bytes, and where none goes on with a story.
use Rattle.law_texts.specs.EventLines.{Inline}
use Rattle.salt_ast.specs.declared.trees.TableDef.{TableDef}
use Rattle.salt_events.specs.Lines.{GoesOn}
use Rattle.salt_model.specs.declared.events.Event.{Event}
use Rattle.salt_model.specs.declared.shown.Item.{Item}
use Rattle.std.specs.Prelude.{Bool, List, Option, ℕ, ◌++◌, ◌==◌, ◌∷◌, ◌≡◌}

abbrev pub is_line_end : ℕ → Bool
is_line_end byte = byte == 10

-- a line stands in front, and these bytes behind the LF that ends it
pub record IsInFront (line more bytes : List ℕ) : Type 0 where
  pub inline : Inline line
  pub text : bytes ≡ line ++ (10 ∷ more)

-- no line in front goes on with a story, behind items that are still to be counted
abbrev pub GoesOnNowhere : List TableDef → List Item → List ℕ → Type 0
GoesOnNowhere schema items rest =
    (line more : List ℕ) (after : List Item) (told : Option Event) → IsInFront line more rest → GoesOn schema items line (after, told) → ⊥
