-- What is refused of a line.
use Rattle.salt_ast.specs.declared.lines.Act.TheVariants.{Call}
use Rattle.salt_ast.specs.declared.lines.Line.TheVariants.{Go, Session}
use Rattle.salt_ast.specs.declared.lines.Line.{Line}
use Rattle.law_states.specs.Readings.{under_way_of}
use Rattle.law_states.specs.Refused.{busy_in, wrong_in}
use Rattle.law_states.specs.States.{State}
use Rattle.salt_model.specs.Kept.{Kept, cont_of}
use Rattle.salt_model.specs.Refusals.{defines}
use Rattle.salt_model.specs.declared.events.Refusal.{Refusal}
use Rattle.salt_model.specs.declared.events.Refusal.TheVariants as refused
use Rattle.std.specs.Bool.{then_some}
use Rattle.std.specs.Option.{option_or}
use Rattle.std.specs.Prelude.{Bool, Option, false, is_some, true, ℕ, ◌&&◌, ◌≡◌}

-- what is refused of a line without a fault
abbrev pub refusal_by_state : State → Line → Option Refusal
refusal_by_state s line =
    option_or (then_some (wrong_in s.units (under_way_of s) line) refused.State) (then_some (defines line && busy_in s.units (under_way_of s)) refused.Busy)

-- the line calls a program
abbrev pub calls : Line → Bool
calls (Session t (Call n args)) = true
calls line = false

-- the line is a turn of a program that goes on
abbrev pub is_turn : Kept → Line → Bool
is_turn k (Go b) = is_some (cont_of b k)
is_turn k line = false

-- the number of programs under way, where a line calls one
abbrev pub IsCountFor : Line → ℕ → ℕ → Type 0
IsCountFor line many count = calls line ≡ true → count ≡ many
