-- Which moves are spelled, and the rest of a continuation.
use Rattle.salt_bytes.specs.Conts.{take_tries}
use Rattle.salt_bytes.specs.Formats.{has_nulls, has_tries}
use Rattle.salt_bytes.specs.Numbers.{take_32}
use Rattle.salt_bytes.specs.Taking.{Take, give, then_take}
use Rattle.salt_bytes.specs.Values.{take_values}
use Rattle.salt_values.specs.declared.id.Id.{Id}
use Rattle.salt_values.specs.declared.value.Value.{Value}
use Rattle.salt_bytes.specs.declared.moves.Move.TheVariants.{Continue, Finish, Plain}
use Rattle.salt_bytes.specs.declared.moves.Move.{Move}
use Rattle.salt_values.specs.declared.cont.Cont.{Cont}
use Rattle.std.specs.Prelude.{List, length, ℕ, ⊤, ◌<◌}

-- lengths of names and lists stand in one byte
pub record IsShort (c : Cont) : Type 0 where
  pub program : length c.program < 256
  pub args : length c.args < 256
  pub vars : length c.vars < 256

abbrev pub IsShortMove : Move → Type 0
IsShortMove Plain = ⊤
IsShortMove (Continue c) = IsShort c
IsShortMove (Finish base) = ⊤

-- what stands behind the values of a continuation
abbrev pub take_place : (format : ℕ) (base : Id) (accepted : ℕ) (program : List ℕ) (args vars : List Value) → Take Cont
take_place format base accepted program args vars =
    then_take take_32 (λ next.
    then_take (take_tries (has_tries format)) (λ tries.
    give (record { base = base; accepted = accepted; program = program; args = args; vars = vars; next = next; tries = tries })))

-- what stands behind the program's name
abbrev pub take_standing : (format : ℕ) (base : Id) (accepted : ℕ) (program : List ℕ) → Take Cont
take_standing format base accepted program =
    then_take (take_values (has_nulls format)) (λ args.
    then_take (take_values (has_nulls format)) (λ vars.
    take_place format base accepted program args vars))
