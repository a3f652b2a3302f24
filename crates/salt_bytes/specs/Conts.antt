-- Continuations, and moves: what a decision makes of them.
use Rattle.salt_bytes.specs.Formats.{has_nulls, has_tries}
use Rattle.salt_bytes.specs.Ids.{spell_id, take_id}
use Rattle.salt_bytes.specs.Numbers.{spell_32, spell_64, take_32, take_64}
use Rattle.salt_bytes.specs.Taking.{Take, give, take_byte, take_bytes, then_take, whole}
use Rattle.salt_bytes.specs.Values.{spell_values, take_values}
use Rattle.salt_bytes.specs.declared.moves.Move.TheVariants.{Continue, Finish, Plain}
use Rattle.salt_bytes.specs.declared.moves.Move.{Move}
use Rattle.salt_values.specs.declared.cont.Cont.{Cont}
use Rattle.std.specs.Prelude.{Bool, List, None, Option, [], false, length, suc, true, zero, ℕ, ◌++◌, ◌∷◌}

abbrev pub spell_tries : Bool → ℕ → List ℕ
spell_tries true tries = tries ∷ []
spell_tries false tries = []

-- where no tries are spelled there are none
abbrev pub take_tries : Bool → Take ℕ
take_tries true = take_byte
take_tries false = give 0

-- under this format of the coordinator's header
abbrev pub spell_cont : ℕ → Cont → List ℕ
spell_cont format c =
    spell_id c.base ++ (spell_64 c.accepted ++ (length c.program ∷ c.program ++ (spell_values c.args ++ (spell_values c.vars ++ (spell_32 c.next ++ spell_tries (has_tries format) c.tries)))))

abbrev pub take_cont : ℕ → Take Cont
take_cont format =
    then_take take_id (λ base.
    then_take take_64 (λ accepted.
    then_take (then_take take_byte take_bytes) (λ program.
    then_take (take_values (has_nulls format)) (λ args.
    then_take (take_values (has_nulls format)) (λ vars.
    then_take take_32 (λ next.
    then_take (take_tries (has_tries format)) (λ tries.
    give (record { base = base; accepted = accepted; program = program; args = args; vars = vars; next = next; tries = tries }))))))))

abbrev pub spell_move : ℕ → Move → List ℕ
spell_move format Plain = 0 ∷ []
spell_move format (Continue c) = 1 ∷ spell_cont format c
spell_move format (Finish base) = 2 ∷ spell_id base

abbrev pub take_move_of : ℕ → ℕ → Take Move
take_move_of format zero = give Plain
take_move_of format (suc zero) = then_take (take_cont format) (λ c. give (Continue c))
take_move_of format (suc (suc zero)) = then_take take_id (λ base. give (Finish base))
take_move_of format (suc (suc (suc n))) = λ bytes. None

abbrev pub take_move : ℕ → Take Move
take_move format = then_take take_byte (take_move_of format)

-- the move that these bytes are
abbrev pub move_in : ℕ → List ℕ → Option Move
move_in format bytes = whole (take_move format) bytes
