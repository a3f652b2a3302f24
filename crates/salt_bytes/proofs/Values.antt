-- Values, rows, continuations and moves that were spelled are taken again.
use Rattle.salt_bytes.specs.declared.moves.Move.{Move}
use Rattle.salt_bytes.specs.declared.moves.Move.TheVariants.{Continue, Finish, Plain}
use Rattle.salt_values.specs.declared.cont.Cont.{Cont}
use Rattle.salt_values.specs.declared.value.Value.{Value}
use Rattle.salt_values.specs.declared.value.Value.TheVariants.{Int, Null, Text}
use Rattle.salt_bytes.proofs.Numbers.{takes_32, takes_64, takes_id}
use Rattle.salt_bytes.proofs.Taking.{Takes, at_last, behind_byte, both, checked, given, takes_bytes, takes_each}
use Rattle.salt_bytes.specs.Conts.{spell_cont, spell_move, spell_tries, take_cont, take_move, take_move_of, take_tries}
use Rattle.salt_bytes.specs.Formats.{has_nulls, has_tries}
use Rattle.salt_bytes.specs.Spellable.{IsSpellableCont, IsSpellableMove, IsSpellableRow, IsSpellableTries, IsSpellableValue, AreSpellableValues}
use Rattle.salt_bytes.specs.Taking.{give, only_if, take_byte, take_bytes, take_each, then_take}
use Rattle.salt_bytes.specs.Values.{is_row_length, spell_value, spell_values, take_row, take_value, take_value_of, take_values}
use Rattle.salt_values.specs.Text.{is_text}
use Rattle.std.proofs.Common.{Bool, List, [], false, length, refl, subst, true, ℕ, ◌∷◌, sym}
use Rattle.std.proofs.Math.Facts.{Fits-of_z}
use Rattle.std.proofs.lemmas.Int.{to_z-of_z}
use Rattle.std.specs.Int.{cast_signed, cast_unsigned, w64}

pub takes_value : (nulls : Bool) (v : Value) → IsSpellableValue nulls v → Takes (take_value nulls) (spell_value v) v
takes_value nulls (Int z) fits =
    behind_byte (take_value_of nulls) 1 (at_last (λ n. give (Int (cast_signed w64 n))) (takes_64 (cast_unsigned w64 z) (Fits-of_z fits).fits) (subst (λ y. Takes (give (Int (cast_signed w64 (cast_unsigned w64 z)))) [] (Int y)) (to_z-of_z w64 z fits) (given (Int (cast_signed w64 (cast_unsigned w64 z))))))
takes_value nulls (Text t) good =
    behind_byte (take_value_of nulls) 2 (behind_byte (λ n. then_take (take_bytes n) (λ t. only_if (is_text t) (give (Text t)))) (length t) (at_last (λ t. only_if (is_text t) (give (Text t))) (takes_bytes t (length t) refl) (checked good (given (Text t)))))
takes_value nulls Null good = behind_byte (take_value_of nulls) 0 (checked good (given Null))

pub takes_values : (nulls : Bool) (vs : List Value) → AreSpellableValues nulls vs → Takes (take_values nulls) (spell_values vs) vs
takes_values nulls vs good = behind_byte (take_each (take_value nulls)) (length vs) (takes_each (IsSpellableValue nulls) (take_value nulls) spell_value (takes_value nulls) vs good)

pub takes_row : (nulls : Bool) (row : List Value) → IsSpellableRow nulls row → Takes (take_row nulls) (spell_values row) row
takes_row nulls row good = behind_byte (λ n. only_if (is_row_length n) (take_each (take_value nulls) n)) (length row) (checked good.0 (takes_each (IsSpellableValue nulls) (take_value nulls) spell_value (takes_value nulls) row good.1))

takes_tries : (told : Bool) (tries : ℕ) → IsSpellableTries told tries → Takes (take_tries told) (spell_tries told tries) tries
takes_tries true tries good = record { taken = λ rest. refl }
takes_tries false tries good = subst (λ n. Takes (give 0) [] n) (sym good) (given 0)

takes_name : (bytes : List ℕ) → Takes (then_take take_byte take_bytes) (length bytes ∷ bytes) bytes
takes_name bytes = behind_byte take_bytes (length bytes) (takes_bytes bytes (length bytes) refl)

pub takes_cont : (format : ℕ) (c : Cont) → IsSpellableCont format c → Takes (take_cont format) (spell_cont format c) c
takes_cont format c good =
    both _ (takes_id c.base good.base.boot good.base.seq)
    (both _ (takes_64 c.accepted good.accepted)
    (both _ (takes_name c.program)
    (both _ (takes_values (has_nulls format) c.args good.args)
    (both _ (takes_values (has_nulls format) c.vars good.vars)
    (both _ (takes_32 c.next good.next)
    (at_last _ (takes_tries (has_tries format) c.tries good.tries) (given c)))))))

pub takes_move : (format : ℕ) (m : Move) → IsSpellableMove format m → Takes (take_move format) (spell_move format m) m
takes_move format Plain good = behind_byte (take_move_of format) 0 (given Plain)
takes_move format (Continue c) good = behind_byte (take_move_of format) 1 (at_last (λ c. give (Continue c)) (takes_cont format c good) (given (Continue c)))
takes_move format (Finish b) good = behind_byte (take_move_of format) 2 (at_last (λ b. give (Finish b)) (takes_id b good.boot good.seq) (given (Finish b)))
