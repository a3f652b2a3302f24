-- Moves as bytes, one after another.
use Rattle.salt_bytes.specs.Conts.{move_in}
use Rattle.salt_stands.specs.OpenConts.{make_move}
use Rattle.salt_values.specs.declared.cont.Cont.{Cont}
use Rattle.std.specs.Prelude.{List, Option, [], ℕ, ◌∷◌, option_and_then}

-- with one move more
abbrev pub then_moved : ℕ → List ℕ → Option (List Cont) → Option (List Cont)
then_moved format mv conts = option_and_then (λ cs. option_and_then (make_move cs) (move_in format mv)) conts

abbrev pub moved_by : ℕ → Option (List Cont) → List (List ℕ) → Option (List Cont)
moved_by format conts [] = conts
moved_by format conts (mv ∷ moves) = moved_by format (then_moved format mv conts) moves
