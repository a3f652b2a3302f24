-- The open continuations: the header's, each replaced or ended by later moves, and those that moves began.
use Rattle.salt_bytes.specs.declared.moves.Move.{Move}
use Rattle.salt_bytes.specs.declared.moves.Move.TheVariants.{Continue, Finish, Plain}
use Rattle.salt_values.specs.declared.cont.Cont.{Cont}
use Rattle.salt_bytes.specs.Conts.{move_in}
use Rattle.salt_bytes.specs.Coordinator.{Decision}
use Rattle.salt_values.specs.Id.{is_same_id}
use Rattle.salt_values.specs.declared.id.Id.{Id}
use Rattle.salt_model.specs.Kept.{cont_in}
use Rattle.std.specs.List.{filter, list_all}
use Rattle.std.specs.Prelude.{Bool, List, None, Option, Some, [], if◌then◌else◌, nat_lt, not, option_and_then, option_map, true, ℕ, ◌&&◌, ◌++◌, ◌==◌, ◌∷◌}
use Rattle.std.specs.Bool.{then_some}

abbrev pub is_not_of : Id → Cont → Bool
is_not_of b c = not (is_same_id b c.base)

abbrev pub replace_cont : Cont → List Cont → List Cont
replace_cont c [] = []
replace_cont c (d ∷ ds) = (if is_same_id c.base d.base then c else d) ∷ replace_cont c ds

abbrev pub is_accepted_before : Cont → Cont → Bool
is_accepted_before c d = nat_lt d.accepted c.accepted

-- it keeps the number of the open one that it replaces, or has a number above those of all open ones
abbrev pub go_to : Cont → Option Cont → List Cont → Option (List Cont)
go_to c None cs = then_some (list_all (is_accepted_before c) cs) (cs ++ c ∷ [])
go_to c (Some d) cs = then_some (c.accepted == d.accepted) (replace_cont c cs)

abbrev pub make_move : List Cont → Move → Option (List Cont)
make_move cs Plain = Some cs
make_move cs (Continue c) = go_to c (cont_in c.base cs) cs
make_move cs (Finish b) = option_map (λ d. filter (is_not_of b) cs) (cont_in b cs)

-- with one more decision, whose move is spelled under this format
abbrev pub move_on : ℕ → Decision → Option (List Cont) → Option (List Cont)
move_on format d conts = option_and_then (λ cs. option_and_then (make_move cs) (move_in format d.move)) conts

abbrev pub moved : ℕ → Option (List Cont) → List Decision → Option (List Cont)
moved format conts [] = conts
moved format conts (d ∷ ds) = moved format (move_on format d conts) ds

-- no two are of one program, and the numbers of the decisions that accepted them rise
abbrev pub is_later_than : Cont → Cont → Bool
is_later_than c d = nat_lt c.accepted d.accepted && is_not_of c.base d

abbrev pub do_rise : List Cont → Bool
do_rise [] = true
do_rise (c ∷ cs) = list_all (is_later_than c) cs && do_rise cs

-- what a move names
abbrev pub conts_of_move : Option Move → List Cont
conts_of_move (Some (Continue c)) = c ∷ []
conts_of_move move = []
