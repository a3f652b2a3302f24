-- The open continuations of a log, where what it says of them is sound.
use Rattle.salt_ast.specs.ProgramJudgement.{program_named}
use Rattle.salt_ast.specs.declared.programs.ProgramDef.{ProgramDef}
use Rattle.salt_bytes.specs.Conts.{move_in}
use Rattle.salt_bytes.specs.declared.moves.Move.{Move}
use Rattle.salt_decisions.specs.declared.kept.Kept.{Kept}
use Rattle.salt_stands.specs.Fitting.{is_cont_of}
use Rattle.salt_found.specs.Definitions.{reading}
use Rattle.salt_found.specs.declared.error.ContErr.TheVariants.{Memory, NotMove}
use Rattle.salt_found.specs.declared.error.ContErr.{ContErr}
use Rattle.salt_model.specs.Kept.{Definition}
use Rattle.salt_stands.specs.Coordinator.{are_sound}
use Rattle.salt_stands.specs.CoordinatorLog.{CoordinatorLog}
use Rattle.salt_stands.specs.OpenConts.{conts_of_move, do_rise, make_move, moved}
use Rattle.salt_values.specs.declared.cont.Cont.{Cont}
use Rattle.salt_values.specs.declared.id.Id.{Id}
use Rattle.std.specs.List.{list_all}
use Rattle.std.specs.Prelude.{Bool, Err, List, None, Ok, Option, Result, Some, [], nat_le, ℕ, ⊤, ◌&&◌, ◌∷◌, ◌≡◌, option_and_then}
use Rattle.std.specs.Bool.{then_some}

-- the continuations that a log leaves open under these definitions; none where what it says of continuations and units is not sound
abbrev pub open_conts_of : CoordinatorLog → List Definition → Option (List Cont)
open_conts_of log ds = option_and_then (then_some (are_sound reading log ds)) (moved log.header.format (Some log.header.conts) log.told.decided)

abbrev pub OpensConts : Result (List Cont) ContErr → Option (List Cont) → Type 0
OpensConts (Ok conts) going = going ≡ Some conts
OpensConts (Err NotMove) going = going ≡ None
OpensConts (Err Memory) going = ⊤

-- The same by what is kept alone.

-- a program has such a continuation, of no later boot or decision
abbrev pub fits_kept : List ProgramDef → Kept → Cont → Bool
fits_kept ps k c = is_cont_of (program_named ps c.program) c && (nat_le c.base.boot k.boot && nat_le c.accepted k.decisions)

abbrev pub fits_move : List ProgramDef → Kept → Option Move → Bool
fits_move ps k made = list_all (fits_kept ps k) (conts_of_move made)

abbrev pub is_booted : Kept → Id → Bool
is_booted k id = nat_le id.boot k.boot

-- the header's continuations and the names of units
abbrev pub fits_header : List ProgramDef → Kept → Bool
fits_header ps k = do_rise k.conts && (list_all (fits_kept ps k) k.conts && list_all (is_booted k) k.decided)

-- the continuations behind a move that fits and may be made
abbrev pub follow : List ProgramDef → Kept → Option Move → List Cont → Option (List Cont)
follow ps k made conts = option_and_then (then_some (fits_move ps k made)) (option_and_then (make_move conts) made)

abbrev pub followed : List ProgramDef → Kept → Option (List Cont) → List (List ℕ) → Option (List Cont)
followed ps k conts [] = conts
followed ps k conts (mv ∷ moves) = followed ps k (option_and_then (follow ps k (move_in k.format mv)) conts) moves
