-- What the programs of a catalogue have in common.
use Rattle.salt_ast.specs.declared.programs.ProgramDef.{ProgramDef}
use Rattle.salt_cont.specs.Moves.{LeadOn}
use Rattle.salt_cont.specs.Rests.{AreFew}
use Rattle.salt_model.specs.Words.{Every}
use Rattle.salt_program.specs.Refusals.{parts_in}
use Rattle.std.specs.Prelude.{List}

-- all ways lead to later parts or to the end
abbrev pub AllLeadOn : List ProgramDef → Type 0
AllLeadOn programs = Every (λ (p : ProgramDef). LeadOn (parts_in p.body)) programs

-- none has more parts than there may be, nor more statements in one
abbrev pub AllAreFew : List ProgramDef → Type 0
AllAreFew programs = Every (λ (p : ProgramDef). AreFew (parts_in p.body)) programs
