use Rattle.law_states.proofs.NoneDue.{abandon-none, due-comes-to, finish-leaves-none, read-none, wrote-none}
use Rattle.law_states.proofs.laws.none_is_due_between_finishes.Goals as goal

pub returns : goal.returns
returns c = record { wrote = wrote-none; read = read-none; abandoned = abandon-none; finished = finish-leaves-none; comes = due-comes-to }
