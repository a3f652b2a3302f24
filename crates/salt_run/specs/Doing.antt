-- What a command does: the lines of its trace, and what is written of it.
use Rattle.salt_model.specs.Lines.{AskInOrder}
use Rattle.salt_model.specs.Trace.{Trace, lines_asked}
use Rattle.salt_promise.specs.declared.status.Status.{Status}
use Rattle.salt_run.specs.Summing.{IsSummed}
use Rattle.salt_loop.specs.Loading.{AreLoadLines}
use Rattle.salt_loop.specs.Run.{AreLinesOf, IsTold, Streams}
use Rattle.salt_promise.specs.declared.command.Command.TheVariants.{Load, Script}
use Rattle.salt_promise.specs.declared.command.Command.{Command}
use Rattle.std.specs.Prelude.{List, Option, ℕ}

-- the lines of a trace are what the lines of the script ask that were done
pub record DoesLines (status : Status) (script left : Option (List ℕ)) (trace : Trace) : Type 0 where
  pub texts : List (List ℕ)
  pub reads : AskInOrder texts (lines_asked trace)
  pub lines : AreLinesOf status script left texts

-- a run does the lines of the script, and writes its story; a load does those of the workload, and writes the summary
abbrev pub Does : Command → Status → Streams → Trace → Type 0
Does (Script shape early over_net) status s trace = DoesLines status s.script s.left trace × IsTold status s.before trace s.now
Does (Load calls) status s trace = AreLoadLines status calls (lines_asked trace) × IsSummed status calls trace s.before s.now
