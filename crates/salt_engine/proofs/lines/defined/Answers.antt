use Rattle.salt_engine.proofs.LineDefines.{defines-event, no-definition, program-allows, table-allows}
use Rattle.salt_engine.proofs.lines.defined.Goals as goal
use Rattle.salt_scheduler.specs.Refusals.{HasFewParts}
use Rattle.salt_scheduler.specs.Standing.{IsDefinable, books_of}
use Rattle.std.proofs.Common.{subst}
use Rattle.std.proofs.lemmas.Result.{IfOk-weaker}

pub table_defined-requires-clause-allowed : goal.table_defined-requires-clause-allowed
table_defined-requires-clause-allowed c = subst (λ l. IsDefinable l (books_of c.args.scheduler.now)) c.in-Table.is c.requires.allowed

pub table_defined-requires-clause-line : goal.table_defined-requires-clause-line
table_defined-requires-clause-line c = c.in-Table.is

pub program_defined-requires-clause-allowed : goal.program_defined-requires-clause-allowed
program_defined-requires-clause-allowed c = subst (λ l. IsDefinable l (books_of c.args.scheduler.now)) c.in-Program.is c.requires.allowed

pub program_defined-requires-clause-line : goal.program_defined-requires-clause-line
program_defined-requires-clause-line c = c.in-Program.is

pub program_defined-requires-clause-parts : goal.program_defined-requires-clause-parts
program_defined-requires-clause-parts c = subst HasFewParts c.in-Program.is c.requires.parts

pub returns-in-Table-clause-does : goal.returns-in-Table-clause-does
returns-in-Table-clause-does c = IfOk-weaker c.table_defined.result _ _ (λ e. table-allows c.args.line.now c.args.scheduler.now c.table_defined.new.self e c.in-Table.def c.in-Table.is) c.table_defined.ensures.does

pub returns-in-Program-clause-does : goal.returns-in-Program-clause-does
returns-in-Program-clause-does c = IfOk-weaker c.program_defined.result _ _ (λ e. program-allows c.args.line.now c.args.scheduler.now c.program_defined.new.self e c.in-Program.def c.in-Program.is) c.program_defined.ensures.does

pub unreachable-requires : goal.unreachable-requires
unreachable-requires c = no-definition c.args.line.now (λ d is. c.in_default.not-Table d is) (λ p is. c.in_default.not-Program p is) c.requires.definition

pub returns-in-Table-clause-event : goal.returns-in-Table-clause-event
returns-in-Table-clause-event c = IfOk-weaker c.table_defined.result _ _ (λ e told. defines-event e told.0 told.1 told.2) c.table_defined.ensures.event

pub returns-in-Program-clause-event : goal.returns-in-Program-clause-event
returns-in-Program-clause-event c = IfOk-weaker c.program_defined.result _ _ (λ e told. defines-event e told.0 told.1 told.2) c.program_defined.ensures.event
