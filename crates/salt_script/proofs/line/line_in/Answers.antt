use Rattle.std.proofs.Common.{sym}
use Rattle.std.specs.Prelude.{Err, Ok}
use Rattle.salt_script.proofs.Lines.{all_settles, bases_settle, locks_settle, none_settles, program_settles, table_settles}
use Rattle.salt_script.proofs.line.line_in.Goals as goal
use Rattle.salt_ast.specs.Symbols.{symbols_in}

pub returns-in-Ok : goal.returns-in-Ok
returns-in-Ok c = table_settles (symbols_in c.args.tokens.now) (Ok c.in-Ok.def) (sym c.in-Table.ensures) c.in-Ok.ensures

pub returns-in-Err : goal.returns-in-Err
returns-in-Err c = table_settles (symbols_in c.args.tokens.now) (Err c.in-Err.e) (sym c.in-Table.ensures) c.in-Err.ensures

pub returns-in-Ok-program_in : goal.returns-in-Ok-program_in
returns-in-Ok-program_in c = program_settles (symbols_in c.args.tokens.now) (Ok c.in-Ok-program_in.def) (sym c.in-Program.ensures) c.in-Ok-program_in.ensures

pub returns-in-Err-program_in : goal.returns-in-Err-program_in
returns-in-Err-program_in c =
    program_settles (symbols_in c.args.tokens.now) (Err c.in-Err-program_in.e) (sym c.in-Program.ensures) c.in-Err-program_in.ensures

pub returns-in-GoAll : goal.returns-in-GoAll
returns-in-GoAll c = all_settles (symbols_in c.args.tokens.now) (sym c.in-GoAll.ensures)

pub returns-in-ShowLocks : goal.returns-in-ShowLocks
returns-in-ShowLocks c = locks_settle (symbols_in c.args.tokens.now) (sym c.in-ShowLocks.ensures)

pub returns-in-ShowBases : goal.returns-in-ShowBases
returns-in-ShowBases c = bases_settle (symbols_in c.args.tokens.now) (sym c.in-ShowBases.ensures)

pub returns-in-Other : goal.returns-in-Other
returns-in-Other c = none_settles (symbols_in c.args.tokens.now) (sym c.in-Other.ensures)
