use Rattle.salt_ast.proofs.printer.Printer.natural.Goals as goal
use Rattle.std.proofs.lemmas.Fmt.{decimal_digit}

pub returns-then-number-lt10 : goal.returns-then-number-lt10
returns-then-number-lt10 g c = rw (decimal_digit c.args.number c.if-number-lt10.true) c.bytes.ensures
