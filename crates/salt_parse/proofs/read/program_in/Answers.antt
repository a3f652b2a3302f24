use Rattle.salt_ast.specs.Symbols.{symbols_in}
use Rattle.salt_parse.proofs.Whole.{program_settles}
use Rattle.salt_parse.proofs.read.program_in.Goals as goal

pub returns : goal.returns
returns c = program_settles (symbols_in c.args.tokens.now) c.settle.result c.requires c.settle.ensures
