use Rattle.salt_ast.proofs.TokenLaws.{is_found, none_is}
use Rattle.salt_ast.proofs.scanner.scan.Goals as goal

pub returns-clause-found : goal.returns-clause-found
returns-clause-found c = is_found c.args.bytes.now c.tokens_of.result c.tokens_of.ensures.reads

pub returns-clause-syntax : goal.returns-clause-syntax
returns-clause-syntax c = none_is c.args.bytes.now c.tokens_of.result c.tokens_of.ensures.reads
