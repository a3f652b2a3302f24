use Rattle.salt_ast.proofs.Digits.{decimal_token, decimal_symbol}
use Rattle.salt_ast.proofs.token_laws.written_number.Goals as goal

pub returns-clause-tokens : goal.returns-clause-tokens
returns-clause-tokens c = decimal_token

pub returns-clause-read : goal.returns-clause-read
returns-clause-read c = decimal_symbol
