use Rattle.std.proofs.Common.{◌∙◌, ap, sym}
use Rattle.salt_ast.specs.Symbols.{symbols_of}
use Rattle.salt_ast.proofs.TokenLaws.{one_row}
use Rattle.salt_ast.proofs.token_laws.one_row.Goals as goal

pub returns-clause-symbols : goal.returns-clause-symbols
returns-clause-symbols c = λ bs r s h k. h.2 ∙ ap symbols_of (one_row bs h.0 k.0 h.1 k.1) ∙ sym k.2

pub returns-clause-pieces : goal.returns-clause-pieces
returns-clause-pieces c = λ bs ps qs d k. one_row bs ps qs d k
