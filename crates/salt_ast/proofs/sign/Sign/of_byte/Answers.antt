use Rattle.std.proofs.Common.{sym}
use Rattle.salt_ast.specs.declared.sign.Sign.TheVariants as mark
use Rattle.salt_ast.proofs.SpellingLaws.{sign_read}
use Rattle.salt_ast.proofs.sign.Sign.of_byte.Goals as goal

pub returns-in-40 : goal.returns-in-40
returns-in-40 c = rw c.in-40.is (sym (sign_read mark.Open))

pub returns-in-41 : goal.returns-in-41
returns-in-41 c = rw c.in-41.is (sym (sign_read mark.Close))

pub returns-in-123 : goal.returns-in-123
returns-in-123 c = rw c.in-123.is (sym (sign_read mark.OpenBrace))

pub returns-in-125 : goal.returns-in-125
returns-in-125 c = rw c.in-125.is (sym (sign_read mark.CloseBrace))

pub returns-in-44 : goal.returns-in-44
returns-in-44 c = rw c.in-44.is (sym (sign_read mark.Comma))

pub returns-in-59 : goal.returns-in-59
returns-in-59 c = rw c.in-59.is (sym (sign_read mark.Semicolon))

pub returns-in-58 : goal.returns-in-58
returns-in-58 c = rw c.in-58.is (sym (sign_read mark.Colon))

pub returns-in-64 : goal.returns-in-64
returns-in-64 c = rw c.in-64.is (sym (sign_read mark.At))

pub returns-in-46 : goal.returns-in-46
returns-in-46 c = rw c.in-46.is (sym (sign_read mark.Dot))

pub returns-in-42 : goal.returns-in-42
returns-in-42 c = rw c.in-42.is (sym (sign_read mark.Star))

pub returns-in-43 : goal.returns-in-43
returns-in-43 c = rw c.in-43.is (sym (sign_read mark.Plus))

pub returns-in-45 : goal.returns-in-45
returns-in-45 c = rw c.in-45.is (sym (sign_read mark.Minus))

pub returns-in-61 : goal.returns-in-61
returns-in-61 c = rw c.in-61.is (sym (sign_read mark.Equal))

pub returns-in-60 : goal.returns-in-60
returns-in-60 c = rw c.in-60.is (sym (sign_read mark.Less))

pub returns-in-62 : goal.returns-in-62
returns-in-62 c = rw c.in-62.is (sym (sign_read mark.Greater))
