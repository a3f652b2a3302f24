-- Texts spell what the workload defines.
use Rattle.salt_ast.specs.Sample.{transfer}
use Rattle.law_definitions.specs.Texts.{IsTextOf, definition_in}
use Rattle.salt_promise.specs.Workload.{account_def}
use Rattle.salt_model.specs.Kept.{Definition, OfProgram, OfTable}
use Rattle.salt_model.specs.Printable.{IsSpelledProgram, IsSpelledTable}
use Rattle.salt_parse.specs.Lists.{following_at}
use Rattle.salt_parse.specs.ProgramReading.{program_at}
use Rattle.salt_parse.specs.Reading.{after, atom_at, left_at, nots_at, once_at, tail_at, text_at, within_at}
use Rattle.salt_parse.specs.StatementReading.{statement_at}
use Rattle.salt_parse.specs.TableReading.{table_at}
use Rattle.salt_ast.specs.Scanning.{first_at, lex, quoted_at}
use Rattle.salt_ast.specs.TokenSpelling.{keyword_of, sign_of}
use Rattle.std.specs.Fmt.{digits}
use Rattle.std.specs.Prelude.{List, Some, codes, refl, ℕ, ◌++◌, ◌↔◌, ◌≡◌}

account_read : definition_in (codes "create table acct (id int key, bal int, check (bal >= 0))") ≡ Some (OfTable account_def)
unfolding definition_in lex first_at quoted_at keyword_of sign_of after atom_at left_at nots_at once_at tail_at text_at within_at table_at following_at digits
account_read = refl

transfer_read :
    definition_in (codes "program transfer(a int, b int, amt int) base part { update acct set bal = (bal - :amt) where key = :a } " ++
    codes "part { update acct set bal = (bal + :amt) where key = :b } then end on failure go 3 " ++
    codes "part { update acct set bal = (bal + :amt) where key = :a } on failure end end") ≡ Some (OfProgram transfer)
unfolding definition_in lex first_at quoted_at keyword_of sign_of after atom_at left_at nots_at once_at tail_at text_at within_at program_at statement_at following_at digits
transfer_read = refl

module _ (read : (text : List ℕ) (d : Definition) → (definition_in text ≡ Some d) ↔ IsTextOf d text) where
  pub account-spelled : IsSpelledTable account_def
  account-spelled = ((read _ (OfTable account_def)).0 account_read).0

  pub transfer-spelled : IsSpelledProgram transfer
  transfer-spelled = ((read _ (OfProgram transfer)).0 transfer_read).0
