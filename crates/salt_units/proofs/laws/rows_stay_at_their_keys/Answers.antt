use Rattle.salt_units.proofs.Keeping.{judged-leave, statements-keep}
use Rattle.salt_units.proofs.Keyed.{keyed-under, keys-put-all}
use Rattle.salt_units.proofs.laws.rows_stay_at_their_keys.Goals as goal

pub returns : goal.returns
returns c = record {
  judged = judged-leave;
  changes = statements-keep;
  edits = keys-put-all;
  tables = keyed-under;
}
