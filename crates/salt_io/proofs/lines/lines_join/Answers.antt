use Rattle.salt_io.proofs.ScriptLaws.{script_of-append, ended-prefix}
use Rattle.salt_io.proofs.lines.lines_join.Goals as goal

pub returns : goal.returns
returns c = record { joined = script_of-append; prefix = ended-prefix }
