use Rattle.salt_schema.proofs.Accepted.{table_refusal-IsAccepted}
use Rattle.salt_schema.proofs.schema.Schema.add.Goals as goal

pub add-requires : goal.add-requires
add-requires c = let a = table_refusal-IsAccepted c.args.self.now c.args.def c.in_ok-judge.ensures in record { new = rw c.self.view_is a.new }
