use Rattle.salt_conflicts.proofs.Naming.{rising-more}
use Rattle.salt_conflicts.proofs.programs.are_all_older.Goals as goal
use Rattle.std.proofs.Common.{arith, length, ◌≡◌}
use Rattle.std.proofs.lemmas.Bool.{eqb-true}

pub returns : goal.returns
returns c = λ yes.
    let all : c.count_older.result ≡ length c.args.names.now = eqb-true c.count_older.result (length c.args.names.now) yes in
    rising-more c.args.names.now c.args.name c.requires (λ k d h. c.count_older.ensures.counted.0 k d (omega arith) (omega (arith, h, all)))
