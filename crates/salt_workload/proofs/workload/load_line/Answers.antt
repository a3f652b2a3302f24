use Rattle.std.proofs.Common.{Some, ap, arith, sym, ◌∙◌}
use Rattle.salt_workload.proofs.Blocks.{load_behind_opening, load_deposit, load_program, load_table}
use Rattle.salt_workload.proofs.workload.load_line.Goals as goal

pub returns-in_ok-account_table-in-0 : goal.returns-in_ok-account_table-in-0
returns-in_ok-account_table-in-0 c = rw c.in-0.is (ap Some c.in_ok-account_table-in-0.ensures ∙ sym (load_table c.args.n))

pub returns-in_ok-transfer_program-in-1 : goal.returns-in_ok-transfer_program-in-1
returns-in_ok-transfer_program-in-1 c = rw c.in-1.is (ap Some c.in_ok-transfer_program-in-1.ensures ∙ sym (load_program c.args.n))

pub returns-in_ok-deposit-in_default : goal.returns-in_ok-deposit-in_default
returns-in_ok-deposit-in_default c =
    ap Some c.in_ok-deposit-in_default.ensures ∙ sym (load_deposit c.args.n c.args.i (omega arith) (omega arith))

pub returns-in_default-2 : goal.returns-in_default-2
returns-in_default-2 c = rw (load_behind_opening c.args.n c.args.i (omega arith)) c.line_behind_opening.ensures
