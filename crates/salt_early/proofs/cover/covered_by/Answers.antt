use Rattle.law_states.proofs.Restored.{restored-locks}
use Rattle.law_states.specs.LockCalls.{HasSalted}
use Rattle.law_states.specs.Restoring.{TakenEach}
use Rattle.salt_early.proofs.cover.covered_by.Goals as goal
use Rattle.salt_locks.proofs.Fits.{salts}
use Rattle.salt_model.specs.declared.locks.Family.TheVariants.{Alkaline}
use Rattle.std.proofs.Common.{[], subst, sym}

pub returns : goal.returns
returns c =
    let u = c.args.unit in
    let base = c.args.base in
    let tables = c.args.tables.now in
    let mid = c.take_each.new.locks in
    let new = c.to_saline.new.self in
    let taken : TakenEach u Alkaline 0 tables [] mid = subst (λ old. TakenEach u Alkaline 0 tables old mid) c.new-locks.ensures c.in_ok-take_each.ensures in
    let salted : HasSalted u base mid new = subst (HasSalted u base mid) (sym c.to_saline.ensures) (salts u base mid) in
    restored-locks u base Alkaline tables mid new taken salted
