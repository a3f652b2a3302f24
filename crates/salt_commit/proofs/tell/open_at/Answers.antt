use Rattle.salt_commit.proofs.tell.open_at.Goals as goal
use Rattle.salt_disk.specs.declared.disks.DiskErr.{DiskErr}
use Rattle.salt_values.specs.declared.change.Change.{Change}
use Rattle.std.proofs.Common.{List, None, Some, ap, slice_set, ◌≡◌}
use Rattle.std.proofs.lemmas.Result.{err_from_is_err_and}

some_none : (e : DiskErr) → Some e ≡ None → ⊥
some_none e is = cc

pub returns-clause-opened : goal.returns-clause-opened
returns-clause-opened g c = record { reopened = c.in_ok-reopen_at.ensures; done = λ fine. ap (λ (s : List Change). slice_set c.args.shares.now.items c.args.number s) c.new-none.ensures }

pub returns-in_err-reopen_at-clause-opened : goal.returns-in_err-reopen_at-clause-opened
returns-in_err-reopen_at-clause-opened g c =
    let p = err_from_is_err_and c.from_residual.result c.from_residual.ensures.1 in
    rw (p.1, p.2) (record { reopened = c.in_err-reopen_at.ensures; done = λ fine. absurd (some_none c.in_err-reopen_at.field-0.0 fine) })
