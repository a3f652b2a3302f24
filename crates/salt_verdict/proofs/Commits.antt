-- The commit that an event tells, and what others leave.
use Rattle.salt_audit.specs.Telling.{conts_by}
use Rattle.salt_model.specs.declared.events.End.TheVariants as end
use Rattle.salt_model.specs.declared.events.End.{End}
use Rattle.salt_model.specs.declared.events.Event.TheVariants as event
use Rattle.salt_model.specs.declared.events.Event.{Event}
use Rattle.salt_verdict.specs.After.{commit_as, commit_in, commit_of, conts_after, rows_by}
use Rattle.salt_verdict.specs.Made.{tables_made}
use Rattle.salt_verdict.specs.declared.ledger.Ledger.{Ledger}
use Rattle.salt_verdict.specs.declared.steps.Commit.{Commit}
use Rattle.std.proofs.Common.{None, Some, ap, refl, ◌≡◌}

pub is_commit : (e : Event) (d : Commit) → commit_in e ≡ Some d → e ≡ event.Ended d.unit (end.Committed d.number)
is_commit (event.Ended u e) d is = ends e is
  where
    ends : (e : End) → commit_of u e ≡ Some d → event.Ended u e ≡ event.Ended d.unit (end.Committed d.number)
    ends (end.Committed n) some = let same : commit_as u n ≡ d = cc in ap (λ (x : Commit). event.Ended x.unit (end.Committed x.number)) same
    ends (end.Failed c) some = absurd cc
    ends (end.Branched n c) some = absurd cc
    ends end.Cut some = absurd cc
    ends end.RolledBack some = absurd cc
    ends end.Victim some = absurd cc
is_commit (event.Began u k) d is = absurd cc
is_commit (event.Did u st a) d is = absurd cc
is_commit (event.Waits u os) d is = absurd cc
is_commit (event.Accepted b) d is = absurd cc
is_commit (event.Finished b) d is = absurd cc
is_commit (event.Released bs) d is = absurd cc
is_commit (event.Early bs) d is = absurd cc
is_commit (event.Down w) d is = absurd cc
is_commit (event.Opened boot n) d is = absurd cc
is_commit event.Ready d is = absurd cc
is_commit (event.Defined n text) d is = absurd cc
is_commit (event.Refused r) d is = absurd cc
is_commit (event.Armed pairs) d is = absurd cc
is_commit (event.Shown items) d is = absurd cc

pub record IsOther (l : Ledger) (e : Event) : Type 0 where
  pub rows : rows_by e l ≡ tables_made l.rows
  pub conts : conts_after e l ≡ conts_by e l.state

pub is_other : (l : Ledger) (e : Event) → commit_in e ≡ None → IsOther l e
is_other l (event.Ended u e) none = ends e none
  where
    ends : (e : End) → commit_of u e ≡ None → IsOther l (event.Ended u e)
    ends (end.Committed n) none = absurd cc
    ends (end.Failed c) none = record { rows = refl; conts = refl }
    ends (end.Branched n c) none = record { rows = refl; conts = refl }
    ends end.Cut none = record { rows = refl; conts = refl }
    ends end.RolledBack none = record { rows = refl; conts = refl }
    ends end.Victim none = record { rows = refl; conts = refl }
is_other l (event.Began u k) none = record { rows = refl; conts = refl }
is_other l (event.Did u st a) none = record { rows = refl; conts = refl }
is_other l (event.Waits u os) none = record { rows = refl; conts = refl }
is_other l (event.Accepted b) none = record { rows = refl; conts = refl }
is_other l (event.Finished b) none = record { rows = refl; conts = refl }
is_other l (event.Released bs) none = record { rows = refl; conts = refl }
is_other l (event.Early bs) none = record { rows = refl; conts = refl }
is_other l (event.Down w) none = record { rows = refl; conts = refl }
is_other l (event.Opened boot n) none = record { rows = refl; conts = refl }
is_other l event.Ready none = record { rows = refl; conts = refl }
is_other l (event.Defined n text) none = record { rows = refl; conts = refl }
is_other l (event.Refused r) none = record { rows = refl; conts = refl }
is_other l (event.Armed pairs) none = record { rows = refl; conts = refl }
is_other l (event.Shown items) none = record { rows = refl; conts = refl }
