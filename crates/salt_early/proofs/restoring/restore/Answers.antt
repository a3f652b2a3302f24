use Rattle.law_states.specs.DependencyCalls.{AreSame}
use Rattle.law_states.specs.KeptCover.{group_of}
use Rattle.law_states.specs.KeptLocks.{numbered_from}
use Rattle.law_states.specs.Members.{SameMembers}
use Rattle.salt_deps.specs.Kept.{dependencies}
use Rattle.salt_early.proofs.restoring.restore.Goals as goal
use Rattle.salt_model.specs.Locks.{cover_of}
use Rattle.salt_model.specs.Words.{first_of_list}
use Rattle.salt_values.specs.declared.id.Id.{Id}
use Rattle.std.proofs.Common.{List, [], ap, length, subst, ℕ, ◌∙◌}

pub returns-clause-locks : goal.returns-clause-locks
returns-clause-locks c k known =
    let locks = c.in_ok-locks.locks in
    let bases = c.in_ok-bases.bases.items in
    let tables = c.as_slice-tables.result.now in
    subst (λ (ts : List ℕ). SameMembers locks (numbered_from 0 (cover_of [] ts (first_of_list bases)))) (c.as_slice-tables.ensures.value ∙ c.in_ok-numbers.ensures k known)
    (subst (λ (bs : List Id). SameMembers locks (numbered_from 0 (cover_of [] tables (first_of_list bs)))) c.as_slice-named.ensures.value c.in_ok-locks.ensures)

pub returns-clause-taken : goal.returns-clause-taken
returns-clause-taken c k known =
    let bases = c.in_ok-bases.bases.items in
    let tables = c.as_slice-tables.result.now in
    c.cover_count-taken.ensures
    ∙ (ap (λ (bs : List Id). length (cover_of [] tables (first_of_list bs))) c.as_slice-named.ensures.value
    ∙ ap (λ (ts : List ℕ). length (cover_of [] ts (first_of_list bases))) (c.as_slice-tables.ensures.value ∙ c.in_ok-numbers.ensures k known))

pub returns-clause-group : goal.returns-clause-group
returns-clause-group c =
    let deps = dependencies c.in_ok-deps.deps in
    subst (λ (bs : List Id). AreSame (group_of bs) deps) c.as_slice-named.ensures.value c.in_ok-deps.ensures
