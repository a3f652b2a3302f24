use Rattle.salt_locks.proofs.InTurn.{put-found, put-new}
use Rattle.salt_locks.specs.Turns.{at_numbers}
use Rattle.salt_model.specs.declared.locks.Lock.{Lock}
use Rattle.std.proofs.Common.{ap, sym, ◌∙◌}
use Rattle.std.specs.BTreeMap.{insert_entry}
use Rattle.std.specs.Ordering.{nat_cmp}
use Rattle.salt_locks.proofs.turns.put_in_turn.Goals as goal

pub returns-then-contains_key : goal.returns-then-contains_key
returns-then-contains_key c a = put-found c.args.number c.args.lock.now c.args.taken.now.entries a (sym c.contains_key.ensures ∙ c.if-contains_key.true)

pub returns : goal.returns
returns c a =
    ap at_numbers c.in_ok-insert.ensures.entries
    ∙ (ap (λ (l : Lock). at_numbers (insert_entry nat_cmp c.args.taken.now.entries c.args.number l)) c.in_ok-copy_lock.ensures
    ∙ put-new c.args.number c.args.lock.now c.args.taken.now.entries (sym c.contains_key.ensures ∙ c.if-contains_key.false))
