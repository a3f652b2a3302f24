use Rattle.salt_locks.proofs.Clearing.{put_marked}
use Rattle.salt_locks.proofs.Puts.{put_invariant, put_view}
use Rattle.salt_locks.proofs.Spotting.{count-put, spotted-part}
use Rattle.salt_locks.proofs.table.LockTable.put.Goals as goal
use Rattle.salt_locks.specs.Clear.{IsMarked}
use Rattle.salt_locks.specs.Tables.{put}
use Rattle.salt_model.specs.declared.locks.Lock.{Lock}
use Rattle.std.proofs.Common.{ap, subst, sym, ◌∷◌, ◌∙◌, ◌≤◌}
use Rattle.std.proofs.lemmas.List.Edits.{get_or-insert_at}
use Rattle.std.specs.List.{count_by, insert}
use Rattle.std.specs.Prelude.{List, get_or}

pub invariant_of-self-2 : goal.invariant_of-self-2
invariant_of-self-2 c =
    let place = c.count_no_later-place.result in
    let l = c.args.lock in
    let ls = c.self.inside.locks.items in
    let flag = c.is_clear-is_clear.result in
    let inv = c.self.invariant in
    let at = c.count_no_later-place.ensures.value in
    let bound = c.count_no_later-place.ensures.bound in
    let both = put_invariant c.self.inside.numbers.items c.insert-3.new.self.items ls c.insert.new.self.items place c.args.number l (inv.0, inv.1) at
    (c.in_ok-insert-3.ensures.items ∙ ap (λ xs. insert xs place c.args.number) c.reserve.ensures.items) c.in_ok-insert.ensures.items in
    let marked : IsMarked (insert c.cover.new.clear.items place flag) (insert ls place l) = put_marked c.cover.new.clear.items ls flag l place bound
    c.cover.ensures.marked
    c.is_clear-is_clear.ensures
    c.cover.ensures.later in (
      both.0,
      both.1,
      subst (IsMarked c.insert-2.new.self.items) (sym c.in_ok-insert.ensures.items)
          (subst (λ xs. IsMarked xs (insert ls place l)) (sym (c.in_ok-insert-2.ensures.items ∙ ap (λ xs. insert xs place flag) c.reserve-2.ensures.items)) marked),
      spotted-part c.list.new.self (c.index.result.now ∷ ls) c.insert.new.self.items
          (λ q. subst (λ (y : Lock). count_by q c.insert.new.self.items ≤ count_by q (y ∷ ls)) (sym (c.index.ensures ∙ (ap (λ (xs : List Lock). get_or xs place c.index.result.now) c.in_ok-insert.ensures.items ∙ get_or-insert_at ls place l c.index.result.now bound)))
          (subst (λ (xs : List Lock). count_by q xs ≤ count_by q (l ∷ ls)) (sym c.in_ok-insert.ensures.items) (count-put q ls place l)))
          (c.list.ensures ls inv.3),
    )

pub returns-clause-ok : goal.returns-clause-ok
returns-clause-ok c =
    let place = c.count_no_later-place.result in
    let inv = c.self.invariant in
    put_view c.self.inside.numbers.items c.insert-3.new.self.items c.self.inside.locks.items c.insert.new.self.items place c.args.number c.args.lock (inv.0, inv.1)
    c.count_no_later-place.ensures.value
    (c.in_ok-insert-3.ensures.items ∙ ap (λ xs. insert xs place c.args.number) c.reserve.ensures.items)
    c.in_ok-insert.ensures.items
    ∙ ap (put (record { number = c.args.number; lock = c.args.lock })) c.self.view_is
