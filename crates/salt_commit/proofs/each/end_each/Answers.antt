use Rattle.salt_commit.proofs.Sharing.{all_ended, all_told_at_once, told_on}
use Rattle.salt_commit.proofs.Voting.{on_given, on_map}
use Rattle.salt_commit.proofs.each.end_each.Goals as goal
use Rattle.salt_commit.specs.Messages.{nodes_of}
use Rattle.salt_commit.specs.Telling.{HaveCommitted, IsBehind}
use Rattle.salt_paged.specs.Partitions.{ArePartitions}
use Rattle.salt_parts.specs.Openings.{decided_in}
use Rattle.salt_shares.specs.Applies.{AreSharesLast, applied_with_shares}
use Rattle.salt_values.specs.declared.change.Change.{Change}
use Rattle.std.proofs.Common.{List, ap, length, subst, sym, ◌∙◌}
use Rattle.std.proofs.lemmas.Result.{err_from_is_err_and}
use Rattle.std.specs.Result.{result_err}

pub returns-in_err-tell_each-clause-told : goal.returns-in_err-tell_each-clause-told
returns-in_err-tell_each-clause-told g c =
    let p = err_from_is_err_and c.from_residual.result c.from_residual.ensures.1 in
    rw (p.1, p.2) c.in_err-tell_each.ensures.told

pub apply_all-requires-clause-size : goal.apply_all-requires-clause-size
apply_all-requires-clause-size g c =
    ap (λ (l : List (List Change)). length l) c.as_slice.ensures.value ∙ c.in_ok-tell_each.ensures.left ∙ c.requires.size ∙ sym c.in_ok-tell_each.ensures.told.size

pub apply_all-requires-clause-stand : goal.apply_all-requires-clause-stand
apply_all-requires-clause-stand g c =
    let may = c.requires.may in
    let b = c.in_ok-tell_each.ensures.behind may.which may.log may.v may.applied may.behind in
    record { v = may.v; applied = b.0; are = b.1.are; last = subst (λ (l : List (List Change)). AreSharesLast may.v b.0 c.args.unit l) (sym c.as_slice.ensures.value) b.1.last }

pub returns-clause-ok : goal.returns-clause-ok
returns-clause-ok g c which log v applied behind =
    let e = g.D.Disks.view c.tell_each.new.disks in
    let f = g.D.Disks.view c.apply_all.new.disks in
    let ps = c.tell_each.new.parts.items in
    let b = c.in_ok-tell_each.ensures.behind which log v applied behind in
    let there : IsBehind e ps c.args.unit c.as_slice.result.now which log v b.0 = subst (λ (l : List (List Change)). IsBehind e ps c.args.unit l which log v b.0) (sym c.as_slice.ensures.value) b.1 in
    on_map c.apply_all.result (ArePartitions f c.apply_all.new.parts.items v (applied_with_shares c.args.unit c.as_slice.result.now b.0)) (ArePartitions f c.apply_all.new.parts.items v (decided_in log))
    (all_ended e f ps c.apply_all.new.parts.items c.args.unit c.as_slice.result.now which log v b.0 there) (c.apply_all.ensures.ok v b.0 there.are there.last)

pub returns-clause-told : goal.returns-clause-told
returns-clause-told g c =
    let may = c.requires.may in
    let d = g.D.Disks.view c.args.disks.now in
    let e = g.D.Disks.view c.tell_each.new.disks in
    let f = g.D.Disks.view c.apply_all.new.disks in
    let ps = c.tell_each.new.parts.items in
    let left = c.as_slice.result.now in
    let answer = result_err c.apply_all.result in
    let b = c.in_ok-tell_each.ensures.behind may.which may.log may.v may.applied may.behind in
    let last = subst (λ (l : List (List Change)). AreSharesLast may.v b.0 c.args.unit l) (sym c.as_slice.ensures.value) b.1.last in
    let h = c.apply_all.ensures in
    told_on d e f c.args.parts.now.items ps c.apply_all.new.parts.items c.args.unit c.args.shares.now.items left answer c.in_ok-tell_each.ensures.told
    (λ which log v applied behind.
    let n = c.in_ok-tell_each.ensures.behind which log v applied behind in
    (n.0, subst (λ (l : List (List Change)). IsBehind e ps c.args.unit l which log v n.0) (sym c.as_slice.ensures.value) n.1))
    (all_told_at_once e f ps c.apply_all.new.parts.items c.args.unit left answer may.v b.0 b.1.are last h.images h.others h.cause h.full h.size)

pub returns-clause-committed : goal.returns-clause-committed
returns-clause-committed g c was rests new started =
    on_given c.apply_all.result (HaveCommitted c.args.unit (nodes_of c.args.shares.now.items) was c.tell_each.new.messages) (c.in_ok-tell_each.ensures.committed was rests new started)
