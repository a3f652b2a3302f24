use Rattle.salt_bytes.specs.Page.{page_place}
use Rattle.salt_disk.proofs.CallAfterCall.{cause_memory, cause_on}
use Rattle.salt_disk.specs.Disks.{FullOnly}
use Rattle.salt_paged.specs.Openings.{page_bound}
use Rattle.salt_paged.specs.Partitions.{IsPartition, pages_of}
use Rattle.salt_parts.proofs.Redone.{RedoneSoFar, at_pages, full_as, named_then, none_redone, one_redone, others_then, this_read, without_memory}
use Rattle.salt_parts.proofs.Lists.{longer}
use Rattle.salt_parts.proofs.Units.{units_at}
use Rattle.salt_parts.proofs.redo.redo_all.Goals as goal
use Rattle.salt_parts.specs.Openings.{IsPagesOf}
use Rattle.std.proofs.Common.{None, Some, ap, arith, get_or, length, refl, slice_get, subst, sym, ◌+◌, ◌≡◌, ◌∙◌}
use Rattle.std.proofs.lemmas.Iterator.Adapters.{YieldsList-from_vec}
use Rattle.std.proofs.lemmas.Iterator.Consumers.{YieldsList-end, YieldsList-turn}
use Rattle.std.proofs.lemmas.Option.{slice_get_read}
use Rattle.std.proofs.lemmas.Result.{err_from_is_err_and}

pub loop-partition-init : goal.loop-partition-init
loop-partition-init g c =
    let d = g.D.Disks.view c.args.disks.now in
    subst (λ xs. RedoneSoFar d d c.args.read.items c.args.decided.now xs 0) (sym c.new-made.ensures.items) (none_redone d c.args.read.items c.args.decided.now)

-- THE NEXT ONE was read

pub redo-requires : goal.redo-requires
redo-requires g c =
    let l = c.loop-partition in
    let x = c.in-Some.partition in
    let all = c.args.read.items in
    let from = c.into_iter-partition-iterator.ensures.into_iter_gives in
    let t = YieldsList-turn (YieldsList-from_vec {s = c.into_iter-partition-iterator.result} all from.0 (from.1 ∙ c.args.read.ok.0)) l.yielded l.partition-iterator l.yielded_by c.next.result c.next.new.self x c.in-Some.is c.next.ensures.steps in
    let n = length l.yielded in
    let at : slice_get all n ≡ Some x = slice_get_read all (length all) n x refl t.0 t.1 in
    record {
      p = n;
      v = c.requires.stand.v n;
      is = this_read (g.D.Disks.view c.args.disks.now) (g.D.Disks.view l.disks) all c.args.decided.now l.made.items n l.invariant x at t.0 c.requires.stand.v c.requires.stand.are;
    }

pub loop-partition-preserved : goal.loop-partition-preserved
loop-partition-preserved g c =
    let l = c.loop-partition in
    let d0 = g.D.Disks.view c.args.disks.now in
    let d = g.D.Disks.view l.disks in
    let e = g.D.Disks.view c.redo.new.disks in
    let x = c.in-Some.partition in
    let y = c.in_ok-opened.opened in
    let all = c.args.read.items in
    let from = c.into_iter-partition-iterator.ensures.into_iter_gives in
    let t = YieldsList-turn (YieldsList-from_vec {s = c.into_iter-partition-iterator.result} all from.0 (from.1 ∙ c.args.read.ok.0)) l.yielded l.partition-iterator l.yielded_by c.next.result c.next.new.self x c.in-Some.is c.next.ensures.steps in
    let n = length l.yielded in
    let at : slice_get all n ≡ Some x = slice_get_read all (length all) n x refl t.0 t.1 in
    let so = l.invariant in
    subst (λ k. RedoneSoFar d0 e all c.args.decided.now c.push.new.self.items k) (sym (longer l.yielded x))
    (subst (λ xs. RedoneSoFar d0 e all c.args.decided.now xs (n + 1)) (sym c.in_ok-push.ensures.items)
    (one_redone d0 d all c.args.decided.now l.made.items n so x at t.0 e y c.requires.stand.v c.requires.stand.are c.in_ok-opened.ensures.others c.in_ok-opened.ensures.cause
    (λ v are. c.redo.ensures.images n (v n) (this_read d0 d all c.args.decided.now l.made.items n so x at t.0 v are))
    (λ v us are have. subst (λ ids. IsPartition e y n (v n) ids) (units_at c.args.decided.now us n c.index-decided-number.result have (omega (arith, t.0, c.requires.ruled)) (c.index-decided-number.is ∙ ap (λ k. get_or c.args.decided.now k c.index-decided-number.result) (c.len-number.ensures ∙ l.made.ok.0 ∙ so.size)))
    (c.in_ok-opened.ensures.ok n (v n) (this_read d0 d all c.args.decided.now l.made.items n so x at t.0 v are)))))

-- AN ERROR

pub returns-in_err-opened-clause-images : goal.returns-in_err-opened-clause-images
returns-in_err-opened-clause-images g c v are p low =
    let l = c.loop-partition in
    let d0 = g.D.Disks.view c.args.disks.now in
    let d = g.D.Disks.view l.disks in
    let e = g.D.Disks.view c.redo.new.disks in
    let x = c.in-Some.partition in
    let all = c.args.read.items in
    let from = c.into_iter-partition-iterator.ensures.into_iter_gives in
    let t = YieldsList-turn (YieldsList-from_vec {s = c.into_iter-partition-iterator.result} all from.0 (from.1 ∙ c.args.read.ok.0)) l.yielded l.partition-iterator l.yielded_by c.next.result c.next.new.self x c.in-Some.is c.next.ensures.steps in
    let n = length l.yielded in
    let at : slice_get all n ≡ Some x = slice_get_read all (length all) n x refl t.0 t.1 in
    let so = l.invariant in
    named_then d0 d all c.args.decided.now l.made.items n so x at t.0 e _ c.requires.stand.v c.requires.stand.are c.in_err-opened.ensures.others
    (λ w h. c.redo.ensures.images n (w n) (this_read d0 d all c.args.decided.now l.made.items n so x at t.0 w h)) v are p

pub returns-in_err-opened-clause-others : goal.returns-in_err-opened-clause-others
returns-in_err-opened-clause-others g c =
    let l = c.loop-partition in
    let d0 = g.D.Disks.view c.args.disks.now in
    let d = g.D.Disks.view l.disks in
    let e = g.D.Disks.view c.redo.new.disks in
    let x = c.in-Some.partition in
    let all = c.args.read.items in
    let from = c.into_iter-partition-iterator.ensures.into_iter_gives in
    let t = YieldsList-turn (YieldsList-from_vec {s = c.into_iter-partition-iterator.result} all from.0 (from.1 ∙ c.args.read.ok.0)) l.yielded l.partition-iterator l.yielded_by c.next.result c.next.new.self x c.in-Some.is c.next.ensures.steps in
    let n = length l.yielded in
    let at : slice_get all n ≡ Some x = slice_get_read all (length all) n x refl t.0 t.1 in
    let q = err_from_is_err_and c.from_residual.result c.from_residual.ensures.1 in
    rw (q.1, q.2) (others_then d0 d all c.args.decided.now l.made.items n l.invariant x at t.0 e _ c.requires.stand.v c.requires.stand.are c.in_err-opened.ensures.others)

pub returns-in_err-opened-clause-cause : goal.returns-in_err-opened-clause-cause
returns-in_err-opened-clause-cause g c =
    let l = c.loop-partition in
    let q = err_from_is_err_and c.from_residual.result c.from_residual.ensures.1 in
    rw (q.1, q.2) (cause_on (g.D.Disks.view c.args.disks.now) (g.D.Disks.view l.disks) (g.D.Disks.view c.redo.new.disks) _ l.invariant.cause c.in_err-opened.ensures.cause)

pub returns-in_err-opened-clause-full : goal.returns-in_err-opened-clause-full
returns-in_err-opened-clause-full g c v us are have told =
    let l = c.loop-partition in
    let d0 = g.D.Disks.view c.args.disks.now in
    let d = g.D.Disks.view l.disks in
    let e = g.D.Disks.view c.redo.new.disks in
    let x = c.in-Some.partition in
    let all = c.args.read.items in
    let from = c.into_iter-partition-iterator.ensures.into_iter_gives in
    let t = YieldsList-turn (YieldsList-from_vec {s = c.into_iter-partition-iterator.result} all from.0 (from.1 ∙ c.args.read.ok.0)) l.yielded l.partition-iterator l.yielded_by c.next.result c.next.new.self x c.in-Some.is c.next.ensures.steps in
    let n = length l.yielded in
    let at : slice_get all n ≡ Some x = slice_get_read all (length all) n x refl t.0 t.1 in
    let so = l.invariant in
    let own : c.index-decided-number.result ≡ us n = units_at c.args.decided.now us n c.index-decided-number.result have (omega (arith, t.0, c.requires.ruled)) (c.index-decided-number.is ∙ ap (λ k. get_or c.args.decided.now k c.index-decided-number.result) (c.len-number.ensures ∙ l.made.ok.0 ∙ so.size)) in
    let q = err_from_is_err_and c.from_residual.result c.from_residual.ensures.1 in
    rw (q.1, q.2) (full_as d0 d n (length all) v us (pages_of x.partition) c.in_err-opened.field-0.0 t.0 (at_pages d0 d all c.args.decided.now l.made.items n so x at t.0 e None c.requires.stand.v c.requires.stand.are) so.others.shape.limit
    (subst (λ ids. FullOnly (pages_of x.partition) (d.limit (pages_of x.partition)) (page_place (page_bound ids (v n)) 0) (Some c.in_err-opened.field-0.0)) own
    (c.in_err-opened.ensures.full n (v n) (this_read d0 d all c.args.decided.now l.made.items n so x at t.0 v are) (so.others.shape.told ∙ told))))

-- MEMORY RUNS OUT

pub returns-in_err-push-clause-images : goal.returns-in_err-push-clause-images
returns-in_err-push-clause-images g c v are p low =
    let l = c.loop-partition in
    let d0 = g.D.Disks.view c.args.disks.now in
    let d = g.D.Disks.view l.disks in
    let e = g.D.Disks.view c.redo.new.disks in
    let x = c.in-Some.partition in
    let all = c.args.read.items in
    let from = c.into_iter-partition-iterator.ensures.into_iter_gives in
    let t = YieldsList-turn (YieldsList-from_vec {s = c.into_iter-partition-iterator.result} all from.0 (from.1 ∙ c.args.read.ok.0)) l.yielded l.partition-iterator l.yielded_by c.next.result c.next.new.self x c.in-Some.is c.next.ensures.steps in
    let n = length l.yielded in
    let at : slice_get all n ≡ Some x = slice_get_read all (length all) n x refl t.0 t.1 in
    let so = l.invariant in
    named_then d0 d all c.args.decided.now l.made.items n so x at t.0 e None c.requires.stand.v c.requires.stand.are c.in_ok-opened.ensures.others
    (λ w h. c.redo.ensures.images n (w n) (this_read d0 d all c.args.decided.now l.made.items n so x at t.0 w h)) v are p

pub returns-in_err-push-clause-others : goal.returns-in_err-push-clause-others
returns-in_err-push-clause-others g c =
    let l = c.loop-partition in
    let d0 = g.D.Disks.view c.args.disks.now in
    let d = g.D.Disks.view l.disks in
    let e = g.D.Disks.view c.redo.new.disks in
    let x = c.in-Some.partition in
    let all = c.args.read.items in
    let from = c.into_iter-partition-iterator.ensures.into_iter_gives in
    let t = YieldsList-turn (YieldsList-from_vec {s = c.into_iter-partition-iterator.result} all from.0 (from.1 ∙ c.args.read.ok.0)) l.yielded l.partition-iterator l.yielded_by c.next.result c.next.new.self x c.in-Some.is c.next.ensures.steps in
    let n = length l.yielded in
    let at : slice_get all n ≡ Some x = slice_get_read all (length all) n x refl t.0 t.1 in
    let q = err_from_is_err_and c.from_residual-in_err-push.result c.from_residual-in_err-push.ensures.1 in
    rw (q.1, q.2) (without_memory (IsPagesOf (length all)) d0 e (others_then d0 d all c.args.decided.now l.made.items n l.invariant x at t.0 e None c.requires.stand.v c.requires.stand.are c.in_ok-opened.ensures.others))

pub returns-in_err-push-clause-cause : goal.returns-in_err-push-clause-cause
returns-in_err-push-clause-cause g c =
    let l = c.loop-partition in
    let d0 = g.D.Disks.view c.args.disks.now in
    let e = g.D.Disks.view c.redo.new.disks in
    let q = err_from_is_err_and c.from_residual-in_err-push.result c.from_residual-in_err-push.ensures.1 in
    rw (q.1, q.2) (cause_memory d0 e (cause_on d0 (g.D.Disks.view l.disks) e None l.invariant.cause c.in_ok-opened.ensures.cause))

pub returns-in_err-push-clause-full : goal.returns-in_err-push-clause-full
returns-in_err-push-clause-full g c v us are have told =
    let q = err_from_is_err_and c.from_residual-in_err-push.result c.from_residual-in_err-push.ensures.1 in
    rw (q.1, q.2) tt

-- ALL ARE OPENED

pub returns-clause-ok : goal.returns-clause-ok
returns-clause-ok g c v us are have =
    let l = c.loop-partition in
    let all = c.args.read.items in
    let from = c.into_iter-partition-iterator.ensures.into_iter_gives in
    let t = YieldsList-end (YieldsList-from_vec {s = c.into_iter-partition-iterator.result} all from.0 (from.1 ∙ c.args.read.ok.0)) l.yielded l.partition-iterator l.yielded_by c.next.result c.next.new.self c.in-None.is c.next.ensures.steps in
    (omega (arith, l.invariant.size, t.1), record { each = l.invariant.done v us are have })

pub returns-clause-images : goal.returns-clause-images
returns-clause-images g c v are p low = c.loop-partition.invariant.named v are p
