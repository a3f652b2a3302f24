use Rattle.salt_disk.proofs.CallAfterCall.{cause_memory, cause_on, keeps_on}
use Rattle.salt_gatelog.proofs.Entries.{keeps_without_memory}
use Rattle.salt_parts.proofs.Reading.{ReadSoFar, first_fault, none_read, one_read, room_on}
use Rattle.salt_parts.proofs.read.read_all.Goals as goal
use Rattle.salt_parts.specs.Openings.{ReadsAll}
use Rattle.salt_stands.specs.FirstOpening.{first_view}
use Rattle.salt_stands.specs.Partition.{pages_device, part_device}
use Rattle.std.proofs.Common.{None, arith, subst, sym, ◌+◌, ◌≡◌, ◌∙◌}
use Rattle.std.proofs.lemmas.Result.{err_from_is_err_and}

pub loop-part-init : goal.loop-part-init
loop-part-init g c =
    let d = g.D.Disks.view c.args.disks.now in
    subst (λ xs. ReadSoFar d d c.args.schema.now c.args.shape c.args.ruling.now xs 0) (sym c.new-all.ensures.items) (none_read d c.args.schema.now c.args.shape c.args.ruling.now (first_view 2))

-- THE NEXT ONE may be read

pub read_fitting-requires-clause-ruled : goal.read_fitting-requires-clause-ruled
read_fitting-requires-clause-ruled g c = omega (arith, c.loop-part-test.true, c.requires.ruled)

pub read_fitting-requires-clause-known : goal.read_fitting-requires-clause-known
read_fitting-requires-clause-known g c =
    let l = c.loop-part in
    (room_on c.args.shape.parts (g.D.Disks.view c.args.disks.now) (g.D.Disks.view l.disks) l.invariant.keeps c.requires.room).known l.part (omega (arith, c.loop-part-test.true))

pub read_fitting-requires-clause-settled_a : goal.read_fitting-requires-clause-settled_a
read_fitting-requires-clause-settled_a g c =
    let l = c.loop-part in
    let room = room_on c.args.shape.parts (g.D.Disks.view c.args.disks.now) (g.D.Disks.view l.disks) l.invariant.keeps c.requires.room in
    room.settled (part_device l.part) (let known = room.known l.part (omega (arith, c.loop-part-test.true)) in omega (arith, known))

pub read_fitting-requires-clause-settled_b : goal.read_fitting-requires-clause-settled_b
read_fitting-requires-clause-settled_b g c =
    let l = c.loop-part in
    let room = room_on c.args.shape.parts (g.D.Disks.view c.args.disks.now) (g.D.Disks.view l.disks) l.invariant.keeps c.requires.room in
    room.settled (part_device l.part + 1) (let known = room.known l.part (omega (arith, c.loop-part-test.true)) in omega (arith, known))

pub read_fitting-requires-clause-pages : goal.read_fitting-requires-clause-pages
read_fitting-requires-clause-pages g c =
    let l = c.loop-part in
    let room = room_on c.args.shape.parts (g.D.Disks.view c.args.disks.now) (g.D.Disks.view l.disks) l.invariant.keeps c.requires.room in
    room.settled (pages_device l.part) (room.known l.part (omega (arith, c.loop-part-test.true)))

-- IT IS REFUSED

pub returns-in_err-partition-clause-why : goal.returns-in_err-partition-clause-why
returns-in_err-partition-clause-why g c reading c' k has told =
    let l = c.loop-part in
    let p = err_from_is_err_and c.from_residual.result c.from_residual.ensures.1 in
    rw (p.1, p.2) (first_fault (g.D.Disks.view c.args.disks.now) (g.D.Disks.view l.disks) c.args.schema.now c.args.shape c.args.ruling.now l.all.items l.part l.invariant reading c' k has told c.args.shape.parts (omega (arith, c.loop-part-test.true)) c.in_err-partition.field-0.0
    (c.in_err-partition.ensures.why reading c' k has (l.invariant.keeps.shape.told ∙ told)))

pub returns-in_err-partition-clause-kept : goal.returns-in_err-partition-clause-kept
returns-in_err-partition-clause-kept g c =
    let l = c.loop-part in
    let p = err_from_is_err_and c.from_residual.result c.from_residual.ensures.1 in
    rw (p.1, p.2) (keeps_on (λ _. ⊥) (g.D.Disks.view c.args.disks.now) (g.D.Disks.view l.disks) (g.D.Disks.view c.read_fitting.new.disks) _ l.invariant.keeps c.in_err-partition.ensures.kept)

pub returns-in_err-partition-clause-cause : goal.returns-in_err-partition-clause-cause
returns-in_err-partition-clause-cause g c =
    let l = c.loop-part in
    let p = err_from_is_err_and c.from_residual.result c.from_residual.ensures.1 in
    rw (p.1, p.2) (cause_on (g.D.Disks.view c.args.disks.now) (g.D.Disks.view l.disks) (g.D.Disks.view c.read_fitting.new.disks) _ l.invariant.cause c.in_err-partition.ensures.cause)

-- MEMORY RUNS OUT

pub returns-in-Err-clause-kept : goal.returns-in-Err-clause-kept
returns-in-Err-clause-kept g c =
    let l = c.loop-part in
    rw c.into.ensures (keeps_without_memory (g.D.Disks.view c.args.disks.now) (g.D.Disks.view c.read_fitting.new.disks)
    (keeps_on (λ _. ⊥) (g.D.Disks.view c.args.disks.now) (g.D.Disks.view l.disks) (g.D.Disks.view c.read_fitting.new.disks) None l.invariant.keeps c.in_ok-partition.ensures.kept))

pub returns-in-Err-clause-cause : goal.returns-in-Err-clause-cause
returns-in-Err-clause-cause g c =
    let l = c.loop-part in
    let d = g.D.Disks.view c.args.disks.now in
    let e = g.D.Disks.view c.read_fitting.new.disks in
    rw c.into.ensures (cause_memory d e (cause_on d (g.D.Disks.view l.disks) e None l.invariant.cause c.in_ok-partition.ensures.cause))

-- ONE MORE IS READ

pub loop-part-preserved : goal.loop-part-preserved
loop-part-preserved g c =
    let l = c.loop-part in
    let d = g.D.Disks.view c.args.disks.now in
    let e = g.D.Disks.view c.read_fitting.new.disks in
    subst (λ xs. ReadSoFar d e c.args.schema.now c.args.shape c.args.ruling.now xs (l.part + 1)) (sym c.in_default.ensures.items)
    (one_read d (g.D.Disks.view l.disks) c.args.schema.now c.args.shape c.args.ruling.now l.all.items l.part l.invariant e c.in_ok-partition.partition c.in_ok-partition.ensures.kept c.in_ok-partition.ensures.cause c.in_ok-partition.ensures.reads)

pub returns-clause-reads : goal.returns-clause-reads
returns-clause-reads g c reading c' k =
    let l = c.loop-part in
    let last : l.part ≡ c.args.shape.parts = omega (arith, c.loop-part-test.false, l.auto.part-end) in
    subst (λ n. ReadsAll reading c.args.schema.now c.args.shape n (g.D.Disks.view c.args.disks.now) (g.D.Disks.view l.disks) c' l.all.items) last (l.invariant.all reading c' k)
