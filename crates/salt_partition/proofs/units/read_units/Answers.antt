use Rattle.salt_bytes.specs.Partition.{prepared_in}
use Rattle.salt_disk.proofs.CallAfterCall.{cause_on}
use Rattle.salt_codec.specs.Entries.{prepared_of}
use Rattle.salt_gatelog.proofs.Entries.{keeps_then, keeps_without_memory}
use Rattle.salt_partition.proofs.Gathered.{gathered_fails, gathered_next}
use Rattle.salt_bytes.specs.Spellable.{Every}
use Rattle.salt_partition.proofs.Keyed.{every_push, if_some}
use Rattle.salt_partition.proofs.Seeing.{units_pushed}
use Rattle.salt_partition.proofs.units.read_units.Goals as goal
use Rattle.salt_partition.specs.Contents.{ArePut, units_of}
use Rattle.salt_stands.specs.PartitionLog.{gathered}
use Rattle.std.proofs.Common.{None, Some, ap, arith, drop, slice_get, subst, sym, ◌+◌, ◌≡◌, ◌∙◌}
use Rattle.std.proofs.lemmas.Result.{err_from_is_err_and}
use Rattle.std.specs.Prelude.{option_map, option_and_then}

pub returns-in_err-unit-clause-kept : goal.returns-in_err-unit-clause-kept
returns-in_err-unit-clause-kept g c =
    let p = err_from_is_err_and c.from_residual.result c.from_residual.ensures.1 in
    rw (p.1, p.2) (keeps_then (g.D.Disks.view c.args.disks.now) (g.D.Disks.view c.loop-i.disks) (g.D.Disks.view c.unit_at.new.disks) (Some c.in_err-unit.field-0.0) c.loop-i.invariant.keeps c.in_err-unit.ensures.kept)

pub returns-in_err-unit-clause-cause : goal.returns-in_err-unit-clause-cause
returns-in_err-unit-clause-cause g c =
    let p = err_from_is_err_and c.from_residual.result c.from_residual.ensures.1 in
    rw (p.1, p.2) (cause_on (g.D.Disks.view c.args.disks.now) (g.D.Disks.view c.loop-i.disks) (g.D.Disks.view c.unit_at.new.disks) (Some c.in_err-unit.field-0.0) c.loop-i.invariant.cause c.in_err-unit.ensures.cause)

pub returns-in_err-push-in-Some-clause-kept : goal.returns-in_err-push-in-Some-clause-kept
returns-in_err-push-in-Some-clause-kept g c =
    let d0 = g.D.Disks.view c.args.disks.now in
    let e = g.D.Disks.view c.unit_at.new.disks in
    let p = err_from_is_err_and c.from_residual-in_err-push-in-Some.result c.from_residual-in_err-push-in-Some.ensures.1 in
    rw (p.1, p.2) (keeps_without_memory d0 e (keeps_then d0 (g.D.Disks.view c.loop-i.disks) e None c.loop-i.invariant.keeps c.in_ok-unit.ensures.kept))

pub returns-in-None-clause-units : goal.returns-in-None-clause-units
returns-in-None-clause-units g c entries first told =
    let l = c.loop-i in
    let told' = l.invariant.keeps.shape.told ∙ told in
    let read : None ≡ option_and_then (prepared_in c.args.nulls) (slice_get entries l.i) = ap (option_map prepared_of) (sym c.in-None.is) ∙ c.in_ok-unit.ensures.unit entries (l.invariant.is_log entries first) told' in
    sym (gathered_fails c.args.nulls (units_of l.units.items) entries l.i (omega (arith, c.loop-i-test.true, c.count-i-end.ensures, first.count)) read) ∙ l.invariant.so_far entries first told

pub returns-in-None-clause-kept : goal.returns-in-None-clause-kept
returns-in-None-clause-kept g c = keeps_then (g.D.Disks.view c.args.disks.now) (g.D.Disks.view c.loop-i.disks) (g.D.Disks.view c.unit_at.new.disks) None c.loop-i.invariant.keeps c.in_ok-unit.ensures.kept

pub loop-i-preserved : goal.loop-i-preserved
loop-i-preserved g c =
    let l = c.loop-i in
    let d0 = g.D.Disks.view c.args.disks.now in
    let d = g.D.Disks.view l.disks in
    let e = g.D.Disks.view c.unit_at.new.disks in
    record {
      is_log = λ entries first. c.in_ok-unit.ensures.log entries (l.invariant.is_log entries first);
      same = record {
        device = c.in_ok-unit.ensures.same.device ∙ l.invariant.same.device;
        gate = c.in_ok-unit.ensures.same.gate ∙ l.invariant.same.gate;
        count = c.in_ok-unit.ensures.same.count ∙ l.invariant.same.count;
      };
      keeps = keeps_then d0 d e None l.invariant.keeps c.in_ok-unit.ensures.kept;
      cause = cause_on d0 d e None l.invariant.cause c.in_ok-unit.ensures.cause;
      put = subst (Every ArePut) (sym (units_pushed l.units.items c.push.new.self.items c.in-Some.unit c.in_ok-push-in-Some.ensures.items))
          (every_push ArePut (units_of l.units.items) (prepared_of c.in-Some.unit) l.invariant.put (if_some c.in_ok-unit.field-0 c.in-Some.unit (λ unit. ArePut (prepared_of unit)) c.in-Some.is c.in_ok-unit.ensures.put));
      so_far = λ entries first told.
          let told' = l.invariant.keeps.shape.told ∙ told in
          let nulls = c.args.nulls in
          let x = prepared_of c.in-Some.unit in
          let read : Some x ≡ option_and_then (prepared_in nulls) (slice_get entries l.i) = ap (option_map prepared_of) (sym c.in-Some.is) ∙ c.in_ok-unit.ensures.unit entries (l.invariant.is_log entries first) told' in
          ap (λ us. gathered nulls (Some us) (drop (l.i + 1) entries)) (units_pushed l.units.items c.push.new.self.items c.in-Some.unit c.in_ok-push-in-Some.ensures.items)
          ∙ sym (gathered_next nulls (units_of l.units.items) entries l.i x (omega (arith, c.loop-i-test.true, c.count-i-end.ensures, first.count)) read)
          ∙ l.invariant.so_far entries first told;
    }

pub returns-clause-put : goal.returns-clause-put
returns-clause-put g c = c.loop-i.invariant.put
