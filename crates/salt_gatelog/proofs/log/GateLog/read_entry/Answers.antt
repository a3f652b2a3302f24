use Rattle.salt_disk.specs.Disks.{KeepsAll}
use Rattle.salt_gatelog.proofs.Entries.{entry_of, entry_stands, got, keeps_then, keeps_without_memory, payload_there, stays_log, step_on, whatever}
use Rattle.salt_gatelog.proofs.Frame.{log_kept}
use Rattle.salt_gatelog.proofs.log.GateLog.read_entry.Goals as goal
use Rattle.salt_gatelog.specs.Log.{IsLog}
use Rattle.std.proofs.Common.{None, Some, arith, refl, sym, ◌∙◌}
use Rattle.std.proofs.lemmas.Result.{err_from_is_err_and}

pub size_at-requires-clause-entry : goal.size_at-requires-clause-entry
size_at-requires-clause-entry g c told =
    let entries = c.requires.log.0 in
    let first = c.requires.log.1 in
    let is = c.in_ok-find.ensures.moved entries first in
    (entry_of entries c.find.new.self.next, entry_stands (g.D.Disks.view c.find.new.disks) c.find.new.self entries is (omega (arith, c.in_ok-find.ensures.found, c.requires.below, first.count)) told)

pub bytes_at-requires-clause-there : goal.bytes_at-requires-clause-there
bytes_at-requires-clause-there g c told' =
    let d = g.D.Disks.view c.find.new.disks in
    let e = g.D.Disks.view c.size_at.new.disks in
    let keeps : KeepsAll d e None = c.in_ok-size.ensures.kept in
    let told = sym keeps.shape.told ∙ told' in
    let log = c.find.new.self in
    let entries = c.requires.log.0 in
    let first = c.requires.log.1 in
    let is = c.in_ok-find.ensures.moved entries first in
    let here = entry_stands d log entries is (omega (arith, c.in_ok-find.ensures.found, c.requires.below, first.count)) told in
    rw (keeps.kept log.dev (λ none. none)).bytes (payload_there (entry_of entries log.next) (d.bytes log.dev) log.place log.end c.in_ok-size.size here (c.in_ok-size.ensures.size told (entry_of entries log.next) here))

pub returns-in_err-size-clause-kept : goal.returns-in_err-size-clause-kept
returns-in_err-size-clause-kept g c =
    let p = err_from_is_err_and c.from_residual-in_err-size.result c.from_residual-in_err-size.ensures.1 in
    rw (p.1, p.2) (keeps_then (g.D.Disks.view c.args.disks.now) (g.D.Disks.view c.find.new.disks) (g.D.Disks.view c.size_at.new.disks) (Some c.in_err-size.field-0.0) c.in_ok-find.ensures.kept c.in_err-size.ensures.kept)

pub returns-in_err-payload-clause-kept : goal.returns-in_err-payload-clause-kept
returns-in_err-payload-clause-kept g c =
    let d0 = g.D.Disks.view c.args.disks.now in
    let d2 = g.D.Disks.view c.size_at.new.disks in
    let before : KeepsAll d0 d2 None = keeps_then d0 (g.D.Disks.view c.find.new.disks) d2 None c.in_ok-find.ensures.kept c.in_ok-size.ensures.kept in
    let p = err_from_is_err_and c.from_residual-in_err-payload.result c.from_residual-in_err-payload.ensures.1 in
    rw (p.1, p.2) (keeps_then d0 d2 (g.D.Disks.view c.bytes_at.new.disks) (Some c.in_err-payload.field-0.0) before c.in_err-payload.ensures.kept)

pub returns-in_err-extend_from_slice-clause-log : goal.returns-in_err-extend_from_slice-clause-log
returns-in_err-extend_from_slice-clause-log g c entries first =
    let d1 = g.D.Disks.view c.find.new.disks in
    let d2 = g.D.Disks.view c.size_at.new.disks in
    let d3 = g.D.Disks.view c.bytes_at.new.disks in
    let log = c.find.new.self in
    let keeps : KeepsAll d1 d3 None = keeps_then d1 d2 d3 None c.in_ok-size.ensures.kept c.in_ok-payload.ensures.kept in
    whatever _ (IsLog d3 log entries) (log_kept d1 d3 log entries keeps.shape (keeps.kept log.dev (λ none. none)) (c.in_ok-find.ensures.moved entries first))

pub returns-in_err-extend_from_slice-clause-kept : goal.returns-in_err-extend_from_slice-clause-kept
returns-in_err-extend_from_slice-clause-kept g c =
    let d0 = g.D.Disks.view c.args.disks.now in
    let d2 = g.D.Disks.view c.size_at.new.disks in
    let d3 = g.D.Disks.view c.bytes_at.new.disks in
    let before : KeepsAll d0 d2 None = keeps_then d0 (g.D.Disks.view c.find.new.disks) d2 None c.in_ok-find.ensures.kept c.in_ok-size.ensures.kept in
    let p = err_from_is_err_and c.from_residual-in_err-extend_from_slice.result c.from_residual-in_err-extend_from_slice.ensures.1 in
    rw (p.1, p.2) (keeps_without_memory d0 d3 (keeps_then d0 d2 d3 None before c.in_ok-payload.ensures.kept))

pub returns-clause-entry : goal.returns-clause-entry
returns-clause-entry g c =
    let d0 = g.D.Disks.view c.args.disks.now in
    let d1 = g.D.Disks.view c.find.new.disks in
    let d2 = g.D.Disks.view c.size_at.new.disks in (
      c.deref.result.now,
      (
        c.in_ok-extend_from_slice.ensures.items,
        λ entries first told.
            let told1 = c.in_ok-find.ensures.kept.shape.told ∙ told in
            let told2 = c.in_ok-size.ensures.kept.shape.told ∙ told1 in
            got d1 d2 c.find.new.self entries c.deref.result.now c.args.i c.in_ok-size.size (c.in_ok-find.ensures.moved entries first) c.in_ok-size.ensures.kept c.in_ok-find.ensures.found
            (omega (arith, c.requires.below, first.count)) told1 (c.in_ok-size.ensures.size told1) (c.deref.ensures.value ∙ c.in_ok-payload.ensures.bytes told2),
      ),
    )

pub returns-clause-log : goal.returns-clause-log
returns-clause-log g c entries first =
    let d1 = g.D.Disks.view c.find.new.disks in
    let d2 = g.D.Disks.view c.size_at.new.disks in
    let d3 = g.D.Disks.view c.bytes_at.new.disks in
    step_on d1 d3 c.find.new.self _ entries c.in_ok-size.size (c.in_ok-find.ensures.moved entries first) (keeps_then d1 d2 d3 None c.in_ok-size.ensures.kept c.in_ok-payload.ensures.kept)
    (record { device = refl; gate = refl; count = refl }) refl refl (omega arith) (omega (arith, c.in_ok-find.ensures.found, c.requires.below, first.count)) c.in_ok-size.ensures.ends c.in_ok-size.ensures.size

pub returns-clause-kept : goal.returns-clause-kept
returns-clause-kept g c =
    let d0 = g.D.Disks.view c.args.disks.now in
    let d2 = g.D.Disks.view c.size_at.new.disks in
    let before : KeepsAll d0 d2 None = keeps_then d0 (g.D.Disks.view c.find.new.disks) d2 None c.in_ok-find.ensures.kept c.in_ok-size.ensures.kept in
    keeps_then d0 d2 (g.D.Disks.view c.bytes_at.new.disks) None before c.in_ok-payload.ensures.kept

pub returns-in_err-payload-clause-log : goal.returns-in_err-payload-clause-log
returns-in_err-payload-clause-log g c entries first =
    let d1 = g.D.Disks.view c.find.new.disks in
    let d3 = g.D.Disks.view c.bytes_at.new.disks in
    let keeps = keeps_then d1 (g.D.Disks.view c.size_at.new.disks) d3 (Some c.in_err-payload.field-0.0) c.in_ok-size.ensures.kept c.in_err-payload.ensures.kept in
    let p = err_from_is_err_and c.from_residual-in_err-payload.result c.from_residual-in_err-payload.ensures.1 in
    rw (p.1, p.2) (stays_log d1 d3 c.find.new.self entries (Some c.in_err-payload.field-0.0) keeps (c.in_ok-find.ensures.moved entries first))
