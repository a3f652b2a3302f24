use Rattle.salt_decisions.proofs.Contents.{log_bytes, no_header, outside}
use Rattle.salt_decisions.proofs.read.read_log.Goals as goal
use Rattle.salt_bytes.specs.Coordinator.{header_in}
use Rattle.salt_decisions.specs.Header.{header_of}
use Rattle.std.specs.Prelude.{option_map}
use Rattle.salt_bytes.specs.Log.{entries_in}
use Rattle.salt_gatelog.proofs.Entries.{keeps_then}
use Rattle.salt_gatelog.specs.Log.{device_of}
use Rattle.std.proofs.Common.{ap, drop, sym, ◌∙◌}
use Rattle.std.specs.Result.{result_err}

pub returns-in-Some-clause-kept : goal.returns-in-Some-clause-kept
returns-in-Some-clause-kept g c =
    keeps_then (g.D.Disks.view c.args.disks.now) (g.D.Disks.view c.payload_at.new.disks) (g.D.Disks.view c.read_entries.new.disks) (result_err c.read_entries.result) c.in_ok-payload.ensures.kept c.read_entries.ensures.kept

pub returns-in-None-clause-content : goal.returns-in-None-clause-content
returns-in-None-clause-content g c told' =
    let e = g.D.Disks.view c.payload_at.new.disks in
    let told = sym c.in_ok-payload.ensures.kept.shape.told ∙ told' in
    let entries = c.requires.log.0 in
    let is = c.requires.log.1 in
    let now = c.in_ok-payload.ensures.log entries is in
    outside entries c.in_ok-payload.payload.items (e.bytes (device_of c.args.gate)) (c.in_ok-payload.ensures.payload entries is told)
    (ap (λ dev. entries_in (e.bytes dev)) (sym c.in_ok-payload.ensures.same.device) ∙ log_bytes e c.payload_at.new.gate entries told' now)
    (no_header c.in_ok-payload.payload.items (drop 1 entries) (ap header_in (sym c.deref.ensures.value) ∙ sym c.in_ok-header.ensures.found ∙ ap (option_map header_of) c.in-None.is))
