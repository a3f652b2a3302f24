use Rattle.salt_promise.specs.Given.{Run, world}
use Rattle.salt_run.proofs.Audited.{no_usage}
use Rattle.salt_run.proofs.Running.{load-runs, script-runs}
use Rattle.salt_run.proofs.Said.{command-within}
use Rattle.salt_run.proofs.command.run.Goals as goal
use Rattle.salt_promise.specs.Words.{command_of}
use Rattle.salt_promise.specs.declared.command.Command.TheVariants.{Load, Script}
use Rattle.std.proofs.Common.{Some, arith, refl, sym, true≢false, ◌∙◌, ◌≡◌}
use Rattle.std.specs.Prelude.{◌≤◌}

pub run_script-requires-clause-parts : goal.run_script-requires-clause-parts
run_script-requires-clause-parts g c =
    let a = c.in-Some-Script.is in
    let b = c.in-Some-Script.ensures in
    let x = c.in-Some-Script.field-0-is in
    let y = c.in-Some-Script.shape-is in
    let z = c.in-Some-Script.early-is in
    let w = c.in-Some-Script.over_net-is in
    let is : command_of c.args.words.now ≡ Some (Script c.in-Some-Script.shape c.in-Some-Script.early c.in-Some-Script.over_net) = cc in
    command-within c.args.words.now (Script c.in-Some-Script.shape c.in-Some-Script.early c.in-Some-Script.over_net) is

pub returns-in-Some-Script-clause-runs : goal.returns-in-Some-Script-clause-runs
returns-in-Some-Script-clause-runs g c = λ other.
    let a = c.in-Some-Script.is in
    let b = c.in-Some-Script.ensures in
    let x = c.in-Some-Script.field-0-is in
    let y = c.in-Some-Script.shape-is in
    let z = c.in-Some-Script.early-is in
    let w = c.in-Some-Script.over_net-is in
    let is : command_of c.args.words.now ≡ Some (Script c.in-Some-Script.shape c.in-Some-Script.early c.in-Some-Script.over_net) = cc in
    let e = c.run_script.new in
    let h = c.run_script.ensures in
    let r : Run = record {
      command = command_of c.args.words.now;
      before = world (g.S.Source.left c.args.source.now) (g.S.Source.faults c.args.source.now) (g.K.Sink.held c.args.sink.now) (g.K.Sink.faults c.args.sink.now) (g.D.Disks.view c.args.disks.now);
      after = world (g.S.Source.left e.source) (g.S.Source.faults e.source) (g.K.Sink.held e.sink) (g.K.Sink.faults e.sink) (g.D.Disks.view e.disks);
      status = c.run_script.result.status;
      flight = c.run_script.result.flight;
      story = c.run_script.result.story;
      net = c.run_script.result.net;
    } in
    script-runs (record { each = c.definitions_are_read.ensures }) r c.requires.devices h.read_fault h.no_read_fault h.reads_later h.write_fault h.no_write_fault h.writes_later h.downs c.every_net_is_agreed.ensures
    c.in-Some-Script.shape c.in-Some-Script.early c.in-Some-Script.over_net is (command-within c.args.words.now (Script c.in-Some-Script.shape c.in-Some-Script.early c.in-Some-Script.over_net) is) h.within h.done h.runs

pub run_load-requires-clause-drained : goal.run_load-requires-clause-drained
run_load-requires-clause-drained g c = c.openings_do_their_rests.ensures.load c.in-Some-Load.calls

pub returns-in-Some-Load-clause-runs : goal.returns-in-Some-Load-clause-runs
returns-in-Some-Load-clause-runs g c = λ other.
    let a = c.in-Some-Load.is in
    let b = c.in-Some-Load.ensures in
    let x = c.in-Some-Load.field-0-is in
    let y = c.in-Some-Load.calls-is in
    let is : command_of c.args.words.now ≡ Some (Load c.in-Some-Load.calls) = cc in
    let e = c.run_load.new in
    let h = c.run_load.ensures in
    let left = g.S.Source.left c.args.source.now in
    let faults = g.S.Source.faults c.args.source.now in
    let still : faults ≤ faults = omega arith in
    let r : Run = record {
      command = command_of c.args.words.now;
      before = world left faults (g.K.Sink.held c.args.sink.now) (g.K.Sink.faults c.args.sink.now) (g.D.Disks.view c.args.disks.now);
      after = world left faults (g.K.Sink.held e.sink) (g.K.Sink.faults e.sink) (g.D.Disks.view e.disks);
      status = c.run_load.result.status;
      flight = c.run_load.result.flight;
      story = c.run_load.result.story;
      net = c.run_load.result.net;
    } in
    load-runs (record { each = c.definitions_are_read.ensures }) r c.requires.devices (λ read. absurd (h.unread read)) (λ other. refl) still h.write_fault h.no_write_fault h.writes_later h.downs c.every_net_is_agreed.ensures
    c.in-Some-Load.calls is (command-within c.args.words.now (Load c.in-Some-Load.calls) is) h.within refl (h.runs left)

-- THE WORD `audit`

pub returns-then-asks_audit-clause-runs : goal.returns-then-asks_audit-clause-runs
returns-then-asks_audit-clause-runs g c = λ other. absurd (true≢false (sym c.if-asks_audit.true ∙ c.asks_audit.ensures ∙ other))

pub returns-then-asks_audit-clause-audits : goal.returns-then-asks_audit-clause-audits
returns-then-asks_audit-clause-audits g c = λ is. (c.new.ensures, refl, refl, refl, c.run_audit.ensures)

pub returns-then-asks_audit-clause-untouched : goal.returns-then-asks_audit-clause-untouched
returns-then-asks_audit-clause-untouched g c = λ is. absurd (no_usage c.run_audit.result _ _ _ _ c.run_audit.ensures is)

pub returns-in-Some-Script-clause-audits : goal.returns-in-Some-Script-clause-audits
returns-in-Some-Script-clause-audits g c = λ is. absurd (true≢false (sym is ∙ sym c.asks_audit.ensures ∙ c.if-asks_audit.false))

pub returns-in-Some-Load-clause-audits : goal.returns-in-Some-Load-clause-audits
returns-in-Some-Load-clause-audits g c = λ is. absurd (true≢false (sym is ∙ sym c.asks_audit.ensures ∙ c.if-asks_audit.false))

pub returns-in-None-clause-audits : goal.returns-in-None-clause-audits
returns-in-None-clause-audits g c = λ is. absurd (true≢false (sym is ∙ sym c.asks_audit.ensures ∙ c.if-asks_audit.false))
