use Rattle.salt_promise.specs.declared.status.Status.{Status}
use Rattle.salt_loop.proofs.Counts.{added-unwritten}
use Rattle.salt_loop.proofs.Texts.{counts-written, of-devices, of-line}
use Rattle.salt_loop.proofs.Told.{told-err, told-ok}
use Rattle.salt_loop.proofs.lines.tell_line.Goals as goal
use Rattle.salt_loop.specs.Counted.{CountsAdded}
use Rattle.std.proofs.Common.{ap, drop, ◌∙◌}
use Rattle.std.specs.Option.{option_copied}

pub write_done-requires : goal.write_done-requires
write_done-requires g c = of-devices c.do_line-done.result c.do_line-done.ensures.later

pub schema-requires : goal.schema-requires
schema-requires g c = record { able = c.do_line-done.ensures.able }

pub returns-clause-ok : goal.returns-clause-ok
returns-clause-ok g c =
    let view = g.D.Disks.view in
    let now = view c.do_line-done.new.disks in
    let e = c.do_line-done.new.database in
    told-ok (g.E.Stepping.stands_for (view c.args.disks.now)) (g.E.Stepping.stands_for now) (g.E.Stepping.on_devices now e) (g.E.Stepping.flight e) c.args.database.now e
    c.stands.ensures.idle c.stands.ensures.flown c.stands.ensures.reopens c.stands.ensures.told c.schema.result.now c.schema.ensures.serves c.schema.ensures.down (option_copied c.args.text) c.args.story.now c.do_line-done.new.story c.events_behind.result.now
    (g.K.Sink.held c.args.sink.now) (g.K.Sink.held c.write_done.new.sink) (c.events_behind.ensures ∙ ap (λ n. drop n c.do_line-done.new.story) c.len-told.ensures) (view c.args.disks.now).armed now.armed c.do_line-done.result c.write_done.result c.do_line-done.ensures.ok c.write_done.ensures.written

pub returns-clause-err : goal.returns-clause-err
returns-clause-err g c =
    let view = g.D.Disks.view in
    let now = view c.do_line-done.new.disks in
    let e = c.do_line-done.new.database in
    told-err (g.E.Stepping.stands_for (view c.args.disks.now)) (g.E.Stepping.stands_for now) (g.E.Stepping.on_devices now e) (g.E.Stepping.flight e) c.args.database.now e
    c.stands.ensures.idle c.stands.ensures.flown c.stands.ensures.reopens c.stands.ensures.told c.schema.result.now c.schema.ensures.serves c.schema.ensures.down (option_copied c.args.text) c.args.story.now c.do_line-done.new.story c.events_behind.result.now
    (g.K.Sink.held c.args.sink.now) (g.K.Sink.held c.write_done.new.sink) (c.events_behind.ensures ∙ ap (λ n. drop n c.do_line-done.new.story) c.len-told.ensures) (view c.args.disks.now).armed now.armed c.do_line-done.result c.write_done.result c.do_line-done.ensures.ok c.do_line-done.ensures.err c.do_line-done.ensures.later
    c.write_done.ensures.written

pub returns-clause-of_line : goal.returns-clause-of_line
returns-clause-of_line g c = of-line c.do_line-done.result c.write_done.result _ _ _ c.do_line-done.ensures.later c.write_done.ensures.written

pub returns-clause-counts : goal.returns-clause-counts
returns-clause-counts g c =
    let view = g.D.Disks.view in
    counts-written c.do_line-done.result c.write_done.result _ _ _ (λ (s : Status). CountsAdded (view c.args.disks.now) (view c.do_line-done.new.disks) s c.args.story.now c.do_line-done.new.story)
    (λ s. added-unwritten (view c.args.disks.now) (view c.do_line-done.new.disks) s c.args.story.now c.do_line-done.new.story) c.do_line-done.ensures.counts c.write_done.ensures.written

pub do_line-done-requires-clause-able : goal.do_line-done-requires-clause-able
do_line-done-requires-clause-able g c = c.requires.able

pub returns-clause-able : goal.returns-clause-able
returns-clause-able g c = c.do_line-done.ensures.able
