use Rattle.salt_model.specs.Arming.{armed_by_lines}
use Rattle.salt_model.specs.EventTexts.{story_text}
use Rattle.salt_model.specs.Trace.{Start, Trace}
use Rattle.salt_model.specs.declared.events.Event.{Event}
use Rattle.salt_promise.specs.declared.status.Status.{Status}
use Rattle.salt_loop.proofs.Beginning.{begun-err, begun-ok, never-read}
use Rattle.salt_loop.proofs.Counts.{added-opened, added-unwritten}
use Rattle.salt_loop.proofs.Outcomes.{err-for-all, ok-for-all}
use Rattle.salt_loop.proofs.Texts.{counts-written, of-devices}
use Rattle.salt_loop.proofs.serving.begin.Goals as goal
use Rattle.salt_loop.specs.Run.{script_run, streams}
use Rattle.salt_loop.specs.Counted.{CountsAdded}
use Rattle.salt_loop.specs.Ending.{EndsServing}
use Rattle.salt_loop.specs.Serving.{EndsWriting, IsBegun, IsToBegin}
use Rattle.salt_loop.specs.Stopping.{outcome, status_of}
use Rattle.std.proofs.Common.{subst}
use Rattle.std.proofs.lemmas.Result.{IfErr-weaker, on_ok_weaker}
use Rattle.std.specs.Prelude.{List, Option, Some, ℕ, ◌≡◌}

pub start-done-requires-clause-down : goal.start-done-requires-clause-down
start-done-requires-clause-down g c = λ told. let b = c.requires.begins told in (b.0, b.1, b.2.down)

pub write_done-requires : goal.write_done-requires
write_done-requires g c = of-devices c.start-done.result c.start-done.ensures.later

pub schema-requires : goal.schema-requires
schema-requires g c = record { able = c.start-done.ensures.able }

pub returns-clause-ok : goal.returns-clause-ok
returns-clause-ok g c =
    let old = g.D.Disks.view c.args.disks.now in
    let now = g.D.Disks.view c.start-done.new.disks in
    let e = c.start-done.new.database in
    ok-for-all Start Trace (λ start trace. IsToBegin (g.E.Stepping.on_devices old c.args.database.now) (g.E.Stepping.flight c.args.database.now) start c.args.story.now trace) c.write_done.result
    (λ start trace. (first : List (ℕ × ℕ)) → armed_by_lines first trace ≡ Some old.armed → IsBegun (g.E.Stepping.stands_for now e) start c.start-done.new.story (g.K.Sink.held c.args.sink.now) (g.K.Sink.held c.write_done.new.sink) first now.armed) (λ start trace begins.
    begun-ok (g.E.Stepping.stands_for now) (g.E.Stepping.on_devices now e) (g.E.Stepping.flight e) e c.stands.ensures.idle c.stands.ensures.flown c.stands.ensures.reopens c.stands.ensures.told
    c.schema.result.now c.schema.ensures.serves c.schema.ensures.down c.args.story.now c.start-done.new.story (g.K.Sink.held c.args.sink.now) (g.K.Sink.held c.write_done.new.sink) start trace begins.unasked old now
    c.start-done.result c.write_done.result (on_ok_weaker c.start-done.result (λ opened. opened start trace begins.down) c.start-done.ensures.ok) c.start-done.ensures.counts
    (subst (λ (es : List Event). EndsWriting c.start-done.result (story_text c.schema.result.now es) (g.K.Sink.held c.args.sink.now) (g.K.Sink.held c.write_done.new.sink) c.write_done.result)
    c.as_slice.ensures c.write_done.ensures.written))

pub returns-clause-stops : goal.returns-clause-stops
returns-clause-stops g c =
    let old = g.D.Disks.view c.args.disks.now in
    let now = g.D.Disks.view c.start-done.new.disks in
    let e = c.start-done.new.database in
    err-for-all Start Trace (λ start trace. IsToBegin (g.E.Stepping.on_devices old c.args.database.now) (g.E.Stepping.flight c.args.database.now) start c.args.story.now trace) c.write_done.result
    (λ start trace stop. (script rest : Option (List ℕ)) (first : List (ℕ × ℕ)) → armed_by_lines first trace ≡ Some old.armed → EndsServing (g.E.Stepping.stands_for now e) (g.E.Stepping.on_devices now e) start (script_run (status_of stop) (g.E.Stepping.flight e) (streams script rest (g.K.Sink.held c.args.sink.now) (g.K.Sink.held c.write_done.new.sink)) c.start-done.new.story) first now.armed) (λ start trace begins.
    begun-err (g.E.Stepping.stands_for now) (g.E.Stepping.on_devices now e) (g.E.Stepping.flight e) e c.stands.ensures.idle c.stands.ensures.flown c.stands.ensures.reopens c.stands.ensures.told
    c.schema.result.now c.schema.ensures.serves c.schema.ensures.down c.args.story.now c.start-done.new.story (g.K.Sink.held c.args.sink.now) (g.K.Sink.held c.write_done.new.sink) start trace begins.unasked old now
    c.start-done.result c.write_done.result (on_ok_weaker c.start-done.result (λ opened. opened start trace begins.down) c.start-done.ensures.ok)
    (IfErr-weaker c.start-done.result _ _ (λ stop ends. ends start trace begins.down) c.start-done.ensures.err) c.start-done.ensures.later c.start-done.ensures.counts
    (subst (λ (es : List Event). EndsWriting c.start-done.result (story_text c.schema.result.now es) (g.K.Sink.held c.args.sink.now) (g.K.Sink.held c.write_done.new.sink) c.write_done.result)
    c.as_slice.ensures c.write_done.ensures.written))

pub returns-clause-unread : goal.returns-clause-unread
returns-clause-unread g c = never-read c.start-done.result c.write_done.result _ _ _ (of-devices c.start-done.result c.start-done.ensures.later) c.write_done.ensures.written

pub returns-clause-counts : goal.returns-clause-counts
returns-clause-counts g c =
    let view = g.D.Disks.view in
    counts-written c.start-done.result c.write_done.result _ _ _ (λ (s : Status). CountsAdded (view c.args.disks.now) (view c.start-done.new.disks) s c.args.story.now c.start-done.new.story)
    (λ s. added-unwritten (view c.args.disks.now) (view c.start-done.new.disks) s c.args.story.now c.start-done.new.story)
    (added-opened (view c.args.disks.now) (view c.start-done.new.disks) (outcome c.start-done.result) c.args.story.now c.start-done.new.story c.start-done.ensures.counts) c.write_done.ensures.written

pub start-done-requires-clause-able : goal.start-done-requires-clause-able
start-done-requires-clause-able g c = c.requires.able

pub returns-clause-able : goal.returns-clause-able
returns-clause-able g c = c.start-done.ensures.able
