use Rattle.salt_driver.proofs.Untold.{told-then}
use Rattle.salt_database.proofs.FindDone.{found-finds}
use Rattle.salt_database.specs.Halves.{database_flight}
use Rattle.salt_devices.specs.Holding.{setup_in}
use Rattle.salt_driver.specs.Opening.{start_over}
use Rattle.salt_promise.specs.Status.{ends_between}
use Rattle.salt_promise.specs.declared.status.Status.{Status}
use Rattle.salt_run.proofs.EngineEnds.{as-told, begins-found, behind-faults, flight-is, flight-none, found-counts, found-is, nothing, script-over, unfound-counts, unfound-stops}
use Rattle.salt_run.proofs.Replayed.{script-replays}
use Rattle.salt_run.proofs.Staying.{stays-as, stays-from}
use Rattle.salt_run.proofs.runs.run_script.Goals as goal
use Rattle.salt_run.specs.Ending.{flight_at}
use Rattle.salt_loop.specs.Run.{IsFlightAt, streams}
use Rattle.salt_loop.specs.Stopping.{outcome}
use Rattle.salt_stands.specs.Stands.{are_spent}
use Rattle.salt_storage.proofs.Staying.{stays-behind}
use Rattle.salt_promise.specs.declared.command.Command.TheVariants.{Script}
use Rattle.salt_storage.specs.Staying.{Setup}
use Rattle.std.proofs.Common.{ap, inl, inr, refl, subst, sym, ◌∙◌}
use Rattle.std.specs.Prelude.{Err, None}

pub new-opening-requires : goal.new-opening-requires
new-opening-requires g c = let f = c.in-Ok.ensures.found in record { unspent = f.unspent; sound = (f.kept, f.is, f.sound) }

pub serve-done-requires-clause-settled : goal.serve-done-requires-clause-settled
serve-done-requires-clause-settled g c = found-finds _ _ _ _ (c.new-opening.ensures.found _)

pub serve-done-requires-clause-begins : goal.serve-done-requires-clause-begins
serve-done-requires-clause-begins g c = λ now.
    let told = told-then c.find.ensures.within.shape now in
    let f = c.in-Ok.ensures.found in
    let d = g.D.Disks.view c.args.disks.now in
    let mid = g.D.Disks.view c.find.new.disks in
    let b = begins-found f.kept c.args.early c.args.over_net c.new-opening.result c.find.new.storage d mid c.find.new.story c.new-opening.ensures.storage
    (ap (λ (s : Setup). s.over_net) c.find.ensures.within.asked ∙ c.new-devices.ensures.over_net) c.in-Ok.ensures.net (c.new-opening.ensures.is_new f.kept f.is f.sound) (f.holding told) f.sound c.find.ensures.unfound
    c.in-Ok.ensures.counts in
    (start_over f.kept mid.can_stop c.args.early c.args.over_net, b.0, b.1, d.armed, b.2)

pub leave-flight-requires-clause-stands : goal.leave-flight-requires-clause-stands
leave-flight-requires-clause-stands g c = λ now.
    let told = told-then (stays-behind c.find.ensures.within (stays-from (g.D.Disks.view c.find.new.disks) (g.D.Disks.view c.serve-done.new.disks) (λ i. setup_in (c.new-opening.ensures.storage i).shape (c.new-opening.ensures.storage i).over_net) c.serve-done.ensures.within)).shape now in
    let f = c.in-Ok.ensures.found in
    let d = g.D.Disks.view c.args.disks.now in
    let mid = g.D.Disks.view c.find.new.disks in
    let b = begins-found f.kept c.args.early c.args.over_net c.new-opening.result c.find.new.storage d mid c.find.new.story c.new-opening.ensures.storage
    (ap (λ (s : Setup). s.over_net) c.find.ensures.within.asked ∙ c.new-devices.ensures.over_net) c.in-Ok.ensures.net (c.new-opening.ensures.is_new f.kept f.is f.sound) (f.holding told) f.sound c.find.ensures.unfound
    c.in-Ok.ensures.counts in
    let y = c.serve-done.ensures.ended (start_over f.kept mid.can_stop c.args.early c.args.over_net) b.0 b.1 d.armed b.2 in
    λ over between. let s = y.3 (sym (ap ends_between c.status_behind-status.ensures) ∙ between) in (s.point.state, s.stands.state)

pub returns-in-Ok-clause-runs : goal.returns-in-Ok-clause-runs
returns-in-Ok-clause-runs g c = λ told.
    let f = c.in-Ok.ensures.found in
    let d = g.D.Disks.view c.args.disks.now in
    let mid = g.D.Disks.view c.find.new.disks in
    let e = g.D.Disks.view c.serve-done.new.disks in
    let x = c.serve-done.new.database in
    let flies = database_flight x in
    let z = c.new-devices.result in
    let done = outcome c.serve-done.result in
    let status = c.status_behind-status.result in
    let s = streams (g.S.Source.left c.args.source.now) (g.S.Source.left c.serve-done.new.source) (g.K.Sink.held c.args.sink.now) (g.K.Sink.held c.serve-done.new.sink) in
    let start = start_over f.kept mid.can_stop c.args.early c.args.over_net in
    let b = begins-found f.kept c.args.early c.args.over_net c.new-opening.result c.find.new.storage d mid c.find.new.story c.new-opening.ensures.storage
    (ap (λ (s : Setup). s.over_net) c.find.ensures.within.asked ∙ c.new-devices.ensures.over_net) c.in-Ok.ensures.net (c.new-opening.ensures.is_new f.kept f.is f.sound) (f.holding told) f.sound c.find.ensures.unfound
    c.in-Ok.ensures.counts in
    let y = c.serve-done.ensures.ended start b.0 b.1 d.armed b.2 in
    let trace = y.0.played.trace in
    let net = c.leave-flight.result.net in
    as-told (Script c.args.shape c.args.early c.args.over_net) d e s c.serve-done.new.story done status flies c.leave-flight.result.flight net c.status_behind-status.ensures
    (flight-is c.args.over_net status trace flies c.leave-flight.result.flight (subst (λ (t : Status). IsFlightAt t trace flies) (sym c.status_behind-status.ensures) y.0.played.flies) c.leave-flight.ensures.flight)
    (inl (script-over d e x c.requires.promised start f.sound ((λ i. are_spent (sym f.is.boot i) (sym f.is.decisions i)) ∙ f.unspent) c.find.ensures.within.shape.can_stop s c.serve-done.new.story
    _ c.requires.drained c.args.shape c.args.early c.args.over_net refl refl
    (c.serve-done.ensures.within.asked ∙ (λ i. setup_in (c.new-opening.ensures.storage i).shape (c.new-opening.ensures.storage i).over_net) ∙ c.find.ensures.within.asked ∙ (λ i. setup_in (c.new-devices.ensures.shape i) (c.new-devices.ensures.over_net i)))
    (found-is (Script c.args.shape c.args.early c.args.over_net) d z.started z.shape c.new-devices.ensures.started c.new-devices.ensures.shape f.kept f.found) done y net
    status c.status_behind-status.ensures c.leave-flight.ensures.net))

pub returns-in-Ok-clause-downs : goal.returns-in-Ok-clause-downs
returns-in-Ok-clause-downs g c =
    let view = g.D.Disks.view in
    behind-faults (view c.args.disks.now) (view c.serve-done.new.disks) c.serve-done.new.story (outcome c.serve-done.result) c.status_behind-status.result (inl c.status_behind-status.ensures)
    (found-counts (view c.args.disks.now) (view c.find.new.disks) (view c.serve-done.new.disks) (outcome c.serve-done.result) c.find.new.story c.serve-done.new.story c.in-Ok.ensures.counts c.serve-done.ensures.counts)

pub returns-in-Ok-clause-within : goal.returns-in-Ok-clause-within
returns-in-Ok-clause-within g c =
    let view = g.D.Disks.view in
    stays-as (setup_in c.new-devices.result.shape c.new-devices.result.over_net) _ (setup_in c.args.shape c.args.over_net) (view c.args.disks.now) (view c.serve-done.new.disks) (λ i. setup_in (c.new-devices.ensures.shape i) (c.new-devices.ensures.over_net i))
    (stays-behind c.find.ensures.within (stays-from (view c.find.new.disks) (view c.serve-done.new.disks) (λ i. setup_in (c.new-opening.ensures.storage i).shape (c.new-opening.ensures.storage i).over_net) c.serve-done.ensures.within))

-- NOTHING WAS FOUND

pub tell_unfound-requires-clause-unstopped : goal.tell_unfound-requires-clause-unstopped
tell_unfound-requires-clause-unstopped g c = λ is. c.find.ensures.unstopped (c.in-Err.is ∙ ap Err is)

pub tell_unfound-requires-clause-empty : goal.tell_unfound-requires-clause-empty
tell_unfound-requires-clause-empty g c = c.in-Err.ensures.err.empty

pub returns-in-Err-clause-runs : goal.returns-in-Err-clause-runs
returns-in-Err-clause-runs g c = λ told.
    let d = g.D.Disks.view c.args.disks.now in
    let e = g.D.Disks.view c.find.new.disks in
    let y = c.find.new.storage in
    let z = c.new-devices.result in
    let status = c.status_behind.result in
    let s = streams (g.S.Source.left c.args.source.now) (g.S.Source.left c.args.source.now) (g.K.Sink.held c.args.sink.now) (g.K.Sink.held c.tell_unfound.new.sink) in
    let now = outcome c.tell_unfound.result in
    as-told (Script c.args.shape c.args.early c.args.over_net) d e s c.find.new.story now status None None None c.status_behind.ensures (sym (flight-none status))
    (inr (nothing (Script c.args.shape c.args.early c.args.over_net) d z.started z.shape c.new-devices.ensures.started c.new-devices.ensures.shape e y.shape y.started (ap (λ (s : Setup). s.shape) c.find.ensures.within.asked) c.in-Err.ensures.rests
    c.in-Err.reason c.find.new.story c.in-Err.ensures.err c.in-Err.ensures.unwritten c.in-Err.ensures.unfilled now (flight_at now None) s c.tell_unfound.ensures.is c.find.ensures.unfound
    (λ start well. script-replays c.requires.promised c.args.shape c.args.early c.args.over_net now None s c.find.new.story start well (c.tell_unfound.ensures.run start (g.S.Source.left c.args.source.now) (g.S.Source.left c.args.source.now)))
    (unfound-stops d e c.in-Err.reason now c.find.new.story (λ is. c.find.ensures.unstopped (c.in-Err.is ∙ ap Err is)) c.in-Err.ensures.counts c.tell_unfound.ensures.is)))

pub returns-in-Err-clause-downs : goal.returns-in-Err-clause-downs
returns-in-Err-clause-downs g c =
    let view = g.D.Disks.view in
    behind-faults (view c.args.disks.now) (view c.find.new.disks) c.find.new.story (outcome c.tell_unfound.result) c.status_behind.result (inl c.status_behind.ensures)
    (unfound-counts (view c.args.disks.now) (view c.find.new.disks) c.in-Err.reason (outcome c.tell_unfound.result) c.find.new.story (λ is. c.find.ensures.unstopped (c.in-Err.is ∙ ap Err is)) c.in-Err.ensures.counts
    c.tell_unfound.ensures.is)

pub returns-in-Err-clause-within : goal.returns-in-Err-clause-within
returns-in-Err-clause-within g c =
    let view = g.D.Disks.view in
    stays-as (setup_in c.new-devices.result.shape c.new-devices.result.over_net) _ (setup_in c.args.shape c.args.over_net) (view c.args.disks.now) (view c.find.new.disks) (λ i. setup_in (c.new-devices.ensures.shape i) (c.new-devices.ensures.over_net i)) c.find.ensures.within

pub serve-done-requires-clause-able : goal.serve-done-requires-clause-able
serve-done-requires-clause-able g c = rw c.new-opening.ensures.storage c.find.ensures.able

pub leave-flight-requires-clause-able : goal.leave-flight-requires-clause-able
leave-flight-requires-clause-able g c = c.serve-done.ensures.able
