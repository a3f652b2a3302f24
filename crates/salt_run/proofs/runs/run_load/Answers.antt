use Rattle.salt_driver.proofs.Untold.{told-then}
use Rattle.salt_database.proofs.FindDone.{found-finds}
use Rattle.salt_database.specs.Halves.{database_flight}
use Rattle.salt_devices.specs.Holding.{setup_in}
use Rattle.salt_driver.specs.Opening.{start_over}
use Rattle.salt_run.proofs.EngineEnds.{as-told, begins-found, behind-faults, behind-outcome, flight-none, found-counts, found-is, load-over, nothing, unfound-counts, unfound-load, unfound-status, unfound-stops}
use Rattle.salt_run.proofs.Replayed.{load-replays}
use Rattle.salt_run.proofs.Staying.{stays-as, stays-from}
use Rattle.salt_run.proofs.runs.run_load.Goals as goal
use Rattle.salt_model.specs.Trace.{Start}
use Rattle.salt_promise.specs.Given.{shape_of}
use Rattle.salt_loop.specs.Run.{streams}
use Rattle.salt_run.specs.Ending.{flight_at}
use Rattle.salt_loop.proofs.Loads.{unfound-loaded}
use Rattle.salt_loop.specs.Loading.{IsPlayedLoad, load_run}
use Rattle.salt_loop.specs.Stopping.{outcome, status_of, status_opening}
use Rattle.salt_stands.specs.Stands.{are_spent}
use Rattle.salt_storage.proofs.Staying.{stays-behind}
use Rattle.salt_promise.specs.declared.command.Command.TheVariants.{Load}
use Rattle.salt_storage.specs.Staying.{Setup}
use Rattle.std.proofs.Common.{ap, inl, inr, refl, sym, ◌∙◌}
use Rattle.std.specs.Prelude.{Err, None, false}

pub new-opening-requires : goal.new-opening-requires
new-opening-requires g c = let f = c.in-Ok.ensures.found in record { unspent = f.unspent; sound = (f.kept, f.is, f.sound) }

pub load-lines-requires-clause-settled : goal.load-lines-requires-clause-settled
load-lines-requires-clause-settled g c = found-finds _ _ _ _ (c.new-opening.ensures.found _)

pub load-lines-requires-clause-begins : goal.load-lines-requires-clause-begins
load-lines-requires-clause-begins g c = λ now.
    let told = told-then c.find.ensures.within.shape now in
    let f = c.in-Ok.ensures.found in
    let d = g.D.Disks.view c.args.disks.now in
    let mid = g.D.Disks.view c.find.new.disks in
    let b = begins-found f.kept false false c.new-opening.result c.find.new.storage d mid c.find.new.story c.new-opening.ensures.storage
    (ap (λ (s : Setup). s.over_net) c.find.ensures.within.asked ∙ c.new-devices.ensures.over_net) c.in-Ok.ensures.net (c.new-opening.ensures.is_new f.kept f.is f.sound) (f.holding told) f.sound c.find.ensures.unfound
    c.in-Ok.ensures.counts in
    (start_over f.kept mid.can_stop false false, b.0, b.1, d.armed, b.2)

pub returns-in-Ok-clause-runs : goal.returns-in-Ok-clause-runs
returns-in-Ok-clause-runs g c = λ left told.
    let f = c.in-Ok.ensures.found in
    let d = g.D.Disks.view c.args.disks.now in
    let mid = g.D.Disks.view c.find.new.disks in
    let e = g.D.Disks.view c.load-lines.new.disks in
    let x = c.load-lines.new.database in
    let flies = database_flight x in
    let z = c.new-devices.result in
    let r = c.load-lines.result in
    let status = c.write_summary-status.result in
    let s = streams left left (g.K.Sink.held c.args.sink.now) (g.K.Sink.held c.write_summary-status.new.sink) in
    let start = start_over f.kept mid.can_stop false false in
    let b = begins-found f.kept false false c.new-opening.result c.find.new.storage d mid c.find.new.story c.new-opening.ensures.storage
    (ap (λ (s : Setup). s.over_net) c.find.ensures.within.asked ∙ c.new-devices.ensures.over_net) c.in-Ok.ensures.net (c.new-opening.ensures.is_new f.kept f.is f.sound) (f.holding told) f.sound c.find.ensures.unfound
    c.in-Ok.ensures.counts in
    let asked = c.new-devices.ensures.shape ∙ c.shape.ensures in
    as-told (Load c.args.calls) d e s c.load-lines.new.story status status flies c.flight_at.result None refl (c.flight_at.ensures ∙ ap (flight_at status) c.flight.ensures)
    (inl (load-over d e x c.requires.promised start f.sound ((λ i. are_spent (sym f.is.boot i) (sym f.is.decisions i)) ∙ f.unspent) c.find.ensures.within.shape.can_stop s c.load-lines.new.story
    c.args.calls r.lines refl refl c.requires.drained (c.load-lines.ensures.within.asked ∙ (λ i. setup_in (c.new-opening.ensures.storage i).shape (c.new-opening.ensures.storage i).over_net) ∙ c.find.ensures.within.asked ∙ (λ i. setup_in ((c.new-devices.ensures.shape ∙ c.shape.ensures) i) (c.new-devices.ensures.over_net i)))
    (found-is (Load c.args.calls) d z.started z.shape c.new-devices.ensures.started asked f.kept f.found) (outcome r.done) status
    (behind-outcome (outcome r.done) c.status_behind.result status c.status_behind.ensures c.write_summary-status.ensures.written) c.write_summary-status.ensures.summed
    (c.load-lines.ensures.ended start b.0 b.1 d.armed b.2)))

pub returns-in-Ok-clause-downs : goal.returns-in-Ok-clause-downs
returns-in-Ok-clause-downs g c =
    let view = g.D.Disks.view in
    let r = c.load-lines.result in
    let status = c.write_summary-status.result in
    behind-faults (view c.args.disks.now) (view c.load-lines.new.disks) c.load-lines.new.story (outcome r.done) status
    (behind-outcome (outcome r.done) c.status_behind.result status c.status_behind.ensures c.write_summary-status.ensures.written)
    (found-counts (view c.args.disks.now) (view c.find.new.disks) (view c.load-lines.new.disks) (outcome r.done) c.find.new.story c.load-lines.new.story c.in-Ok.ensures.counts c.load-lines.ensures.counts)

pub returns-in-Ok-clause-within : goal.returns-in-Ok-clause-within
returns-in-Ok-clause-within g c =
    let view = g.D.Disks.view in
    stays-as (setup_in c.new-devices.result.shape c.new-devices.result.over_net) _ (setup_in (shape_of (Load c.args.calls)) false) (view c.args.disks.now) (view c.load-lines.new.disks) (λ i. setup_in ((c.new-devices.ensures.shape ∙ c.shape.ensures) i) (c.new-devices.ensures.over_net i))
    (stays-behind c.find.ensures.within (stays-from (view c.find.new.disks) (view c.load-lines.new.disks) (λ i. setup_in (c.new-opening.ensures.storage i).shape (c.new-opening.ensures.storage i).over_net) c.load-lines.ensures.within))

-- NOTHING WAS FOUND

pub stop_opening-requires : goal.stop_opening-requires
stop_opening-requires g c = λ is. c.find.ensures.unstopped (c.in-Err.is ∙ ap Err is)

pub returns-in-Err-clause-runs : goal.returns-in-Err-clause-runs
returns-in-Err-clause-runs g c = λ left told.
    let d = g.D.Disks.view c.args.disks.now in
    let e = g.D.Disks.view c.find.new.disks in
    let y = c.find.new.storage in
    let z = c.new-devices.result in
    let status = c.write_summary.result in
    let s = streams left left (g.K.Sink.held c.args.sink.now) (g.K.Sink.held c.write_summary.new.sink) in
    let old = status_opening c.in-Err.reason in
    let how = behind-outcome old c.from.result status (c.from.ensures ∙ ap status_of c.stop_opening.ensures.is) c.write_summary.ensures.written in
    let run : (start : Start) → IsPlayedLoad start (load_run status None c.args.calls 0 c.find.new.story) = λ start. unfound-load c.args.calls old status how start c.find.new.story (unfound-loaded c.in-Err.reason c.args.calls c.find.new.story c.find.ensures.unfound c.in-Err.ensures.err.empty start) in
    as-told (Load c.args.calls) d e s c.find.new.story status status None None None refl (sym (flight-none status))
    (inr (nothing (Load c.args.calls) d z.started z.shape c.new-devices.ensures.started (c.new-devices.ensures.shape ∙ c.shape.ensures) e y.shape y.started (ap (λ (s : Setup). s.shape) c.find.ensures.within.asked) c.in-Err.ensures.rests
    c.in-Err.reason c.find.new.story c.in-Err.ensures.err c.in-Err.ensures.unwritten c.in-Err.ensures.unfilled status (flight_at status None) s (unfound-status c.in-Err.reason old status refl how) c.find.ensures.unfound
    (λ start well. load-replays c.requires.promised c.args.calls 0 status None s c.find.new.story start well (run start) c.write_summary.ensures.summed)
    (unfound-stops d e c.in-Err.reason status c.find.new.story (λ is. c.find.ensures.unstopped (c.in-Err.is ∙ ap Err is)) c.in-Err.ensures.counts (unfound-status c.in-Err.reason old status refl how))))

pub returns-in-Err-clause-downs : goal.returns-in-Err-clause-downs
returns-in-Err-clause-downs g c =
    let view = g.D.Disks.view in
    let status = c.write_summary.result in
    let old = status_opening c.in-Err.reason in
    let how = behind-outcome old c.from.result status (c.from.ensures ∙ ap status_of c.stop_opening.ensures.is) c.write_summary.ensures.written in
    (unfound-counts (view c.args.disks.now) (view c.find.new.disks) c.in-Err.reason status c.find.new.story (λ is. c.find.ensures.unstopped (c.in-Err.is ∙ ap Err is)) c.in-Err.ensures.counts
    (unfound-status c.in-Err.reason old status refl how)).faults

pub returns-in-Err-clause-within : goal.returns-in-Err-clause-within
returns-in-Err-clause-within g c =
    let view = g.D.Disks.view in
    stays-as (setup_in c.new-devices.result.shape c.new-devices.result.over_net) _ (setup_in (shape_of (Load c.args.calls)) false) (view c.args.disks.now) (view c.find.new.disks) (λ i. setup_in ((c.new-devices.ensures.shape ∙ c.shape.ensures) i) (c.new-devices.ensures.over_net i)) c.find.ensures.within

pub load-lines-requires-clause-able : goal.load-lines-requires-clause-able
load-lines-requires-clause-able g c = rw c.new-opening.ensures.storage c.find.ensures.able
