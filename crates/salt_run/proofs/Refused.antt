-- A run whose devices were refused is as promised.
use Rattle.law_definitions.specs.Texts.{definition_in}
use Rattle.salt_devices.specs.Refusing.{RefusedAs, RefusesDevices}
use Rattle.salt_model.specs.Kept.{Definition, WellKept, nothing_kept}
use Rattle.salt_model.specs.Phases.{Fallen, Serving, phase}
use Rattle.salt_model.specs.Played.{IsPlayed}
use Rattle.salt_model.specs.Trace.{Start, Trace, from, start_of, story_of, ◌asks◌, ◌says◌, ◌turns◌}
use Rattle.salt_model.specs.declared.events.Flight.{Flight}
use Rattle.salt_promise.specs.Doing as promise
use Rattle.salt_promise.specs.Given.{Run, shape_of}
use Rattle.salt_promise.specs.Runs.{AreAsBefore, EndsRefused, may_have_failed}
use Rattle.salt_promise.specs.Runs as promised
use Rattle.salt_promise.specs.Standing.{AnswersTo, IsReader}
use Rattle.salt_promise.specs.declared.status.Status.{Status}
use Rattle.salt_promise.specs.declared.status.Status.TheVariants.{Broken, DeviceFull, DiskFault, Done, Memory, NotSalt, NumbersSpent, OtherShape, ReadFault, ScriptTooLong, TranscriptTooLong, Unread, Usage, WriteFault}
use Rattle.salt_run.proofs.EngineEnds.{any-start, refused-so}
use Rattle.salt_run.proofs.Promised.{streams_of}
use Rattle.salt_run.proofs.Standing.{answers-salt, answers-shape, answers-spent, refuses-held}
use Rattle.salt_run.proofs.Unwritten.{not-nil}
use Rattle.salt_run.specs.Doing.{Does}
use Rattle.salt_run.specs.Ending.{IsFlightTold}
use Rattle.salt_run.specs.Running.{FindsNothing, Replays}
use Rattle.salt_loop.specs.Ending.{IsStatusOf}
use Rattle.salt_loop.specs.Stopping.{status_opening}
use Rattle.salt_stands.specs.Stands as opening
use Rattle.salt_stands.specs.Stands.{Opening}
use Rattle.salt_storage.specs.Answers.{IsRefusal}
use Rattle.salt_storage.specs.OpenErr.TheVariants as open_err
use Rattle.salt_storage.specs.OpenErr.{OpenErr}
use Rattle.salt_place.specs.Placement.{IsParts}
use Rattle.salt_promise.specs.declared.command.Command.{Command}
use Rattle.std.proofs.Common.{ap, inl, inr, subst, sym, ◌∙◌}
use Rattle.std.specs.Prelude.{IsTrue, List, None, Option, [], refl, true, ℕ, ◌≡◌, ◌≤◌}

-- WHERE NOTHING IS TOLD, nothing was asked either

not-serving : (trace : Trace) (k : Start) → trace ≡ from k → phase trace ≡ Serving → ⊥
not-serving trace k is serves = let both : Fallen ≡ Serving = sym (ap phase is) ∙ serves in absurd (cc both)

pub unbegun : (trace : Trace) → IsPlayed trace → story_of trace ≡ [] → trace ≡ from (start_of trace)
unbegun (from k) played none = refl
unbegun (trace asks asked) played none = absurd (not-serving trace (start_of trace) (unbegun trace played.0 none) played.1.0)
unbegun (trace turns b) played none = absurd (not-serving trace (start_of trace) (unbegun trace played.0 none) played.1)
unbegun (trace says e) played none = absurd (not-nil (story_of trace) e none)

untold : (status : Status) (k : Start) (told : Option Flight) → IsFlightTold status (from k) told → told ≡ None
untold Done k told h = h
untold Memory k told (inl h) = h
untold Memory k told (inr h) = h
untold Usage k told h = h
untold Broken k told h = h
untold Unread k told h = h
untold TranscriptTooLong k told h = h
untold ReadFault k told h = h
untold WriteFault k told h = h
untold DiskFault k told h = h
untold (NotSalt dev) k told h = h
untold (DeviceFull dev) k told h = h
untold (OtherShape kept asked) k told h = h
untold ScriptTooLong k told h = h
untold (NumbersSpent boot decisions) k told h = h

pub nothing-well : WellKept nothing_kept
nothing-well = record { boots = tt; accepted = tt; defined = tt; tries = tt }

module _ (r : Run) (command : Command) (does : (trace : Trace) → Does command r.status (streams_of r) trace → promise.Does command r trace) where
  -- nothing was told, and so it replays from any start
  module _ (replays : Replays command r.status r.flight (streams_of r) r.story any-start) (empty : r.story ≡ []) where
    begun : replays.trace ≡ from any-start
    begun = unbegun replays.trace replays.played.played (replays.played.told ∙ empty) ∙ ap from replays.played.begins

    pub nothing : r.net ≡ None → (answer : Opening Definition) → (IsTrue r.before.devices.told → AnswersTo (shape_of command) r.before.devices.bytes answer) → EndsRefused answer r.status →
        (IsTrue r.before.devices.told → AreAsBefore (may_have_failed r.status) r.before.devices r.after.devices) → promised.FindsNothing r command
    nothing none answer is ends before = record {
      answer = answer;
      is = is;
      ends = ends;
      story = empty;
      flight = untold r.status any-start r.flight (subst (λ (t : Trace). IsFlightTold r.status t r.flight) begun replays.flies);
      net = none;
      does = subst (promise.Does command r) begun (does replays.trace replays.does);
      devices = before;
    }

  module _ (reads : IsReader definition_in) (parts : IsParts (shape_of command).parts) (count : 26 ≤ r.before.devices.count)
      (x : FindsNothing command r.before.devices r.after.devices r.status r.flight r.net (streams_of r) r.story) (empty : r.story ≡ []) where
    -- its refusal, by the bytes that were there
    module _ (reason : OpenErr) (is : x.reason ≡ reason) (some : reason ≡ open_err.Memory → ⊥) (refusal : IsRefusal reason) where
      refused : RefusesDevices r.before.devices true (shape_of command) reason
      refused = refused-so r.before.devices (shape_of command) x.reason reason is some x.refused

      pub by-answer : (answer : Opening Definition) → ((bytes : ℕ → List ℕ) → RefusedAs (shape_of command) bytes reason → AnswersTo (shape_of command) bytes answer) →
          EndsRefused answer (status_opening reason) → EndsRefused answer WriteFault → promised.FindsNothing r command
      by-answer answer answers own failed =
          nothing (x.replays any-start nothing-well) empty x.none answer
          (λ told. answers r.before.devices.bytes (refuses-held r.before.devices (shape_of command) parts count told reason refused))
          (ends (subst (λ (e : OpenErr). IsStatusOf e r.status) is x.is))
          (λ told. (x.unwritten reason refusal refused told).0)
        where
          ends : IsStatusOf reason r.status → EndsRefused answer r.status
          ends (inl e) = subst (EndsRefused answer) (sym e) own
          ends (inr w) = subst (EndsRefused answer) (sym w.0) failed

    pub by-reason : (reason : OpenErr) → x.reason ≡ reason → IsRefusal reason → promised.FindsNothing r command
    by-reason (open_err.NotSalt dev) is h = by-answer (open_err.NotSalt dev) is (λ m. cc) h (opening.NotSalt dev) (λ bytes. answers-salt reads (shape_of command) bytes dev) refl tt
    by-reason (open_err.OtherShape kept asked) is h = by-answer (open_err.OtherShape kept asked) is (λ m. cc) h (opening.OtherShape kept asked) (λ bytes. answers-shape reads (shape_of command) bytes kept asked) refl tt
    by-reason (open_err.NumbersSpent boot decisions) is h = by-answer (open_err.NumbersSpent boot decisions) is (λ m. cc) h (opening.NumbersSpent boot decisions) (λ bytes. answers-spent reads (shape_of command) bytes boot decisions) refl tt
    by-reason open_err.Failed is h = absurd h
    by-reason open_err.Stopped is h = absurd h
    by-reason (open_err.Full dev) is h = absurd h
    by-reason open_err.Memory is h = absurd h
