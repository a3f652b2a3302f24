-- How a run goes: its devices are refused, or it runs over what they stand for.
use Rattle.law_definitions.specs.Texts.{definition_in}
use Rattle.salt_stands.specs.Fitting.{kept_in}
use Rattle.salt_devices.specs.Refusing.{RefusedAs, RefusesDevices}
use Rattle.salt_disk.specs.Disks.{SameShape}
use Rattle.salt_model.specs.Kept.{Definition, Kept, WellKept, nothing_kept}
use Rattle.salt_model.specs.Trace.{Trace}
use Rattle.salt_net.specs.Agreed.{IsAgreed}
use Rattle.salt_net.specs.Nets.{state_of}
use Rattle.salt_net.specs.declared.kinds.NetEvent.{NetEvent}
use Rattle.salt_promise.specs.Doing as promise
use Rattle.salt_promise.specs.Given.{Run, shape_of}
use Rattle.salt_promise.specs.Runs as promised
use Rattle.salt_promise.specs.Runs.{AreAsBefore, EndsRefused, may_have_failed}
use Rattle.salt_promise.specs.Standing.{AnswersTo, IsReader}
use Rattle.salt_promise.specs.declared.status.Status.TheVariants.{DeviceFull}
use Rattle.salt_promise.specs.declared.status.Status.{Status}
use Rattle.salt_run.proofs.Answering.{OpensHere, RefusedHere, answered, opens-here, stands-here, well-here}
use Rattle.salt_run.proofs.EngineEnds.{any-start, refused-so}
use Rattle.salt_run.proofs.Promised.{over, streams_of}
use Rattle.salt_run.proofs.Refused.{by-reason, nothing, nothing-well}
use Rattle.salt_run.proofs.Standing.{answers-salt, answers-shape, answers-spent}
use Rattle.salt_run.proofs.Unopened.{IsEndOver, ended-spent, halted, unopened}
use Rattle.salt_run.specs.Doing.{Does}
use Rattle.salt_run.specs.Running.{FindsNothing, Runs}
use Rattle.salt_loop.specs.Ending.{IsStatusOf}
use Rattle.salt_stands.specs.Stands as opening
use Rattle.salt_stands.specs.Stands.{Opening}
use Rattle.salt_storage.specs.Answers.{IsLater, IsRefusal, halted_by}
use Rattle.salt_storage.specs.declared.halt.Halt.TheVariants as halt
use Rattle.salt_storage.specs.declared.halt.Halt.{Halt}
use Rattle.salt_storage.specs.OpenErr.TheVariants as open_err
use Rattle.salt_storage.specs.OpenErr.TheVariants.{NotSalt, NumbersSpent, OtherShape}
use Rattle.salt_storage.specs.OpenErr.{OpenErr}
use Rattle.salt_place.specs.Placement.{IsParts}
use Rattle.salt_place.specs.declared.placement.Shape.{Shape}
use Rattle.salt_promise.specs.declared.command.Command.{Command}
use Rattle.std.proofs.Common.{inl, inr, subst, sym, ◌∙◌}
use Rattle.std.specs.Prelude.{Bool, IsTrue, List, [], false, refl, true, ℕ, ◌≡◌, ◌≤◌, ◌⊎◌}

not-told : (told : Bool) → told ≡ false → IsTrue told → ⊥
not-told told is t = let both : false ≡ true = sym is ∙ t in absurd (cc both)

-- WHERE THE DEVICES FAIL, or memory runs out, whatever refuses them

record EndsAnyway (status : Status) : Type 0 where
  salt : (dev : ℕ) → EndsRefused (opening.NotSalt dev) status
  shape : (kept asked : Shape) → EndsRefused (opening.OtherShape kept asked) status
  numbers : (boot decisions : ℕ) → EndsRefused (opening.NumbersSpent boot decisions) status

ends-anyway : (e : Halt) (status : Status) → IsStatusOf (halted_by e) status → ((dev : ℕ) → status ≡ DeviceFull dev → ⊥) → EndsAnyway status
ends-anyway e status (inr w) full = subst EndsAnyway (sym w.0) (record { salt = λ dev. tt; shape = λ kept asked. tt; numbers = λ boot decisions. tt })
ends-anyway halt.Stopped status (inl is) full = subst EndsAnyway (sym is) (record { salt = λ dev. tt; shape = λ kept asked. tt; numbers = λ boot decisions. tt })
ends-anyway halt.DiskFault status (inl is) full = subst EndsAnyway (sym is) (record { salt = λ dev. tt; shape = λ kept asked. tt; numbers = λ boot decisions. tt })
ends-anyway (halt.DeviceFull dev) status (inl is) full = absurd (full dev is)
ends-anyway halt.Memory status (inl is) full = subst EndsAnyway (sym is) (record { salt = λ dev. tt; shape = λ kept asked. tt; numbers = λ boot decisions. tt })

module _ (reads : IsReader definition_in) (r : Run) (command : Command) (parts : IsParts (shape_of command).parts)
    (count : 26 ≤ r.before.devices.count) (shape : SameShape r.before.devices r.after.devices) (does : (trace : Trace) → Does command r.status (streams_of r) trace → promise.Does command r trace)
    (agrees : (events : List NetEvent) → IsAgreed (state_of events)) where
  abbrev Goes : Type 0
  Goes = promised.FindsNothing r command ⊎ promised.RunsOver r command

  -- NOTHING WAS FOUND
  module _ (x : FindsNothing command r.before.devices r.after.devices r.status r.flight r.net (streams_of r) r.story) where
    -- its reason is a refusal, and nothing was told
    refused : (reason : OpenErr) → x.reason ≡ reason → IsRefusal reason → r.story ≡ [] → Goes
    refused reason is some empty = inl (by-reason r command does reads parts count x empty reason is some)

    -- of devices that do not tell nothing is known
    mute : r.before.devices.told ≡ false → (k : Kept) → WellKept k → IsEndOver k r.status → Goes
    mute none k well ends =
        inr (unopened reads r command does x k well ends (λ told. absurd (not-told r.before.devices.told none told))
        (λ told. absurd (not-told r.before.devices.told none (sym shape.told ∙ told))))

    at-once : (reason : OpenErr) → x.reason ≡ reason → (IsLater reason → ⊥) → r.story ≡ []
    at-once reason is first = elim x.empty [ inl empty ↦ empty | inr later ↦ absurd (first (subst IsLater is later)) ]

    of-numbers : (boot decisions : ℕ) → x.reason ≡ NumbersSpent boot decisions → Goes
    of-numbers boot decisions is = by r.before.devices.told refl
      where
        of : RefusesDevices r.before.devices true (shape_of command) (NumbersSpent boot decisions)
        of = refused-so r.before.devices (shape_of command) x.reason (NumbersSpent boot decisions) is (λ m. cc m) x.refused

        silent : r.before.devices.told ≡ false → (r.story ≡ []) ⊎ IsLater x.reason → Goes
        silent none (inl empty) = refused (NumbersSpent boot decisions) is tt empty
        silent none (inr later) =
            mute none (record nothing_kept { boot = boot; decisions = decisions }) (record { boots = tt; accepted = tt; defined = tt; tries = tt })
            (ended-spent (record nothing_kept { boot = boot; decisions = decisions }) r.status (subst IsLater is later) (subst (λ (o : OpenErr). IsStatusOf o r.status) is x.is))

        by : (b : Bool) → r.before.devices.told ≡ b → Goes
        by true told = refused (NumbersSpent boot decisions) is tt (x.unwritten (NumbersSpent boot decisions) tt of told).1
        by false none = silent none x.empty

    module _ (e : Halt) (is : x.reason ≡ halted_by e) where
      status : IsStatusOf (halted_by e) r.status
      status = subst (λ (o : OpenErr). IsStatusOf o r.status) is x.is

      -- they open
      opened : OpensHere (shape_of command) r.before.devices.bytes → Goes
      opened h =
          inr (unopened reads r command does x (kept_in h.found) (well-here (shape_of command) r.before.devices.bytes h) (halted (kept_in h.found) e r.status status)
          (λ told. opens-here (shape_of command) r.before.devices.bytes reads h)
          (x.rests (kept_in h.found) (λ told. record { image = r.before.devices.bytes; comes = λ dev low. refl; is = stands-here (shape_of command) r.before.devices.bytes h })))

      -- they are refused
      module _ (told : IsTrue r.before.devices.told) (h : RefusedHere (shape_of command) r.before.devices.bytes) where
        before : AreAsBefore (may_have_failed r.status) r.before.devices r.after.devices × (r.story ≡ [])
        before = x.unwritten h.refusal h.some (λ t. record { image = r.before.devices.bytes; comes = λ dev low. refl; is = h.is }) told

        never-full : (dev : ℕ) → r.status ≡ DeviceFull dev → ⊥
        never-full dev so = x.unfilled h.refusal h.some (λ t. record { image = r.before.devices.bytes; comes = λ dev low. refl; is = h.is }) told dev so

        ends : EndsAnyway r.status
        ends = ends-anyway e r.status status never-full

        answer : (a : Opening Definition) → AnswersTo (shape_of command) r.before.devices.bytes a → EndsRefused a r.status → Goes
        answer a answers ended =
            inl (nothing r command does (x.replays any-start nothing-well) before.1 x.none a (λ t. answers) ended (λ t. before.0))

        by-refusal : (refusal : OpenErr) → IsRefusal refusal → RefusedAs (shape_of command) r.before.devices.bytes refusal → Goes
        by-refusal (NotSalt dev) some so = answer (opening.NotSalt dev) (answers-salt reads (shape_of command) r.before.devices.bytes dev so) (ends.salt dev)
        by-refusal (OtherShape kept asked) some so = answer (opening.OtherShape kept asked) (answers-shape reads (shape_of command) r.before.devices.bytes kept asked so) (ends.shape kept asked)
        by-refusal (NumbersSpent boot decisions) some so = answer (opening.NumbersSpent boot decisions) (answers-spent reads (shape_of command) r.before.devices.bytes boot decisions so) (ends.numbers boot decisions)
        by-refusal open_err.Failed some so = absurd some
        by-refusal open_err.Stopped some so = absurd some
        by-refusal (open_err.Full dev) some so = absurd some
        by-refusal open_err.Memory some so = absurd some

      of-halt : Goes
      of-halt = by r.before.devices.told refl
        where
          by : (b : Bool) → r.before.devices.told ≡ b → Goes
          by true told = elim (answered (shape_of command) r.before.devices.bytes) [ inl h ↦ opened h | inr h ↦ by-refusal told h h.refusal h.some h.is ]
          by false none = mute none nothing_kept nothing-well (halted nothing_kept e r.status status)

    found-nothing : (reason : OpenErr) → x.reason ≡ reason → Goes
    found-nothing (NotSalt dev) is = refused (NotSalt dev) is tt (at-once (NotSalt dev) is (λ later. later))
    found-nothing (OtherShape kept asked) is = refused (OtherShape kept asked) is tt (at-once (OtherShape kept asked) is (λ later. later))
    found-nothing (NumbersSpent boot decisions) is = of-numbers boot decisions is
    found-nothing open_err.Failed is = of-halt halt.DiskFault is
    found-nothing open_err.Stopped is = of-halt halt.Stopped is
    found-nothing (open_err.Full dev) is = of-halt (halt.DeviceFull dev) is
    found-nothing open_err.Memory is = of-halt halt.Memory is

  pub goes : Runs command r.before.devices r.after.devices r.status r.flight r.net (streams_of r) r.story → Goes
  goes (inl x) = inr (over r reads command parts count agrees x.may x (does x.replays.trace x.replays.does))
  goes (inr x) = found-nothing x x.reason refl
