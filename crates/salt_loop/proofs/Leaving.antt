-- Where a run ends: behind an opening that breaks off, in a line, or between lines.
use Rattle.salt_storage.proofs.Halted.{no_numbers, same_halt}
use Rattle.salt_storage.specs.OpenErr.TheVariants as opening
use Rattle.law_states.proofs.NextTold.{devices-told, may-stand}
use Rattle.law_states.specs.Laws.{IsSound, is_of_run}
use Rattle.law_states.specs.OpenUnits.{UnitState}
use Rattle.law_states.specs.Points.{KeepsPoint, Point}
use Rattle.law_states.specs.States.{State}
use Rattle.law_states.specs.Told.{at_devices_in}
use Rattle.law_story.proofs.Replays.{good-event, replays}
use Rattle.salt_model.specs.Ends.{MayLeave, flight_told, is_serving}
use Rattle.salt_model.specs.Next.{decision_in, flight, next}
use Rattle.salt_model.specs.Phases.{Fallen, Serving, phase}
use Rattle.salt_model.specs.Segments.{IsComplete}
use Rattle.salt_model.specs.Stops.{is_device_next}
use Rattle.salt_model.specs.Trace.{Start, Trace, from, ◌asks◌, ◌says◌, ◌turns◌}
use Rattle.salt_model.specs.declared.events.Event.TheVariants.{Down, Opened}
use Rattle.salt_model.specs.declared.events.Event.{Event}
use Rattle.salt_model.specs.declared.events.Flight.{Flight}
use Rattle.salt_promise.specs.declared.status.Status.{Status}
use Rattle.salt_promise.specs.declared.status.Status.TheVariants.{DeviceFull, Done, Memory, ReadFault, ScriptTooLong, WriteFault}
use Rattle.salt_loop.specs.Ending.{EndsFound, EndsOpening, LeavesAt, MayBeWritten, MayEndAt}
use Rattle.salt_loop.specs.Run.{IsFlightAt, leave_of}
use Rattle.salt_loop.specs.Serving.{EndsResuming}
use Rattle.salt_loop.specs.Stopping.{IsLaterStop, answer_of, numbers_of_status, status_of, status_opening, stop_opening}
use Rattle.salt_loop.specs.declared.stop.Stop.TheVariants as stop
use Rattle.salt_loop.specs.declared.stop.Stop.{Stop}
use Rattle.salt_driver.proofs.Segments.{serves-at, sound-of}
use Rattle.salt_driver.specs.Devices.{OnDevices}
use Rattle.salt_driver.specs.Opening.{MayFailAt}
use Rattle.salt_driver.specs.Reopening.{BreaksOpening, EndsWithin, NotBegun, WithinOpening}
use Rattle.salt_driver.specs.Serving.{HaltsRun, ServesTrace}
use Rattle.salt_driver.specs.Standing.{IsIdleAt, IsSoundPoint}
use Rattle.salt_driver.specs.Writing.{IsWrittenAt}
use Rattle.salt_storage.specs.Answers.{IsLater, halted_by, numbers_of, open_disk_err_of}
use Rattle.salt_storage.specs.Writing.{OfBoot, OfOpening, ToWrite}
use Rattle.salt_storage.specs.declared.halt.Halt.TheVariants as halt
use Rattle.salt_storage.specs.declared.halt.Halt.{Halt}
use Rattle.salt_storage.specs.OpenErr.TheVariants.{NotSalt, NumbersSpent, OtherShape}
use Rattle.salt_storage.specs.OpenErr.{OpenErr}
use Rattle.std.proofs.Common.{ap, append-nil, arith, inl, inr, subst, sym, ◌∙◌}
use Rattle.salt_storage.specs.declared.found.Numbers.{Numbers}
use Rattle.std.specs.Prelude.{Bool, IsTrue, List, None, Option, Some, [], false, not, refl, true, ℕ, ◌||◌, ◌≡◌, ◌⊎◌}

-- THE PLACE

pub at-devices : (trace : Trace) → is_serving (phase trace) ≡ false → IsTrue (not (is_serving (phase trace)) || is_device_next trace (next trace))
at-devices trace h = subst (λ (b : Bool). IsTrue (not b || is_device_next trace (next trace))) (sym h) refl

or-true : (b : Bool) → IsTrue (b || true)
or-true true = refl
or-true false = refl

pub leaves-later : (e : OpenErr) → IsLater e → (trace : Trace) → is_serving (phase trace) ≡ false → MayLeave (leave_of (status_opening e)) trace
leaves-later (NotSalt dev) l trace h = absurd l
leaves-later (OtherShape kept asked) l trace h = absurd l
leaves-later (NumbersSpent boot decisions) l trace h = h
leaves-later opening.Stopped l trace h = h
leaves-later opening.Failed l trace h = h
leaves-later (opening.Full dev) l trace h = at-devices trace h
leaves-later opening.Memory l trace h = tt

flies-later : (e : OpenErr) → IsLater e → (trace : Trace) (flies : Option Flight) → flies ≡ flight_told (flight trace) → IsFlightAt (status_opening e) trace flies
flies-later (NotSalt dev) l trace flies h = absurd l
flies-later (OtherShape kept asked) l trace flies h = absurd l
flies-later (NumbersSpent boot decisions) l trace flies h = h
flies-later opening.Stopped l trace flies h = h
flies-later opening.Failed l trace flies h = h
flies-later (opening.Full dev) l trace flies h = h
flies-later opening.Memory l trace flies h = inr h

pub later-stop : (e : OpenErr) → IsLater e → IsLaterStop (stop_opening e)
later-stop (NotSalt dev) l = absurd l
later-stop (OtherShape kept asked) l = absurd l
later-stop (NumbersSpent boot decisions) l = tt
later-stop opening.Stopped l = tt
later-stop opening.Failed l = tt
later-stop (opening.Full dev) l = tt
later-stop opening.Memory l = tt

pub full-reason : (e : OpenErr) (dev : ℕ) → status_opening e ≡ DeviceFull dev → e ≡ opening.Full dev
full-reason (NotSalt d) dev h = absurd cc
full-reason (OtherShape kept asked) dev h = absurd cc
full-reason (NumbersSpent boot decisions) dev h = absurd cc
full-reason opening.Stopped dev h = absurd cc
full-reason opening.Failed dev h = absurd cc
full-reason (opening.Full d) dev h = cc
full-reason opening.Memory dev h = absurd cc

-- how it may fail there

may-fail : (room : ℕ) (p : Point) (e : OpenErr) → p.state.units.phase ≡ Fallen → MayFailAt room p e → MayEndAt room p (status_opening e)
may-fail room p (NotSalt dev) fell h = h
may-fail room p (OtherShape kept asked) fell h = h
may-fail room p (NumbersSpent boot decisions) fell h = (fell, h)
may-fail room p opening.Stopped fell h = tt
may-fail room p opening.Failed fell h = tt
may-fail room p (opening.Full dev) fell h = tt
may-fail room p opening.Memory fell h = tt

may-halt : (room : ℕ) (p : Point) (h : Halt) → MayEndAt room p (status_opening (halted_by h))
may-halt room p halt.Stopped = tt
may-halt room p halt.DiskFault = tt
may-halt room p (halt.DeviceFull dev) = tt
may-halt room p halt.Memory = tt

-- the numbers that are told

same-numbers : (e : OpenErr) → numbers_of e ≡ numbers_of_status (status_opening e)
same-numbers (NotSalt dev) = refl
same-numbers (OtherShape kept asked) = refl
same-numbers (NumbersSpent boot decisions) = refl
same-numbers opening.Stopped = refl
same-numbers opening.Failed = refl
same-numbers (opening.Full dev) = refl
same-numbers opening.Memory = refl

-- AN OPENING

module _ (devices : OnDevices) (flies : Option Flight) (e : OpenErr) (start : Start) (trace : Trace) (story told : List Event)
    (b : BreaksOpening devices flies e start trace story told) where
  not-begun : NotBegun devices flies e b.after b.point → LeavesAt devices flies (status_opening e) start b.after told
  not-begun n = record {
    tells = b.tells;
    fits = b.fits;
    leaves = leaves-later e b.later b.after (ap is_serving n.fallen);
    flies = flies-later e b.later b.after flies (n.flies ∙ ap flight_told (sym b.keeps.flight));
    ends = record {
      room = n.room;
      point = b.point;
      keeps = b.keeps;
      boots = n.boots;
      may = may-fail n.room b.point e fell n.fails;
      again = λ some. n.again (λ m. some (ap status_opening m));
      stands = subst (λ (told : Option Numbers). devices.stands_for_kept told n.room b.point) (same-numbers e) n.stays;
      full = λ dev is. filled dev (n.full dev (full-reason e dev is));
    };
  }
    where
      fell : b.point.state.units.phase ≡ Fallen
      fell = sym b.keeps.state.units.phase ∙ n.fallen

      filled : (dev : ℕ) → devices.fills_device OfOpening dev ⊎ devices.fills_device OfBoot dev → (x : ToWrite) × MayBeWritten b.point x × devices.fills_device x dev
      filled dev (inl opening) = (OfOpening, inr (fell, inl refl), opening)
      filled dev (inr boot) = (OfBoot, inr (fell, inr refl), boot)

  within : WithinOpening devices flies e b.after b.point → LeavesAt devices flies (status_opening e) start b.after told
  within w = record {
    tells = b.tells;
    fits = b.fits;
    leaves = place w.place;
    flies = flown w.halts.flies;
    ends = record {
      room = 0;
      point = b.point;
      keeps = b.keeps;
      boots = omega arith;
      may = subst (λ x. MayEndAt 0 b.point (status_opening x)) (sym w.halted) (may-halt 0 b.point w.halt);
      again = λ some. w.halts.again (λ m. some (ap status_opening (w.halted ∙ ap halted_by m)));
      stands = subst (λ (told : Option Numbers). devices.stands_for_kept told 0 b.point) (sym (ap numbers_of w.halted ∙ no_numbers w.halt) ∙ same-numbers e) w.halts.stays;
      full = λ dev is. by dev (w.halts.full dev (same_halt w.halt (halt.DeviceFull dev) (sym w.halted ∙ full-reason e dev is)));
    };
  }
    where
      short : w.halt ≡ halt.Memory → e ≡ opening.Memory
      short m = w.halted ∙ ap halted_by m

      place : (w.halt ≡ halt.Memory) ⊎ EndsWithin b.after → MayLeave (leave_of (status_opening e)) b.after
      place (inl m) = subst (λ x. MayLeave (leave_of (status_opening x)) b.after) (sym (short m)) tt
      place (inr within) = leaves-later e b.later b.after (ap is_serving within.opening)

      flown : ((w.halt ≡ halt.Memory) × (flies ≡ None)) ⊎ (flies ≡ flight_told b.point.flight) → IsFlightAt (status_opening e) b.after flies
      flown (inl m) = subst (λ x. IsFlightAt (status_opening x) b.after flies) (sym (short m.0)) (inl m.1)
      flown (inr f) = flies-later e b.later b.after flies (f ∙ ap flight_told (sym b.keeps.flight))

      by : (dev : ℕ) → (x : ToWrite) × IsWrittenAt b.point x × devices.fills_device x dev →
          (x : ToWrite) × MayBeWritten b.point x × devices.fills_device x dev
      by dev x = (x.0, inl x.1, x.2)

  pub leaves-opening : LeavesAt devices flies (status_opening e) start b.after told
  leaves-opening = by b.stops
    where
      by : NotBegun devices flies e b.after b.point ⊎ WithinOpening devices flies e b.after b.point → LeavesAt devices flies (status_opening e) start b.after told
      by (inl n) = not-begun n
      by (inr w) = within w

  pub ends-early : EndsOpening devices flies (stop_opening e) start trace story told
  ends-early = record { after = b.after; lines = b.lines; ends = leaves-opening; grows = b.grows; along = b.along }

  pub ends-opening : (h : Halt) → (h ≡ halt.Memory → ⊥) → EndsResuming devices flies h (stop_opening e) start trace story told
  ends-opening h some = record { after = b.after; lines = b.lines; short = λ m. absurd (some m); ends = leaves-opening; grows = b.grows; along = b.along }

-- A LINE

is-of-units : (s : UnitState) (e : Event) → at_devices_in s e ≡ true → is_of_run e ≡ false
is-of-units s (Down why) h = cc
is-of-units s (Opened boot n) h = cc
is-of-units s e h = refl

device-next : (p : Point) (trace : Trace) (e : Event) → KeepsPoint p trace → IsSound trace → p.next ≡ Some e → at_devices_in p.state.units e ≡ true →
    is_device_next trace (next trace) ≡ true
device-next p trace e k sound comes devices =
    let here : next trace ≡ Some e = k.next ∙ comes in
    let good = good-event trace e (replays trace sound.played) (may-stand trace e (is-of-units p.state.units e devices) here) in
    ap (is_device_next trace) here ∙ devices-told p.state.units trace e k.state.units sound.played good ∙ devices

module _ (devices : OnDevices) (flies : Option Flight) (start : Start) (trace : Trace) (story : List Event) where
  pub halts-full : (dev : ℕ) → HaltsRun devices flies (halt.DeviceFull dev) start story trace → EndsResuming devices flies (halt.DeviceFull dev) (stop.DeviceFull dev) start trace story story
  halts-full dev h = record {
    after = trace;
    lines = refl;
    short = λ m. absurd (never m);
    ends = record {
      tells = h.tells;
      fits = h.fits;
      leaves = place h.halts.reason;
      flies = flown h.halts.flies;
      ends = record {
        room = 0;
        point = h.point;
        keeps = h.keeps;
        boots = omega arith;
        may = tt;
        again = λ some. h.halts.again (λ m. cc);
        stands = h.halts.stays;
        full = λ d is. by d (h.halts.full d (same d is));
      };
    };
    grows = ([], sym (append-nil story));
    along = record { line = refl; armed = λ first. refl };
  }
    where
      never : halt.DeviceFull dev ≡ halt.Memory → ⊥
      never e = cc

      same : (d : ℕ) → DeviceFull dev ≡ DeviceFull d → halt.DeviceFull dev ≡ halt.DeviceFull d
      same d is = cc

      place : (halt.DeviceFull dev ≡ halt.Memory) ⊎ ((e : Event) × (h.point.next ≡ Some e) × (at_devices_in h.point.state.units e ≡ true)) →
          IsTrue (not (is_serving (phase trace)) || is_device_next trace (next trace))
      place (inl m) = absurd (never m)
      place (inr r) =
          subst (λ (b : Bool). IsTrue (not (is_serving (phase trace)) || b)) (sym (device-next h.point trace r.0 h.keeps (sound-of start trace h.tells.begins h.tells.played h.fits) r.1 r.2))
          (or-true (not (is_serving (phase trace))))

      flown : ((halt.DeviceFull dev ≡ halt.Memory) × (flies ≡ None)) ⊎ (flies ≡ flight_told h.point.flight) → flies ≡ flight_told (flight trace)
      flown (inl m) = absurd (never m.0)
      flown (inr f) = f ∙ ap flight_told (sym h.keeps.flight)

      by : (d : ℕ) → (x : ToWrite) × IsWrittenAt h.point x × devices.fills_device x d →
          (x : ToWrite) × MayBeWritten h.point x × devices.fills_device x d
      by d x = (x.0, inl x.1, x.2)

  pub halts-short : HaltsRun devices flies halt.Memory start story trace → EndsResuming devices flies halt.Memory stop.Memory start trace story story
  halts-short h = record {
    after = trace;
    lines = refl;
    short = λ m. (refl, refl);
    ends = record {
      tells = h.tells;
      fits = h.fits;
      leaves = tt;
      flies = flown h.halts.flies;
      ends = record {
        room = 0;
        point = h.point;
        keeps = h.keeps;
        boots = omega arith;
        may = tt;
        again = λ some. absurd (some refl);
        stands = h.halts.stays;
        full = λ d is. absurd (never d is);
      };
    };
    grows = ([], sym (append-nil story));
    along = record { line = refl; armed = λ first. refl };
  }
    where
      never : (d : ℕ) → Memory ≡ DeviceFull d → ⊥
      never d is = cc

      flown : ((halt.Memory ≡ halt.Memory) × (flies ≡ None)) ⊎ (flies ≡ flight_told h.point.flight) → (flies ≡ None) ⊎ (flies ≡ flight_told (flight trace))
      flown (inl m) = inl m.1
      flown (inr f) = inr (f ∙ ap flight_told (sym h.keeps.flight))

-- BETWEEN LINES

decision-none : (o : Option Event) → o ≡ None → decision_in o ≡ None
decision-none o h = ap decision_in h

pub complete-flight : (trace : Trace) → IsComplete trace → flight trace ≡ None
complete-flight (from k) c = refl
complete-flight (trace asks asked) c = decision-none (next (trace asks asked)) c.1
complete-flight (trace turns b) c = decision-none (next (trace turns b)) c.1
complete-flight (trace says Down why) c = absurd (fell c.0)
  where
    fell : Fallen ≡ Serving → ⊥
    fell e = cc
complete-flight (trace says Opened boot n) c = decision-none (next (trace says Opened boot n)) c.1
complete-flight (trace says e) c = decision-none (next (trace says e)) c.1

module _ {E : Type 0} (stands_for : E → Option Event → State → Type 0) (devices : OnDevices) (flies : Option Flight) (e : E)
    (idle : (p : Point) → IsSoundPoint p → IsIdleAt (stands_for e) p → devices.can_reopen_at 0 p) (flown : (p : Point) → IsSoundPoint p → IsIdleAt (stands_for e) p → flies ≡ None)
    (leaves : (room : ℕ) (p : Point) → devices.can_reopen_at room p → devices.stands_for_kept None room p) (start : Start) (trace : Trace) (story : List Event) (s : ServesTrace (stands_for e) start story trace) where
  ends-idle : (status : Status) → ((room : ℕ) (p : Point) → MayEndAt room p status) → ((dev : ℕ) → status ≡ DeviceFull dev → ⊥) → numbers_of_status status ≡ None → EndsFound devices status trace
  ends-idle status may never none =
      let at = idle s.point (serves-at stands_for stands_for start e story trace s) s.stands in
      record {
        room = 0;
        point = s.point;
        keeps = s.keeps;
        boots = omega arith;
        may = may 0 s.point;
        again = λ some. at;
        stands = subst (λ (told : Option Numbers). devices.stands_for_kept told 0 s.point) (sym none) (leaves 0 s.point at);
        full = λ dev is. absurd (never dev is);
      }

  none-flown : flies ≡ None
  none-flown = flown s.point (serves-at stands_for stands_for start e story trace s) s.stands

  pub done-leaves : LeavesAt devices flies Done start trace story
  done-leaves = record { tells = s.tells; fits = s.fits; leaves = s.complete; flies = none-flown; ends = ends-idle Done (λ room p. tt) (λ dev is. cc) refl }

  pub fault-leaves : LeavesAt devices flies ReadFault start trace story
  fault-leaves = record { tells = s.tells; fits = s.fits; leaves = s.complete; flies = none-flown; ends = ends-idle ReadFault (λ room p. tt) (λ dev is. cc) refl }

  pub long-leaves : LeavesAt devices flies ScriptTooLong start trace story
  long-leaves = record { tells = s.tells; fits = s.fits; leaves = s.complete; flies = none-flown; ends = ends-idle ScriptTooLong (λ room p. tt) (λ dev is. cc) refl }

  pub short-leaves : LeavesAt devices flies Memory start trace story
  short-leaves = record { tells = s.tells; fits = s.fits; leaves = tt; flies = inl none-flown; ends = ends-idle Memory (λ room p. tt) (λ dev is. cc) refl }

  pub unwritten-leaves : LeavesAt devices flies WriteFault start trace story
  unwritten-leaves = record {
    tells = s.tells;
    fits = s.fits;
    leaves = inl s.complete;
    flies = none-flown ∙ sym (ap flight_told (complete-flight trace s.complete));
    ends = ends-idle WriteFault (λ room p. tt) (λ dev is. cc) refl;
  }

  -- for want of memory it is halted there
  pub idle-halts : HaltsRun devices flies halt.Memory start story trace
  idle-halts = record {
    tells = s.tells;
    fits = s.fits;
    point = s.point;
    keeps = s.keeps;
    serving = s.complete.0;
    halts = record {
      reason = inl refl;
      flies = inl (refl, none-flown);
      full = λ dev is. absurd (never dev is);
      again = λ some. idle s.point (serves-at stands_for stands_for start e story trace s) s.stands;
      stays = leaves 0 s.point (idle s.point (serves-at stands_for stands_for start e story trace s) s.stands);
    };
  }
    where
      never : (dev : ℕ) → halt.Memory ≡ halt.DeviceFull dev → ⊥
      never dev is = cc

-- THE SINK FAILED

untold : (devices : OnDevices) → ((numbers : Numbers) (room : ℕ) (p : Point) → devices.stands_for_kept (Some numbers) room p → devices.stands_for_kept None room p) → (told : Option Numbers) (room : ℕ) (p : Point) →
    devices.stands_for_kept told room p → devices.stands_for_kept None room p
untold devices forgets None room p h = h
untold devices forgets (Some numbers) room p h = forgets numbers room p h

module _ (devices : OnDevices) (flies : Option Flight) (forgets : (numbers : Numbers) (room : ℕ) (p : Point) → devices.stands_for_kept (Some numbers) room p → devices.stands_for_kept None room p) (start : Start) (trace : Trace) (story : List Event) where
  ends-unwritten : (status : Status) → (status ≡ Memory → ⊥) → EndsFound devices status trace → EndsFound devices WriteFault trace
  ends-unwritten status some x = record {
    room = x.room;
    point = x.point;
    keeps = x.keeps;
    boots = x.boots;
    may = tt;
    again = λ other. x.again some;
    stands = untold devices forgets (numbers_of_status status) x.room x.point x.stands;
    full = λ dev is. absurd (never dev is);
  }
    where
      never : (dev : ℕ) → WriteFault ≡ DeviceFull dev → ⊥
      never dev is = cc

  pub leaves-unwritten : (s : Stop) → IsLaterStop s → (s ≡ stop.Memory → ⊥) → LeavesAt devices flies (status_of s) start trace story → LeavesAt devices flies WriteFault start trace story
  leaves-unwritten stop.Memory l some x = absurd (some refl)
  leaves-unwritten stop.DiskFault l some x =
      record { tells = x.tells; fits = x.fits; leaves = inr (at-devices trace x.leaves); flies = x.flies; ends = ends-unwritten (status_of stop.DiskFault) (λ m. cc) x.ends }
  leaves-unwritten (stop.DeviceFull dev) l some x =
      record { tells = x.tells; fits = x.fits; leaves = inr x.leaves; flies = x.flies; ends = ends-unwritten (DeviceFull dev) (λ m. cc) x.ends }
  leaves-unwritten (stop.NumbersSpent boot decisions) l some x =
      record { tells = x.tells; fits = x.fits; leaves = inr (at-devices trace x.leaves); flies = x.flies; ends = ends-unwritten (status_of (stop.NumbersSpent boot decisions)) (λ m. cc) x.ends }
  leaves-unwritten s l some x = absurd l

-- THE ANSWER OF A DEVICE

pub answers-opening : (e : OpenErr) → (e ≡ opening.Stopped → ⊥) → open_disk_err_of e ≡ answer_of (status_opening e)
answers-opening (NotSalt dev) some = refl
answers-opening (OtherShape kept asked) some = refl
answers-opening (NumbersSpent boot decisions) some = refl
answers-opening opening.Stopped some = absurd (some refl)
answers-opening opening.Failed some = refl
answers-opening (opening.Full dev) some = refl
answers-opening opening.Memory some = refl
