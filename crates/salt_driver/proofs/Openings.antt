-- A run that is down goes on to the end of an opening, or breaks off in it.
use Rattle.law_states.proofs.PointsGoOn.{idle-complete, no-more, runs-point, start-on, story-on}
use Rattle.law_states.specs.Laws.{IsSound, is_of_run}
use Rattle.law_states.specs.Follows.{said_in}
use Rattle.law_states.specs.OpenUnits.{UnitState}
use Rattle.law_states.specs.Points.{KeepsPoint, TraceStep, Moves, Point, Runs, Say, stepped, told_by, trace_on}
use Rattle.law_states.specs.Readings.{beside_by}
use Rattle.law_states.specs.States.{State}
use Rattle.law_states.specs.Steps.{units_after}
use Rattle.law_states.specs.Told.{at_devices_in}
use Rattle.salt_model.specs.After.{kept}
use Rattle.salt_model.specs.Kept.{Kept}
use Rattle.salt_model.specs.Next.{flight}
use Rattle.salt_model.specs.Phases.{Fallen, Opening, Phase, downs, has_opened}
use Rattle.salt_model.specs.Stops.{MayOpen}
use Rattle.law_story.specs.ContNames.{AreNamed}
use Rattle.salt_model.specs.Trace.{Start, Trace, from, story_of, ◌says◌}
use Rattle.salt_model.specs.Words.{Every}
use Rattle.salt_model.specs.declared.events.Event.TheVariants.{Down, Early, Opened, Ready}
use Rattle.salt_model.specs.declared.events.Event.{Event}
use Rattle.salt_model.specs.declared.events.Flight.{Flight}
use Rattle.law_openings.proofs.Opening.{opens-point}
use Rattle.salt_driver.proofs.Advancing.{append-both, inside-both, lines-on, runs-both, tells-both}
use Rattle.salt_driver.proofs.Along.{along-behind, goes-along, says-along, stays-along}
use Rattle.salt_driver.proofs.Segments.{sound-at, sound-of, unspent-on}
use Rattle.salt_driver.specs.Devices.{OnDevices}
use Rattle.salt_driver.specs.Draining.{BreaksWithin}
use Rattle.salt_driver.specs.Opening.{HasOpened, MayFailAt}
use Rattle.salt_driver.specs.Reopening.{BreaksOpening, EndsWithin, ReopensRun}
use Rattle.salt_driver.specs.Serving.{IsDown, IsFitting}
use Rattle.salt_driver.specs.Along.{StaysInSegment}
use Rattle.salt_driver.specs.Standing.{BreaksAt, HaltsAt, IsInside, IsSoundPoint, OpensOn}
use Rattle.salt_storage.proofs.Halted.{halted_later, no_numbers, same_halt}
use Rattle.salt_storage.specs.Answers.{IsLater, halted_by, numbers_of}
use Rattle.salt_storage.specs.Writing.{OfBoot, OfOpening}
use Rattle.salt_storage.specs.declared.halt.Halt.TheVariants.{DeviceFull, DiskFault, Memory, Stopped}
use Rattle.salt_storage.specs.declared.halt.Halt.{Halt}
use Rattle.salt_storage.specs.OpenErr.TheVariants as opening
use Rattle.salt_storage.specs.OpenErr.TheVariants.{NotSalt, NumbersSpent, OtherShape}
use Rattle.salt_storage.specs.OpenErr.{OpenErr}
use Rattle.law_types.specs.Played.{HasKey}
use Rattle.law_types.specs.Typed.{IsTyped}
use Rattle.std.proofs.Common.{ap, arith, inl, inr, subst, sym, ◌∙◌}
use Rattle.std.specs.Prelude.{Bool, Err, IsSome, List, None, Option, Result, Some, [], false, if◌then◌else◌, refl, true, ℕ, ◌+◌, ◌++◌, ◌<◌, ◌∷◌, ◌≡◌, ◌≤◌, ◌⊎◌}

pub down-sound : (devices : OnDevices) (flight : Option Flight) (start : Start) (story : List Event) (trace : Trace) → (d : IsDown devices flight start story trace) →
    IsSoundPoint d.point
down-sound devices flight start story trace d = sound-at start trace d.point d.tells.begins d.tells.played d.fits d.keeps

pub down-fallen : (devices : OnDevices) (flight : Option Flight) (start : Start) (story : List Event) (trace : Trace) → (d : IsDown devices flight start story trace) →
    d.point.state.units.phase ≡ Fallen
down-fallen devices flight start story trace d = sym d.keeps.state.units.phase ∙ d.fallen

-- it may be opened so
may-open : (devices : OnDevices) (flies : Option Flight) (start : Start) (story : List Event) (trace : Trace) → (d : IsDown devices flies start story trace) →
    (h : HasOpened d.room d.point) → MayOpen Fallen trace h.boot h.number
may-open devices flies start story trace d h = (above, most, by h.stands_for)
  where
    same : kept trace ≡ d.point.state.units.kept
    same = d.keeps.state.units.kept

    above : (kept trace).boot < h.boot
    above = subst (λ (k : Kept). k.boot < h.boot) (sym same) h.above

    most : h.boot ≤ (kept trace).boot + (downs trace + (if has_opened trace then 0 else 1))
    most =
        subst (λ (k : Kept). h.boot ≤ k.boot + (downs trace + (if has_opened trace then 0 else 1))) (sym same)
        (let a = h.most in let b = d.boots in omega arith)

    by : (h.number ≡ d.point.state.units.kept.decisions) ⊎ (IsSome d.point.flight × (h.number ≡ d.point.state.units.kept.decisions + 1)) →
        (h.number ≡ (kept trace).decisions) ⊎ (IsSome (flight trace) × (h.number ≡ (kept trace).decisions + 1))
    by (inl e) = inl (subst (λ (k : Kept). h.number ≡ k.decisions) (sym same) e)
    by (inr e) = inr (subst (λ (f : Option Event). IsSome f) (sym d.keeps.flight) e.0, subst (λ (k : Kept). h.number ≡ k.decisions + 1) (sym same) e.1)

opened-keeps : (devices : OnDevices) (flies : Option Flight) (start : Start) (story : List Event) (trace : Trace) → (d : IsDown devices flies start story trace) →
    (h : HasOpened d.room d.point) → KeepsPoint h.point (trace says Opened h.boot h.number) × IsSound (trace says Opened h.boot h.number)
opened-keeps devices flies start story trace d h =
    opens-point h.boot h.number d.point h.point trace d.keeps (sound-of start trace d.tells.begins d.tells.played d.fits) (may-open devices flies start story trace d h) h.opens

pub opened-sound : (devices : OnDevices) (flies : Option Flight) (start : Start) (story : List Event) (trace : Trace) → (d : IsDown devices flies start story trace) →
    (h : HasOpened d.room d.point) → IsSoundPoint h.point
opened-sound devices flies start story trace d h =
    let k = opened-keeps devices flies start story trace d h in
    record {
      trace = trace says Opened h.boot h.number;
      keeps = k.0;
      sound = k.1;
      typed = subst (λ (x : Start). IsTyped x.kept) (sym d.tells.begins) d.fits.typed;
      named = subst (λ (x : Start). AreNamed (from x)) (sym d.tells.begins) d.fits.named;
      keyed = d.fits.keyed;
    }

-- an opening ends by this event
abbrev ends_opening : Event → Bool
ends_opening Ready = true
ends_opening (Early bs) = true
ends_opening e = false

phase-stays : (e : Event) (s : UnitState) → is_of_run e ≡ false → ends_opening e ≡ false → s.phase ≡ Opening → (units_after e s).phase ≡ Opening
phase-stays (Down why) s h r p = cc
phase-stays (Opened boot n) s h r p = cc
phase-stays Ready s h r p = cc
phase-stays (Early bs) s h r p = cc
phase-stays e s h r p = p

-- behind it nothing comes next
end-rests : (e : Event) (p q : Point) → ends_opening e ≡ true → Moves (Say e) p q → q.next ≡ None
end-rests Ready p q h m =
    m.0.next ∙ ap (λ (f : Phase). said_in f q.state.units (beside_by q.state m.0.read) Ready None) (ap (λ (s : UnitState). s.phase) m.0.after.units)
end-rests (Early bs) p q h m =
    m.0.next ∙ ap (λ (f : Phase). said_in f q.state.units (beside_by q.state m.0.read) (Early bs) None) (ap (λ (s : UnitState). s.phase) m.0.after.units)
end-rests e p q h m = cc

pub opening-on : (e : Event) (p q : Point) (event : Event) → p.state.units.phase ≡ Opening → Moves (Say e) p q → q.next ≡ Some event → q.state.units.phase ≡ Opening
opening-on e p q event opening m comes = by (ends_opening e) refl
  where
    by : (b : Bool) → ends_opening e ≡ b → q.state.units.phase ≡ Opening
    by true is = let none = end-rests e p q is m in cc
    by false is = ap (λ (s : UnitState). s.phase) m.0.after.units ∙ phase-stays e p.state.units m.1 is opening

module _ (devices : OnDevices) (flies : Option Flight) (start : Start) (story : List Event) (trace : Trace) (d : IsDown devices flies start story trace) where
  -- the trace with moves of the opening
  abbrev behind : HasOpened d.room d.point → List TraceStep → Trace
  behind h ms = trace_on (trace says Opened h.boot h.number) ms

  behind-fits : (h : HasOpened d.room d.point) (ms : List TraceStep) (q : Point) → Runs h.point ms q → Every IsInside ms → IsFitting start (behind h ms)
  behind-fits h ms q runs inside = record {
    well = d.fits.well;
    typed = d.fits.typed;
    named = d.fits.named;
    keyed = subst (Every HasKey) (sym (lines-on ms (trace says Opened h.boot h.number) inside)) d.fits.keyed;
    unspent = unspent-on ms h.point q (trace says Opened h.boot h.number) runs (d.fits.unspent, h.unspent);
  }

  behind-keeps : (h : HasOpened d.room d.point) (ms : List TraceStep) (q : Point) → Runs h.point ms q → KeepsPoint q (behind h ms) × IsSound (behind h ms)
  behind-keeps h ms q runs =
      let k = opened-keeps devices flies start story trace d h in
      runs-point ms h.point q (trace says Opened h.boot h.number) k.0 k.1 runs

  behind-told : (h : HasOpened d.room d.point) (ms : List TraceStep) (told : List Event) → told ≡ (story ++ Opened h.boot h.number ∷ []) ++ told_by ms → story_of (behind h ms) ≡ told
  behind-told h ms told tells =
      story-on ms (trace says Opened h.boot h.number) ∙ ap (λ es. (es ++ Opened h.boot h.number ∷ []) ++ told_by ms) d.tells.told ∙ sym tells

  behind-grows : (h : HasOpened d.room d.point) (ms : List TraceStep) (told : List Event) → told ≡ (story ++ Opened h.boot h.number ∷ []) ++ told_by ms →
      told ≡ story ++ (Opened h.boot h.number ∷ told_by ms)
  behind-grows h ms told tells = tells ∙ append-both story (Opened h.boot h.number ∷ []) (told_by ms)

  behind-along : (h : HasOpened d.room d.point) (ms : List TraceStep) → Every IsInside ms → StaysInSegment trace (behind h ms) (Opened h.boot h.number ∷ told_by ms)
  behind-along h ms inside =
      along-behind trace (trace says Opened h.boot h.number) (behind h ms) (Opened h.boot h.number ∷ []) (told_by ms) (says-along trace (Opened h.boot h.number))
      (goes-along ms (trace says Opened h.boot h.number) inside)

  -- what is told behind the Opened is told behind what was told before
  pub behind-opened : {E : Type 0} (stands_for : E → Option Event → State → Type 0) (h : HasOpened d.room d.point) (e : E) (opened told : List Event) → opened ≡ story ++ Opened h.boot h.number ∷ [] →
      OpensOn (stands_for e) h.point opened None told → OpensOn (stands_for e) h.point (story ++ Opened h.boot h.number ∷ []) None told
  behind-opened stands_for h e opened told tells on = subst (λ es. OpensOn (stands_for e) h.point es None told) tells on

  pub opening-ends : {E : Type 0} (stands_for : E → Option Event → State → Type 0) (h : HasOpened d.room d.point) (e : E) (told : List Event) →
      OpensOn (stands_for e) h.point (story ++ Opened h.boot h.number ∷ []) None told → ReopensRun (stands_for e) start trace story told
  opening-ends stands_for h e told on =
      let ms = on.moves in
      let k = behind-keeps h ms on.point on.runs in
      record {
        after = behind h ms;
        lines = lines-on ms (trace says Opened h.boot h.number) on.inside;
        serves = record {
          tells = record { begins = start-on ms (trace says Opened h.boot h.number) ∙ d.tells.begins; told = behind-told h ms told on.tells; played = k.1.played };
          complete = idle-complete on.point (behind h ms) k.0 on.stands.idle;
          fits = behind-fits h ms on.point on.runs on.inside;
          point = on.point;
          keeps = k.0;
          stands = on.stands;
        };
        grows = (Opened h.boot h.number ∷ told_by ms, behind-grows h ms told on.tells);
        along = behind-along h ms on.inside;
      }

  -- it breaks off: before it was begun

  halted-fails : (room : ℕ) (p : Point) (halt : Halt) → MayFailAt room p (halted_by halt)
  halted-fails room p Stopped = tt
  halted-fails room p DiskFault = tt
  halted-fails room p (DeviceFull dev) = tt
  halted-fails room p Memory = tt

  pub opening-fails : (now : OnDevices) (flight : Option Flight) (halt : Halt) (told : List Event) → told ≡ story → flight ≡ flies →
      ((dev : ℕ) → halt ≡ DeviceFull dev → now.fills_device OfBoot dev) → ((halt ≡ Memory → ⊥) → now.can_reopen_at (d.room + 1) d.point) → now.stands_for_kept None (d.room + 1) d.point →
      BreaksOpening now flight (halted_by halt) start trace story told
  opening-fails now flight halt told same keeps full again stays = record {
    after = trace;
    lines = refl;
    tells = record { begins = d.tells.begins; told = d.tells.told ∙ sym same; played = d.tells.played };
    fits = d.fits;
    point = d.point;
    keeps = d.keeps;
    grows = ([], same ∙ sym (no-more story));
    along = stays-along trace;
    later = halted_later halt;
    stops = inl (record {
      fallen = d.fallen;
      room = d.room + 1;
      boots = d.boots;
      fails = halted-fails (d.room + 1) d.point halt;
      full = λ dev is. inr (full dev (same_halt halt (DeviceFull dev) is));
      again = λ some. again (λ is. some (ap halted_by is));
      stays = subst (λ numbers. now.stands_for_kept numbers (d.room + 1) d.point) (sym (no_numbers halt)) stays;
      flies = keeps ∙ d.flies;
    });
  }

  -- or at an event

  breaks-here : (now : OnDevices) (flight : Option Flight) (halt : Halt) (h : HasOpened d.room d.point) (ms : List TraceStep) (q : Point) (told : List Event) →
      Runs h.point ms q → Every IsInside ms → told ≡ (story ++ Opened h.boot h.number ∷ []) ++ told_by ms → HaltsAt now flight halt q →
      (halt ≡ Memory) ⊎ EndsWithin (behind h ms) → BreaksOpening now flight (halted_by halt) start trace story told
  breaks-here now flight halt h ms q told runs inside tells halts place =
      let k = behind-keeps h ms q runs in
      record {
        after = behind h ms;
        lines = lines-on ms (trace says Opened h.boot h.number) inside;
        tells = record { begins = start-on ms (trace says Opened h.boot h.number) ∙ d.tells.begins; told = behind-told h ms told tells; played = k.1.played };
        fits = behind-fits h ms q runs inside;
        point = q;
        keeps = k.0;
        grows = (Opened h.boot h.number ∷ told_by ms, behind-grows h ms told tells);
        along = behind-along h ms inside;
        later = halted_later halt;
        stops = inr (record { halt = halt; halted = refl; halts = halts; place = place });
      }

  last-of : (h : HasOpened d.room d.point) (ms : List TraceStep) (e : Event) → behind h (ms ++ Say e ∷ []) ≡ (behind h ms says e)
  last-of h ms e = go (trace says Opened h.boot h.number) ms
    where
      go : (t : Trace) (ms : List TraceStep) → trace_on t (ms ++ Say e ∷ []) ≡ (trace_on t ms says e)
      go t [] = refl
      go t (m ∷ ms) = go (stepped t m) ms

  pub opening-breaks : (now : OnDevices) (flight : Option Flight) (halt : Halt) (h : HasOpened d.room d.point) (opened told : List Event) →
      opened ≡ story ++ Opened h.boot h.number ∷ [] → BreaksWithin now flight halt h.point opened told → BreaksOpening now flight (halted_by halt) start trace story told
  opening-breaks now flight halt h opened told same b = by b.breaks
    where
      tells : b.before ≡ (story ++ Opened h.boot h.number ∷ []) ++ told_by b.moves
      tells = b.tells ∙ ap (λ es. es ++ told_by b.moves) same

      place : (q : Point) → KeepsPoint q (behind h (b.moves ++ Say b.event ∷ [])) → Moves (Say b.event) b.point q →
          (halt ≡ Memory) ⊎ ((f : Event) × (q.next ≡ Some f) × (at_devices_in q.state.units f ≡ true)) → (halt ≡ Memory) ⊎ EndsWithin (behind h (b.moves ++ Say b.event ∷ []))
      place q k m (inl memory) = inl memory
      place q k m (inr f) = inr (record {
        opening = k.state.units.phase ∙ opening-on b.event b.point q f.0 b.opening m f.1;
        before = behind h b.moves;
        event = b.event;
        behind = last-of h b.moves b.event;
        plain = m.1;
      })

      by : BreaksAt now flight halt b.point b.event b.before told → BreaksOpening now flight (halted_by halt) start trace story told
      by (inl short) =
          subst (λ es. BreaksOpening now flight (halted_by halt) start trace story es) (sym short.0)
          (breaks-here now flight halt h b.moves b.point b.before b.runs b.inside tells short.1 (inl short.2))
      by (inr said) =
          let q = said.1.0 in
          let m = said.1.1 in
          let ms = b.moves ++ Say b.event ∷ [] in
          let runs = runs-both b.moves (Say b.event ∷ []) h.point b.point q b.runs (q, m, refl) in
          let inside = inside-both b.moves (Say b.event ∷ []) b.inside (tt, tt) in
          let k = behind-keeps h ms q runs in
          breaks-here now flight halt h ms q told runs inside
          (tells-both (story ++ Opened h.boot h.number ∷ []) b.before told b.moves (Say b.event ∷ []) tells said.0) said.1.2 (place q k.0 m said.1.2.reason)

-- FINDING what devices stand for

same-err : {A : Type 0} (a b : OpenErr) → ◌≡◌ {A = Result A OpenErr} (Err a) (Err b) → a ≡ b
same-err a b h = cc

pub not-short : {A : Type 0} (e : OpenErr) → (e ≡ opening.Memory → ⊥) → ◌≡◌ {A = Result A OpenErr} (Err e) (Err opening.Memory) → ⊥
not-short e some is = some (same-err e opening.Memory is)

pub found-down : (devices now : OnDevices) (flies known : Option Flight) (start : Start) (story : List Event) (trace : Trace) →
    (d : IsDown devices flies start story trace) → ((room : ℕ) (p : Point) → IsSoundPoint p → p.state.units.phase ≡ Fallen → devices.can_reopen_at room p → now.can_reopen_at room p) → known ≡ flies →
    IsDown now known start story trace
found-down devices now flies known start story trace d found same = record {
  tells = d.tells;
  fallen = d.fallen;
  fits = d.fits;
  point = d.point;
  keeps = d.keeps;
  room = d.room;
  boots = d.boots;
  again = found d.room d.point (down-sound devices flies start story trace d) (down-fallen devices flies start story trace d) d.again;
  flies = same ∙ d.flies;
}

fails-later : (room : ℕ) (p : Point) (e : OpenErr) → MayFailAt room p e → IsLater e
fails-later room p (NotSalt dev) h = h
fails-later room p (OtherShape kept asked) h = h
fails-later room p (NumbersSpent boot decisions) h = h.spent
fails-later room p opening.Failed h = tt
fails-later room p opening.Stopped h = tt
fails-later room p (opening.Full dev) h = tt
fails-later room p opening.Memory h = tt

pub finding-fails : (devices now : OnDevices) (flies known : Option Flight) (e : OpenErr) (start : Start) (story : List Event) (trace : Trace) →
    (d : IsDown devices flies start story trace) →
    ((e ≡ opening.Memory → ⊥) → (room : ℕ) (p : Point) → IsSoundPoint p → p.state.units.phase ≡ Fallen → devices.can_reopen_at room p → now.can_reopen_at room p) →
    ((room : ℕ) (p : Point) → IsSoundPoint p → p.state.units.phase ≡ Fallen → devices.can_reopen_at room p → now.stands_for_kept (numbers_of e) room p) → known ≡ flies →
    ((room : ℕ) (p : Point) → IsSoundPoint p → p.state.units.phase ≡ Fallen → devices.can_reopen_at room p → MayFailAt room p e) →
    ((dev : ℕ) → e ≡ opening.Full dev → now.fills_device OfOpening dev) → BreaksOpening now known e start trace story story
finding-fails devices now flies known e start story trace d found stays same fails full =
    let sound = down-sound devices flies start story trace d in
    let fallen = down-fallen devices flies start story trace d in
    record {
      after = trace;
      lines = refl;
      tells = d.tells;
      fits = d.fits;
      point = d.point;
      keeps = d.keeps;
      grows = ([], sym (no-more story));
      along = stays-along trace;
      later = fails-later d.room d.point e (fails d.room d.point sound fallen d.again);
      stops = inl (record {
        fallen = d.fallen;
        room = d.room;
        boots = let b = d.boots in omega arith;
        fails = fails d.room d.point sound fallen d.again;
        full = λ dev is. inl (full dev is);
        again = λ some. found some d.room d.point sound fallen d.again;
        stays = stays d.room d.point sound fallen d.again;
        flies = same ∙ d.flies;
      });
    }
