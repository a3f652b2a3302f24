-- A run that was broken off in an opening falls again, and can be opened there.
use Rattle.salt_storage.proofs.Halted.{same_halt}
use Rattle.salt_storage.specs.OpenErr.TheVariants as opening
use Rattle.law_states.proofs.PointsFall.{falls-point}
use Rattle.law_states.proofs.PointsGoOn.{no-more}
use Rattle.law_states.specs.Laws.{IsSound}
use Rattle.law_states.specs.Points.{KeepsPoint, Point}
use Rattle.law_states.specs.States.{State, named_by, net_by}
use Rattle.law_states.specs.Steps.{units_after}
use Rattle.law_states.specs.Told.{at_devices_in}
use Rattle.salt_model.specs.Ends.{flight_told}
use Rattle.salt_model.specs.Phases.{downs, has_opened}
use Rattle.salt_model.specs.Trace.{Start, Trace, start_of, story_of, ◌says◌}
use Rattle.salt_model.specs.declared.events.Event.TheVariants.{Down}
use Rattle.salt_model.specs.declared.events.Event.{Event}
use Rattle.salt_model.specs.declared.events.Flight.{Flight}
use Rattle.salt_model.specs.declared.events.Why.TheVariants.{Fault, Stopped}
use Rattle.salt_model.specs.declared.events.Why.{Why}
use Rattle.law_openings.proofs.Leaving.{leaves}
use Rattle.law_openings.proofs.Opening.{falls-again, falls-in-opening}
use Rattle.law_openings.specs.Openings.{FallsInOpening, Leaves}
use Rattle.salt_driver.proofs.Along.{along-behind, says-along, stays-along}
use Rattle.salt_driver.proofs.Segments.{sound-of}
use Rattle.salt_driver.specs.Devices.{OnDevices}
use Rattle.salt_driver.specs.Opening.{IsFallenFrom, halt_of}
use Rattle.salt_driver.specs.Reopening.{BreaksOpening, EndsWithin, FallsAnew, NotBegun, ReopensRun, WithinOpening}
use Rattle.salt_driver.specs.Serving.{GainsEvents, HaltsRun, IsDown, IsFitting}
use Rattle.salt_storage.specs.Answers.{halted_by, numbers_of}
use Rattle.salt_storage.specs.declared.halt.Halt.TheVariants as halt
use Rattle.salt_storage.specs.declared.halt.Halt.{Halt}
use Rattle.salt_storage.specs.OpenErr.{OpenErr}
use Rattle.std.proofs.Common.{ap, append-nil, arith, inl, inr, subst, sym, ◌∙◌}
use Rattle.std.specs.Prelude.{Bool, List, None, Option, Some, [], false, if◌then◌else◌, refl, true, ℕ, ◌+◌, ◌++◌, ◌∷◌, ◌≡◌, ◌≤◌, ◌⊎◌}

-- the point behind a Down
unfoldable pub fallen_point : (why : Why) (p : Point) → Leaves (Down why) p.state → Point
fallen_point why p l = record {
  state = record {
    units = units_after (Down why) p.state.units;
    watch = l.watch;
    names = named_by (Down why) p.state.names;
    can_stop = p.state.can_stop;
    over_net = p.state.over_net;
    net = net_by (Down why) p.state.units p.state.net;
  };
  next = None;
  flight = p.flight;
}

pub fell-from : (why : Why) (p : Point) → (l : Leaves (Down why) p.state) → IsFallenFrom p (fallen_point why p l)
unfolding fallen_point
fell-from why p l = record { why = why; after = l.after; flight = refl }

appended : (es fs gs : List Event) → (es ++ fs) ++ gs ≡ es ++ (fs ++ gs)
appended [] fs gs = refl
appended (e ∷ es) fs gs = ap (λ l. e ∷ l) (appended es fs gs)

-- a trace that goes on by a Down, at whose end the run can be opened
pub down-behind : (why : Why) (devices : OnDevices) (flies : Option Flight) (start : Start) (told now : List Event) (trace : Trace) (q : Point) (room : ℕ) →
    start_of trace ≡ start → story_of trace ≡ told → IsFitting start trace → KeepsPoint q (trace says Down why) × IsSound (trace says Down why) →
    now ≡ told ++ Down why ∷ [] → room ≤ downs trace + (if has_opened trace then 0 else 1) → devices.can_reopen_at room q → flies ≡ flight_told q.flight →
    IsDown devices flies start now (trace says Down why)
down-behind why devices flies start told now trace q room begins tells fits k grows boots again known = record {
  tells = record { begins = begins; told = ap (λ es. es ++ Down why ∷ []) tells ∙ sym grows; played = k.1.played };
  fallen = refl;
  fits = record { well = fits.well; typed = fits.typed; named = fits.named; keyed = fits.keyed; unspent = (fits.unspent, tt) };
  point = q;
  keeps = k.0;
  room = room;
  boots = one-more (has_opened trace) boots;
  again = again;
  flies = known;
}
  where
    one-more : (b : Bool) → room ≤ downs trace + (if b then 0 else 1) → room + 1 ≤ (downs trace + 1) + (if b then 0 else 1)
    one-more true h = omega arith
    one-more false h = omega arith

halted-so : (e : OpenErr) (h : Halt) → e ≡ halted_by h → e ≡ opening.Stopped → h ≡ halt.Stopped
halted-so e h a b = same_halt h halt.Stopped (sym a ∙ b)

memory-is-no-device : (dev : ℕ) → halt.Memory ≡ halt.DeviceFull dev → ⊥
memory-is-no-device dev h = cc

memory-is-not-full : (dev : ℕ) → opening.Memory ≡ opening.Full dev → ⊥
memory-is-not-full dev h = cc

not-memory : (e : OpenErr) → e ≡ opening.Stopped → e ≡ opening.Memory → ⊥
not-memory e a b = cc

no-memory : (h : Halt) → h ≡ halt.Stopped → h ≡ halt.Memory → ⊥
no-memory h a b = cc

module _ (devices again : OnDevices) (flies known : Option Flight) (e : OpenErr) (start : Start) (trace : Trace) (story told now : List Event)
    (stopped : e ≡ opening.Stopped) (falls : (room : ℕ) (p q : Point) → devices.can_reopen_at room p → IsFallenFrom p q → again.can_reopen_at room q) (same : known ≡ flies)
    (grows : now ≡ told ++ Down Stopped ∷ []) where
  anew : (b : BreaksOpening devices flies e start trace story told) → IsDown again known start now (b.after says Down Stopped) → FallsAnew again known start trace story now
  anew b down = record {
    after = b.after says Down Stopped;
    lines = b.lines;
    down = down;
    grows = (b.grows.0 ++ Down Stopped ∷ [], grows ∙ ap (λ es. es ++ Down Stopped ∷ []) b.grows.1 ∙ appended story b.grows.0 (Down Stopped ∷ []));
    along = along-behind trace b.after (b.after says Down Stopped) b.grows.0 (Down Stopped ∷ []) b.along (says-along b.after (Down Stopped));
  }

  not-begun : (b : BreaksOpening devices flies e start trace story told) → NotBegun devices flies e b.after b.point → IsDown again known start now (b.after says Down Stopped)
  unfolding fallen_point
  not-begun b n =
      let sound = sound-of start b.after b.tells.begins b.tells.played b.fits in
      let l = leaves b.point.state b.after (Down Stopped) b.keeps.state sound in
      let q = fallen_point Stopped b.point l in
      down-behind Stopped again known start told now b.after q n.room b.tells.begins b.tells.told b.fits
      (falls-again b.point q b.after b.keeps sound (record { fallen = sym b.keeps.state.units.phase ∙ n.fallen; after = l.after; next = refl; flight = refl }))
      grows n.boots (falls n.room b.point q (n.again (not-memory e stopped)) (fell-from Stopped b.point l)) (same ∙ n.flies)

  within-at : (b : BreaksOpening devices flies e start trace story told) (w : WithinOpening devices flies e b.after b.point) (at : EndsWithin b.after) (ev : Event) →
      b.point.next ≡ Some ev → at_devices_in b.point.state.units ev ≡ true → flies ≡ flight_told b.point.flight → IsDown again known start now (b.after says Down Stopped)
  unfolding fallen_point
  within-at b w at ev comes devices flown =
      let sound = sound-of start b.after b.tells.begins b.tells.played b.fits in
      let l = leaves b.point.state b.after (Down Stopped) b.keeps.state sound in
      let q = fallen_point Stopped b.point l in
      let fell : FallsInOpening b.point q = record { opening = sym b.keeps.state.units.phase ∙ at.opening; event = ev; comes = comes; devices = devices; after = l.after; next = refl; flight = refl } in
      let kept = falls-in-opening b.point q at.before at.event (subst (λ t. KeepsPoint b.point t) at.behind b.keeps) (subst IsSound at.behind sound) at.plain fell in
      let back = subst (λ t. KeepsPoint q (t says Down Stopped) × IsSound (t says Down Stopped)) (sym at.behind) kept in
      down-behind Stopped again known start told now b.after q 0 b.tells.begins b.tells.told b.fits back grows (omega arith)
      (falls 0 b.point q (w.halts.again (no-memory w.halt (halted-so e w.halt w.halted stopped))) (fell-from Stopped b.point l)) (same ∙ flown)

  within : (b : BreaksOpening devices flies e start trace story told) → WithinOpening devices flies e b.after b.point → IsDown again known start now (b.after says Down Stopped)
  within b w = by w.place w.halts.reason w.halts.flies
    where
      is : w.halt ≡ halt.Stopped
      is = halted-so e w.halt w.halted stopped

      by : (w.halt ≡ halt.Memory) ⊎ EndsWithin b.after → (w.halt ≡ halt.Memory) ⊎ ((ev : Event) × (b.point.next ≡ Some ev) × (at_devices_in b.point.state.units ev ≡ true)) →
          ((w.halt ≡ halt.Memory) × (flies ≡ None)) ⊎ (flies ≡ flight_told b.point.flight) → IsDown again known start now (b.after says Down Stopped)
      by (inl m) r f = absurd (no-memory w.halt is m)
      by (inr at) (inl m) f = absurd (no-memory w.halt is m)
      by (inr at) (inr r) (inl m) = absurd (no-memory w.halt is m.0)
      by (inr at) (inr r) (inr f) = within-at b w at r.0 r.1 r.2 f

  pub falls-anew : BreaksOpening devices flies e start trace story told → FallsAnew again known start trace story now
  falls-anew b = anew b (by b.stops)
    where
      by : NotBegun devices flies e b.after b.point ⊎ WithinOpening devices flies e b.after b.point → IsDown again known start now (b.after says Down Stopped)
      by (inl n) = not-begun b n
      by (inr w) = within b w

-- where it was stopped it can be opened
-- for want of memory it does not even fall
pub breaks-short : (devices : OnDevices) (flies : Option Flight) (e : OpenErr) (start : Start) (trace : Trace) (story told now : List Event) →
    e ≡ opening.Stopped → now ≡ told → BreaksOpening devices flies e start trace story told → BreaksOpening devices flies opening.Memory start trace story now
breaks-short devices flies e start trace story told now stopped is b = record {
  after = b.after;
  lines = b.lines;
  tells = record { begins = b.tells.begins; told = b.tells.told ∙ sym is; played = b.tells.played };
  fits = b.fits;
  point = b.point;
  keeps = b.keeps;
  grows = (b.grows.0, is ∙ b.grows.1);
  along = b.along;
  later = tt;
  stops = by b.stops;
}
  where
    flown : (h : Halt) → h ≡ halt.Stopped → ((h ≡ halt.Memory) × (flies ≡ None)) ⊎ (flies ≡ flight_told b.point.flight) → flies ≡ flight_told b.point.flight
    flown h a (inl m) = absurd (no-memory h a m.0)
    flown h a (inr f) = f

    by : NotBegun devices flies e b.after b.point ⊎ WithinOpening devices flies e b.after b.point →
        NotBegun devices flies opening.Memory b.after b.point ⊎ WithinOpening devices flies opening.Memory b.after b.point
    by (inl n) = inl (record {
      fallen = n.fallen;
      room = n.room;
      boots = n.boots;
      fails = tt;
      full = λ dev is. absurd (memory-is-not-full dev is);
      again = λ some. absurd (some refl);
      stays = subst (λ (x : OpenErr). devices.stands_for_kept (numbers_of x) n.room b.point) stopped n.stays;
      flies = n.flies;
    })
    by (inr w) = inr (record {
      halt = halt.Memory;
      halted = refl;
      halts = record {
        reason = inl refl;
        flies = inr (flown w.halt (halted-so e w.halt w.halted stopped) w.halts.flies);
        full = λ dev is. absurd (memory-is-no-device dev is);
        again = λ some. absurd (some refl);
        stays = w.halts.stays;
      };
      place = inl refl;
    })

-- A RUN THAT BROKE OFF IN A LINE

pub no-short-fall : (why : Why) → halt_of why ≡ halt.Memory → ⊥
no-short-fall Stopped h = cc
no-short-fall Fault h = cc

module _ (devices : OnDevices) (flies : Option Flight) (why : Why) (start : Start) (trace : Trace) (story : List Event)
    (h : HaltsRun devices flies (halt_of why) start story trace) where
  pub falls-served : (again : OnDevices) (known : Option Flight) (now : List Event) → ((p q : Point) → devices.can_reopen_at 0 p → IsFallenFrom p q → again.can_reopen_at 0 q) → known ≡ flies →
      now ≡ story ++ Down why ∷ [] → FallsAnew again known start trace story now
  unfolding fallen_point
  falls-served again known now falls same grows =
      record { after = trace says Down why; lines = refl; down = by h.halts.reason h.halts.flies; grows = (Down why ∷ [], grows); along = says-along trace (Down why) }
    where
      by : (halt_of why ≡ halt.Memory) ⊎ ((ev : Event) × (h.point.next ≡ Some ev) × (at_devices_in h.point.state.units ev ≡ true)) →
          ((halt_of why ≡ halt.Memory) × (flies ≡ None)) ⊎ (flies ≡ flight_told h.point.flight) → IsDown again known start now (trace says Down why)
      by (inl m) f = absurd (no-short-fall why m)
      by (inr r) (inl m) = absurd (no-short-fall why m.0)
      by (inr r) (inr f) =
          let sound = sound-of start trace h.tells.begins h.tells.played h.fits in
          let l = leaves h.point.state trace (Down why) h.keeps.state sound in
          let q = fallen_point why h.point l in
          let kept = falls-point why h.point q trace h.keeps sound
          (record { serves = sym h.keeps.state.units.phase ∙ h.serving; event = r.0; comes = r.1; devices = r.2; after = l.after; next = refl; flight = refl }) in
          down-behind why again known start story now trace q 0 h.tells.begins h.tells.told h.fits kept grows (omega arith)
          (falls h.point q (h.halts.again (no-short-fall why)) (fell-from why h.point l)) (same ∙ f)

-- for want of memory it does not fall
pub halted-short : (devices : OnDevices) (flies : Option Flight) (why : Why) (start : Start) (trace : Trace) (story now : List Event) → now ≡ story →
    HaltsRun devices flies (halt_of why) start story trace → BreaksOpening devices flies opening.Memory start trace story now
halted-short devices flies why start trace story now same h = record {
  after = trace;
  lines = refl;
  tells = record { begins = h.tells.begins; told = h.tells.told ∙ sym same; played = h.tells.played };
  fits = h.fits;
  point = h.point;
  keeps = h.keeps;
  grows = ([], same ∙ sym (no-more story));
  along = stays-along trace;
  later = tt;
  stops = inr (record {
    halt = halt.Memory;
    halted = refl;
    halts = record {
      reason = inl refl;
      flies = inr (flown h.halts.flies);
      full = λ dev is. absurd (memory-is-no-device dev is);
      again = λ some. absurd (some refl);
      stays = h.halts.stays;
    };
    place = inl refl;
  });
}
  where
    flown : ((halt_of why ≡ halt.Memory) × (flies ≡ None)) ⊎ (flies ≡ flight_told h.point.flight) → flies ≡ flight_told h.point.flight
    flown (inl m) = absurd (no-short-fall why m.0)
    flown (inr f) = f

-- THROUGH SEVERAL FALLS

-- before the first
pub not-fallen : (devices : OnDevices) (flies : Option Flight) (start : Start) (trace : Trace) (story : List Event) → IsDown devices flies start story trace → FallsAnew devices flies start trace story story
not-fallen devices flies start trace story down = record { after = trace; lines = refl; down = down; grows = ([], sym (append-nil story)); along = stays-along trace }

grows-both : (story told now : List Event) → (a : GainsEvents story told) → (b : GainsEvents told now) → now ≡ story ++ (a.0 ++ b.0)
grows-both story told now a b = b.1 ∙ ap (λ es. es ++ b.0) a.1 ∙ appended story a.0 b.0

module _ (devices again : OnDevices) (flies known : Option Flight) (start : Start) (trace : Trace) (story told now : List Event)
    (f : FallsAnew devices flies start trace story told) where
  pub falls-behind : FallsAnew again known start f.after told now → FallsAnew again known start trace story now
  falls-behind g = record { after = g.after; lines = g.lines ∙ f.lines; down = g.down; grows = (f.grows.0 ++ g.grows.0, grows-both story told now f.grows g.grows); along = along-behind trace f.after g.after f.grows.0 g.grows.0 f.along g.along }

  pub breaks-behind : (e : OpenErr) → BreaksOpening again known e start f.after told now → BreaksOpening again known e start trace story now
  breaks-behind e b = record {
    after = b.after;
    lines = b.lines ∙ f.lines;
    tells = b.tells;
    fits = b.fits;
    point = b.point;
    keeps = b.keeps;
    grows = (f.grows.0 ++ b.grows.0, grows-both story told now f.grows b.grows);
    along = along-behind trace f.after b.after f.grows.0 b.grows.0 f.along b.along;
    later = b.later;
    stops = b.stops;
  }

  pub reopens-behind : {E : Type 0} → (stands_for : E → Option Event → State → Type 0) (e : E) → ReopensRun (stands_for e) start f.after told now → ReopensRun (stands_for e) start trace story now
  reopens-behind stands_for e r = record { after = r.after; lines = r.lines ∙ f.lines; serves = r.serves; grows = (f.grows.0 ++ r.grows.0, grows-both story told now f.grows r.grows); along = along-behind trace f.after r.after f.grows.0 r.grows.0 f.along r.along }
