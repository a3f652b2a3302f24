-- A line's moves are its segment of the trace.
use Rattle.salt_ast.specs.declared.lines.Line.{Line}
use Rattle.law_states.proofs.PointsGoOn.{idle-complete, no-more, runs-point, start-on, story-on}
use Rattle.law_states.specs.Laws.{IsSound, is_of_run}
use Rattle.law_states.specs.Points.{Ask, KeepsPoint, TraceStep, Moves, Point, Runs, Say, Turn, told_by, trace_on}
use Rattle.law_states.specs.States.{State}
use Rattle.salt_model.specs.Everywhere.{Each}
use Rattle.salt_model.specs.Kept.{WellKept}
use Rattle.salt_model.specs.Phases.{Serving, phase}
use Rattle.salt_model.specs.Played.{IsPlayed}
use Rattle.law_story.specs.ContNames.{AreNamed}
use Rattle.salt_model.specs.Trace.{Asked, Start, Trace, from, lines_asked, start_of, story_before, ◌asks◌, ◌says◌, ◌turns◌}
use Rattle.salt_model.specs.Words.{Every}
use Rattle.salt_model.specs.declared.events.Event.{Event}
use Rattle.salt_model.specs.declared.events.Event.TheVariants.{Down, Early, Opened, Ready}
use Rattle.salt_model.specs.declared.events.Flight.{Flight}
use Rattle.salt_stands.specs.Unspent.{OpensUnspent}
use Rattle.salt_driver.proofs.Advancing.{every-last, lines-on, stop-at}
use Rattle.salt_driver.specs.Devices.{OnDevices}
use Rattle.salt_driver.specs.Serving.{BreaksByLine, GoesByLine, IsFitting, ServesTrace}
use Rattle.salt_driver.specs.Standing.{FinishesLine, HaltsAt, IsInside, IsSoundPoint, RunsShort, StopsWithin}
use Rattle.salt_storage.specs.declared.halt.Halt.{Halt}
use Rattle.law_types.specs.Played.{HasKey}
use Rattle.law_types.specs.Typed.{IsTyped}
use Rattle.salt_driver.proofs.Along.{arms-on}
use Rattle.std.proofs.Common.{ap, inl, inr, subst, sym, ◌∙◌}
use Rattle.std.specs.Prelude.{List, Option, [], false, refl, ◌++◌, ◌∷◌, ◌≡◌, ◌⊎◌}

-- an event of a line begins no segment, and takes no run down

before-says : (e : Event) (trace : Trace) → is_of_run e ≡ false → story_before (trace says e) ≡ story_before trace
before-says (Opened boot n) trace r = cc
before-says e trace r = refl

before-on : (ms : List TraceStep) (p q : Point) (trace : Trace) → Runs p ms q → Every IsInside ms → story_before (trace_on trace ms) ≡ story_before trace
before-on [] p q trace r h = refl
before-on (Ask asked ∷ ms) p q trace r h = absurd h.0
before-on (Turn b ∷ ms) p q trace r h = before-on ms r.0 q (trace turns b) r.2 h.1
before-on (Say e ∷ ms) p q trace r h = before-on ms r.0 q (trace says e) r.2 h.1 ∙ before-says e trace r.1.1

serving-says : (e : Event) (trace : Trace) → is_of_run e ≡ false → phase trace ≡ Serving → phase (trace says e) ≡ Serving
serving-says (Down why) trace r h = cc
serving-says (Opened boot n) trace r h = cc
serving-says Ready trace r h = refl
serving-says (Early bs) trace r h = refl
serving-says e trace r h = h

serving-on : (ms : List TraceStep) (p q : Point) (trace : Trace) → Runs p ms q → Every IsInside ms → phase trace ≡ Serving → phase (trace_on trace ms) ≡ Serving
serving-on [] p q trace r h at = at
serving-on (Ask asked ∷ ms) p q trace r h at = absurd h.0
serving-on (Turn b ∷ ms) p q trace r h at = serving-on ms r.0 q (trace turns b) r.2 h.1 at
serving-on (Say e ∷ ms) p q trace r h at = serving-on ms r.0 q (trace says e) r.2 h.1 (serving-says e trace r.1.1 at)

pub sound-of : (start : Start) (trace : Trace) → start_of trace ≡ start → IsPlayed trace → IsFitting start trace → IsSound trace
sound-of start trace begins played f = record { played = played; well = subst (λ (x : Start). WellKept x.kept) (sym begins) f.well }

pub sound-at : (start : Start) (trace : Trace) (p : Point) → start_of trace ≡ start → IsPlayed trace → IsFitting start trace → KeepsPoint p trace → IsSoundPoint p
sound-at start trace p begins played f k = record {
  trace = trace;
  keeps = k;
  sound = sound-of start trace begins played f;
  typed = subst (λ (x : Start). IsTyped x.kept) (sym begins) f.typed;
  named = subst (λ (x : Start). AreNamed (from x)) (sym begins) f.named;
  keyed = f.keyed;
}

-- nor does it open the run

unspent-says : (e : Event) (trace : Trace) → is_of_run e ≡ false → OpensUnspent trace e
unspent-says (Opened boot n) trace r = cc
unspent-says e trace r = tt

pub unspent-on : (ms : List TraceStep) (p q : Point) (trace : Trace) → Runs p ms q → Each OpensUnspent trace → Each OpensUnspent (trace_on trace ms)
unspent-on [] p q trace r h = h
unspent-on (Ask asked ∷ ms) p q trace r h = unspent-on ms r.0 q (trace asks asked) r.2 h
unspent-on (Turn b ∷ ms) p q trace r h = unspent-on ms r.0 q (trace turns b) r.2 h
unspent-on (Say e ∷ ms) p q trace r h = unspent-on ms r.0 q (trace says e) r.2 (h, unspent-says e trace r.1.1)

fits-on : (start : Start) (trace : Trace) (asked : Asked) (ms : List TraceStep) (p q : Point) → Runs p ms q → Every IsInside ms → HasKey asked → IsFitting start trace →
    IsFitting start (trace_on (trace asks asked) ms)
fits-on start trace asked ms p q runs inside key f = record {
  well = f.well;
  typed = f.typed;
  named = f.named;
  keyed = subst (Every HasKey) (sym (lines-on ms (trace asks asked) inside)) (every-last asked (lines_asked trace) f.keyed key);
  unspent = unspent-on ms p q (trace asks asked) runs f.unspent;
}

module _ {E : Type 0} (old_stands_for new_stands_for : E → Option Event → State → Type 0) (start : Start) where
  -- where it serves, its point is that of the trace
  pub serves-at : (e : E) (story : List Event) (trace : Trace) → (s : ServesTrace (old_stands_for e) start story trace) → IsSoundPoint s.point
  serves-at e story trace s = sound-at start trace s.point s.tells.begins s.tells.played s.fits s.keeps

  pub goes-by : (trace : Trace) (asked : Asked) (line : Line) (old new : E) (story told : List Event) → (s : ServesTrace (old_stands_for old) start story trace) → (q : Point) →
      HasKey asked → Moves (Ask asked) s.point q → FinishesLine (new_stands_for new) line q story told → GoesByLine (new_stands_for new) start trace asked story told
  goes-by trace asked line old new story told s q key m f =
      let a = f.advances in
      let ms = Ask asked ∷ a.moves in
      let k = runs-point ms s.point a.point trace s.keeps (sound-of start trace s.tells.begins s.tells.played s.fits) (q, m, a.runs) in
      record {
        after = trace_on trace ms;
        asks = lines-on a.moves (trace asks asked) a.inside;
        before = before-on a.moves q a.point (trace asks asked) a.runs a.inside ∙ s.tells.told;
        serves = record {
          tells = record { begins = start-on ms trace ∙ s.tells.begins; told = story-on ms trace ∙ ap (λ es. es ++ told_by a.moves) s.tells.told ∙ sym a.tells; played = k.1.played };
          complete = idle-complete a.point (trace_on trace ms) k.0 f.idle;
          fits = fits-on start trace asked a.moves q a.point a.runs a.inside key s.fits;
          point = a.point;
          keeps = k.0;
          stands = record { state = a.stands.state; idle = f.idle };
        };
        grows = (told_by a.moves, a.tells);
        armed = arms-on a.moves (trace asks asked) a.inside;
      }

  -- broken off after some events
  pub breaks-by : (devices : OnDevices) (flight : Option Flight) (halt : Halt) (trace : Trace) (asked : Asked) (old : E) (story told : List Event) →
      (s : ServesTrace (old_stands_for old) start story trace) → (q : Point) → HasKey asked → Moves (Ask asked) s.point q → StopsWithin devices flight halt q story told →
      BreaksByLine devices flight halt start trace asked story told
  breaks-by devices flight halt trace asked old story told s q key m a =
      let ms = Ask asked ∷ a.moves in
      let k = runs-point ms s.point a.point trace s.keeps (sound-of start trace s.tells.begins s.tells.played s.fits) (q, m, a.runs) in
      record {
        after = trace_on trace ms;
        asks = inl (lines-on a.moves (trace asks asked) a.inside);
        before = inl (before-on a.moves q a.point (trace asks asked) a.runs a.inside ∙ s.tells.told);
        halts = record {
          tells = record { begins = start-on ms trace ∙ s.tells.begins; told = story-on ms trace ∙ ap (λ es. es ++ told_by a.moves) s.tells.told ∙ sym a.tells; played = k.1.played };
          fits = fits-on start trace asked a.moves q a.point a.runs a.inside key s.fits;
          point = a.point;
          keeps = k.0;
          serving = serving-on a.moves q a.point (trace asks asked) a.runs a.inside (s.keeps.state.units.phase ∙ s.stands.idle.serves);
          halts = a.halts;
        };
        grows = (told_by a.moves, a.tells);
        armed = arms-on a.moves (trace asks asked) a.inside;
      }

  -- before the line, or at its first event
  pub breaks-untold : (devices : OnDevices) (flight : Option Flight) (halt : Halt) (trace : Trace) (asked : Asked) (old : E) (story : List Event) →
      (s : ServesTrace (old_stands_for old) start story trace) → HasKey asked →
      RunsShort devices flight halt s.point ⊎ ((q : Point) × Moves (Ask asked) s.point q × HaltsAt devices flight halt q) → BreaksByLine devices flight halt start trace asked story story
  breaks-untold devices flight halt trace asked old story s key (inl short) = record {
    after = trace;
    asks = inr (short.0, refl);
    before = inr refl;
    halts = record { tells = s.tells; fits = s.fits; point = s.point; keeps = s.keeps; serving = s.keeps.state.units.phase ∙ s.stands.idle.serves; halts = short.1 };
    grows = ([], sym (no-more story));
    armed = λ first. refl;
  }
  breaks-untold devices flight halt trace asked old story s key (inr r) = breaks-by devices flight halt trace asked old story story s r.0 key r.1 (stop-at devices flight halt r.0 story r.2)
