-- A line that is not refused arms stops, or pairs of messages.
use Rattle.salt_ast.specs.declared.lines.Line.TheVariants.{Crash, Net}
use Rattle.salt_ast.specs.declared.lines.Line.{Line}
use Rattle.salt_engine.proofs.Flying.{none-flies}
use Rattle.salt_engine.proofs.Performed.{serves-by, stored-plain}
use Rattle.salt_engine.specs.Netted.{net_after}
use Rattle.salt_engine.specs.Performing.{AsksLine, IsServed, PerformsEvent}
use Rattle.salt_engine.specs.Stored.{Stored}
use Rattle.salt_engine.specs.declared.flights.InFlight.{InFlight}
use Rattle.salt_engine.specs.declared.stage.Stage.TheVariants as at
use Rattle.salt_engine.specs.declared.stage.Stage.{Stage}
use Rattle.law_states.specs.OpenUnits.{UnitState}
use Rattle.law_states.specs.Readings.{WatchReading, clash_by, items_by, under_way_of}
use Rattle.law_states.specs.Refused.{refusal_in, refused_in}
use Rattle.law_states.specs.States.{State}
use Rattle.law_states.specs.Told.{Clashes, Items, line_in}
use Rattle.salt_model.specs.Arming.{stops_asked}
use Rattle.salt_model.specs.Kept.{Kept}
use Rattle.salt_model.specs.Trace.{Tree}
use Rattle.salt_model.specs.Words.{Every}
use Rattle.salt_model.specs.declared.events.Event.TheVariants.{Armed}
use Rattle.salt_model.specs.declared.events.Event.{Event}
use Rattle.salt_scheduler.proofs.Allowing.{allowed-right}
use Rattle.salt_scheduler.specs.Standing as scheduling
use Rattle.salt_scheduler.specs.declared.scheduler.Scheduler.{Scheduler}
use Rattle.salt_driver.specs.Counting.{armed_at}
use Rattle.salt_net.specs.Turns.{Turning}
use Rattle.salt_stands.specs.Turning.{with_pairs}
use Rattle.salt_storage.specs.Netted.{net_armed}
use Rattle.salt_storage.specs.Staying.{Setup}
use Rattle.salt_values.specs.declared.id.Id.{Id}
use Rattle.std.proofs.Common.{ap, append_assoc, arith, subst, sym, take, ◌∙◌}
use Rattle.std.specs.Prelude.{Bool, IsTrue, List, None, Option, Some, [], false, get_or, length, not, option_map, refl, suc, true, zero, ℕ, ◌+◌, ◌++◌, ◌<◌, ◌∷◌, ◌≡◌, ◌≤◌}
use Rattle.salt_engine.specs.Standing.{StandsAtEventIn}

unless-not : (b : Bool) → not b ≡ false → b ≡ true
unless-not true h = refl
unless-not false h = cc

-- its first event arms these pairs
abbrev pub Arms : UnitState → Line → List (ℕ × ℕ) → Type 0
Arms s line pairs = (clash : Clashes) (items : Items) → line_in s clash items line ≡ Some (Armed pairs)

module _ (holds : Kept → Type 0) (is_new : Id → Type 0) (stoppable : Bool) (line : Line) (x : Scheduler) (s : State) (h : AsksLine holds is_new stoppable line x s) (pairs : List (ℕ × ℕ)) where
  -- a line that arms stops
  module _ (is : line ≡ Crash pairs) where
    pub arms-able : IsTrue stoppable
    arms-able =
        let allowed : refused_in s.units (under_way_of s) (Crash pairs) ≡ None = subst (λ (l : Line). refusal_in s.units (under_way_of s) (Tree l) ≡ None) is h.allowed.allowed in
        subst (λ b. IsTrue b) h.can_stop (unless-not s.can_stop (allowed-right s.units (under_way_of s) (Crash pairs) allowed))

    pub stops-armed : Arms s.units line pairs
    stops-armed clash items = ap (line_in s.units clash items) is

  -- or pairs of messages
  pub pairs-armed : line ≡ Net pairs → Arms s.units line pairs
  pairs-armed is clash items = ap (line_in s.units clash items) is

  module _ (arms : Arms s.units line pairs) where
    arms-meant : (told : List (ℕ × ℕ)) → told ≡ pairs → (r : WatchReading s.watch) → line_in s.units (clash_by s) (items_by s r) line ≡ Some (Armed told)
    arms-meant told same r = arms (clash_by s) (items_by s r) ∙ ap (λ (ps : List (ℕ × ℕ)). Some (Armed ps)) (sym same)

    pub arms-performs : (now : Kept → Type 0) (new_now : Id → Type 0) (stage : Stage Scheduler) (in_flight : Option InFlight) (y : Scheduler) (e : Event) (told : List (ℕ × ℕ)) → told ≡ pairs →
        in_flight ≡ None → stage ≡ at.Going y → Stored now new_now s.units → (r : WatchReading s.watch) → scheduling.AnswersWith s (Some (Armed told)) y (Some e) →
        PerformsEvent (StandsAtEventIn now new_now stage) in_flight (line_in s.units (clash_by s) (items_by s r) line) (Some e) s
    arms-performs now new_now stage in_flight y e told same none there stored r g =
        serves-by now new_now stage in_flight (line_in s.units (clash_by s) (items_by s r) line) s y (Armed told) e (none-flies in_flight None s.units none refl) there (arms-meant told same r) g h.allowed.serves.phase
        (stored-plain now new_now (Armed told) (line_in s.units (clash_by s) (items_by s r) line) s (h.played r) (arms-meant told same r) refl refl stored)

    -- what is sent behind it
    pub arms-sent : (setup : Setup) (old new : Option Turning) → new ≡ option_map (with_pairs line pairs) old → (r : WatchReading s.watch) →
        new ≡ net_after setup (line_in s.units (clash_by s) (items_by s r) line) s.units old
    arms-sent setup old new sent r =
        sent ∙ ap (λ (l : Line). option_map (with_pairs l pairs) old) (sym h.allowed.serves.line)
        ∙ ap (λ (m : Option Event). net_after setup m s.units old) (sym (arms (clash_by s) (items_by s r)))

-- stops that are armed befall no message
pub crash-sent : (line : Line) (pairs : List (ℕ × ℕ)) (old new : Option Turning) → line ≡ Crash pairs → new ≡ old → new ≡ option_map (with_pairs line pairs) old
crash-sent line pairs old new is same = same ∙ by old ∙ ap (λ (l : Line). option_map (with_pairs l pairs) old) (sym is)
  where
    by : (o : Option Turning) → o ≡ option_map (with_pairs (Crash pairs) pairs) o
    by None = refl
    by (Some t) = refl

pub net-sent : (line : Line) (pairs read : List (ℕ × ℕ)) (old new : Option Turning) → line ≡ Net pairs → read ≡ pairs → new ≡ net_armed read old → new ≡ option_map (with_pairs line pairs) old
net-sent line pairs read old new is same sent = sent ∙ ap (λ (ps : List (ℕ × ℕ)). net_armed ps old) same ∙ ap (λ (l : Line). option_map (with_pairs l pairs) old) (sym is)

-- each pair of a list picks so
pub every-at : {A : Type 0} (P : A → Type 0) (xs : List A) (i : ℕ) (d : A) → i < length xs → Every P xs → P (get_or xs i d)
every-at P [] i d h e = absurd (omega arith)
every-at P (x ∷ xs) zero d h e = e.0
every-at P (x ∷ xs) (suc i) d h e = every-at P xs i d (omega arith) e.1

-- one more is armed behind those that were
pub armed-on : (old mid new : List (ℕ × ℕ)) (pairs : List (ℕ × ℕ)) (i : ℕ) (d : ℕ × ℕ) → i < length pairs → mid ≡ old ++ take i pairs → new ≡ mid ++ get_or pairs i d ∷ [] →
    new ≡ old ++ take (i + 1) pairs
armed-on old mid new pairs i d within before one =
    one ∙ ap (λ (l : List (ℕ × ℕ)). l ++ get_or pairs i d ∷ []) before ∙ append_assoc old (take i pairs) (get_or pairs i d ∷ []) ∙ ap (λ (l : List (ℕ × ℕ)). old ++ l) (taken pairs i within)
  where
    taken : (ps : List (ℕ × ℕ)) (i : ℕ) → i < length ps → take i ps ++ get_or ps i d ∷ [] ≡ take (i + 1) ps
    taken [] i h = absurd (omega arith)
    taken (p ∷ ps) zero h = refl
    taken (p ∷ ps) (suc i) h =
        let next : suc (i + 1) ≡ suc i + 1 = omega arith in
        subst (λ n. take (suc i) (p ∷ ps) ++ get_or (p ∷ ps) (suc i) d ∷ [] ≡ take n (p ∷ ps)) next (ap (λ (l : List (ℕ × ℕ)). p ∷ l) (taken ps i (omega arith)))
