-- A run that ends before its first line.
use Rattle.salt_io.proofs.Taking.{gains-none}
use Rattle.salt_io.specs.Lines.{ScriptReading, lines_of}
use Rattle.salt_io.specs.Streams.{Gains, GainsShort, bytes_before}
use Rattle.salt_ast.specs.declared.trees.TableDef.{TableDef}
use Rattle.law_states.specs.Points.{Point}
use Rattle.law_states.specs.States.{State}
use Rattle.salt_disk.specs.Disks.{View}
use Rattle.salt_model.specs.After.{kept}
use Rattle.salt_model.specs.Arming.{armed_by_lines}
use Rattle.salt_model.specs.Ends.{MayLeave, flight_told, is_serving}
use Rattle.salt_model.specs.EventTexts.{story_text}
use Rattle.salt_model.specs.Everywhere.{Each}
use Rattle.salt_model.specs.Kept.{schema_of}
use Rattle.salt_model.specs.Lines.{AskInOrder}
use Rattle.salt_model.specs.Next.{flight}
use Rattle.salt_model.specs.Phases.{Fallen, phase}
use Rattle.salt_model.specs.Phases as phases
use Rattle.salt_model.specs.Played.{IsPlayed, Tells}
use Rattle.salt_model.specs.Stops.{MayFall}
use Rattle.salt_model.specs.Trace as trace_words
use Rattle.salt_model.specs.Trace.{Asked, Start, Trace, from, start_of, story_of, ◌asks◌, ◌says◌, ◌turns◌}
use Rattle.salt_model.specs.declared.events.Event.TheVariants.{Down}
use Rattle.salt_model.specs.declared.events.Event.{Event}
use Rattle.salt_model.specs.declared.events.Flight.{Flight}
use Rattle.salt_model.specs.declared.events.Why.TheVariants.{Stopped}
use Rattle.salt_promise.specs.Counting.{Stops}
use Rattle.salt_promise.specs.Doing.{AreFirstLines, GainsFrom, story_before_line, text_under}
use Rattle.salt_promise.specs.Status.{ends_between}
use Rattle.salt_promise.specs.declared.status.Status.TheVariants.{WriteFault}
use Rattle.salt_loop.proofs.Armed.{ends-unwritten, opening-ends, opening-stays, stops-are}
use Rattle.salt_loop.proofs.Leaving.{at-devices, leaves-later, leaves-unwritten, unwritten-leaves}
use Rattle.salt_loop.proofs.Stories.{text-append}
use Rattle.salt_loop.proofs.Texts.{gains-under, memory-status, of-later, tables-lying, tables-serving}
use Rattle.salt_loop.specs.Armed.{EndsArmed}
use Rattle.salt_loop.specs.Ending.{EndsFound, EndsOpening, EndsServing, IsStatusOf, LeavesAt}
use Rattle.salt_loop.specs.Run.{AreLinesOf, IsFlightAt, IsRun, IsWritten, leave_of, script_run, streams}
use Rattle.salt_loop.specs.Serving.{EndsWriting, GainsAtEnd, IsAtPlace, IsBegun, IsServing}
use Rattle.salt_loop.specs.Stopping.{IsLaterStop, IsOfDevices, answer_of, outcome, status_of, status_opening, stop_opening}
use Rattle.salt_loop.specs.declared.stop.Stop.TheVariants as stop
use Rattle.salt_loop.specs.declared.stop.Stop.{Stop}
use Rattle.salt_stands.specs.Unspent.{OpensUnspent}
use Rattle.salt_driver.specs.Devices.{OnDevices}
use Rattle.salt_driver.specs.Counting.{CountsOpening}
use Rattle.salt_driver.specs.Opening.{IsUnfound, fallen_often}
use Rattle.salt_driver.specs.Reopening.{ReopensRun}
use Rattle.salt_driver.specs.Standing.{IsIdleAt, IsSoundPoint}
use Rattle.salt_storage.specs.Answers.{IsLater}
use Rattle.salt_storage.specs.OpenErr.TheVariants as opening
use Rattle.salt_storage.specs.OpenErr.TheVariants.{NotSalt, NumbersSpent, OtherShape}
use Rattle.salt_storage.specs.OpenErr.{OpenErr}
use Rattle.std.proofs.Common.{ap, arith, inl, inr, subst, suc, sym, zero, ◌∙◌}
use Rattle.salt_storage.specs.declared.found.Numbers.{Numbers}
use Rattle.std.specs.Prelude.{Err, List, None, Ok, Option, Result, Some, [], false, refl, true, ℕ, ◌++◌, ◌∷◌, ◌≡◌, ◌⊎◌}
use Rattle.std.specs.Result.{IfErr, OnOk}

-- A RUN THAT HAS ONLY FALLEN

pub often-unspent : (start : Start) (times : ℕ) → Each OpensUnspent (fallen_often start times)
often-unspent start zero = tt
often-unspent start (suc times) = (often-unspent start times, tt)

pub often-begins : (start : Start) (times : ℕ) → start_of (fallen_often start times) ≡ start
often-begins start zero = refl
often-begins start (suc times) = often-begins start times

often-down : (start : Start) (times : ℕ) → phase (fallen_often start times) ≡ Fallen
often-down start zero = refl
often-down start (suc times) = refl

pub often-asked : (start : Start) (times : ℕ) → trace_words.lines_asked (fallen_often start times) ≡ []
often-asked start zero = refl
often-asked start (suc times) = often-asked start times

often-unflown : (start : Start) (times : ℕ) → flight (fallen_often start times) ≡ None
often-unflown start zero = refl
often-unflown start (suc times) = often-unflown start times

may-fall : (p : phases.Phase) (trace : Trace) → p ≡ Fallen → MayFall p trace Stopped
may-fall Fallen trace e = refl
may-fall p trace e = absurd cc

often-played : (start : Start) (times : ℕ) → IsPlayed (fallen_often start times)
often-played start zero = tt
often-played start (suc times) = (often-played start times, may-fall (phase (fallen_often start times)) (fallen_often start times) (often-down start times))

pub often-tells : (start : Start) (story : List Event) → (u : IsUnfound story) → Tells start (fallen_often start u.0) story
often-tells start story u = record { begins = often-begins start u.0; told = u.1 start; played = often-played start u.0 }

-- its text names no table
often-text : (start : Start) (times : ℕ) (a b : List TableDef) → story_text a (story_of (fallen_often start times)) ≡ story_text b (story_of (fallen_often start times))
often-text start zero a b = refl
often-text start (suc times) a b =
    let before = story_of (fallen_often start times) in
    text-append a before (Down Stopped ∷ []) ∙ ap (λ t. t ++ story_text b (Down Stopped ∷ [])) (often-text start times a b) ∙ sym (text-append b before (Down Stopped ∷ []))

-- how it may leave
leaves-unfound : (e : OpenErr) (story : List Event) → (story ≡ []) ⊎ IsLater e → (trace : Trace) → story_of trace ≡ story → is_serving (phase trace) ≡ false → MayLeave (leave_of (status_opening e)) trace
leaves-unfound e story (inr l) trace told down = leaves-later e l trace down
leaves-unfound (NotSalt dev) story (inl none) trace told down = told ∙ none
leaves-unfound (OtherShape kept asked) story (inl none) trace told down = told ∙ none
leaves-unfound (NumbersSpent boot decisions) story (inl none) trace told down = down
leaves-unfound opening.Failed story (inl none) trace told down = leaves-later opening.Failed tt trace down
leaves-unfound opening.Stopped story (inl none) trace told down = leaves-later opening.Stopped tt trace down
leaves-unfound (opening.Full dev) story (inl none) trace told down = leaves-later (opening.Full dev) tt trace down
leaves-unfound opening.Memory story (inl none) trace told down = leaves-later opening.Memory tt trace down

flies-unfound : (e : OpenErr) (trace : Trace) (flies : Option Flight) → flies ≡ None → flight trace ≡ None → IsFlightAt (status_opening e) trace flies
flies-unfound (NotSalt dev) trace flies none unflown = none
flies-unfound (OtherShape kept asked) trace flies none unflown = none
flies-unfound (NumbersSpent boot decisions) trace flies none unflown = none ∙ sym (ap flight_told unflown)
flies-unfound opening.Stopped trace flies none unflown = none ∙ sym (ap flight_told unflown)
flies-unfound opening.Failed trace flies none unflown = none ∙ sym (ap flight_told unflown)
flies-unfound (opening.Full dev) trace flies none unflown = none ∙ sym (ap flight_told unflown)
flies-unfound opening.Memory trace flies none unflown = inl none

-- NO LINE WAS ASKED

no-line-asked : (xs : List Asked) (x : Asked) → xs ++ x ∷ [] ≡ [] → ⊥
no-line-asked [] x e = cc
no-line-asked (y ∷ xs) x e = cc

pub unasked-before : (trace : Trace) → trace_words.lines_asked trace ≡ [] → story_before_line trace ≡ []
unasked-before (from k) none = refl
unasked-before (trace asks asked) none = absurd (no-line-asked (trace_words.lines_asked trace) asked none)
unasked-before (trace turns b) none = unasked-before trace none
unasked-before (trace says e) none = unasked-before trace none

first-lines : (script : List ℕ) → AreFirstLines script []
first-lines script = record { got = []; front = (script, refl); within = omega arith; lines = refl; first = (lines_of script, refl) }

-- a stop before the first line
abbrev pub IsEarly : Stop → Type 0
IsEarly s = IsOfDevices s ⊎ (s ≡ stop.WriteFault)

early-lines : (s : Stop) → IsEarly s → (script left : Option (List ℕ)) → AreLinesOf (status_of s) script left []
early-lines s early None left = tt
early-lines stop.Memory early (Some script) left = first-lines script
early-lines stop.WriteFault early (Some script) left = first-lines script
early-lines stop.DiskFault early (Some script) left = first-lines script
early-lines (stop.DeviceFull dev) early (Some script) left = first-lines script
early-lines (stop.NumbersSpent boot decisions) early (Some script) left = first-lines script
early-lines (stop.NotSalt dev) early (Some script) left = refl
early-lines (stop.OtherShape kept asked) early (Some script) left = refl
early-lines stop.ReadFault (inl of) (Some script) left = absurd of
early-lines stop.ReadFault (inr e) (Some script) left = absurd cc
early-lines stop.ScriptTooLong (inl of) (Some script) left = absurd of
early-lines stop.ScriptTooLong (inr e) (Some script) left = absurd cc

-- what the sink gained of the text
early-written : (s : Stop) (before held : Option (List ℕ)) (text : List ℕ) → GainsAtEnd s before text held → IsWritten (status_of s) before [] text held
early-written stop.Memory before held text same =
    subst (GainsFrom before [] text) (sym same) (record { some = record { part = []; others = text; whole = refl; gained = gains-none before }; from = ([], refl) })
early-written stop.WriteFault before held text short = record { short = short; from = (short.part, refl) }
early-written stop.ReadFault before held text g = g
early-written stop.DiskFault before held text g = g
early-written (stop.NotSalt dev) before held text g = g
early-written (stop.DeviceFull dev) before held text g = g
early-written (stop.OtherShape kept asked) before held text g = g
early-written stop.ScriptTooLong before held text g = g
early-written (stop.NumbersSpent boot decisions) before held text g = g

-- so it is a run of the script
pub early-run : (s : Stop) → IsEarly s → (flies : Option Flight) (start : Start) (trace : Trace) (story : List Event) (script rest before held : Option (List ℕ)) → Tells start trace story →
    trace_words.lines_asked trace ≡ [] → MayLeave (leave_of (status_of s)) trace → IsFlightAt (status_of s) trace flies → Each OpensUnspent trace → GainsAtEnd s before (text_under trace story) held →
    (run : IsRun start (script_run (status_of s) flies (streams script rest before held) story)) × (run.played.trace ≡ trace)
early-run s early flies start trace story script rest before held tells unasked leaves flown unspent gained = (
  record {
    played = record {
      trace = trace;
      texts = [];
      tells = tells;
      reads = subst (AskInOrder []) (sym unasked) tt;
      lines = early-lines s early script rest;
      leaves = leaves;
      flies = flown;
      unspent = unspent;
    };
    told = subst (λ es. IsWritten (status_of s) before (text_under trace es) (text_under trace (story_of trace)) held) (sym (unasked-before trace unasked))
        (subst (λ es. IsWritten (status_of s) before [] (text_under trace es) held) (sym tells.told) (early-written s before held (text_under trace story) gained));
  },
  refl,
)

early-between : (s : Stop) → IsEarly s → ends_between (status_of s) ≡ true → ⊥
early-between stop.ReadFault (inl of) is = of
early-between stop.ReadFault (inr e) is = cc
early-between stop.ScriptTooLong (inl of) is = of
early-between stop.ScriptTooLong (inr e) is = cc
early-between s early is = cc

pub early-ends : {E : Type 0} (stands_for : E → Option Event → State → Type 0) (devices : OnDevices) (flies : Option Flight) (s : Stop) → IsEarly s → (start : Start) (trace : Trace) (e : E) (story : List Event)
    (script rest before held : Option (List ℕ)) → LeavesAt devices flies (status_of s) start trace story → trace_words.lines_asked trace ≡ [] → GainsAtEnd s before (text_under trace story) held →
    (first armed : List (ℕ × ℕ)) → Stops (status_of s) (armed_by_lines first trace) armed → EndsServing (stands_for e) devices start (script_run (status_of s) flies (streams script rest before held) story) first armed
early-ends stands_for devices flies s early start trace e story script rest before held x unasked gained first armed stops =
    let r = early-run s early flies start trace story script rest before held x.tells unasked x.leaves x.flies x.fits.unspent gained in
    (r.0, subst (EndsFound devices (status_of s)) (sym r.1) x.ends, subst (λ (t : Trace). Stops (status_of s) (armed_by_lines first t) armed) (sym r.1) stops, λ between. absurd (early-between s early between))

-- WHAT IS TOLD OF THE BEGINNING

abbrev pub IsWrittenOf : Stop → Stop → Type 0
IsWrittenOf e s = (s ≡ e) ⊎ ((s ≡ stop.WriteFault) × (e ≡ stop.Memory → ⊥))

early-of : (e s : Stop) → IsOfDevices e → IsWrittenOf e s → IsEarly s
early-of e s of (inl same) = inl (subst IsOfDevices (sym same) of)
early-of e s of (inr w) = inr w.0

-- NOTHING WAS FOUND

pub of-reason : (e : OpenErr) → IsOfDevices (stop_opening e)
of-reason (NotSalt dev) = tt
of-reason (OtherShape kept asked) = tt
of-reason (NumbersSpent boot decisions) = tt
of-reason opening.Stopped = tt
of-reason opening.Failed = tt
of-reason (opening.Full dev) = tt
of-reason opening.Memory = tt

module _ (reason : OpenErr) (story : List Event) (unfound : IsUnfound story) (empty : (story ≡ []) ⊎ IsLater reason) (s : Stop) (how : IsWrittenOf (stop_opening reason) s) (start : Start) where
  abbrev fallen : Trace
  fallen = fallen_often start unfound.0

  fallen-down : is_serving (phase fallen) ≡ false
  fallen-down = ap is_serving (often-down start unfound.0)

  pub unfound-leaves : MayLeave (leave_of (status_of s)) fallen
  unfound-leaves = by how
    where
      by : IsWrittenOf (stop_opening reason) s → MayLeave (leave_of (status_of s)) fallen
      by (inl same) = subst (λ (x : Stop). MayLeave (leave_of (status_of x)) fallen) (sym same) (leaves-unfound reason story empty fallen (unfound.1 start) fallen-down)
      by (inr w) = subst (λ (x : Stop). MayLeave (leave_of (status_of x)) fallen) (sym w.0) (inr (at-devices fallen fallen-down))

  pub unfound-flies : IsFlightAt (status_of s) fallen None
  unfound-flies = by how
    where
      none : flight fallen ≡ None
      none = often-unflown start unfound.0

      by : IsWrittenOf (stop_opening reason) s → IsFlightAt (status_of s) fallen None
      by (inl same) = subst (λ (x : Stop). IsFlightAt (status_of x) fallen None) (sym same) (flies-unfound reason fallen None refl none)
      by (inr w) = subst (λ (x : Stop). IsFlightAt (status_of x) fallen None) (sym w.0) (sym (ap flight_told none))

  -- whatever the tables are, the text is the same
  unfound-text : (schema : List TableDef) → story_text schema story ≡ text_under fallen story
  unfound-text schema =
      subst (λ (es : List Event). story_text schema es ≡ story_text (schema_of (kept fallen)) es) (unfound.1 start) (often-text start unfound.0 schema (schema_of (kept fallen)))

  unfound-run : (schema : List TableDef) (script rest before held : Option (List ℕ)) → GainsAtEnd s before (story_text schema story) held →
      IsRun start (script_run (status_of s) None (streams script rest before held) story)
  unfound-run schema script rest before held gained =
      (early-run s (early-of (stop_opening reason) s (of-reason reason) how) None start fallen story script rest before held (often-tells start story unfound) (often-asked start unfound.0)
      unfound-leaves unfound-flies (often-unspent start unfound.0) (gains-under s before held _ _ (λ some. unfound-text schema) gained)).0

module _ (reason : OpenErr) (story : List Event) (unfound : IsUnfound story) (empty : (story ≡ []) ⊎ IsLater reason) (e : Stop) (is : e ≡ stop_opening reason) (schema : List TableDef)
    (before held : Option (List ℕ)) where
  of-writing : (s : Stop) → (◌≡◌ {A = Result (Unit {0}) Stop} (Err e) (Err s)) ⊎ ((s ≡ stop.WriteFault) × (◌≡◌ {A = Result (Unit {0}) Stop} (Err e) (Err stop.Memory) → ⊥)) → IsWrittenOf (stop_opening reason) s
  of-writing s (inl same) = inl (sym (same-stop e s same) ∙ is)
    where
      same-stop : (a b : Stop) → ◌≡◌ {A = Result (Unit {0}) Stop} (Err a) (Err b) → a ≡ b
      same-stop a b h = cc
  of-writing s (inr w) = inr (w.0, λ m. w.1 (ap Err (is ∙ m)))

  pub unfound-told : (r : Result (Unit {0}) Stop) → EndsWriting (Err e) (story_text schema story) before held r → (start : Start) (script rest : Option (List ℕ)) →
      IsRun start (script_run (outcome r) None (streams script rest before held) story)
  unfound-told (Ok x) w start script rest = absurd (never x w.0)
    where
      never : (x : Unit {0}) → ◌≡◌ {A = Result (Unit {0}) Stop} (Err e) (Ok x) → ⊥
      never x h = cc
  unfound-told (Err s) w start script rest = unfound-run reason story unfound empty s (of-writing s w.0) start schema script rest before held w.1

  pub unfound-status : (r : Result (Unit {0}) Stop) → EndsWriting (Err e) (story_text schema story) before held r → IsStatusOf reason (outcome r)
  unfound-status (Ok x) w = absurd (never x w.0)
    where
      never : (x : Unit {0}) → ◌≡◌ {A = Result (Unit {0}) Stop} (Err e) (Ok x) → ⊥
      never x h = cc
  unfound-status (Err s) w = by (of-writing s w.0)
    where
      by : IsWrittenOf (stop_opening reason) s → IsStatusOf reason (status_of s)
      by (inl same) = inl (ap status_of same)
      by (inr h) = inr (ap status_of h.0, λ m. h.1 (ap stop_opening m))

-- OVER WHAT WAS FOUND

module _ {E : Type 0} (stands_for : E → Option Event → State → Type 0) (devices : OnDevices) (flies : Option Flight) (new : E)
    (idle : (p : Point) → IsSoundPoint p → IsIdleAt (stands_for new) p → devices.can_reopen_at 0 p) (flown : (p : Point) → IsSoundPoint p → IsIdleAt (stands_for new) p → flies ≡ None)
    (leaves : (room : ℕ) (p : Point) → devices.can_reopen_at room p → devices.stands_for_kept None room p)
    (forgets : (numbers : Numbers) (room : ℕ) (p : Point) → devices.stands_for_kept (Some numbers) room p → devices.stands_for_kept None room p)
    (schema : List TableDef) (serving : (p : Point) → IsSoundPoint p → stands_for new None p.state → schema ≡ schema_of p.state.units.kept)
    (lying : (room : ℕ) (p : Point) → IsSoundPoint p → devices.can_reopen_at room p → schema ≡ schema_of p.state.units.kept)
    (story told : List Event) (before held : Option (List ℕ)) (start : Start) (trace : Trace) (unasked : trace_words.lines_asked trace ≡ []) (a b : View) where
  abbrev Ends : Stop → Type 0
  Ends s = (script rest : Option (List ℕ)) (first : List (ℕ × ℕ)) → armed_by_lines first trace ≡ Some a.armed →
      EndsServing (stands_for new) devices start (script_run (status_of s) flies (streams script rest before held) told) first b.armed

  abbrev Counts : Result (Unit {0}) Stop → Type 0
  Counts d = CountsOpening a b (answer_of (outcome d)) story told

  pub begun-ok : (d r : Result (Unit {0}) Stop) → OnOk d (ReopensRun (stands_for new) start trace story told) → Counts d → EndsWriting d (story_text schema told) before held r →
      OnOk r ((first : List (ℕ × ℕ)) → armed_by_lines first trace ≡ Some a.armed → IsBegun (stands_for new) start told before held first b.armed)
  begun-ok d (Err s) reopens counts w = tt
  begun-ok d (Ok x) reopens counts w = λ first is.
      let opened = subst (λ (y : Result (Unit {0}) Stop). OnOk y (ReopensRun (stands_for new) start trace story told)) w.0 reopens in
      record {
        trace = opened.after;
        arms = opening-stays a b story told (subst Counts w.0 counts) trace opened.after opened.grows opened.along.armed first is;
        lines = opened.lines ∙ unasked;
        serves = opened.serves;
        written = subst (λ (ts : List TableDef). Gains before (story_text ts told) held) (tables-serving stands_for devices flies new schema serving lying start opened.after told opened.serves) w.1;
      }

  opened-unwritten : ReopensRun (stands_for new) start trace story told → CountsOpening a b None story told → GainsShort before (story_text schema told) held → Ends stop.WriteFault
  opened-unwritten o counts short script rest first is =
      early-ends stands_for devices flies stop.WriteFault (inr refl) start o.after new told script rest before held
      (unwritten-leaves stands_for devices flies new idle flown leaves start o.after told o.serves) (o.lines ∙ unasked)
      (subst (λ (ts : List TableDef). GainsShort before (story_text ts told) held) (tables-serving stands_for devices flies new schema serving lying start o.after told o.serves) short)
      first b.armed (stops-are WriteFault b.armed b.armed (opening-stays a b story told counts trace o.after o.grows o.along.armed first is) (λ some. refl))

  module _ (e : Stop) (later : IsLaterStop e) (x : EndsOpening devices flies e start trace story told) (counts : CountsOpening a b (answer_of (status_of e)) story told) where
    armed-last : EndsArmed (status_of e) trace x.after a.armed b.armed
    armed-last = opening-ends a b (status_of e) story told counts trace x.after x.grows x.along.armed

    tables : (e ≡ stop.Memory → ⊥) → (told-text : List Event) → story_text schema told-text ≡ text_under x.after told-text
    tables some es = ap (λ ts. story_text ts es) (tables-lying stands_for devices flies new schema serving lying start x.after told (status_of e) x.ends (λ m. some (memory-status e m)))

    pub broken-ends : GainsAtEnd e before (story_text schema told) held → Ends e
    broken-ends gained script rest first is =
        early-ends stands_for devices flies e (inl (of-later e later)) start x.after new told script rest before held x.ends (x.lines ∙ unasked)
        (gains-under e before held _ _ (λ some. tables some told) gained) first b.armed (armed-last first is)

    pub broken-unwritten : (e ≡ stop.Memory → ⊥) → GainsShort before (story_text schema told) held → Ends stop.WriteFault
    broken-unwritten some short script rest first is =
        early-ends stands_for devices flies stop.WriteFault (inr refl) start x.after new told script rest before held (leaves-unwritten devices flies forgets start x.after told e later some x.ends) (x.lines ∙ unasked)
        (subst (λ t. GainsShort before t held) (tables some told) short) first b.armed (ends-unwritten (status_of e) (λ m. some (memory-status e m)) (armed-last first is))

  pub begun-err : (d r : Result (Unit {0}) Stop) → OnOk d (ReopensRun (stands_for new) start trace story told) → IfErr d (λ e. EndsOpening devices flies e start trace story told) → IfErr d IsLaterStop → Counts d →
      EndsWriting d (story_text schema told) before held r → IfErr r Ends
  begun-err d (Ok x) reopens f of counts w = tt
  begun-err d (Err s) reopens f of counts w = by w.0
    where
      short : (y : Result (Unit {0}) Stop) → (y ≡ Err stop.Memory → ⊥) → OnOk y (ReopensRun (stands_for new) start trace story told) → IfErr y (λ e. EndsOpening devices flies e start trace story told) →
          IfErr y IsLaterStop → Counts y → GainsShort before (story_text schema told) held → Ends stop.WriteFault
      short (Ok x) some c g o n h = opened-unwritten c n h
      short (Err e) some c g o n h = broken-unwritten e o g n (λ m. some (ap Err m)) h

      by : (d ≡ Err s) ⊎ ((s ≡ stop.WriteFault) × (d ≡ Err stop.Memory → ⊥)) → Ends s
      by (inl is) =
          broken-ends s (subst (λ (y : Result (Unit {0}) Stop). IfErr y IsLaterStop) is of)
          (subst (λ (y : Result (Unit {0}) Stop). IfErr y (λ e. EndsOpening devices flies e start trace story told)) is f) (subst Counts is counts) w.1
      by (inr u) = subst Ends (sym u.0) (short d u.1 reopens f of counts (subst (λ (x : Stop). GainsAtEnd x before (story_text schema told) held) u.0 w.1))

pub never-read : (d r : Result (Unit {0}) Stop) (before held : Option (List ℕ)) (text : List ℕ) → IfErr d IsOfDevices → EndsWriting d text before held r → r ≡ Err stop.ReadFault → ⊥
never-read d (Ok x) before held text of w is = cc
never-read d (Err s) before held text of w is = by w.0
  where
    same : (a b : Stop) → ◌≡◌ {A = Result (Unit {0}) Stop} (Err a) (Err b) → a ≡ b
    same a b e = cc

    by : (d ≡ Err s) ⊎ ((s ≡ stop.WriteFault) × (d ≡ Err stop.Memory → ⊥)) → ⊥
    by (inl e) = subst IsOfDevices (same s stop.ReadFault is) (subst (λ (y : Result (Unit {0}) Stop). IfErr y IsOfDevices) e of)
    by (inr u) = let same_stop = same s stop.ReadFault is in let written = u.0 in cc

-- BETWEEN LINES, FROM THEN ON

-- a reader that has read nothing
abbrev unread : ScriptReading
unread = record { kept = []; taken = 0; ended = false }

no-lines : (left : Option (List ℕ)) → IsAtPlace left unread (bytes_before [] left) []
no-lines None = tt
no-lines (Some script) = record { given = []; whole = refl; counted = refl; lines = refl; at_start = inl refl }

unended : false ≡ true → ⊥
unended e = cc

pub serving-begun : {E : Type 0} (stands_for : E → Option Event → State → Type 0) (start : Start) (e : E) (reading : ScriptReading) (left before held : Option (List ℕ)) (story : List Event) (first armed : List (ℕ × ℕ)) →
    IsBegun (stands_for e) start story before held first armed → reading ≡ unread → IsServing (stands_for e) start (streams left left before held) reading story first armed
serving-begun stands_for start e reading left before held story first armed b is =
    subst (λ (r : ScriptReading). IsServing (stands_for e) start (streams left left before held) r story first armed) (sym is) (record {
      trace = b.trace;
      arms = b.arms;
      texts = [];
      serves = b.serves;
      reads = subst (AskInOrder []) (sym b.lines) tt;
      of = λ ended. absurd (unended ended);
      place = no-lines left;
      written = b.written;
      within = omega arith;
    })
