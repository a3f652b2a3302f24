-- From line to line, and how a run ends.
use Rattle.salt_values.specs.declared.limits.TheConstants.{LINE_MOST, SCRIPT_MOST}
use Rattle.salt_io.proofs.Taking.{gains-append}
use Rattle.salt_io.specs.Lines.{IsCutOff, IsReadingOf, ScriptReading, TakesLine, TakesLong, TakesNoLine}
use Rattle.salt_io.specs.Streams.{Gains, GainsShort, IsAtEnd}
use Rattle.salt_io.specs.declared.lines.LineErr.{LineErr}
use Rattle.salt_io.specs.declared.lines.Next.TheVariants.{End, Line, TooLong}
use Rattle.salt_io.specs.declared.lines.Next.{Next}
use Rattle.law_states.specs.Points.{Point}
use Rattle.law_states.specs.States.{State}
use Rattle.salt_model.specs.Arming.{armed_by_lines}
use Rattle.salt_model.specs.Lines.{AskInOrder, Asks, is_long}
use Rattle.salt_model.specs.Played.{Tells}
use Rattle.salt_model.specs.Trace as trace_words
use Rattle.salt_model.specs.Trace.{Asked, Start, Trace, story_of}
use Rattle.salt_model.specs.declared.events.Event.{Event}
use Rattle.salt_model.specs.declared.events.Flight.{Flight}
use Rattle.salt_promise.specs.Counting.{Stops}
use Rattle.salt_promise.specs.Doing.{GainsFrom, GainsShortFrom, IsFrontOf, story_before_line, text_under}
use Rattle.salt_promise.specs.Status.{ends_between}
use Rattle.salt_promise.specs.declared.status.Status.{Status}
use Rattle.salt_promise.specs.declared.status.Status.TheVariants.{Done, Memory, ReadFault, ScriptTooLong}
use Rattle.salt_loop.proofs.Armed.{stops-are}
use Rattle.salt_loop.proofs.Extends.{before-line}
use Rattle.salt_loop.proofs.Leaving.{done-leaves, fault-leaves, long-leaves, short-leaves}
use Rattle.salt_loop.proofs.Places.{end-place, fault-place, first-place, long-place, next-place, over-before}
use Rattle.salt_loop.proofs.Stories.{grown-text, text-begins}
use Rattle.salt_loop.specs.Ending.{EndsServing, LeavesAt, ServesBetween}
use Rattle.salt_loop.specs.Run.{AreLinesOf, IsTold, IsWritten, script_run, streams}
use Rattle.salt_loop.specs.Serving.{AsksMore, EndsTelling, GainsAtEnd, IsAtPlace, IsServing, IsToldLine, TextAsks, added_text, line_behind, moment, rest_of, text_of}
use Rattle.salt_loop.specs.Stopping.{IsOfLine, outcome, status_of, stop_of}
use Rattle.salt_loop.specs.declared.stop.Stop.TheVariants as stop
use Rattle.salt_loop.specs.declared.stop.Stop.{Stop}
use Rattle.salt_driver.specs.Devices.{OnDevices}
use Rattle.salt_driver.specs.Serving.{GainsEvents}
use Rattle.salt_driver.specs.Standing.{IsIdleAt, IsSoundPoint}
use Rattle.std.proofs.Common.{ap, append-nil, append_assoc, inl, inr, subst, sym, ◌∙◌}
use Rattle.std.specs.Prelude.{Err, List, None, Ok, Option, Result, [], drop, false, length, refl, true, ℕ, ◌++◌, ◌-◌, ◌∷◌, ◌≡◌, ◌⊎◌}
use Rattle.std.specs.Result.{IfErr, IsErrAnd}

ask-one : (texts : List (List ℕ)) (lines : List Asked) (text : List ℕ) (line : Asked) → AskInOrder texts lines → Asks text line → AskInOrder (texts ++ text ∷ []) (lines ++ line ∷ [])
ask-one [] [] text line h a = (a, tt)
ask-one [] (l ∷ lines) text line h a = absurd h
ask-one (t ∷ texts) [] text line h a = absurd h
ask-one (t ∷ texts) (l ∷ lines) text line h a = (h.0, ask-one texts lines text line h.1 a)

-- all of it was gained, and with it what it begins with
gains-all-from : (before : Option (List ℕ)) (first text : List ℕ) (held : Option (List ℕ)) → IsFrontOf first text → Gains before text held → GainsFrom before first text held
gains-all-from before first text held begins g = record { some = record { part = text; others = []; whole = sym (append-nil text); gained = g }; from = begins }

-- the first of two texts was gained
gains-first-from : (a b : List ℕ) (before held : Option (List ℕ)) → Gains before a held → GainsFrom before a (a ++ b) held
gains-first-from a b before held g = record { some = record { part = a; others = b; whole = refl; gained = g }; from = ([], sym (append-nil a)) }

-- the first of two texts was gained, and then the second in part
gains-then-short : (a b : List ℕ) (before mid held : Option (List ℕ)) → Gains before a mid → GainsShort mid b held → GainsShortFrom before a (a ++ b) held
gains-then-short a b before mid held g s = record {
  short = record {
    part = a ++ s.part;
    missing = s.missing;
    whole = ap (λ t. a ++ t) s.whole ∙ sym (append_assoc a s.part s.missing);
    some = s.some;
    gained = gains-append before mid held a s.part g s.gained;
  };
  from = (s.part, refl);
}

-- the first text was gained, and then of the second what this stop leaves of it
ends-written : (s : Stop) (a b : List ℕ) (before mid held : Option (List ℕ)) → Gains before a mid → GainsAtEnd s mid b held → IsWritten (status_of s) before a (a ++ b) held
ends-written stop.Memory a b before mid held g h = subst (GainsFrom before a (a ++ b)) (sym h) (gains-first-from a b before mid g)
ends-written stop.WriteFault a b before mid held g h = gains-then-short a b before mid held g h
ends-written stop.ReadFault a b before mid held g h = gains-append before mid held a b g h
ends-written stop.DiskFault a b before mid held g h = gains-append before mid held a b g h
ends-written (stop.NotSalt dev) a b before mid held g h = gains-append before mid held a b g h
ends-written (stop.DeviceFull dev) a b before mid held g h = gains-append before mid held a b g h
ends-written (stop.OtherShape kept asked) a b before mid held g h = gains-append before mid held a b g h
ends-written stop.ScriptTooLong a b before mid held g h = gains-append before mid held a b g h
ends-written (stop.NumbersSpent boot decisions) a b before mid held g h = gains-append before mid held a b g h

-- a line was taken, which asks what its text or its length says
pub record HasTaken (text : Option (List ℕ)) (before after : Option (List ℕ)) (taken : ℕ) (now : ScriptReading) : Type 0 where
  pub line : List ℕ
  pub takes : TakesLine SCRIPT_MOST before after taken now line
  pub asks : (asked : Asked) → TextAsks text asked → Asks line asked

-- a run that leaves there, with its lines and its text
pub ends-at : {E : Type 0} (stands_for : E → Option Event → State → Type 0) (devices : OnDevices) (flies : Option Flight) (status : Status) (start : Start) (trace : Trace) (e : E) (story : List Event)
    (texts : List (List ℕ)) (script rest before held : Option (List ℕ)) → LeavesAt devices flies status start trace story → AskInOrder texts (trace_words.lines_asked trace) →
    AreLinesOf status script rest texts → IsTold status before trace held → (first armed : List (ℕ × ℕ)) → Stops status (armed_by_lines first trace) armed →
    ServesBetween (stands_for e) start status story trace → EndsServing (stands_for e) devices start (script_run status flies (streams script rest before held) story) first armed
ends-at stands_for devices flies status start trace e story texts script rest before held x reads lines told first armed stops serves = (
  record { played = record { trace = trace; texts = texts; tells = x.tells; reads = reads; lines = lines; leaves = x.leaves; flies = x.flies; unspent = x.fits.unspent }; told = told },
  x.ends,
  stops,
  serves,
)

-- a line ends no run between two lines
not-between : (s : Stop) → IsOfLine s → ends_between (status_of s) ≡ true → ⊥
not-between stop.ReadFault of is = of
not-between stop.ScriptTooLong of is = of
not-between s of is = cc

module _ {E : Type 0} (old_stands_for : E → Option Event → State → Type 0) (start : Start) (script before : Option (List ℕ)) (old : E) (reading : ScriptReading) (left : Option (List ℕ))
    (story : List Event) (held : Option (List ℕ)) (first armed : List (ℕ × ℕ)) (serving : IsServing (old_stands_for old) start (streams script left before held) reading story first armed) where
  over : reading.ended ≡ true → IsAtEnd (rest_of reading left)
  over = over-before reading left serving.of

  -- what was written is the text of the story so far
  written-so-far : Gains before (text_under serving.trace (story_of serving.trace)) held
  written-so-far = subst (λ es. Gains before (text_under serving.trace es) held) (sym serving.serves.tells.told) serving.written

  module _ (reading_after : ScriptReading) (left_after : Option (List ℕ)) (of : IsReadingOf reading_after left_after) (text : Option (List ℕ))
      (taken : HasTaken text (rest_of reading left) (rest_of reading_after left_after) reading.taken reading_after) (told : List Event) where
    here : IsAtPlace script reading_after (rest_of reading_after left_after) (serving.texts ++ taken.line ∷ [])
    here = next-place reading reading_after left (rest_of reading_after left_after) serving.texts taken.line serving.of taken.takes script serving.place

    reads-here : (after : Trace) → AsksMore text serving.trace after → AskInOrder (serving.texts ++ taken.line ∷ []) (trace_words.lines_asked after)
    reads-here after asks =
        subst (AskInOrder (serving.texts ++ taken.line ∷ [])) (sym asks.2)
        (ask-one serving.texts (trace_words.lines_asked serving.trace) taken.line asks.0 serving.reads (taken.asks asks.0 asks.1))

    -- the text of a trace that has gone on by the line
    grown : (after : Trace) → AsksMore text serving.trace after → Tells start after told → GainsEvents story told →
        (text_under after story ≡ text_under serving.trace story) × (text_under after told ≡ text_under serving.trace story ++ text_under after (drop (length story) told))
    grown after asks tells grows = grown-text start serving.trace after asks.0 story told serving.serves.fits.well serving.serves.tells tells asks.2 grows

    pub line-done : {F : Type 0} (stands_for : F → Option Event → State → Type 0) (new : F) (held_after : Option (List ℕ)) (armed_after : List (ℕ × ℕ)) → IsToldLine (stands_for new) (line_behind start serving.trace text) (moment story armed) (moment told armed_after) held held_after →
        IsServing (stands_for new) start (streams script left_after before held_after) reading_after told first armed_after
    line-done stands_for new held_after armed_after line =
        let goes = line.goes in record {
          trace = goes.after;
          arms = goes.armed first serving.arms;
          texts = serving.texts ++ taken.line ∷ [];
          serves = goes.serves;
          reads = reads-here goes.after goes.asks;
          of = of;
          place = here;
          written =
              subst (λ t. Gains before t held_after) (sym (grown goes.after goes.asks goes.serves.tells goes.grows).1)
              (gains-append before held held_after (text_under serving.trace story) (added_text goes.after story told) serving.written line.written);
          within = taken.takes.within;
        }

    module _ {F : Type 0} (stands_for : F → Option Event → State → Type 0) (new : F) (devices : OnDevices) (flies : Option Flight) (held_after rest : Option (List ℕ)) (armed_after : List (ℕ × ℕ)) where
      line-ends : (s : Stop) → IsOfLine s → (x : EndsTelling devices flies s (line_behind start serving.trace text) (moment story armed) (moment told armed_after) held held_after) → AsksMore text serving.trace x.ends.after →
          EndsServing (stands_for new) devices start (script_run (status_of s) flies (streams script rest before held_after) told) first armed_after
      line-ends s of_line x asks =
          let after = x.ends.after in
          let leaves = x.ends.ends in
          let texts = grown after asks leaves.tells x.ends.grows in
          let begun : story_before_line after ≡ story =
          before-line serving.trace after asks.0 x.ends.grows.0 serving.serves.complete (leaves.tells.begins ∙ sym serving.serves.tells.begins) serving.serves.tells.played leaves.tells.played asks.2
          (leaves.tells.told ∙ x.ends.grows.1 ∙ ap (λ es. es ++ x.ends.grows.0) (sym serving.serves.tells.told)) ∙ serving.serves.tells.told in
          ends-at stands_for devices flies (status_of s) start after new told (serving.texts ++ taken.line ∷ []) script rest before held_after leaves (reads-here after asks)
          (first-place s of_line script reading_after (rest_of reading_after left_after) rest (serving.texts ++ taken.line ∷ []) here (over-before reading_after left_after of) taken.takes.within)
          (subst (λ es. IsWritten (status_of s) before (text_under after es) (text_under after (story_of after)) held_after) (sym begun)
          (subst (λ es. IsWritten (status_of s) before (text_under after story) (text_under after es) held_after) (sym leaves.tells.told)
          (subst (λ t. IsWritten (status_of s) before t (text_under after told) held_after) (sym texts.0)
          (subst (λ t. IsWritten (status_of s) before (text_under serving.trace story) t held_after) (sym texts.1)
          (ends-written s (text_under serving.trace story) (added_text after story told) before held held_after serving.written x.written))))) first armed_after (x.ends.armed first serving.arms) (λ between. absurd (not-between s of_line between))

      -- memory ran out before it was asked
      unasked-ends : (x : EndsTelling devices flies stop.Memory (line_behind start serving.trace text) (moment story armed) (moment told armed_after) held held_after) → x.ends.after ≡ serving.trace →
          EndsServing (stands_for new) devices start (script_run Memory flies (streams script rest before held_after) told) first armed_after
      unasked-ends x same =
          let after = x.ends.after in
          ends-at stands_for devices flies Memory start after new told serving.texts script rest before held_after x.ends.ends (subst (λ t. AskInOrder serving.texts (trace_words.lines_asked t)) (sym same) serving.reads)
          (first-place stop.Memory tt script reading (rest_of reading left) rest serving.texts serving.place over serving.within)
          (subst (λ t. IsTold Memory before t held_after) (sym same) (subst (IsTold Memory before serving.trace) (sym x.written) (
          gains-all-from before (text_under serving.trace (story_before_line serving.trace)) (text_under serving.trace (story_of serving.trace)) held
          (text-begins serving.trace (story_of serving.trace) refl) written-so-far))) first armed_after (x.ends.armed first serving.arms) (λ between. absurd (not-between stop.Memory tt between))

      pub telling-ends : (s : Stop) → IsOfLine s → EndsTelling devices flies s (line_behind start serving.trace text) (moment story armed) (moment told armed_after) held held_after →
          EndsServing (stands_for new) devices start (script_run (status_of s) flies (streams script rest before held_after) told) first armed_after
      telling-ends s of_line x = by x.ends.asks
        where
          by : AsksMore text serving.trace x.ends.after ⊎ ((s ≡ stop.Memory) × (x.ends.after ≡ serving.trace)) → EndsServing (stands_for new) devices start (script_run (status_of s) flies (streams script rest before held_after) told) first armed_after
          by (inl asks) = line-ends s of_line x asks
          by (inr m) = short s x m.0 m.1
            where
              short : (s : Stop) (x : EndsTelling devices flies s (line_behind start serving.trace text) (moment story armed) (moment told armed_after) held held_after) → s ≡ stop.Memory → x.ends.after ≡ serving.trace →
                  EndsServing (stands_for new) devices start (script_run (status_of s) flies (streams script rest before held_after) told) first armed_after
              short stop.Memory x m same = unasked-ends x same
              short stop.ReadFault x m same = absurd cc
              short stop.WriteFault x m same = absurd cc
              short stop.DiskFault x m same = absurd cc
              short (stop.NotSalt dev) x m same = absurd cc
              short (stop.DeviceFull dev) x m same = absurd cc
              short (stop.OtherShape kept asked) x m same = absurd cc
              short stop.ScriptTooLong x m same = absurd cc
              short (stop.NumbersSpent boot decisions) x m same = absurd cc

  -- nothing more was told
  module _ (devices : OnDevices) (flies : Option Flight) (idle : (p : Point) → IsSoundPoint p → IsIdleAt (old_stands_for old) p → devices.can_reopen_at 0 p)
      (flown : (p : Point) → IsSoundPoint p → IsIdleAt (old_stands_for old) p → flies ≡ None) (leaves : (room : ℕ) (p : Point) → devices.can_reopen_at room p → devices.stands_for_kept None room p) (left_end : Option (List ℕ)) where
    still : (status : Status) → Stops status (armed_by_lines first serving.trace) armed
    still status = stops-are status armed armed serving.arms (λ some. refl)

    pub done-ends : IsAtEnd (rest_of reading left) → EndsServing (old_stands_for old) devices start (script_run Done flies (streams script left_end before held) story) first armed
    done-ends end =
        ends-at old_stands_for devices flies Done start serving.trace old story serving.texts script left_end before held
        (done-leaves old_stands_for devices flies old idle flown leaves start serving.trace story serving.serves) serving.reads
        (end-place script reading (rest_of reading left) left_end serving.texts serving.place end serving.within) written-so-far first armed (still Done) (λ between. serving.serves)

    fault-ends : reading.ended ≡ false → TakesNoLine (SCRIPT_MOST - reading.taken) (rest_of reading left) left_end → EndsServing (old_stands_for old) devices start (script_run ReadFault flies (streams script left_end before held) story) first armed
    fault-ends unended cut =
        ends-at old_stands_for devices flies ReadFault start serving.trace old story serving.texts script left_end before held
        (fault-leaves old_stands_for devices flies old idle flown leaves start serving.trace story serving.serves) serving.reads
        (fault-place script reading (rest_of reading left) left_end serving.texts serving.place unended cut serving.within) written-so-far first armed (still ReadFault) (λ between. serving.serves)

    long-ends : IsCutOff (SCRIPT_MOST - reading.taken) (rest_of reading left) → EndsServing (old_stands_for old) devices start (script_run ScriptTooLong flies (streams script left_end before held) story) first armed
    long-ends cut =
        ends-at old_stands_for devices flies ScriptTooLong start serving.trace old story serving.texts script left_end before held
        (long-leaves old_stands_for devices flies old idle flown leaves start serving.trace story serving.serves) serving.reads
        (long-place script reading (rest_of reading left) left_end serving.texts serving.place over cut serving.within) written-so-far first armed (still ScriptTooLong) (λ between. serving.serves)

    memory-ends : EndsServing (old_stands_for old) devices start (script_run Memory flies (streams script left_end before held) story) first armed
    memory-ends =
        ends-at old_stands_for devices flies Memory start serving.trace old story serving.texts script left_end before held
        (short-leaves old_stands_for devices flies old idle flown leaves start serving.trace story serving.serves) serving.reads
        (first-place stop.Memory tt script reading (rest_of reading left) left_end serving.texts serving.place over serving.within)
        (gains-all-from before (text_under serving.trace (story_before_line serving.trace)) (text_under serving.trace (story_of serving.trace)) held
        (text-begins serving.trace (story_of serving.trace) refl) written-so-far) first armed (still Memory) (λ between. serving.serves)

    -- why the next line was not read
    pub reading-stops : (e : LineErr) → (e ≡ LineErr.ReadFault → (reading.ended ≡ false) × TakesNoLine (SCRIPT_MOST - reading.taken) (rest_of reading left) left_end)
        → (e ≡ LineErr.ScriptTooLong → IsCutOff (SCRIPT_MOST - reading.taken) (rest_of reading left)) → EndsServing (old_stands_for old) devices start (script_run (status_of (stop_of e)) flies (streams script left_end before held) story) first armed
    reading-stops LineErr.ReadFault fault long = fault-ends (fault refl).0 (fault refl).1
    reading-stops LineErr.ScriptTooLong fault long = long-ends (long refl)
    reading-stops LineErr.Memory fault long = memory-ends

pub if_err_gives : {A E : Type 0} (r : Result A E) (e : E) (P : E → Type 0) → IsErrAnd r (λ x. x ≡ e) → P e → IfErr r P
if_err_gives (Ok x) e P h p = tt
if_err_gives (Err x) e P h p = subst P (sym h) p

-- a line that was taken, with the text that it has
pub next-taken : (next : Next) (line : List ℕ) (before after : Option (List ℕ)) (taken : ℕ) (now : ScriptReading) → (next ≡ End → ⊥) →
    (next ≡ Line → TakesLine SCRIPT_MOST before after taken now line) → (next ≡ TooLong → TakesLong LINE_MOST SCRIPT_MOST before after taken now) →
    HasTaken (text_of next line) before after taken now
next-taken Line line before after taken now more takes long = record { line = line; takes = takes refl; asks = λ asked h. h }
next-taken TooLong line before after taken now more takes long =
    let t = long refl in record { line = t.text; takes = t.taken; asks = λ asked h. subst (Asks t.text) (sym h) (is_long t.long) }
next-taken End line before after taken now more takes long = absurd (more refl)

-- an error that is passed on ends the run as it is
pub outcome-of : {A : Type 0} (r : Result A Stop) (e : Stop) (P : Status → Type 0) → IsErrAnd r (λ x. x ≡ e) → P (status_of e) → P (outcome r)
outcome-of (Ok x) e P h p = absurd h
outcome-of (Err x) e P h p = subst (λ y. P (status_of y)) (sym h) p
