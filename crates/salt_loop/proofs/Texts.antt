-- The text of what a line has added, under the tables that the database knows behind it.
use Rattle.salt_ast.specs.declared.trees.TableDef.{TableDef}
use Rattle.salt_io.specs.Streams.{Gains, GainsShort}
use Rattle.law_states.specs.Points.{Point}
use Rattle.law_states.specs.States.{State}
use Rattle.salt_model.specs.After.{kept}
use Rattle.salt_model.specs.EventTexts.{story_text}
use Rattle.salt_model.specs.Kept.{schema_of}
use Rattle.salt_model.specs.Trace.{Start, Trace}
use Rattle.salt_model.specs.declared.events.Event.{Event}
use Rattle.salt_model.specs.declared.events.Flight.{Flight}
use Rattle.salt_promise.specs.declared.status.Status.{Status}
use Rattle.salt_promise.specs.declared.status.Status.TheVariants as status
use Rattle.salt_loop.proofs.Armed.{ends-unwritten, stops-are}
use Rattle.salt_loop.proofs.Leaving.{leaves-unwritten}
use Rattle.salt_loop.specs.Ending.{LeavesAt}
use Rattle.salt_loop.specs.Serving.{ContinuesRun, EndsIn, EndsTelling, EndsWriting, GainsAtEnd, IsToldLine, added_text, line_behind, moment}
use Rattle.salt_loop.specs.Stopping.{IsLaterStop, IsOfDevices, IsOfLine, is_memory, outcome, ran_short, status_of}
use Rattle.salt_loop.specs.Telling.{StopsWriting}
use Rattle.salt_loop.specs.declared.stop.Stop.TheVariants.{DeviceFull, DiskFault, Memory, NotSalt, NumbersSpent, OtherShape, ReadFault, ScriptTooLong, WriteFault}
use Rattle.salt_loop.specs.declared.stop.Stop.{Stop}
use Rattle.salt_driver.proofs.Segments.{serves-at, sound-at}
use Rattle.salt_driver.specs.Devices.{OnDevices}
use Rattle.salt_driver.specs.Serving.{ServesTrace}
use Rattle.salt_driver.specs.Standing.{IsSoundPoint}
use Rattle.std.proofs.Common.{ap, inl, inr, subst, sym, ◌∙◌}
use Rattle.salt_storage.specs.declared.found.Numbers.{Numbers}
use Rattle.std.specs.Prelude.{Err, List, None, Ok, Option, Result, Some, drop, false, length, refl, true, ℕ, ◌≡◌, ◌⊎◌}
use Rattle.std.specs.Result.{IfErr, IsErrAnd}

pub memory-status : (s : Stop) → status_of s ≡ status.Memory → s ≡ Memory
memory-status Memory h = refl
memory-status ReadFault h = absurd cc
memory-status WriteFault h = absurd cc
memory-status DiskFault h = absurd cc
memory-status (NotSalt dev) h = absurd cc
memory-status (DeviceFull dev) h = absurd cc
memory-status (OtherShape kept asked) h = absurd cc
memory-status ScriptTooLong h = absurd cc
memory-status (NumbersSpent boot decisions) h = absurd cc

-- what the sink gained under these tables it gained under those
pub gains-under : (s : Stop) (before held : Option (List ℕ)) (a b : List ℕ) → ((s ≡ Memory → ⊥) → a ≡ b) → GainsAtEnd s before a held → GainsAtEnd s before b held
gains-under Memory before held a b same h = h
gains-under WriteFault before held a b same h = subst (λ t. GainsShort before t held) (same (λ m. cc)) h
gains-under ReadFault before held a b same h = subst (λ t. Gains before t held) (same (λ m. cc)) h
gains-under DiskFault before held a b same h = subst (λ t. Gains before t held) (same (λ m. cc)) h
gains-under (NotSalt dev) before held a b same h = subst (λ t. Gains before t held) (same (λ m. cc)) h
gains-under (DeviceFull dev) before held a b same h = subst (λ t. Gains before t held) (same (λ m. cc)) h
gains-under (OtherShape kept asked) before held a b same h = subst (λ t. Gains before t held) (same (λ m. cc)) h
gains-under ScriptTooLong before held a b same h = subst (λ t. Gains before t held) (same (λ m. cc)) h
gains-under (NumbersSpent boot decisions) before held a b same h = subst (λ t. Gains before t held) (same (λ m. cc)) h

-- what was done is told: all of it, unless memory ran out
pub wrote-all : (done : Result (Unit {0}) Stop) (before held : Option (List ℕ)) (text : List ℕ) → IfErr done IsOfDevices → (done ≡ Err Memory → ⊥) → Gains before text held →
    EndsWriting done text before held done
wrote-all (Ok x) before held text of some g = (refl, g)
wrote-all (Err Memory) before held text of some g = absurd (some refl)
wrote-all (Err ReadFault) before held text of some g = absurd of
wrote-all (Err WriteFault) before held text of some g = absurd of
wrote-all (Err ScriptTooLong) before held text of some g = absurd of
wrote-all (Err DiskFault) before held text of some g = (inl refl, g)
wrote-all (Err (NotSalt dev)) before held text of some g = (inl refl, g)
wrote-all (Err (DeviceFull dev)) before held text of some g = (inl refl, g)
wrote-all (Err (OtherShape kept asked)) before held text of some g = (inl refl, g)
wrote-all (Err (NumbersSpent boot decisions)) before held text of some g = (inl refl, g)

-- or none of it
pub wrote-none : (done : Result (Unit {0}) Stop) (held : Option (List ℕ)) (text : List ℕ) → ran_short done ≡ true → EndsWriting done text held held done
wrote-none (Ok x) held text short = absurd cc
wrote-none (Err Memory) held text short = (inl refl, refl)
wrote-none (Err ReadFault) held text short = absurd cc
wrote-none (Err WriteFault) held text short = absurd cc
wrote-none (Err DiskFault) held text short = absurd cc
wrote-none (Err (NotSalt dev)) held text short = absurd cc
wrote-none (Err (DeviceFull dev)) held text short = absurd cc
wrote-none (Err (OtherShape kept asked)) held text short = absurd cc
wrote-none (Err ScriptTooLong) held text short = absurd cc
wrote-none (Err (NumbersSpent boot decisions)) held text short = absurd cc

pub not-short : (done : Result (Unit {0}) Stop) → ran_short done ≡ false → done ≡ Err Memory → ⊥
not-short done some is = let short : ran_short done ≡ true = ap ran_short is in cc

pub no-memory : (s : Stop) → (s ≡ Memory → ⊥) → false ≡ is_memory s
no-memory Memory some = absurd (some refl)
no-memory s some = refl

-- or the sink failed
pub wrote-short : (done : Result (Unit {0}) Stop) (before held : Option (List ℕ)) (text : List ℕ) (s : Stop) → (done ≡ Err Memory → ⊥) → StopsWriting text before held s →
    EndsWriting done text before held (Err s)
wrote-short done before held text WriteFault some h = (inr (refl, some), h)
wrote-short done before held text s some h = absurd h

-- an error that is passed on
pub wrote-passed : (done r : Result (Unit {0}) Stop) (e : Stop) (before held : Option (List ℕ)) (text : List ℕ) → IsErrAnd r (λ x. x ≡ e) → EndsWriting done text before held (Err e) →
    EndsWriting done text before held r
wrote-passed done (Ok x) e before held text h w = absurd h
wrote-passed done (Err s) e before held text h w = subst (λ (x : Stop). EndsWriting done text before held (Err x)) (sym h) w

pub no-write : (done : Result (Unit {0}) Stop) → IfErr done IsOfDevices → done ≡ Err WriteFault → ⊥
no-write done of is = subst (λ (d : Result (Unit {0}) Stop). IfErr d IsOfDevices) is of

-- what was done is of a line
pub of-line : (done r : Result (Unit {0}) Stop) (before held : Option (List ℕ)) (text : List ℕ) → IfErr done IsLaterStop → EndsWriting done text before held r → IfErr r IsOfLine
of-line done (Ok x) before held text later w = tt
of-line done (Err s) before held text later w = by w.0
  where
    also : (s : Stop) → IsLaterStop s → IsOfLine s
    also Memory h = tt
    also ReadFault h = h
    also WriteFault h = tt
    also DiskFault h = tt
    also (NotSalt dev) h = h
    also (DeviceFull dev) h = tt
    also (OtherShape kept asked) h = h
    also ScriptTooLong h = h
    also (NumbersSpent boot decisions) h = tt

    by : (done ≡ Err s) ⊎ ((s ≡ WriteFault) × (done ≡ Err Memory → ⊥)) → IsOfLine s
    by (inl is) = also s (subst (λ d. IfErr d IsLaterStop) is later)
    by (inr w) = subst IsOfLine (sym w.0) tt

pub of-later : (s : Stop) → IsLaterStop s → IsOfDevices s
of-later Memory later = tt
of-later DiskFault later = tt
of-later (DeviceFull dev) later = tt
of-later (NumbersSpent boot decisions) later = tt
of-later s later = absurd later

pub of-devices : (done : Result (Unit {0}) Stop) → IfErr done IsLaterStop → IfErr done IsOfDevices
of-devices (Ok x) later = tt
of-devices (Err s) later = of-later s later

-- the answer counts as what was done did, or as a sink that failed
pub counts-written : (done r : Result (Unit {0}) Stop) (before held : Option (List ℕ)) (text : List ℕ) (P : Status → Type 0) → ((s : Status) → (s ≡ status.Memory → ⊥) → P s → P status.WriteFault) →
    P (outcome done) → EndsWriting done text before held r → P (outcome r)
counts-written done (Ok x) before held text P weak p w = subst (λ d. P (outcome d)) w.0 p
counts-written done (Err s) before held text P weak p w = by w.0
  where
    short : (d : Result (Unit {0}) Stop) → (d ≡ Err Memory → ⊥) → P (outcome d) → P status.WriteFault
    short (Ok x) some q = weak status.Done (λ m. cc) q
    short (Err e) some q = weak (status_of e) (λ m. some (ap Err (memory-status e m))) q

    by : (done ≡ Err s) ⊎ ((s ≡ WriteFault) × (done ≡ Err Memory → ⊥)) → P (status_of s)
    by (inl is) = subst (λ d. P (outcome d)) is p
    by (inr w) = subst (λ x. P (status_of x)) (sym w.0) (short done w.1 p)

module _ {E : Type 0} (stands_for : E → Option Event → State → Type 0) (devices : OnDevices) (flies : Option Flight) (new : E)
    (schema : List TableDef) (serving : (p : Point) → IsSoundPoint p → stands_for new None p.state → schema ≡ schema_of p.state.units.kept)
    (lying : (room : ℕ) (p : Point) → IsSoundPoint p → devices.can_reopen_at room p → schema ≡ schema_of p.state.units.kept) where
  -- the tables that the database knows are those defined at the end of its trace
  pub tables-serving : (start : Start) (trace : Trace) (told : List Event) → ServesTrace (stands_for new) start told trace → schema ≡ schema_of (kept trace)
  tables-serving start trace told s = serving s.point (serves-at stands_for stands_for start new told trace s) s.stands.state ∙ sym (ap schema_of s.keeps.state.units.kept)

  pub tables-lying : (start : Start) (trace : Trace) (told : List Event) (now : Status) → LeavesAt devices flies now start trace told → (now ≡ status.Memory → ⊥) →
      schema ≡ schema_of (kept trace)
  tables-lying start trace told now x some =
      let p = x.ends.point in
      lying x.ends.room p (sound-at start trace p x.tells.begins x.tells.played x.fits x.ends.keeps) (x.ends.again some) ∙ sym (ap schema_of x.ends.keeps.state.units.kept)

  module _ (start : Start) (trace : Trace) (text : Option (List ℕ)) (story told events : List Event) (before held : Option (List ℕ)) (are : events ≡ drop (length story) told) (old_armed new_armed : List (ℕ × ℕ)) where
    text-is : (after : Trace) → schema ≡ schema_of (kept after) → story_text schema events ≡ added_text after story told
    text-is after same = ap (story_text schema) are ∙ ap (λ ts. story_text ts (drop (length story) told)) same

    pub line-told : ContinuesRun (stands_for new) (line_behind start trace text) (moment story old_armed) (moment told new_armed) → Gains before (story_text schema events) held → IsToldLine (stands_for new) (line_behind start trace text) (moment story old_armed) (moment told new_armed) before held
    line-told c g = record { goes = c; written = subst (λ t. Gains before t held) (text-is c.after (tables-serving start c.after told c.serves)) g }

    pub line-ended : (s : Stop) → EndsIn devices flies s (line_behind start trace text) (moment story old_armed) (moment told new_armed) → GainsAtEnd s before (story_text schema events) held →
        EndsTelling devices flies s (line_behind start trace text) (moment story old_armed) (moment told new_armed) before held
    line-ended s x g = record {
      ends = x;
      written = gains-under s before held (story_text schema events) (added_text x.after story told)
          (λ some. text-is x.after (tables-lying start x.after told (status_of s) x.ends (λ m. some (memory-status s m)))) g;
    }

    -- the sink failed behind a line that was done
    pub line-unwritten : (c : ContinuesRun (stands_for new) (line_behind start trace text) (moment story old_armed) (moment told new_armed)) → LeavesAt devices flies status.WriteFault start c.after told → GainsShort before (story_text schema events) held →
        EndsTelling devices flies WriteFault (line_behind start trace text) (moment story old_armed) (moment told new_armed) before held
    line-unwritten c x g = record {
      ends = record { after = c.after; asks = inl c.asks; ends = x; grows = c.grows; armed = λ first is. stops-are status.WriteFault new_armed new_armed (c.armed first is) (λ some. refl) };
      written = subst (λ t. GainsShort before t held) (text-is c.after (tables-serving start c.after told c.serves)) g;
    }

    -- or behind one in which the run ends
    pub end-unwritten : ((numbers : Numbers) (room : ℕ) (p : Point) → devices.stands_for_kept (Some numbers) room p → devices.stands_for_kept None room p) → (s : Stop) → IsLaterStop s → (s ≡ Memory → ⊥) → EndsIn devices flies s (line_behind start trace text) (moment story old_armed) (moment told new_armed) → GainsShort before (story_text schema events) held →
        EndsTelling devices flies WriteFault (line_behind start trace text) (moment story old_armed) (moment told new_armed) before held
    end-unwritten forgets s later some x g = record {
      ends = record { after = x.after; asks = by x.asks; ends = leaves-unwritten devices flies forgets start x.after told s later some x.ends; grows = x.grows; armed = λ first is. ends-unwritten (status_of s) (λ m. some (memory-status s m)) (x.armed first is) };
      written = subst (λ t. GainsShort before t held) (text-is x.after (tables-lying start x.after told (status_of s) x.ends (λ m. some (memory-status s m)))) g;
    }
      where
        by : {A B : Type 0} → A ⊎ ((s ≡ Memory) × B) → A ⊎ ((WriteFault ≡ Memory) × B)
        by (inl a) = inl a
        by (inr m) = absurd (some m.0)
