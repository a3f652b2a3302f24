-- A run of the workload whose summary was not written.
use Rattle.salt_model.specs.Ends.{AtOutput, MayLeave, flight_told, is_serving}
use Rattle.salt_model.specs.Next.{flight}
use Rattle.salt_model.specs.Phases.{Fallen, Serving, phase}
use Rattle.salt_model.specs.Played.{IsPlayed}
use Rattle.salt_model.specs.Trace.{Asked, Start, Trace, from, lines_asked, story_of, ◌asks◌, ◌says◌, ◌turns◌}
use Rattle.salt_model.specs.declared.events.Event.{Event}
use Rattle.salt_model.specs.declared.events.Flight.{Flight}
use Rattle.salt_promise.specs.Doing.{IsFrontOf}
use Rattle.salt_promise.specs.declared.status.Status.{Status}
use Rattle.salt_promise.specs.declared.status.Status.TheVariants.{Broken, DeviceFull, DiskFault, Done, Memory, NotSalt, NumbersSpent, OtherShape, ReadFault, ScriptTooLong, TranscriptTooLong, Unread, Usage, WriteFault}
use Rattle.salt_loop.proofs.Leaving.{at-devices, complete-flight}
use Rattle.salt_loop.specs.Loading.{AreLoadLines, IsPlayedLoad, asked_by_load, load_run}
use Rattle.salt_loop.specs.Run.{IsFlightAt, leave_of}
use Rattle.std.proofs.Common.{ap, append-nil, inl, inr, sym, ◌∙◌}
use Rattle.std.specs.Prelude.{List, None, Option, [], refl, ℕ, ◌++◌, ◌∷◌, ◌≡◌}

-- WHERE NOTHING WAS ASKED OR TOLD

pub not-nil : {A : Type 0} (xs : List A) (x : A) → xs ++ x ∷ [] ≡ [] → ⊥
not-nil [] x e = cc
not-nil (y ∷ ys) x e = cc

not-both : (trace : Trace) → phase trace ≡ Fallen → phase trace ≡ Serving → ⊥
not-both trace f s = let both : Fallen ≡ Serving = sym f ∙ s in cc

at-start : (trace : Trace) → IsPlayed trace → story_of trace ≡ [] → lines_asked trace ≡ [] → (phase trace ≡ Fallen) × (flight trace ≡ None)
at-start (from k) p s l = (refl, refl)
at-start (trace asks asked) p s l = absurd (not-nil (lines_asked trace) asked l)
at-start (trace turns b) p s l = absurd (not-both trace (at-start trace p.0 s l).0 p.1)
at-start (trace says e) p s l = absurd (not-nil (story_of trace) e s)

-- ITS LINES, and where it ends

pub front-lines : (status : Status) (calls : ℕ) (lines : List Asked) → AreLoadLines status calls lines → IsFrontOf lines (asked_by_load calls)
front-lines Done calls lines h = ([], sym h ∙ sym (append-nil lines))
front-lines Memory calls lines h = h
front-lines WriteFault calls lines h = h
front-lines DiskFault calls lines h = h
front-lines (DeviceFull dev) calls lines h = h
front-lines (NumbersSpent boot decisions) calls lines h = h
front-lines (NotSalt dev) calls lines h = (asked_by_load calls, ap (λ (xs : List Asked). xs ++ asked_by_load calls) (sym h))
front-lines (OtherShape kept asked) calls lines h = (asked_by_load calls, ap (λ (xs : List Asked). xs ++ asked_by_load calls) (sym h))
front-lines Usage calls lines h = absurd h
front-lines Broken calls lines h = absurd h
front-lines Unread calls lines h = absurd h
front-lines TranscriptTooLong calls lines h = absurd h
front-lines ReadFault calls lines h = absurd h
front-lines ScriptTooLong calls lines h = absurd h

module _ (trace : Trace) (played : IsPlayed trace) (calls : ℕ) where
  pub leaves-output : (status : Status) → (status ≡ Memory → ⊥) → AreLoadLines status calls (lines_asked trace) → MayLeave (leave_of status) trace → MayLeave AtOutput trace
  leaves-output Done some l h = inl h
  leaves-output Memory some l h = absurd (some refl)
  leaves-output WriteFault some l h = h
  leaves-output DiskFault some l h = inr (at-devices trace h)
  leaves-output (DeviceFull dev) some l h = inr h
  leaves-output (NumbersSpent boot decisions) some l h = inr (at-devices trace h)
  leaves-output (NotSalt dev) some l h = inr (at-devices trace (ap is_serving (at-start trace played h l).0))
  leaves-output (OtherShape kept asked) some l h = inr (at-devices trace (ap is_serving (at-start trace played h l).0))
  leaves-output Usage some l h = absurd l
  leaves-output Broken some l h = absurd l
  leaves-output Unread some l h = absurd l
  leaves-output TranscriptTooLong some l h = absurd l
  leaves-output ReadFault some l h = absurd l
  leaves-output ScriptTooLong some l h = absurd l

  pub flies-output : (status : Status) (told : Option Flight) → (status ≡ Memory → ⊥) → AreLoadLines status calls (lines_asked trace) → MayLeave (leave_of status) trace →
      IsFlightAt status trace told → told ≡ flight_told (flight trace)
  flies-output Done told some l h f = f ∙ sym (ap flight_told (complete-flight trace h))
  flies-output Memory told some l h f = absurd (some refl)
  flies-output WriteFault told some l h f = f
  flies-output DiskFault told some l h f = f
  flies-output (DeviceFull dev) told some l h f = f
  flies-output (NumbersSpent boot decisions) told some l h f = f
  flies-output (NotSalt dev) told some l h f = f ∙ sym (ap flight_told (at-start trace played h l).1)
  flies-output (OtherShape kept asked) told some l h f = f ∙ sym (ap flight_told (at-start trace played h l).1)
  flies-output Usage told some l h f = absurd l
  flies-output Broken told some l h f = absurd l
  flies-output Unread told some l h f = absurd l
  flies-output TranscriptTooLong told some l h f = absurd l
  flies-output ReadFault told some l h f = absurd l
  flies-output ScriptTooLong told some l h f = absurd l

abbrev pub load-unwritten : (start : Start) (status : Status) (told : Option Flight) (calls done : ℕ) (story : List Event) → (status ≡ Memory → ⊥) → IsPlayedLoad start (load_run status told calls done story) →
    IsPlayedLoad start (load_run WriteFault told calls done story)
load-unwritten start status told calls done story some x = record {
  trace = x.trace;
  tells = x.tells;
  lines = front-lines status calls (lines_asked x.trace) x.lines;
  count = λ other. x.count some;
  leaves = leaves-output x.trace x.tells.played calls status some x.lines x.leaves;
  flies = flies-output x.trace x.tells.played calls status told some x.lines x.leaves x.flies;
  unspent = x.unspent;
}
