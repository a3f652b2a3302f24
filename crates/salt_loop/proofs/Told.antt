-- A line that was done or in which a run ends, and what is told of it.
use Rattle.salt_ast.specs.declared.trees.TableDef.{TableDef}
use Rattle.salt_io.specs.Streams.{GainsShort}
use Rattle.law_states.specs.Points.{Point}
use Rattle.law_states.specs.States.{State}
use Rattle.salt_model.specs.EventTexts.{story_text}
use Rattle.salt_model.specs.Kept.{schema_of}
use Rattle.salt_model.specs.Trace.{Start, Trace}
use Rattle.salt_model.specs.declared.events.Event.{Event}
use Rattle.salt_model.specs.declared.events.Flight.{Flight}
use Rattle.salt_loop.proofs.Leaving.{unwritten-leaves}
use Rattle.salt_loop.proofs.Texts.{end-unwritten, line-ended, line-told, line-unwritten}
use Rattle.salt_loop.specs.Serving.{ContinuesRun, EndsIn, EndsTelling, EndsWriting, GainsAtEnd, IsToldLine, line_behind, moment}
use Rattle.salt_loop.specs.Stopping.{IsLaterStop}
use Rattle.salt_loop.specs.declared.stop.Stop.TheVariants.{Memory, WriteFault}
use Rattle.salt_loop.specs.declared.stop.Stop.{Stop}
use Rattle.salt_driver.specs.Devices.{OnDevices}
use Rattle.salt_driver.specs.Serving.{ServesTrace}
use Rattle.salt_driver.specs.Standing.{IsIdleAt, IsSoundPoint}
use Rattle.std.proofs.Common.{ap, inl, inr, subst, sym}
use Rattle.salt_storage.specs.declared.found.Numbers.{Numbers}
use Rattle.std.specs.Prelude.{Err, List, None, Ok, Option, Result, Some, drop, length, ℕ, ◌≡◌, ◌⊎◌}
use Rattle.std.specs.Result.{IfErr, OnOk}

module _ {E : Type 0} (old_stands_for stands_for : E → Option Event → State → Type 0) (devices : OnDevices) (flies : Option Flight) (old new : E)
    (idle : (p : Point) → IsSoundPoint p → IsIdleAt (stands_for new) p → devices.can_reopen_at 0 p) (flown : (p : Point) → IsSoundPoint p → IsIdleAt (stands_for new) p → flies ≡ None)
    (leaves : (room : ℕ) (p : Point) → devices.can_reopen_at room p → devices.stands_for_kept None room p)
    (forgets : (numbers : Numbers) (room : ℕ) (p : Point) → devices.stands_for_kept (Some numbers) room p → devices.stands_for_kept None room p)
    (schema : List TableDef) (serving : (p : Point) → IsSoundPoint p → stands_for new None p.state → schema ≡ schema_of p.state.units.kept)
    (lying : (room : ℕ) (p : Point) → IsSoundPoint p → devices.can_reopen_at room p → schema ≡ schema_of p.state.units.kept)
    (text : Option (List ℕ)) (story told events : List Event) (before held : Option (List ℕ)) (are : events ≡ drop (length story) told) (old_armed new_armed : List (ℕ × ℕ)) where
  abbrev Done : Type 0
  Done = (start : Start) (trace : Trace) → ServesTrace (old_stands_for old) start story trace → ContinuesRun (stands_for new) (line_behind start trace text) (moment story old_armed) (moment told new_armed)

  abbrev Ends : Stop → Type 0
  Ends s = (start : Start) (trace : Trace) → ServesTrace (old_stands_for old) start story trace → EndsIn devices flies s (line_behind start trace text) (moment story old_armed) (moment told new_armed)

  abbrev Told : Type 0
  Told = (start : Start) (trace : Trace) → ServesTrace (old_stands_for old) start story trace → IsToldLine (stands_for new) (line_behind start trace text) (moment story old_armed) (moment told new_armed) before held

  abbrev EndsTold : Stop → Type 0
  EndsTold s = (start : Start) (trace : Trace) → ServesTrace (old_stands_for old) start story trace → EndsTelling devices flies s (line_behind start trace text) (moment story old_armed) (moment told new_armed) before held

  pub told-ok : (done r : Result (Unit {0}) Stop) → OnOk done Done → EndsWriting done (story_text schema events) before held r → OnOk r Told
  told-ok done (Ok x) each w = λ start trace s.
      line-told stands_for devices flies new schema serving lying start trace text story told events before held are old_armed new_armed ((subst (λ d. OnOk d Done) w.0 each) start trace s) w.1
  told-ok done (Err e) each w = tt

  short : (d : Result (Unit {0}) Stop) → (d ≡ Err Memory → ⊥) → OnOk d Done → IfErr d Ends → IfErr d IsLaterStop → GainsShort before (story_text schema events) held → EndsTold WriteFault
  short (Ok x) some ok err later g = λ start trace s.
      let c = ok start trace s in
      line-unwritten stands_for devices flies new schema serving lying start trace text story told events before held are old_armed new_armed c
      (unwritten-leaves stands_for devices flies new idle flown leaves start c.after told c.serves) g
  short (Err e) some ok err later g = λ start trace s.
      end-unwritten stands_for devices flies new schema serving lying start trace text story told events before held are old_armed new_armed forgets e later (λ m. some (ap Err m)) (err start trace s) g

  pub told-err : (done r : Result (Unit {0}) Stop) → OnOk done Done → IfErr done Ends → IfErr done IsLaterStop → EndsWriting done (story_text schema events) before held r → IfErr r EndsTold
  told-err done (Ok x) ok err later w = tt
  told-err done (Err e) ok err later w = by w.0
    where
      by : (done ≡ Err e) ⊎ ((e ≡ WriteFault) × (done ≡ Err Memory → ⊥)) → EndsTold e
      by (inl is) = λ start trace s.
          line-ended stands_for devices flies new schema serving lying start trace text story told events before held are old_armed new_armed e ((subst (λ d. IfErr d Ends) is err) start trace s) w.1
      by (inr u) = subst EndsTold (sym u.0) (short done u.1 ok err later (subst (λ x. GainsAtEnd x before (story_text schema events) held) u.0 w.1))
