-- Where nothing comes in its way a run is done, unless memory runs out: by the cause that each other status has.
use Rattle.salt_disk.specs.Disks.{Rose}
use Rattle.salt_model.specs.Kept.{Definition}
use Rattle.salt_model.specs.declared.events.Event.TheVariants.{Down}
use Rattle.salt_model.specs.declared.events.Event.{Event}
use Rattle.salt_model.specs.declared.events.Why.TheVariants.{Fault, Stopped}
use Rattle.salt_model.specs.Trace.{Trace, Tree, lines_asked}
use Rattle.salt_promise.proofs.OneAnswer.{one_answer}
use Rattle.salt_promise.specs.Completing.{AsksFirst, IsWithin, MayTell, MeetsNothing}
use Rattle.salt_promise.specs.Counting.{Downs, FailsOnly, RiseTo}
use Rattle.salt_promise.specs.Doing.{AreLinesOf, AreLoadLines, Does}
use Rattle.salt_promise.specs.Given.{Run, shape_of}
use Rattle.salt_promise.specs.declared.command.Command.TheVariants.{Load, Script}
use Rattle.salt_promise.specs.declared.command.Command.{Command}
use Rattle.salt_promise.specs.declared.status.Status.TheVariants.{Broken, DeviceFull, DiskFault, Done, Memory, NotSalt, NumbersSpent, OtherShape, ReadFault, ScriptTooLong, TranscriptTooLong, Unread, Usage, WriteFault}
use Rattle.salt_promise.specs.declared.status.Status.{Status}
use Rattle.salt_promise.specs.Runs.{EndsRefused, FindsNothing, IsNoRefusal, RunsAs, RunsOver, ends_reading, ends_writing}
use Rattle.salt_promise.specs.Ways.{FirstLines, LinesWithin, way_of}
use Rattle.salt_promise.specs.Workload.{load_lines}
use Rattle.salt_stands.specs.Stands.{Opening, Stands}
use Rattle.std.proofs.Common.{ap, arith, inl, inr, subst, sym}
use Rattle.std.specs.Prelude.{IfSome, IsTrue, List, None, Option, Some, [], map, refl, ℕ, ◌∷◌, ◌≡◌, ◌≤◌, ◌⊎◌}

-- FAULTS

later : (e : Event) (a n : ℕ) → RiseTo e a n → a ≤ n
later (Down Fault) a n h = h.0
later (Down Stopped) a n h = h
later e a n h = h

rose-from : (a n last : ℕ) → a ≤ n → Rose n last → Rose a last
rose-from a n last h g = omega arith

rose : (story : List Event) (first last : ℕ) → Downs DiskFault first story last → Rose first last
rose [] first last h = h.1
rose (e ∷ es) first last h = rose-from first h.0 last (later e first h.0 h.1) (rose es h.0 last h.2)

-- A SCRIPT within its size is not too long

not-too-long : (r : Run) (command : Command) (trace : Trace) → r.status ≡ ScriptTooLong → Does command r trace → IsWithin command r.before.source.bytes → ⊥
not-too-long r (Script shape early over_net) trace e d w = go r.before.source.bytes w (subst (λ s. IfSome r.before.source.bytes (λ bytes. AreLinesOf (way_of s).lines bytes r.after.source.bytes d.texts)) e d.lines)
  where
    go : (o : Option (List ℕ)) → IsWithin (Script shape early over_net) o → IfSome o (λ bytes. AreLinesOf LinesWithin bytes r.after.source.bytes d.texts) → ⊥
    go None h g = h
    go (Some script) h g = let over = g.1 in omega arith
not-too-long r (Load calls) trace e d w = subst (λ s. AreLoadLines (way_of s).lines (map Tree (load_lines calls)) (lines_asked trace)) e d.lines

-- FIRST LINES of the command

first-lines : (r : Run) (command : Command) (trace : Trace) → (way_of r.status).lines ≡ FirstLines → Does command r trace → AsksFirst command r.before.source.bytes trace
first-lines r (Script shape early over_net) trace e d = (d.texts, d.asked, go r.before.source.bytes (subst (λ x. IfSome r.before.source.bytes (λ bytes. AreLinesOf x bytes r.after.source.bytes d.texts)) e d.lines))
  where
    go : (o : Option (List ℕ)) → IfSome o (λ bytes. AreLinesOf FirstLines bytes r.after.source.bytes d.texts) → IfSome o (λ bytes. AreLinesOf FirstLines bytes None d.texts)
    go None h = tt
    go (Some script) h = h
first-lines r (Load calls) trace e d = subst (λ x. AreLoadLines x (map Tree (load_lines calls)) (lines_asked trace)) e d.lines

module _ (r : Run) (command : Command) (x : RunsAs r command) (m : MeetsNothing r command) where
  stands : (a : Opening Definition) (s : Status) → a ≡ Stands m.opens.found → EndsRefused a s → ⊥
  stands a s e h = subst (λ o. EndsRefused o s) e h

  finds : FindsNothing r command → ⊥
  finds f = stands f.answer r.status (one_answer (shape_of command) r.before.devices.bytes m.opens.found m.opens.answers f.answer (f.is m.told)) f.ends

  over : FindsNothing r command ⊎ RunsOver r command → RunsOver r command
  over (inl f) = absurd (finds f)
  over (inr o) = o

  may : (o : RunsOver r command) → (way_of r.status).lines ≡ FirstLines → MayTell r command o.trace
  may o e = record { start = o.start; opens = o.opens m.told; tells = o.tells; lines = first-lines r command o.trace e o.does }

  by : (o : RunsOver r command) (s : Status) → r.status ≡ s → (s ≡ Done) ⊎ (s ≡ Memory)
  by o Done e = inl refl
  by o Memory e = inr refl
  by o Usage e = absurd (subst IsNoRefusal e o.may)
  by o Broken e = absurd (subst IsNoRefusal e o.may)
  by o Unread e = absurd (subst IsNoRefusal e o.may)
  by o TranscriptTooLong e = absurd (subst IsNoRefusal e o.may)
  by o ReadFault e = absurd (m.reads (subst (λ s. FailsOnly (ends_reading s) r.before.source r.after.source) e x.source).1)
  by o WriteFault e = absurd (m.writes (subst (λ s. FailsOnly (ends_writing s) r.before.sink r.after.sink) e x.sink).1)
  by o DiskFault e = absurd (m.devices (rose r.story r.before.devices.faults r.after.devices.faults (subst (λ s. Downs s r.before.devices.faults r.story r.after.devices.faults) e x.downs)))
  by o (NotSalt dev) e = absurd (subst IsNoRefusal e o.may)
  by o (DeviceFull dev) e = absurd (m.room o.trace dev (may o (ap (λ s. (way_of s).lines) e)) (o.ends.full dev e (subst IsTrue (sym x.shape.told) m.told)))
  by o (OtherShape kept asked) e = absurd (subst IsNoRefusal e o.may)
  by o ScriptTooLong e = absurd (not-too-long r command o.trace e o.does m.script)
  by o (NumbersSpent boot decisions) e = absurd (m.unspent o.trace boot decisions (may o (ap (λ s. (way_of s).lines) e)) (o.ends.spent boot decisions e))

  pub completes : (r.status ≡ Done) ⊎ (r.status ≡ Memory)
  completes = by (over (x.goes m.told)) r.status refl
