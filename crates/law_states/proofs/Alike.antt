-- A unit that an event is not of is as it was.
use Rattle.law_states.specs.Keeps.{KeepsUnit, waited_for}
use Rattle.law_states.specs.OpenUnits.{OpenUnit, counted}
use Rattle.law_story.proofs.Coming.{Good}
use Rattle.law_story.proofs.Opens.{Open}
use Rattle.law_story.proofs.Replays.{Ground, others}
use Rattle.law_story.specs.Names.{is_unit_of}
use Rattle.salt_model.specs.Trace.{Trace, ◌says◌}
use Rattle.salt_model.specs.Turns.{is_statement_line}
use Rattle.salt_model.specs.Units.{done_of, is_waiting, kind_of, line_begun}
use Rattle.salt_model.specs.declared.events.Event.{Event}
use Rattle.salt_model.specs.declared.events.Event.TheVariants.{Began, Did, Ended, Waits}
use Rattle.salt_values.specs.declared.id.Id.{Id}
use Rattle.std.proofs.Common.{ap, ◌∙◌}
use Rattle.std.specs.Prelude.{false, length, refl, ◌≡◌}

pub record Alike (trace : Trace) (e : Event) (u : Id) : Type 0 where
  pub kind : kind_of u (trace says e) ≡ kind_of u trace
  pub begun : line_begun u (trace says e) ≡ line_begun u trace
  pub waiting : is_waiting (trace says e) u ≡ is_waiting trace u
  pub asks : waited_for u (trace says e) ≡ waited_for u trace
  pub done : done_of u (trace says e) ≡ done_of u trace

pub alike : (trace : Trace) (e : Event) (u : Id) → is_unit_of u e ≡ false → Alike trace e u
alike trace (Began v kind) u h = record { kind = rw h refl; begun = rw h refl; waiting = rw h refl; asks = rw h refl; done = rw h refl }
alike trace (Did v st answer) u h = record { kind = refl; begun = refl; waiting = rw h refl; asks = rw h refl; done = rw h refl }
alike trace (Waits v owners) u h = record { kind = refl; begun = refl; waiting = rw h refl; asks = rw h refl; done = refl }
alike trace (Ended v end) u h = record { kind = refl; begun = refl; waiting = rw h refl; asks = rw h refl; done = refl }
alike trace e u h = record { kind = refl; begun = refl; waiting = refl; asks = refl; done = refl }

pub keeps-other : (trace : Trace) (e : Event) (o : OpenUnit) → Ground trace → Good trace e → Open trace o.unit → is_unit_of o.unit e ≡ false →
    KeepsUnit trace o → KeepsUnit (trace says e) o
keeps-other trace e o ground good open_before other k =
    let a = alike trace e o.unit other in
    let run = others trace e o.unit ground good open_before other in
    record {
      kind = a.kind ∙ k.kind;
      single = ap is_statement_line a.begun ∙ k.single;
      waiting = a.waiting ∙ k.waiting;
      asks = a.asks ∙ k.asks;
      done = ap (λ sts. counted o.kind (length sts)) a.done ∙ k.done;
      vars = ap (λ r. r.vars) run.1 ∙ k.vars;
      changes = ap (λ r. r.changes.list) run.1 ∙ k.changes;
    }
