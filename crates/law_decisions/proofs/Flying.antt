-- A decision in flight leaves behind its Opened what it would have left before.
use Rattle.law_states.specs.OpenUnits.{OpenUnit, UnitState, unit_named}
use Rattle.law_states.specs.Steps.{kept_ended, units_after}
use Rattle.salt_model.specs.Kept.{Kept, conts_branched, conts_committed}
use Rattle.salt_model.specs.Next.{is_decision}
use Rattle.salt_model.specs.declared.events.End.TheVariants.{Branched, Committed}
use Rattle.salt_model.specs.declared.events.End.{End}
use Rattle.salt_model.specs.declared.events.Event.TheVariants.{Defined, Down, Ended, Opened}
use Rattle.salt_model.specs.declared.events.Event.{Event}
use Rattle.salt_model.specs.declared.events.UnitKind.TheVariants.{Acid, Call, First, Later}
use Rattle.salt_model.specs.declared.events.UnitKind.{UnitKind}
use Rattle.salt_model.specs.declared.events.Why.{Why}
use Rattle.salt_model.specs.declared.vars.Binding.{Binding}
use Rattle.salt_values.specs.declared.id.Id.{Id}
use Rattle.std.specs.Prelude.{List, None, Option, Some, refl, true, ℕ, ◌≡◌}

abbrev under_boot : ℕ → Kept → Kept
under_boot boot k = record k { boot = boot }

committed-conts : (k : Kept) (boot n : ℕ) (kind : UnitKind) (vars : List Binding) → conts_committed (under_boot boot k) n kind vars ≡ conts_committed k n kind vars
committed-conts k boot n (Acid s) vars = refl
committed-conts k boot n (Call s name args) vars = refl
committed-conts k boot n (First s b name args) vars = refl
committed-conts k boot n (Later b part) vars = refl

branched-conts : (k : Kept) (boot : ℕ) (kind : UnitKind) → conts_branched (under_boot boot k) kind ≡ conts_branched k kind
branched-conts k boot (Acid s) = refl
branched-conts k boot (Call s name args) = refl
branched-conts k boot (First s b name args) = refl
branched-conts k boot (Later b part) = refl

ended-same : (k : Kept) (boot : ℕ) (u : Id) (end : End) (o : Option OpenUnit) → is_decision (Ended u end) ≡ true →
    kept_ended (under_boot boot k) end o ≡ under_boot boot (kept_ended k end o)
ended-same k boot u (Committed n) None d = refl
ended-same k boot u (Committed n) (Some o) d = λ i. record (under_boot boot (kept_ended k (Committed n) (Some o))) { conts = committed-conts k boot n o.kind o.vars i }
ended-same k boot u (Branched n c) None d = refl
ended-same k boot u (Branched n c) (Some o) d = λ i. record (under_boot boot (kept_ended k (Branched n c) (Some o))) { conts = branched-conts k boot o.kind i }
ended-same k boot u end o d = cc

pub opened-same : (s : UnitState) (e : Event) (boot n : ℕ) → is_decision e ≡ true →
    (units_after e (units_after (Opened boot n) s)).kept ≡ under_boot boot (units_after e s).kept
opened-same s (Defined m text) boot n d = refl
opened-same s (Ended u end) boot n d = ended-same s.kept boot u end (unit_named u s.units) d
opened-same s e boot n d = cc

pub fallen-same : (s : UnitState) (e : Event) (why : Why) → is_decision e ≡ true → (units_after e (units_after (Down why) s)).kept ≡ (units_after e s).kept
fallen-same s (Defined m text) why d = refl
fallen-same s (Ended u end) why d = refl
fallen-same s e why d = cc
