-- A state that knows a trace judges an event as the trace does.
use Rattle.salt_ast.specs.ProgramJudgement.{line_fault}
use Rattle.salt_ast.specs.declared.trees.Statement.{Statement}
use Rattle.salt_audit.specs.Formed.{is_first_opening, is_formed_by, may_begin, may_come, may_define, may_do}
use Rattle.salt_audit.proofs.Stands.{next_named, next_there, stand_in}
use Rattle.salt_audit.specs.Knowing.{Knows, Stand, TellsUnit}
use Rattle.salt_audit.specs.Standing.{begun_in, fits_kind, fits_unit, is_formed_at, is_open_unit, may_begin_by, may_come_by, may_define_by, may_do_by, next_due, next_of}
use Rattle.salt_audit.specs.declared.state.Begun.{Begun}
use Rattle.salt_audit.specs.declared.state.State.{State}
use Rattle.law_definitions.specs.Texts.{definition_in}
use Rattle.salt_events.specs.Definitions as of
use Rattle.salt_model.specs.After.{kept}
use Rattle.salt_model.specs.Continuing.{part_due}
use Rattle.salt_model.specs.Kept.{Definition, OfProgram, OfTable}
use Rattle.salt_model.specs.Trace.{Trace}
use Rattle.salt_model.specs.Units.{is_open, kind_of}
use Rattle.salt_model.specs.declared.events.Event.TheVariants as event
use Rattle.salt_model.specs.declared.events.Event.{Event}
use Rattle.salt_model.specs.declared.events.UnitKind.TheVariants.{Acid, Call, First, Later}
use Rattle.salt_model.specs.declared.events.UnitKind.{UnitKind}
use Rattle.salt_values.specs.Id.{has_id}
use Rattle.salt_values.specs.declared.id.Id.{Id}
use Rattle.std.proofs.Common.{Bool, None, Option, Some, ap, false, if◌then◌else◌, is_none, option_map, refl, sym, true, ◌&&◌, ◌∙◌, ◌≡◌}
use Rattle.std.specs.List.{list_all}

module _ (s : State) (trace : Trace) (k : Knows s trace) where
  pub due : (b : Id) → part_due trace b ≡ next_due b s.conts
  due b =
      next_there b (kept trace).conts ∙ ap (λ l. option_map (λ (d : Stand). d.next) (stand_in b l)) k.conts ∙ sym (next_named b s.conts)

  kinds : (kind : UnitKind) → may_begin_by s kind ≡ may_begin trace kind
  kinds (Acid n) = refl
  kinds (Call n name args) = rw k.programs refl
  kinds (First n b name args) = rw k.programs (rw k.bases refl)
  kinds (Later b part) = rw k.accepted (rw k.finished (rw (due b) refl))

  fresh : (u : Id) (o : Option Begun) → TellsUnit trace u o → is_none o ≡ is_none (kind_of u trace)
  fresh u None t = rw t.there refl
  fresh u (Some n) t = rw t.kind refl

  opens : (u : Id) (o : Option Begun) → TellsUnit trace u o → is_open_unit o ≡ is_open trace u
  opens u None t = sym t.standing
  opens u (Some n) t = sym t.standing

  by_kind : (u : Id) (st : Statement) (n : Begun) → TellsUnit trace u (Some n) → is_open trace u ≡ true → (kind : UnitKind) →
      fits_kind s st (next_of n) kind ≡ may_do trace u st (Some kind)
  by_kind u st n t runs (Acid m) = rw k.schema refl
  by_kind u st n t runs (Call m name args) = rw (t.block runs) (rw t.done refl)
  by_kind u st n t runs (First m b name args) = rw (t.block runs) (rw t.done refl)
  by_kind u st n t runs (Later b part) = rw (t.block runs) (rw t.done refl)

  fits : (u : Id) (st : Statement) (n : Begun) → TellsUnit trace u (Some n) → is_open trace u ≡ true → fits_unit s st n ≡ may_do trace u st (kind_of u trace)
  fits u st n t runs = by_kind u st n t runs n.kind ∙ sym (ap (may_do trace u st) t.kind)

  open_fits : (u : Id) (st : Statement) (n : Begun) → TellsUnit trace u (Some n) → (runs : Bool) → is_open trace u ≡ runs →
      (runs && fits_unit s st n) ≡ (runs && may_do trace u st (kind_of u trace))
  open_fits u st n t true is = fits u st n t is
  open_fits u st n t false over = refl

  does : (u : Id) (st : Statement) (o : Option Begun) → TellsUnit trace u o → may_do_by s st o ≡ (is_open trace u && may_do trace u st (kind_of u trace))
  does u st None t = rw t.standing refl
  does u st (Some n) t = rw t.standing (open_fits u st n t n.is_open t.standing)

  defines : (o : Option Definition) → may_define_by s (option_map of.line_defining o) ≡ may_define trace o
  unfolding line_fault
  defines None = refl
  defines (Some (OfTable d)) = rw k.schema refl
  defines (Some (OfProgram p)) = rw k.schema (rw k.programs refl)

  comes : (e : Event) → may_come_by s e ≡ may_come trace e
  comes (event.Began u kind) =
      ap (λ t. t && may_begin_by s kind) (fresh u (begun_in u s.units) (k.units u)) ∙ ap (λ t. is_none (kind_of u trace) && t) (kinds kind)
  comes (event.Did u st a) = does u st (begun_in u s.units) (k.units u)
  comes (event.Waits u owners) = opens u (begun_in u s.units) (k.units u)
  comes (event.Ended u end) = opens u (begun_in u s.units) (k.units u)
  comes (event.Accepted b) = rw k.bases refl
  comes (event.Finished b) = rw k.bases refl
  comes (event.Released bs) = ap (λ ids. list_all (λ b. has_id b ids) bs) (sym k.bases)
  comes (event.Early bs) = ap (λ ids. list_all (λ b. has_id b ids) bs) (sym k.bases)
  comes (event.Defined n text) = defines (definition_in text)
  comes (event.Down w) = refl
  comes (event.Opened boot n) = refl
  comes event.Ready = refl
  comes (event.Refused r) = refl
  comes (event.Armed pairs) = refl
  comes (event.Shown items) = refl

  pub judging : (e : Event) → is_formed_at s e ≡ is_formed_by trace e
  judging e = rw k.opened (ap (λ t. if s.opened then t else is_first_opening e) (comes e))
