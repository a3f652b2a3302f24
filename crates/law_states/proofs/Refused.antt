-- A line is refused as its state says.
use Rattle.law_states.proofs.LookUps.{program-kept, session-kept}
use Rattle.law_states.proofs.Told.{empty-names, every-found, name_of}
use Rattle.law_states.specs.Keeps.{KeepsUnit, KeepsUnits}
use Rattle.law_states.specs.OpenUnits.{OpenUnit, UnitState, unit_of_program, unit_of_session}
use Rattle.law_states.specs.Refused.{UnderWay, busy_in, held_back_in, known_in, refusal_in, waits, wrong_for, wrong_in}
use Rattle.law_story.proofs.Every.{IfSome}
use Rattle.salt_ast.specs.ProgramJudgement.{line_fault}
use Rattle.salt_ast.specs.declared.lines.Act.{Act}
use Rattle.salt_ast.specs.declared.lines.Act.TheVariants.{Begin, Call, Commit, Do, Rollback, Step}
use Rattle.salt_ast.specs.declared.lines.Line.{Line}
use Rattle.salt_ast.specs.declared.lines.Line.TheVariants.{Crash, Go, Net, Session}
use Rattle.salt_model.specs.Kept.{kept_program, programs_of, schema_of}
use Rattle.salt_model.specs.Locks.{is_holding}
use Rattle.salt_model.specs.Programs.{accepted_in, under_way}
use Rattle.salt_model.specs.Refusals.{defines, has_block, is_base_program, is_busy, is_called, is_covering, is_held_back, is_state_wrong, known_at, refusal, refusal_by, state_wrong}
use Rattle.salt_model.specs.Trace.{Asked, Rejected, Trace, Tree, start_of}
use Rattle.salt_model.specs.Words.{is_empty}
use Rattle.salt_model.specs.declared.events.UnitKind.{UnitKind}
use Rattle.salt_values.specs.declared.cont.Cont.{Cont}
use Rattle.std.proofs.Common.{ap, ◌∙◌}
use Rattle.std.specs.Bool.{then_some}
use Rattle.std.specs.List.{list_any}
use Rattle.std.specs.Option.{option_or, option_map_or}
use Rattle.std.specs.Prelude.{None, Option, Some, false, length, map, not, option_map, refl, ◌&&◌, ◌||◌, ◌≡◌}
use Rattle.salt_model.specs.Units.{is_waiting}
use Rattle.salt_values.specs.declared.id.Id.{Id}
use Rattle.salt_model.specs.declared.events.Refusal.TheVariants as refused

-- what is known beside the units is the trace's
pub record IsUnderWay (trace : Trace) (w : UnderWay) : Type 0 where
  pub count : length (under_way trace) ≡ w.count
  pub holds : list_any (is_holding trace) (accepted_in trace) ≡ w.holds
  pub covers : is_covering trace ≡ w.covers
  pub can_stop : (start_of trace).can_stop ≡ w.can_stop
  pub over_net : (start_of trace).over_net ≡ w.over_net

module _ (s : UnitState) (trace : Trace) (keeps : KeepsUnits s trace) (way : UnderWay) (ways : IsUnderWay trace way) where
  known-told : known_at trace ≡ known_in s way
  known-told = λ i. record {
    schema = schema_of (keeps.kept i);
    catalogue = programs_of (keeps.kept i);
    unfinished = map (λ (c : Cont). c.base) (keeps.kept i).conts;
    unreleased = ways.count i;
  }

  called-told : (o : OpenUnit) → KeepsUnit trace o → is_called trace o.unit ≡ has_block o.kind
  called-told o k = ap (λ (x : Option UnitKind). elim x [ None ↦ false | Some kind ↦ has_block kind ]) k.kind

  act-wrong-told : (act : Act) (o : Option OpenUnit) → IfSome (KeepsUnit trace) o → state_wrong trace (name_of o) act ≡ wrong_for o act
  act-wrong-told Begin (Some o) k = refl
  act-wrong-told (Call p args) (Some o) k = refl
  act-wrong-told (Do st) (Some o) k = λ i. k.waiting i || called-told o k i
  act-wrong-told Step (Some o) k = λ i. k.waiting i || not (called-told o k i)
  act-wrong-told Commit (Some o) k = λ i. k.waiting i || called-told o k i
  act-wrong-told Rollback (Some o) k = refl
  act-wrong-told act None k = refl

  waits-told : (o : Option OpenUnit) → IfSome (KeepsUnit trace) o → option_map_or (is_waiting trace) (name_of o) false ≡ waits o
  waits-told None k = refl
  waits-told (Some o) k = k.waiting

  held-back-told : (act : Act) → is_held_back trace act ≡ held_back_in s way act
  held-back-told (Call n args) = λ i. ways.covers i && is_base_program (kept_program n (keeps.kept i))
  held-back-told act = refl

  wrong-told : (line : Line) → is_state_wrong trace line ≡ wrong_in s way line
  wrong-told (Session t act) =
      ap (λ o. state_wrong trace o act || is_held_back trace act) (session-kept s trace t keeps)
      ∙ (λ i. act-wrong-told act (unit_of_session t s) (every-found (KeepsUnit trace) _ s.units keeps.each) i || held-back-told act i)
  wrong-told (Go b) =
      ap (λ (u : Option Id). option_map_or (is_waiting trace) u false) (program-kept s trace b keeps)
      ∙ waits-told (unit_of_program b s) (every-found (KeepsUnit trace) _ s.units keeps.each)
  wrong-told (Crash pairs) = ap not ways.can_stop
  wrong-told (Net pairs) = ap not ways.over_net
  wrong-told line = refl

  busy-told : is_busy trace ≡ busy_in s way
  busy-told = (λ i. not (is_empty (keeps.units i)) || ways.holds i) ∙ ap (λ b. not b || way.holds) (empty-names s.units)

  -- a line is refused as the state says
  pub refusal-told : (asked : Asked) → refusal trace asked ≡ refusal_in s way asked
  refusal-told (Rejected r) = refl
  refusal-told (Tree line) = λ i.
      option_or (option_map refusal_by (line_fault (known-told i) line))
      (option_or (then_some (wrong-told line i) refused.State) (then_some (defines line && busy-told i) refused.Busy))
