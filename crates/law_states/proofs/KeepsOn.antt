-- The state after an event is that of the trace with it.
use Rattle.law_states.proofs.Alike.{keeps-other}
use Rattle.law_states.proofs.KeptAfter.{kept-says}
use Rattle.law_states.proofs.OneUnit.{keeps-began, keeps-did, keeps-waits}
use Rattle.law_states.proofs.Told.{next-to-go-told}
use Rattle.law_states.proofs.UnitLists.{begun-named, every-change, every-kept, every-pair, every-unmapped, filter-both, filter-same, map-filter, names-change}
use Rattle.law_states.specs.Keeps.{KeepsUnit, KeepsUnits}
use Rattle.law_states.specs.OpenUnits.{OpenUnit, UnitState, names_in}
use Rattle.law_states.specs.Steps.{begun, doing_one, to_go_by, units_after, units_asked, units_at, units_of, units_turned, waiting_by}
use Rattle.law_story.proofs.Coming.{Good}
use Rattle.law_story.proofs.Every.{every-append, every-map, every-passes}
use Rattle.law_story.proofs.Ids.{is_same_id-refl, is_same_id-true}
use Rattle.law_story.proofs.NextFits.{Fits}
use Rattle.law_story.proofs.Opens.{Open}
use Rattle.law_story.proofs.Replays.{Inv, did-run, good-event, quiet, replays}
use Rattle.law_story.proofs.Sound.{Sound, not-fresh, open-named}
use Rattle.law_story.proofs.Upheld.{holds, may-fit}
use Rattle.law_story.proofs.WellKept.{of-start}
use Rattle.law_story.specs.Names.{is_named}
use Rattle.salt_ast.specs.declared.lines.Line.TheVariants.{GoAll}
use Rattle.salt_model.specs.After.{kept}
use Rattle.salt_model.specs.Kept.{Kept, WellKept}
use Rattle.salt_model.specs.Phases.{phase}
use Rattle.salt_model.specs.Played.{IsPlayed}
use Rattle.salt_model.specs.Programs.{named_early}
use Rattle.salt_model.specs.Segments.{May}
use Rattle.salt_model.specs.Trace.{Asked, Start, Trace, Tree, from, line_of, start_of, ◌asks◌, ◌says◌, ◌turns◌}
use Rattle.salt_model.specs.Turns.{ids_after, owes_turn, still_to_go}
use Rattle.salt_model.specs.Units.{Over, Running, Waiting, base_count, is_open, is_open_standing, open_units, program_begun, standing, unit_count, units_begun}
use Rattle.salt_model.specs.Words.{Every}
use Rattle.salt_model.specs.declared.events.Event.{Event}
use Rattle.salt_model.specs.declared.events.Event.TheVariants.{Began, Did, Down, Early, Ended, Opened, Ready, Refused, Waits}
use Rattle.salt_values.specs.Id.{in_order, is_same_id}
use Rattle.salt_values.specs.declared.cont.Cont.{Cont}
use Rattle.salt_values.specs.declared.id.Id.{Id}
use Rattle.std.proofs.Common.{ap, subst, sym, ◌∙◌}
use Rattle.std.proofs.lemmas.List.{map-append}
use Rattle.std.proofs.lemmas.List.Elements.{filter-append}
use Rattle.std.specs.List.{filter}
use Rattle.std.specs.Prelude.{Bool, List, [], cond, false, is_some, map, not, refl, true, ⊤, ◌&&◌, ◌++◌, ◌+◌, ◌∷◌, ◌≡◌}

-- a unit that begins has a new name
abbrev Fresh : Trace → Event → Type 0
Fresh trace (Began u kind) = (v : Id) → is_named v trace ≡ true → is_same_id v u ≡ false
Fresh trace e = ⊤

fresh-fits : (trace : Trace) (e : Event) → Sound trace → Fits trace e → Fresh trace e
fresh-fits trace (Began u kind) s f = λ v h. subst (λ w. is_same_id v w ≡ false) (sym f.0) (not-fresh trace v s f.1 h)
fresh-fits trace e s f = tt

-- the open units after an event

same-open : (trace : Trace) (u v : Id) → Open trace u → is_open_standing (cond (is_same_id v u) Running (standing v trace)) ≡ is_open trace v
same-open trace u v o = by (is_same_id v u) refl
  where
    by : (b : Bool) → is_same_id v u ≡ b → is_open_standing (cond b Running (standing v trace)) ≡ is_open trace v
    by true e = sym (subst (λ w. is_open trace w ≡ true) (sym (is_same_id-true v u e)) o)
    by false e = refl

same-waits : (trace : Trace) (u v : Id) → Open trace u → is_open_standing (cond (is_same_id v u) Waiting (standing v trace)) ≡ is_open trace v
same-waits trace u v o = by (is_same_id v u) refl
  where
    by : (b : Bool) → is_same_id v u ≡ b → is_open_standing (cond b Waiting (standing v trace)) ≡ is_open trace v
    by true e = sym (subst (λ w. is_open trace w ≡ true) (sym (is_same_id-true v u e)) o)
    by false e = refl

open-began : (trace : Trace) (e : Event) → Fresh trace e → Good trace e → (s : UnitState) → open_units trace ≡ names_in s.units →
    open_units (trace says e) ≡ names_in (units_after e s).units
open-began trace (Began u kind) fresh good s h =
    filter-append (is_open (trace says Began u kind)) (units_begun trace) (u ∷ [])
    ∙ (λ i. before i ++ last i)
    ∙ sym (map-append (λ (o : OpenUnit). o.unit) s.units (begun s u kind ∷ []))
  where
    before : filter (is_open (trace says Began u kind)) (units_begun trace) ≡ names_in s.units
    before =
        filter-same (is_open (trace says Began u kind)) (is_open trace) (units_begun trace) (λ v i. rw (fresh v (begun-named trace v i)) refl) ∙ h

    last : filter (is_open (trace says Began u kind)) (u ∷ []) ≡ u ∷ []
    last = rw (is_same_id-refl u) refl
open-began trace (Did u st a) fresh good s h =
    filter-same (is_open (trace says Did u st a)) (is_open trace) (units_begun trace) (λ v i. same-open trace u v good.0) ∙ h ∙ sym (names-change u (doing_one s.kept st) (λ o. refl) s.units)
open-began trace (Waits u owners) fresh good s h =
    filter-same (is_open (trace says Waits u owners)) (is_open trace) (units_begun trace) (λ v i. same-waits trace u v good) ∙ h ∙ sym (names-change u (waiting_by s.line) (λ o. refl) s.units)
open-began trace (Ended u end) fresh good s h =
    filter-both (is_open trace) (λ v. not (is_same_id v u)) (is_open (trace says Ended u end)) (λ v. by v (is_same_id v u)) (units_begun trace)
    ∙ ap (filter (λ v. not (is_same_id v u))) h
    ∙ sym (map-filter (λ (o : OpenUnit). o.unit) (λ v. not (is_same_id v u)) s.units)
  where
    by : (v : Id) (b : Bool) → is_open_standing (cond b (Over end) (standing v trace)) ≡ (not b && is_open trace v)
    by v true = refl
    by v false = refl
open-began trace e fresh good s h = h

-- each open unit after an event

abbrev IsKept : Trace → OpenUnit → Type 0
IsKept trace o = KeepsUnit trace o × Open trace o.unit

each-kept : (s : UnitState) (trace : Trace) → KeepsUnits s trace → Every (IsKept trace) s.units
each-kept s trace keeps =
    every-pair (KeepsUnit trace) (λ o. Open trace o.unit) s.units keeps.each
    (every-unmapped (Open trace) (λ (o : OpenUnit). o.unit) s.units (subst (Every (Open trace)) keeps.units (every-passes (is_open trace) (units_begun trace))))

each-says : (s : UnitState) (trace : Trace) (e : Event) → Inv trace → Good trace e → May trace e → Fresh trace e → KeepsUnits s trace →
    Every (IsKept trace) s.units → Every (KeepsUnit (trace says e)) (units_after e s).units
each-says s trace (Began u kind) inv good m fresh keeps each =
    every-append (KeepsUnit (trace says Began u kind)) s.units (begun s u kind ∷ [])
    (every-map (IsKept trace) (KeepsUnit (trace says Began u kind)) (λ o k. keeps-other trace (Began u kind) o inv.base good k.1 (fresh o.unit (open-named trace o.unit k.1)) k.0) s.units each)
    (keeps-began trace s u kind keeps.kept keeps.line, tt)
each-says s trace (Did u st a) inv good m fresh keeps each =
    every-change (IsKept trace) (KeepsUnit (trace says Did u st a)) u (doing_one s.kept st) own (λ o other k. keeps-other trace (Did u st a) o inv.base good k.1 other k.0) s.units each
  where
    own : (o : OpenUnit) → is_same_id o.unit u ≡ true → IsKept trace o → KeepsUnit (trace says Did u st a) (doing_one s.kept st o)
    own o same k =
        subst (λ v. KeepsUnit (trace says Did v st a) (doing_one s.kept st o)) (is_same_id-true o.unit u same)
        (keeps-did trace s.kept o st a keeps.kept k.0 (did-run trace o.unit st a inv.base (quiet trace (Did u st a) inv m o.unit k.1 (rw same refl) refl) k.1))
each-says s trace (Waits u owners) inv good m fresh keeps each =
    every-change (IsKept trace) (KeepsUnit (trace says Waits u owners)) u (waiting_by s.line) own (λ o other k. keeps-other trace (Waits u owners) o inv.base good k.1 other k.0) s.units each
  where
    own : (o : OpenUnit) → is_same_id o.unit u ≡ true → IsKept trace o → KeepsUnit (trace says Waits u owners) (waiting_by s.line o)
    own o same k =
        subst (λ v. KeepsUnit (trace says Waits v owners) (waiting_by s.line o)) (is_same_id-true o.unit u same)
        (keeps-waits trace s.line o owners keeps.line k.0)
each-says s trace (Ended u end) inv good m fresh keeps each =
    every-kept (IsKept trace) (KeepsUnit (trace says Ended u end)) (λ (o : OpenUnit). not (is_same_id o.unit u)) (λ o other k. keeps-other trace (Ended u end) o inv.base good k.1 (un (is_same_id o.unit u) other) k.0) s.units each
  where
    un : (b : Bool) → not b ≡ true → b ≡ false
    un true h = cc
    un false h = refl
each-says s trace e inv good m fresh keeps each =
    every-map (IsKept trace) (KeepsUnit (trace says e)) (λ o k. keeps-other trace e o inv.base good k.1 refl k.0) s.units each

count-says : (s : UnitState) (trace : Trace) (e : Event) → unit_count trace ≡ s.unit_count → unit_count (trace says e) ≡ (units_after e s).unit_count
count-says s trace (Began u kind) h = ap (λ n. n + 1) h
count-says s trace (Opened boot n) h = refl
count-says s trace e h = h

bases-says : (s : UnitState) (trace : Trace) (e : Event) → base_count trace ≡ s.base_count → base_count (trace says e) ≡ (units_after e s).base_count
bases-says s trace (Began u kind) h = ap (λ n. cond (is_some (program_begun kind)) (n + 1) n) h
bases-says s trace (Opened boot n) h = refl
bases-says s trace e h = h

line-says : (s : UnitState) (trace : Trace) (e : Event) → line_of trace ≡ s.line → line_of (trace says e) ≡ (units_after e s).line
line-says s trace (Opened boot n) h = h
line-says s trace e h = h

phase-says : (s : UnitState) (trace : Trace) (e : Event) → phase trace ≡ s.phase → phase (trace says e) ≡ (units_after e s).phase
phase-says s trace (Down why) h = refl
phase-says s trace (Opened boot n) h = refl
phase-says s trace Ready h = refl
phase-says s trace (Early bs) h = refl
phase-says s trace e h = h

to-go-says : (s : UnitState) (trace : Trace) (e : Event) → still_to_go trace ≡ s.to_go → still_to_go (trace says e) ≡ (units_after e s).to_go
to-go-says s trace (Down why) h = refl
to-go-says s trace e h = h

early-says : (s : UnitState) (trace : Trace) (e : Event) → (start_of trace).early ≡ s.early → (start_of trace).early ≡ (units_after e s).early
early-says s trace (Opened boot n) h = h
early-says s trace e h = h

named-says : (s : UnitState) (trace : Trace) (e : Event) → named_early trace ≡ s.named → named_early (trace says e) ≡ (units_after e s).named
named-says s trace (Early bs) h = refl
named-says s trace e h = h

owes-says : (s : UnitState) (trace : Trace) (e : Event) → owes_turn trace ≡ s.owes → owes_turn (trace says e) ≡ (units_after e s).owes
owes-says s trace (Down why) h = refl
owes-says s trace (Refused r) h = refl
owes-says s trace e h = h

to-go-asks : (trace : Trace) (asked : Asked) (k : Kept) → kept trace ≡ k → still_to_go (trace asks asked) ≡ to_go_by asked k
to-go-asks trace (Tree GoAll) k h = ap (λ (x : Kept). in_order (map (λ (c : Cont). c.base) x.conts)) h
to-go-asks trace asked k h = refl

-- after an event of a played trace
pub keeps-says : (s : UnitState) (trace : Trace) (e : Event) → KeepsUnits s trace → IsPlayed (trace says e) → WellKept (start_of trace).kept →
    KeepsUnits (units_after e s) (trace says e)
keeps-says s trace e keeps p w =
    let inv = replays trace p.0 in
    let good = good-event trace e inv p.1 in
    let held = holds trace p.0 (of-start (start_of trace).kept w) in
    let fresh = fresh-fits trace e held.sound (may-fit trace e held.comes p.1) in
    record {
      kept = kept-says s trace e inv.base good keeps;
      phase = phase-says s trace e keeps.phase;
      line = line-says s trace e keeps.line;
      to_go = to-go-says s trace e keeps.to_go;
      early = early-says s trace e keeps.early;
      named = named-says s trace e keeps.named;
      owes = owes-says s trace e keeps.owes;
      units = open-began trace e fresh good s keeps.units;
      each = each-says s trace e inv good p.1 fresh keeps (each-kept s trace keeps);
      unit_count = count-says s trace e keeps.unit_count;
      base_count = bases-says s trace e keeps.base_count;
    }

same-units : (trace now : Trace) → ((o : OpenUnit) → KeepsUnit trace o → KeepsUnit now o) → (os : List OpenUnit) → Every (KeepsUnit trace) os →
    Every (KeepsUnit now) os
same-units trace now f os h = every-map (KeepsUnit trace) (KeepsUnit now) f os h

-- a line changes no more than the line
pub keeps-asks : (s : UnitState) (trace : Trace) (asked : Asked) → KeepsUnits s trace → KeepsUnits (units_asked asked s) (trace asks asked)
keeps-asks s trace asked keeps = record {
  kept = keeps.kept;
  phase = keeps.phase;
  line = refl;
  to_go = to-go-asks trace asked s.kept keeps.kept;
  early = keeps.early;
  named = keeps.named;
  owes = refl;
  units = keeps.units;
  each = same-units trace (trace asks asked) (λ o k. record { kind = k.kind; single = k.single; waiting = k.waiting; asks = k.asks; done = k.done; vars = k.vars; changes = k.changes }) s.units keeps.each;
  unit_count = keeps.unit_count;
  base_count = keeps.base_count;
}

pub keeps-turns : (s : UnitState) (trace : Trace) (b : Id) → KeepsUnits s trace → KeepsUnits (units_turned b s) (trace turns b)
keeps-turns s trace b keeps = record {
  kept = keeps.kept;
  phase = keeps.phase;
  line = keeps.line;
  to_go = ap (ids_after b) keeps.to_go;
  early = keeps.early;
  named = keeps.named;
  owes = λ i. keeps.owes i && is_some (next-to-go-told s trace keeps i);
  units = keeps.units;
  each = same-units trace (trace turns b) (λ o k. record { kind = k.kind; single = k.single; waiting = k.waiting; asks = k.asks; done = k.done; vars = k.vars; changes = k.changes }) s.units keeps.each;
  unit_count = keeps.unit_count;
  base_count = keeps.base_count;
}

pub keeps-start : (k : Start) → KeepsUnits (units_at k.kept k.early) (from k)
keeps-start k = record { kept = refl; phase = refl; line = refl; to_go = refl; early = refl; named = refl; owes = refl; units = refl; each = tt; unit_count = refl; base_count = refl }

-- the state that goes along with a trace keeps what is the trace's
pub state-kept : (trace : Trace) → IsPlayed trace → WellKept (start_of trace).kept → KeepsUnits (units_of trace) trace
state-kept (from k) p w = keeps-start k
state-kept (trace asks asked) p w = keeps-asks (units_of trace) trace asked (state-kept trace p.0 w)
state-kept (trace turns b) p w = keeps-turns (units_of trace) trace b (state-kept trace p.0 w)
state-kept (trace says e) p w = keeps-says (units_of trace) trace e (state-kept trace p.0 w) p w
