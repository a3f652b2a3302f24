-- A trace has one state of units.
use Rattle.law_states.specs.Keeps.{KeepsUnit, KeepsUnits, waited_for}
use Rattle.law_states.specs.OpenUnits.{OpenUnit, UnitState, counted, names_in}
use Rattle.salt_model.specs.After.{run_of}
use Rattle.salt_model.specs.Trace.{Trace}
use Rattle.salt_model.specs.Turns.{is_statement_line}
use Rattle.salt_model.specs.Units.{done_of, is_waiting, kind_of, line_begun}
use Rattle.salt_model.specs.Words.{Every}
use Rattle.salt_model.specs.declared.events.UnitKind.{UnitKind}
use Rattle.std.proofs.Common.{ap, sym, ◌∙◌}
use Rattle.std.proofs.lemmas.Option.{same_Some}
use Rattle.std.specs.Prelude.{List, [], length, refl, ◌∷◌, ◌≡◌}

one-unit : (trace : Trace) (o p : OpenUnit) → KeepsUnit trace o → KeepsUnit trace p → o.unit ≡ p.unit → o ≡ p
one-unit trace o p k l e =
    let kind : o.kind ≡ p.kind = same_Some {A = UnitKind} o.kind p.kind (sym k.kind ∙ ap (λ u. kind_of u trace) e ∙ l.kind) in
    let single : o.single ≡ p.single = sym k.single ∙ ap (λ u. is_statement_line (line_begun u trace)) e ∙ l.single in
    let waiting : o.waiting ≡ p.waiting = sym k.waiting ∙ ap (is_waiting trace) e ∙ l.waiting in
    let asks : o.asks ≡ p.asks = sym k.asks ∙ ap (λ u. waited_for u trace) e ∙ l.asks in
    let done : o.done ≡ p.done = sym k.done ∙ (λ i. counted (kind i) (length (done_of (e i) trace))) ∙ l.done in
    let vars : o.vars ≡ p.vars = sym k.vars ∙ ap (λ u. (run_of u trace).vars) e ∙ l.vars in
    let changes : o.changes ≡ p.changes = sym k.changes ∙ ap (λ u. (run_of u trace).changes.list) e ∙ l.changes in
    λ i. record {
      unit = e i;
      kind = kind i;
      single = single i;
      waiting = waiting i;
      asks = asks i;
      done = done i;
      vars = vars i;
      changes = changes i;
    }

one-list : (trace : Trace) (os ps : List OpenUnit) → Every (KeepsUnit trace) os → Every (KeepsUnit trace) ps → names_in os ≡ names_in ps → os ≡ ps
one-list trace [] [] k l e = refl
one-list trace [] (p ∷ ps) k l e = cc
one-list trace (o ∷ os) [] k l e = cc
one-list trace (o ∷ os) (p ∷ ps) k l e =
    let first : o.unit ≡ p.unit = cc in
    let rest : names_in os ≡ names_in ps = cc in
    let same = one-unit trace o p k.0 l.0 first in
    let more = one-list trace os ps k.1 l.1 rest in
    λ i. same i ∷ more i

pub one-state : (trace : Trace) (s t : UnitState) → KeepsUnits s trace → KeepsUnits t trace → s ≡ t
one-state trace s t k l =
    let kept = sym k.kept ∙ l.kept in
    let phase = sym k.phase ∙ l.phase in
    let line = sym k.line ∙ l.line in
    let to_go = sym k.to_go ∙ l.to_go in
    let early = sym k.early ∙ l.early in
    let named = sym k.named ∙ l.named in
    let owes = sym k.owes ∙ l.owes in
    let units = one-list trace s.units t.units k.each l.each (sym k.units ∙ l.units) in
    let unit_count = sym k.unit_count ∙ l.unit_count in
    let base_count = sym k.base_count ∙ l.base_count in
    λ i. record {
      kept = kept i;
      phase = phase i;
      line = line i;
      to_go = to_go i;
      early = early i;
      named = named i;
      owes = owes i;
      units = units i;
      unit_count = unit_count i;
      base_count = base_count i;
    }
