-- A run that has fallen: what is left, and what is in flight, stay.
use Rattle.salt_engine.proofs.Decided.{named-own}
use Rattle.salt_engine.specs.Flights.{IsInFlight}
use Rattle.salt_model.specs.Ends.{raised}
use Rattle.salt_engine.specs.Stored.{IsLeft, MayBeOther, kept_behind}
use Rattle.salt_engine.specs.declared.flights.InFlight.{InFlight}
use Rattle.salt_engine.specs.declared.flights.InFlight.TheVariants as asked
use Rattle.law_states.specs.Laws.{IsSound}
use Rattle.law_states.specs.OpenUnits.{OpenUnit, UnitState, unit_named}
use Rattle.law_states.specs.Points.{KeepsPoint, Point}
use Rattle.law_states.specs.Steps.{kept_ended, units_after}
use Rattle.law_states.specs.Told.{commits_in, next_decision_number}
use Rattle.law_states.specs.UnitFacts.{facts_in}
use Rattle.salt_model.specs.Kept.{Kept}
use Rattle.salt_model.specs.Next.{is_decision, next}
use Rattle.salt_model.specs.Phases.{Fallen, downs}
use Rattle.salt_model.specs.Trace.{Trace, ◌says◌}
use Rattle.salt_model.specs.declared.events.Cause.{Cause}
use Rattle.salt_model.specs.declared.events.End.TheVariants.{Branched, Committed}
use Rattle.salt_model.specs.declared.events.Event.{Event}
use Rattle.salt_model.specs.declared.events.Event.TheVariants.{Down, Ended}
use Rattle.salt_model.specs.declared.events.Why.{Why}
use Rattle.salt_model.specs.declared.events.Why.TheVariants.{Stopped}
use Rattle.law_openings.proofs.Opening.{falls-again, none-to-go}
use Rattle.law_openings.specs.Openings.{FallsAgain}
use Rattle.law_decisions.proofs.Flying.{fallen-same}
use Rattle.law_decisions.proofs.Owning.{fallen-none}
use Rattle.salt_driver.proofs.Owing.{owes-none}
use Rattle.salt_driver.specs.Opening.{IsFallenFrom}
use Rattle.salt_values.specs.declared.id.Id.{Id}
use Rattle.salt_conflicts.proofs.Others.{others}
use Rattle.std.proofs.Common.{ap, arith, inl, inr, sym, ◌∙◌}
use Rattle.std.specs.Prelude.{None, Option, Some, refl, suc, true, zero, ℕ, ◌+◌, ◌≡◌, ◌⊎◌}

-- WHAT IS IN FLIGHT is a decision: it counts one, and leaves the boot.

pub record IsCounted (s : UnitState) (e : Event) : Type 0 where
  pub decides : is_decision e ≡ true
  pub boot : (units_after e s).kept.boot ≡ s.kept.boot
  pub decisions : (units_after e s).kept.decisions ≡ s.kept.decisions + 1

commit-counts : (s : UnitState) (o : OpenUnit) → unit_named o.unit s.units ≡ Some o → IsCounted s (commits_in s o)
commit-counts s o named = record {
  decides = refl;
  boot = ap (λ (q : Option OpenUnit). (kept_ended s.kept (Committed (next_decision_number s)) q).boot) named;
  decisions = ap (λ (q : Option OpenUnit). (kept_ended s.kept (Committed (next_decision_number s)) q).decisions) named;
}

branch-counts : (s : UnitState) (o : OpenUnit) (u : Id) (cause : Cause) → unit_named u s.units ≡ Some o → IsCounted s (Ended u (Branched (next_decision_number s) cause))
branch-counts s o u cause named = record {
  decides = refl;
  boot = ap (λ (q : Option OpenUnit). (kept_ended s.kept (Branched (next_decision_number s) cause) q).boot) named;
  decisions = ap (λ (q : Option OpenUnit). (kept_ended s.kept (Branched (next_decision_number s) cause) q).decisions) named;
}

-- nothing is, or it counts
pub counts : (i : Option InFlight) (f : Option Event) (s : UnitState) → IsInFlight i f s → (f ≡ None) ⊎ ((e : Event) × (f ≡ Some e) × IsCounted s e)
counts None f s h = inl h
counts (Some (asked.Commit u)) f s h = inr (commits_in s h.0, h.2, commit-counts s h.0 (named-own u s.units h.0 h.1))
counts (Some (asked.Branch u b cause)) f s h = inr (_, h.1, branch-counts s h.0.unit u cause h.0.named)
counts (Some (asked.Table d text)) f s h = inr (_, h.2, record { decides = refl; boot = refl; decisions = refl })
counts (Some (asked.Program p text)) f s h = inr (_, h.2, record { decides = refl; boot = refl; decisions = refl })

-- BEHIND A DOWN

pub flies-fallen : (i : Option InFlight) (f : Option Event) (why : Why) (s : UnitState) → IsInFlight i f s → IsInFlight i f (units_after (Down why) s)
flies-fallen None f why s h = h
flies-fallen (Some (asked.Commit u)) f why s h = h
flies-fallen (Some (asked.Branch u b cause)) f why s h = (record { unit = h.0.unit; part = h.0.part; named = h.0.named; kind = h.0.kind }, h.1)
flies-fallen (Some (asked.Table d text)) f why s h = (record { line = h.0.line; allowed = h.0.allowed }, h.1, h.2)
flies-fallen (Some (asked.Program p text)) f why s h = (record { line = h.0.line; allowed = h.0.allowed; few = h.0.few }, h.1, h.2)

pub behind-fallen : (i : Option InFlight) (f : Option Event) (why : Why) (s : UnitState) → IsInFlight i f s → kept_behind f (units_after (Down why) s) ≡ kept_behind f s
behind-fallen i f why s h = by (counts i f s h)
  where
    by : (f ≡ None) ⊎ ((e : Event) × (f ≡ Some e) × IsCounted s e) → kept_behind f (units_after (Down why) s) ≡ kept_behind f s
    by (inl none) = ap (λ (g : Option Event). kept_behind g (units_after (Down why) s)) none ∙ sym (ap (λ (g : Option Event). kept_behind g s) none)
    by (inr c) =
        ap (λ (g : Option Event). kept_behind g (units_after (Down why) s)) c.1 ∙ fallen-same s c.0 why c.2.decides
        ∙ sym (ap (λ (g : Option Event). kept_behind g s) c.1)

pub left-fallen : (doubt : Type 0) (i : Option InFlight) (room : ℕ) (p q : Point) (k : Kept) → IsInFlight i p.flight p.state.units → IsFallenFrom p q → IsLeft doubt room p k → IsLeft doubt room q k
left-fallen doubt i room p q k flies fell left = record { boots = left.boots; most = left.most; is = by left.is }
  where
    kept : q.state.units.kept ≡ p.state.units.kept
    kept = ap (λ (s : UnitState). s.kept) fell.after.units

    behind : kept_behind q.flight q.state.units ≡ kept_behind p.flight p.state.units
    behind = (λ j. kept_behind (fell.flight j) (fell.after.units j)) ∙ behind-fallen i p.flight fell.why p.state.units flies

    by : MayBeOther doubt (raised left.boots p.state.units.kept) (raised left.boots (kept_behind p.flight p.state.units)) k →
        MayBeOther doubt (raised left.boots q.state.units.kept) (raised left.boots (kept_behind q.flight q.state.units)) k
    by (inl e) = inl (e ∙ ap (raised left.boots) (sym kept))
    by (inr e) = inr (e.0, e.1 ∙ ap (raised left.boots) (sym behind))

-- A RUN THAT IS DOWN may fall again so often, and stays at its point.

abbrev pub fallen_more : Trace → ℕ → Trace
fallen_more trace zero = trace
fallen_more trace (suc times) = fallen_more trace times says Down Stopped

fallen-next : (p : Point) (trace : Trace) → KeepsPoint p trace → IsSound trace → p.state.units.phase ≡ Fallen → p.next ≡ None
fallen-next p trace keeps sound fallen = by p.next keeps.next
  where
    by : (o : Option Event) → next trace ≡ o → o ≡ None
    by None e = refl
    by (Some e) is = absurd (fallen-none trace e sound.played (keeps.state.units.phase ∙ fallen) is)

falls-there : (p : Point) (trace : Trace) → KeepsPoint p trace → IsSound trace → p.state.units.phase ≡ Fallen → FallsAgain p p
falls-there p trace keeps sound fallen =
    let none = none-to-go p.state.units trace keeps.state.units sound (inl fallen) in
    let owed = owes-none p.state.units trace keeps.state.units sound (inl fallen) in
    record {
      fallen = fallen;
      after = record {
        units = λ i. record p.state.units { phase = fallen i; to_go = none i; owes = owed i };
        watch = others p.state.watch (facts_in p.state.units (Down Stopped)) (Down Stopped) tt;
        names = λ b. refl;
        can_stop = refl;
        over_net = refl;
        net = λ shape. refl;
      };
      next = fallen-next p trace keeps sound fallen;
      flight = refl;
    }

pub falls-more : (p : Point) (trace : Trace) (times : ℕ) → KeepsPoint p trace → IsSound trace → p.state.units.phase ≡ Fallen →
    KeepsPoint p (fallen_more trace times) × IsSound (fallen_more trace times)
falls-more p trace zero keeps sound fallen = (keeps, sound)
falls-more p trace (suc times) keeps sound fallen =
    let k = falls-more p trace times keeps sound fallen in
    falls-again p p (fallen_more trace times) k.0 k.1 (falls-there p (fallen_more trace times) k.0 k.1 fallen)

pub downs-more : (trace : Trace) (times : ℕ) → downs (fallen_more trace times) ≡ downs trace + times
downs-more trace zero = omega arith
downs-more trace (suc times) = let less = downs-more trace times in omega arith
