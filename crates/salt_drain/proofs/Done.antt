-- An event that is done: what calls left of the books is what the event makes of the state.
use Rattle.law_states.specs.Laws.{is_of_run}
use Rattle.law_states.specs.States.{State, named_by, net_by}
use Rattle.law_states.specs.Steps.{units_after}
use Rattle.salt_model.specs.declared.events.Event.{Event}
use Rattle.law_openings.proofs.Leaving.{leaves}
use Rattle.salt_drain.specs.Follows.{FollowsOn}
use Rattle.salt_drain.specs.Recovering.{AnswersWith, IsRecovering, StandsAtEvent, StandsBehindEvent}
use Rattle.salt_drain.specs.declared.recovery.Recovery.{Recovery}
use Rattle.std.proofs.Common.{subst, sym, ◌∙◌}
use Rattle.std.specs.Prelude.{Option, Some, false, ◌≡◌}

pub sees : (e : Event) (s : State) (new : Recovery) → IsRecovering s → is_of_run e ≡ false → StandsBehindEvent e new (units_after e s.units) →
    FollowsOn new.behind e s.units (units_after e s.units) → StandsAtEvent new (Some e) s
sees e s new r plain behind follows =
    let l = leaves s r.sound.trace e r.sound.keeps r.sound.sound in (
      record { units = units_after e s.units; watch = l.watch; names = named_by e s.names; can_stop = s.can_stop; over_net = s.over_net; net = net_by e s.units s.net },
      record { plain = plain; after = l.after; behind = behind; follows = follows },
    )

-- an event is given that is what the state tells, and is done
pub gives : (e given : Event) (want : Option Event) (s : State) (new : Recovery) → IsRecovering s → given ≡ e → Some e ≡ want → is_of_run e ≡ false →
    StandsBehindEvent e new (units_after e s.units) → FollowsOn new.behind e s.units (units_after e s.units) → AnswersWith s want new (Some given)
gives e given want s new r told wanted plain behind follows = record {
  told = (λ i. Some (told i)) ∙ wanted;
  done = subst (λ (g : Event). StandsAtEvent new (Some g) s) (sym told) (sees e s new r plain behind follows);
}
