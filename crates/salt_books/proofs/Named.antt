-- Units that names find, and what a sound state gives of them.
use Rattle.salt_books.specs.Ends.{done_of}
use Rattle.salt_books.specs.Sound.{IsSoundState}
use Rattle.law_states.proofs.Rising.{names-rise}
use Rattle.law_states.specs.OpenUnits.{OpenUnit, UnitState, names_in, unit_named}
use Rattle.law_states.specs.Rising.{Rising}
use Rattle.law_states.specs.States.{State}
use Rattle.law_states.specs.Told.{fails_in, next_decision_number}
use Rattle.law_story.proofs.Ids.{is_same_id-true}
use Rattle.law_story.proofs.NextFits.{find-in}
use Rattle.salt_model.specs.declared.events.Cause.{Cause}
use Rattle.salt_model.specs.declared.events.End.TheVariants.{Branched}
use Rattle.salt_model.specs.declared.events.Event.TheVariants.{Ended}
use Rattle.salt_model.specs.declared.events.UnitKind.TheVariants.{Later}
use Rattle.salt_values.specs.Id.{is_same_id}
use Rattle.salt_values.specs.declared.id.Id.{Id}
use Rattle.std.proofs.Common.{ap, subst, sym, ◌∙◌}
use Rattle.std.specs.Prelude.{IsSome, List, Option, Some, refl, ℕ, ◌≡◌}

pub rising : (s : State) → IsSoundState s → Rising (names_in s.units.units)
rising s h = names-rise s.units h.trace h.keeps.units h.sound.played h.sound.well

-- the unit that a name finds has it
pub named-unit : (u : Id) (os : List OpenUnit) (o : OpenUnit) → unit_named u os ≡ Some o → o.unit ≡ u
named-unit u os o h = is_same_id-true o.unit u (find-in (λ (o : OpenUnit). is_same_id o.unit u) o os h).1

pub is-some : {A : Type 0} (o : Option A) (x : A) → o ≡ Some x → IsSome o
is-some {A = A} o x h = subst (λ (p : Option A). IsSome p) (sym h) refl

-- a unit of a later part that fails goes on behind its failure
pub done-branched : (s : UnitState) (u b : Id) (part : ℕ) (o : OpenUnit) (c : Cause) → unit_named u s.units ≡ Some o → o.kind ≡ Later b part →
    done_of s (Some c) (unit_named u s.units) ≡ Some (Ended u (Branched (next_decision_number s) c))
done-branched s u b part o c named kind =
    ap (done_of s (Some c)) named ∙ ap (λ k. Some (fails_in s o c k)) kind
    ∙ ap (λ v. Some (Ended v (Branched (next_decision_number s) c))) (named-unit u s.units o named)
