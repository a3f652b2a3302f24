use Rattle.law_states.specs.OpenUnits.{OpenUnit, UnitState}
use Rattle.law_states.specs.Told.{next_decision_number}
use Rattle.salt_model.specs.Trace.{Trace, ◌says◌}
use Rattle.salt_model.specs.declared.events.End.TheVariants.{Branched, Committed}
use Rattle.salt_model.specs.declared.events.End.{End}
use Rattle.salt_model.specs.declared.events.Event.TheVariants.{Ended}
use Rattle.law_decisions.proofs.Ending.{IsAround, branched-is, committed-is, may-branch, may-commit, sound-after, unit-kept}
use Rattle.law_decisions.proofs.Naming.{open-boots}
use Rattle.law_decisions.proofs.laws.decided_ends_may_be_kept.Goals as goal
use Rattle.law_decisions.specs.Ending.{EndsNext}

pub returns : goal.returns
returns c = record {
  commit = λ s trace o cs m conts next are moves goes.
      may-commit s trace o (Committed (next_decision_number s)) next (around s trace o (Committed (next_decision_number s)) next) cs m conts are moves (committed-is s o cs conts are goes);
  branch = λ s trace o cause m conts next moves goes.
      may-branch s trace o (Branched (next_decision_number s) cause) next (around s trace o (Branched (next_decision_number s) cause) next) m conts moves (branched-is s o cause conts goes);
}
  where
    around : (s : UnitState) (trace : Trace) (o : OpenUnit) (end : End) → EndsNext s trace o end → IsAround s trace o end
    around s trace o end next =
        let at = next.state in
        let e = Ended o.unit end in
        let after = sound-after s trace o end next in
        record {
          types = c.states_are_of_their_types.ensures.here s trace at.keeps at.sound at.typed at.keyed;
          boots = open-boots trace at.sound s at.keeps;
          ordered = c.edits_make_the_tables.ensures.in_order trace o (unit-kept s trace o at.keeps next.is_open);
          keeps_after = c.units_go_on.ensures.says s trace e at.keeps after;
          types_after = c.states_are_of_their_types.ensures.says s trace e at.keeps after at.typed at.keyed;
          well_after = (c.kept_stays_well_kept.ensures (trace says e) after.played after.well).0;
        }
