-- The first law that is broken by what is known.
use Rattle.salt_audit.specs.Verdicts.{Break, breaking}
use Rattle.salt_audit.specs.declared.verdict.Law.TheVariants.{Honest, Salted, Whole}
use Rattle.salt_model.specs.Trace.{Trace}
use Rattle.salt_model.specs.declared.events.Event.{Event}
use Rattle.salt_values.specs.declared.id.Id.{Id}
use Rattle.salt_verdict.specs.Ledger.{AreFaithful, HoldsTrace, unfaithful_by}
use Rattle.salt_judge.specs.Meetings.{HoldsMeetings, unwhole_by}
use Rattle.salt_judge.specs.Reads.{HoldsReads}
use Rattle.salt_judge.specs.Searching.{AreSettled}
use Rattle.salt_judge.specs.declared.judge.Judge.{Judge}
use Rattle.std.specs.Option.{option_or}
use Rattle.std.specs.Prelude.{List, Option, ◌++◌}

-- what is known is what the trace tells, and no open unit is unfaithful
pub record HoldsAll (j : Judge) (trace : Trace) : Type 0 where
  pub ledger : HoldsTrace j.ledger trace
  pub reads : HoldsReads j.reads trace
  pub meetings : HoldsMeetings j.meetings trace
  pub faithful : AreFaithful j.ledger
  pub settled : AreSettled j.ledger j.reads j.settled

-- by what is known behind an event, the units that were amiss before it and those that break salted
abbrev pub broken_in : Judge → (amiss salted : List Id) → Event → Option Break
broken_in j amiss salted e =
    option_or (breaking Honest (unfaithful_by e j.ledger ++ amiss)) (option_or (breaking Salted salted) (breaking Whole (unwhole_by j.meetings)))
