-- What is known for the three laws goes on, and breaks what the trace breaks.
use Rattle.salt_audit.specs.Formed.{is_formed_by}
use Rattle.law_story.proofs.Lists.{order-none}
use Rattle.salt_audit.specs.Laws.{dishonest, least_of, unsalted, unwhole}
use Rattle.salt_audit.specs.Retelling.{told}
use Rattle.salt_audit.specs.Verdicts.{Break, breaking, broken_by}
use Rattle.salt_audit.specs.declared.verdict.Law.TheVariants.{Honest, Salted, Whole}
use Rattle.salt_judge.specs.Judging.{HoldsAll, broken_in}
use Rattle.salt_judge.specs.Meetings.{HoldsMeetings, unwhole_by}
use Rattle.salt_judge.specs.Reads.{HoldsReads}
use Rattle.salt_judge.specs.Searching.{AreSettled}
use Rattle.salt_judge.specs.declared.judge.Judge.{Judge}
use Rattle.salt_model.specs.Trace.{Trace}
use Rattle.salt_model.specs.Words.{first_of_list}
use Rattle.salt_model.specs.declared.events.Event.{Event}
use Rattle.salt_values.specs.declared.id.Id.{Id}
use Rattle.salt_values.specs.Id.{in_order}
use Rattle.salt_verdict.specs.Ledger.{AreFaithful, HoldsTrace, amiss_by, dishonest_by, unfaithful_by, unfaithful_in}
use Rattle.std.proofs.Common.{List, None, Option, Some, [], ap, option_map, refl, sym, true, ◌++◌, ◌∙◌, ◌∷◌, ◌≡◌}
use Rattle.std.specs.Option.{option_or}

-- what the steps and their laws say
pub record Known (old new : Judge) (e : Event) : Type 0 where
  pub formed : (trace : Trace) → HoldsTrace old.ledger trace → is_formed_by trace e ≡ true
  pub ledger : (trace : Trace) → HoldsTrace old.ledger trace → is_formed_by trace e ≡ true → HoldsTrace new.ledger (told trace e)
  pub reads : (trace : Trace) → HoldsTrace old.ledger trace → HoldsReads old.reads trace → is_formed_by trace e ≡ true → HoldsReads new.reads (told trace e)
  pub meetings : (trace : Trace) → HoldsTrace old.ledger trace → HoldsReads new.reads (told trace e) → HoldsMeetings old.meetings trace → is_formed_by trace e ≡ true →
      HoldsMeetings new.meetings (told trace e)
  pub settled : AreSettled old.ledger old.reads old.settled → AreSettled new.ledger new.reads old.settled
  pub searched : AreSettled new.ledger new.reads old.settled → AreSettled new.ledger new.reads new.settled
  pub changes : AreFaithful old.ledger → unfaithful_in new.ledger ≡ unfaithful_by e new.ledger
  pub honest : (trace : Trace) → HoldsTrace old.ledger trace → is_formed_by trace e ≡ true → HoldsTrace new.ledger (told trace e) → dishonest_by old.ledger new.ledger e ≡ dishonest trace e

-- what is known of a trace behind an event, whatever it breaks
pub record Told (new : Judge) (trace : Trace) : Type 0 where
  pub ledger : HoldsTrace new.ledger trace
  pub reads : HoldsReads new.reads trace
  pub meetings : HoldsMeetings new.meetings trace

module _ (old new : Judge) (e : Event) (k : Known old new e) (trace : Trace) (h : HoldsAll old trace) where
  pub told_then : Told new (told trace e)
  told_then =
      let f = k.formed trace h.ledger in
      let r = k.reads trace h.ledger h.reads f in
      record { ledger = k.ledger trace h.ledger f; reads = r; meetings = k.meetings trace h.ledger r h.meetings f }

  -- three laws judged as the trace judges them
  pub judged_then : (salted : List Id) → salted ≡ unsalted trace e → unwhole_by new.meetings ≡ unwhole trace e →
      broken_in new (amiss_by old.ledger e) salted e ≡ broken_by trace e
  judged_then salted same whole =
      let honest : unfaithful_by e new.ledger ++ amiss_by old.ledger e ≡ dishonest trace e =
      ap (λ (us : List Id). us ++ amiss_by old.ledger e) (sym (k.changes h.faithful)) ∙ k.honest trace h.ledger (k.formed trace h.ledger) told_then.ledger in
      λ i. option_or (breaking Honest (honest i)) (option_or (breaking Salted (same i)) (breaking Whole (whole i)))

  no_first : (o p : Option Break) → option_or o p ≡ None → o ≡ None
  no_first None p is = refl
  no_first (Some b) p is = absurd cc

  none_least : (us : List Id) → first_of_list us ≡ None → us ≡ []
  none_least [] is = refl
  none_least (u ∷ us) is = absurd cc

  none_breaks : (us : List Id) → breaking Honest us ≡ None → us ≡ []
  none_breaks us is = order-none us (none_least (in_order us) (by (least_of us) is))
    where
      by : (o : Option Id) → option_map {U = Break} (λ (u : Id). (Honest, u)) o ≡ None → o ≡ None
      by None no_one = refl
      by (Some u) no_one = absurd cc

  none_before : (us vs : List Id) → us ++ vs ≡ [] → us ≡ []
  none_before [] vs is = refl
  none_before (u ∷ us) vs is = absurd cc

  -- where none is broken, all goes on
  pub all_then : broken_by trace e ≡ None → HoldsAll new (told trace e)
  all_then sound = record {
    ledger = told_then.ledger;
    reads = told_then.reads;
    meetings = told_then.meetings;
    faithful =
        none_before (unfaithful_in new.ledger) (amiss_by old.ledger e)
        (k.honest trace h.ledger (k.formed trace h.ledger) told_then.ledger ∙ none_breaks (dishonest trace e) (no_first (breaking Honest (dishonest trace e)) _ sound));
    settled = k.searched (k.settled h.settled);
  }
