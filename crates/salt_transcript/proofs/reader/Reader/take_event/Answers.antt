use Rattle.salt_audit.proofs.OneMore.{told_more}
use Rattle.salt_audit.specs.Formed.{is_formed_by}
use Rattle.salt_audit.specs.Retelling.{retold}
use Rattle.salt_audit.specs.Verdicts.{broken_by}
use Rattle.salt_transcript.proofs.Finding.{found_broken, found_sound, found_unformed}
use Rattle.salt_transcript.proofs.reader.Reader.take_event.Goals as goal
use Rattle.salt_judge.specs.Judging.{HoldsAll}
use Rattle.std.proofs.Common.{None, Ok, Some, [], ap, false, refl, subst, sym, true, ◌++◌, ◌∙◌, ◌∷◌, ◌≡◌}

pub returns-then-not-fits-clause-unformed : goal.returns-then-not-fits-clause-unformed
returns-then-not-fits-clause-unformed c = λ is. record {
  found = λ story h.
      let unfit : is_formed_by (retold story) c.args.event.now ≡ false =
      sym (c.judging_is_exact.ensures c.args.self.now.judge.ledger.state (retold story) c.args.event.now h.holds.ledger.knows) ∙ (sym c.in_ok-fits.ensures ∙ c.if-not-fits.true) in
      found_unformed story c.args.event.now h.found unfit;
  events = refl;
}

pub judge_event-requires-clause-formed : goal.judge_event-requires-clause-formed
judge_event-requires-clause-formed c = sym c.in_ok-fits.ensures ∙ c.if-not-fits.false

pub returns-in-Some-clause-broken : goal.returns-in-Some-clause-broken
returns-in-Some-clause-broken c = λ law unit is. record {
  found = λ story h.
      let e = c.args.event.now in
      let fits : is_formed_by (retold story) e ≡ true =
      sym (c.judging_is_exact.ensures c.args.self.now.judge.ledger.state (retold story) e h.holds.ledger.knows) ∙ (sym c.in_ok-fits.ensures ∙ c.if-not-fits.false) in
      let broken : broken_by (retold story) e ≡ Some (law, unit) = sym (c.in_ok-law.ensures.broken (retold story) h.holds) ∙ cc in
      found_broken story e h.found law unit fits broken;
  events = refl;
}

pub returns-in-None-clause-goes_on : goal.returns-in-None-clause-goes_on
returns-in-None-clause-goes_on c = λ is. record {
  told = λ story h.
      let e = c.args.event.now in
      let fits : is_formed_by (retold story) e ≡ true =
      sym (c.judging_is_exact.ensures c.args.self.now.judge.ledger.state (retold story) e h.holds.ledger.knows) ∙ (sym c.in_ok-fits.ensures ∙ c.if-not-fits.false) in
      let broken : broken_by (retold story) e ≡ None = sym (c.in_ok-law.ensures.broken (retold story) h.holds) ∙ c.in-None.is in
      let found = found_sound story e h.found fits broken in
      record {
        holds = subst (HoldsAll c.judge_event.new.judge) (sym (told_more (retold []) story e)) (c.in_ok-law.ensures.holds (ap Ok c.in-None.is) (retold story) h.holds);
        found = found;
        naming = c.sound_stories_name_tables.ensures (story ++ e ∷ []) found;
      };
  items = refl;
  events = c.in_ok-events.ensures;
  lines = c.in_ok-lines.ensures;
}
