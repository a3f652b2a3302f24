use Rattle.salt_audit.specs.Knowing.{stand_of}
use Rattle.salt_cont.specs.Catalogues.{AllLeadOn}
use Rattle.salt_values.specs.declared.cont.Cont.{Cont}
use Rattle.salt_verdict.proofs.start.nothing_told.Goals as goal
use Rattle.salt_verdict.specs.Ledger.{answers_in, done_in, vars_in}
use Rattle.std.proofs.Common.{List, [], ap, map, refl, subst, sym, ◌∷◌, ◌≡◌}

no_conts : (cs : List Cont) → [] ≡ map stand_of cs → [] ≡ cs
no_conts [] e = refl
no_conts (c ∷ cs) e = absurd cc

pub returns-clause-holds : goal.returns-clause-holds
returns-clause-holds c = record {
  knows = c.nothing_known.ensures;
  tables = sym c.none.ensures;
  conts = no_conts c.nothing_known.result.conts c.nothing_known.ensures.conts;
  vars = λ u runs. sym (ap vars_in (c.no_acts.ensures u));
  done = λ u runs. sym (ap done_in (c.no_acts.ensures u));
  answers = λ u runs. sym (ap answers_in (c.no_acts.ensures u));
  order = sym c.new.ensures;
  active = sym c.new-2.ensures.items;
}

pub returns-clause-leads : goal.returns-clause-leads
returns-clause-leads c = subst AllLeadOn c.nothing_known.ensures.programs tt
