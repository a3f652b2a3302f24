use Rattle.salt_audit.specs.Standing.{begun_in}
use Rattle.salt_audit.specs.Telling.{conts_ended}
use Rattle.salt_audit.specs.declared.state.Begun.{Begun}
use Rattle.salt_model.specs.declared.events.End.TheVariants.{Committed}
use Rattle.salt_values.specs.declared.cont.Cont.{Cont}
use Rattle.salt_verdict.proofs.Putting.{commit_behind, commits_exactly}
use Rattle.salt_verdict.proofs.goings.tell_commit.Goals as goal
use Rattle.salt_verdict.specs.Goings.{put_before, put_behind, values_behind}
use Rattle.std.proofs.Common.{List, Option, ap, length, ◌∙◌, ◌≡◌}

pub tell-requires-clause-formed : goal.tell-requires-clause-formed
tell-requires-clause-formed c = c.requires.formed

pub returns-clause-behind : goal.returns-clause-behind
returns-clause-behind c =
    commit_behind c.args.state.now c.tell.new.state c.put_before.new.conts c.args.unit c.args.number c.in_ok-tell.ensures.behind

pub returns-clause-conts : goal.returns-clause-conts
returns-clause-conts c =
    let s = c.args.state.now in
    let vars = c.args.vars.now in
    let kept : c.put_before.new.conts ≡ put_before s.catalogue vars (begun_in c.args.unit s.units) s.conts =
    c.in_ok-put_before.ensures ∙ ap (λ (o : Option Begun). put_before s.catalogue vars o s.conts) c.begun-note.ensures in
    let values = c.in_ok-values.ensures ∙ ap (values_behind s.catalogue vars) c.begun-note.ensures in
    let last = c.len-last.ensures ∙ ap (λ (cs : List Cont). length cs) kept in
    let told = c.in_ok-tell.ensures.behind.conts ∙ ap (conts_ended s.catalogue (Committed c.args.number) (begun_in c.args.unit s.units)) kept in
    c.in_ok-put_behind.ensures ∙ (λ i. put_behind (last i) (values i) (told i)) ∙ commits_exactly s.catalogue vars c.args.number (begun_in c.args.unit s.units) s.conts

pub returns-clause-leads : goal.returns-clause-leads
returns-clause-leads c = c.in_ok-tell.ensures.leads
