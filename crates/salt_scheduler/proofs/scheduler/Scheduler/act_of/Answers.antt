use Rattle.salt_ast.specs.declared.lines.Act.{Act}
use Rattle.salt_scheduler.proofs.Done.{brings-same, brings-told}
use Rattle.salt_scheduler.proofs.LinesDone.{does-alone, does-within, name-told, named-so, none-so, rolls-back}
use Rattle.salt_scheduler.proofs.scheduler.Scheduler.act_of.Goals as goal
use Rattle.law_states.specs.OpenUnits.{belongs_to_session, unit_of_session}
use Rattle.law_states.specs.Readings.{clash_by}
use Rattle.law_states.specs.Told.{act_in, commits_in, turn_of_in}
use Rattle.std.proofs.Common.{ap, sym, ◌∙◌}
use Rattle.std.proofs.lemmas.Result.{IfOk-weaker}
use Rattle.std.specs.Option.{option_copied}
use Rattle.std.specs.Prelude.{None, Some, option_map, refl}

pub returns-in_ok-begin-in-Begin : goal.returns-in_ok-begin-in-Begin
returns-in_ok-begin-in-Begin c = λ s r stands serves.
    let session = c.args.session in
    brings-same s _ _ _ _ (ap (λ (a : Act). act_in s.units (clash_by s) session a (unit_of_session session s.units)) c.in-Begin.is)
    (brings-told s _ _ _ (c.in_ok-begin-in-Begin.ensures s r stands serves) refl)

pub returns-in-Call : goal.returns-in-Call
returns-in-Call c = IfOk-weaker c.call.result _ _ (λ e h s r stands serves.
    let session = c.args.session in
    brings-same s _ _ _ _ (ap (λ (a : Act). act_in s.units (clash_by s) session a (unit_of_session session s.units)) c.in-Call.is)
    (h s r stands serves)) c.call.ensures

pub returns-in-Some : goal.returns-in-Some
returns-in-Some c = IfOk-weaker c.take_turn.result _ _ (λ e h s r stands serves.
    let session = c.args.session in
    let unit = c.in-Some.unit in
    let found = unit_of_session session s.units in
    let told = name-told (option_copied c.unit_of_session.result) found c.name_of-open.result (Some unit) c.in-Some.is c.name_of-open.ensures (c.unit_of_session.ensures s.units stands.books) in
    brings-same s _ _ _ _
    (does-within s.units (clash_by s) session unit c.args.act.now _ found c.in-Do.is told
    ∙ ap (turn_of_in s.units (clash_by s)) (sym (named-so (belongs_to_session session) s unit serves.sound told)))
    (h s r stands serves)) c.take_turn.ensures

pub returns-in_ok-begin-in-None : goal.returns-in_ok-begin-in-None
returns-in_ok-begin-in-None c = λ s r stands serves.
    let session = c.args.session in
    let found = unit_of_session session s.units in
    let told = name-told (option_copied c.unit_of_session.result) found c.name_of-open.result None c.in-None.is c.name_of-open.ensures (c.unit_of_session.ensures s.units stands.books) in
    brings-same s _ _ _ _
    (does-alone s.units (clash_by s) session c.args.act.now _ found c.in-Do.is (none-so found told))
    (brings-told s _ _ _ (c.in_ok-begin-in-None.ensures s r stands serves) refl)

pub returns-in-Some-open : goal.returns-in-Some-open
returns-in-Some-open c = IfOk-weaker c.take_turn-in-Some-open.result _ _ (λ e h s r stands serves.
    let session = c.args.session in
    let unit = c.in-Some-open.unit in
    let found = unit_of_session session s.units in
    let told = name-told (option_copied c.unit_of_session.result) found c.name_of-open.result (Some unit) c.in-Some-open.is c.name_of-open.ensures (c.unit_of_session.ensures s.units stands.books) in
    brings-same s _ _ _ _
    (ap (λ (a : Act). act_in s.units (clash_by s) session a found) c.in-Step.is
    ∙ ap (turn_of_in s.units (clash_by s)) (sym (named-so (belongs_to_session session) s unit serves.sound told)))
    (h s r stands serves)) c.take_turn-in-Some-open.ensures

pub returns-in-Some-open-2 : goal.returns-in-Some-open-2
returns-in-Some-open-2 c = λ s r stands serves.
    let session = c.args.session in
    let unit = c.in-Some-open-2.unit in
    let found = unit_of_session session s.units in
    let told = name-told (option_copied c.unit_of_session.result) found c.name_of-open.result (Some unit) c.in-Some-open-2.is c.name_of-open.ensures (c.unit_of_session.ensures s.units stands.books) in
    brings-same s _ _ _ _
    (ap (λ (a : Act). act_in s.units (clash_by s) session a found) c.in-Commit.is
    ∙ ap (option_map (commits_in s.units)) (sym (named-so (belongs_to_session session) s unit serves.sound told)))
    (c.commit.ensures s r stands serves)

pub returns-in_ok-end-in-Some-open-3 : goal.returns-in_ok-end-in-Some-open-3
returns-in_ok-end-in-Some-open-3 c = λ s r stands serves.
    let session = c.args.session in
    let unit = c.in-Some-open-3.unit in
    let found = unit_of_session session s.units in
    let told = name-told (option_copied c.unit_of_session.result) found c.name_of-open.result (Some unit) c.in-Some-open-3.is c.name_of-open.ensures (c.unit_of_session.ensures s.units stands.books) in
    brings-same s _ _ _ _
    (ap (λ (a : Act). act_in s.units (clash_by s) session a found) c.in-Rollback.is ∙ rolls-back s.units (clash_by s) session unit found told)
    (brings-told s _ _ _ (c.in_ok-end-in-Some-open-3.ensures s r stands serves) refl)
