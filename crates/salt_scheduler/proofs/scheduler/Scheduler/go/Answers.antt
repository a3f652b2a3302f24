use Rattle.salt_scheduler.proofs.Done.{brings-same, brings-told}
use Rattle.salt_books.proofs.Shown.{known-shown}
use Rattle.salt_scheduler.proofs.LinesDone.{goes-later, goes-within, name-told, named-so, none-so}
use Rattle.salt_scheduler.proofs.scheduler.Scheduler.go.Goals as goal
use Rattle.law_states.specs.OpenUnits.{belongs_to_program, unit_of_program}
use Rattle.law_states.specs.Readings.{clash_by}
use Rattle.law_states.specs.Told.{turn_of_in}
use Rattle.std.proofs.Common.{ap, sym, ◌∙◌}
use Rattle.std.proofs.lemmas.Result.{IfOk-weaker}
use Rattle.std.specs.Option.{option_copied}
use Rattle.std.specs.Prelude.{None, Some, refl}

pub returns-in-Some : goal.returns-in-Some
returns-in-Some c = IfOk-weaker c.take_turn.result _ _ (λ e h s r stands serves.
    let base = c.args.base in
    let unit = c.in-Some.unit in
    let found = unit_of_program base s.units in
    let told = name-told (option_copied c.unit_of_program.result) found c.name_of-open.result (Some unit) c.in-Some.is c.name_of-open.ensures (c.unit_of_program.ensures s.units stands.books) in
    brings-same s _ _ _ _
    (goes-within s.units (clash_by s) base unit found told
    ∙ ap (turn_of_in s.units (clash_by s)) (sym (named-so (belongs_to_program base) s unit serves.sound told)))
    (h s r stands serves)) c.take_turn.ensures

pub returns-in_ok-begin-in-Some-cont : goal.returns-in_ok-begin-in-Some-cont
returns-in_ok-begin-in-Some-cont c = λ s r stands serves.
    let base = c.args.base in
    let found = unit_of_program base s.units in
    let none = none-so found (name-told (option_copied c.unit_of_program.result) found c.name_of-open.result None c.in-None.is c.name_of-open.ensures (c.unit_of_program.ensures s.units stands.books)) in
    let kept = known-shown c.known.result.now c.args.self.now.books.known s.units.kept c.known.ensures stands.books.known in
    brings-same s _ _ _ _
    (goes-later s.units (clash_by s) base found (Some c.in-Some-cont.cont.now) none (sym (c.cont.ensures s.units.kept kept) ∙ ap option_copied c.in-Some-cont.is))
    (brings-told s _ _ _ (c.in_ok-begin-in-Some-cont.ensures s r stands serves) refl)
