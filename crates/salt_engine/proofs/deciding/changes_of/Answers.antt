use Rattle.salt_books.specs.Held.{seen}
use Rattle.salt_engine.proofs.Decided.{changes-back}
use Rattle.salt_engine.proofs.deciding.changes_of.Goals as goal
use Rattle.law_states.specs.OpenUnits.{OpenUnit}
use Rattle.std.proofs.Common.{ap, sym, ◌∙◌}
use Rattle.std.proofs.lemmas.Result.{IfOk-weaker}
use Rattle.std.specs.Prelude.{Some, map, ◌≡◌}
use Rattle.salt_stands.specs.Turning.{change_at}

pub returns-in-Some : goal.returns-in-Some
returns-in-Some c = IfOk-weaker c.lent_changes.result _ _ (λ copies same s o books named.
    let both : Some (seen c.in-Some.held.now) ≡ Some o = c.in-Some.ensures s books ∙ named in
    let is : seen c.in-Some.held.now ≡ o = cc in
    same ∙ sym (changes-back c.in-Some.held.now.open.changes.items) ∙ ap (λ (p : OpenUnit). map change_at p.changes) is) c.lent_changes.ensures
