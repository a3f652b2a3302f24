use Rattle.salt_scheduler.proofs.scheduler.Scheduler.take_turn.Goals as goal
use Rattle.salt_books.proofs.Shown.{have-unit}
use Rattle.salt_books.proofs.States.{books-by, state_by}
use Rattle.salt_scheduler.proofs.SoundFacts.{never-true}
use Rattle.salt_scheduler.proofs.HeldAlready.{never-saline, none-clash}
use Rattle.salt_model.specs.declared.events.Owner.TheVariants.{Unit}
use Rattle.std.specs.Prelude.{Some, [], refl}
use Rattle.law_states.specs.Readings.{clash_by}
use Rattle.std.proofs.Common.{ap, sym, ◌∙◌}
use Rattle.salt_scheduler.proofs.Done.{brings-same, brings-told}
use Rattle.salt_scheduler.proofs.ActDone.{act-brings, asked-at, asked-name, asks-does, asks-waits, clashes-told, turn-asked}

pub wait-requires : goal.wait-requires
wait-requires c =
    let x = c.args.self.now.books in
    let s = state_by x c.args.line.now in
    let books = books-by x c.args.line.now in
    let asked = asked-at s c.args.unit c.in_ok-asking.field-0 c.in-Some.asking c.in-Some.is (c.in_ok-asking.ensures s books refl) in
    have-unit x s c.in-Some.asking.unit asked.1.0 books asked.1.1.named

pub returns-then-holds : goal.returns-then-holds
returns-then-holds c = λ s r stands serves.
    let a = c.in-Some.asking in
    let asked = asked-at s.units c.args.unit c.in_ok-asking.field-0 a c.in-Some.is (c.in_ok-asking.ensures s.units stands.books serves.line) in
    let none = none-clash s (Unit c.args.unit) a.family _ serves.sound (λ is. never-saline (Some (asked.1.0).kind) (sym asked.1.1.family ∙ is)) (c.holds.ensures c.if-holds.true s.watch stands.watch) in
    let clash = clashes-told s c.args.unit a asked.1.0 [] _ (asked-name s.units c.args.unit a asked) asked.1.1 c.lent-reach.ensures none in
    act-brings c.args.self.now s a asked.1.0 _ stands asked.1.1
    (turn-asked s.units (clash_by s) c.args.unit asked.1.0 a.statement [] (asked-name s.units c.args.unit a asked) asked.1.1.asks clash
    ∙ ap Some (asks-does s.units asked.1.0 a.statement [] refl))

pub returns-then-is_empty : goal.returns-then-is_empty
returns-then-is_empty c = λ s r stands serves.
    let a = c.in-Some.asking in
    let asked = asked-at s.units c.args.unit c.in_ok-asking.field-0 a c.in-Some.is (c.in_ok-asking.ensures s.units stands.books serves.line) in
    let clash = clashes-told s c.args.unit a asked.1.0 c.in_ok-owners.owners _ (asked-name s.units c.args.unit a asked) asked.1.1 c.lent-reach.ensures (c.in_ok-owners.ensures s.watch stands.watch) in
    act-brings c.args.self.now s a asked.1.0 _ stands asked.1.1
    (turn-asked s.units (clash_by s) c.args.unit asked.1.0 a.statement c.in_ok-owners.owners (asked-name s.units c.args.unit a asked) asked.1.1.asks clash
    ∙ ap Some (asks-does s.units asked.1.0 a.statement c.in_ok-owners.owners (c.if-is_empty.ensures.0 refl)))

pub returns-in_ok-wait : goal.returns-in_ok-wait
returns-in_ok-wait c = λ s r stands serves.
    let a = c.in-Some.asking in
    let asked = asked-at s.units c.args.unit c.in_ok-asking.field-0 a c.in-Some.is (c.in_ok-asking.ensures s.units stands.books serves.line) in
    let clash = clashes-told s c.args.unit a asked.1.0 c.in_ok-owners.owners _ (asked-name s.units c.args.unit a asked) asked.1.1 c.lent-reach.ensures (c.in_ok-owners.ensures s.watch stands.watch) in
    brings-same s _ _ _ _
    (turn-asked s.units (clash_by s) c.args.unit asked.1.0 a.statement c.in_ok-owners.owners (asked-name s.units c.args.unit a asked) asked.1.1.asks clash
    ∙ ap Some (asks-waits s.units a.unit asked.1.0 a.statement c.in_ok-owners.owners asked.1.1.named (λ none. never-true (c.if-is_empty.ensures.1 none))))
    (brings-told s _ _ _ (c.in_ok-wait.ensures s asked.1.0 stands serves asked.1.1) refl)
