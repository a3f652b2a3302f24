use Rattle.salt_books.specs.declared.known.Known.{Known}
use Rattle.salt_database.proofs.Fitting.{defines-over, none-flies, table-judged}
use Rattle.salt_database.proofs.beginning.can_fly.Goals as goal
use Rattle.salt_database.specs.Finding.{CanFly}
use Rattle.salt_engine.specs.declared.flights.InFlight.{InFlight}
use Rattle.std.proofs.Common.{ap, subst, sym, ◌∙◌}
use Rattle.std.specs.Prelude.{Some}

pub returns-in_default : goal.returns-in_default
returns-in_default c = λ is. none-flies c.args.books.now c.args.in_flight.now c.in_default.not-Some

pub returns-in-Commit : goal.returns-in-Commit
returns-in-Commit c = λ is.
    subst (CanFly c.args.books.now) (sym (c.in-Some.is ∙ ap (λ (i : InFlight). Some i) c.in-Commit.is)) (c.is_open.ensures is)

pub returns-in-Branch : goal.returns-in-Branch
returns-in-Branch c = λ is.
    subst (CanFly c.args.books.now) (sym (c.in-Some.is ∙ ap (λ (i : InFlight). Some i) c.in-Branch.is)) (c.is_open-in-Branch.ensures is)

pub returns-in-Table : goal.returns-in-Table
returns-in-Table c = λ is.
    subst (CanFly c.args.books.now) (sym (c.in-Some.is ∙ ap (λ (i : InFlight). Some i) c.in-Table.is))
    (table-judged c.args.books.now _ c.in-Table.def c.judge.result (c.schema.ensures ∙ ap (λ (x : Known). x.schema) c.known.ensures) c.judge.ensures (sym c.is_ok.ensures.value ∙ is))

pub returns-in-Program : goal.returns-in-Program
returns-in-Program c = λ is.
    subst (CanFly c.args.books.now) (sym (c.in-Some.is ∙ ap (λ (i : InFlight). Some i) c.in-Program.is))
    (defines-over c.args.books.now c.known-in-Program.result.now c.in-Program.def c.known-in-Program.ensures (c.can_define.ensures is))
