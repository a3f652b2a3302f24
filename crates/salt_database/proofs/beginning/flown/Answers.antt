use Rattle.std.specs.Prelude.{Some}
use Rattle.salt_engine.specs.declared.flights.InFlight.{InFlight}
use Rattle.salt_drain.specs.Recovering.{books_of}
use Rattle.salt_database.specs.Finding.{CanFly}
use Rattle.salt_books.specs.Books.{HaveUnit}
use Rattle.salt_database.proofs.Flown.{branch-flies, branch-moves, branch-told, commit-flies, commit-moves, commit-told, program-flies, program-told, table-flies, table-told}
use Rattle.salt_database.proofs.beginning.flown.Goals as goal
use Rattle.std.proofs.Common.{ap, subst, sym, ◌+◌, ◌∙◌}
use Rattle.std.proofs.lemmas.Result.{IfOk-weaker}

pub move_of_commit-requires : goal.move_of_commit-requires
move_of_commit-requires c = subst (λ x. HaveUnit x c.in-Commit.unit) (sym c.books.ensures) (subst (CanFly (books_of c.args.recovery.now)) (ap (λ (i : InFlight). Some i) c.in-Commit.is) c.requires)

pub committed-requires : goal.committed-requires
committed-requires c = subst (CanFly (books_of c.args.recovery.now)) (ap (λ (i : InFlight). Some i) c.in-Commit.is) c.requires

pub returns-in_ok-number-in-Commit : goal.returns-in_ok-number-in-Commit
returns-in_ok-number-in-Commit c = IfOk-weaker c.committed.result _ _ (λ e h s f flies.
    let x = c.args.recovery.now in
    let i = c.args.in_flight.now in
    let u = c.in-Commit.unit in
    let it = commit-flies x i f s flies u c.in-Commit.is in
    commit-told x i f s flies u c.in-Commit.is c.committed.new.self e
    (h s it.0 (c.in_ok-number-in-Commit.ensures ∙ ap (λ n. n + 1) flies.rests.stands.books.known.decisions) flies.rests.stands flies.rests.recovers it.1
    (commit-moves x i f s flies u c.in-Commit.is c.books.result.now c.books.ensures c.in_ok-made-in-Commit.made c.in_ok-made-in-Commit.ensures))) c.committed.ensures

pub move_of_branch-requires : goal.move_of_branch-requires
move_of_branch-requires c = subst (λ x. HaveUnit x c.in-Branch.unit) (sym c.books-in-Branch.ensures) (subst (CanFly (books_of c.args.recovery.now)) (ap (λ (i : InFlight). Some i) c.in-Branch.is) c.requires)

pub branched-requires : goal.branched-requires
branched-requires c = subst (CanFly (books_of c.args.recovery.now)) (ap (λ (i : InFlight). Some i) c.in-Branch.is) c.requires

pub returns-in_ok-number-in-Branch : goal.returns-in_ok-number-in-Branch
returns-in_ok-number-in-Branch c = IfOk-weaker c.branched.result _ _ (λ e h s f flies.
    let x = c.args.recovery.now in
    let i = c.args.in_flight.now in
    let arm = c.in-Branch in
    let later = (branch-flies x i f s flies arm.unit arm.base arm.cause arm.is).0 in
    branch-told x i f s flies arm.unit arm.base arm.cause arm.is c.branched.new.self e
    (h s later.unit later.part (c.in_ok-number-in-Branch.ensures ∙ ap (λ n. n + 1) flies.rests.stands.books.known.decisions) flies.rests.stands flies.rests.recovers later.named later.kind
    (branch-moves x i f s flies arm.unit arm.base arm.cause arm.is c.books-in-Branch.result.now c.books-in-Branch.ensures c.in_ok-made-in-Branch.made c.in_ok-made-in-Branch.ensures))) c.branched.ensures

pub table_defined-requires : goal.table_defined-requires
table_defined-requires c = subst (CanFly (books_of c.args.recovery.now)) (ap (λ (i : InFlight). Some i) c.in-Table.is) c.requires

pub returns-in-Table : goal.returns-in-Table
returns-in-Table c = IfOk-weaker c.table_defined.result _ _ (λ e h s f flies.
    let x = c.args.recovery.now in
    let i = c.args.in_flight.now in
    let arm = c.in-Table in
    table-told x i f s flies arm.def arm.text arm.is c.table_defined.new.self e
    (h s flies.rests.stands flies.rests.recovers (table-flies x i f s flies arm.def arm.text arm.is).line)) c.table_defined.ensures

pub program_defined-requires-clause-parts : goal.program_defined-requires-clause-parts
program_defined-requires-clause-parts c = (subst (CanFly (books_of c.args.recovery.now)) (ap (λ (i : InFlight). Some i) c.in-Program.is) c.requires).0

pub program_defined-requires-clause-allowed : goal.program_defined-requires-clause-allowed
program_defined-requires-clause-allowed c = (subst (CanFly (books_of c.args.recovery.now)) (ap (λ (i : InFlight). Some i) c.in-Program.is) c.requires).1

pub returns-in-Program : goal.returns-in-Program
returns-in-Program c = IfOk-weaker c.program_defined.result _ _ (λ e h s f flies.
    let x = c.args.recovery.now in
    let i = c.args.in_flight.now in
    let arm = c.in-Program in
    program-told x i f s flies arm.def arm.text arm.is c.program_defined.new.self e
    (h s flies.rests.stands flies.rests.recovers (program-flies x i f s flies arm.def arm.text arm.is).line)) c.program_defined.ensures
