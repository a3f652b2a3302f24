use Rattle.salt_promise.specs.Status.{ends_between}
use Rattle.salt_run.proofs.EngineEnds.{and-both}
use Rattle.salt_run.proofs.runs.leave.Goals as goal
use Rattle.salt_run.specs.Ending.{IsNetLeft, flight_at, flight_left}
use Rattle.std.proofs.Common.{ap, refl, subst, sym, ◌∙◌}
use Rattle.std.specs.Prelude.{Bool, None}

pub into_net-requires-clause-stands : goal.into_net-requires-clause-stands
into_net-requires-clause-stands g c = λ told. let both = and-both c.args.over_net (ends_between c.args.status) (sym c.gives_net.ensures ∙ c.if-gives_net.true) in c.requires.stands told both.0 both.1

pub returns-then-gives_net-clause-flight : goal.returns-then-gives_net-clause-flight
returns-then-gives_net-clause-flight g c =
    sym (ap (λ (b : Bool). flight_left b c.args.status (g.E.Stepping.flight c.args.database)) (sym c.gives_net.ensures ∙ c.if-gives_net.true))

pub returns-then-gives_net-clause-net : goal.returns-then-gives_net-clause-net
returns-then-gives_net-clause-net g c =
    let e = c.args.database in
    subst (λ (b : Bool). IsNetLeft b (g.E.Stepping.stands_for (g.D.Disks.view c.args.disks.now) e None) (g.E.Stepping.asked e) c.into_net.result) (sym (sym c.gives_net.ensures ∙ c.if-gives_net.true))
    c.into_net.ensures

pub returns-clause-flight : goal.returns-clause-flight
returns-clause-flight g c =
    c.flight_at.ensures ∙ ap (flight_at c.args.status) c.flight.ensures
    ∙ sym (ap (λ (b : Bool). flight_left b c.args.status (g.E.Stepping.flight c.args.database)) (sym c.gives_net.ensures ∙ c.if-gives_net.false))

pub returns-clause-net : goal.returns-clause-net
returns-clause-net g c =
    let e = c.args.database in
    subst (λ (b : Bool). IsNetLeft b (g.E.Stepping.stands_for (g.D.Disks.view c.args.disks.now) e None) (g.E.Stepping.asked e) None) (sym (sym c.gives_net.ensures ∙ c.if-gives_net.false)) refl

pub into_net-requires-clause-able : goal.into_net-requires-clause-able
into_net-requires-clause-able g c = c.requires.able
