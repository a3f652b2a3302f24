use Rattle.salt_engine.proofs.Stages.{seen-at, serves-now, serving-of}
use Rattle.salt_engine.proofs.stepping.EngineStepping.next_turn.Goals as goal
use Rattle.std.specs.Prelude.{None}

pub returns-in-Going : goal.returns-in-Going
returns-in-Going g c = λ p sound h. c.next_turn.ensures p.state (seen-at _ _ _ _ _ p.state c.in-Going.is h.0.seen).0

pub returns-in_default : goal.returns-in_default
returns-in_default g c = λ p sound h.
    let s = serving-of c.args.self.now.stage (serves-now _ _ c.args.self.now.stage None p.state h.0.seen) in
    absurd (c.in_default.not-Going s.0 s.1)
