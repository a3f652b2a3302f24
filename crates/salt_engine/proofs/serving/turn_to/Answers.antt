use Rattle.salt_engine.proofs.serving.turn_to.Goals as goal
use Rattle.law_states.specs.States.{turned_to}
use Rattle.std.proofs.lemmas.Result.{IfOk-weaker}

pub returns : goal.returns
returns c = IfOk-weaker c.go.result _ _ (λ coming b s r h. b (turned_to c.args.base s) r (c.in_ok-turn.ensures s h.stands h.turn) h.serves) c.go.ensures
