use Rattle.salt_engine.proofs.lines.ask.Goals as goal

pub refusal-requires : goal.refusal-requires
refusal-requires c = c.requires

pub returns : goal.returns
returns c = λ s stands can over distinct. (c.in_ok-refusal.ensures s stands can over distinct, c.in_ok-ask.ensures s stands)
