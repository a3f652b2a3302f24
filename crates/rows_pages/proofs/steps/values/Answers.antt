use Rattle.rows_pages.proofs.steps.values.Goals as goal

pub loop-key-init : goal.loop-key-init
loop-key-init c = c.requires

pub get-requires : goal.get-requires
get-requires c = c.loop-key.invariant

pub loop-key-preserved : goal.loop-key-preserved
loop-key-preserved c = let s = c.loop-key.invariant in record { dev = s.dev; named = s.named; t = s.t; is = c.in_ok-row.ensures.stands s.dev s.named s.t s.is }
