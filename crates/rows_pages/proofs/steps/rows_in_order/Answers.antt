use Rattle.rows_pages.proofs.steps.rows_in_order.Goals as goal

pub loop-count-init : goal.loop-count-init
loop-count-init c = c.requires

pub next_in-requires : goal.next_in-requires
next_in-requires c = c.loop-count.invariant

pub loop-count-preserved : goal.loop-count-preserved
loop-count-preserved c = let s = c.loop-count.invariant in record { dev = s.dev; named = s.named; t = s.t; is = c.in_ok-row.ensures.stands s.dev s.named s.t s.is }
