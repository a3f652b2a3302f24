use Rattle.salt_loop.proofs.Ends.{if_err_gives}
use Rattle.salt_loop.proofs.telling.write_events.Goals as goal
use Rattle.salt_loop.specs.declared.stop.Stop.TheVariants.{WriteFault}

pub returns-in_err-print_story-clause-stops : goal.returns-in_err-print_story-clause-stops
returns-in_err-print_story-clause-stops g c =
    if_err_gives c.from_residual.result WriteFault _ c.from_residual.ensures.1 c.in_err-print_story.ensures.err
