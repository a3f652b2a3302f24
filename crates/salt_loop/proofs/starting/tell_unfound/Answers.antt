use Rattle.salt_model.specs.EventTexts.{story_text}
use Rattle.salt_model.specs.declared.events.Event.{Event}
use Rattle.salt_loop.proofs.Beginning.{never-read, unfound-status, unfound-told}
use Rattle.salt_loop.proofs.starting.tell_unfound.Goals as goal
use Rattle.salt_loop.specs.Serving.{EndsWriting}
use Rattle.std.proofs.Common.{subst}
use Rattle.std.specs.Prelude.{Err, List}

pub returns-clause-is : goal.returns-clause-is
returns-clause-is g c =
    unfound-status c.args.reason c.args.story.now c.requires.unfound c.requires.empty c.stop_opening.result c.stop_opening.ensures.is c.new-no_tables.result (g.K.Sink.held c.args.sink.now) (g.K.Sink.held c.write_done.new.sink)
    c.write_done.result (subst (λ (es : List Event). EndsWriting (Err c.stop_opening.result) (story_text c.new-no_tables.result es) (g.K.Sink.held c.args.sink.now) (g.K.Sink.held c.write_done.new.sink) c.write_done.result)
    c.as_slice.ensures c.write_done.ensures.written)

pub returns-clause-run : goal.returns-clause-run
returns-clause-run g c =
    unfound-told c.args.reason c.args.story.now c.requires.unfound c.requires.empty c.stop_opening.result c.stop_opening.ensures.is c.new-no_tables.result (g.K.Sink.held c.args.sink.now) (g.K.Sink.held c.write_done.new.sink)
    c.write_done.result (subst (λ (es : List Event). EndsWriting (Err c.stop_opening.result) (story_text c.new-no_tables.result es) (g.K.Sink.held c.args.sink.now) (g.K.Sink.held c.write_done.new.sink) c.write_done.result)
    c.as_slice.ensures c.write_done.ensures.written)

pub returns-clause-unread : goal.returns-clause-unread
returns-clause-unread g c = never-read (Err c.stop_opening.result) c.write_done.result _ _ _ c.stop_opening.ensures.of_devices c.write_done.ensures.written
