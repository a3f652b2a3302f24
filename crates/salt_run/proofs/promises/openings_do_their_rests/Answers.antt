use Rattle.salt_loop.proofs.LoadSpelled.{account-spelled, transfer-spelled}
use Rattle.salt_loop.proofs.Loads.{each-line}
use Rattle.salt_model.specs.Trace.{lines_asked}
use Rattle.salt_promise.specs.Workload.{load_lines}
use Rattle.salt_run.proofs.Drained.{front-spelled}
use Rattle.salt_run.proofs.promises.openings_do_their_rests.Goals as goal

pub returns-clause-script : goal.returns-clause-script
returns-clause-script c = λ texts trace played sound asked.
    c.played_does_its_rests.ensures trace played sound (c.read_lines_are_spelled.ensures.all texts (lines_asked trace) asked)

pub returns-clause-load : goal.returns-clause-load
returns-clause-load c = λ calls trace played sound front.
    let read = c.definitions_are_read.ensures in
    c.played_does_its_rests.ensures trace played sound (front-spelled (load_lines calls) (lines_asked trace) (each-line (account-spelled read) (transfer-spelled read) calls) front)
