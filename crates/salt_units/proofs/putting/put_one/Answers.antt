use Rattle.law_states.specs.Overlays.{edits_of, put_all}
use Rattle.salt_units.proofs.Places.{each-edits}
use Rattle.salt_units.proofs.Turning.{only-last}
use Rattle.salt_units.proofs.putting.put_one.Goals as goal
use Rattle.salt_units.specs.Putting.{put_each}
use Rattle.std.proofs.Common.{ap, sym, ◌∙◌}
use Rattle.std.proofs.lemmas.Result.{on_ok_weaker}

pub returns-in-Some-clause-put : goal.returns-in-Some-clause-put
returns-in-Some-clause-put c =
    on_ok_weaker c.put_change.result (λ put.
    ap edits_of (put ∙ ap (λ cs. put_each cs c.args.changes.now.items) (sym (only-last c.args.new c.pop.new.self c.in-Some.change c.in-Some.ensures c.requires.few)))
    ∙ each-edits c.args.new c.args.changes.now.items) c.put_change.ensures.put

pub returns-clause-put : goal.returns-clause-put
returns-clause-put c = ap (λ cs. put_all cs (edits_of c.args.changes.now.items)) (sym c.in-None.ensures.0)
