use Rattle.salt_values.specs.Id.{is_same_id}
use Rattle.salt_audit.proofs.Named.{put_back}
use Rattle.salt_judge.proofs.Reading.{sources_put}
use Rattle.salt_judge.proofs.readers.put_sources.Goals as goal
use Rattle.salt_judge.specs.ReadAfter.{sources_as}
use Rattle.salt_judge.specs.Reads.{units_read}
use Rattle.std.proofs.Common.{Some, ap, refl, ◌++◌, ◌∙◌}

pub returns : goal.returns
returns c = λ u.
    let units = c.in_ok-append.ensures ∙ ap (λ l. c.args.more ++ l) (c.taken_sources-old.ensures ∙ ap units_read c.remove.ensures.value) in
    ap units_read (put_back c.args.sources.now c.remove.new.self c.insert.new.self c.args.unit (Some (sources_as c.append.new.self)) c.remove.ensures.updates.0 c.in_ok-insert.ensures.updates.0 u)
    ∙ sources_put c.args.sources.now u c.args.unit c.args.more c.append.new.self (is_same_id u c.args.unit) refl units
