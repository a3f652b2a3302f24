use Rattle.salt_verdict.proofs.Doing.{OfEdits, serial_tables}
use Rattle.salt_verdict.proofs.laws.runs_make_the_tables.Goals as goal

pub returns : goal.returns
returns c = λ schema es vars sts.
    let laws : OfEdits = record { rows = λ ds es q o. c.edits_make_the_tables.ensures.rows ds es q o; made = λ ds es now o h. c.edits_make_the_tables.ensures.made ds es now o h } in
    serial_tables laws es schema vars sts
