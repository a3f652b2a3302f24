use Rattle.salt_early.proofs.Fronts.{front}
use Rattle.salt_early.proofs.cover.cover_count.Goals as goal
use Rattle.salt_model.specs.Locks.{cover_lock, cover_of}
use Rattle.salt_values.specs.declared.id.Id.{Id}
use Rattle.std.proofs.Common.{Option, [], ap, length, sym, ◌∙◌}
use Rattle.std.proofs.lemmas.List.{length-map}
use Rattle.std.specs.Option.{option_copied}

pub returns-in-Some : goal.returns-in-Some
returns-in-Some c =
    let tables = c.args.tables.now in
    let is = sym (ap option_copied c.in-Some.is) ∙ (c.first.ensures.value ∙ front c.args.named.now) in
    sym (length-map tables (cover_lock c.in-Some._first.now)) ∙ ap (λ (o : Option Id). length (cover_of [] tables o)) is

pub returns-in-None : goal.returns-in-None
returns-in-None c =
    let tables = c.args.tables.now in
    let is = sym (ap option_copied c.in-None.is) ∙ (c.first.ensures.value ∙ front c.args.named.now) in
    ap (λ (o : Option Id). length (cover_of [] tables o)) is
