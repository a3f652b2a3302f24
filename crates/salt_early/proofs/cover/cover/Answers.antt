use Rattle.law_states.specs.KeptLocks.{Numbered, numbered_from}
use Rattle.law_states.specs.Members.{SameMembers}
use Rattle.salt_early.proofs.Each.{taken_none}
use Rattle.salt_early.proofs.Fronts.{front}
use Rattle.salt_early.proofs.cover.cover.Goals as goal
use Rattle.salt_model.specs.Locks.{cover_of}
use Rattle.salt_values.specs.declared.id.Id.{Id}
use Rattle.std.proofs.Common.{List, Option, [], ap, subst, sym, ◌∙◌}
use Rattle.std.proofs.lemmas.Result.{IfOk-weaker}
use Rattle.std.specs.Option.{option_copied}

pub returns-in-Some : goal.returns-in-Some
returns-in-Some c =
    let tables = c.args.tables.now in
    let is = sym (ap option_copied c.in-Some.is) ∙ (c.first.ensures.value ∙ front c.args.named.now) in
    IfOk-weaker c.covered_by.result _ _
    (λ locks same. subst (λ (o : Option Id). SameMembers locks (numbered_from 0 (cover_of [] tables o))) is same) c.covered_by.ensures

pub returns-in-None : goal.returns-in-None
returns-in-None c =
    let tables = c.args.tables.now in
    let is = sym (ap option_copied c.in-None.is) ∙ (c.first.ensures.value ∙ front c.args.named.now) in
    subst (λ (o : Option Id). SameMembers c.new.result (numbered_from 0 (cover_of [] tables o))) is
    (subst (λ (table : List Numbered). SameMembers c.new.result table) c.new.ensures (taken_none c.new.result))
