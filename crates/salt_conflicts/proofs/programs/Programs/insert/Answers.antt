use Rattle.salt_conflicts.proofs.Naming.{pushed-rises, put-last, rising-at, rising-of, rising-put}
use Rattle.salt_conflicts.proofs.programs.Programs.insert.Goals as goal
use Rattle.law_states.specs.Rising.{Rising}
use Rattle.std.proofs.Common.{ap, subst, sym, ◌∙◌}
use Rattle.salt_values.specs.Id.{insert_id}

pub returns-then-are_older : goal.returns-then-are_older
returns-then-are_older c = c.in_ok-push.ensures.ok ∙ put-last c.args.self.now.names c.args.name (c.are_older.ensures c.if-are_older.true)

pub invariant_of-self : goal.invariant_of-self
invariant_of-self c = record { known = λ is. rising-at c.push.new.self (pushed-rises c.push.result c.args.self.now.names c.push.new.self c.args.name c.push.ensures.ok c.push.ensures.err (c.are_older.ensures c.if-are_older.true)) }

pub invariant_of-self-2 : goal.invariant_of-self-2
invariant_of-self-2 c =
    let all = c.from_vec.ensures ∙ (c.in_ok-insert_id.ensures ∙ ap (insert_id c.args.name) (c.into_vec-names.ensures ∙ c.replace.ensures.value)) in
    record { known = λ is. rising-at c.from_vec.result (subst Rising (sym all) (rising-put c.args.name c.args.self.now.names (rising-of c.args.self.now.names (c.args.self.now.known is)))) }
