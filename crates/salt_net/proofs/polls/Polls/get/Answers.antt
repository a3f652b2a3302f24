use Rattle.salt_net.proofs.Lists.{same_true}
use Rattle.salt_net.proofs.polls.Polls.get.Goals as goal
use Rattle.salt_values.specs.Order.{id_cmp}
use Rattle.salt_values.specs.declared.id.Id.{Id}
use Rattle.std.proofs.Common.{Some, subst, sym, ◌≡◌}
use Rattle.std.specs.BTreeMap.{get}

pub returns-then-eq : goal.returns-then-eq
returns-then-eq c =
    let same = same_true c.in-Some.name c.args.unit (sym c.if-eq.ensures) in
    sym (subst (λ (u : Id). get id_cmp c.args.self.now.by_name u ≡ Some c.in-Some.kept) same (c.args.self.now.at_hand c.in-Some.name c.in-Some.kept c.in-Some.is))
