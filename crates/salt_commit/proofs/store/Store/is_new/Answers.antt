use Rattle.salt_commit.proofs.Turned.{not_started}
use Rattle.salt_commit.proofs.store.Store.is_new.Goals as goal
use Rattle.salt_commit.specs.Messages.{IsNewIn}
use Rattle.salt_commit.specs.declared.store.Store.{Store}
use Rattle.salt_net.specs.Nets.{state_of}
use Rattle.salt_turns.specs.Amid.{IsUnknown}
use Rattle.std.proofs.Common.{subst, sym}
use Rattle.std.specs.Prelude.{IfSome}

pub returns-in-Some : goal.returns-in-Some
returns-in-Some c is =
    let unit = c.args.unit in
    subst (λ (y : Store). IsNewIn y unit) c.self.view_is (subst (λ o. IfSome o (IsUnknown unit)) (sym c.in-Some.is) (not_started ((state_of c.in-Some.messages.done).polls unit) (c.is_unknown.ensures is)))
