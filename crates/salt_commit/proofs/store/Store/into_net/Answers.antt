use Rattle.salt_commit.proofs.store.Store.into_net.Goals as goal
use Rattle.salt_commit.specs.Messages.{IsAtRest, net_of}
use Rattle.salt_commit.specs.declared.store.Store.{Store}
use Rattle.salt_net.specs.Paces.{Pace, turning_of}
use Rattle.salt_net.specs.Turns.{Turning}
use Rattle.salt_turns.specs.Amid.{Rests}
use Rattle.std.proofs.Common.{Option, Some, ap, subst, sym, ◌++◌, ◌∙◌}
use Rattle.std.proofs.lemmas.List.{append-nil}
use Rattle.std.specs.Prelude.{IfSome, option_map}

pub returns : goal.returns
returns c =
    let m : Pace = c.in-Some.messages in
    let was = subst (λ (x : Store). IsAtRest x) (sym c.self.view_is) c.requires in
    let rests : Rests m = subst (λ (o : Option Pace). IfSome o Rests) c.in-Some.is was in
    ap Some (c.into_net.ensures ∙ sym (ap (λ es. m.done ++ es) rests.ahead ∙ append-nil m.done))
    ∙ sym (ap (λ (o : Option Pace). option_map (λ (t : Turning). t.events) (option_map turning_of o)) c.in-Some.is)
    ∙ ap (λ (x : Store). option_map (λ (t : Turning). t.events) (net_of x)) c.self.view_is
