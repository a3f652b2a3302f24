use Rattle.law_states.specs.Members.{In}
use Rattle.salt_deps.proofs.Leaving.{are-settled}
use Rattle.salt_deps.specs.Due.{AreComers, AreHeld, AreSettled, reads_done}
use Rattle.salt_deps.specs.Group.{reads_in}
use Rattle.salt_values.specs.Id.{has_id}
use Rattle.std.proofs.Common.{not, rules, subst, sym, ◌∙◌, ◌∷◌}
use Rattle.std.proofs.lemmas.Fn.{filter_same}
use Rattle.salt_deps.proofs.due.settled_from.Goals as goal

pub held-requires : goal.held-requires
held-requires c x i = subst (In x) (c.deref.ensures.value ∙ c.in_ok-names.ensures.items) i

pub returns : goal.returns
returns c =
    let reads = reads_in c.args.readings.now in
    let finished = c.args.base ∷ c.args.finished.now.keys in
    let found = c.in_ok-found.found.keys in
    let held = c.in_ok-held.held.items in
    let struck = c.in_ok-struck.struck.keys in
    subst (AreSettled reads finished) (sym (filter_same _ (λ b. not (has_id b struck)) _ (λ x b f' k. search rules) _ _ c.retain.ensures.filtered))
    (are-settled reads finished c.args.starts.now found held struck c.args.base c.requires.here c.requires.come c.in_ok-found.ensures
    (subst (λ l. AreHeld reads finished (c.args.base ∷ found) l held) (c.deref.ensures.value ∙ c.in_ok-names.ensures.items) c.in_ok-held.ensures)
    (subst (λ l. AreComers (reads_done reads finished) l struck) c.deref-2.ensures.value c.in_ok-struck.ensures))
