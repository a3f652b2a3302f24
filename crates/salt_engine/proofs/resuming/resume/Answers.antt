use Rattle.law_states.specs.KeptLocks.{numbered_from}
use Rattle.law_states.specs.Members.{SameMembers}
use Rattle.law_states.specs.UnitFacts.{covered_by}
use Rattle.salt_books.specs.Known.{IsKnown}
use Rattle.salt_books.specs.declared.known.Known.{Known}
use Rattle.salt_conflicts.specs.Watched.{GoesBy}
use Rattle.salt_engine.proofs.Resumed.{goes-on-early}
use Rattle.salt_engine.proofs.resuming.resume.Goals as goal
use Rattle.salt_model.specs.declared.events.Event.TheVariants.{Early}
use Rattle.salt_model.specs.declared.locks.Lock.{Lock}
use Rattle.salt_values.specs.declared.id.Id.{Id}
use Rattle.std.proofs.Common.{ap, subst, sym, ◌∙◌}
use Rattle.std.specs.Prelude.{List, length}

pub returns : goal.returns
returns c = λ f bs s at covers.
    let k = s.units.kept in
    let known = subst (λ (x : Known). IsKnown x k) (sym c.known-2.ensures) at.books.known in
    let r = c.in_ok-restored.ensures in
    let of = c.in_ok-restored.restored in
    let same = r.named k known ∙ sym at.unfinished in
    let cover = covers ∙ ap (λ (ps : List Id). covered_by k ps) (sym same) in
    let locks = subst (λ (ls : List Lock). SameMembers of.locks (numbered_from 0 ls)) (sym cover) (r.locks k known) in
    let taken = r.taken k known ∙ ap (λ (ls : List Lock). length ls) (sym cover) in
    let goes = subst (λ (ps : List Id). GoesBy f (Early ps) s.watch c.resumed-watch.result) same (c.resumed-watch.ensures s.watch f locks taken r.group) in
    goes-on-early c.args.books c.in_ok-called.called c.conts.result.now c.resumed-watch.result c.resumed-scheduler.result f bs s at
    (c.conts.ensures ∙ ap (λ (x : Known). x.conts) c.known.ensures ∙ at.books.known.conts) c.in_ok-called.ensures goes c.resumed-scheduler.ensures
