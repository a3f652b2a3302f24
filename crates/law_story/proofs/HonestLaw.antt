-- The law: a played trace is honest, through every stop.
use Rattle.law_story.proofs.Ids.{is_same_id-refl}
use Rattle.law_story.proofs.Replays.{good-event, quiet, replays}
use Rattle.salt_model.specs.Honest.{AnswersReplay, FailsOnce, FitsEnd, IsHonest}
use Rattle.salt_model.specs.Everywhere.{Always, Each}
use Rattle.salt_model.specs.Trace.{Trace, from, ◌asks◌, ◌says◌, ◌turns◌}
use Rattle.salt_model.specs.Played.{IsPlayed}
use Rattle.salt_model.specs.declared.events.Event.TheVariants.{Did, Ended}
use Rattle.std.proofs.Common.{subst, sym, ◌∙◌}
use Rattle.std.specs.Prelude.{refl}

fails-once : (trace : Trace) → IsPlayed trace → Each FailsOnce trace
fails-once (from k) p = tt
fails-once (trace asks line) p = fails-once trace p.0
fails-once (trace turns b) p = fails-once trace p.0
fails-once (trace says Did u st a) p =
    let inv = replays trace p.0 in
    let g = good-event trace (Did u st a) inv p.1 in
    (fails-once trace p.0, (inv.base.each u g.0).causes ∙ quiet trace (Did u st a) inv p.1 u g.0 (rw (is_same_id-refl u) refl) refl)
fails-once (trace says Ended u end) p =
    let inv = replays trace p.0 in
    let g = good-event trace (Ended u end) inv p.1 in
    (fails-once trace p.0, subst (FitsEnd end) (sym (inv.base.each u g.0).causes) g.1)
fails-once (trace says e) p = (fails-once trace p.0, tt)

here : (trace : Trace) → IsPlayed trace → AnswersReplay trace
here trace p u o = ((replays trace p).base.each u o).answers

always : (trace : Trace) → IsPlayed trace → Always AnswersReplay trace
always (from k) p = here (from k) p
always (trace asks line) p = (always trace p.0, here (trace asks line) p)
always (trace turns b) p = (always trace p.0, here (trace turns b) p)
always (trace says e) p = (always trace p.0, here (trace says e) p)

pub honest : (trace : Trace) → IsPlayed trace → IsHonest trace
honest trace p = record { replays = always trace p; fails_once = fails-once trace p }
