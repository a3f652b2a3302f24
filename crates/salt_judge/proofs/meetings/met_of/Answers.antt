use Rattle.salt_judge.proofs.Reading.{mapped_more}
use Rattle.salt_judge.proofs.meetings.met_of.Goals as goal
use Rattle.salt_judge.specs.Meetings.{met_as}
use Rattle.salt_judge.specs.declared.met.Met.{Met}
use Rattle.salt_judge.specs.declared.met.Touch.{Touch}
use Rattle.salt_model.specs.Locks.{touches}
use Rattle.std.proofs.Common.{Bool, List, [], ap, arith, if◌then◌else◌, map, take, ◌++◌, ◌∙◌, ◌∷◌}
use Rattle.std.specs.List.{filter}

pub loop-touch-preserved : goal.loop-touch-preserved
loop-touch-preserved c =
    let t = c.touch-item.result in
    let taken = c.args.taken.now in
    let i = c.loop-touch.touch-index in
    let f : Touch → Met = met_as c.args.acid in
    let p : Touch → Bool = λ (x : Touch). touches x.reach c.in-Some.reach.now in
    c.in_ok-add_met.ensures
    ∙ ap (λ (b : Bool). c.loop-touch.met ++ (if b then f t ∷ [] else [])) c.touches-is.ensures
    ∙ ap (λ (ms : List Met). ms ++ (if p t then f t ∷ [] else [])) c.loop-touch.invariant
    ∙ ap (λ (x : Touch). map f (filter p (take i taken)) ++ (if p x then f x ∷ [] else [])) c.touch-item.is ∙ mapped_more f p taken i t (omega arith)
