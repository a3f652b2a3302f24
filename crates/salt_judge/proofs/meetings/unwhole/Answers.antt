use Rattle.salt_judge.proofs.Reading.{mapped_more}
use Rattle.salt_judge.proofs.meetings.unwhole.Goals as goal
use Rattle.salt_judge.specs.Meetings.{has_committed}
use Rattle.salt_judge.specs.declared.met.Met.{Met}
use Rattle.salt_values.specs.declared.id.Id.{Id}
use Rattle.std.proofs.Common.{Bool, List, [], ap, arith, get_or, if◌then◌else◌, ◌++◌, ◌∙◌, ◌∷◌}

pub loop-met-preserved : goal.loop-met-preserved
loop-met-preserved c =
    let zero_id : Id = record { boot = 0; seq = 0 } in
    let none : Met = record { acid = zero_id; part = zero_id } in
    let all = c.as_slice-met-items.result.now in
    let i = c.loop-met.met-index in
    let m = get_or all i none in
    let f : Met → Id = λ (x : Met). x.acid in
    let p : Met → Bool = λ (x : Met). has_committed c.args.meetings.now.endings x.part in
    c.in_ok-add_if.ensures
    ∙ ap (λ (b : Bool). c.loop-met.ids ++ (if b then m.acid ∷ [] else [])) c.has_committed-is.ensures
    ∙ ap (λ (us : List Id). us ++ (if p m then f m ∷ [] else [])) c.loop-met.invariant ∙ mapped_more f p all i none (omega arith)
