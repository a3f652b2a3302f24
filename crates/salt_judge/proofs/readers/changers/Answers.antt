use Rattle.salt_judge.proofs.Reading.{mapped_more}
use Rattle.salt_judge.proofs.readers.changers.Goals as goal
use Rattle.salt_judge.specs.ReadAfter.{is_written_within}
use Rattle.salt_judge.specs.declared.reads.Writing.{Writing}
use Rattle.salt_values.specs.declared.id.Id.{Id}
use Rattle.std.proofs.Common.{Bool, List, [], ap, arith, if◌then◌else◌, map, take, ◌++◌, ◌∙◌, ◌∷◌}
use Rattle.std.specs.List.{filter}

pub loop-writing-preserved : goal.loop-writing-preserved
loop-writing-preserved c =
    let w = c.writing-item.result in
    let last = c.args.last.now in
    let i = c.loop-writing.writing-index in
    let f : Writing → Id = λ (x : Writing). x.unit in
    let p = is_written_within c.in-Some.reach.now in
    c.in_ok-add_if.ensures
    ∙ ap (λ (t : Bool). c.loop-writing.ids ++ (if t then w.unit ∷ [] else [])) c.is_written_within-is.ensures
    ∙ ap (λ (us : List Id). us ++ (if p w then f w ∷ [] else [])) c.loop-writing.invariant
    ∙ ap (λ (x : Writing). map f (filter p (take i last)) ++ (if p x then f x ∷ [] else [])) c.writing-item.is ∙ mapped_more f p last i w (omega arith)
