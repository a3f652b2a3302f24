use Rattle.salt_transcript.proofs.Cutting.{cut_at, line_ends, no_end}
use Rattle.salt_transcript.proofs.front.line_in_front.Goals as goal
use Rattle.std.proofs.Common.{arith, sym, ◌∙◌}
use Rattle.std.proofs.lemmas.List.{length-take-le}

pub returns-in_default : goal.returns-in_default
returns-in_default c = no_end 0 c.args.bytes.now (sym c.line_end.ensures ∙ c.in_default.is)

pub slice_bounds-line-end : goal.slice_bounds-line-end
slice_bounds-line-end c =
    let ends = line_ends c.args.bytes.now c.in-Some.at (sym c.line_end.ensures ∙ c.in-Some.is) in
    let within = length-take-le c.in-Some.at c.args.bytes.now (omega (arith, ends.0)) in
    omega (arith, ends.0, within)

pub overflow_add-more : goal.overflow_add-more
overflow_add-more c = let ends = line_ends c.args.bytes.now c.in-Some.at (sym c.line_end.ensures ∙ c.in-Some.is) in omega (arith, ends.0)

pub slice_bounds-more-start : goal.slice_bounds-more-start
slice_bounds-more-start c = let ends = line_ends c.args.bytes.now c.in-Some.at (sym c.line_end.ensures ∙ c.in-Some.is) in omega (arith, ends.0)

pub slice_bounds-more-count : goal.slice_bounds-more-count
slice_bounds-more-count c = let ends = line_ends c.args.bytes.now c.in-Some.at (sym c.line_end.ensures ∙ c.in-Some.is) in omega (arith, ends.0)

pub returns : goal.returns
returns c = cut_at c.args.bytes.now c.in-Some.at (sym c.line_end.ensures ∙ c.in-Some.is)
