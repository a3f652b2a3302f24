use Rattle.salt_judge.proofs.readers.take_reads.Goals as goal
use Rattle.salt_judge.specs.ReadAfter.{released_by, sources_by}
use Rattle.salt_judge.specs.declared.reads.Opening.{Opening}
use Rattle.salt_judge.specs.declared.reads.Writing.{Writing}
use Rattle.std.proofs.Common.{List, ap, ◌∙◌}

pub returns : goal.returns
returns c =
    let l = c.args.ledger.now in
    let r = c.args.reads.now in
    let e = c.args.event.now in
    record {
      last = c.in_ok-note_commit.ensures;
      sources = λ u. c.in_ok-note_sources.ensures u ∙ ap (λ (ws : List Writing). sources_by e l ws r.sources u) c.as_slice.ensures.value;
      released = λ b. c.in_ok-note_released.ensures b ∙ ap (λ (os : List Opening). released_by e l.state.bases os r.released b) c.as_slice-2.ensures;
      openings = c.in_ok-note_opening.ensures;
      parts = λ b. c.in_ok-note_parts.ensures b;
    }
