use Rattle.law_texts.specs.EventLines.{Inline}
use Rattle.salt_audit.specs.Transcripts.{text_so_far}
use Rattle.salt_transcript.proofs.pieces.Pieces.next.Goals as goal
use Rattle.salt_transcript.proofs.Coming.{at_hand, inline_joined, line_taken, line_told, settles_before}
use Rattle.std.proofs.Common.{List, Ok, ap, append-nil, arith, length, refl, subst, sym, ℕ, ◌++◌, ◌∙◌, ◌∷◌}
use Rattle.std.proofs.lemmas.List.{length-append}

pub lines-init : goal.lines-init
lines-init c = record { leads = c.requires; come = λ before h. (before, h, refl) }

pub next-requires : goal.next-requires
next-requires c = c.lines.invariant.leads

pub lines-smaller : goal.lines-smaller
lines-smaller c =
    let long = ap length c.in-Some.ensures.text in
    let parts = length-append c.in-Some.line.now (10 ∷ c.in-Some.more.now) in
    omega (arith, long, parts)

pub returns-in_default-clause-goes_on : goal.returns-in_default-clause-goes_on
returns-in_default-clause-goes_on c = λ is before come.
    let known = c.lines.invariant.come before come in
    at_hand c.lines.self _ (before ++ c.args.piece.now) known.0 c.lines.left.now known.1 known.2 c.in_default.ensures refl c.in_ok-extend_from_slice.ensures.items

pub returns-in-Some-2-clause-ends : goal.returns-in-Some-2-clause-ends
returns-in-Some-2-clause-ends c = λ before more come.
    let known = c.lines.invariant.come before come in
    let rest = c.lines.self.rest.items in
    let line = c.in-Some.line.now in
    let behind = c.in-Some.more.now in
    let joined = c.as_slice.ensures.value ∙ c.in_ok-extend_from_slice-2.ensures.items in
    let ends = rw c.in-Some-2.is at c.in_ok-verdict.ensures.ends in
    settles_before (before ++ (c.args.piece.now ++ more)) behind more c.in-Some-2.verdict
    (ends known.1.so_far known.1.read (before ++ (c.args.piece.now ++ more)) (behind ++ more)
    (subst Inline (sym joined) (inline_joined c.lines.self known.0 line known.1 c.in-Some.ensures.inline))
    (line_told before c.args.piece.now known.0 c.lines.left.now (text_so_far known.1.so_far) rest line behind known.2 known.1.text c.in-Some.ensures.text c.as_slice.result.now joined more))

pub lines-preserved : goal.lines-preserved
lines-preserved c =
    let joined = c.as_slice.ensures.value ∙ c.in_ok-extend_from_slice-2.ensures.items in
    record {
      leads = c.in_ok-verdict.ensures.leads;
      come = λ before come.
          let known = c.lines.invariant.come before come in
          let goes = c.in_ok-verdict.ensures.goes_on (ap Ok c.in_default-2.is) known.1.so_far known.1.read in (
            text_so_far goes.now,
            record {
              so_far = goes.now;
              read = goes.read;
              inline = subst Inline (sym c.clear.ensures.items) tt;
              text = sym (ap (λ (l : List ℕ). text_so_far goes.now ++ l) c.clear.ensures.items ∙ append-nil (text_so_far goes.now));
            },
            line_taken before c.args.piece.now known.0 c.lines.left.now (text_so_far known.1.so_far) c.lines.self.rest.items c.in-Some.line.now c.in-Some.more.now known.2 known.1.text
                c.in-Some.ensures.text c.as_slice.result.now joined (text_so_far goes.now) goes.text,
          );
    }
