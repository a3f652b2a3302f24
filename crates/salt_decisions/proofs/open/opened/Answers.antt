use Rattle.salt_decisions.proofs.Keeping.{keeps_so}
use Rattle.salt_decisions.proofs.Moving.{open_read}
use Rattle.salt_decisions.proofs.open.opened.Goals as goal
use Rattle.salt_decisions.specs.Header.{numbered_of}
use Rattle.salt_decisions.specs.Moves.{moved_by}
use Rattle.salt_decisions.specs.Said.{text_of}
use Rattle.salt_stands.specs.OpenConts.{do_rise}
use Rattle.std.proofs.Common.{Some, ap, ◌∙◌}
use Rattle.std.specs.Prelude.{map}

pub returns-clause-holds : goal.returns-clause-holds
returns-clause-holds c l h =
    let r = c.args.log in (
      record {
        format = h.format;
        generation = h.generation;
        shape = h.shape;
        boot = h.says.boot;
        decisions = h.says.decisions;
        definitions = h.says.definitions;
        conts = open_read l r.format r.conts r.said.moves c.in_ok-going.going h.format h.conts h.says.moves
            (λ rises cs is. c.in_ok-going.ensures (ap do_rise c.as_slice-2.ensures ∙ rises) cs (ap (λ hs. moved_by r.format (Some hs) c.as_slice-3.result.now) c.as_slice-2.ensures ∙ ap (moved_by r.format (Some r.conts)) c.as_slice-3.ensures ∙ is));
        parts = h.parts;
      },
      keeps_so r l c.device.result h c.in_ok-texts.texts (c.in_ok-texts.ensures ∙ ap (map (λ d. text_of (numbered_of d))) c.as_slice.ensures),
    )
