use Rattle.salt_audit.proofs.telling.end_unit.Goals as goal
use Rattle.salt_audit.specs.Telling.{conts_ended}
use Rattle.salt_audit.specs.declared.state.Begun.{Begun}
use Rattle.std.proofs.Common.{Option, ap, refl, ◌∙◌}

pub returns : goal.returns
returns c =
    let s = c.args.state.now in
    record {
      opened = refl;
      schema = refl;
      programs = refl;
      conts = c.in_ok-end_part.ensures
          ∙ ap (λ (o : Option Begun). conts_ended s.catalogue c.args.how.now o s.conts) c.begun-note.ensures;
      units = λ u. c.close.ensures u;
      bases = refl;
      accepted = refl;
      finished = refl;
    }
