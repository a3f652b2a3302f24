use Rattle.salt_audit.proofs.telling.begin.Goals as goal
use Rattle.salt_audit.specs.Standing.{begun_in}
use Rattle.salt_audit.specs.Telling.{with_base}
use Rattle.salt_audit.specs.declared.state.Begun.{Begun}
use Rattle.salt_values.specs.Id.{is_same_id}
use Rattle.salt_values.specs.declared.id.Id.{Id}
use Rattle.std.proofs.Common.{Option, Some, ap, if◌then◌else◌, refl, ◌∙◌}

pub returns : goal.returns
returns c =
    let s = c.args.state.now in
    record {
      opened = refl;
      schema = refl;
      programs = refl;
      conts = refl;
      units = λ u. c.in_ok-add.ensures u ∙ ap (λ (n : Begun). if is_same_id u n.name then Some n else begun_in u s.units) c.in_ok-note.ensures;
      bases = c.in_ok-name_base.ensures ∙ ap (λ (o : Option Id). with_base o s.bases) c.program_of-base.ensures;
      accepted = refl;
      finished = refl;
    }
