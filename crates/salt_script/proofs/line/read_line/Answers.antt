use Rattle.std.proofs.Common.{ap, refl, sym, ◌∙◌}
use Rattle.std.specs.List.{list_all}
use Rattle.std.specs.Prelude.{Err}
use Rattle.salt_model.specs.Lines.{is_idle, is_line, is_line_byte, is_long}
use Rattle.salt_model.specs.declared.events.Refusal.TheVariants as refused
use Rattle.salt_script.proofs.Asking.{told, told_of}
use Rattle.salt_script.proofs.LineBytes.{bytes_within}
use Rattle.salt_script.proofs.line.read_line.Goals as goal

pub returns-then-text-gt-LINE_MOST-clause-refused : goal.returns-then-text-gt-LINE_MOST-clause-refused
returns-then-text-gt-LINE_MOST-clause-refused c = told c.args.text.now refused.Long (is_long c.if-text-gt-LINE_MOST.true)

pub returns-then-does_nothing-clause-line : goal.returns-then-does_nothing-clause-line
returns-then-does_nothing-clause-line c = is_idle c.if-text-gt-LINE_MOST.false (sym c.does_nothing.ensures ∙ c.if-does_nothing.true)

pub returns-in-Ok-clause-line : goal.returns-in-Ok-clause-line
returns-in-Ok-clause-line c = is_line (record {
  within = c.if-text-gt-LINE_MOST.false;
  does_something = sym c.does_nothing.ensures ∙ c.if-does_nothing.false;
  bytes = bytes_within c.args.text.now c.in-Ok.line c.in-Ok.ensures.found;
}) c.in-Ok.ensures.found

pub returns-in-Err-clause-refused : goal.returns-in-Err-clause-refused
returns-in-Err-clause-refused c = rw c.read_err.ensures (told_of c.args.text.now c.in-Err.e c.if-text-gt-LINE_MOST.false
    (sym c.does_nothing.ensures ∙ c.if-does_nothing.false) (list_all is_line_byte c.args.text.now) refl
    (λ e. c.in-Err.ensures.syntax (ap Err e)) (λ l e. c.in-Err.ensures.limit l (ap Err e)))
