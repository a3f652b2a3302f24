use Rattle.salt_books.proofs.Defining.{programs-with-table, tables-with-table}
use Rattle.salt_books.proofs.Shown.{known-shown}
use Rattle.salt_books.proofs.known.Known.define_table.Goals as goal
use Rattle.std.proofs.Common.{[], ap, sym, ◌+◌, ◌++◌, ◌∙◌, ◌∷◌}

pub returns-in-Ok-clause-kept : goal.returns-in-Ok-clause-kept
returns-in-Ok-clause-kept c = λ k h.
    let same = known-shown _ _ k c.self.view_is h in
    let d = c.args.def.now in
    record {
      schema = c.in-Ok.ensures.ok ∙ (λ i. same.schema i ++ c.in_ok-def.ensures i ∷ []) ∙ sym (tables-with-table k.definitions d);
      catalogue = same.catalogue ∙ sym (programs-with-table k.definitions d);
      conts = same.conts;
      boot = same.boot;
      decisions = c.in_ok-number.ensures ∙ ap (λ n. n + 1) same.decisions;
    }
