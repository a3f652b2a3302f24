use Rattle.salt_books.proofs.Calls.{told-anew}
use Rattle.salt_books.proofs.called.CalledNames.call.Goals as goal
use Rattle.salt_books.specs.Called.{name_told}
use Rattle.salt_values.specs.Id.{is_same_id}
use Rattle.std.proofs.Common.{List, Some, ap, cond, ℕ, ◌∙◌}

pub returns : goal.returns
returns c = record {
  ok = λ b.
      told-anew c.args.base b (Some c.in_ok-name.name) (name_told c.args.self.now b) _ (c.in_ok-insert.ensures.updates.0 b)
      ∙ ap (λ (n : List ℕ). cond (is_same_id b c.args.base) (Some n) (name_told c.args.self.now b)) c.in_ok-name.ensures;
}
