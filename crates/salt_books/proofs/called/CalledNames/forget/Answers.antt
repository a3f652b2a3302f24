use Rattle.salt_books.proofs.Calls.{told-anew}
use Rattle.salt_books.proofs.called.CalledNames.forget.Goals as goal
use Rattle.salt_books.specs.Called.{name_told}
use Rattle.std.proofs.Common.{None}

pub returns : goal.returns
returns c = λ b. told-anew c.args.base b None (name_told c.args.self.now b) _ (c.remove.ensures.updates.0 b)
