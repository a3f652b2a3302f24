use Rattle.salt_books.proofs.Ordered.{none-of}
use Rattle.salt_books.proofs.conts.place_of.Goals as goal
use Rattle.salt_values.specs.Id.{is_same_id}
use Rattle.salt_values.specs.declared.cont.Cont.{Cont}
use Rattle.std.proofs.Common.{length, subst, true, ℕ, ◌<◌, ◌≡◌}
use Rattle.std.specs.Prelude.{get_or}

pub returns-then-is_at-clause-there : goal.returns-then-is_at-clause-there
returns-then-is_at-clause-there c = λ k is.
    let h = c.is_at.ensures.there c.if-is_at.true in
    let same : c.count_older-at.result ≡ k = cc in
    subst (λ (j : ℕ). (j < length c.args.conts.now) × ((d : Cont) → is_same_id c.args.base (get_or c.args.conts.now j d).base ≡ true)) same h

pub returns-else-is_at-clause-none : goal.returns-else-is_at-clause-none
returns-else-is_at-clause-none c = λ is k d h.
    none-of c.args.base c.args.conts.now c.count_older-at.result c.requires c.count_older-at.ensures.counted (c.is_at.ensures.another c.if-is_at.false) k d h
