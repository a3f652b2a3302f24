use Rattle.salt_books.specs.declared.known.Known.{Known}
use Rattle.salt_engine.proofs.given.can_be_done.Goals as goal
use Rattle.salt_engine.specs.Giving.{CanBeDone}
use Rattle.salt_units.specs.Acting.{leaves_keys}
use Rattle.std.proofs.Common.{ap, subst, sym, ◌∙◌}

pub returns-in-Nothing : goal.returns-in-Nothing
returns-in-Nothing c = λ is. subst (CanBeDone c.args.books.now) (sym c.in-Nothing.is) tt

pub returns-in-Told : goal.returns-in-Told
returns-in-Told c = λ is. subst (CanBeDone c.args.books.now) (sym c.in-Told.is) tt

pub returns-else-not-is_open : goal.returns-else-not-is_open
returns-else-not-is_open c = λ is.
    subst (CanBeDone c.args.books.now) (sym c.in-Act.is) (
      c.is_open.ensures c.if-not-is_open.false,
      ap (λ ts. leaves_keys ts c.in-Act.asking.statement) (sym (c.schema.ensures ∙ ap (λ (x : Known). x.schema) c.known.ensures)) ∙ ap (leaves_keys c.schema.result.now) (sym c.get.ensures) ∙ sym c.leaves_keys.ensures ∙ is,
    )

pub returns-in-Commit : goal.returns-in-Commit
returns-in-Commit c = λ is. subst (CanBeDone c.args.books.now) (sym c.in-Commit.is) (c.is_open-in-Commit.ensures is)

pub returns-in-Branch : goal.returns-in-Branch
returns-in-Branch c = λ is. subst (CanBeDone c.args.books.now) (sym c.in-Branch.is) (c.is_open-in-Branch.ensures is)
