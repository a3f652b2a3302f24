use Rattle.salt_books.proofs.Ordered.{in-order, rising-none}
use Rattle.salt_books.proofs.known.Known.new.Goals as goal
use Rattle.law_states.specs.Rising.{AreInOrder}
use Rattle.salt_books.specs.Bases.{bases_in}
use Rattle.salt_values.specs.declared.cont.Cont.{Cont}
use Rattle.std.proofs.Common.{List, subst, sym}

pub invariant_of-result : goal.invariant_of-result
invariant_of-result c = (
  λ is. subst (λ (cs : List Cont). AreInOrder (bases_in cs)) (sym c.from_items.ensures) (in-order (bases_in c.args.conts) (rising-none c.args.conts (c.is_empty-rising.ensures.0 is))),
  c.requires,
)
