use Rattle.law_states.specs.Rising.{Rising}
use Rattle.salt_books.proofs.Ordered.{rising-of}
use Rattle.salt_books.proofs.known.Known.bases.Goals as goal
use Rattle.salt_books.specs.Bases.{bases_in}
use Rattle.salt_values.specs.declared.cont.Cont.{Cont}
use Rattle.std.proofs.Common.{List, subst, sym}

pub bases_among-requires : goal.bases_among-requires
bases_among-requires c = λ is. subst (λ (l : List Cont). Rising (bases_in l)) (sym c.as_slice.ensures) (rising-of (bases_in c.self.inside.conts) (c.self.invariant.0 is))
