use Rattle.salt_drain.proofs.recovery.Recovery.serve.Goals as goal
use Rattle.salt_drain.proofs.Asked.{books-unlined, nothing-alike, unlined}
use Rattle.salt_drain.proofs.Chosen.{nothing, serve-brings}
use Rattle.salt_books.specs.Asking.{IsAsked}
use Rattle.salt_books.specs.declared.asking.Asking.{Asking}
use Rattle.std.proofs.Common.{Option, subst}
use Rattle.std.specs.Prelude.{refl}

pub returns-in-Some : goal.returns-in-Some
returns-in-Some c = λ s stands r parts.
    serve-brings s c.args.unit c.in_ok-asking.field-0 c.in-Some.asking _ c.in-Some.is stands r parts
    (c.in_ok-asking.ensures (unlined s.units) (books-unlined c.args.self.now.books s.units stands.books) refl)

pub returns : goal.returns
returns c = λ s stands r parts.
    nothing s _ _
    (nothing-alike s c.args.unit r parts (subst (λ (f : Option Asking). IsAsked (unlined s.units) c.args.unit f) c.in-None.is
    (c.in_ok-asking.ensures (unlined s.units) (books-unlined c.args.self.now.books s.units stands.books) refl)))
    stands
