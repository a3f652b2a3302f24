use Rattle.salt_books.proofs.Ordered.{in-order, rising-of}
use Rattle.salt_books.proofs.Shown.{known-shown}
use Rattle.salt_books.proofs.known.Known.commit.Goals as goal
use Rattle.salt_books.specs.Bases.{bases_in}
use Rattle.salt_stands.specs.OpenConts.{make_move}
use Rattle.std.proofs.Common.{List, ap, false, refl, true, ◌≡◌, ◌∙◌}
use Rattle.salt_values.specs.declared.cont.Cont.{Cont}

pub returns : goal.returns
returns c = λ k conts h moves es.
    let same = known-shown _ _ k c.self.view_is h in
    record {
      schema = same.schema;
      catalogue = same.catalogue;
      conts = c.in_ok-rising.ensures.moved conts (ap (λ (cs : List Cont). make_move cs c.args.made) same.conts ∙ moves);
      boot = same.boot;
      decisions = refl;
    }

pub make_move-requires : goal.make_move-requires
make_move-requires c = λ is. rising-of (bases_in c.self.inside.conts) (c.self.invariant.0 is)

never : false ≡ true → ⊥
never h = cc

pub invariant_of-self : goal.invariant_of-self
invariant_of-self c = (λ is. absurd (never is), c.self.invariant.1)

pub invariant_of-self-2 : goal.invariant_of-self-2
invariant_of-self-2 c = (λ is. in-order (bases_in c.make_move.new.conts) (c.in_ok-rising.ensures.rising is), c.self.invariant.1)
