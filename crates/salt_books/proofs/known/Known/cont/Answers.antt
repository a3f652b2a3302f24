use Rattle.law_states.specs.Rising.{Rising}
use Rattle.salt_books.proofs.Found.{cont_in-find}
use Rattle.salt_books.proofs.Ordered.{rising-of}
use Rattle.salt_books.proofs.Shown.{known-shown}
use Rattle.salt_books.proofs.known.Known.cont.Goals as goal
use Rattle.salt_books.specs.Bases.{bases_in}
use Rattle.salt_values.specs.Id.{is_same_id}
use Rattle.salt_values.specs.declared.cont.Cont.{Cont}
use Rattle.std.proofs.Common.{List, ap, subst, sym, ◌∙◌}
use Rattle.std.specs.List.{find}

pub returns : goal.returns
returns c = λ k h.
    let same = known-shown _ _ k c.self.view_is h in
    c.cont_among.ensures ∙ ap (λ (cs : List Cont). find (λ (x : Cont). is_same_id c.args.base x.base) cs) (c.as_slice.ensures ∙ same.conts)
    ∙ cont_in-find c.args.base k.conts

pub cont_among-requires : goal.cont_among-requires
cont_among-requires c = λ is. subst (λ (l : List Cont). Rising (bases_in l)) (sym c.as_slice.ensures) (rising-of (bases_in c.self.inside.conts) (c.self.invariant.0 is))
