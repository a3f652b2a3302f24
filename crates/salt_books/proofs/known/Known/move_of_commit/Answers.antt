use Rattle.law_states.specs.Rising.{Rising}
use Rattle.salt_books.proofs.Ordered.{rising-of}
use Rattle.salt_books.proofs.Shown.{known-shown}
use Rattle.salt_books.proofs.known.Known.move_of_commit.Goals as goal
use Rattle.salt_model.specs.Kept.{conts_committed}
use Rattle.salt_books.specs.Bases.{bases_in}
use Rattle.salt_values.specs.declared.cont.Cont.{Cont}
use Rattle.std.proofs.Common.{List, Some, ap, subst, sym, ◌+◌, ◌∙◌}
use Rattle.std.proofs.lemmas.Result.{IfOk-weaker}

pub returns : goal.returns
returns c = IfOk-weaker c.move_of_commit.result _ _ (λ made f k h at can.
    let same = known-shown _ _ k c.self.view_is h in
    let number = c.in_ok-number.ensures ∙ ap (λ n. n + 1) same.decisions in
    f k same.catalogue (c.as_slice.ensures ∙ same.conts) number at can
    ∙ ap (λ n. Some (conts_committed k n c.args.kind.now c.args.vars.now)) number) c.move_of_commit.ensures

pub move_of_commit-requires-clause-ordered : goal.move_of_commit-requires-clause-ordered
move_of_commit-requires-clause-ordered c = λ is. subst (λ (l : List Cont). Rising (bases_in l)) (sym c.as_slice.ensures) (rising-of (bases_in c.self.inside.conts) (c.self.invariant.0 is))
