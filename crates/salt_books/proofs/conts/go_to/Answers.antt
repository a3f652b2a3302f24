use Rattle.salt_books.proofs.Found.{cont_in-find}
use Rattle.salt_books.proofs.Made.{added, replaced}
use Rattle.law_states.specs.Rising.{Rising}
use Rattle.salt_books.proofs.Ordered.{rising-one}
use Rattle.salt_books.proofs.conts.go_to.Goals as goal
use Rattle.salt_books.specs.Bases.{bases_in}
use Rattle.salt_model.specs.Kept.{cont_in}
use Rattle.salt_values.specs.Id.{is_same_id}
use Rattle.salt_values.specs.declared.cont.Cont.{Cont}
use Rattle.salt_values.specs.declared.id.Id.{Id}
use Rattle.std.proofs.Common.{Bool, List, ap, false, subst, sym, true, ◌∙◌, ◌≡◌}
use Rattle.std.specs.List.{find}
use Rattle.std.specs.Prelude.{is_some}

-- whether the program of the continuation goes on
told : (b : Id) (lent now : List Cont) (has t : Bool) → lent ≡ now → has ≡ is_some (find (λ (d : Cont). is_same_id b d.base) lent) → has ≡ t → is_some (cont_in b now) ≡ t
told b lent now has t same says is =
    ap is_some (sym (cont_in-find b now) ∙ ap (λ (l : List Cont). find (λ (d : Cont). is_same_id b d.base) l) (sym same)) ∙ sym says ∙ is

pub returns-then-has_cont-clause-moved : goal.returns-then-has_cont-clause-moved
returns-then-has_cont-clause-moved c = λ cs moves.
    let there = told c.args.cont.base c.as_slice.result.now c.args.conts.now c.has_cont.result true c.as_slice.ensures c.has_cont.ensures c.if-has_cont.true in
    c.in_ok-replace_cont.ensures ∙ replaced c.args.cont c.args.conts.now cs there moves

pub returns-clause-rising : goal.returns-clause-rising
returns-clause-rising c = λ known.
    subst (λ (l : List Cont). Rising (bases_in l)) (sym c.in_ok-push.ensures) (rising-one c.args.conts.now c.args.cont (c.is_empty-first.ensures.0 known))

pub returns-clause-moved : goal.returns-clause-moved
returns-clause-moved c = λ cs moves.
    let none = told c.args.cont.base c.as_slice.result.now c.args.conts.now c.has_cont.result false c.as_slice.ensures c.has_cont.ensures c.if-has_cont.false in
    c.in_ok-push.ensures ∙ added c.args.cont c.args.conts.now cs none moves
