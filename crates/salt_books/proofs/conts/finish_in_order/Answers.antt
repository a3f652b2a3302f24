use Rattle.law_states.specs.Rising.{Rising}
use Rattle.salt_books.proofs.Made.{finished}
use Rattle.salt_books.proofs.Ordered.{left-out, none-left-out, rising-removed}
use Rattle.salt_books.proofs.conts.finish_in_order.Goals as goal
use Rattle.salt_books.specs.Bases.{bases_in}
use Rattle.salt_values.specs.Id.{is_same_id}
use Rattle.salt_values.specs.declared.cont.Cont.{Cont}
use Rattle.salt_values.specs.declared.id.Id.{Id}
use Rattle.std.proofs.Common.{List, [], false, get_or, length, subst, sym, true, ℕ, ◌<◌, ◌∙◌, ◌≡◌}

-- one to be got where none is
none_of : Id → Cont
none_of b = record { base = b; accepted = 0; program = []; args = []; vars = []; next = 0; tries = 0 }

pub returns-in-Some-clause-moved : goal.returns-in-Some-clause-moved
returns-in-Some-clause-moved c = λ cs moves.
    let d = none_of c.args.base in
    let old = c.args.conts.now in
    let there = c.place_of.ensures.there c.in-Some.at c.in-Some.is in
    let least = subst (λ (l : List Cont). c.in-Some.at < length l) c.as_slice.ensures there.0 in
    let same = subst (λ (l : List Cont). is_same_id c.args.base (get_or l c.in-Some.at d).base ≡ true) c.as_slice.ensures (there.1 d) in
    c.remove.ensures ∙ (sym (left-out c.args.base old c.in-Some.at d c.requires least same) ∙ finished c.args.base old cs moves)

pub returns-in-Some-clause-rising : goal.returns-in-Some-clause-rising
returns-in-Some-clause-rising c =
    subst (λ (cs : List Cont). Rising (bases_in cs)) (sym c.remove.ensures) (rising-removed c.args.conts.now c.in-Some.at c.requires)

pub returns-in_default-clause-moved : goal.returns-in_default-clause-moved
returns-in_default-clause-moved c = λ cs moves.
    let none = subst (λ (l : List Cont). (k : ℕ) (d : Cont) → k < length l → is_same_id c.args.base (get_or l k d).base ≡ false) c.as_slice.ensures (c.place_of.ensures.none c.in_default.is) in
    sym (none-left-out c.args.base c.args.conts.now none) ∙ finished c.args.base c.args.conts.now cs moves

pub remove-requires : goal.remove-requires
remove-requires c = subst (λ (l : List Cont). c.in-Some.at < length l) c.as_slice.ensures (c.place_of.ensures.there c.in-Some.at c.in-Some.is).0
