use Rattle.law_states.specs.Rising.{Rising}
use Rattle.salt_books.proofs.Found.{cont_in-find}
use Rattle.salt_books.proofs.Made.{added, replaced}
use Rattle.salt_books.proofs.Ordered.{found-there, none-found, none-in, one-replaced, rising-more, same-bases, there-in}
use Rattle.salt_books.proofs.conts.go_in_order.Goals as goal
use Rattle.salt_books.specs.Bases.{bases_in}
use Rattle.salt_values.specs.Id.{is_older, is_same_id}
use Rattle.salt_values.specs.declared.cont.Cont.{Cont}
use Rattle.std.proofs.Common.{List, ap, false, get_or, length, subst, sym, true, ℕ, ◌<◌, ◌∙◌, ◌≡◌}

pub returns-in-Some-clause-moved : goal.returns-in-Some-clause-moved
returns-in-Some-clause-moved c = λ cs moves.
    let x = c.args.cont in
    let old = c.args.conts.now in
    let there = c.place_of.ensures.there c.in-Some.at c.in-Some.is in
    let least = subst (λ (l : List Cont). c.in-Some.at < length l) c.as_slice.ensures there.0 in
    let same = subst (λ (l : List Cont). is_same_id x.base (get_or l c.in-Some.at x).base ≡ true) c.as_slice.ensures (there.1 x) in
    let rises = c.requires in
    c.set.ensures ∙ (sym (one-replaced x old c.in-Some.at x rises least same)
    ∙ replaced x old cs (there-in x.base old (get_or old c.in-Some.at x) (found-there x.base old c.in-Some.at x rises least same) (sym (cont_in-find x.base old))) moves)

pub returns-in-Some-clause-rising : goal.returns-in-Some-clause-rising
returns-in-Some-clause-rising c = λ known.
    let x = c.args.cont in
    let old = c.args.conts.now in
    let there = c.place_of.ensures.there c.in-Some.at c.in-Some.is in
    let least = subst (λ (l : List Cont). c.in-Some.at < length l) c.as_slice.ensures there.0 in
    let same = subst (λ (l : List Cont). is_same_id x.base (get_or l c.in-Some.at x).base ≡ true) c.as_slice.ensures (there.1 x) in
    subst Rising (sym (ap bases_in c.set.ensures ∙ same-bases x old c.in-Some.at x least same)) c.requires

pub returns-in_ok-push-in-None-clause-moved : goal.returns-in_ok-push-in-None-clause-moved
returns-in_ok-push-in-None-clause-moved c = λ cs moves.
    let x = c.args.cont in
    let old = c.args.conts.now in
    let none = subst (λ (l : List Cont). (k : ℕ) (d : Cont) → k < length l → is_same_id x.base (get_or l k d).base ≡ false) c.as_slice.ensures (c.place_of.ensures.none c.in-None.is) in
    c.in_ok-push-in-None.ensures ∙ added x old cs (none-in x.base old (none-found x.base old none) (sym (cont_in-find x.base old))) moves

pub returns-in_ok-push-in-None-clause-rising : goal.returns-in_ok-push-in-None-clause-rising
returns-in_ok-push-in-None-clause-rising c = λ known.
    let x = c.args.cont in
    let old = c.args.conts.now in
    let older = subst (λ (l : List Cont). (k : ℕ) (d : Cont) → k < length l → is_older (get_or l k d).base x.base ≡ true) c.as_slice-in-None.ensures (c.are_all_older-last.ensures known) in
    subst (λ (l : List Cont). Rising (bases_in l)) (sym c.in_ok-push-in-None.ensures) (rising-more old x c.requires older)

pub set-requires : goal.set-requires
set-requires c = subst (λ (l : List Cont). c.in-Some.at < length l) c.as_slice.ensures (c.place_of.ensures.there c.in-Some.at c.in-Some.is).0
