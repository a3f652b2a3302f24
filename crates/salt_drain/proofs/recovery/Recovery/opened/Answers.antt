use Rattle.salt_drain.proofs.recovery.Recovery.opened.Goals as goal
use Rattle.law_states.specs.Follows.{cut_in}
use Rattle.salt_drain.proofs.Chosen.{cuts-drain, cuts-first, cuts-wait, gives-same, none-open, nothing, rest-plain, told}
use Rattle.salt_ast.specs.declared.lines.Line.TheVariants.{Nothing}
use Rattle.salt_books.proofs.Named.{rising}
use Rattle.salt_books.proofs.Shown.{have-unit}
use Rattle.salt_books.proofs.States.{books-by, state_by}
use Rattle.salt_books.specs.Held.{seen}
use Rattle.salt_drain.proofs.Sound.{cut-open}
use Rattle.std.proofs.Common.{subst, sym}
use Rattle.std.specs.Prelude.{IsSome, [], length, ◌<◌, ◌≡◌, ◌≤◌}

pub cut-requires : goal.cut-requires
cut-requires c =
    let x = c.args.self.now.books in
    let s = state_by x Nothing in
    have-unit x s c.in-Some.unit (seen c.in-Some-unit_named.field-0.now) (books-by x Nothing) (sym (c.in-Some-unit_named.ensures s (books-by x Nothing)))

pub returns-in-Some-unit_named : goal.returns-in-Some-unit_named
returns-in-Some-unit_named c = λ s stands r.
    told s _ _ _ (rest-plain s.units) (gives-same s _ _ _ _ (cuts-first s.units c.in-Some.unit (cut_in s.units) (c.in-Some.ensures s.units stands.books (rising s r.sound))) (c.cut.ensures s stands r))

pub returns-in-None-unit_named : goal.returns-in-None-unit_named
returns-in-None-unit_named c = λ s stands r.
    let no = subst IsSome (sym (c.in-None-unit_named.ensures s.units stands.books)) (cut-open s c.in-Some.unit r (sym (c.in-Some.ensures s.units stands.books (rising s r.sound)))) in cc

pub returns-then-count-gt0 : goal.returns-then-count-gt0
returns-then-count-gt0 c = λ s stands r.
    let open_units = c.count.ensures s.units stands.books in
    let more : 0 < c.count.result = c.if-count-gt0.true in
    let some : 0 < length s.units.units = subst (λ n. 0 < n) open_units more in
    nothing s _ _ (cuts-wait s.units (cut_in s.units) (sym (c.in-None.ensures s.units stands.books (rising s r.sound))) some) stands

pub returns-in_ok-drain-in-None : goal.returns-in_ok-drain-in-None
returns-in_ok-drain-in-None c = λ s stands r.
    let open_units = c.count.ensures s.units stands.books in
    let less : c.count.result ≤ 0 = c.if-count-gt0.false in
    let none : s.units.units ≡ [] = none-open s.units.units (subst (λ n. n ≤ 0) open_units less) in
    told s _ _ _ (rest-plain s.units)
    (gives-same s _ _ _ _ (cuts-drain s.units (cut_in s.units) (sym (c.in-None.ensures s.units stands.books (rising s r.sound))) none)
    (c.in_ok-drain-in-None.ensures s stands r none))
