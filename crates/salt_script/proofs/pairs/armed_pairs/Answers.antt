use Rattle.std.proofs.Common.{None, [], ap, refl, subst, sym, ◌++◌, ◌∙◌, ◌∷◌, ◌≡◌}
use Rattle.salt_script.proofs.Keeping.{holds_whole}
use Rattle.salt_script.proofs.Reading.{front_more, front_none, no_pair, pair_read, with_front}
use Rattle.salt_script.proofs.pairs.armed_pairs.Goals as goal
use Rattle.salt_script.specs.Answers.{GivesOrLimit}
use Rattle.salt_script.specs.Literals.{HoldsPairs, ended_at, pairs_at, pairs_passed}
use Rattle.salt_ast.specs.Symbols.{symbols_in}
use Rattle.std.specs.Prelude.{Ok}

pub pairs-init : goal.pairs-init
pairs-init c =
    ([], holds_whole (pairs_passed c.args.armed) None c.new.result [] refl refl c.new.ensures, front_none (pairs_at (symbols_in c.args.tokens.now)), refl)

pub pairs-preserved : goal.pairs-preserved
pairs-preserved c =
    let next = c.in_ok-take.ensures.taken (ap Ok c.if-branch.true) in
    let read = c.pairs.invariant.0 in (
      read ++ next.pair ∷ [],
      next.holds read c.pairs.invariant.1,
      c.pairs.invariant.2 ∙ ap (with_front read) (pair_read (symbols_in c.pairs.arming.rest.now) next.pair (symbols_in c.take.new.self.rest.now) next.read)
          ∙ front_more read next.pair (pairs_at (symbols_in c.take.new.self.rest.now)),
      next.armed ∙ c.pairs.invariant.3,
    )

pub returns : goal.returns
returns c =
    let stays = c.in_ok-take.ensures.stays (ap Ok c.if-branch.false) in
    let read = c.pairs.invariant.0 in
    let held : HoldsPairs c.take.new.self read = rw stays.1 c.pairs.invariant.1 in
    let ended : ended_at read (symbols_in c.pairs.arming.rest.now) ≡ ended_at read (symbols_in c.take.new.self.rest.now) = rw stays.1 refl in
    let is = c.pairs.invariant.2 ∙ no_pair read (symbols_in c.pairs.arming.rest.now) stays.0 ∙ ended in
    let same : c.take.new.self.armed ≡ c.args.armed = rw stays.1 c.pairs.invariant.3 in
    subst (λ a. GivesOrLimit (pairs_passed a) c.close.result (pairs_at (symbols_in c.args.tokens.now))) same
    (subst (GivesOrLimit (pairs_passed c.take.new.self.armed) c.close.result) (sym is) (c.close.ensures read held))
