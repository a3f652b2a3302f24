use Rattle.salt_database.proofs.Found.{found-again}
use Rattle.salt_database.proofs.OpeningActs.{on-err}
use Rattle.salt_database.proofs.opening.Opening.find_behind.Goals as goal
use Rattle.salt_engine.proofs.Outcome.{not-ok}
use Rattle.std.proofs.Common.{refl}

pub returns-clause-found : goal.returns-clause-found
returns-clause-found g c = λ x a b is left. found-again _ x a b c.in_ok-numbers.numbers _ _ refl is c.in_ok-numbers.ensures.numbers (c.in_ok-numbers.ensures.holds a b left)

pub returns-in_err-numbers-clause-found : goal.returns-in_err-numbers-clause-found
returns-in_err-numbers-clause-found g c = not-ok _ _ c.from_residual.result c.from_residual.ensures.1

pub returns-in_err-numbers-clause-stage : goal.returns-in_err-numbers-clause-stage
returns-in_err-numbers-clause-stage g c = refl

pub returns-in_err-numbers-clause-unfound : goal.returns-in_err-numbers-clause-unfound
returns-in_err-numbers-clause-unfound g c = on-err c.from_residual.result refl

pub returns-in_err-numbers-clause-leaves : goal.returns-in_err-numbers-clause-leaves
returns-in_err-numbers-clause-leaves g c = on-err c.from_residual.result c.in_err-numbers.ensures.leaves

pub returns-in_err-numbers-clause-single : goal.returns-in_err-numbers-clause-single
returns-in_err-numbers-clause-single g c = refl

pub returns-in_err-numbers-clause-flies : goal.returns-in_err-numbers-clause-flies
returns-in_err-numbers-clause-flies g c = refl

pub returns-in_err-numbers-clause-within : goal.returns-in_err-numbers-clause-within
returns-in_err-numbers-clause-within g c = c.reopen.ensures.within

pub returns-clause-stage : goal.returns-clause-stage
returns-clause-stage g c = refl

pub returns-clause-single : goal.returns-clause-single
returns-clause-single g c = refl

pub returns-clause-flies : goal.returns-clause-flies
returns-clause-flies g c = refl

pub returns-clause-within : goal.returns-clause-within
returns-clause-within g c = c.reopen.ensures.within

pub returns-clause-cause : goal.returns-clause-cause
returns-clause-cause g c = c.in_ok-numbers.ensures.cause

pub reopen-requires-clause-callable : goal.reopen-requires-clause-callable
reopen-requires-clause-callable g c = c.requires.callable

pub reopen-requires-clause-answers : goal.reopen-requires-clause-answers
reopen-requires-clause-answers g c = c.requires.answers

pub reopen-requires-clause-settled : goal.reopen-requires-clause-settled
reopen-requires-clause-settled g c = c.requires.settled

pub reopen-requires-clause-left : goal.reopen-requires-clause-left
reopen-requires-clause-left g c = c.requires.left

pub returns-clause-begun : goal.returns-clause-begun
returns-clause-begun g c = c.in_ok-numbers.ensures.net

pub returns-in_err-numbers-clause-begun : goal.returns-in_err-numbers-clause-begun
returns-in_err-numbers-clause-begun g c = not-ok _ _ c.from_residual.result c.from_residual.ensures.1

pub returns-clause-able : goal.returns-clause-able
returns-clause-able g c = c.reopen.ensures.able

pub returns-in_err-numbers-clause-able : goal.returns-in_err-numbers-clause-able
returns-in_err-numbers-clause-able g c = c.reopen.ensures.able

pub returns-clause-some : goal.returns-clause-some
returns-clause-some g c = refl

pub returns-in_err-numbers-clause-some : goal.returns-in_err-numbers-clause-some
returns-in_err-numbers-clause-some g c = not-ok _ _ c.from_residual.result c.from_residual.ensures.1
