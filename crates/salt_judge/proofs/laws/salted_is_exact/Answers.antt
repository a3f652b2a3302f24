use Rattle.salt_judge.proofs.Reading.{linked, unsalted_exactly}
use Rattle.salt_judge.proofs.laws.salted_is_exact.Goals as goal

pub returns-clause-linked : goal.returns-clause-linked
returns-clause-linked c = λ l r trace h k. linked l r trace h k

pub returns-clause-exact : goal.returns-clause-exact
returns-clause-exact c = λ l r trace e h k. unsalted_exactly l r trace e h k
