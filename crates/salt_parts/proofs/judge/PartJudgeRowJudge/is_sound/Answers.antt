use Rattle.salt_parts.proofs.judge.PartJudgeRowJudge.is_sound.Goals as goal

pub has_key-requires-clause-callable : goal.has_key-requires-clause-callable
has_key-requires-clause-callable g c = c.requires.can.0

pub has_key-requires-clause-answers : goal.has_key-requires-clause-answers
has_key-requires-clause-answers g c = c.requires.can.1

pub has_key-requires-clause-parts : goal.has_key-requires-clause-parts
has_key-requires-clause-parts g c = c.requires.can.2
