use Rattle.std.proofs.Common.{◌≡◌, ◌<◌, length, ◌+◌, ◌-◌, ◌*◌}
use Rattle.salt_parse.specs.Flags.{built_of}
use Rattle.salt_parse.specs.Reading.{level_at, level_precedence, negations, operand_at, within_at}
use Rattle.salt_parse.proofs.Levels.{level_rank, operand_rank}
use Rattle.salt_parse.proofs.Loop.{IsTail}
use Rattle.salt_parse.proofs.parser.Parser.+expr.Given as goal

abbrev pub decreases-parenthesized : goal.decreases-parenthesized
decreases-parenthesized l = 12 * l.room + 0

abbrev pub decreases-atom : goal.decreases-atom
decreases-atom l = 12 * l.room + 1

abbrev pub decreases-comparison : goal.decreases-comparison
decreases-comparison l = 12 * l.room + 6

abbrev pub decreases-negation : goal.decreases-negation
decreases-negation l = 12 * l.room + 7

abbrev pub decreases-operation : goal.decreases-operation
decreases-operation l = 12 * l.room + level_rank l.level

abbrev pub decreases-level_operand : goal.decreases-level_operand
decreases-level_operand l = 12 * l.room + operand_rank l.level

abbrev pub invariant-operation-loop-op : goal.invariant-operation-loop-op
invariant-operation-loop-op l = record {
  tail : IsTail (level_precedence l.level) (operand_at l.level (within_at l.room)) (built_of l.left) l.self
      (level_at l.level (within_at l.room) l.fn.self.flags l.fn.self.left);
  shorter : length l.self.left < length l.fn.self.left;
}

abbrev pub decreases-operation-loop-op : goal.decreases-operation-loop-op
decreases-operation-loop-op l = length l.self.left

abbrev pub invariant-negation-loop : goal.invariant-negation-loop
invariant-negation-loop l = record {
  so_far : negations (l.nots - l.counter) (built_of l.inside, l.self.flags, l.self.left) ≡ negations l.nots
      (built_of l.initial.inside, l.initial.self.flags, l.initial.self.left);
  stays : l.self.left ≡ l.initial.self.left;
}
