use Rattle.std.proofs.Common.{◌≡◌, ◌+◌, ◌≤◌, length}
use Rattle.salt_parse.specs.Flags.{BuiltTree, Flags}
use Rattle.salt_parse.specs.Reading.{Reader, nots_at, under_nots}
use Rattle.salt_parse.proofs.parser.Parser.skip_nots.Given as goal

abbrev pub invariant-loop-nots : goal.invariant-loop-nots
invariant-loop-nots l = record {
  so_far : (operand : Reader BuiltTree) (f : Flags) → nots_at operand f l.fn.self.left ≡ under_nots l.nots (nots_at operand f l.self.left);
  flags : l.self.flags ≡ l.fn.self.flags;
  taken : length l.self.left + l.nots ≤ length l.fn.self.left;
}

abbrev pub decreases-loop-nots : goal.decreases-loop-nots
decreases-loop-nots l = length l.self.left
