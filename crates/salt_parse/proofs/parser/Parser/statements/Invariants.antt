use Rattle.std.proofs.Common.{◌<◌, length}
use Rattle.salt_parse.specs.Lists.{counted_at}
use Rattle.salt_parse.specs.Reading.{after, within_at}
use Rattle.salt_ast.specs.declared.limit.LimitName.TheVariants as limit
use Rattle.salt_ast.specs.Symbols.{sign}
use Rattle.salt_ast.specs.declared.sign.Sign.TheVariants as mark
use Rattle.salt_values.specs.declared.limits.TheConstants.{STATEMENTS_MOST}
use Rattle.salt_parse.specs.StatementReading.{statement_at}
use Rattle.salt_parse.specs.ProgramReading.{statements_at}
use Rattle.salt_parse.proofs.Listing.{IsListing}
use Rattle.salt_parse.proofs.parser.Parser.statements.Given as goal

abbrev pub invariant-loop-self : goal.invariant-loop-self
invariant-loop-self l = record {
  listing : IsListing (after (sign mark.Semicolon)) (counted_at STATEMENTS_MOST limit.Statements (statement_at (within_at l.room) (within_at l.deeper))) l.statements l.self (statements_at (within_at l.room) (within_at l.deeper) l.fn.self.flags l.fn.self.left);
  shorter : length l.self.left < length l.fn.self.left;
}

abbrev pub decreases-loop-self : goal.decreases-loop-self
decreases-loop-self l = length l.self.left
