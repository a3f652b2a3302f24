use Rattle.std.proofs.Common.{◌≡◌, ◌++◌, ◌∙◌, ◌∷◌, [], ap, arith, refl}
use Rattle.std.proofs.lemmas.Result.{err_from_is_err_and}
use Rattle.salt_parse.specs.Lists.{counted_at}
use Rattle.salt_parse.specs.Reading.{after, within_at}
use Rattle.salt_ast.specs.declared.limit.LimitName.TheVariants as limit
use Rattle.salt_ast.specs.Symbols.{sign}
use Rattle.salt_ast.specs.declared.sign.Sign.TheVariants as mark
use Rattle.salt_values.specs.declared.limits.TheConstants.{STATEMENTS_MOST}
use Rattle.salt_parse.specs.StatementReading.{statement_at}
use Rattle.salt_parse.proofs.Listing.{IsListing-ends, IsListing-fails, IsListing-goes_on, after_shortens}
use Rattle.salt_parse.proofs.parser.Parser.statements.Goals as goal

pub returns-in_err-statement : goal.returns-in_err-statement
returns-in_err-statement c =
    let p = err_from_is_err_and c.from_residual-in_err-statement.result c.from_residual-in_err-statement.ensures.1 in
    rw (p.1, p.2) (record {
      reads = IsListing-fails (after (sign mark.Semicolon)) (counted_at STATEMENTS_MOST limit.Statements (statement_at (within_at c.args.room) (within_at c.args.deeper))) (after_shortens (sign mark.Semicolon)) c.loop-self.statements c.len.result c.loop-self.self
          c.skip_sign.new.self _ _ c.len.ensures c.loop-self.invariant.listing c.loop-self-test.ensures.reads c.loop-self-test.ensures.flags
          c.in_err-statement.ensures.reads;
      shrinks = tt;
    })

pub loop-self-preserved : goal.loop-self-preserved
loop-self-preserved c =
    let more : c.push-in-loop-self.new.self ≡ c.loop-self.statements ++ c.in_ok-statement.statement ∷ [] = c.in_ok-push-2.ensures.ok ∙ ap (λ s. c.loop-self.statements ++ s ∷ []) c.in_ok-share-2.ensures in
    record {
      listing = rw more (IsListing-goes_on (after (sign mark.Semicolon)) (counted_at STATEMENTS_MOST limit.Statements (statement_at (within_at c.args.room) (within_at c.args.deeper))) (after_shortens (sign mark.Semicolon)) c.loop-self.statements
          c.len.result c.loop-self.self c.skip_sign.new.self c.counted_statement-in-loop-self.new.self c.in_ok-statement.statement _ c.len.ensures
          c.loop-self.invariant.listing c.loop-self-test.ensures.reads c.loop-self-test.ensures.flags c.in_ok-statement.ensures.reads c.in_ok-statement.ensures.shrinks);
      shorter = omega (arith, c.in_ok-statement.ensures.shrinks, c.loop-self-test.ensures.shrinks, c.loop-self.invariant.shorter);
    }

pub returns-clause-reads : goal.returns-clause-reads
returns-clause-reads c = rw (c.loop-self-test.ensures.stays refl)
    (IsListing-ends (after (sign mark.Semicolon)) (counted_at STATEMENTS_MOST limit.Statements (statement_at (within_at c.args.room) (within_at c.args.deeper))) (after_shortens (sign mark.Semicolon)) c.loop-self.statements c.loop-self.self _ c.loop-self.invariant.listing c.loop-self-test.ensures.reads)
