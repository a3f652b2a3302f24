use Rattle.std.proofs.Common.{◌≡◌, ◌++◌, ◌∷◌, [], refl}
use Rattle.std.proofs.lemmas.Result.{err_from_is_err_and}
use Rattle.salt_parse.specs.Lists.{comma}
use Rattle.salt_parse.specs.Reading.{within_at}
use Rattle.salt_parse.specs.TableReading.{check_at}
use Rattle.salt_parse.proofs.Listing.{IsListing-ends, IsListing-fails, IsListing-goes_on, comma_shortens}
use Rattle.salt_parse.proofs.parser.Parser.checks.Goals as goal

pub returns-in_err-check : goal.returns-in_err-check
returns-in_err-check c =
    let p = err_from_is_err_and c.from_residual.result c.from_residual.ensures.1 in
    rw (p.1, p.2) (IsListing-fails comma
    (check_at (within_at c.args.room)) comma_shortens c.loop-self.checks c.len.result c.loop-self.self c.skip_sign.new.self _ _ c.len.ensures
    c.loop-self.invariant c.loop-self-test.ensures.reads c.loop-self-test.ensures.flags c.in_err-check.ensures.reads)

pub loop-self-preserved : goal.loop-self-preserved
loop-self-preserved c =
    let more : c.push_to.new.items ≡ c.loop-self.checks ++ c.in_ok-check.check ∷ [] = c.in_ok-push_to.ensures in
    rw more (IsListing-goes_on comma
    (check_at (within_at c.args.room)) comma_shortens c.loop-self.checks c.len.result c.loop-self.self c.skip_sign.new.self c.check.new.self
    c.in_ok-check.check _ c.len.ensures c.loop-self.invariant c.loop-self-test.ensures.reads c.loop-self-test.ensures.flags
    c.in_ok-check.ensures.reads c.in_ok-check.ensures.shrinks)

pub returns : goal.returns
returns c = rw (c.loop-self-test.ensures.stays refl)
    (IsListing-ends comma (check_at (within_at c.args.room)) comma_shortens c.loop-self.checks c.loop-self.self _ c.loop-self.invariant
    c.loop-self-test.ensures.reads)
