use Rattle.std.proofs.Common.{◌≡◌, ◌++◌, ◌∷◌, [], arith, length, refl}
use Rattle.std.proofs.lemmas.Result.{err_from_is_err_and}
use Rattle.salt_parse.specs.Lists.{comma}
use Rattle.salt_parse.specs.Reading.{within_at}
use Rattle.salt_parse.specs.StatementReading.{value_at}
use Rattle.salt_parse.proofs.Listing.{IsListing-ends, IsListing-fails, IsListing-goes_on, comma_shortens}
use Rattle.salt_parse.proofs.parser.Parser.values.Goals as goal

pub returns-in_err-value : goal.returns-in_err-value
returns-in_err-value c =
    let p = err_from_is_err_and c.from_residual-in_err-value.result c.from_residual-in_err-value.ensures.1 in
    rw (p.1, p.2) (record {
      reads = IsListing-fails comma (λ n. value_at (within_at c.args.room)) comma_shortens c.loop-self.values
          (length c.loop-self.values) c.loop-self.self c.skip_sign.new.self _ _ refl c.loop-self.invariant.listing c.loop-self-test.ensures.reads
          c.loop-self-test.ensures.flags c.in_err-value.ensures.reads;
      shrinks = tt;
    })

pub loop-self-preserved : goal.loop-self-preserved
loop-self-preserved c =
    let more : c.push_to-in-loop-self.new.items ≡ c.loop-self.values ++ c.in_ok-value.value ∷ [] = c.in_ok-push_to-2.ensures in
    record {
      listing = rw more (IsListing-goes_on comma (λ n. value_at (within_at c.args.room)) comma_shortens c.loop-self.values
          (length c.loop-self.values) c.loop-self.self c.skip_sign.new.self c.value-in-loop-self.new.self c.in_ok-value.value _ refl
          c.loop-self.invariant.listing c.loop-self-test.ensures.reads c.loop-self-test.ensures.flags c.in_ok-value.ensures.reads c.in_ok-value.ensures.shrinks);
      shorter = omega (arith, c.in_ok-value.ensures.shrinks, c.loop-self-test.ensures.shrinks, c.loop-self.invariant.shorter);
    }

pub returns-clause-reads : goal.returns-clause-reads
returns-clause-reads c = rw (c.loop-self-test.ensures.stays refl)
    (IsListing-ends comma (λ n. value_at (within_at c.args.room)) comma_shortens c.loop-self.values c.loop-self.self _
    c.loop-self.invariant.listing c.loop-self-test.ensures.reads)
