use Rattle.std.proofs.Common.{◌≡◌, ◌++◌, ◌∷◌, [], arith, length, refl}
use Rattle.std.proofs.lemmas.Result.{err_from_is_err_and}
use Rattle.salt_parse.specs.Lists.{comma}
use Rattle.salt_parse.specs.Reading.{within_at}
use Rattle.salt_parse.specs.StatementReading.{set_at}
use Rattle.salt_parse.proofs.Listing.{IsListing-ends, IsListing-fails, IsListing-goes_on, comma_shortens}
use Rattle.salt_parse.proofs.parser.Parser.sets.Goals as goal

pub returns-in_err-set : goal.returns-in_err-set
returns-in_err-set c =
    let p = err_from_is_err_and c.from_residual-in_err-set.result c.from_residual-in_err-set.ensures.1 in
    rw (p.1, p.2) (record {
      reads = IsListing-fails comma (λ n. set_at (within_at c.args.room)) comma_shortens c.loop-self.sets
          (length c.loop-self.sets) c.loop-self.self c.skip_sign.new.self _ _ refl c.loop-self.invariant.listing c.loop-self-test.ensures.reads
          c.loop-self-test.ensures.flags c.in_err-set.ensures.reads;
      shrinks = tt;
    })

pub loop-self-preserved : goal.loop-self-preserved
loop-self-preserved c =
    let more : c.push_to-in-loop-self.new.items ≡ c.loop-self.sets ++ c.in_ok-set.set ∷ [] = c.in_ok-push_to-2.ensures in
    record {
      listing = rw more (IsListing-goes_on comma (λ n. set_at (within_at c.args.room)) comma_shortens c.loop-self.sets
          (length c.loop-self.sets) c.loop-self.self c.skip_sign.new.self c.set-in-loop-self.new.self c.in_ok-set.set _ refl c.loop-self.invariant.listing
          c.loop-self-test.ensures.reads c.loop-self-test.ensures.flags c.in_ok-set.ensures.reads c.in_ok-set.ensures.shrinks);
      shorter = omega (arith, c.in_ok-set.ensures.shrinks, c.loop-self-test.ensures.shrinks, c.loop-self.invariant.shorter);
    }

pub returns-clause-reads : goal.returns-clause-reads
returns-clause-reads c = rw (c.loop-self-test.ensures.stays refl)
    (IsListing-ends comma (λ n. set_at (within_at c.args.room)) comma_shortens c.loop-self.sets c.loop-self.self _ c.loop-self.invariant.listing
    c.loop-self-test.ensures.reads)
