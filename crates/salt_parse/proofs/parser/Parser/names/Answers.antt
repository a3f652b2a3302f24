use Rattle.std.proofs.Common.{◌≡◌, ◌++◌, ◌∷◌, [], arith, length, refl}
use Rattle.std.proofs.lemmas.Result.{err_from_is_err_and}
use Rattle.salt_parse.specs.Lists.{comma}
use Rattle.salt_parse.specs.StatementReading.{name_at}
use Rattle.salt_parse.proofs.Listing.{IsListing-ends, IsListing-fails, IsListing-goes_on, comma_shortens}
use Rattle.salt_parse.proofs.parser.Parser.names.Goals as goal

pub returns-in_err-name-2 : goal.returns-in_err-name-2
returns-in_err-name-2 c =
    let p = err_from_is_err_and c.from_residual-in_err-name-2.result c.from_residual-in_err-name-2.ensures.1 in
    rw (p.1, p.2) (record {
      reads = IsListing-fails comma (λ n. name_at) comma_shortens c.loop-names.names
          (length c.loop-names.names) c.loop-names.self c.skip_sign.new.self _ _ refl c.loop-names.invariant.listing c.loop-names-test.ensures.reads
          c.loop-names-test.ensures.flags c.in_err-name-2.ensures.reads;
      shrinks = tt;
    })

pub loop-names-preserved : goal.loop-names-preserved
loop-names-preserved c =
    let more : c.push-in-loop-names.new.self ≡ c.loop-names.names ++ c.in_ok-name-2.field-0 ∷ [] = c.in_ok-push-2.ensures.ok in
    record {
      listing = rw more (IsListing-goes_on comma (λ n. name_at) comma_shortens c.loop-names.names
          (length c.loop-names.names) c.loop-names.self c.skip_sign.new.self c.name-in-loop-names.new.self c.in_ok-name-2.field-0 _ refl
          c.loop-names.invariant.listing c.loop-names-test.ensures.reads c.loop-names-test.ensures.flags c.in_ok-name-2.ensures.reads c.in_ok-name-2.ensures.shrinks);
      shorter = omega (arith, c.in_ok-name-2.ensures.shrinks, c.loop-names-test.ensures.shrinks, c.loop-names.invariant.shorter);
    }

pub returns-clause-reads : goal.returns-clause-reads
returns-clause-reads c = rw (c.loop-names-test.ensures.stays refl)
    (IsListing-ends comma (λ n. name_at) comma_shortens c.loop-names.names c.loop-names.self _ c.loop-names.invariant.listing c.loop-names-test.ensures.reads)
