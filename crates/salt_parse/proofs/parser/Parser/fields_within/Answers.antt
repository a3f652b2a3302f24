use Rattle.std.proofs.Common.{◌≡◌, ◌++◌, ◌∷◌, [], refl}
use Rattle.std.proofs.lemmas.Result.{err_from_is_err_and}
use Rattle.salt_parse.specs.Lists.{comma, counted_at}
use Rattle.salt_parse.specs.TableReading.{field_at}
use Rattle.salt_parse.proofs.Listing.{IsListing-ends, IsListing-fails, IsListing-goes_on, comma_shortens}
use Rattle.salt_parse.proofs.parser.Parser.fields_within.Goals as goal

pub returns-in_err-field : goal.returns-in_err-field
returns-in_err-field c =
    let p = err_from_is_err_and c.from_residual-in_err-field.result c.from_residual-in_err-field.ensures.1 in
    rw (p.1, p.2) (IsListing-fails comma (counted_at c.args.most c.args.limit field_at) comma_shortens c.loop-limit.fields c.len.result c.loop-limit.self
    c.skip_sign.new.self _ _ c.len.ensures c.loop-limit.invariant c.loop-limit-test.ensures.reads c.loop-limit-test.ensures.flags
    c.in_err-field.ensures.reads)

pub loop-limit-preserved : goal.loop-limit-preserved
loop-limit-preserved c =
    let more : c.push-in-loop-limit.new.self ≡ c.loop-limit.fields ++ c.in_ok-field.field ∷ [] = c.in_ok-push-2.ensures.ok in
    rw more (IsListing-goes_on comma (counted_at c.args.most c.args.limit field_at) comma_shortens c.loop-limit.fields
    c.len.result c.loop-limit.self c.skip_sign.new.self c.counted_field-in-loop-limit.new.self c.in_ok-field.field _ c.len.ensures
    c.loop-limit.invariant c.loop-limit-test.ensures.reads c.loop-limit-test.ensures.flags c.in_ok-field.ensures.reads c.in_ok-field.ensures.shrinks)

pub returns : goal.returns
returns c = rw (c.loop-limit-test.ensures.stays refl)
    (IsListing-ends comma (counted_at c.args.most c.args.limit field_at) comma_shortens c.loop-limit.fields c.loop-limit.self _ c.loop-limit.invariant c.loop-limit-test.ensures.reads)
