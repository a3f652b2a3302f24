use Rattle.std.proofs.Common.{◌≡◌, ◌++◌, ◌∷◌, [], refl}
use Rattle.std.proofs.lemmas.Result.{err_from_is_err_and}
use Rattle.salt_parse.specs.TableReading.{field_comma, further_column_at}
use Rattle.salt_parse.proofs.Listing.{IsListing-ends, IsListing-fails, IsListing-goes_on, field_comma_shortens}
use Rattle.salt_parse.proofs.parser.Parser.fields.Goals as goal

pub returns-in_err-field : goal.returns-in_err-field
returns-in_err-field c =
    let p = err_from_is_err_and c.from_residual-in_err-field.result c.from_residual-in_err-field.ensures.1 in
    rw (p.1, p.2) (IsListing-fails field_comma further_column_at field_comma_shortens c.loop-self.fields c.len.result c.loop-self.self
    c.skip_field_comma.new.self _ _ c.len.ensures c.loop-self.invariant c.loop-self-test.ensures.reads c.loop-self-test.ensures.flags
    c.in_err-field.ensures.reads)

pub loop-self-preserved : goal.loop-self-preserved
loop-self-preserved c =
    let more : c.push-in-loop-self.new.self ≡ c.loop-self.fields ++ c.in_ok-field.field ∷ [] = c.in_ok-push-2.ensures.ok in
    rw more (IsListing-goes_on field_comma further_column_at field_comma_shortens c.loop-self.fields c.len.result c.loop-self.self
    c.skip_field_comma.new.self c.further_column.new.self c.in_ok-field.field _ c.len.ensures c.loop-self.invariant c.loop-self-test.ensures.reads
    c.loop-self-test.ensures.flags c.in_ok-field.ensures.reads c.in_ok-field.ensures.shrinks)

pub returns : goal.returns
returns c = rw (c.loop-self-test.ensures.stays refl)
    (IsListing-ends field_comma further_column_at field_comma_shortens c.loop-self.fields c.loop-self.self _ c.loop-self.invariant
    c.loop-self-test.ensures.reads)
