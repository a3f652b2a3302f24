use Rattle.std.proofs.Common.{◌≡◌, ◌++◌, ◌∷◌, [], refl}
use Rattle.std.proofs.lemmas.Result.{err_from_is_err_and}
use Rattle.salt_parse.specs.Lists.{counted_at}
use Rattle.salt_parse.specs.Reading.{after, within_at}
use Rattle.salt_ast.specs.declared.limit.LimitName.TheVariants as limit
use Rattle.salt_ast.specs.Symbols.{key}
use Rattle.salt_ast.specs.declared.keyword.Keyword.TheVariants as word
use Rattle.salt_values.specs.declared.limits.TheConstants.{PARTS_MOST}
use Rattle.salt_parse.specs.ProgramReading.{part_at}
use Rattle.salt_parse.proofs.Listing.{IsListing-ends, IsListing-fails, IsListing-goes_on, after_shortens}
use Rattle.salt_parse.proofs.parser.Parser.parts.Goals as goal

pub returns-in_err-part : goal.returns-in_err-part
returns-in_err-part c =
    let p = err_from_is_err_and c.from_residual-in_err-part.result c.from_residual-in_err-part.ensures.1 in
    rw (p.1, p.2) (IsListing-fails (after (key word.Part)) (counted_at PARTS_MOST limit.Parts (part_at (within_at c.args.room) (within_at c.args.deeper))) (after_shortens (key word.Part)) c.loop-self.parts c.len.result c.loop-self.self
    c.skip_key.new.self _ _ c.len.ensures c.loop-self.invariant c.loop-self-test.ensures.reads c.loop-self-test.ensures.flags
    c.in_err-part.ensures.reads)

pub loop-self-preserved : goal.loop-self-preserved
loop-self-preserved c =
    let more : c.push_to-in-loop-self.new.items ≡ c.loop-self.parts ++ c.in_ok-part.part ∷ [] = c.in_ok-push_to-2.ensures in
    rw more (IsListing-goes_on (after (key word.Part)) (counted_at PARTS_MOST limit.Parts (part_at (within_at c.args.room) (within_at c.args.deeper))) (after_shortens (key word.Part)) c.loop-self.parts
    c.len.result c.loop-self.self c.skip_key.new.self c.counted_part-in-loop-self.new.self c.in_ok-part.part _ c.len.ensures
    c.loop-self.invariant c.loop-self-test.ensures.reads c.loop-self-test.ensures.flags c.in_ok-part.ensures.reads c.in_ok-part.ensures.shrinks)

pub returns : goal.returns
returns c = rw (c.loop-self-test.ensures.stays refl)
    (IsListing-ends (after (key word.Part)) (counted_at PARTS_MOST limit.Parts (part_at (within_at c.args.room) (within_at c.args.deeper))) (after_shortens (key word.Part)) c.loop-self.parts c.loop-self.self _ c.loop-self.invariant c.loop-self-test.ensures.reads)
