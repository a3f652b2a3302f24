use Rattle.salt_words.proofs.Numerals.{none-said}
use Rattle.salt_words.proofs.counts.count_in.Goals as goal
use Rattle.std.proofs.Common.{ap, arith, sym, ◌<◌, ◌^◌, ◌∙◌}
use Rattle.std.specs.Char.{is_ascii_digit}
use Rattle.std.specs.List.{list_all}

pub returns-in_default-clause-value : goal.returns-in_default-clause-value
returns-in_default-clause-value c =
    let digits = ap (list_all is_ascii_digit) (sym c.as_bytes.ensures.value) ∙ sym c.if-not-are_digits.ensures in
    let fits : c.args.most < 2 ^ 64 = omega arith in
    none-said c.args.most c.args.word.now c.parse.result c.in_default.field-0 fits digits c.parse.ensures.value.0 c.in_default.is
