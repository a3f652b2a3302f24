use Rattle.std.proofs.Common.{arith, drop, rules, take, ◌+◌, ◌-◌}
use Rattle.std.proofs.lemmas.List.{length-take}
use Rattle.salt_io.proofs.Parts.{takes_first, takes_nothing}
use Rattle.salt_io.proofs.lines.Lines.take_text.Goals as goal

pub add_all-requires : goal.add_all-requires
add_all-requires c =
    let part = c.self.inside in
    omega (arith, c.text_len-len.ensures.within, length-take c.text_len-len.result (take (part.from + c.min-most.result - part.from) (drop part.from part.buf)))

pub returns-then-len-lt2-clause-taken : goal.returns-then-len-lt2-clause-taken
returns-then-len-lt2-clause-taken c = takes_nothing _ _ _ _ (search rules)

pub returns-clause-taken : goal.returns-clause-taken
returns-clause-taken c =
    let part = c.self.inside in
    takes_first part.buf part.from part.to c.min-most.result c.text_len-len.result part.taken part.ended c.args.self.now _ _ _ _
    c.self.view_is (omega (arith, c.min-most.ensures)) c.self.invariant.0 c.text_len-len.ensures.value c.in_ok-add_all.ensures.text
