use Rattle.std.proofs.Common.{length, refl, ap, sym, ◌∙◌, arith}
use Rattle.std.proofs.lemmas.List.{length-map}
use Rattle.salt_parse.specs.Reading.{under_nots}
use Rattle.salt_parse.specs.Parsing.{Parsing}
use Rattle.salt_ast.specs.Symbols.{symbol}
use Rattle.salt_parse.proofs.Loop.{nots_more, nots_stop}
use Rattle.salt_parse.proofs.parser.Parser.skip_nots.Goals as goal

pub loop-nots-preserved : goal.loop-nots-preserved
loop-nots-preserved c = record {
  so_far = λ operand f. nots_more operand f c.loop-nots.nots _ c.loop-nots.self.left c.skip_key.new.self.left c.loop-nots-test.ensures.reads
      (c.loop-nots.invariant.so_far operand f);
  flags = c.loop-nots-test.ensures.flags ∙ c.loop-nots.invariant.flags;
  taken = omega (arith, c.loop-nots-test.ensures.shrinks, c.loop-nots.invariant.taken);
}

pub returns-clause-reads : goal.returns-clause-reads
returns-clause-reads c = λ operand f.
    c.loop-nots.invariant.so_far operand f
    ∙ ap (under_nots c.loop-nots.nots)
    (nots_stop operand f c.loop-nots.self.left c.loop-nots-test.ensures.reads ∙ ap (λ s. operand f s.left) (sym (c.loop-nots-test.ensures.stays refl)))

pub overflow_add-nots : goal.overflow_add-nots
overflow_add-nots c =
    omega (arith, c.self.told, length-map c.self.inside.rest.now symbol, ap (λ (p : Parsing). length p.left) c.self.view_is, c.loop-nots.invariant.taken)
