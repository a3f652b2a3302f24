use Rattle.salt_parse.proofs.Lone.{lone_is_atom, reads_same}
use Rattle.salt_parse.proofs.parser.Parser.expression.Goals as goal
use Rattle.salt_parse.specs.Reading.{atom_at, level_at, within_at}

pub returns-then-is_lone-clause-reads : goal.returns-then-is_lone-clause-reads
returns-then-is_lone-clause-reads c =
    let inner = within_at c.args.room in
    reads_same c.atom.result (atom_at inner) (level_at c.args.level inner) c.args.self.now c.atom.new.self
    (lone_is_atom c.args.level inner c.args.self.now.flags c.args.self.now.left (c.is_lone.ensures c.if-is_lone.true)) c.atom.ensures.reads
