use Rattle.law_openings.proofs.Moving.{early-falls, opens-stand, ready-falls, says-comes, says-falls, says-stand, units-stand}
use Rattle.law_openings.proofs.laws.drains_go_on.Goals as goal

pub returns : goal.returns
returns c = record {
  stands = units-stand;
  opens = opens-stand;
  says = λ e f old new said r h. says-stand e old new said r h f;
  comes = says-comes;
  falls = says-falls;
  ready = ready-falls;
  early = early-falls;
}
