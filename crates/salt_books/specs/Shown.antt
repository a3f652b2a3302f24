-- What a value of `Known` shows, and what one of `Books` does.
use Rattle.law_states.specs.OpenUnits.{OpenUnit}
use Rattle.salt_ast.specs.declared.programs.ProgramDef.{ProgramDef}
use Rattle.salt_ast.specs.declared.trees.TableDef.{TableDef}
use Rattle.salt_values.specs.declared.cont.Cont.{Cont}
use Rattle.salt_values.specs.declared.id.Id.{Id}
use Rattle.std.specs.Prelude.{Bool, List, ℕ}

-- the tables and programs defined, where programs go on, the boot and the last decision
pub record ShownKnown : Type 0 where
  pub schema : List TableDef
  pub catalogue : List ProgramDef
  pub conts : List Cont
  pub boot : ℕ
  pub decisions : ℕ

-- what is known; the open units in order of their names; how many units and programs have begun in this boot; the programs to which
-- `go all` has still to turn; whether openings may be early, the programs that the last early one names, and whether one of these is
-- to have a turn behind the line
pub record ShownBooks : Type 0 where
  pub known : ShownKnown
  pub units : List OpenUnit
  pub unit_count : ℕ
  pub base_count : ℕ
  pub to_go : List Id
  pub early : Bool
  pub named : List Id
  pub owes : Bool
