-- What a text spells, by the line that asks for it.
use Rattle.salt_ast.specs.declared.lines.Line.TheVariants as line
use Rattle.salt_ast.specs.declared.lines.Line.{Line}
use Rattle.salt_ast.specs.declared.programs.ProgramDef.{ProgramDef}
use Rattle.salt_ast.specs.declared.trees.TableDef.{TableDef}
use Rattle.salt_events.specs.Definitions.{line_defining}
use Rattle.salt_model.specs.Kept.{Definition, OfProgram, OfTable}
use Rattle.std.proofs.Common.{None, Option, Some, ap, option_map, refl, ◌≡◌}

pub spells_table : (o : Option Definition) (d : TableDef) → option_map line_defining o ≡ Some (line.Table d) → o ≡ Some (OfTable d)
spells_table None d e = absurd cc
spells_table (Some (OfTable x)) d e = let same : x ≡ d = cc in ap (λ (y : TableDef). Some (OfTable y)) same
spells_table (Some (OfProgram p)) d e = absurd cc

pub spells_program : (o : Option Definition) (p : ProgramDef) → option_map line_defining o ≡ Some (line.Program p) → o ≡ Some (OfProgram p)
spells_program None p e = absurd cc
spells_program (Some (OfTable x)) p e = absurd cc
spells_program (Some (OfProgram q)) p e = let same : q ≡ p = cc in ap (λ (r : ProgramDef). Some (OfProgram r)) same

-- no other line asks for a definition
pub spells_other : (o : Option Definition) (l : Line) → option_map line_defining o ≡ Some l → ((d : TableDef) → l ≡ line.Table d → ⊥) → ((p : ProgramDef) → l ≡ line.Program p → ⊥) → ⊥
spells_other None l e no_table no_program = cc
spells_other (Some (OfTable d)) l e no_table no_program = let same : l ≡ line.Table d = cc in no_table d same
spells_other (Some (OfProgram p)) l e no_table no_program = let same : l ≡ line.Program p = cc in no_program p same

pub spells_none : (o : Option Definition) → option_map line_defining o ≡ None → o ≡ None
spells_none None e = refl
spells_none (Some d) e = absurd cc
