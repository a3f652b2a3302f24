-- A table that some text spells has a key.
use Rattle.salt_ast.specs.Spelling.{SpellsTable}
use Rattle.salt_ast.specs.declared.lines.Line.TheVariants.{Crash, Go, GoAll, Net, Nothing, Program, Session, ShowBases, ShowLocks, Table}
use Rattle.salt_ast.specs.declared.lines.Line.{Line}
use Rattle.salt_ast.specs.declared.trees.TableDef.{TableDef}
use Rattle.salt_model.specs.Trace.{Tree}
use Rattle.law_decisions.specs.Spelled.{IsSpelledLine}
use Rattle.law_types.specs.Played.{HasKey}
use Rattle.law_types.specs.Typed.{has_key}
use Rattle.std.specs.Prelude.{List, true, ℕ, ◌≡◌}

pub spelled-keys : ((bytes : List ℕ) (d : TableDef) → SpellsTable bytes d → has_key d.columns ≡ true) → (line : Line) → IsSpelledLine line → HasKey (Tree line)
spelled-keys keys (Table d) h = keys h.text d h.spells
spelled-keys keys (Program p) h = tt
spelled-keys keys Nothing h = tt
spelled-keys keys (Session s act) h = tt
spelled-keys keys (Go b) h = tt
spelled-keys keys GoAll h = tt
spelled-keys keys ShowLocks h = tt
spelled-keys keys ShowBases h = tt
spelled-keys keys (Crash pairs) h = tt
spelled-keys keys (Net pairs) h = tt
