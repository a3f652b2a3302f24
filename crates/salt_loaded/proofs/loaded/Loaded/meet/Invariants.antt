use Rattle.salt_eval.specs.Meets.{meets_table}
use Rattle.salt_loaded.proofs.loaded.Loaded.meet.Given as goal
use Rattle.salt_model.specs.Tables.{Entry}
use Rattle.std.proofs.Common.{drop, ◌≡◌}
use Rattle.std.specs.List.{list_all}

-- so far each meets its table: the others decide
abbrev pub invariant-loop-i : goal.invariant-loop-i
invariant-loop-i l = list_all (λ (e : Entry). meets_table l.schema e.0.table e.1) (drop l.i l.self.list) ≡ list_all (λ (e : Entry). meets_table l.schema e.0.table e.1) l.self.list
