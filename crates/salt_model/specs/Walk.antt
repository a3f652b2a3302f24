-- The trace of a script: each segment completed by `next`, within a bound on its events. With it worked rows are computed.
use Rattle.salt_ast.specs.declared.lines.Line.{Line}
use Rattle.salt_model.specs.After.{kept}
use Rattle.salt_model.specs.EventTexts.{event_line}
use Rattle.salt_model.specs.Kept.{nothing_kept, schema_of}
use Rattle.salt_model.specs.Next.{next}
use Rattle.salt_model.specs.Trace.{Asked, Start, Trace, Tree, from, story_of, ◌asks◌, ◌says◌, ◌turns◌}
use Rattle.salt_model.specs.Turns.{next_turn}
use Rattle.salt_model.specs.declared.events.Event.TheVariants.{Opened}
use Rattle.std.specs.Prelude.{List, None, Some, [], false, map, suc, true, zero, ℕ, ◌∷◌}

-- an empty start, over disks that can be stopped
abbrev pub new_database : Start
new_database = record { kept = nothing_kept; can_stop = true; early = false; over_net = false }

-- the same, where openings may be early
abbrev pub new_early_database : Start
new_early_database = record { kept = nothing_kept; can_stop = true; early = true; over_net = false }

abbrev pub completed : ℕ → Trace → Trace
completed zero trace = trace
completed (suc n) trace =
    elim (next trace) [ Some e ↦ completed n (trace says e) | None ↦ elim (next_turn trace) [ Some b ↦ completed n (trace turns b) | None ↦ trace ] ]

abbrev pub walk_on : List Asked → Trace → Trace
walk_on [] trace = trace
walk_on (asked ∷ more) trace = walk_on more (completed 1000 (trace asks asked))

abbrev pub opened : Trace
opened = completed 1000 (from new_database says Opened 1 0)

abbrev pub opened_early : Trace
opened_early = completed 1000 (from new_early_database says Opened 1 0)

abbrev pub walk : List Line → Trace
walk lines = walk_on (map Tree lines) opened

-- what is printed of a trace, line by line
abbrev pub printed_of : Trace → List (List ℕ)
printed_of trace = map (event_line (schema_of (kept trace))) (story_of trace)

abbrev pub printed : List Line → List (List ℕ)
printed lines = printed_of (walk lines)
