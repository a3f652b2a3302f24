-- What holds everywhere in a trace.
use Rattle.salt_model.specs.Trace.{Trace, from, ◌asks◌, ◌says◌, ◌turns◌}
use Rattle.salt_model.specs.declared.events.Event.{Event}
use Rattle.std.specs.Prelude.{⊤}

-- a fact of each event and the trace before it
abbrev pub Each : (Trace → Event → Type 0) → Trace → Type 0
Each R (from k) = ⊤
Each R (trace asks asked) = Each R trace
Each R (trace turns b) = Each R trace
Each R (trace says e) = Each R trace × R trace e

-- a fact at each place of a trace, its end included
abbrev pub Always : (Trace → Type 0) → Trace → Type 0
Always P (from k) = P (from k)
Always P (trace asks asked) = Always P trace × P (trace asks asked)
Always P (trace turns b) = Always P trace × P (trace turns b)
Always P (trace says e) = Always P trace × P (trace says e)
