-- The lines of the workload are ones that some text spells, and so the lines of a front of it.
use Rattle.law_decisions.specs.Spelled.{IsSpelledAsked, IsSpelledLine}
use Rattle.salt_ast.specs.declared.lines.Line.TheVariants.{Crash}
use Rattle.salt_ast.specs.declared.lines.Line.{Line}
use Rattle.salt_loop.proofs.Loads.{MayBeAsked}
use Rattle.salt_loop.specs.Serving.{IsAskable}
use Rattle.salt_model.specs.Trace.{Asked, Tree}
use Rattle.salt_model.specs.Words.{Every}
use Rattle.salt_promise.specs.Doing.{IsFrontOf}
use Rattle.std.proofs.Common.{subst}
use Rattle.std.specs.Prelude.{List, [], map, ◌++◌, ◌∷◌}

every-front : (xs ys : List Asked) → Every IsSpelledAsked (xs ++ ys) → Every IsSpelledAsked xs
every-front [] ys h = tt
every-front (x ∷ xs) ys h = (h.0, every-front xs ys h.1)

askable-spelled : (line : Line) → IsAskable line → IsSpelledLine line
askable-spelled (Crash pairs) h = tt
askable-spelled line h = h

all-spelled : (lines : List Line) → Every MayBeAsked lines → Every IsSpelledAsked (map Tree lines)
all-spelled [] h = tt
all-spelled (line ∷ lines) h = (askable-spelled line h.0.0, all-spelled lines h.1)

pub front-spelled : (lines : List Line) (asked : List Asked) → Every MayBeAsked lines → IsFrontOf asked (map Tree lines) → Every IsSpelledAsked asked
front-spelled lines asked may front = every-front asked front.0 (subst (Every IsSpelledAsked) front.1 (all-spelled lines may))
