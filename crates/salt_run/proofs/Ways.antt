-- The lines that are done of a command are those that the table of statuses tells.
use Rattle.salt_io.specs.Streams.{IsAtEnd}
use Rattle.salt_promise.specs.Workload.{load_lines}
use Rattle.salt_model.specs.Trace.{Asked, Tree}
use Rattle.salt_promise.specs.Doing as promise
use Rattle.salt_promise.specs.Ways.{way_of}
use Rattle.salt_promise.specs.declared.status.Status.TheVariants.{Broken, Done, TranscriptTooLong, Unread, Usage}
use Rattle.salt_promise.specs.declared.status.Status.{Status}
use Rattle.salt_loop.specs.Loading.{AreLoadLines}
use Rattle.salt_loop.specs.Run.{AreLinesOf}
use Rattle.std.specs.Prelude.{IfSome, List, None, Option, Some, map, refl, ℕ, ◌≡◌}

-- a script that is done is read to its end
pub lines-way : (status : Status) (script left : Option (List ℕ)) (texts : List (List ℕ)) → (status ≡ Done → IsAtEnd left) → AreLinesOf status script left texts →
    IfSome script (λ bytes. promise.AreLinesOf (way_of status).lines bytes left texts)
lines-way status None left texts end h = tt
lines-way Done (Some script) left texts end h = (h.0, h.1, end refl)
lines-way status (Some script) left texts end h = h

-- no workload ends for wrong words
pub load-lines-way : (status : Status) (calls : ℕ) (lines : List Asked) → AreLoadLines status calls lines → promise.AreLoadLines (way_of status).lines (map Tree (load_lines calls)) lines
load-lines-way Usage calls lines h = absurd h
load-lines-way Broken calls lines h = absurd h
load-lines-way Unread calls lines h = absurd h
load-lines-way TranscriptTooLong calls lines h = absurd h
load-lines-way status calls lines h = h
