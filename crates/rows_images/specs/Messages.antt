-- Scripts whose commits go over messages, each with what these have come to.
use Rattle.salt_ast.specs.Sample.{acct_def}
use Rattle.salt_ast.specs.declared.lines.Line.TheVariants as line
use Rattle.salt_ast.specs.declared.lines.Line.{Line}
use Rattle.salt_model.specs.Computing.{computing}
use Rattle.salt_model.specs.Kept.{nothing_kept}
use Rattle.salt_model.specs.Scripts.{at, begin, commit, insert_acct, rollback, unit}
use Rattle.salt_model.specs.Trace.{Trace, Tree, from, ◌says◌}
use Rattle.salt_model.specs.Walk.{completed, walk_on}
use Rattle.salt_model.specs.declared.events.Cause.TheVariants as cause
use Rattle.salt_model.specs.declared.events.End.TheVariants as end
use Rattle.salt_model.specs.declared.events.Event.TheVariants as event
use Rattle.salt_model.specs.declared.events.Why.TheVariants as why
use Rattle.salt_net.specs.declared.kinds.NetEvent.TheVariants.{Deliver, Resend, Restart, Start}
use Rattle.salt_place.specs.declared.placement.PlaceKind.TheVariants.{Remainder}
use Rattle.salt_place.specs.declared.placement.Shape.{Shape}
use Rattle.salt_stands.specs.Turning.{no_turns, turning}
use Rattle.std.specs.Prelude.{List, [], false, map, refl, true, ℕ, ◌∷◌, ◌≡◌}

abbrev two : Shape
two = record { parts = 2; kind = Remainder }

-- a new database whose commits go over messages, with the accounts and these lines
abbrev over_messages : List Line → Trace
over_messages lines =
    walk_on (map Tree (line.Table acct_def ∷ lines))
    (completed 9 (from (record { kept = nothing_kept; can_stop = true; early = false; over_net = true }) says event.Opened 1 0))

abbrev pairs : List (ℕ × ℕ)
pairs = (1, 0) ∷ (2, 1) ∷ (3, 2) ∷ []

-- Pairs wait until a unit commits; what stops disks waits for no message.
waiting : turning two (over_messages (line.Net pairs ∷ [])) ≡ record { events = []; taken = 0; waiting = pairs }
unfolding computing
waiting = refl

stops : turning two (over_messages (line.Crash pairs ∷ [])) ≡ no_turns
unfolding computing
stops = refl

-- A unit changes both partitions. One message is lost, the second behind it comes twice, and before the third behind that
-- its partition starts again.
abbrev both : Trace
both = over_messages (line.Net pairs ∷ begin 1 ∷ at 1 (insert_acct 1 100) ∷ at 1 (insert_acct 2 50) ∷ commit 1 ∷ [])

disturbed : (turning two both).events
    ≡ Start (unit 1) (1 ∷ 2 ∷ []) ∷ Deliver 1 ∷ Deliver 2 ∷ Deliver 2 ∷ Resend (unit 1) ∷ Deliver 3 ∷ Deliver 4 ∷ Restart 1 ∷ Deliver 5 ∷ Deliver 6
    ∷ Deliver 7 ∷ Deliver 8 ∷ []
unfolding computing
disturbed = refl

-- An opening begins anew, and the unit that is told again behind it commits no more.
begun_anew : turning two (both says event.Down why.Stopped says event.Opened 2 2 says event.Ended (unit 1) (end.Committed 2)) ≡ no_turns
unfolding computing
begun_anew = refl

-- A unit changes the second partition; one changes none; and one changes some and is rolled back.
one_part : (turning two (over_messages (at 1 (insert_acct 1 100) ∷ []))).events ≡ Start (unit 1) (2 ∷ []) ∷ Deliver 0 ∷ Deliver 1 ∷ Deliver 2 ∷ Deliver 3 ∷ []
unfolding computing
one_part = refl

no_part : (turning two (over_messages (begin 1 ∷ commit 1 ∷ []))).events ≡ Start (unit 1) [] ∷ []
unfolding computing
no_part = refl

rolled_back : turning two (over_messages (begin 1 ∷ at 1 (insert_acct 1 100) ∷ rollback 1 ∷ [])) ≡ no_turns
unfolding computing
rolled_back = refl

-- A branch changes nothing, whatever its unit did.
branched : (turning two (over_messages (begin 1 ∷ at 1 (insert_acct 1 100) ∷ []) says event.Ended (unit 1) (end.Branched 2 cause.Ensure))).events
    ≡ Start (unit 1) [] ∷ []
unfolding computing
branched = refl
