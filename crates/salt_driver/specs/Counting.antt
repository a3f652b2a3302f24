-- Stops that are armed and used up, and faults, as they are counted.
use Rattle.salt_ast.specs.declared.lines.Line.TheVariants.{Nothing}
use Rattle.salt_ast.specs.declared.lines.Line.{Line}
use Rattle.salt_disk.specs.Disks.{HaveCome, Rose, View, stops_in, stops_left}
use Rattle.salt_disk.specs.declared.disks.DiskErr.TheVariants.{Failed, Memory}
use Rattle.salt_disk.specs.declared.disks.DiskErr.{DiskErr}
use Rattle.salt_model.specs.Arming.{stops_asked}
use Rattle.salt_model.specs.declared.events.Event.TheVariants.{Armed, Down}
use Rattle.salt_model.specs.declared.events.Event.{Event}
use Rattle.salt_model.specs.declared.events.Why.TheVariants.{Fault, Stopped}
use Rattle.salt_model.specs.declared.events.Why.{Why}
use Rattle.std.specs.Prelude.{Err, List, None, Ok, Option, Result, Some, [], ℕ, ◌+◌, ◌++◌, ◌∷◌, ◌≡◌, ◌≤◌, ◌⊎◌}

-- the stops that an event arms in the segment of a line, and how many have come where it stands
abbrev pub stops_armed : Line → Event → List (ℕ × ℕ)
stops_armed line (Armed pairs) = stops_asked line pairs
stops_armed line e = []

abbrev pub stops_of : Why → ℕ
stops_of Stopped = 1
stops_of Fault = 0

abbrev pub stops_told : Event → ℕ
stops_told (Down why) = stops_of why
stops_told e = 0

abbrev pub armed_in : Line → List Event → List (ℕ × ℕ)
armed_in line [] = []
armed_in line (e ∷ es) = stops_armed line e ++ armed_in line es

abbrev pub stopped_in : List Event → ℕ
stopped_in [] = 0
stopped_in (e ∷ es) = stops_told e + stopped_in es

-- the falls by faults that are told
abbrev pub faults_of : Why → ℕ
faults_of Stopped = 0
faults_of Fault = 1

abbrev pub faults_told : Event → ℕ
faults_told (Down why) = faults_of why
faults_told e = 0

abbrev pub faulted_in : List Event → ℕ
faulted_in [] = 0
faulted_in (e ∷ es) = faults_told e + faulted_in es

-- those that the event at hand has armed
abbrev pub armed_at : Line → Option Event → List (ℕ × ℕ)
armed_at line None = []
armed_at line (Some e) = stops_armed line e

-- `Failed` comes only where the disks have failed.
pub record CountsFaults (old new : View) (answer : Option DiskErr) : Type 0 where
  pub later : old.faults ≤ new.faults
  pub failed : answer ≡ Some Failed → Rose old.faults new.faults

-- Unless memory ran out: behind those that were armed already stand these, and of them all the first have come, as many as are told, and
-- one more where a stop is the answer.
pub record CountsStops (old new : View) (answer : Option DiskErr) (armed : List (ℕ × ℕ)) (told : ℕ) : Type 0 where
  pub faults : CountsFaults old new answer
  pub stops : (answer ≡ Some Memory → ⊥) → HaveCome (stops_in answer + told) (old.armed ++ armed) new.armed

-- those that are armed in the event that a call gives
abbrev pub armed_told : {H : Type 0} → Line → Result (Option Event) H → List (ℕ × ℕ)
armed_told line (Ok next) = armed_at line next
armed_told line (Err e) = []

-- So it is for the events of a line by which a story has grown, of which the first was at hand before: what that has armed stands last
-- already. And none is a fall.
pub record CountsMore (line : Line) (old new : View) (answer : Option DiskErr) (first : Option Event) (story told : List Event) : Type 0 where
  pub more : List Event
  pub grows : told ≡ story ++ more
  pub unfaulted : faulted_in more ≡ 0
  pub unstopped : stopped_in more ≡ 0
  pub faults : CountsFaults old new answer
  pub stops : (answer ≡ Some Memory → ⊥) → (before : List (ℕ × ℕ)) → old.armed ≡ before ++ armed_at line first → HaveCome (stops_in answer) (before ++ armed_in line more) new.armed

-- up to an event that is at hand
pub record CountsSoFar (line : Line) (old new : View) (first : Option Event) (story told : List Event) (next : Option Event) : Type 0 where
  pub more : List Event
  pub grows : told ≡ story ++ more
  pub unfaulted : faulted_in more ≡ 0
  pub unstopped : stopped_in more ≡ 0
  pub faults : CountsFaults old new None
  pub stops : (before : List (ℕ × ℕ)) → old.armed ≡ before ++ armed_at line first → new.armed ≡ before ++ armed_in line more ++ armed_at line next

-- The events of openings and falls arm no stops, and none is a fall by a fault. Also where memory ran out, no more stops are told than
-- were left.
pub record CountsOpening (old new : View) (answer : Option DiskErr) (story told : List Event) : Type 0 where
  pub more : List Event
  pub grows : told ≡ story ++ more
  pub unarmed : armed_in Nothing more ≡ []
  pub unfaulted : faulted_in more ≡ 0
  pub most : stopped_in more ≤ stops_left old
  pub counts : CountsStops old new answer [] (stopped_in more)

-- these come behind a fall, and none of them is one by a fault
pub record FallsFirst (why : Why) (more : List Event) : Type 0 where
  pub behind : List Event
  pub first : more ≡ Down why ∷ behind
  pub unfaulted : faulted_in behind ≡ 0

-- likewise of a run that falls first, by a stop or a fault that was counted as it halted
pub record CountsFall (why : Why) (old new : View) (answer : Option DiskErr) (story told : List Event) : Type 0 where
  pub more : List Event
  pub grows : told ≡ story ++ more
  pub unarmed : armed_in Nothing more ≡ []
  pub falls : ((more ≡ []) × (answer ≡ Some Memory)) ⊎ FallsFirst why more
  pub most : stopped_in more ≤ stops_of why + stops_left old
  pub faults : CountsFaults old new answer
  pub stops : (answer ≡ Some Memory → ⊥) → (came : ℕ) → stopped_in more ≡ stops_of why + came → HaveCome (stops_in answer + came) old.armed new.armed
