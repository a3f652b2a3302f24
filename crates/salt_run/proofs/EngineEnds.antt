-- A run, by what is found at first and by how its database ends.
use Rattle.salt_books.specs.declared.books.Books.{Books}
use Rattle.salt_database.proofs.Lying.{opened-first}
use Rattle.salt_database.specs.Finding.{IsNew}
use Rattle.salt_database.specs.Halves.{IfEither, by_half, database_flight, database_fresh, database_stands_for_kept, database_can_reopen, no_setup, opening_can_reopen, opening_stands_for_kept}
use Rattle.salt_database.specs.Standing.{opening_books}
use Rattle.salt_database.specs.declared.database.Database.{Database}
use Rattle.salt_database.specs.declared.database.Database.TheVariants.{Closed, Moving, Open}
use Rattle.salt_database.specs.declared.opening.Opening.{Opening}
use Rattle.salt_devices.specs.Filling.{FillsIn}
use Rattle.salt_devices.specs.Leaving.{StandsFor}
use Rattle.salt_devices.specs.Refusing.{FindsKept, RefusesDevices}
use Rattle.salt_devices.specs.Holding.{net_in, setup_in}
use Rattle.salt_devices.specs.Standing.{RestsAs, StandsHeld, StandsLeft}
use Rattle.salt_devices.specs.declared.devices.Devices.{Devices}
use Rattle.salt_disk.specs.Disks.{AreUnchanged, IsUnchanged, KeepsAll, SameShape, View}
use Rattle.salt_disk.specs.declared.disks.DiskErr.TheVariants as disk
use Rattle.salt_disk.specs.declared.disks.DiskErr.{DiskErr}
use Rattle.salt_engine.specs.Flights.{flight_of}
use Rattle.salt_engine.specs.Netted.{CanReopenNet}
use Rattle.salt_engine.specs.Standing.{CanReopenAt, left_on_devices, serving_books}
use Rattle.salt_engine.specs.declared.flights.InFlight.{InFlight}
use Rattle.law_states.specs.Points.{Point}
use Rattle.law_states.specs.States.{State}
use Rattle.salt_ast.specs.declared.lines.Line.TheVariants.{Nothing}
use Rattle.salt_model.specs.Arming.{armed_behind, armed_by_lines}
use Rattle.salt_model.specs.Kept.{Kept, WellKept, nothing_kept}
use Rattle.salt_model.specs.Lines.{AskInOrder}
use Rattle.salt_model.specs.Played.{IsPlayed, Tells}
use Rattle.salt_model.specs.Trace.{Start, Trace, lines_asked, start_of}
use Rattle.salt_model.specs.declared.events.Event.{Event}
use Rattle.salt_model.specs.declared.events.Flight.{Flight}
use Rattle.salt_net.specs.Turns.{Turning}
use Rattle.salt_net.specs.declared.kinds.NetEvent.{NetEvent}
use Rattle.salt_promise.specs.Counting.{Stops}
use Rattle.salt_promise.specs.Doing.{IsFrontOf}
use Rattle.salt_promise.specs.Promises.{Promises}
use Rattle.salt_promise.specs.Runs.{AreAsBefore, IsNoRefusal, may_have_failed, net_left}
use Rattle.salt_promise.specs.Status.{ends_between}
use Rattle.salt_promise.specs.declared.status.Status.{Status}
use Rattle.salt_promise.specs.declared.status.Status.TheVariants.{Broken, DeviceFull, Done, Memory, NotSalt, NumbersSpent, OtherShape, ReadFault, ScriptTooLong, TranscriptTooLong, Unread, Usage, WriteFault}
use Rattle.salt_run.proofs.Images.{stands-alone}
use Rattle.salt_run.proofs.Over.{ends-behind}
use Rattle.salt_run.proofs.Replayed.{load-replays, script-replays}
use Rattle.salt_run.proofs.Tallied.{armed-at-first, behind-along}
use Rattle.salt_run.proofs.Unwritten.{front-lines, load-unwritten}
use Rattle.salt_promise.specs.Given.{shape_of}
use Rattle.salt_run.specs.Ending.{EndsBehind, IsNetLeft, flight_at, flight_left}
use Rattle.salt_run.specs.Running.{DoTheirRests, FindsNothing, Replays, Runs, RunsOver}
use Rattle.salt_run.specs.Summing.{IsSummary}
use Rattle.salt_loop.proofs.Armed.{ends-unwritten, opened-stops}
use Rattle.salt_loop.proofs.Counts.{run-added, run-opened, run-unwritten}
use Rattle.salt_loop.proofs.Leaving.{answers-opening, full-reason}
use Rattle.salt_loop.specs.Counted.{AreFaultsOf, CountsAdded, CountsRun}
use Rattle.salt_loop.specs.Ending.{EndsFound, IsStatusOf, MayEndAt, ServesBetween}
use Rattle.salt_loop.specs.Loading.{IsPlayedLoad, asked_by_load, load_run}
use Rattle.salt_loop.specs.Run.{IsFlightAt, IsRun, Streams, script_run}
use Rattle.salt_loop.specs.Serving.{IsToBegin}
use Rattle.salt_loop.specs.Stopping.{numbers_of_status, status_opening}
use Rattle.salt_driver.proofs.AtFirst.{down-at-first}
use Rattle.salt_stands.specs.Stands.{are_spent}
use Rattle.salt_stands.specs.Turning.{turning}
use Rattle.salt_driver.specs.Along.{armed_along}
use Rattle.salt_driver.specs.Counting.{CountsOpening}
use Rattle.salt_driver.specs.Devices.{OnDevices, on_devices}
use Rattle.salt_driver.specs.Opening.{FailsToFind, IsOpenedFirst, IsUnfound, start_over}
use Rattle.salt_storage.specs.Answers.{IsRefusal, open_disk_err_of}
use Rattle.salt_storage.specs.Netted.{net_begun, net_told}
use Rattle.salt_storage.specs.Staying.{Setup}
use Rattle.salt_storage.specs.Storing.{IsSoundKept}
use Rattle.salt_storage.specs.Writing.{OfOpening, ToWrite}
use Rattle.salt_storage.specs.declared.found.Numbers.{Numbers}
use Rattle.salt_storage.specs.OpenErr.{OpenErr}
use Rattle.salt_storage.specs.OpenErr.TheVariants as open_err
use Rattle.salt_model.specs.Summary.{summary_of}
use Rattle.salt_place.specs.declared.placement.Shape.{Shape}
use Rattle.salt_promise.specs.declared.command.Command.{Command}
use Rattle.salt_promise.specs.declared.command.Command.TheVariants.{Load, Script}
use Rattle.std.proofs.Common.{ap, inl, inr, subst, sym, ◌∙◌}
use Rattle.std.specs.Prelude.{Bool, IfSome, IsTrue, List, None, Option, Some, [], false, if◌then◌else◌, option_map, refl, true, ℕ, ◌&&◌, ◌≡◌, ◌⊎◌}

-- THE STATUS, and the one of its engine: the same, or the sink failed behind it

abbrev pub IsBehind : (old status : Status) → Type 0
IsBehind old status = (status ≡ old) ⊎ ((status ≡ WriteFault) × (old ≡ Memory → ⊥))

not-full : (status : Status) (dev : ℕ) → status ≡ WriteFault → status ≡ DeviceFull dev → ⊥
not-full status dev w f = let both : WriteFault ≡ DeviceFull dev = sym w ∙ f in cc

-- over what was found it ends by no refusal of that
may-end : (room : ℕ) (p : Point) (status : Status) → MayEndAt room p status → IsNoRefusal status
may-end room p Usage h = h
may-end room p Broken h = h
may-end room p Unread h = h
may-end room p TranscriptTooLong h = h
may-end room p (NotSalt dev) h = h
may-end room p (OtherShape kept asked) h = h
may-end room p status h = tt

-- WHAT IS REFUSED

pub refused-so : (d : View) (shape : Shape) (reason r : OpenErr) → reason ≡ r → (r ≡ open_err.Memory → ⊥) → RefusesDevices d true shape reason ⊎ (reason ≡ open_err.Memory) → RefusesDevices d true shape r
refused-so d shape reason r is other (inl h) = subst (RefusesDevices d true shape) is h
refused-so d shape reason r is other (inr m) = absurd (other (sym is ∙ m))

-- what was not written is as it was, unless the devices failed
same-as-before : (d e : View) → SameShape d e → ((dev : ℕ) → ¬ ⊥ → IsUnchanged d e dev) → AreUnchanged d e
same-as-before d e shape each = record { shape = shape; each = λ dev. each dev (λ x. x) }

as-before : (d e : View) (reason : OpenErr) (status : Status) → IsStatusOf reason status → KeepsAll d e (open_disk_err_of reason) → AreAsBefore (may_have_failed status) d e
as-before d e reason status how k = record { images = λ dev. k.images dev (λ x. x); unchanged = by reason how k }
  where
    never : true ≡ false → AreUnchanged d e
    never h = absurd (cc h)

    of-reason : (r : OpenErr) → KeepsAll d e (open_disk_err_of r) → may_have_failed (status_opening r) ≡ false → AreUnchanged d e
    of-reason (open_err.NotSalt dev) k h = same-as-before d e k.shape k.kept
    of-reason (open_err.OtherShape kept asked) k h = same-as-before d e k.shape k.kept
    of-reason (open_err.NumbersSpent boot decisions) k h = same-as-before d e k.shape k.kept
    of-reason open_err.Stopped k h = never h
    of-reason open_err.Failed k h = never h
    of-reason (open_err.Full dev) k h = same-as-before d e k.shape k.kept
    of-reason open_err.Memory k h = same-as-before d e k.shape k.kept

    by : (r : OpenErr) → IsStatusOf r status → KeepsAll d e (open_disk_err_of r) → may_have_failed status ≡ false → AreUnchanged d e
    by r (inl same) k h = of-reason r k (ap may_have_failed (sym same) ∙ h)
    by r (inr w) k h = never (ap may_have_failed (sym w.0) ∙ h)

abbrev pub any-start : Start
any-start = record { kept = nothing_kept; can_stop = false; early = false; over_net = false }

-- WHAT WAS FOUND AT FIRST, by a shape that was not tried before

module _ (command : Command) (d : View) (started0 : Bool) (shape0 : Shape) (was : started0 ≡ true) (asked0 : shape0 ≡ shape_of command) where
  pub found-is : (k : Kept) → FindsKept d started0 shape0 k → FindsKept d true (shape_of command) k
  found-is k h = subst (λ (b : Bool). FindsKept d b (shape_of command) k) was (subst (λ (s : Shape). FindsKept d started0 s k) asked0 h)

  refuses-first : (r : OpenErr) → RefusesDevices d started0 shape0 r → RefusesDevices d true (shape_of command) r
  refuses-first r h = subst (λ (b : Bool). RefusesDevices d b (shape_of command) r) was (subst (λ (s : Shape). RefusesDevices d started0 s r) asked0 h)

  -- nothing: what they stood for rests there
  module _ (e : View) (shape : Shape) (started : Bool) (asked : shape ≡ shape0) (rests : (k : Kept) → FindsKept d started0 shape0 k → RestsAs shape started e k) (reason : OpenErr) (story : List Event)
      (x : FailsToFind (RefusesDevices d started0 shape0) (FindsKept d started0 shape0) (RefusesDevices e started shape) (FindsKept e started shape) (FillsIn e shape) reason story)
      (kept : (refusal : OpenErr) → IsRefusal refusal → RefusesDevices d started0 shape0 refusal → IsTrue d.told → KeepsAll d e (open_disk_err_of reason) × (story ≡ []))
      (room : (refusal : OpenErr) → IsRefusal refusal → RefusesDevices d started0 shape0 refusal → IsTrue d.told → (dev : ℕ) → open_disk_err_of reason ≡ Some (disk.Full dev) → ⊥) where
    now : shape ≡ shape_of command
    now = asked ∙ asked0

    refuses-then : (r : OpenErr) → RefusesDevices d true (shape_of command) r → RefusesDevices d started0 shape0 r
    refuses-then r h = subst (λ (s : Shape). RefusesDevices d started0 s r) (sym asked0) (subst (λ (b : Bool). RefusesDevices d b (shape_of command) r) (sym was) h)

    unwritten : (status : Status) → IsStatusOf reason status → (refusal : OpenErr) → IsRefusal refusal → RefusesDevices d true (shape_of command) refusal → IsTrue d.told → AreAsBefore (may_have_failed status) d e × (story ≡ [])
    unwritten status is r refusal h tells = let k = kept r refusal (refuses-then r h) tells in (as-before d e reason status is k.0, k.1)

    unfilled : (status : Status) → IsStatusOf reason status → (refusal : OpenErr) → IsRefusal refusal → RefusesDevices d true (shape_of command) refusal → IsTrue d.told → (dev : ℕ) → status ≡ DeviceFull dev → ⊥
    unfilled status (inl same) r refusal h tells dev full = room r refusal (refuses-then r h) tells dev (ap open_disk_err_of (full-reason reason dev (sym same ∙ full)))
    unfilled status (inr w) r refusal h tells dev full = not-full status dev w.0 full

    finds-then : (k : Kept) → FindsKept d true (shape_of command) k → FindsKept d started0 shape0 k
    finds-then k h = subst (λ (s : Shape). FindsKept d started0 s k) (sym asked0) (subst (λ (b : Bool). FindsKept d b (shape_of command) k) (sym was) h)

    was-refused : RefusesDevices d true (shape_of command) reason ⊎ (reason ≡ open_err.Memory)
    was-refused = elim x.refused [ inl h ↦ inl (refuses-first reason h) | inr m ↦ inr m ]

    pub nothing : (status : Status) (f : Option Flight) (s : Streams) → IsStatusOf reason status → IsUnfound story → ((start : Start) → WellKept start.kept → Replays command status f s story start) →
        Stops status (armed_behind story (Some d.armed)) e.armed → FindsNothing command d e status f None s story
    nothing status f s is unfound replays armed = record {
      reason = reason;
      none = refl;
      is = is;
      refused = was-refused;
      unfound = unfound;
      replays = replays;
      armed = armed;
      empty = x.empty;
      rests = λ k h told image left. subst (λ (s : Shape). StandsFor s image k) now (stands-alone shape started e k (rests k (finds-then k h)) told image left);
      full = λ dev full. by dev full is;
      unwritten = unwritten status is;
      unfilled = unfilled status is;
    }
      where
        by : (dev : ℕ) → status ≡ DeviceFull dev → IsStatusOf reason status → FillsIn e (shape_of command) OfOpening dev
        by dev full (inl same) = subst (λ (s : Shape). FillsIn e s OfOpening dev) now (x.full dev (full-reason reason dev (sym same ∙ full)))
        by dev full (inr w) = absurd (not-full status dev w.0 full)

-- a run over it begins, and these stops are armed there
begins-over : (k : Kept) (now early over_net : Bool) (devices : OnDevices) (flies : Option Flight) (d mid : View) (story : List Event) → IsUnfound story → IsSoundKept k →
    IsOpenedFirst devices.can_reopen_at k now early over_net → flies ≡ None → CountsOpening d mid None [] story →
    (trace : Trace) × IsToBegin devices flies (start_over k now early over_net) story trace × (armed_by_lines d.armed trace ≡ Some mid.armed)
begins-over k now early over_net devices flies d mid story unfound sound opens none counts =
    let x = down-at-first k now early over_net devices flies story unfound sound opens none in
    (x.0, record { down = x.1; unasked = x.2 }, armed-at-first d mid (start_over k now early over_net) x.0 story x.1.tells x.2 counts)

-- it can be opened, and nothing was sent yet
opens-over : (can : ℕ → Point → Type 0) (k : Kept) (can_stop early over_net : Bool) (setup : Setup) (net : Option Turning) (found : Option Numbers) → setup.over_net ≡ over_net → net ≡ net_begun setup →
    IsOpenedFirst can k can_stop early over_net → IsOpenedFirst (λ room p. can room p × CanReopenNet setup net found p.state) k can_stop early over_net
opens-over can k can_stop early over_net setup net found over begun opens = λ p u. (opens p u, record { over = u.over_net ∙ sym over; begun = by found })
  where
    by : (found : Option Numbers) → IfSome found (λ numbers. net ≡ net_begun setup)
    by None = tt
    by (Some numbers) = begun

-- an opening of what was found can be opened
abbrev pub can_open : View → Opening Devices → ℕ → Point → Type 0
can_open d o room p =
    opening_can_reopen (λ x k. StandsHeld x.shape x.started x.store x.pending d k) (λ x a b. StandsLeft x.shape x.started x.store x.numbers x.pending d a b) d.can_stop o room p ×
    CanReopenNet (setup_in o.storage.shape o.storage.over_net) (net_in o.storage.store) o.found p.state

abbrev pub left_by : View → Opening Devices → OnDevices
left_by d o =
    on_devices (can_open d o) (λ numbers room p. opening_stands_for_kept (λ x k. StandsHeld x.shape x.started x.store x.pending d k) (λ x a b. StandsLeft x.shape x.started x.store x.numbers x.pending d a b)
    (λ x k. RestsAs x.shape x.started d k) o numbers room p) (λ w dev. FillsIn d o.storage.shape w dev)

pub begins-found : (k : Kept) (early over_net : Bool) (o : Opening Devices) (y : Devices) (d mid : View) (story : List Event) → o.storage ≡ y → y.over_net ≡ over_net → net_in y.store ≡ net_begun (setup_in y.shape y.over_net) →
    IsNew early k o.found o.stage o.single o.in_flight → StandsHeld y.shape y.started y.store y.pending mid k → IsSoundKept k → IsUnfound story → CountsOpening d mid None [] story →
    (trace : Trace) × IsToBegin (left_by mid o) (flight_of o.in_flight) (start_over k mid.can_stop early over_net) story trace × (armed_by_lines d.armed trace ≡ Some mid.armed)
begins-found k early over_net o y d mid story same over begun new holding sound unfound counts =
    begins-over k mid.can_stop early over_net (left_by mid o) (flight_of o.in_flight) d mid story unfound sound
    (opens-over (CanReopenAt (λ k. StandsHeld o.storage.shape o.storage.started o.storage.store o.storage.pending mid k)
    (λ a b. StandsLeft o.storage.shape o.storage.started o.storage.store o.storage.numbers o.storage.pending mid a b) mid.can_stop o.found (opening_books o.stage) o.single o.in_flight) k mid.can_stop early over_net (setup_in o.storage.shape o.storage.over_net) (net_in o.storage.store) o.found (ap (λ (x : Devices). x.over_net) same ∙ over)
    (subst (λ (x : Devices). net_in x.store ≡ net_begun (setup_in x.shape x.over_net)) (sym same) begun)
    (opened-first (λ k. StandsHeld o.storage.shape o.storage.started o.storage.store o.storage.pending mid k)
    (λ a b. StandsLeft o.storage.shape o.storage.started o.storage.store o.storage.numbers o.storage.pending mid a b) mid.can_stop o.found o.stage o.single o.in_flight early over_net k new
    (subst (λ (x : Devices). StandsHeld x.shape x.started x.store x.pending mid k) (sym same) holding) sound)) (ap flight_of new.none) counts

-- AND ENDS

-- what its devices are asked for
abbrev pub setup_of : Database Devices → Setup
setup_of x = by_half (λ o. setup_in o.storage.shape o.storage.over_net) (λ g. setup_in g.storage.shape g.storage.over_net) no_setup x

-- WHAT IS GIVEN where it is given up

pub and-both : (a b : Bool) → (a && b) ≡ true → (a ≡ true) × (b ≡ true)
and-both true true is = (refl, refl)
and-both true false is = absurd (cc is)
and-both false b is = absurd (cc is)

-- its net is what its commits have come to
module _ (stands_for : Option Event → State → Type 0) (setup : Setup) (shape : Shape) (early over_net : Bool) (asked : setup ≡ setup_in shape over_net) (start : Start) (status : Status)
    (story : List Event) (trace : Trace) (net : Option (List NetEvent)) (serves : ServesBetween stands_for start status story trace) where
  given : (b : Bool) → (over_net && ends_between status) ≡ b → IsNetLeft b (stands_for None) setup net → net ≡ (if b then Some (turning shape trace).events else None)
  given false is left = left
  given true is left =
      let both = and-both over_net (ends_between status) is in
      let s = serves both.1 in
      let sent : Shape → Turning = s.point.state.net in
      left s.point.state s.stands.state ∙ ap (λ (v : Setup). option_map (λ (t : Turning). t.events) (net_told v sent)) asked
      ∙ ap (λ (o : Bool). option_map (λ (t : Turning). t.events) (if o then Some (sent shape) else None)) both.0 ∙ ap (λ (t : Turning). Some t.events) (sym (s.keeps.state.net shape))

  pub sent-is : IsNetLeft (over_net && ends_between status) (stands_for None) setup net → net ≡ net_left (Script shape early over_net) status trace
  sent-is left = given (over_net && ends_between status) refl left

-- nothing is in flight between two lines
between-untold : (status : Status) (trace : Trace) (f : Option Flight) → ends_between status ≡ true → IsFlightAt status trace f → f ≡ None
between-untold Done trace f is h = h
between-untold ReadFault trace f is h = h
between-untold ScriptTooLong trace f is h = h
between-untold status trace f is h = absurd (cc is)

-- nothing was in flight
pub flight-none : (status : Status) → flight_at status None ≡ None
flight-none (NumbersSpent boot decisions) = refl
flight-none status = refl

-- so what was in flight is told as ever
pub flight-is : (over_net : Bool) (status : Status) (trace : Trace) (f told : Option Flight) → IsFlightAt status trace f → told ≡ flight_left (over_net && ends_between status) status f → told ≡ flight_at status f
flight-is over_net status trace f told flies is = is ∙ by (over_net && ends_between status) refl
  where
    by : (b : Bool) → (over_net && ends_between status) ≡ b → flight_left b status f ≡ flight_at status f
    by false e = refl
    by true e = sym (ap (flight_at status) (between-untold status trace f (and-both over_net (ends_between status) e).1 flies) ∙ flight-none status)

module _ (e : View) where
  -- what the devices hold, and what a stop leaves of them
  abbrev held : Devices → Kept → Type 0
  held x k = StandsHeld x.shape x.started x.store x.pending e k

  abbrev left : Devices → Kept → Kept → Type 0
  left x a b = StandsLeft x.shape x.started x.store x.numbers x.pending e a b

  abbrev rested : Devices → Kept → Type 0
  rested x k = RestsAs x.shape x.started e k

  ends-over : (x : Devices) (target : Shape) → x.shape ≡ target → (found : Option Numbers) (books : Option Books) (single : Bool) (i : Option InFlight) (status : Status) (trace : Trace) →
      IsPlayed trace → EndsFound (left_on_devices (held x) (left x) (rested x) (FillsIn e x.shape) e.can_stop found books single i) status trace → EndsBehind e target status (flight_at status (flight_of i)) trace
  ends-over x target same found books single i status trace played f =
      subst (λ (s : Shape). EndsBehind e s status (flight_at status (flight_of i)) trace) same (ends-behind x.shape x.started x.store x.numbers x.pending e found books single i status trace played f)

  abbrev LeftIn : Database Devices → Option Numbers → ℕ → Point → Type 0
  LeftIn x numbers room p = database_stands_for_kept held left rested x numbers room p

  abbrev FoundAt : Database Devices → Status → Trace → Type 0
  FoundAt x status trace =
      EndsFound (on_devices (λ room p. database_can_reopen held left e.can_stop x room p × database_fresh (λ y. setup_in y.shape y.over_net) (λ y. net_in y.store) x p.state) (LeftIn x)
      (λ w dev. IfEither (λ o. FillsIn e o.storage.shape w dev) (λ g. FillsIn e g.storage.shape w dev) x)) status trace

  same_shape : {was is : Setup} → was ≡ is → was.shape ≡ is.shape
  same_shape same = ap (λ (s : Setup). s.shape) same

  -- what was sent until then does not matter
  unsent : (can more : ℕ → Point → Type 0) (left_at : Option Numbers → ℕ → Point → Type 0) (fills : ToWrite → ℕ → Type 0) (status : Status) (trace : Trace) →
      EndsFound (on_devices (λ room p. can room p × more room p) left_at fills) status trace → EndsFound (on_devices can left_at fills) status trace
  unsent can more left_at fills status trace f = record {
    room = f.room;
    point = f.point;
    keeps = f.keeps;
    boots = f.boots;
    may = f.may;
    again = λ some. (f.again some).0;
    stands = f.stands;
    full = f.full;
  }

  -- whether it is closed or open there
  pub ends-there : (x : Database Devices) (target : Shape) (over : Bool) → setup_of x ≡ setup_in target over → (status : Status) (trace : Trace) → IsPlayed trace →
      FoundAt x status trace → EndsBehind e target status (flight_at status (database_flight x)) trace
  ends-there (Closed o) target over same status trace played f = ends-over o.storage target (same_shape same) o.found (opening_books o.stage) o.single o.in_flight status trace played (unsent _ _ _ _ status trace f)
  ends-there (Open g) target over same status trace played f = ends-over g.storage target (same_shape same) None (serving_books g.stage) g.single g.in_flight status trace played (unsent _ _ _ _ status trace f)
  ends-there Moving target over same status trace played f = absurd f.stands

  -- and where the sink failed behind it
  told-none : (x : Database Devices) (numbers : Option Numbers) (room : ℕ) (p : Point) → LeftIn x numbers room p → LeftIn x None room p
  told-none (Closed o) numbers room p h = (h.0, tt)
  told-none (Open g) numbers room p h = (h.0, tt)
  told-none Moving numbers room p h = h

  unwritten-there : (x : Database Devices) (old : Status) (trace : Trace) → (old ≡ Memory → ⊥) → FoundAt x old trace → FoundAt x WriteFault trace
  unwritten-there x old trace some f = record {
    room = f.room;
    point = f.point;
    keeps = f.keeps;
    boots = f.boots;
    may = tt;
    again = λ never. f.again some;
    stands = told-none x (numbers_of_status old) f.room f.point f.stands;
    full = λ dev is. absurd (cc is);
  }

module _ (d e : View) (x : Database Devices) where
  module _ (promised : (trace : Trace) → IsPlayed trace → WellKept (start_of trace).kept → Promises trace) (start : Start) (sound : IsSoundKept start.kept) (unspent : are_spent start.kept.boot start.kept.decisions ≡ false)
      (stops : start.can_stop ≡ d.can_stop) (s : Streams) (story : List Event) where
    sound-start : (trace : Trace) → Tells start trace story → IsSoundKept (start_of trace).kept
    sound-start trace tells = subst (λ (k : Start). IsSoundKept k.kept) (sym tells.begins) sound

    module _ (stands_for : Option Event → State → Type 0) (drained : (texts : List (List ℕ)) → DoTheirRests (AskInOrder texts)) (shape : Shape) (early over_net : Bool) (is_early : start.early ≡ early) (over : start.over_net ≡ over_net)
        (asked : setup_of x ≡ setup_in shape over_net) (stood : FindsKept d true shape start.kept) (status : Status)
        (y : (run : IsRun start (script_run status (database_flight x) s story)) × FoundAt e x status run.played.trace × Stops status (armed_by_lines d.armed run.played.trace) e.armed ×
        ServesBetween stands_for start status story run.played.trace) (net : Option (List NetEvent))
        (told : Status) (same : told ≡ status) (left : IsNetLeft (over_net && ends_between told) (stands_for None) (setup_of x) net) where
      pub script-over : RunsOver (Script shape early over_net) d e status (flight_at status (database_flight x)) net s story
      script-over = record {
        start = start;
        stood = stood;
        sound = sound;
        unspent = unspent;
        stops = stops;
        early = is_early;
        over_net = over;
        may = may-end y.1.room y.1.point status y.1.may;
        replays = script-replays promised shape early over_net status (database_flight x) s story start sound.well y.0;
        sent = sent-is stands_for (setup_of x) shape early over_net asked start status story y.0.played.trace net y.3
            (subst (λ (t : Status). IsNetLeft (over_net && ends_between t) (stands_for None) (setup_of x) net) same left);
        armed = y.2;
        drains = drained y.0.played.texts y.0.played.trace y.0.played.tells.played (sound-start y.0.played.trace y.0.played.tells) y.0.played.reads;
        ends = ends-there e x shape over_net asked status y.0.played.trace y.0.played.tells.played y.1;
      }

    module _ (calls done : ℕ) (is_early : start.early ≡ false) (over : start.over_net ≡ false) (drained : DoTheirRests (λ lines. IsFrontOf lines (asked_by_load calls)))
        (asked : setup_of x ≡ setup_in (shape_of (Load calls)) false) (stood : FindsKept d true (shape_of (Load calls)) start.kept) (old status : Status) (how : IsBehind old status)
        (summed : IsSummary status (summary_of calls done story) s.before s.now)
        (y : (run : IsPlayedLoad start (load_run old (database_flight x) calls done story)) × FoundAt e x old run.trace × Stops old (armed_by_lines d.armed run.trace) e.armed) where
      abbrev Loaded : Status → Type 0
      Loaded t = (r : IsPlayedLoad start (load_run t (database_flight x) calls done story)) × FoundAt e x t r.trace × Stops t (armed_by_lines d.armed r.trace) e.armed

      loaded : Loaded status
      loaded = by how
        where
          by : IsBehind old status → Loaded status
          by (inl same) = subst Loaded (sym same) y
          by (inr w) =
              subst Loaded (sym w.0)
              (load-unwritten start old (database_flight x) calls done story w.1 y.0, unwritten-there e x old y.0.trace w.1 y.1, ends-unwritten old w.1 y.2)

      pub load-over : RunsOver (Load calls) d e status (flight_at status (database_flight x)) None s story
      load-over = record {
        start = start;
        stood = stood;
        sound = sound;
        unspent = unspent;
        stops = stops;
        early = is_early;
        over_net = over;
        may = may-end loaded.1.room loaded.1.point status loaded.1.may;
        replays = load-replays promised calls done status (database_flight x) s story start sound.well loaded.0 summed;
        sent = refl;
        armed = loaded.2;
        drains = drained loaded.0.trace loaded.0.tells.played (sound-start loaded.0.trace loaded.0.tells) (front-lines status calls (lines_asked loaded.0.trace) loaded.0.lines);
        ends = ends-there e x (shape_of (Load calls)) false asked status loaded.0.trace loaded.0.tells.played loaded.1;
      }

-- a workload that was not begun
pub unfound-load : (calls : ℕ) (old status : Status) → IsBehind old status → (start : Start) (story : List Event) → IsPlayedLoad start (load_run old None calls 0 story) → IsPlayedLoad start (load_run status None calls 0 story)
unfound-load calls old status (inl same) start story p = subst (λ (t : Status). IsPlayedLoad start (load_run t None calls 0 story)) (sym same) p
unfound-load calls old status (inr w) start story p = subst (λ (t : Status). IsPlayedLoad start (load_run t None calls 0 story)) (sym w.0) (load-unwritten start old None calls 0 story w.1 p)

pub unfound-status : (reason : OpenErr) (old status : Status) → old ≡ status_opening reason → IsBehind old status → IsStatusOf reason status
unfound-status reason old status is (inl same) = inl (same ∙ is)
unfound-status reason old status is (inr w) = inr (w.0, λ m. w.1 (is ∙ ap status_opening m))

-- WHAT IS COUNTED, over what was found and behind it

memory-reason : (reason : OpenErr) → (reason ≡ open_err.Stopped → ⊥) → status_opening reason ≡ Memory → reason ≡ open_err.Memory
memory-reason (open_err.NotSalt dev) never is = absurd cc
memory-reason (open_err.OtherShape kept asked) never is = absurd cc
memory-reason (open_err.NumbersSpent boot decisions) never is = absurd cc
memory-reason open_err.Stopped never is = absurd (never refl)
memory-reason open_err.Failed never is = absurd cc
memory-reason (open_err.Full dev) never is = absurd cc
memory-reason open_err.Memory never is = refl

pub found-counts : (d mid e : View) (status : Status) (told story : List Event) → CountsOpening d mid None [] told → CountsAdded mid e status told story → CountsRun d e status story
found-counts d mid e status told story g h = run-added d mid e status told story (run-opened d mid Done told g) h

pub unfound-counts : (d e : View) (reason : OpenErr) (status : Status) (story : List Event) → (reason ≡ open_err.Stopped → ⊥) → CountsOpening d e (open_disk_err_of reason) [] story →
    IsStatusOf reason status → CountsRun d e status story
unfound-counts d e reason status story never g how = by how
  where
    first : CountsRun d e (status_opening reason) story
    first = run-opened d e (status_opening reason) story (subst (λ (a : Option DiskErr). CountsOpening d e a [] story) (answers-opening reason never) g)

    by : IsStatusOf reason status → CountsRun d e status story
    by (inl same) = subst (λ (t : Status). CountsRun d e t story) (sym same) first
    by (inr w) =
        subst (λ (t : Status). CountsRun d e t story) (sym w.0) (run-unwritten d e (status_opening reason) story (λ m. w.1 (memory-reason reason never m)) first)

-- each stop was armed before it came, where nothing was found
pub unfound-stops : (d e : View) (reason : OpenErr) (status : Status) (story : List Event) → (reason ≡ open_err.Stopped → ⊥) → CountsOpening d e (open_disk_err_of reason) [] story →
    IsStatusOf reason status → Stops status (armed_behind story (Some d.armed)) e.armed
unfound-stops d e reason status story never g how = by how
  where
    first : Stops (status_opening reason) (armed_behind story (Some d.armed)) e.armed
    first =
        let h = subst (λ (a : Option DiskErr). CountsOpening d e a [] story) (answers-opening reason never) g in
        subst (λ (left : Option (List (ℕ × ℕ))). Stops (status_opening reason) left e.armed)
        (ap (λ (es : List Event). armed_along Nothing es (Some d.armed)) (sym h.grows) ∙ behind-along story (Some d.armed)) (opened-stops d e (status_opening reason) [] story h Nothing)

    by : IsStatusOf reason status → Stops status (armed_behind story (Some d.armed)) e.armed
    by (inl same) = subst (λ (t : Status). Stops t (armed_behind story (Some d.armed)) e.armed) (sym same) first
    by (inr w) = subst (λ (t : Status). Stops t (armed_behind story (Some d.armed)) e.armed) (sym w.0) (ends-unwritten (status_opening reason) (λ m. w.1 (memory-reason reason never m)) first)

-- AS ITS CALLER KNOWS IT: the status is the outcome, and the flight is told by that

pub as-told : (command : Command) (d e : View) (s : Streams) (story : List Event) (old status : Status) (f told : Option Flight) (net : Option (List NetEvent)) → status ≡ old → told ≡ flight_at status f →
    Runs command d e old (flight_at old f) net s story → Runs command d e status told net s story
as-told command d e s story old status f told net same is h =
    subst (λ (x : Option Flight). Runs command d e status x net s story) (sym is) (subst (λ (t : Status). Runs command d e t (flight_at t f) net s story) (sym same) h)

pub behind-outcome : (old mid status : Status) → mid ≡ old → (status ≡ mid) ⊎ ((status ≡ WriteFault) × (mid ≡ Memory → ⊥)) → IsBehind old status
behind-outcome old mid status same h = subst (λ (t : Status). IsBehind t status) same h

pub behind-faults : (d e : View) (story : List Event) (old status : Status) → IsBehind old status → CountsRun d e old story → AreFaultsOf status d.faults story e.faults
behind-faults d e story old status (inl same) h = subst (λ (t : Status). AreFaultsOf t d.faults story e.faults) (sym same) h.faults
behind-faults d e story old status (inr w) h = subst (λ (t : Status). AreFaultsOf t d.faults story e.faults) (sym w.0) (run-unwritten d e old story w.1 h).faults
