-- Wrong runs, one for each way in which a definition could be too wide: none of them is as promised.
use Rattle.salt_bytes.specs.Coordinator.{Boots, Decides, spell_entry, spell_header}
use Rattle.salt_bytes.specs.Partition.{spell_partition_header}
use Rattle.salt_stands.specs.FirstOpening.{first_header, first_part_header}
use Rattle.salt_stands.specs.Partition.{part_device}
use Rattle.salt_bytes.specs.Generations.{BothBlank, Counts, LogA, WhichLog}
use Rattle.salt_bytes.specs.Log.{entries_in, entries_up_to, framed, split_payload}
use Rattle.salt_stands.specs.Fitting.{definitions_reading, kept_in}
use Rattle.salt_disk.specs.Disks.{View}
use Rattle.salt_ast.specs.Trees.{number, operation}
use Rattle.salt_ast.specs.declared.lines.Line.TheVariants.{Net}
use Rattle.salt_ast.specs.declared.trees.Op.TheVariants as op
use Rattle.salt_ast.specs.declared.trees.Statement.TheVariants.{Ensure}
use Rattle.salt_ast.specs.declared.trees.Statement.{Statement}
use Rattle.salt_model.specs.After.{Stage, keep, kept, stage}
use Rattle.salt_model.specs.Ends.{kept_with, raised}
use Rattle.salt_model.specs.declared.events.Answer.TheVariants as answer
use Rattle.salt_model.specs.declared.events.End.TheVariants as end
use Rattle.salt_model.specs.declared.events.UnitKind.TheVariants as kind
use Rattle.salt_values.specs.declared.id.Id.{Id}
use Rattle.salt_model.specs.Everywhere.{Always, Each}
use Rattle.salt_model.specs.Kept.{Definition, Kept, nothing_kept, programs_of}
use Rattle.salt_model.specs.Next.{flight, is_decision, next}
use Rattle.salt_model.specs.Phases as phases
use Rattle.salt_model.specs.Phases.{Fallen, phase}
use Rattle.salt_model.specs.Rests.{DoesItsRests, done_since_opened, rests_at, rests_found, rests_of}
use Rattle.salt_model.specs.Stops.{is_just_opened}
use Rattle.salt_model.specs.Tables.{no_rows, with_changes}
use Rattle.salt_model.specs.Trace.{Trace, Tree, from, start_of, story_of, ◌asks◌, ◌says◌, ◌turns◌}
use Rattle.salt_model.specs.Words.{Every}
use Rattle.salt_model.specs.declared.events.Event.TheVariants.{Armed, Began, Defined, Did, Down, Ended, Opened, Ready}
use Rattle.salt_model.specs.declared.events.Event.{Event}
use Rattle.salt_model.specs.declared.events.Flight.{Flight}
use Rattle.salt_model.specs.declared.events.Why.TheVariants as why
use Rattle.salt_promise.specs.Worked.{after, ample, begun, blank, header_at, holding, on, one_line, one_part, opened}
use Rattle.salt_model.specs.Arming.{armed_behind, armed_by_lines}
use Rattle.salt_promise.specs.Counting.{AreArmed, Stops}
use Rattle.salt_promise.specs.Ending.{IsLeftBehind, StandsBehind}
use Rattle.salt_promise.specs.Filling.{IsFullBehind, NewPairFills, NextFills}
use Rattle.salt_promise.specs.Given.{Run}
use Rattle.salt_promise.specs.declared.command.Command.TheVariants.{Load, Script}
use Rattle.salt_promise.specs.declared.command.Command.{Command}
use Rattle.salt_promise.specs.declared.status.Status.TheVariants.{DeviceFull, Done, Memory, NumbersSpent}
use Rattle.salt_promise.specs.declared.status.Status.{Status}
use Rattle.salt_promise.specs.Completing.{IsWithin}
use Rattle.salt_promise.specs.Runs.{EndsRefused, FindsNothing, RunsAs, RunsOver, Runs, runs_as, says_nothing}
use Rattle.salt_promise.specs.Standing.{OpenAs, StandFor}
use Rattle.salt_stands.specs.Coordinator.{coordinator_pair, device_of}
use Rattle.salt_stands.specs.CoordinatorLog.{CoordinatorLog}
use Rattle.salt_stands.specs.Stands as opening
use Rattle.salt_stands.specs.Stands.{Found, Opening, Stands, stands_on, logs_of, nothing_found, opening_of}
use Rattle.salt_stands.specs.Tables.{joined}
use Rattle.salt_stands.specs.Unspent.{OpensUnspent}
use Rattle.std.proofs.Common.{ap, arith, inl, inr, subst, sym, ◌∙◌}
use Rattle.std.proofs.lemmas.List.{same_from_push}
use Rattle.std.specs.Prelude.{Bool, IsTrue, List, None, Ok, Option, Result, Some, [], codes, false, if◌then◌else◌, length, pos, refl, suc, true, zero, ℕ, ◌&&◌, ◌+◌, ◌++◌, ◌-◌, ◌^◌, ◌<◌, ◌∷◌, ◌≡◌, ◌≤◌, ◌⊎◌}

abbrev half : ℕ
half = 2 ^ 63

-- over one partition, of an empty script, with this printed
abbrev run : (before after : View) → Status → Option Flight → List Event → List ℕ → Run
run before after status flight story printed = record {
  command = Some (Script one_part false false);
  before = record { source = record { bytes = Some []; faults = 0 }; sink = record { bytes = Some []; faults = 0 }; devices = before };
  after = record { source = record { bytes = Some []; faults = 0 }; sink = record { bytes = Some printed; faults = 0 }; devices = after };
  status = status;
  flight = flight;
  story = story;
  net = None;
}

one-command : (c d : Command) → Some c ≡ Some d → c ≡ d
one-command c d e = cc

of-script : (r : Run) → r.command ≡ Some (Script one_part false false) → (RunsAs r (Script one_part false false) → ⊥) → Runs r → ⊥
of-script r is not (says_nothing e u) = let both : None ≡ Some (Script one_part false false) = sym e ∙ is in cc
of-script r is not (runs_as {command} e x) = not (subst (λ c. RunsAs r c) (one-command command (Script one_part false false) (sym e ∙ is)) x)

-- SPENT NUMBERS, at first: the devices have boot 2^63, and it is served on

abbrev spent_run : Run
spent_run = run (holding ample (begun (header_at half) []) []) (holding ample (begun (header_at half) (spell_entry (Boots (half + 1)) ∷ [])) []) Done None
    (Opened (half + 1) 0 ∷ Ready ∷ []) (codes "opened 9223372036854775809 0" ++ 10 ∷ (codes "ready" ++ 10 ∷ []))

spent-answer : (read : List ℕ → Option Definition) → opening_of (definitions_reading read) (begun (header_at half) []) one_part ≡ opening.NumbersSpent half 0
unfolding entries_in entries_up_to split_payload framed
spent-answer read = refl

spent-closed : (k : Kept) → OpenAs one_part (begun (header_at half) []) k → ⊥
spent-closed k o = let both : opening.NumbersSpent half 0 ≡ Stands o.found = sym (spent-answer o.answers.read) ∙ o.answers.is in cc

spent-at-first : Runs spent_run → ⊥
spent-at-first = of-script spent_run refl (λ x. by (x.goes refl))
  where
    by : FindsNothing spent_run (Script one_part false false) ⊎ RunsOver spent_run (Script one_part false false) → ⊥
    by (inl f) = let e = f.story in cc
    by (inr o) = spent-closed o.start.kept (o.opens refl)

-- and behind a fall: no trace of a story with such an opening is as promised

same-unspent : (t u : Trace) (e : Event) → OpensUnspent t e → OpensUnspent u e
same-unspent t u (Opened boot n) h = h
same-unspent t u e h = h

every-more : {A : Type 0} (P : A → Type 0) (xs : List A) (x : A) → Every P xs → P x → Every P (xs ++ x ∷ [])
every-more P [] x h p = (p, tt)
every-more P (y ∷ xs) x h p = (h.0, every-more P xs x h.1 p)

each-unspent : (u t : Trace) → Each OpensUnspent t → Every (OpensUnspent u) (story_of t)
each-unspent u (from k) h = tt
each-unspent u (t asks a) h = each-unspent u t h
each-unspent u (t turns b) h = each-unspent u t h
each-unspent u (t says e) h = every-more (OpensUnspent u) (story_of t) e (each-unspent u t h.0) (same-unspent t u e h.1)

abbrev spent_later_story : List Event
spent_later_story = Opened half 0 ∷ Ready ∷ Down why.Fault ∷ Opened (half + 1) 0 ∷ Ready ∷ []

spent-later : (r : Run) → r.command ≡ Some (Script one_part false false) → IsTrue r.before.devices.told → r.story ≡ spent_later_story → Runs r → ⊥
spent-later r is tells told = of-script r is (λ x. by (x.goes tells))
  where
    unspent : (t : Trace) → Every (OpensUnspent t) spent_later_story → ⊥
    unspent t h = let e = h.1.1.1.0 in cc

    by : FindsNothing r (Script one_part false false) ⊎ RunsOver r (Script one_part false false) → ⊥
    by (inl f) = let both : spent_later_story ≡ [] = sym told ∙ f.story in cc
    by (inr o) = unspent o.trace (subst (Every (OpensUnspent o.trace)) (o.tells.told ∙ told) (each-unspent o.trace o.trace o.unspent))

-- REFUSED DEVICES are written, however the run ends: log B of the coordinator has a byte more

abbrev touched_bytes : ℕ → List ℕ
touched_bytes = let was = begun (header_at half) [] in on (was 0 ∷ (0 ∷ 0 ∷ []) ∷ was 2 ∷ was 3 ∷ [])

abbrev touched_run : Status → Run
touched_run status = run (holding ample (begun (header_at half) []) []) (holding ample touched_bytes []) status None [] []

written-where-refused : (status : Status) → Runs (touched_run status) → ⊥
written-where-refused status = of-script (touched_run status) refl (λ x. by (x.goes refl))
  where
    by : FindsNothing (touched_run status) (Script one_part false false) ⊎ RunsOver (touched_run status) (Script one_part false false) → ⊥
    by (inl f) = let both : ◌≡◌ {A = List ℕ} (0 ∷ 0 ∷ []) (0 ∷ []) = (f.devices refl).images 1 (0 ∷ 0 ∷ []) refl in cc
    by (inr o) = spent-closed o.start.kept (o.opens refl)

-- A DEVICE PAST THOSE of the one partition is written, by a run that is right else

abbrev beside : (behind : List ℕ) → ℕ → List ℕ
beside behind = on (opened 0 ∷ opened 1 ∷ opened 2 ∷ opened 3 ∷ [] ∷ behind ∷ [])

abbrev spilt_run : (ℕ → List ℕ) → Run
spilt_run bytes = record one_line { after = record after { devices = holding ample bytes [] } }

spilt : (bytes : ℕ → List ℕ) (dev : ℕ) → 5 ≤ dev → dev < 26 → bytes dev ≡ 0 ∷ [] → Runs (spilt_run bytes) → ⊥
spilt bytes dev high low written = of-script (spilt_run bytes) refl by
  where
    by : RunsAs (spilt_run bytes) (Script one_part false false) → ⊥
    by x = let both : ◌≡◌ {A = List ℕ} (0 ∷ []) [] = x.others refl dev low high (0 ∷ []) (sym written) in cc

written-behind : Runs (spilt_run (beside (0 ∷ []))) → ⊥
written-behind = spilt (beside (0 ∷ [])) 5 (omega arith) (omega arith) refl

-- A FULL DEVICE at a first opening

-- device 1 has no room
abbrev tight : ℕ → ℕ
tight zero = 67108864
tight (suc zero) = 0
tight (suc (suc dev)) = 67108864

-- of devices that stand: no byte of log B is written
abbrev full_run : (bytes : ℕ → List ℕ) → Run
full_run bytes = run (holding tight bytes []) (holding tight bytes []) (DeviceFull 1) None [] []

not-last : (es : List Event) (a : Event) → es ++ a ∷ [] ≡ [] → ⊥
not-last [] a h = cc
not-last (x ∷ es) a h = cc

fallen-untold : (t : Trace) → story_of t ≡ [] → phase t ≡ Fallen
fallen-untold (from k) e = refl
fallen-untold (t asks a) e = fallen-untold t e
fallen-untold (t turns b) e = fallen-untold t e
fallen-untold (t says a) e = absurd (not-last (story_of t) a e)

abbrev from_nothing : Trace
from_nothing = from (record { kept = nothing_kept; can_stop = true; early = false; over_net = false })

at-first : (bytes : ℕ → List ℕ) → (NextFills (full_run bytes).after.devices one_part from_nothing Fallen None 1 → ⊥) → Runs (full_run bytes) → ⊥
at-first bytes never = of-script (full_run bytes) refl (λ x. by (x.goes refl))
  where
    refused : (a : Opening Definition) → EndsRefused a (DeviceFull 1) → ⊥
    refused (Stands found) h = h
    refused (opening.NotSalt dev) h = cc
    refused (opening.OtherShape kept asked) h = cc
    refused (opening.NumbersSpent boot decisions) h = cc

    fills : (t : Trace) → phase t ≡ Fallen → IsFullBehind (full_run bytes).after.devices one_part t 1 → ⊥
    fills t e h = never (subst (λ p. NextFills (full_run bytes).after.devices one_part t p (next t) 1) e h)

    by : FindsNothing (full_run bytes) (Script one_part false false) ⊎ RunsOver (full_run bytes) (Script one_part false false) → ⊥
    by (inl f) = refused f.answer f.ends
    by (inr o) = fills o.trace (fallen-untold o.trace o.tells.told) (o.ends.full 1 refl refl)

abbrev stand : ℕ → List ℕ
stand = begun (header_at 7) []

abbrev stood : CoordinatorLog
stood = record { header = header_at 7; told = record { boot = 7; decisions = 0; definitions = []; decided = [] } }

stand-counts : coordinator_pair (logs_of stand) ≡ Counts LogA stood
unfolding entries_in entries_up_to split_payload framed
stand-counts = refl

stand-entries : entries_in (stand 0) ≡ Some (spell_header (header_at 7) ∷ [])
unfolding entries_in entries_up_to split_payload framed
stand-entries = refl

one-entry : (entries : List (List ℕ)) (entry : List ℕ) → Some entries ≡ Some (entry ∷ []) → 1024 < length entries → ⊥
one-entry entries entry same many = let one : entries ≡ entry ∷ [] = cc same in let h = ap length one in omega (arith, h, many)

full-of-standing : Runs (full_run stand) → ⊥
full-of-standing = at-first stand never
  where
    which-log : (w : WhichLog) (log told : CoordinatorLog) → Counts w log ≡ Counts LogA told → w ≡ LogA
    which-log w log told e = cc

    form-log : (w : WhichLog) (log told : CoordinatorLog) → Counts w log ≡ Counts LogA told → log.header.format ≡ told.header.format
    form-log w log told e = let same : log ≡ told = cc e in ap (λ (l : CoordinatorLog). l.header.format) same

    apart : ◌≡◌ {A = ℕ} 1 0 → ⊥
    apart e = omega arith

    never : NextFills (full_run stand).after.devices one_part from_nothing Fallen None 1 → ⊥
    never (inl f) = let both : BothBlank ≡ Counts LogA stood = sym f.blank ∙ stand-counts in cc
    never (inr (inr (inl pages))) = let e = pages.device in omega arith
    never (inr (inr (inr (inr older)))) = older.older (form-log older.which older.log stood (sym older.counts ∙ stand-counts))
    never (inr (inr (inr (inl room)))) = few room.entries (which-log room.which room.log stood (sym room.counts ∙ stand-counts)) room.reads room.many
      where
        few : (entries : List (List ℕ)) → room.which ≡ LogA → entries_in (stand (device_of 0 room.which)) ≡ Some entries → 1024 < length entries → ⊥
        few entries a reads many =
            let one = sym (subst (λ w. entries_in (stand (device_of 0 w)) ≡ Some entries) a reads) ∙ stand-entries in
            one-entry entries (spell_header (header_at 7)) one many
    never (inr (inl f)) =
        let a : f.which ≡ LogA = which-log f.which f.log stood (sym f.counts ∙ stand-counts) in
        apart (subst (λ w. 1 ≡ device_of 0 w) a f.device)

-- of blank ones whose log B has a closed gate: none is written
abbrev closed : ℕ → List ℕ
closed = on ([] ∷ (0 ∷ []) ∷ [])

closed-blank : coordinator_pair (logs_of closed) ≡ BothBlank
unfolding entries_in
closed-blank = refl

full-of-closed : Runs (full_run closed) → ⊥
full-of-closed = at-first closed never
  where
    part : (p : ℕ) (header : List ℕ) → NewPairFills (full_run closed).after.devices (part_device p) header 1 → ⊥
    part p header (inl h) = let e = h.0 in omega arith
    part p header (inr h) = let e = h.0 in omega arith

    coordinator : (header : List ℕ) → NewPairFills (full_run closed).after.devices 0 header 1 → ⊥
    coordinator header (inl h) = let e : 0 ≡ 1 = h.1 in omega arith
    coordinator header (inr h) = let e = h.0 in omega arith

    first : ((p : ℕ) × (p < 1) × NewPairFills (full_run closed).after.devices (part_device p) (spell_partition_header (first_part_header 2 p)) 1)
        ⊎ NewPairFills (full_run closed).after.devices 0 (spell_header (first_header one_part 3)) 1 → ⊥
    first (inl h) = part h.0 (spell_partition_header (first_part_header 2 h.0)) h.2
    first (inr h) = coordinator (spell_header (first_header one_part 3)) h

    never : NextFills (full_run closed).after.devices one_part from_nothing Fallen None 1 → ⊥
    never (inl f) = first f.fills
    never (inr (inr (inl pages))) = let e = pages.device in omega arith
    never (inr (inr (inr (inr older)))) = let both : Counts older.which older.log ≡ BothBlank = sym older.counts ∙ closed-blank in cc
    never (inr (inr (inr (inl room)))) = let both : Counts room.which room.log ≡ BothBlank = sym room.counts ∙ closed-blank in cc
    never (inr (inl f)) = let both : Counts f.which f.log ≡ BothBlank = sym f.counts ∙ closed-blank in cc

-- THE NUMBERS OF STATUS 10 are those of each image: here its boot is one more than the devices have

abbrev spent_bytes : ℕ → List ℕ
spent_bytes = begun (header_at half) []

abbrev spent_found : Found Definition
spent_found = record { shape = one_part; format = 3; kept = record { boot = half; decisions = 0; definitions = []; tables = no_rows; conts = [] } }

spent-stands : (read : List ℕ → Option Definition) → stands_on (definitions_reading read) spent_bytes one_part ≡ Ok spent_found
unfolding entries_in entries_up_to split_payload framed with_changes joined
spent-stands read = refl

ok-one : {x y : Found Definition} → ◌≡◌ {A = Result (Found Definition) ℕ} (Ok x) (Ok y) → x ≡ y
ok-one h = cc

-- what the bytes stand for, by any reader
stood-for : (bytes : ℕ → List ℕ) (found : Found Definition) → ((read : List ℕ → Option Definition) → stands_on (definitions_reading read) bytes one_part ≡ Ok found) → (k : Kept) → StandFor one_part bytes k → kept_in found ≡ k
stood-for bytes found is k s = ap kept_in (ok-one (sym (is s.read) ∙ s.is)) ∙ s.keeps

-- two stops fell as boot 2^63 was begun over boot 2^63 - 1
abbrev other_numbers : Run
other_numbers = run (holding ample (begun (header_at (half - 1)) []) ((1, 0) ∷ (1, 0) ∷ [])) (holding ample spent_bytes []) (NumbersSpent (half + 1) 0) None
    (Down why.Stopped ∷ Down why.Stopped ∷ []) (codes "down stopped" ++ 10 ∷ (codes "down stopped" ++ 10 ∷ []))

other-numbers : Runs other_numbers → ⊥
other-numbers = of-script other_numbers refl (λ x. by (x.goes refl))
  where
    apart : half ≡ half + 1 → ⊥
    apart e = omega arith

    behind : (t : Trace) → StandsBehind other_numbers one_part t spent_bytes → ⊥
    behind t b = apart (ap (λ k. k.boot) (stood-for spent_bytes spent_found spent-stands b.kept b.stands) ∙ b.numbers.0)

    by : FindsNothing other_numbers (Script one_part false false) ⊎ RunsOver other_numbers (Script one_part false false) → ⊥
    by (inl f) = let e = f.story in let both : Down why.Stopped ∷ Down why.Stopped ∷ [] ≡ [] = e in cc
    by (inr o) = behind o.trace (o.ends.images refl spent_bytes (λ dev low. refl))

-- WANT OF MEMORY with nothing told in flight: the devices may not have the unit that was

abbrev made_bytes : ℕ → List ℕ
made_bytes = begun (header_at 0) (spell_entry (Boots 1) ∷ spell_entry (Decides (record { number = 1; unit = record { boot = 1; seq = 1 }; mask = 0; move = 0 ∷ [] })) ∷ [])

abbrev made_found : Found Definition
made_found = record { shape = one_part; format = 3; kept = record { boot = 1; decisions = 1; definitions = []; tables = no_rows; conts = [] } }

made-stands : (read : List ℕ → Option Definition) → stands_on (definitions_reading read) made_bytes one_part ≡ Ok made_found
unfolding entries_in entries_up_to split_payload framed with_changes joined
made-stands read = refl

nothing-stands : (read : List ℕ → Option Definition) → opening_of (definitions_reading read) blank one_part ≡ Stands (nothing_found one_part)
unfolding entries_in
nothing-stands read = refl

-- `ensure 1 = 1` in a unit of its own
abbrev truth : Statement
truth = Ensure (operation op.Equal (number (pos 1)) (number (pos 1)))

abbrev unit : Id
unit = record { boot = 1; seq = 1 }

abbrev untold_story : List Event
untold_story = Opened 1 0 ∷ Ready ∷ Began unit (kind.Acid 1) ∷ Did unit truth answer.Held ∷ []

-- its commit was decided, and memory ran out as it was applied
abbrev untold_run : Run
untold_run = run (holding ample blank []) (holding ample made_bytes []) Memory None untold_story []

-- events without a decision leave the number of the last
keeps-number : (t : Trace) (e : Event) (s : Stage) → is_decision e ≡ false → (keep t e s).decisions ≡ s.kept.decisions
keeps-number t (Ended u (end.Committed n)) s h = absurd cc
keeps-number t (Ended u (end.Branched n c)) s h = absurd cc
keeps-number t (Defined n text) s h = absurd cc
keeps-number t (Opened boot n) s h = refl
keeps-number t e s h = refl

split-last : (xs : List Event) (e : Event) → Every (λ a. is_decision a ≡ false) (xs ++ e ∷ []) → Every (λ a. is_decision a ≡ false) xs × (is_decision e ≡ false)
split-last [] e h = (tt, h.0)
split-last (x ∷ xs) e h = let more = split-last xs e h.1 in ((h.0, more.0), more.1)

same-number : (t : Trace) → Every (λ a. is_decision a ≡ false) (story_of t) → (kept t).decisions ≡ (start_of t).kept.decisions
same-number (from k) h = refl
same-number (t asks a) h = same-number t h
same-number (t turns b) h = same-number t h
same-number (t says e) h = let both = split-last (story_of t) e h in keeps-number t e (stage t) both.1 ∙ same-number t both.0

in-flight-untold : Runs untold_run → ⊥
in-flight-untold = of-script untold_run refl (λ x. by (x.goes refl))
  where
    apart : ◌≡◌ {A = ℕ} 1 0 → ⊥
    apart e = omega arith

    ok : {x y : Found Definition} → ◌≡◌ {A = Opening Definition} (Stands x) (Stands y) → x ≡ y
    ok h = cc

    started : (k : Kept) → OpenAs one_part blank k → k.decisions ≡ 0
    started k o = sym (ap (λ f. (kept_in f).decisions) (ok (sym (nothing-stands o.answers.read) ∙ o.answers.is)) ∙ ap (λ x. x.decisions) o.keeps)

    left : (t : Trace) (k : Kept) → k.decisions ≡ 1 → (kept t).decisions ≡ 0 → IsLeftBehind ⊥ t k → ⊥
    left t k one none b = by b.is
      where
        by : (k ≡ raised b.boots (kept t)) ⊎ (⊥ × (k ≡ raised b.boots (kept_with t (flight t)))) → ⊥
        by (inl e) = apart (sym one ∙ ap (λ x. x.decisions) e ∙ none)
        by (inr e) = e.0

    behind : (t : Trace) → (kept t).decisions ≡ 0 → StandsBehind untold_run one_part t made_bytes → ⊥
    behind t none b = left t b.kept (sym (ap (λ k. k.decisions) (stood-for made_bytes made_found made-stands b.kept b.stands))) none b.is

    undecided : Every (λ a. is_decision a ≡ false) untold_story
    undecided = (refl, (refl, (refl, (refl, tt))))

    number-of : (o : RunsOver untold_run (Script one_part false false)) → (kept o.trace).decisions ≡ 0
    number-of o =
        same-number o.trace (subst (Every (λ a. is_decision a ≡ false)) (sym o.tells.told) undecided)
        ∙ ap (λ s. s.kept.decisions) o.tells.begins ∙ started o.start.kept (o.opens refl)

    by : FindsNothing untold_run (Script one_part false false) ⊎ RunsOver untold_run (Script one_part false false) → ⊥
    by (inl f) = let both : untold_story ≡ [] = f.story in cc
    by (inr o) = behind o.trace (number-of o) (o.ends.images refl made_bytes (λ dev low. refl))

-- A STOP that no line has armed yet, and that was not left at first

early_story : List Event
early_story = Opened 1 0 ∷ Ready ∷ Down why.Stopped ∷ Opened 2 0 ∷ Ready ∷ Armed ((1, 0) ∷ []) ∷ []

early-stop : (first : List (ℕ × ℕ)) → first ≡ [] → armed_behind early_story (Some first) ≡ None
unfolding early_story
early-stop first e = ap (λ stops. armed_behind early_story (Some stops)) e

stop-before-armed : (r : Run) → r.command ≡ Some (Script one_part false false) → IsTrue r.before.devices.told → r.before.devices.armed ≡ [] → r.story ≡ early_story → Runs r → ⊥
stop-before-armed r is tells none told = of-script r is no-stop
  where
    no-stop : RunsAs r (Script one_part false false) → ⊥
    no-stop x = let both : None ≡ Some (x.stops tells refl).stops = sym (ap (λ s. armed_behind s (Some r.before.devices.armed)) told ∙ early-stop r.before.devices.armed none) ∙ (x.stops tells refl).behind in cc

-- ANOTHER STOP is armed at last than the one that the story tells

armed_story : List Event
armed_story = Opened 1 0 ∷ Ready ∷ Armed ((7, 1) ∷ []) ∷ []

told-stops : (first : List (ℕ × ℕ)) → first ≡ [] → armed_behind armed_story (Some first) ≡ Some ((7, 1) ∷ [])
unfolding armed_story
told-stops first e = ap (λ stops. armed_behind armed_story (Some stops)) e

abbrev first-pick : List (ℕ × ℕ) → ℕ
first-pick [] = 0
first-pick (stop ∷ stops) = stop.1

another-stop : (r : Run) → r.command ≡ Some (Script one_part false false) → IsTrue r.before.devices.told → r.status ≡ Done → r.before.devices.armed ≡ [] → r.story ≡ armed_story → r.after.devices.armed ≡ (7, 0) ∷ [] → Runs r → ⊥
another-stop r is tells done none told left = of-script r is by
  where
    same : (a b : List (ℕ × ℕ)) → Some a ≡ Some b → a ≡ b
    same a b e = cc

    apart : ◌≡◌ {A = ℕ} 0 1 → ⊥
    apart e = omega arith

    by : RunsAs r (Script one_part false false) → ⊥
    by x =
        let stops = sym (ap (λ s. armed_behind s (Some r.before.devices.armed)) told ∙ told-stops r.before.devices.armed none) ∙ (x.stops tells refl).behind in
        let last : r.after.devices.armed ≡ (x.stops tells refl).stops = subst (λ s. AreArmed s (x.stops tells refl).stops r.after.devices.armed) done (x.stops tells refl).are in
        apart (ap first-pick (sym left ∙ last ∙ sym (same ((7, 1) ∷ []) (x.stops tells refl).stops stops)))

-- PAIRS OF MESSAGES are no stops, though the story alone does not tell them apart: here what `net` armed is taken for the stop that came.

abbrev stopped_by_net : Trace
stopped_by_net =
    from (record { kept = nothing_kept; can_stop = true; early = false; over_net = true })
    says Opened 1 0 says Ready asks Tree (Net ((1, 0) ∷ [])) says Armed ((1, 0) ∷ []) says Down why.Stopped

by-its-story : Stops Done (armed_behind (story_of stopped_by_net) (Some [])) []
by-its-story = record { stops = []; behind = refl; are = refl }

twists-are-no-stops : (status : Status) (last : List (ℕ × ℕ)) → Stops status (armed_by_lines [] stopped_by_net) last → ⊥
twists-are-no-stops status last h = let none : None ≡ Some h.stops = h.behind in cc

-- MORE STATEMENTS in an opening than its programs had left: here over blank devices, where no program goes on

abbrev undrained_story : List Event
undrained_story = Opened 1 0 ∷ Did unit truth answer.Held ∷ []

abbrev undrained_run : Run
undrained_run = run (holding ample blank []) (holding ample opened []) Memory None undrained_story []

kept-unsaid : (t : Trace) → story_of t ≡ [] → kept t ≡ (start_of t).kept
kept-unsaid (from k) e = refl
kept-unsaid (t asks a) e = kept-unsaid t e
kept-unsaid (t turns b) e = kept-unsaid t e
kept-unsaid (t says a) e = absurd (not-last (story_of t) a e)

-- an opening that found no program
record FindsNone (t : Trace) : Type 0 where
  opening : phase t ≡ phases.Opening
  rests : rests_found t ≡ 0

finds-none : (t : Trace) → (start_of t).kept.conts ≡ [] → story_of t ≡ Opened 1 0 ∷ [] → FindsNone t
finds-none (from k) none e = cc
finds-none (t asks a) none e = let h = finds-none t none e in record { opening = h.opening; rests = h.rests }
finds-none (t turns b) none e = let h = finds-none t none e in record { opening = h.opening; rests = h.rests }
finds-none (t says a) none e =
    let both = same_from_push (story_of t) [] a (Opened 1 0) e in
    subst (λ b. FindsNone (t says b)) (sym both.1) (record {
      opening = refl;
      rests = ap (rests_of (programs_of (kept (t says Opened 1 0)))) (ap (λ k. k.conts) (kept-unsaid t both.0) ∙ none);
    })

does-more : (t : Trace) → FindsNone t → DoesItsRests (t says Did unit truth answer.Held) → ⊥
does-more t h d = by (is_just_opened t) (d h.opening)
  where
    by : (just : Bool) → done_since_opened t + 1 ≤ (if just && false then rests_at (t says Did unit truth answer.Held) else rests_found t) → ⊥
    by true more = omega (arith, more, h.rests)
    by false more = omega (arith, more, h.rests)

undrained : (t : Trace) → (start_of t).kept.conts ≡ [] → story_of t ≡ undrained_story → Always DoesItsRests t → ⊥
undrained (from k) none e h = cc
undrained (t asks a) none e h = undrained t none e h.0
undrained (t turns b) none e h = undrained t none e h.0
undrained (t says a) none e h =
    let both = same_from_push (story_of t) (Opened 1 0 ∷ []) a (Did unit truth answer.Held) e in
    does-more t (finds-none t none both.0) (subst (λ b. DoesItsRests (t says b)) both.1 h.1)

statements-in-opening : Runs undrained_run → ⊥
statements-in-opening = of-script undrained_run refl (λ x. by (x.goes refl))
  where
    ok : {x y : Found Definition} → ◌≡◌ {A = Opening Definition} (Stands x) (Stands y) → x ≡ y
    ok h = cc

    started : (k : Kept) → OpenAs one_part blank k → k.conts ≡ []
    started k o = sym (ap (λ f. (kept_in f).conts) (ok (sym (nothing-stands o.answers.read) ∙ o.answers.is)) ∙ ap (λ x. x.conts) o.keeps)

    by : FindsNothing undrained_run (Script one_part false false) ⊎ RunsOver undrained_run (Script one_part false false) → ⊥
    by (inl f) = let both : undrained_story ≡ [] = f.story in cc
    by (inr o) = undrained o.trace (ap (λ s. s.kept.conts) o.tells.begins ∙ started o.start.kept (o.opens refl)) o.tells.told o.drains

-- WRONG WORDS with something in flight

usage-in-flight : (r : Run) (f : Flight) → r.command ≡ None → r.flight ≡ Some f → Runs r → ⊥
usage-in-flight r f is flies (says_nothing e u) = let both : Some f ≡ None = sym flies ∙ u.flight in cc
usage-in-flight r f is flies (runs_as {command} e x) = let both : Some command ≡ None = sym e ∙ is in cc

-- A LOAD is complete also where no source tells
load-needs-no-source : (calls : ℕ) (source : Option (List ℕ)) → IsWithin (Load calls) source
load-needs-no-source calls source = tt
