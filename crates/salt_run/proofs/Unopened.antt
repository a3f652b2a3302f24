-- A run that ends in its first opening, over devices that open or do not tell: it is as promised.
use Rattle.salt_storage.specs.Answers.{halted_by}
use Rattle.law_definitions.specs.Texts.{definition_in}
use Rattle.salt_devices.specs.Leaving.{StandsFor}
use Rattle.salt_disk.specs.Disks.{IsImage}
use Rattle.salt_model.specs.After.{kept}
use Rattle.salt_model.specs.Arming.{armed_behind, armed_by_lines}
use Rattle.salt_model.specs.Everywhere.{Always}
use Rattle.salt_model.specs.Kept.{Kept, WellKept}
use Rattle.salt_model.specs.Next.{next}
use Rattle.salt_model.specs.Phases.{Fallen, Opening, Phase, Serving, phase}
use Rattle.salt_model.specs.Played.{IsPlayed}
use Rattle.salt_model.specs.Rests.{DoesItsRests}
use Rattle.salt_model.specs.Trace.{Start, Trace, from, lines_asked, start_of, story_of, ◌asks◌, ◌says◌, ◌turns◌}
use Rattle.salt_model.specs.declared.events.Event.TheVariants.{Down}
use Rattle.salt_model.specs.declared.events.Event.{Event}
use Rattle.salt_model.specs.declared.events.Why.TheVariants as why
use Rattle.salt_net.specs.Agreed.{IsAgreed}
use Rattle.salt_net.specs.Nets.{state_of}
use Rattle.salt_net.specs.declared.kinds.NetEvent.{NetEvent}
use Rattle.salt_promise.specs.Doing as promise
use Rattle.salt_model.specs.Ends.{raised}
use Rattle.salt_promise.specs.Ending.{AreSpentBehind, HasNumbers, IsInDoubt, IsLeftBehind}
use Rattle.salt_promise.specs.Filling.{IsFullBehind, NextFills}
use Rattle.salt_promise.specs.Given.{Run, early_of, over_net_of, shape_of}
use Rattle.salt_promise.specs.Runs as promised
use Rattle.salt_promise.specs.Runs.{IsNoRefusal, net_left}
use Rattle.salt_promise.specs.Standing.{IsReader, OpenAs}
use Rattle.salt_promise.specs.Status.{ends_between}
use Rattle.salt_promise.specs.declared.status.Status.TheVariants.{DeviceFull, DiskFault, Memory, NumbersSpent, WriteFault}
use Rattle.salt_promise.specs.declared.status.Status.{Status}
use Rattle.salt_run.proofs.Full.{opening-fills}
use Rattle.salt_run.proofs.Promised.{streams_of}
use Rattle.salt_run.proofs.Standing.{stand-for}
use Rattle.salt_run.proofs.Unwritten.{not-nil}
use Rattle.salt_run.specs.Doing.{Does}
use Rattle.salt_run.specs.Running.{FindsNothing, Replays}
use Rattle.salt_promise.specs.Counting.{Stops}
use Rattle.salt_run.proofs.Tallied.{unasked-armed}
use Rattle.salt_loop.specs.Ending.{IsStatusOf}
use Rattle.salt_loop.specs.Stopping.{status_opening}
use Rattle.salt_stands.specs.Stands.{are_spent}
use Rattle.salt_stands.specs.Turning.{turning}
use Rattle.salt_driver.specs.Opening.{fallen_often, start_over}
use Rattle.salt_storage.specs.declared.halt.Halt.TheVariants as halt
use Rattle.salt_storage.specs.declared.halt.Halt.{Halt}
use Rattle.salt_storage.specs.OpenErr.TheVariants as open_err
use Rattle.salt_storage.specs.OpenErr.{OpenErr}
use Rattle.salt_promise.specs.declared.command.Command.{Command}
use Rattle.std.proofs.Common.{ap, arith, inl, inr, subst, sym, ◌∙◌}
use Rattle.std.specs.Prelude.{Bool, IfSome, IsTrue, List, None, Option, Some, [], false, if◌then◌else◌, refl, suc, true, zero, ℕ, ◌&&◌, ◌+◌, ◌++◌, ◌∷◌, ◌≡◌}

-- A TRACE of nothing but stops

last-same : {A : Type 0} (xs ys : List A) (x y : A) → xs ++ x ∷ [] ≡ ys ++ y ∷ [] → (xs ≡ ys) × (x ≡ y)
last-same [] [] x y e = (refl, cc e)
last-same [] (b ∷ ys) x y e = let none : [] ≡ ys ++ y ∷ [] = cc e in absurd (not-nil ys y (sym none))
last-same (a ∷ xs) [] x y e = let none : xs ++ x ∷ [] ≡ [] = cc e in absurd (not-nil xs x none)
last-same {A} (a ∷ xs) (b ∷ ys) x y e =
    let first : a ≡ b = cc e in
    let rest : xs ++ x ∷ [] ≡ ys ++ y ∷ [] = cc e in
    let h = last-same xs ys x y rest in
    (ap (λ (z : A). z ∷ xs) first ∙ ap (λ (zs : List A). b ∷ zs) h.0, h.1)

pub record IsStill (trace : Trace) : Type 0 where
  pub unasked : lines_asked trace ≡ []
  pub kept : kept trace ≡ (start_of trace).kept
  pub down : phase trace ≡ Fallen

not-both : (trace : Trace) → phase trace ≡ Fallen → phase trace ≡ Serving → ⊥
not-both trace f s = let both : Fallen ≡ Serving = sym f ∙ s in absurd (cc both)

pub still : (trace : Trace) (times : ℕ) (start : Start) → IsPlayed trace → story_of trace ≡ story_of (fallen_often start times) → IsStill trace
still (from k) times start played told = record { unasked = refl; kept = refl; down = refl }
still (trace asks asked) times start played told = absurd (not-both trace (still trace times start played.0 told).down played.1.0)
still (trace turns b) times start played told = absurd (not-both trace (still trace times start played.0 told).down played.1)
still (trace says e) zero start played told = absurd (not-nil (story_of trace) e told)
still (trace says e) (suc times) start played told =
    let last = last-same (story_of trace) (story_of (fallen_often start times)) e (Down why.Stopped) told in
    let before = still trace times start played.0 last.0 in
    subst (λ (f : Event). IsStill (trace says f)) (sym last.1) (record { unasked = before.unasked; kept = before.kept; down = refl })

-- and so it opens nowhere
not-opening : (trace : Trace) → phase trace ≡ Fallen → DoesItsRests trace
not-opening trace down = λ opening. let both : Fallen ≡ Opening = sym down ∙ opening in absurd (cc both)

still-rests : (trace : Trace) (times : ℕ) (start : Start) → IsPlayed trace → story_of trace ≡ story_of (fallen_often start times) → Always DoesItsRests trace
still-rests (from k) times start played told = not-opening (from k) refl
still-rests (trace asks asked) times start played told = absurd (not-both trace (still trace times start played.0 told).down played.1.0)
still-rests (trace turns b) times start played told = absurd (not-both trace (still trace times start played.0 told).down played.1)
still-rests (trace says e) zero start played told = absurd (not-nil (story_of trace) e told)
still-rests (trace says e) (suc times) start played told =
    let last = last-same (story_of trace) (story_of (fallen_often start times)) e (Down why.Stopped) told in
    (still-rests trace times start played.0 last.0, not-opening (trace says e) (still (trace says e) (suc times) start played told).down)

-- ITS STATUS

-- no refusal but by spent numbers, which this has
pub record IsEndOver (k : Kept) (status : Status) : Type 0 where
  pub may : IsNoRefusal status
  pub numbers : HasNumbers status k
  pub spent : (boot decisions : ℕ) → status ≡ NumbersSpent boot decisions → are_spent boot decisions ≡ true

halted-as : (k : Kept) (status same : Status) → status ≡ same → IsEndOver k same → IsEndOver k status
halted-as k status same is h = subst (IsEndOver k) (sym is) h

pub halted : (k : Kept) (e : Halt) (status : Status) → IsStatusOf (halted_by e) status → IsEndOver k status
halted k e status (inr w) = halted-as k status WriteFault w.0 (record { may = tt; numbers = tt; spent = λ boot decisions is. absurd (cc is) })
halted k halt.Stopped status (inl is) = halted-as k status DiskFault is (record { may = tt; numbers = tt; spent = λ boot decisions is. absurd (cc is) })
halted k halt.DiskFault status (inl is) = halted-as k status DiskFault is (record { may = tt; numbers = tt; spent = λ boot decisions is. absurd (cc is) })
halted k (halt.DeviceFull dev) status (inl is) = halted-as k status (DeviceFull dev) is (record { may = tt; numbers = tt; spent = λ boot decisions is. absurd (cc is) })
halted k halt.Memory status (inl is) = halted-as k status Memory is (record { may = tt; numbers = tt; spent = λ boot decisions is. absurd (cc is) })

pub ended-spent : (k : Kept) (status : Status) → are_spent k.boot k.decisions ≡ true → IsStatusOf (open_err.NumbersSpent k.boot k.decisions) status → IsEndOver k status
ended-spent k status spent (inr w) = halted-as k status WriteFault w.0 (record { may = tt; numbers = tt; spent = λ boot decisions is. absurd (cc is) })
ended-spent k status spent (inl is) = halted-as k status (NumbersSpent k.boot k.decisions) is (record {
  may = tt;
  numbers = (refl, refl);
  spent = λ boot decisions same.
      let boots : k.boot ≡ boot = cc same in
      let numbers : k.decisions ≡ decisions = cc same in
      ap (λ n. are_spent n decisions) (sym boots) ∙ ap (are_spent k.boot) (sym numbers) ∙ spent;
})

-- what is not opened gives no net
pub unfound-between : (reason : OpenErr) (status : Status) → IsStatusOf reason status → ends_between status ≡ false
unfound-between reason status (inr w) = ap ends_between w.0
unfound-between reason status (inl is) = ap ends_between is ∙ by reason
  where
    by : (e : OpenErr) → ends_between (status_opening e) ≡ false
    by (open_err.NotSalt dev) = refl
    by (open_err.OtherShape kept asked) = refl
    by (open_err.NumbersSpent boot decisions) = refl
    by open_err.Failed = refl
    by open_err.Stopped = refl
    by (open_err.Full dev) = refl
    by open_err.Memory = refl

none-left : (command : Command) (status : Status) (trace : Trace) → ends_between status ≡ false → net_left command status trace ≡ None
none-left command status trace is = by (over_net_of command) (ends_between status) is
  where
    by : (over between : Bool) → between ≡ false → (if over && between then Some (turning (shape_of command) trace).events else None) ≡ None
    by true true e = absurd (cc e)
    by true false e = refl
    by false between e = refl

unraised : (k : Kept) → k ≡ raised 0 k
unraised k = let same : k.boot ≡ k.boot + 0 = omega arith in ap (λ (n : ℕ). record k { boot = n }) same

module _ (reads : IsReader definition_in) (r : Run) (command : Command)
    (does : (trace : Trace) → Does command r.status (streams_of r) trace → promise.Does command r trace)
    (x : FindsNothing command r.before.devices r.after.devices r.status r.flight r.net (streams_of r) r.story)
    (k : Kept) (well : WellKept k) (ends : IsEndOver k r.status) (opens : IsTrue r.before.devices.told → OpenAs (shape_of command) r.before.devices.bytes k)
    (rests : IsTrue r.after.devices.told → (image : ℕ → List ℕ) → IsImage r.after.devices image → StandsFor (shape_of command) image k) where
  abbrev start : Start
  start = start_over k r.before.devices.can_stop (early_of command) (over_net_of command)

  replays : Replays command r.status r.flight (streams_of r) r.story start
  replays = x.replays start well

  is-still : IsStill replays.trace
  is-still = still replays.trace x.unfound.0 start replays.played.played (replays.played.told ∙ sym (x.unfound.1 start))

  keeps : kept replays.trace ≡ k
  keeps = is-still.kept ∙ ap (λ (s : Start). s.kept) replays.played.begins

  left : IsLeftBehind (IsInDoubt r.status r.flight) replays.trace k
  left = record { boots = 0; most = omega arith; is = inl (unraised k ∙ ap (raised 0) (sym keeps)) }

  armed : Stops r.status (armed_by_lines r.before.devices.armed replays.trace) r.after.devices.armed
  armed =
      subst (λ (left : Option (List (ℕ × ℕ))). Stops r.status left r.after.devices.armed)
      (sym (unasked-armed replays.trace is-still.unasked r.before.devices.armed ∙ ap (λ (es : List Event). armed_behind es (Some r.before.devices.armed)) replays.played.told)) x.armed

  full : (dev : ℕ) → r.status ≡ DeviceFull dev → IsTrue r.after.devices.told → IsFullBehind r.after.devices (shape_of command) replays.trace dev
  full dev so told =
      subst (λ (ph : Phase). NextFills r.after.devices (shape_of command) replays.trace ph (next replays.trace) dev) (sym is-still.down)
      (opening-fills r.after.devices (shape_of command) dev replays.trace (next replays.trace) (x.full dev so told))

  spent-behind : (boot decisions : ℕ) → r.status ≡ NumbersSpent boot decisions → AreSpentBehind replays.trace boot decisions
  spent-behind boot decisions is =
      let numbers : HasNumbers (NumbersSpent boot decisions) k = subst (λ (t : Status). HasNumbers t k) is ends.numbers in
      record {
        down = is-still.down;
        spent = ends.spent boot decisions is;
        kept = k;
        is = record { boots = 0; most = omega arith; is = inl (unraised k ∙ ap (raised 0) (sym keeps)) };
        boot_is = numbers.0;
        decisions_are = numbers.1;
      }

  pub unopened : promised.RunsOver r command
  unopened = record {
    start = start;
    trace = replays.trace;
    opens = opens;
    well = well;
    can_stop = refl;
    early = refl;
    over_net = refl;
    tells = replays.played;
    promises = replays.promises;
    unspent = replays.unspent;
    drains = still-rests replays.trace x.unfound.0 start replays.played.played (replays.played.told ∙ sym (x.unfound.1 start));
    stops = armed;
    does = does replays.trace replays.does;
    may = ends.may;
    leaves = replays.leaves;
    flies = replays.flies;
    net = x.none ∙ sym (none-left command r.status replays.trace (unfound-between x.reason r.status x.is));
    agreed = subst (λ (net : Option (List NetEvent)). IfSome net (λ events. IsAgreed (state_of events))) (sym x.none) tt;
    ends = record {
      images = λ told image is. record {
        kept = k;
        stands = stand-for reads (shape_of command) image k (rests told image is);
        is = left;
        numbers = ends.numbers;
      };
      spent = spent-behind;
      full = full;
    };
  }
