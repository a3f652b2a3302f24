-- A run that is down is opened over what was found.
use Rattle.salt_books.specs.declared.books.Books.{Books}
use Rattle.salt_database.proofs.Falling.{IsCounted, counts, downs-more, fallen_more, falls-more}
use Rattle.salt_database.specs.Finding.{IsOpenedBy}
use Rattle.salt_engine.specs.Flights.{IsInFlight}
use Rattle.salt_engine.specs.Standing.{KnowUnits}
use Rattle.salt_model.specs.Ends.{raised}
use Rattle.salt_engine.specs.Stored.{IsLeft, IsNumbered, MayBeOther, kept_behind}
use Rattle.salt_engine.specs.declared.flights.InFlight.{InFlight}
use Rattle.law_states.proofs.StatesGoOn.{states-say}
use Rattle.law_states.specs.Follows.{opened_in}
use Rattle.law_states.specs.Laws.{IsSound}
use Rattle.law_states.specs.Points.{KeepsPoint, Point}
use Rattle.law_states.specs.Readings.{WatchReading}
use Rattle.law_states.specs.States.{Keeps, State, named_by, net_by}
use Rattle.law_states.specs.Steps.{units_after}
use Rattle.salt_model.specs.After.{kept}
use Rattle.salt_model.specs.Kept.{Kept}
use Rattle.salt_model.specs.Next.{decision_in, flight}
use Rattle.salt_model.specs.Phases.{Fallen, Phase, downs, has_opened, phase}
use Rattle.salt_model.specs.Stops.{MayOpen}
use Rattle.salt_model.specs.Trace.{Trace, ◌says◌}
use Rattle.salt_model.specs.Turns.{is_statement_line}
use Rattle.salt_model.specs.declared.events.Event.{Event}
use Rattle.salt_model.specs.declared.events.Event.TheVariants.{Opened}
use Rattle.law_openings.proofs.Leaving.{leaves}
use Rattle.law_openings.proofs.Opening.{none-to-go}
use Rattle.law_openings.specs.Openings.{Leaves}
use Rattle.salt_stands.specs.Stands.{are_spent}
use Rattle.salt_driver.specs.Opening.{HasOpened}
use Rattle.salt_driver.specs.Standing.{IsSoundPoint}
use Rattle.salt_storage.specs.Storing.{IsSoundKept}
use Rattle.salt_storage.specs.declared.found.Numbers.{Numbers}
use Rattle.salt_conflicts.proofs.Readable.{readable}
use Rattle.std.proofs.Common.{ap, arith, inl, inr, subst, sym, ◌∙◌}
use Rattle.std.specs.Prelude.{Bool, IsSome, None, Option, Some, false, if◌then◌else◌, refl, true, ℕ, ◌+◌, ◌-◌, ◌<◌, ◌≡◌, ◌⊎◌, ◌≤◌}

-- WHAT WAS FOUND, by its decision number: what is kept at the point, or that with the decision in flight

abbrev pub IsWithout : ℕ → Point → Kept → ℕ → Type 0
IsWithout boots p k number = (number ≡ p.state.units.kept.decisions) × (k ≡ raised boots p.state.units.kept)

pub record IsWith (boots : ℕ) (p : Point) (k : Kept) (number : ℕ) : Type 0 where
  pub event : Event
  pub flies : p.flight ≡ Some event
  pub counted : IsCounted p.state.units event
  pub numbered : number ≡ p.state.units.kept.decisions + 1
  pub is : k ≡ raised boots (units_after event p.state.units).kept

pub record FoundAt (room : ℕ) (p : Point) (k : Kept) (number : ℕ) : Type 0 where
  pub boots : ℕ
  pub most : boots ≤ room
  pub unspent : are_spent k.boot number ≡ false
  pub how : IsWithout boots p k number ⊎ IsWith boots p k number

pub found-at : (doubt : Type 0) (i : Option InFlight) (room : ℕ) (p : Point) (n : Numbers) (k : Kept) → IsInFlight i p.flight p.state.units → IsLeft doubt room p k → IsNumbered n k →
    FoundAt room p k n.decisions
found-at doubt i room p n k flies left numbers = record {
  boots = left.boots;
  most = left.most;
  unspent = ap (λ b. are_spent b n.decisions) (sym numbers.boot) ∙ numbers.unspent;
  how = by left.is (counts i p.flight p.state.units flies);
}
  where
    number : (m : Kept) → k ≡ raised left.boots m → n.decisions ≡ m.decisions
    number m e = numbers.decisions ∙ ap (λ (x : Kept). x.decisions) e

    by : MayBeOther doubt (raised left.boots p.state.units.kept) (raised left.boots (kept_behind p.flight p.state.units)) k →
        (p.flight ≡ None) ⊎ ((e : Event) × (p.flight ≡ Some e) × IsCounted p.state.units e) → IsWithout left.boots p k n.decisions ⊎ IsWith left.boots p k n.decisions
    by (inl e) c = inl (number p.state.units.kept e, e)
    by (inr e) (inl none) =
        let same : k ≡ raised left.boots p.state.units.kept = e.1 ∙ ap (λ (f : Option Event). raised left.boots (kept_behind f p.state.units)) none in
        inl (number p.state.units.kept same, same)
    by (inr e) (inr c) =
        let same : k ≡ raised left.boots (units_after c.0 p.state.units).kept = e.1 ∙ ap (λ (f : Option Event). raised left.boots (kept_behind f p.state.units)) c.1 in
        inr (record { event = c.0; flies = c.1; counted = c.2; numbered = number (units_after c.0 p.state.units).kept same ∙ c.2.decisions; is = same })

pub found-boot : (room : ℕ) (p : Point) (k : Kept) (number : ℕ) → (f : FoundAt room p k number) → k.boot ≡ p.state.units.kept.boot + f.boots
found-boot room p k number f = by f.how
  where
    by : IsWithout f.boots p k number ⊎ IsWith f.boots p k number → k.boot ≡ p.state.units.kept.boot + f.boots
    by (inl w) = ap (λ (x : Kept). x.boot) w.1
    by (inr w) = ap (λ (x : Kept). x.boot) w.is ∙ ap (λ n. n + f.boots) w.counted.boot

some-is : (o : Option Event) (e : Event) → o ≡ Some e → IsSome o
some-is o e h = subst (λ (q : Option Event). IsSome q) (sym h) refl

module _ (p : Point) (sound : IsSoundPoint p) (fallen : p.state.units.phase ≡ Fallen) (room : ℕ) (k : Kept) (number boot : ℕ) (f : FoundAt room p k number)
    (next_boot : boot ≡ k.boot + 1) where
  pub boot-is : boot ≡ p.state.units.kept.boot + f.boots + 1
  boot-is = next_boot ∙ ap (λ n. n + 1) (found-boot room p k number f)

  pub above : p.state.units.kept.boot < boot
  above = let e = boot-is in omega arith

  pub most : boot ≤ p.state.units.kept.boot + (room + 1)
  most = let e = boot-is in let m = f.most in omega arith

  pub before-it : boot - 1 ≡ k.boot
  before-it = let e = next_boot in omega arith

  pub stands-for : (number ≡ p.state.units.kept.decisions) ⊎ (IsSome p.flight × (number ≡ p.state.units.kept.decisions + 1))
  stands-for = by f.how
    where
      by : IsWithout f.boots p k number ⊎ IsWith f.boots p k number → (number ≡ p.state.units.kept.decisions) ⊎ (IsSome p.flight × (number ≡ p.state.units.kept.decisions + 1))
      by (inl w) = inl w.0
      by (inr w) = inr (some-is p.flight w.event w.flies, w.numbered)

  -- a trace that has fallen often enough
  abbrev pub before : Trace
  before = fallen_more sound.trace (room + 1)

  pub kept-there : KeepsPoint p before × IsSound before
  kept-there = falls-more p sound.trace (room + 1) sound.keeps sound.sound fallen

  same-kept : kept before ≡ p.state.units.kept
  same-kept = kept-there.0.state.units.kept

  may : MayOpen (phase before) before boot number
  may = subst (λ (q : Phase). MayOpen q before boot number) (sym (kept-there.0.state.units.phase ∙ fallen)) (low, high, by stands-for)
    where
      low : (kept before).boot < boot
      low = subst (λ (x : Kept). x.boot < boot) (sym same-kept) above

      enough : (b : Bool) → boot ≤ p.state.units.kept.boot + (downs before + (if b then 0 else 1))
      enough true = let m = most in let d = downs-more sound.trace (room + 1) in omega arith
      enough false = let m = most in let d = downs-more sound.trace (room + 1) in omega arith

      high : boot ≤ (kept before).boot + (downs before + (if has_opened before then 0 else 1))
      high = subst (λ (x : Kept). boot ≤ x.boot + (downs before + (if has_opened before then 0 else 1))) (sym same-kept) (enough (has_opened before))

      by : (number ≡ p.state.units.kept.decisions) ⊎ (IsSome p.flight × (number ≡ p.state.units.kept.decisions + 1)) →
          (number ≡ (kept before).decisions) ⊎ (IsSome (flight before) × (number ≡ (kept before).decisions + 1))
      by (inl e) = inl (e ∙ ap (λ (x : Kept). x.decisions) (sym same-kept))
      by (inr e) = inr (subst (λ (o : Option Event). IsSome o) (sym kept-there.0.flight) e.0, e.1 ∙ ap (λ (x : Kept). x.decisions + 1) (sym same-kept))

  abbrev there : Leaves (Opened boot number) p.state
  there = leaves p.state before (Opened boot number) kept-there.0.state kept-there.1

  abbrev pub state : State
  state = record {
    units = units_after (Opened boot number) p.state.units;
    watch = there.watch;
    names = named_by (Opened boot number) p.state.names;
    can_stop = p.state.can_stop;
    over_net = p.state.over_net;
    net = net_by (Opened boot number) p.state.units p.state.net;
  }

  opened-sound : IsSound (before says Opened boot number)
  opened-sound = record { played = (kept-there.1.played, may); well = kept-there.1.well }

  opened-keeps : Keeps state (before says Opened boot number)
  opened-keeps = states-say p.state state before (Opened boot number) kept-there.0.state opened-sound.played kept-there.1.well there.after

  pub opened-by : (x : Books) (single : Bool) (i : Option InFlight) → KnowUnits x p.state.units → single ≡ is_statement_line p.state.units.line →
      IsInFlight i p.flight p.state.units → IsSoundKept p.state.units.kept → IsOpenedBy x single i p.flight boot number p.state state
  opened-by x single i knows line flies may_be = record {
    knows = knows;
    going = none-to-go p.state.units sound.trace sound.keeps.state.units sound.sound (inl fallen);
    line = line;
    flies = flies;
    stands_for = stands-for;
    after = there.after;
    trace = before;
    keeps = opened-keeps;
    sound = opened-sound;
    may_be_kept = may_be;
    above = above;
  }

  pub read : WatchReading state.watch
  read = readable state.watch (before says Opened boot number) opened-keeps.watch opened-sound

  -- where it is opened
  abbrev pub point : Point
  point = record { state = state; next = opened_in state.units number p.flight; flight = decision_in (opened_in state.units number p.flight) }

  unfoldable pub has-opened : HasOpened room p
  has-opened = record {
    boot = boot;
    number = number;
    point = point;
    opens = record { fallen = fallen; after = there.after; read = read; next = refl; flight = refl };
    above = above;
    most = most;
    stands_for = stands-for;
    unspent = ap (λ b. are_spent b number) before-it ∙ f.unspent;
  }
