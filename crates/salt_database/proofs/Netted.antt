-- What the commits of an opening have sent over messages: nothing before its first event, and behind each what those of the run have.
use Rattle.law_decisions.proofs.Ending.{found}
use Rattle.law_decisions.proofs.Naming.{open-boots}
use Rattle.law_states.specs.Follows.{opened_in}
use Rattle.law_states.specs.OpenUnits.{OpenUnit, UnitState, unit_named}
use Rattle.law_states.specs.Points.{Moves, Point, Say}
use Rattle.law_states.specs.States.{After, State}
use Rattle.law_states.specs.Told.{commits_in, next_decision_number}
use Rattle.law_states.specs.UnitFacts.{facts_in}
use Rattle.salt_ast.specs.declared.lines.Line.{Line}
use Rattle.salt_database.proofs.Booting.{no-number}
use Rattle.salt_database.proofs.Resting.{is_resting, rests-only}
use Rattle.salt_database.specs.Standing.{IsFoundStage}
use Rattle.salt_drain.specs.Follows.{rest_in}
use Rattle.salt_drain.specs.declared.recovery.Recovery.{Recovery}
use Rattle.salt_driver.specs.Opening.{HasOpened}
use Rattle.salt_driver.specs.Standing.{IsSoundPoint}
use Rattle.salt_engine.proofs.Decided.{named-unit}
use Rattle.salt_engine.proofs.Netted.{next-sent, told-sent}
use Rattle.salt_engine.specs.Deciding.{branches_in}
use Rattle.salt_engine.specs.Flights.{IsInFlight}
use Rattle.salt_engine.specs.Netted.{CanReopenNet, AgreesWithNet, net_after}
use Rattle.salt_engine.specs.declared.flights.InFlight.TheVariants as asked
use Rattle.salt_engine.specs.declared.flights.InFlight.{InFlight}
use Rattle.salt_engine.specs.declared.stage.Stage.{Stage}
use Rattle.salt_model.specs.Words.{Every}
use Rattle.salt_model.specs.declared.events.End.TheVariants.{Cut}
use Rattle.salt_model.specs.declared.events.Event.TheVariants.{Began, Defined, Early, Ended, Ready}
use Rattle.salt_model.specs.declared.events.Event.{Event}
use Rattle.salt_net.specs.Turns.{Turning, commits}
use Rattle.salt_place.specs.declared.placement.Shape.{Shape}
use Rattle.salt_stands.specs.Placed.{nodes_in}
use Rattle.salt_stands.specs.Turning.{change_at, no_turns, turned}
use Rattle.salt_storage.specs.Netted.{net_begun}
use Rattle.salt_storage.specs.Staying.{Setup}
use Rattle.salt_storage.specs.declared.found.Numbers.{Numbers}
use Rattle.salt_values.specs.declared.change.Change.{Change}
use Rattle.salt_values.specs.declared.id.Id.{Id}
use Rattle.std.proofs.Common.{ap, arith, inl, inr, subst, sym, ◌∙◌}
use Rattle.std.specs.Bool.{then_some}
use Rattle.std.specs.Option.{option_or}
use Rattle.std.specs.Prelude.{Bool, Err, IfSome, List, None, Ok, OnErr, OnOk, Option, Result, Some, [], false, if◌then◌else◌, map, refl, true, ℕ, ◌<◌, ◌==◌, ◌≡◌, ◌≤◌, ◌⊎◌}

-- WHAT COMES FIRST sends nothing: it rests, or is the decision that was in flight, of a unit of an earlier boot.

resting-turned : (shape : Shape) (line : Line) (boot : ℕ) (cs : List Change) (e : Event) (t : Turning) → is_resting e ≡ true → turned shape line boot cs e t ≡ t
resting-turned shape line boot cs (Ended u Cut) t h = refl
resting-turned shape line boot cs (Began u kind) t h = refl
resting-turned shape line boot cs Ready t h = refl
resting-turned shape line boot cs (Early bs) t h = refl
resting-turned shape line boot cs e t h = cc

earlier-unit : (u : Id) (boot : ℕ) (nodes : List ℕ) (t : Turning) → u.boot < boot → (if u.boot == boot then commits u nodes t else t) ≡ t
earlier-unit u boot nodes t less = ap (λ (b : Bool). if b then commits u nodes t else t) (no-number u.boot boot less)

below-both : (a b c : ℕ) → a ≤ b → b < c → a < c
below-both a b c h g = omega (arith, h, g)

earlier : (u : Id) (s : UnitState) (o : OpenUnit) (boot : ℕ) → Every (λ (o : OpenUnit). o.unit.boot ≤ s.kept.boot) s.units → s.kept.boot < boot → unit_named u s.units ≡ Some o → o.unit.boot < boot
earlier u s o boot boots above named = below-both o.unit.boot s.kept.boot boot (found (λ (o : OpenUnit). o.unit.boot ≤ s.kept.boot) u s.units o boots named) above

same-some : (e f : Event) → Some e ≡ Some f → e ≡ f
same-some e f h = cc

flown-turned : (shape : Shape) (line : Line) (boot : ℕ) (cs : List Change) (t : Turning) (i : Option InFlight) (f : Option Event) (s : UnitState) (e : Event) →
    Every (λ (o : OpenUnit). o.unit.boot ≤ s.kept.boot) s.units → s.kept.boot < boot → IsInFlight i f s → f ≡ Some e → turned shape line boot cs e t ≡ t
flown-turned shape line boot cs t None f s e boots above flies is = let no : None ≡ Some e = sym flies ∙ is in cc
flown-turned shape line boot cs t (Some (asked.Commit u)) f s e boots above flies is =
    let o : OpenUnit = flies.0 in
    ap (λ (d : Event). turned shape line boot cs d t) (same-some e (commits_in s o) (sym is ∙ flies.2))
    ∙ earlier-unit o.unit boot (nodes_in shape cs) t (earlier u s o boot boots above flies.1)
flown-turned shape line boot cs t (Some (asked.Branch u b cause)) f s e boots above flies is =
    let o : OpenUnit = flies.0.unit in
    ap (λ (d : Event). turned shape line boot cs d t) (same-some e (branches_in s u cause) (sym is ∙ flies.1))
    ∙ earlier-unit u boot [] t (subst (λ (v : Id). v.boot < boot) (named-unit u s.units o flies.0.named) (earlier u s o boot boots above flies.0.named))
flown-turned shape line boot cs t (Some (asked.Table d text)) f s e boots above flies is =
    ap (λ (d : Event). turned shape line boot cs d t) (same-some e (Defined (next_decision_number s) text) (sym is ∙ flies.2))
flown-turned shape line boot cs t (Some (asked.Program p text)) f s e boots above flies is =
    ap (λ (d : Event). turned shape line boot cs d t) (same-some e (Defined (next_decision_number s) text) (sym is ∙ flies.2))

first-of : (s : UnitState) (n : ℕ) (f : Option Event) (e : Event) → Some e ≡ opened_in s n f → (f ≡ Some e) ⊎ (Some e ≡ rest_in s)
first-of s n None e told = inr told
first-of s n (Some d) e told = by (n == next_decision_number s) told
  where
    by : (b : Bool) → Some e ≡ option_or (then_some b d) (rest_in s) → (Some d ≡ Some e) ⊎ (Some e ≡ rest_in s)
    by true told = inl (sym told)
    by false told = inr told

module _ (room : ℕ) (p : Point) (sound : IsSoundPoint p) (i : Option InFlight) (flies : IsInFlight i p.flight p.state.units) (has : HasOpened room p) (next : Event) (comes : has.point.next ≡ Some next) where
  abbrev s : UnitState
  s = has.point.state.units

  above : p.state.units.kept.boot < s.kept.boot
  above = subst (λ n. p.state.units.kept.boot < n) (sym (ap (λ (u : UnitState). u.kept.boot) has.opens.after.units)) has.above

  first-turned : (shape : Shape) (cs : List Change) → turned shape s.line s.kept.boot cs next no_turns ≡ no_turns
  first-turned shape cs = by (first-of s has.number p.flight next (sym comes ∙ has.opens.next))
    where
      by : (p.flight ≡ Some next) ⊎ (Some next ≡ rest_in s) → turned shape s.line s.kept.boot cs next no_turns ≡ no_turns
      by (inl flown) =
          flown-turned shape s.line s.kept.boot cs no_turns i p.flight p.state.units next (open-boots sound.trace sound.sound p.state.units sound.keeps.state.units) above flies flown
      by (inr rests) = resting-turned shape s.line s.kept.boot cs next no_turns (rests-only s next rests)

  pub opens-net : (setup : Setup) (net : Option Turning) → p.state.over_net ≡ setup.over_net → net ≡ net_begun setup → AgreesWithNet setup net (Some next) has.point.state
  opens-net setup net over begun = record { over = has.opens.after.over_net ∙ over; sent = begun ∙ by setup.over_net }
    where
      by : (o : Bool) → (if o then Some no_turns else None) ≡ net_after setup (Some next) s (if o then Some (has.point.state.net setup.shape) else None)
      by true =
          let cs : List Change = map change_at (facts_in s next).changes in
          ap Some (sym (ap (turned setup.shape s.line s.kept.boot cs next) (has.opens.after.net setup.shape) ∙ first-turned setup.shape cs))
      by false = refl

-- EACH NEXT EVENT, by what is sent of it

pub goes-sent : (setup later : Setup) (net now : Option Turning) (e given : Event) (meant : Option Event) (p q : Point) (t : State) → After e p.state t → Moves (Say e) p q → later ≡ setup → Some given ≡ meant →
    now ≡ net_after setup meant t.units net → AgreesWithNet setup net (Some e) p.state → AgreesWithNet later now (Some given) q.state
goes-sent setup later net now e given meant p q t after moves asked told sent h =
    let behind : After e p.state q.state = moves.0.after in
    next-sent setup later net now meant (Some given) q.state q.state refl refl asked told (sent ∙ ap (λ (u : UnitState). net_after setup meant u net) (after.units ∙ sym behind.units))
    (told-sent setup net e p.state q.state behind h)

-- BROKEN OFF

-- what was found was begun
pub begun-found : (told : Bool) (setup : Setup) (net : Option Turning) (numbers : Option Numbers) (stage : Stage Recovery) (s : State) → IsFoundStage told numbers stage → CanReopenNet setup net numbers s → net ≡ net_begun setup
begun-found told setup net None stage s here h = absurd here
begun-found told setup net (Some n) stage s here h = h.begun

-- nothing is found
pub unfound-lies : (was now : Setup) (net : Option Turning) (numbers : Option Numbers) (s : State) → numbers ≡ None → s.over_net ≡ was.over_net → now ≡ was → CanReopenNet now net numbers s
unfound-lies was now net numbers s none over same = record {
  over = over ∙ ap (λ (q : Setup). q.over_net) (sym same);
  begun = subst (λ (o : Option Numbers). IfSome o (λ numbers. net ≡ net_begun now)) (sym none) tt;
}

if-some : (o : Option Numbers) (P : Type 0) → P → IfSome o (λ numbers. P)
if-some None P h = tt
if-some (Some n) P h = h

-- or it was looked for
pub looked-lies : {T E : Type 0} (r : Result T E) (was now : Setup) (net : Option Turning) (before numbers : Option Numbers) (s : State) → before ≡ None → s.over_net ≡ was.over_net → now ≡ was →
    OnOk r (net ≡ net_begun now) → OnErr r (numbers ≡ before) → CanReopenNet now net numbers s
looked-lies (Ok x) was now net before numbers s none over same begun err =
    record { over = over ∙ ap (λ (q : Setup). q.over_net) (sym same); begun = if-some numbers (net ≡ net_begun now) begun }
looked-lies (Err e) was now net before numbers s none over same begun err = unfound-lies was now net numbers s (err ∙ none) over same
