-- What commits have sent over messages behind a move of an engine.
use Rattle.law_decisions.proofs.Naming.{decided-boot}
use Rattle.law_states.specs.Laws.{is_of_run}
use Rattle.law_states.specs.OpenUnits.{OpenUnit, UnitState, unit_named}
use Rattle.law_states.specs.States.{After, State}
use Rattle.law_states.specs.Told.{Clashes, Items, commits_in, line_in, next_decision_number}
use Rattle.law_states.specs.UnitFacts.{facts_in, facts_of}
use Rattle.salt_ast.specs.declared.lines.Line.TheVariants.{Program, Table}
use Rattle.salt_ast.specs.declared.lines.Line.{Line}
use Rattle.salt_books.specs.Coming.{event_meant}
use Rattle.salt_books.specs.declared.coming.Coming.{Coming}
use Rattle.salt_books.specs.declared.books.Books.{Books}
use Rattle.salt_engine.proofs.Decided.{named-own, named-unit}
use Rattle.salt_engine.specs.Deciding.{IsBefore, branches_in}
use Rattle.salt_engine.specs.Netted.{CanReopenNet, AgreesWithNet, net_after}
use Rattle.salt_model.specs.Refusals.{defines}
use Rattle.salt_engine.specs.Performing.{is_prepared}
use Rattle.salt_driver.specs.Devices.{on_devices}
use Rattle.salt_driver.specs.Standing.{BreaksAt, HaltsAt}
use Rattle.law_states.specs.Points.{Ask, Moves, Point, Say, TraceStep, Turn}
use Rattle.salt_model.specs.Kept.{Kept}
use Rattle.salt_model.specs.Trace.{Asked}
use Rattle.salt_model.specs.declared.events.Flight.{Flight}
use Rattle.salt_storage.specs.Writing.{ToWrite}
use Rattle.salt_storage.specs.declared.found.Numbers.{Numbers}
use Rattle.salt_storage.specs.declared.halt.Halt.{Halt}
use Rattle.salt_model.specs.Next.{decision_in}
use Rattle.salt_model.specs.declared.events.Cause.{Cause}
use Rattle.salt_model.specs.declared.events.End.TheVariants.{Branched, Committed}
use Rattle.salt_model.specs.declared.events.Event.TheVariants.{Armed, Ended, Opened, Refused}
use Rattle.salt_model.specs.declared.events.Event.{Event}
use Rattle.salt_model.specs.declared.events.Refusal.{Refusal}
use Rattle.salt_net.specs.Turns.{Turning, commits}
use Rattle.salt_place.specs.declared.placement.Shape.{Shape}
use Rattle.salt_stands.specs.Placed.{nodes_from, nodes_in}
use Rattle.salt_stands.specs.Turning.{change_at, turned}
use Rattle.salt_storage.specs.Netted.{net_committed, net_told}
use Rattle.salt_storage.specs.Staying.{Setup}
use Rattle.salt_values.specs.declared.change.Change.{Change}
use Rattle.salt_values.specs.declared.id.Id.{Id}
use Rattle.std.proofs.Common.{Bool, List, None, Option, Some, [], ap, arith, false, inl, inr, refl, subst, suc, sym, true, zero, ℕ, ◌≡◌, ◌∙◌}
use Rattle.std.proofs.lemmas.Bool.Decides.{nat_tests}
use Rattle.std.specs.Prelude.{if◌then◌else◌, map, option_map, ◌==◌}

-- WHAT MAKES NOTHING of it

map-same : (f : Turning → Turning) (o : Option Turning) → ((t : Turning) → f t ≡ t) → option_map f o ≡ o
map-same f None h = refl
map-same f (Some t) h = ap Some (h t)

turned-plain : (shape : Shape) (line : Line) (boot : ℕ) (cs : List Change) (e : Event) (t : Turning) → is_of_run e ≡ false → decision_in (Some e) ≡ None → is_prepared (Some e) ≡ false →
    turned shape line boot cs e t ≡ t
turned-plain shape line boot cs (Opened number n) t run decides plain = cc
turned-plain shape line boot cs (Armed pairs) t run decides plain = cc
turned-plain shape line boot cs (Ended u (Committed n)) t run decides plain = cc
turned-plain shape line boot cs (Ended u (Branched n c)) t run decides plain = cc
turned-plain shape line boot cs e t run decides plain = refl

-- an event that decides nothing, and arms nothing
pub plain-sent : (setup : Setup) (e : Event) (s : UnitState) (net : Option Turning) → is_of_run e ≡ false → decision_in (Some e) ≡ None → is_prepared (Some e) ≡ false → net ≡ net_after setup (Some e) s net
plain-sent setup e s net run decides plain = sym (map-same (turned setup.shape s.line s.kept.boot (map change_at (facts_in s e).changes) e) net (λ t. turned-plain setup.shape s.line s.kept.boot (map change_at (facts_in s e).changes) e t run decides plain))

-- A UNIT IS DECIDED

same-number : (a b : ℕ) → a ≡ b → (a == b) ≡ true
same-number a b same = grind (arith, nat_tests, same)

none-changed : (shape : Shape) (p n : ℕ) → nodes_from shape [] p n ≡ []
none-changed shape p zero = refl
none-changed shape p (suc n) = none-changed shape (suc p) n

module _ (holds : Kept → Type 0) (is_new : Id → Type 0) (x : Books) (s : UnitState) (o : OpenUnit) (u : Id) (named : unit_named u s.units ≡ Some o) (setup : Setup) (old new : Option Turning) where
  own : unit_named o.unit s.units ≡ Some o
  own = named-own u s.units o named

  pub commit-sent : (b : IsBefore holds is_new x (commits_in s o) s) (cs : List Change) → cs ≡ map change_at o.changes → new ≡ net_committed setup u cs old → new ≡ net_after setup (Some (commits_in s o)) s old
  commit-sent b cs are sent =
      let e : Event = commits_in s o in
      let boot : (o.unit.boot == s.kept.boot) ≡ true = same-number o.unit.boot s.kept.boot (decided-boot s b.comes.trace o.unit (Committed (next_decision_number s)) b.comes.keeps b.comes.sound b.comes.next refl b.comes.late) in
      let changed : cs ≡ map change_at (facts_in s e).changes = are ∙ ap (λ (q : Option OpenUnit). map change_at (facts_of s e q).changes) (sym own) in
      sent
      ∙ (λ i. option_map (commits (sym (named-unit u s.units o named) i) (nodes_in setup.shape (changed i))) old)
      ∙ ap (λ (same : Bool). option_map (λ t. if same then commits o.unit (nodes_in setup.shape (map change_at (facts_in s e).changes)) t else t) old) (sym boot)

  pub branch-sent : (cause : Cause) (b : IsBefore holds is_new x (branches_in s o.unit cause) s) → new ≡ net_committed setup u [] old → new ≡ net_after setup (Some (branches_in s u cause)) s old
  branch-sent cause b sent =
      let boot : (o.unit.boot == s.kept.boot) ≡ true = same-number o.unit.boot s.kept.boot (decided-boot s b.comes.trace o.unit (Branched (next_decision_number s) cause) b.comes.keeps b.comes.sound b.comes.next refl b.comes.late) in
      let same : o.unit ≡ u = named-unit u s.units o named in
      sent
      ∙ ap (λ (nodes : List ℕ). option_map (commits u nodes) old) (none-changed setup.shape 0 setup.shape.parts)
      ∙ ap (λ (is : Bool). option_map (λ t. if is then commits u [] t else t) old) (sym boot ∙ ap (λ (v : Id). v.boot == s.kept.boot) same)

-- of what is to come in other words, and of the event that is meant
pub sent-as : (setup : Setup) (old new : Option Turning) (c d : Coming) (s : State) → c ≡ d → new ≡ net_after setup (event_meant s.units d) s.units old → new ≡ net_after setup (event_meant s.units c) s.units old
sent-as setup old new c d s is sent = subst (λ (k : Coming). new ≡ net_after setup (event_meant s.units k) s.units old) (sym is) sent

pub meant-sent : (setup : Setup) (old new : Option Turning) (c : Coming) (e : Event) (s : State) → event_meant s.units c ≡ Some e → new ≡ net_after setup (Some e) s.units old → new ≡ net_after setup (event_meant s.units c) s.units old
meant-sent setup old new c e s is sent = subst (λ (m : Option Event). new ≡ net_after setup m s.units old) (sym is) sent

-- a definition sends nothing
pub definition-sent : (setup : Setup) (line : Line) (s : State) (clash : Clashes) (items : Items) (net : Option Turning) → defines line ≡ true → net ≡ net_after setup (line_in s.units clash items line) s.units net
definition-sent setup (Table d) s clash items net h = sym (map-same (λ t. t) net (λ t. refl))
definition-sent setup (Program p) s clash items net h = sym (map-same (λ t. t) net (λ t. refl))
definition-sent setup line s clash items net h = cc

-- nor does a refusal
pub refused-sent : (setup : Setup) (refusal : Refusal) (s : UnitState) (net : Option Turning) → net ≡ net_after setup (Some (Refused refusal)) s net
refused-sent setup refusal s net = sym (map-same (λ t. t) net (λ t. refl))

-- what is meant in other words
pub other-sent : (setup : Setup) (old new : Option Turning) (other meant : Option Event) (s : State) → other ≡ meant → new ≡ net_after setup other s.units old → new ≡ net_after setup meant s.units old
other-sent setup old new other meant s is sent = subst (λ (m : Option Event). new ≡ net_after setup m s.units old) is sent

-- FROM EVENT TO EVENT

-- the event at hand is told
pub told-sent : (setup : Setup) (net : Option Turning) (e : Event) (s t : State) → After e s t → AgreesWithNet setup net (Some e) s → AgreesWithNet setup net None t
told-sent setup net e s t after h = record { over = after.over_net ∙ h.over; sent = h.sent ∙ by setup.over_net }
  where
    by : (over : Bool) → net_after setup (Some e) s.units (if over then Some (s.net setup.shape) else None) ≡ (if over then Some (t.net setup.shape) else None)
    by true = ap Some (sym (after.net setup.shape))
    by false = refl

-- and this comes next, which the storage has gone by
pub next-sent : (setup later : Setup) (net now : Option Turning) (meant given : Option Event) (s t : State) → t.net ≡ s.net → t.over_net ≡ s.over_net → later ≡ setup → given ≡ meant →
    now ≡ net_after setup meant t.units net → AgreesWithNet setup net None s → AgreesWithNet later now given t
next-sent setup later net now meant given s t same over asked is moved h = record {
  over = over ∙ h.over ∙ ap (λ (q : Setup). q.over_net) (sym asked);
  sent = moved ∙ (λ i. net_after (sym asked i) (sym is i) t.units ((h.sent ∙ ap (net_told setup) (sym same)) i)) ∙ ap (λ (q : Setup). net_after later given t.units (net_told q t.net)) (sym asked);
}

-- MOVES leave where commits go

pub asked-over : (asked : Asked) (p q : Point) → Moves (Ask asked) p q → q.state.over_net ≡ p.state.over_net
asked-over asked p q moves = ap (λ (s : State). s.over_net) moves.state

pub turned-over : (b : Id) (p q : Point) → Moves (Turn b) p q → q.state.over_net ≡ p.state.over_net
turned-over b p q moves = ap (λ (s : State). s.over_net) moves.state

pub said-over : (e : Event) (p q : Point) → Moves (Say e) p q → q.state.over_net ≡ p.state.over_net
said-over e p q moves = moves.0.after.over_net

pub lies-net : (setup later : Setup) (net : Option Turning) {s : State} → s.over_net ≡ setup.over_net → later ≡ setup → CanReopenNet later net None s
lies-net setup later net over same = record { over = over ∙ ap (λ (q : Setup). q.over_net) (sym same); begun = tt }

-- broken off there, it lies so too
module _ (can : ℕ → Point → Type 0) (N : Point → Type 0) (stands : Option Numbers → ℕ → Point → Type 0) (fills : ToWrite → ℕ → Type 0) (flight : Option Flight) (halt : Halt) where
  pub halts-net : (q : Point) → N q → HaltsAt (on_devices can stands fills) flight halt q → HaltsAt (on_devices (λ room p. can room p × N p) stands fills) flight halt q
  halts-net q net h = record { reason = h.reason; flies = h.flies; full = h.full; again = λ other. (h.again other, net); stays = h.stays }

  pub halts-there : (p : Point) (m : TraceStep) → ((q : Point) → Moves m p q → N q) → ((q : Point) × Moves m p q × HaltsAt (on_devices can stands fills) flight halt q) →
      (q : Point) × Moves m p q × HaltsAt (on_devices (λ room p. can room p × N p) stands fills) flight halt q
  halts-there p m net h = (h.0, h.1, halts-net h.0 (net h.0 h.1) h.2)

pub breaks-there : (can : ℕ → Point → Type 0) (N : Point → Type 0) (stands : Option Numbers → ℕ → Point → Type 0) (fills : ToWrite → ℕ → Type 0) (flight : Option Flight) {halt : Halt} (p : Point) (e : Event) (story told : List Event) → N p → ((q : Point) → Moves (Say e) p q → N q) →
    BreaksAt (on_devices can stands fills) flight halt p e story told → BreaksAt (on_devices (λ room p. can room p × N p) stands fills) flight halt p e story told
breaks-there can N stands fills flight {halt} p e story told here there (inl h) = inl (h.0, halts-net can N stands fills flight halt p here h.1, h.2)
breaks-there can N stands fills flight {halt} p e story told here there (inr h) = inr (h.0, halts-there can N stands fills flight halt p (Say e) there h.1)
