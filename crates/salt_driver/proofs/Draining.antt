-- An opening is drained from a point on: what is told of it, the steps that are taken, and that there are no more than its programs have left.
use Rattle.law_states.proofs.PointsGoOn.{no-more}
use Rattle.law_states.specs.Points.{TraceStep, Moves, Point, Runs, Say, told_by}
use Rattle.law_states.specs.States.{State}
use Rattle.law_states.specs.Steps.{units_after}
use Rattle.salt_model.specs.Phases.{Opening}
use Rattle.salt_model.specs.declared.events.Event.TheVariants.{Began, Did}
use Rattle.salt_model.specs.declared.events.Event.{Event}
use Rattle.salt_model.specs.declared.events.Flight.{Flight}
use Rattle.law_openings.proofs.Doing.{does-its-rests}
use Rattle.law_openings.specs.Draining.{CanDrain, rests_behind, statements_at}
use Rattle.salt_model.specs.Rests.{statements_in, statements_told}
use Rattle.salt_driver.proofs.Advancing.{inside-both, runs-both, tells-both, told-both}
use Rattle.salt_driver.proofs.Openings.{opening-on}
use Rattle.salt_driver.specs.Devices.{OnDevices}
use Rattle.salt_driver.specs.Draining.{BreaksWithin, CountsOff, CountsSteps, MayTick, units_in, units_told}
use Rattle.salt_driver.specs.Standing.{BreaksAt, IsOpenedOn, IsOpeningAt, IsSoundPoint, OpensOn}
use Rattle.salt_storage.specs.declared.halt.Halt.{Halt}
use Rattle.std.proofs.Common.{ap, arith, get_or, inl, inr, sym, take, ◌∙◌}
use Rattle.std.proofs.lemmas.List.{take_more}
use Rattle.std.specs.Prelude.{List, None, Option, Some, [], drop, length, refl, ℕ, ◌++◌, ◌+◌, ◌<◌, ◌∷◌, ◌≡◌, ◌≤◌}

pub statements-both : (es fs : List Event) → statements_told (es ++ fs) ≡ statements_told es + statements_told fs
statements-both [] fs = omega arith
statements-both (e ∷ es) fs = let rest = statements-both es fs in omega arith

statements-on : (ms : List TraceStep) (e : Event) → statements_told (told_by (ms ++ Say e ∷ [])) ≡ statements_told (told_by ms) + statements_in e
statements-on ms e =
    let both = ap statements_told (told-both ms (Say e ∷ [])) in
    let sum = statements-both (told_by ms) (e ∷ []) in
    omega arith

units-both : (es fs : List Event) → units_told (es ++ fs) ≡ units_told es + units_told fs
units-both [] fs = omega arith
units-both (e ∷ es) fs = let rest = units-both es fs in omega arith

one-unit : (e : Event) → units_in e ≤ 1
one-unit (Began u kind) = omega arith
one-unit e = omega arith

-- the units of one event more
pub units-taken : (es : List Event) (i : ℕ) (e : Event) (n one : ℕ) → i < length es → e ≡ get_or es i e → one ≡ units_in e → (n ≡ units_told (take i es)) × (n ≤ i) →
    (n + one ≡ units_told (take (i + 1) es)) × (n + one ≤ i + 1)
units-taken es i e n one within is same h =
    let taken = ap units_told (take_more es i e within ∙ ap (λ x. take i es ++ x ∷ []) (sym is)) in
    let both = units-both (take i es) (e ∷ []) in
    let most = one-unit e in
    let count = h.0 in
    let less = h.1 in
    (omega arith, omega arith)

drop-all : (es fs : List Event) → drop (length es) (es ++ fs) ≡ fs
drop-all [] fs = refl
drop-all (e ∷ es) fs = drop-all es fs

-- the units that are begun behind a story
pub units-behind : (story more told behind : List Event) (count units : ℕ) → told ≡ story ++ more → count ≡ length story → behind ≡ drop count told → units ≡ units_told behind →
    units ≡ units_told more
units-behind story more told behind count units grows long is counted =
    counted ∙ ap units_told (is ∙ ap (λ n. drop n told) long ∙ ap (λ es. drop (length story) es) grows ∙ drop-all story more)

one-at-most : (e : Event) → statements_in e ≤ 1
one-at-most (Did u st answer) = omega arith
one-at-most e = omega arith

one-at-hand : (o : Option Event) → statements_at o ≤ 1
one-at-hand None = omega arith
one-at-hand (Some e) = one-at-most e

-- by the events of an opening it has come from a point to where it stands, with the steps for them and for what is at hand
pub record Drains {E : Type 0} (stands_for : E → Option Event → State → Type 0) (p : Point) (first : Event) (story : List Event) (e : E) (next : Option Event)
    (told : List Event) (old new : ℕ) : Type 0 where
  pub on : OpensOn (stands_for e) p story next told
  pub ticks : new + statements_in first ≡ old + statements_told (told_by on.moves) + statements_at next
  pub most : CanDrain (units_after first p.state.units).kept → new ≤ old + rests_behind first p.state.units

pub drains-none : {E : Type 0} (stands_for : E → Option Event → State → Type 0) (p : Point) (first : Event) (story : List Event) (e : E) (steps : ℕ) → IsOpeningAt (stands_for e) (Some first) p →
    Drains stands_for p first story e (Some first) story steps steps
drains-none stands_for p first story e steps at = record {
  on = record { moves = []; point = p; runs = refl; inside = tt; stands = at; tells = sym (no-more story) };
  ticks = omega arith;
  most = λ can. omega arith;
}

pub drains-counted : {E : Type 0} (stands_for : E → Option Event → State → Type 0) (p : Point) (first : Event) (story : List Event) (e : E) (told : List Event) (old new : ℕ) →
    Drains stands_for p first story e None told old new → CountsSteps first story told old new 0
drains-counted stands_for p first story e told old new d = record { more = told_by d.on.moves; grows = d.on.tells; ticks = d.ticks }

module _ {E : Type 0} (stands_for : E → Option Event → State → Type 0) (p : Point) (sound : IsSoundPoint p) (first : Event) (comes : p.next ≡ Some first) (opening : p.state.units.phase ≡ Opening)
    (story : List Event) (e : E) (event : Event) (told : List Event) (old steps : ℕ) (d : Drains stands_for p first story e (Some event) told old steps) where
  -- the moves with this one
  abbrev pub moves-on : List TraceStep
  moves-on = d.on.moves ++ Say event ∷ []

  runs-on : (q : Point) → Moves (Say event) d.on.point q → Runs p moves-on q
  runs-on q m = runs-both d.on.moves (Say event ∷ []) p d.on.point q d.on.runs (q, m, refl)

  -- the steps for what comes next there are no more than are left
  most-on : CanDrain (units_after first p.state.units).kept → (q : Point) → Moves (Say event) d.on.point q → (next : Option Event) → q.next ≡ next →
      (new : ℕ) → new ≡ steps + statements_at next → new ≤ old + rests_behind first p.state.units
  most-on can q m None at new same = let most = d.most can in omega arith
  most-on can q m (Some f) at new same =
      let there = opening-on event d.on.point q f d.on.stands.opening m at in
      let done = does-its-rests moves-on p q sound.trace first f sound.keeps sound.sound opening comes can (runs-on q m) there at in
      let count = statements-on d.on.moves event in
      let ticks = d.ticks in
      omega arith

  pub drains-on : {F : Type 0} (now : F → Option Event → State → Type 0) (f : F) (next : Option Event) (new_told : List Event) (new : ℕ) → (q : Point) → Moves (Say event) d.on.point q →
      IsOpenedOn (now f) next q → new_told ≡ told ++ event ∷ [] → new ≡ steps + statements_at next → Drains now p first story f next new_told old new
  drains-on now f next new_told new q m stands tells same = record {
    on = record {
      moves = moves-on;
      point = q;
      runs = runs-on q m;
      inside = inside-both d.on.moves (Say event ∷ []) d.on.inside (tt, tt);
      stands = stands;
      tells = tells-both story told new_told d.on.moves (Say event ∷ []) d.on.tells tells;
    };
    ticks = let count = statements-on d.on.moves event in let ticks = d.ticks in omega arith;
    most = λ can. most-on can q m next (comes-next next stands) new same;
  }
    where
      comes-next : (o : Option Event) → IsOpenedOn (now f) o q → q.next ≡ o
      comes-next None h = h.idle.next
      comes-next (Some g) h = h.comes

  -- IT BREAKS OFF

  pub drains-breaks : (devices : OnDevices) (flight : Option Flight) (halt : Halt) (now : List Event) →
      BreaksAt devices flight halt d.on.point event told now → BreaksWithin devices flight halt p story now
  drains-breaks devices flight halt now b = record {
    moves = d.on.moves;
    point = d.on.point;
    event = event;
    before = told;
    runs = d.on.runs;
    inside = d.on.inside;
    opening = d.on.stands.opening;
    tells = d.on.tells;
    breaks = b;
  }

  grows-on : (now : List Event) → now ≡ told ++ event ∷ [] → now ≡ story ++ told_by moves-on
  grows-on now tells = tells-both story told now d.on.moves (Say event ∷ []) d.on.tells tells

  pub drains-short : (devices : OnDevices) (flight : Option Flight) (halt : Halt) (now : List Event) (new : ℕ) →
      BreaksAt devices flight halt d.on.point event told now → MayTick d.on.point event told now steps new → CountsOff first story now old new
  drains-short devices flight halt now new (inl short) (inl same) =
      (statements_in event, one-at-most event, record { more = told_by d.on.moves; grows = short.0 ∙ d.on.tells; ticks = let ticks = d.ticks in omega arith })
  drains-short devices flight halt now new (inr said) (inl same) =
      (0, omega arith, record { more = told_by moves-on; grows = grows-on now said.0; ticks = let count = statements-on d.on.moves event in let ticks = d.ticks in omega arith })
  drains-short devices flight halt now new b (inr moved) = (
    statements_at moved.1.0.next,
    one-at-hand moved.1.0.next,
    record {
      more = told_by moves-on;
      grows = grows-on now moved.0;
      ticks = let count = statements-on d.on.moves event in let ticks = d.ticks in let same = moved.1.2 in omega arith;
    },
  )

  pub drains-most : (now : List Event) (new : ℕ) → MayTick d.on.point event told now steps new → CanDrain (units_after first p.state.units).kept →
      new ≤ old + rests_behind first p.state.units
  drains-most now new (inl same) can = let most = d.most can in omega arith
  drains-most now new (inr moved) can = most-on can moved.1.0 moved.1.1 moved.1.0.next refl new moved.1.2
