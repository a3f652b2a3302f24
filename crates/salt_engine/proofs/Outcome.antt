-- How what was meant comes out: as a call has answered, and in other words.
use Rattle.salt_disk.specs.Disks.{View}
use Rattle.salt_ast.specs.declared.lines.Line.{Line}
use Rattle.salt_engine.proofs.Broken.{breaks-before}
use Rattle.salt_engine.proofs.Plain.{plain-unarmed}
use Rattle.salt_engine.specs.Performing.{BreaksOff, ComesOut, IsLost, Stays, is_prepared}
use Rattle.salt_engine.specs.declared.flights.InFlight.{InFlight}
use Rattle.salt_engine.specs.declared.stage.Stage.{Stage}
use Rattle.law_states.specs.States.{State}
use Rattle.salt_model.specs.Kept.{Kept}
use Rattle.salt_model.specs.declared.events.Event.{Event}
use Rattle.salt_driver.specs.Counting.{armed_at}
use Rattle.salt_storage.proofs.Staying as within
use Rattle.salt_storage.specs.Writing.{ToWrite}
use Rattle.salt_storage.specs.declared.halt.Halt.TheVariants.{Memory}
use Rattle.salt_storage.specs.declared.halt.Halt.{Halt}
use Rattle.salt_storage.specs.Staying.{Setup}
use Rattle.std.proofs.Common.{ap, subst, sym, ◌∙◌}
use Rattle.std.specs.Prelude.{Err, IfErr, IfOk, Ok, OnOk, Option, Result, [], false, refl, ℕ, ◌≡◌}
use Rattle.std.specs.Result.{IsErrAnd, MatchResult}

module _ {H T : Type 0} (given : T → Option Event) (seen : Option Event → State → Type 0) (leaves : Kept → Kept → Type 0) (fills : ToWrite → ℕ → Type 0) (stage : Stage H) (in_flight : Option InFlight) where
  -- it is broken off
  pub comes-broken : (meant : Option Event) (s : State) (halt : Halt) (result : Result T Halt) → IsErrAnd result (λ told. told ≡ halt) →
      BreaksOff leaves fills halt stage in_flight meant s.units → ComesOut given seen leaves fills stage in_flight meant s result
  comes-broken meant s halt (Ok e) never b = absurd never
  comes-broken meant s halt (Err told) is b = subst (λ (h : Halt). BreaksOff leaves fills h stage in_flight meant s.units) (sym is) b

  -- memory ran out before it
  pub comes-lost : (meant : Option Event) (s : State) (result : Result T Halt) → IsErrAnd result (λ told. told ≡ Memory) → leaves s.units.kept s.units.kept →
      IsLost stage in_flight meant s.units → ComesOut given seen leaves fills stage in_flight meant s result
  comes-lost meant s result is left lost = comes-broken meant s Memory result is (breaks-before leaves fills stage in_flight meant s.units left lost)

  -- what was meant in other words
  pub comes-same : (meant other : Option Event) (s : State) (result : Result T Halt) → other ≡ meant → ComesOut given seen leaves fills stage in_flight other s result →
      ComesOut given seen leaves fills stage in_flight meant s result
  comes-same meant other s result same comes = subst (λ (m : Option Event). ComesOut given seen leaves fills stage in_flight m s result) same comes

  -- what is no preparation arms nothing
  pub comes-unarmed : (line : Line) (meant : Option Event) (s : State) (result : Result T Halt) → is_prepared meant ≡ false → ComesOut given seen leaves fills stage in_flight meant s result →
      IfOk result (λ x. armed_at line (given x) ≡ [])
  comes-unarmed line meant s (Ok x) plain p = ap (armed_at line) p.told ∙ plain-unarmed line meant plain
  comes-unarmed line meant s (Err halt) plain b = tt

-- where it is done

pub when-opened : {T E : Type 0} (P : State → Type 0) (Q : State → T → Type 0) (R : State → E → Type 0) (result : Result T E) →
    ((s : State) → P s → MatchResult result (Q s) (R s)) → IfOk result (λ given. (s : State) → P s → Q s given)
when-opened P Q R (Ok given) comes = comes
when-opened P Q R (Err halt) comes = tt

-- an error gives nothing
pub not-ok : {T E : Type 0} (P : T → Type 0) (Q : E → Type 0) (result : Result T E) → IsErrAnd result Q → IfOk result P
not-ok P Q (Ok x) never = absurd never
not-ok P Q (Err e) is = tt

pub is-err : {T E : Type 0} (P : E → Type 0) (result : Result T E) → IsErrAnd result P → IfErr result P
is-err P (Ok x) never = absurd never
is-err P (Err e) is = is

pub by-err : {T E : Type 0} (P : E → Type 0) (result : Result T E) (e : E) → IsErrAnd result (λ told. told ≡ e) → P e → IfErr result P
by-err P (Ok x) e never h = absurd never
by-err P (Err told) e is h = subst P (sym is) h

-- nothing was called

pub stays-same : {A : Type 0} (noted : A) (asked : Setup) (d : View) → Stays noted noted asked asked d d
stays-same noted asked d = record { noted = refl; within = within.stays-same asked d }

pub stays-as : {A : Type 0} (noted : A) (was is : Setup) (d : View) → is ≡ was → Stays noted noted was is d d
stays-as noted was is d same = record { noted = refl; within = record { asked = same; shape = (within.stays-same was d).shape; others = (within.stays-same was d).others } }

-- of what is done where it is done
pub on-ok : {T E : Type 0} (r : Result T E) (P Q : Type 0) → (P → Q) → OnOk r P → OnOk r Q
on-ok (Ok x) P Q f h = f h
on-ok (Err e) P Q f h = tt
