-- What is to come was broken off.
use Rattle.salt_books.specs.Books.{AreBooks}
use Rattle.salt_books.specs.declared.books.Books.{Books}
use Rattle.salt_engine.specs.Deciding.{LeavesEventUndone}
use Rattle.salt_engine.specs.Flights.{IsInFlight}
use Rattle.salt_engine.specs.Performing.{BreaksOff, IsHalted, IsLost, WasBroken}
use Rattle.salt_engine.specs.Stored.{LeavesEither, MayBeOther, kept_behind}
use Rattle.salt_engine.specs.declared.flights.InFlight.{InFlight}
use Rattle.salt_engine.specs.declared.stage.Stage.{Stage}
use Rattle.salt_engine.specs.declared.stage.Stage.TheVariants.{Lost}
use Rattle.law_states.specs.OpenUnits.{UnitState}
use Rattle.law_states.specs.Steps.{units_after}
use Rattle.law_states.specs.Told.{at_devices_in}
use Rattle.salt_model.specs.Kept.{Kept}
use Rattle.salt_model.specs.Next.{decision_in}
use Rattle.salt_model.specs.declared.events.Event.{Event}
use Rattle.salt_storage.specs.Writing.{ToWrite}
use Rattle.salt_storage.specs.declared.halt.Halt.TheVariants.{Memory}
use Rattle.salt_storage.specs.declared.halt.Halt.{Halt}
use Rattle.std.proofs.Common.{ap, inl, inr, subst, sym, ◌∙◌}
use Rattle.std.specs.Prelude.{IsSome, None, Option, Some, refl, true, ℕ, ⊤, ◌≡◌, ◌⊎◌}

-- the decision that was to come is in doubt only where it was asked
pub noted : (i : Option InFlight) (d : Option Event) (s : UnitState) (k : Kept) → IsInFlight i d s → MayBeOther ⊤ s.kept (kept_behind d s) k → MayBeOther (IsSome i) s.kept (kept_behind d s) k
noted i d s k h (inl e) = inl e
noted None d s k h (inr e) = inl (e.1 ∙ ap (λ (f : Option Event). kept_behind f s) h)
noted (Some asked) d s k h (inr e) = inr (refl, e.1)

noted-left : (leaves : Kept → Kept → Type 0) (i : Option InFlight) (d : Option Event) (s : UnitState) → IsInFlight i d s → LeavesEither leaves ⊤ s.kept (kept_behind d s) →
    LeavesEither leaves (IsSome i) s.kept (kept_behind d s)
noted-left leaves i d s h l = record {
  one = l.one;
  other = l.other;
  left = l.left;
  is_one = noted i d s l.one h l.is_one;
  is_other = noted i d s l.other h l.is_other;
}

module _ {H : Type 0} (leaves : Kept → Kept → Type 0) (fills : ToWrite → ℕ → Type 0) (stage : Stage H) (in_flight : Option InFlight) (meant : Option Event) (s : UnitState) where
  -- memory ran out, where this is kept
  pub breaks-lost : (k : Kept) → leaves k k → MayBeOther (IsSome in_flight) s.kept (kept_behind (decision_in meant) s) k → IsLost stage in_flight meant s →
      BreaksOff leaves fills Memory stage in_flight meant s
  breaks-lost k left is lost = record {
    left = record { one = k; other = k; left = left; is_one = is; is_other = is };
    how = inl (refl, lost);
  }

  pub breaks-before : leaves s.kept s.kept → IsLost stage in_flight meant s → BreaksOff leaves fills Memory stage in_flight meant s
  breaks-before left lost = breaks-lost s.kept left (inl refl) lost

  module _ (e : Event) (is : meant ≡ Some e) (same : (units_after e s).kept ≡ kept_behind (decision_in (Some e)) s) (flies : IsInFlight in_flight (decision_in (Some e)) s) where
    flown : IsInFlight in_flight (decision_in meant) s
    flown = subst (λ (m : Option Event). IsInFlight in_flight (decision_in m) s) (sym is) flies

    behind : (units_after e s).kept ≡ kept_behind (decision_in meant) s
    behind = same ∙ ap (λ (m : Option Event). kept_behind (decision_in m) s) (sym is)

    -- by what the storage answered
    pub breaks : (halt : Halt) (x : Books) → LeavesEventUndone leaves fills halt s e → WasBroken halt x stage → AreBooks x s → BreaksOff leaves fills halt stage in_flight meant s
    breaks halt x undone broken are = record {
      left = noted-left leaves in_flight (decision_in meant) s flown (subst (LeavesEither leaves ⊤ s.kept) behind undone.left);
      how = by broken undone.reason;
    }
      where
        by : WasBroken halt x stage → (halt ≡ Memory) ⊎ (at_devices_in s e ≡ true) → ((halt ≡ Memory) × IsLost stage in_flight meant s) ⊎ IsHalted fills halt stage in_flight meant s
        by (inl lost) r = inl (lost.0, record { there = lost.1; flies = inr flown })
        by (inr down) (inl memory) = absurd (down.0 memory)
        by (inr down) (inr devices) = inr (record {
          event = e;
          is = is;
          other = down.0;
          devices = devices;
          full = undone.full;
          books = x;
          there = down.1;
          are = are;
          flies = flown;
        })

    -- behind an event that was decided, or read
    pub breaks-behind : leaves (units_after e s).kept (units_after e s).kept → stage ≡ Lost → BreaksOff leaves fills Memory stage in_flight meant s
    breaks-behind left there =
        breaks-lost (units_after e s).kept left (noted in_flight (decision_in meant) s (units_after e s).kept flown (inr (tt, behind))) (record { there = there; flies = inr flown })

  -- of the halt as it is passed on
  pub broken-as : (halt told : Halt) → told ≡ halt → BreaksOff leaves fills halt stage in_flight meant s → BreaksOff leaves fills told stage in_flight meant s
  broken-as halt told is broken = subst (λ (h : Halt). BreaksOff leaves fills h stage in_flight meant s) (sym is) broken
