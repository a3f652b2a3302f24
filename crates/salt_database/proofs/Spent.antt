-- Behind a fall an opening fails by the numbers of what it may find, or halted.
use Rattle.salt_database.proofs.Falling.{IsCounted, counts}
use Rattle.salt_database.proofs.Lying.{left-either}
use Rattle.salt_engine.specs.Flights.{IsInFlight}
use Rattle.salt_model.specs.Ends.{raised}
use Rattle.salt_engine.specs.Stored.{IsAlone, IsLeft, MayBeOther, kept_behind}
use Rattle.salt_engine.specs.declared.flights.InFlight.{InFlight}
use Rattle.law_states.specs.Points.{Point}
use Rattle.law_states.specs.Steps.{units_after}
use Rattle.salt_model.specs.Kept.{Kept}
use Rattle.salt_model.specs.declared.events.Event.{Event}
use Rattle.salt_stands.specs.Stands.{are_spent}
use Rattle.salt_driver.specs.Opening.{AreSpentAt, MayFailAt}
use Rattle.salt_storage.specs.Answers.{MayFail, numbers_of}
use Rattle.salt_storage.specs.OpenErr.{OpenErr}
use Rattle.salt_storage.specs.OpenErr.TheVariants as open_err
use Rattle.std.proofs.Common.{ap, arith, inl, inr, subst, sym, ◌∙◌}
use Rattle.std.specs.Prelude.{IsSome, None, Option, Some, refl, true, ℕ, ⊤, ◌+◌, ◌≡◌, ◌≤◌, ◌⊎◌}

-- those of what is kept there, or with the flight, some boots later
spent-by : (room : ℕ) (p : Point) (boot decisions boots : ℕ) (m : Kept) → are_spent boot decisions ≡ true → boots ≤ room → boot ≡ m.boot + boots → decisions ≡ m.decisions →
    m.boot ≡ p.state.units.kept.boot → (m.decisions ≡ p.state.units.kept.decisions) ⊎ (IsSome p.flight × (m.decisions ≡ p.state.units.kept.decisions + 1)) → AreSpentAt room p boot decisions
spent-by room p boot decisions boots m spent few at number same how = record {
  spent = spent;
  least = omega arith;
  most = omega arith;
  stands_for = by how;
}
  where
    by : (m.decisions ≡ p.state.units.kept.decisions) ⊎ (IsSome p.flight × (m.decisions ≡ p.state.units.kept.decisions + 1)) →
        (decisions ≡ p.state.units.kept.decisions) ⊎ (IsSome p.flight × (decisions ≡ p.state.units.kept.decisions + 1))
    by (inl e) = inl (number ∙ e)
    by (inr e) = inr (e.0, number ∙ e.1)

some-flies : (o : Option Event) (e : Event) → o ≡ Some e → IsSome o
some-flies o e h = subst (λ (q : Option Event). IsSome q) (sym h) refl

spent-left : (doubt : Type 0) (i : Option InFlight) (room : ℕ) (p : Point) (k : Kept) (boot decisions : ℕ) → IsInFlight i p.flight p.state.units → IsLeft doubt room p k →
    are_spent boot decisions ≡ true → boot ≡ k.boot → decisions ≡ k.decisions → AreSpentAt room p boot decisions
spent-left doubt i room p k boot decisions flies left spent at number = by left.is (counts i p.flight p.state.units flies)
  where
    on : (m : Kept) → k ≡ raised left.boots m → m.boot ≡ p.state.units.kept.boot →
        (m.decisions ≡ p.state.units.kept.decisions) ⊎ (IsSome p.flight × (m.decisions ≡ p.state.units.kept.decisions + 1)) → AreSpentAt room p boot decisions
    on m e same how = spent-by room p boot decisions left.boots m spent left.most (at ∙ ap (λ (x : Kept). x.boot) e) (number ∙ ap (λ (x : Kept). x.decisions) e) same how

    by : MayBeOther doubt (raised left.boots p.state.units.kept) (raised left.boots (kept_behind p.flight p.state.units)) k →
        (p.flight ≡ None) ⊎ ((e : Event) × (p.flight ≡ Some e) × IsCounted p.state.units e) → AreSpentAt room p boot decisions
    by (inl e) c = on p.state.units.kept e refl (inl refl)
    by (inr e) (inl none) =
        on p.state.units.kept (e.1 ∙ ap (λ (f : Option Event). raised left.boots (kept_behind f p.state.units)) none) refl (inl refl)
    by (inr e) (inr c) =
        on (units_after c.0 p.state.units).kept (e.1 ∙ ap (λ (f : Option Event). raised left.boots (kept_behind f p.state.units)) c.1) c.2.boot
        (inr (some-flies p.flight c.0 c.1, c.2.decisions))

pub may-fail-at : (rests : Kept → Type 0) (doubt : Type 0) (i : Option InFlight) (room : ℕ) (p : Point) (a b : Kept) (e : OpenErr) → IsInFlight i p.flight p.state.units → IsLeft doubt room p a →
    IsLeft doubt room p b → MayFail rests a b e → MayFailAt room p e
may-fail-at rests doubt i room p a b (open_err.NotSalt dev) flies x y h = h
may-fail-at rests doubt i room p a b (open_err.OtherShape kept asked) flies x y h = h
may-fail-at rests doubt i room p a b (open_err.NumbersSpent boot decisions) flies x y h =
    spent-left doubt i room p h.kept boot decisions flies (left-either doubt room p a b h.kept x y h.either) h.spent h.boot_is h.decisions_are
may-fail-at rests doubt i room p a b open_err.Failed flies x y h = tt
may-fail-at rests doubt i room p a b open_err.Stopped flies x y h = tt
may-fail-at rests doubt i room p a b (open_err.Full dev) flies x y h = tt
may-fail-at rests doubt i room p a b open_err.Memory flies x y h = tt

-- and where its numbers are told, what is left stands for it alone

certain : (doubt : Type 0) (room : ℕ) (p : Point) (k : Kept) → IsLeft doubt room p k → IsLeft ⊤ room p k
certain doubt room p k h = record { boots = h.boots; most = h.most; is = by h.is }
  where
    by : MayBeOther doubt (raised h.boots p.state.units.kept) (raised h.boots (kept_behind p.flight p.state.units)) k →
        MayBeOther ⊤ (raised h.boots p.state.units.kept) (raised h.boots (kept_behind p.flight p.state.units)) k
    by (inl e) = inl e
    by (inr e) = inr (tt, e.1)

pub alone-by : (rests : Kept → Type 0) (doubt : Type 0) (room : ℕ) (p : Point) (a b : Kept) (e : OpenErr) → IsLeft doubt room p a → IsLeft doubt room p b → MayFail rests a b e →
    IsAlone rests (numbers_of e) room p
alone-by rests doubt room p a b (open_err.NotSalt dev) x y h = tt
alone-by rests doubt room p a b (open_err.OtherShape kept asked) x y h = tt
alone-by rests doubt room p a b (open_err.NumbersSpent boot decisions) x y h = record {
  kept = h.kept;
  resting = h.resting;
  left = certain doubt room p h.kept (left-either doubt room p a b h.kept x y h.either);
  boot_is = h.boot_is;
  decisions_are = h.decisions_are;
}
alone-by rests doubt room p a b open_err.Failed x y h = tt
alone-by rests doubt room p a b open_err.Stopped x y h = tt
alone-by rests doubt room p a b (open_err.Full dev) x y h = tt
alone-by rests doubt room p a b open_err.Memory x y h = tt
