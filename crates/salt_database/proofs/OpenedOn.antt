-- The storage holds what the first event of an opening leaves.
use Rattle.salt_ast.specs.declared.lines.Line.TheVariants.{Nothing}
use Rattle.salt_database.proofs.Booting.{is-number, no-number}
use Rattle.salt_database.proofs.Opened.{FoundAt, IsWith, IsWithout, boot-is}
use Rattle.salt_database.proofs.Resting.{is_resting, rests-only}
use Rattle.salt_model.specs.Ends.{raised}
use Rattle.salt_engine.specs.Stored.{Stored}
use Rattle.law_states.specs.Follows.{opened_in}
use Rattle.law_states.specs.OpenUnits.{UnitState}
use Rattle.law_states.specs.Points.{Point}
use Rattle.law_states.specs.Steps.{units_after}
use Rattle.law_states.specs.Told.{next_decision_number}
use Rattle.salt_model.specs.Kept.{Kept}
use Rattle.salt_model.specs.Next.{is_decision}
use Rattle.salt_model.specs.Phases.{Fallen}
use Rattle.salt_model.specs.declared.events.End.TheVariants.{Cut}
use Rattle.salt_model.specs.declared.events.Event.{Event}
use Rattle.salt_model.specs.declared.events.Event.TheVariants.{Armed, Began, Early, Ended, Opened, Ready}
use Rattle.salt_drain.specs.Follows.{rest_in}
use Rattle.law_decisions.proofs.Flying.{opened-same}
use Rattle.salt_driver.specs.Counting.{stops_armed}
use Rattle.salt_driver.specs.Standing.{IsSoundPoint}
use Rattle.salt_storage.specs.Storing.{booted}
use Rattle.salt_values.specs.declared.id.Id.{Id}
use Rattle.std.proofs.Common.{ap, arith, inl, inr, subst, sym, ◌∙◌}
use Rattle.std.specs.Bool.{then_some}
use Rattle.std.specs.Option.{option_or}
use Rattle.std.specs.Prelude.{None, Option, Some, [], refl, true, ℕ, ◌+◌, ◌≡◌, ◌⊎◌}

-- EVENTS THAT REST keep what is kept, and arm nothing.

resting-keeps : (s : UnitState) (e : Event) → is_resting e ≡ true → (units_after e s).kept ≡ s.kept
resting-keeps s (Ended u Cut) h = refl
resting-keeps s (Began u kind) h = refl
resting-keeps s Ready h = refl
resting-keeps s (Early bs) h = refl
resting-keeps s e h = cc

resting-unarmed : (e : Event) → is_resting e ≡ true → stops_armed Nothing e ≡ []
resting-unarmed (Armed pairs) h = cc
resting-unarmed e h = refl

decided-unarmed : (e : Event) → is_decision e ≡ true → stops_armed Nothing e ≡ []
decided-unarmed (Armed pairs) h = cc
decided-unarmed e h = refl

same-some : (e f : Event) → Some e ≡ Some f → e ≡ f
same-some e f h = cc

module _ (p : Point) (sound : IsSoundPoint p) (fallen : p.state.units.phase ≡ Fallen) (room : ℕ) (k : Kept) (number boot : ℕ) (f : FoundAt room p k number)
    (next_boot : boot ≡ k.boot + 1) where
  abbrev s : UnitState
  s = units_after (Opened boot number) p.state.units

  without : number ≡ p.state.units.kept.decisions → opened_in s number p.flight ≡ rest_in s
  without same = by p.flight
    where
      by : (o : Option Event) → opened_in s number o ≡ rest_in s
      by None = refl
      by (Some e) = ap (λ t. option_or (then_some t e) (rest_in s)) (no-number number (next_decision_number s) (let n = same in omega arith))

  with-flight : (e : Event) → p.flight ≡ Some e → number ≡ p.state.units.kept.decisions + 1 → opened_in s number p.flight ≡ Some e
  with-flight e is same = ap (opened_in s number) is ∙ ap (λ t. option_or (then_some t e) (rest_in s)) (is-number number (next_decision_number s) same)

  later-boot : (m : Kept) → m.boot ≡ p.state.units.kept.boot → record m { boot = boot } ≡ booted (raised f.boots m)
  later-boot m same = λ i. record m { boot = (boot-is p sound fallen room k number boot f next_boot ∙ ap (λ n. n + f.boots + 1) (sym same)) i }

  module _ (first : Event) (told : Some first ≡ opened_in s number p.flight) where
    pub first-keeps : (units_after first s).kept ≡ booted k
    first-keeps = by f.how
      where
        by : IsWithout f.boots p k number ⊎ IsWith f.boots p k number → (units_after first s).kept ≡ booted k
        by (inl w) =
            resting-keeps s first (rests-only s first (told ∙ without w.0)) ∙ later-boot p.state.units.kept refl ∙ ap booted (sym w.1)
        by (inr w) =
            let is : first ≡ w.event = same-some first w.event (told ∙ with-flight w.event w.flies w.numbered) in
            ap (λ (e : Event). (units_after e s).kept) is ∙ opened-same p.state.units w.event boot number w.counted.decides
            ∙ later-boot (units_after w.event p.state.units).kept w.counted.boot ∙ ap booted (sym w.is)

    pub first-unarmed : stops_armed Nothing first ≡ []
    first-unarmed = by f.how
      where
        by : IsWithout f.boots p k number ⊎ IsWith f.boots p k number → stops_armed Nothing first ≡ []
        by (inl w) = resting-unarmed first (rests-only s first (told ∙ without w.0))
        by (inr w) = ap (stops_armed Nothing) (same-some first w.event (told ∙ with-flight w.event w.flies w.numbered)) ∙ decided-unarmed w.event w.counted.decides

    -- so it holds what that leaves, and each unit of the boot is new
    pub first-stored : (holds : Kept → Type 0) (is_new : Id → Type 0) (t : UnitState) → t ≡ units_after first s → holds (booted k) →
        ((u : Id) → u.boot ≡ boot → is_new u) → Stored holds is_new t
    first-stored holds is_new t is holding new =
        let kept : t.kept ≡ booted k = ap (λ (x : UnitState). x.kept) is ∙ first-keeps in
        record {
          holding = subst holds (sym kept) holding;
          new = λ u may. new u (may.0 ∙ ap (λ (x : Kept). x.boot) kept ∙ sym next_boot);
        }
