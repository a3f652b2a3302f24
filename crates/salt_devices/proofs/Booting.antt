-- A unit of a boot that begins is new.
use Rattle.salt_bytes.specs.Coordinator.{Decision}
use Rattle.salt_bytes.specs.Partition.{Prepared}
use Rattle.salt_commit.specs.Stores.{Generation, IsSound, IsStore, decided_by, last_boot, last_decision, reading}
use Rattle.salt_commit.specs.declared.store.Store.{Store}
use Rattle.salt_bytes.specs.Generations.{WhichLog}
use Rattle.salt_devices.proofs.Stores.{held_boot, held_decisions, logs_of_store, one_fresh}
use Rattle.salt_devices.proofs.Kept.{none_of_boot}
use Rattle.law_generations.specs.AsIf.{IsNewName}
use Rattle.salt_devices.specs.Holding.{IsHeld, IsNewTo}
use Rattle.salt_disk.specs.Disks.{SameShape, View}
use Rattle.salt_model.specs.Kept.{Definition, Kept}
use Rattle.salt_model.specs.Words.{Every}
use Rattle.salt_stands.proofs.Booleans.{left, right}
use Rattle.salt_stands.specs.Coordinator.{Coordinator, is_sound_cont, is_sound_decision, unit_of}
use Rattle.salt_stands.specs.OpenConts.{conts_of_move}
use Rattle.salt_bytes.specs.Conts.{move_in}
use Rattle.salt_stands.specs.Partition.{are_there, is_format_under, is_sound_change, is_sound_prepared}
use Rattle.salt_stands.specs.Pieces.{PartView, with_boot}
use Rattle.salt_stands.specs.Stands.{Found, are_spent}
use Rattle.salt_stands.specs.Words.{has_bit}
use Rattle.salt_values.specs.declared.id.Id.{Id}
use Rattle.salt_place.specs.declared.placement.Shape.{Shape}
use Rattle.std.proofs.Common.{Bool, IsTrue, List, [], ap, arith, false, refl, sym, true, ℕ, ◌+◌, ◌<◌, ◌^◌, ◌≡◌, ◌≤◌, ◌∙◌, ◌∷◌}
use Rattle.std.proofs.lemmas.Bool.Decides.{nat_tests}
use Rattle.std.specs.List.{filter, list_all}
use Rattle.std.specs.Prelude.{if◌then◌else◌, map, nat_le, ◌&&◌, ◌||◌}

le_true : (a b : ℕ) → nat_le a b ≡ true → a ≤ b
le_true a b h = grind (arith, nat_tests)

pub not_spent : (boot decisions : ℕ) → are_spent boot decisions ≡ false → boot < 2 ^ 63
not_spent boot decisions h = by (nat_le (2 ^ 63) boot) refl h
  where
    by : (b : Bool) → nat_le (2 ^ 63) boot ≡ b → (b || nat_le (2 ^ 63) decisions) ≡ false → boot < 2 ^ 63
    by true is e = absurd cc
    by false is e = grind (arith, nat_tests)

module _ (c : Coordinator Definition) where
  prepared_before : (p : ℕ) (ps : List Prepared) → list_all (is_sound_prepared reading c p) ps ≡ true → Every (λ (u : Id). u.boot ≤ c.log.told.boot) (map (λ prepared. prepared.unit) ps)
  prepared_before p [] h = tt
  prepared_before p (x ∷ ps) h = (
    le_true x.unit.boot c.log.told.boot (left (nat_le x.unit.boot c.log.told.boot) (list_all (is_sound_change reading c p) x.changes) (left (is_sound_prepared reading c p x) (list_all (is_sound_prepared reading c p) ps) h)),
    prepared_before p ps (right (is_sound_prepared reading c p x) (list_all (is_sound_prepared reading c p) ps) h),
  )

  decided_before : (p : ℕ) (ds : List Decision) → list_all (is_sound_decision reading c.definitions c.log.told c.log.header.format) ds ≡ true → Every (λ (u : Id). u.boot ≤ c.log.told.boot) (map unit_of (filter (λ d. has_bit d.mask p) ds))
  decided_before p [] h = tt
  decided_before p (d ∷ ds) h =
      let sound = is_sound_decision reading c.definitions c.log.told c.log.header.format in
      by (has_bit d.mask p) (le_true d.unit.boot c.log.told.boot (left (nat_le d.unit.boot c.log.told.boot) (list_all (is_sound_cont reading c.definitions c.log.told) (conts_of_move (move_in c.log.header.format d.move))) (left (sound d) (list_all sound ds) h)))
      (decided_before p ds (right (sound d) (list_all sound ds) h))
    where
      by : (b : Bool) → d.unit.boot ≤ c.log.told.boot → Every (λ (u : Id). u.boot ≤ c.log.told.boot) (map unit_of (filter (λ d. has_bit d.mask p) ds))
          → Every (λ (u : Id). u.boot ≤ c.log.told.boot) (map unit_of (if b then d ∷ filter (λ d. has_bit d.mask p) ds else filter (λ d. has_bit d.mask p) ds))
      by true one more = (one, more)
      by false one more = more

  pub later_is_fresh : (v : ℕ → PartView) → IsSound reading c v → (u : Id) → c.log.told.boot < u.boot → IsNewName c v u
  later_is_fresh v s u later = record {
    fresh = λ p low.
        let log = (v p).log in
        let prepared = list_all (is_sound_prepared reading c p) log.prepared in
        let there = are_there (decided_by c p) log in
        none_of_boot u c.log.told.boot later (map (λ prepared. prepared.unit) log.prepared)
        (prepared_before p log.prepared (right there prepared (right (is_format_under c.log.header.format log.header.format) (there && prepared) (s.part p low))));
    new = λ p low. none_of_boot u c.log.told.boot later (decided_by c p) (decided_before p c.log.told.decided s.coordinator.decided);
  }

module _ (d : View) (shape : Shape) (x : Store) (k : Kept) (h : IsHeld d shape x k) where
  pub boot_is : last_boot x ≡ k.boot
  boot_is = h.is.decisions.holds.boot ∙ held_boot d shape x k h

  pub decision_is : last_decision x ≡ k.decisions
  decision_is = h.is.decisions.holds.decisions ∙ held_decisions d shape x k h

-- a unit of the boot that is begun, in another generation
module _ (d e : View) (x y : Store) (which : WhichLog) (c : Coordinator Definition) (v : ℕ → PartView) (was : IsStore reading d x which c v) (same : SameShape d e) (g : Generation c v) where
  pub boot_new : IsStore reading e y g.which (with_boot g.coordinator) g.views → (u : Id) → u.boot ≡ last_boot x + 1 → IsNewTo e u
  boot_new is u at told b t also =
      let before : IsTrue d.told = sym same.told ∙ told in
      let later : c.log.told.boot < u.boot = omega (arith, at, was.decisions.holds.boot) in
      let f = g.as_if.names u (later_is_fresh c v (was.sound before) u later) in
      one_fresh e (with_boot g.coordinator) b g.views t (logs_of_store e y g.which (with_boot g.coordinator) g.views is told) also u (record { fresh = f.fresh; new = f.new })

  -- and its number is the next one
  pub boot_counted : IsStore reading e y g.which (with_boot g.coordinator) g.views → last_boot y ≡ last_boot x + 1
  boot_counted is = is.decisions.holds.boot ∙ ap (λ (f : Found Definition). f.kept.boot + 1) g.as_if.found ∙ ap (λ n. n + 1) (sym was.decisions.holds.boot)
