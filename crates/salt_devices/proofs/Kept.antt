-- What may be kept stays so behind a boot, and names that no entry has.
use Rattle.salt_model.specs.Kept.{Kept}
use Rattle.salt_model.specs.Words.{Every}
use Rattle.salt_values.specs.Id.{has_id}
use Rattle.salt_storage.specs.Storing.{IsSoundKept, booted}
use Rattle.salt_values.specs.declared.cont.Cont.{Cont}
use Rattle.salt_values.specs.declared.id.Id.{Id}
use Rattle.std.proofs.Common.{Bool, List, [], ap, arith, false, refl, true, ℕ, ◌+◌, ◌<◌, ◌≡◌, ◌≤◌, ◌∙◌, ◌∷◌}
use Rattle.std.proofs.lemmas.Bool.Decides.{Decides-eqb}
use Rattle.std.specs.Prelude.{◌&&◌, ◌==◌, ◌||◌}

boots_later : (n : ℕ) (cs : List Cont) → Every (λ (c : Cont). c.base.boot ≤ n) cs → Every (λ (c : Cont). c.base.boot ≤ n + 1) cs
boots_later n [] h = tt
boots_later n (c ∷ cs) h = (omega (arith, h.0), boots_later n cs h.1)

pub booted_sound : (k : Kept) → IsSoundKept k → IsSoundKept (booted k)
booted_sound k s = record {
  typed = record { tables = s.typed.tables; programs = s.typed.programs; rows = s.typed.rows; conts = s.typed.conts };
  well = record { boots = boots_later k.boot k.conts s.well.boots; accepted = s.well.accepted; defined = s.well.defined; tries = s.well.tries };
  rise = s.rise;
  spelled = s.spelled;
}

-- a unit of a later boot is none of those before
pub none_of_boot : (u : Id) (n : ℕ) → n < u.boot → (us : List Id) → Every (λ (w : Id). w.boot ≤ n) us → has_id u us ≡ false
none_of_boot u n later [] h = refl
none_of_boot u n later (w ∷ us) h =
    let apart : (u.boot == w.boot) ≡ false = differ (u.boot == w.boot) refl in
    ap (λ b. (b && (u.seq == w.seq)) || has_id u us) apart ∙ none_of_boot u n later us h.1
  where
    differ : (b : Bool) → (u.boot == w.boot) ≡ b → b ≡ false
    differ true e = let same : u.boot ≡ w.boot = (Decides-eqb u.boot w.boot).0 e in absurd (omega (arith, same, later, h.0))
    differ false e = refl
