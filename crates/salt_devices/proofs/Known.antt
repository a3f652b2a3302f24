-- How an opening may fail where it is known what stands there.
use Rattle.salt_commit.specs.Stores.{reading}
use Rattle.salt_devices.proofs.Answered.{AreSpent, judged_opens}
use Rattle.salt_devices.specs.Leaving.{StandsFor}
use Rattle.salt_devices.specs.Refusing.{RefusedAs}
use Rattle.salt_model.specs.Kept.{Kept}
use Rattle.salt_stands.specs.Stands as opening
use Rattle.salt_stands.specs.Stands.{are_spent, opening_of}
use Rattle.salt_devices.specs.Remembering.{MayTell}
use Rattle.salt_storage.specs.OpenErr.TheVariants as open_err
use Rattle.salt_storage.specs.OpenErr.TheVariants.{NotSalt, NumbersSpent, OtherShape}
use Rattle.salt_storage.specs.OpenErr.{OpenErr}
use Rattle.salt_place.specs.declared.placement.Shape.{Shape}
use Rattle.std.proofs.Common.{List, ap, inl, inr, sym, ℕ, ◌≡◌, ◌⊎◌, ◌∙◌}

-- by spent numbers alone, or halted
pub stands_fails : (shape : Shape) (bytes : ℕ → List ℕ) (a b : Kept) (e : OpenErr) → StandsFor shape bytes a → RefusedAs shape bytes e → MayTell a b e
stands_fails shape bytes a b e s = by e (judged_opens bytes shape s.found s.is s.has_shape)
  where
    by : (e : OpenErr) → (opening_of reading bytes shape ≡ opening.Stands s.found) ⊎ AreSpent bytes shape s.found → RefusedAs shape bytes e → MayTell a b e
    by (NotSalt dev) (inl opens) is = let both : opening.Stands s.found ≡ opening.NotSalt dev = sym opens ∙ is in cc both
    by (NotSalt dev) (inr sp) is = let both : opening.NumbersSpent s.found.kept.boot s.found.kept.decisions ≡ opening.NotSalt dev = sym sp.opens ∙ is in cc both
    by (OtherShape kept asked) (inl opens) is = let both : opening.Stands s.found ≡ opening.OtherShape kept asked = sym opens ∙ is in cc both
    by (OtherShape kept asked) (inr sp) is = let both : opening.NumbersSpent s.found.kept.boot s.found.kept.decisions ≡ opening.OtherShape kept asked = sym sp.opens ∙ is in cc both
    by (NumbersSpent boot decisions) (inl opens) is = let both : opening.Stands s.found ≡ opening.NumbersSpent boot decisions = sym opens ∙ is in absurd (cc both)
    by (NumbersSpent boot decisions) (inr sp) is =
        let both : opening.NumbersSpent s.found.kept.boot s.found.kept.decisions ≡ opening.NumbersSpent boot decisions = sym sp.opens ∙ is in
        let same_boot : s.found.kept.boot ≡ boot = cc both in
        let same_decisions : s.found.kept.decisions ≡ decisions = cc both in (
          ap (λ n. are_spent n decisions) (sym same_boot) ∙ ap (are_spent s.found.kept.boot) (sym same_decisions) ∙ sp.spent,
          inl (sym same_boot ∙ ap (λ (k : Kept). k.boot) s.keeps, sym same_decisions ∙ ap (λ (k : Kept). k.decisions) s.keeps),
        )
    by open_err.Failed o is = tt
    by open_err.Stopped o is = tt
    by (open_err.Full dev) o is = tt
    by open_err.Memory o is = tt
