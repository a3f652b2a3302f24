-- Whatever devices hold, they open or are refused.
use Rattle.law_definitions.specs.Texts.{definition_in}
use Rattle.salt_commit.proofs.Opening.{of_log, same_shape_is}
use Rattle.salt_commit.specs.Stores.{reading}
use Rattle.salt_stands.specs.Fitting.{kept_in}
use Rattle.salt_devices.proofs.Answered.{IsNothing, IsOpened, opened_as, opened_stands}
use Rattle.salt_devices.proofs.Sound.{well}
use Rattle.salt_devices.specs.Leaving.{StandsFor}
use Rattle.salt_devices.specs.Refusing.{RefusedAs}
use Rattle.salt_model.specs.Kept.{Definition, WellKept}
use Rattle.salt_promise.specs.Standing.{IsReader, OpenAs}
use Rattle.salt_stands.specs.Stands as opening
use Rattle.salt_stands.specs.Stands.{Found, Opening, Stands, found_with, opening_of}
use Rattle.salt_storage.specs.Answers.{IsRefusal}
use Rattle.salt_storage.specs.OpenErr.TheVariants.{NotSalt, NumbersSpent, OtherShape}
use Rattle.salt_storage.specs.OpenErr.{OpenErr}
use Rattle.salt_place.specs.declared.placement.Shape.{Shape}
use Rattle.std.proofs.Common.{ap, inl, inr, subst, sym, ◌∙◌}
use Rattle.std.specs.Prelude.{List, refl, ℕ, ◌≡◌, ◌⊎◌}

-- THE ANSWER

-- they open
pub record OpensHere (shape : Shape) (bytes : ℕ → List ℕ) : Type 0 where
  pub found : Found Definition
  pub opens : opening_of reading bytes shape ≡ Stands found

-- or are refused
pub record RefusedHere (shape : Shape) (bytes : ℕ → List ℕ) : Type 0 where
  pub refusal : OpenErr
  pub some : IsRefusal refusal
  pub is : RefusedAs shape bytes refusal

module _ (shape : Shape) (bytes : ℕ → List ℕ) where
  pub answered : OpensHere shape bytes ⊎ RefusedHere shape bytes
  answered = by (opening_of reading bytes shape) refl
    where
      by : (o : Opening Definition) → opening_of reading bytes shape ≡ o → OpensHere shape bytes ⊎ RefusedHere shape bytes
      by (Stands found) is = inl (record { found = found; opens = is })
      by (opening.NotSalt dev) is = inr (record { refusal = NotSalt dev; some = tt; is = is })
      by (opening.OtherShape kept asked) is = inr (record { refusal = OtherShape kept asked; some = tt; is = is })
      by (opening.NumbersSpent boot decisions) is = inr (record { refusal = NumbersSpent boot decisions; some = tt; is = is })

  -- what opens stands for that
  shaped-as : (found : Found Definition) → IsNothing bytes shape found ⊎ IsOpened bytes shape found → found.shape ≡ shape
  shaped-as found (inl none) = ap (λ (f : Found Definition). f.shape) (sym none.is)
  shaped-as found (inr k) = ap (λ (f : Found Definition). f.shape) (sym k.counted.is) ∙ same_shape_is k.counted.c.log.header.shape shape k.same

  pub stands-here : (h : OpensHere shape bytes) → StandsFor shape bytes (kept_in h.found)
  stands-here h = record {
    found = h.found;
    is = opened_stands bytes shape h.found h.opens;
    has_shape = shaped-as h.found (opened_as bytes shape h.found h.opens);
    keeps = refl;
  }

  pub opens-here : IsReader definition_in → (h : OpensHere shape bytes) → OpenAs shape bytes (kept_in h.found)
  opens-here reads h = record {
    found = h.found;
    answers = record { read = definition_in; reads = reads; is = h.opens };
    keeps = refl;
  }

  well-as : (found : Found Definition) → IsNothing bytes shape found ⊎ IsOpened bytes shape found → WellKept (kept_in found)
  well-as found (inl none) = subst (λ (f : Found Definition). WellKept (kept_in f)) none.is (record { boots = tt; accepted = tt; defined = tt; tries = tt })
  well-as found (inr k) =
      subst (λ (f : Found Definition). WellKept (kept_in f)) k.counted.is
      (well k.counted.c (of_log k.counted.log k.counted.c k.counted.reads).is (kept_in (found_with k.counted.c k.counted.parts)) refl refl refl refl)

  pub well-here : (h : OpensHere shape bytes) → WellKept (kept_in h.found)
  well-here h = well-as h.found (opened_as bytes shape h.found h.opens)
