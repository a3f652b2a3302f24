-- What a call gives, by whether it is an error.
use Rattle.salt_promise.specs.declared.status.Status.TheVariants.{Done}
use Rattle.salt_loop.specs.Stopping.{outcome}
use Rattle.salt_loop.specs.declared.stop.Stop.{Stop}
use Rattle.std.specs.Prelude.{Err, Ok, Result, refl, ◌≡◌}
use Rattle.std.specs.Result.{IfErr, OnOk}

-- what is no error is done
pub was-ok : {T E : Type 0} (r : Result T E) (P : Type 0) → ((e : E) → r ≡ Err e → ⊥) → OnOk r P → P
was-ok (Ok x) P not h = h
was-ok (Err e) P not h = absurd (not e refl)

pub done-outcome : {T : Type 0} (r : Result T Stop) → ((e : Stop) → r ≡ Err e → ⊥) → outcome r ≡ Done
done-outcome (Ok x) not = refl
done-outcome (Err e) not = absurd (not e refl)

-- whatever it is asked of
module _ {T E : Type 0} (A B : Type 0) (Q : A → B → Type 0) where
  pub ok-for-all : (r : Result T E) (P : A → B → Type 0) → ((a : A) (b : B) → Q a b → OnOk r (P a b)) → OnOk r ((a : A) (b : B) → Q a b → P a b)
  ok-for-all (Ok x) P f = f
  ok-for-all (Err e) P f = tt

  pub err-for-all : (r : Result T E) (P : A → B → E → Type 0) → ((a : A) (b : B) → Q a b → IfErr r (P a b)) → IfErr r (λ e. (a : A) (b : B) → Q a b → P a b e)
  err-for-all (Ok x) P f = tt
  err-for-all (Err e) P f = f
