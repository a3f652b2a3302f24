-- What holds of every element of a list, or of what an option or a result has.
use Rattle.salt_model.specs.Statements.{collect}
use Rattle.salt_model.specs.Words.{Every, and_then}
use Rattle.salt_model.specs.declared.events.Cause.{Cause}
use Rattle.std.specs.List.{cons_option, filter}
use Rattle.std.specs.Prelude.{Bool, Err, List, None, Ok, Option, Result, Some, [], cond, false, refl, true, ⊤, ◌++◌, ◌∷◌, ◌≡◌}

pub every-map : {A : Type 0} (P Q : A → Type 0) → ((x : A) → P x → Q x) → (xs : List A) → Every P xs → Every Q xs
every-map P Q f [] h = tt
every-map P Q f (x ∷ xs) h = (f x h.0, every-map P Q f xs h.1)

pub every-append : {A : Type 0} (P : A → Type 0) (xs ys : List A) → Every P xs → Every P ys → Every P (xs ++ ys)
every-append P [] ys h g = g
every-append P (x ∷ xs) ys h g = (h.0, every-append P xs ys h.1 g)

pub every-left : {A : Type 0} (P : A → Type 0) (xs ys : List A) → Every P (xs ++ ys) → Every P xs
every-left P [] ys h = tt
every-left P (x ∷ xs) ys h = (h.0, every-left P xs ys h.1)

pub every-right : {A : Type 0} (P : A → Type 0) (xs ys : List A) → Every P (xs ++ ys) → Every P ys
every-right P [] ys h = h
every-right P (x ∷ xs) ys h = every-right P xs ys h.1

pub every-all : {A : Type 0} (P : A → Type 0) → ((x : A) → P x) → (xs : List A) → Every P xs
every-all P f [] = tt
every-all P f (x ∷ xs) = (f x, every-all P f xs)

pub every-passes : {A : Type 0} (p : A → Bool) (xs : List A) → Every (λ x. p x ≡ true) (filter p xs)
every-passes p [] = tt
every-passes p (x ∷ xs) = by (p x) refl (every-passes p xs)
  where
    by : (b : Bool) → p x ≡ b → Every (λ x. p x ≡ true) (filter p xs) → Every (λ x. p x ≡ true) (cond b (x ∷ filter p xs) (filter p xs))
    by true e more = (e, more)
    by false e more = more

pub every-filter : {A : Type 0} (P : A → Type 0) (p : A → Bool) (xs : List A) → Every P xs → Every P (filter p xs)
every-filter P p [] h = tt
every-filter P p (x ∷ xs) h = by (p x) (every-filter P p xs h.1)
  where
    by : (b : Bool) → Every P (filter p xs) → Every P (cond b (x ∷ filter p xs) (filter p xs))
    by true more = (h.0, more)
    by false more = more

abbrev pub IfSome : {A : Type 0} → (A → Type 0) → Option A → Type 0
IfSome P None = ⊤
IfSome P (Some x) = P x

abbrev pub IfOk : {A : Type 0} → (A → Type 0) → Result A Cause → Type 0
IfOk P (Err c) = ⊤
IfOk P (Ok x) = P x

pub ok-bind : {A B : Type 0} (P : B → Type 0) (r : Result A Cause) (f : A → Result B Cause) → IfOk (λ x. IfOk P (f x)) r → IfOk P (and_then r f)
ok-bind P (Err c) f h = tt
ok-bind P (Ok x) f h = h

pub ok-all : {A : Type 0} (P : A → Type 0) (r : Result A Cause) → ((x : A) → P x) → IfOk P r
ok-all P (Err c) f = tt
ok-all P (Ok x) f = f x

pub ok-map : {A : Type 0} (P Q : A → Type 0) (r : Result A Cause) → ((x : A) → P x → Q x) → IfOk P r → IfOk Q r
ok-map P Q (Err c) f h = tt
ok-map P Q (Ok x) f h = f x h

pub every-collect : {A B : Type 0} (P : A → Type 0) (Q : B → Type 0) (f : A → Result (Option B) Cause) → ((x : A) → P x → IfOk (IfSome Q) (f x)) → (xs : List A) → Every P xs → IfOk (Every Q) (collect f xs)
every-collect P Q f each [] h = tt
every-collect {A} {B} P Q f each (x ∷ xs) h =
    ok-bind (Every Q) (f x) (λ o. and_then (collect f xs) (λ more. Ok (cons_option o more)))
    (ok-map (IfSome Q) (λ o. IfOk (Every Q) (and_then (collect f xs) (λ more. Ok (cons_option o more)))) (f x) (rest (every-collect P Q f each xs h.1)) (each x h.0))
  where
    cons : (o : Option B) (more : List B) → IfSome Q o → Every Q more → Every Q (cons_option o more)
    cons None more s m = m
    cons (Some y) more s m = (s, m)

    rest : IfOk (Every Q) (collect f xs) → (o : Option B) → IfSome Q o → IfOk (Every Q) (and_then (collect f xs) (λ more. Ok (cons_option o more)))
    rest all o s = ok-bind (Every Q) (collect f xs) (λ more. Ok (cons_option o more)) (ok-map (Every Q) (λ more. Every Q (cons_option o more)) (collect f xs) (λ more. cons o more s) all)
