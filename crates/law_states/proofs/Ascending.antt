-- Lists that ascend and have the same members are equal; so `in_order` tells lists by their members.
use Rattle.law_states.specs.Members.{Ascends, In}
use Rattle.law_story.proofs.Lists.{either, in-order, into-order}
use Rattle.law_story.proofs.Sound.{older-not}
use Rattle.salt_model.specs.Words.{Every}
use Rattle.salt_values.specs.Id.{has_id, in_order, insert_id}
use Rattle.salt_values.specs.Id.{is_older, is_same_id}
use Rattle.salt_values.specs.declared.id.Id.{Id}
use Rattle.std.proofs.Common.{arith, inl, inr, subst, sym, ◌∙◌}
use Rattle.std.proofs.lemmas.Bool.Decides.{nat_tests}
use Rattle.std.specs.Prelude.{Bool, List, [], cond, false, refl, true, ◌++◌, ◌||◌, ◌∷◌, ◌≡◌}

pub every-in : {A : Type 0} (P : A → Type 0) (x : A) (xs : List A) → Every P xs → In x xs → P x
every-in P x [] h i = absurd i
every-in P x (y ∷ ys) h (inl e) = subst P e h.0
every-in P x (y ∷ ys) h (inr i) = every-in P x ys h.1 i

-- an order in which nothing stands before itself
pub record Strict {A : Type 0} (R : A → A → Type 0) : Type 0 where
  pub not_self : (x : A) → R x x → ⊥
  pub through : (x y z : A) → R x y → R y z → R x z

pub same-ascending : {A : Type 0} (R : A → A → Type 0) → Strict R → (xs ys : List A) → Ascends R xs → Ascends R ys → ((x : A) → In x xs → In x ys) →
    ((x : A) → In x ys → In x xs) → xs ≡ ys
same-ascending R s [] [] a b f g = refl
same-ascending R s [] (y ∷ ys) a b f g = absurd (g y (inl refl))
same-ascending R s (x ∷ xs) [] a b f g = absurd (f x (inl refl))
same-ascending {A} R s (x ∷ xs) (y ∷ ys) a b f g =
    λ i. head i ∷ same-ascending R s xs ys a.1 b.1 (λ z h. over z h (f z (inr h))) (λ z h. back z h (g z (inr h))) i
  where
    head : x ≡ y
    head =
        either (λ e. sym e) (λ i. either (λ e. e) (λ j. absurd (s.not_self x (s.through x y x (every-in (R x) y xs a.0 j) (every-in (R y) x ys b.0 i)))) (g y (inl refl))) (f x (inl refl))

    over : (z : A) → In z xs → In z (y ∷ ys) → In z ys
    over z h (inl e) = absurd (s.not_self x (subst (R x) (sym (head ∙ e)) (every-in (R x) z xs a.0 h)))
    over z h (inr i) = i

    back : (z : A) → In z ys → In z (x ∷ xs) → In z xs
    back z h (inl e) = absurd (s.not_self y (subst (R y) (sym (sym head ∙ e)) (every-in (R y) z ys b.0 h)))
    back z h (inr i) = i

-- names in their order
abbrev pub Older : Id → Id → Type 0
Older a b = is_older a b ≡ true

older-through : (a b c : Id) → is_older a b ≡ true → is_older b c ≡ true → is_older a c ≡ true
older-through a b c h g = grind (arith, nat_tests)

pub older-strict : Strict Older
older-strict = record { not_self = older-not; through = older-through }

older-total : (a b : Id) → is_older a b ≡ false → is_same_id a b ≡ false → is_older b a ≡ true
older-total a b h g = grind (arith, nat_tests)

every-older : (u v : Id) (us : List Id) → Older u v → Every (Older v) us → Every (Older u) us
every-older u v [] h e = tt
every-older u v (w ∷ us) h e = (older-through u v w h e.0, every-older u v us h e.1)

every-put : (v u : Id) (us : List Id) → Older v u → Every (Older v) us → Every (Older v) (insert_id u us)
every-put v u [] o h = (o, tt)
every-put v u (w ∷ us) o h = by (is_older u w) (is_same_id u w) (every-put v u us o h.1)
  where
    by : (a b : Bool) → Every (Older v) (insert_id u us) → Every (Older v) (cond a (u ∷ w ∷ us) (cond b (w ∷ us) (w ∷ insert_id u us)))
    by true b more = (o, h)
    by false true more = h
    by false false more = (h.0, more)

insert-ascends : (u : Id) (us : List Id) → Ascends Older us → Ascends Older (insert_id u us)
insert-ascends u [] h = (tt, tt)
insert-ascends u (v ∷ us) h = by (is_older u v) refl (is_same_id u v) refl (insert-ascends u us h.1)
  where
    by : (a : Bool) → is_older u v ≡ a → (b : Bool) → is_same_id u v ≡ b → Ascends Older (insert_id u us) →
        Ascends Older (cond a (u ∷ v ∷ us) (cond b (v ∷ us) (v ∷ insert_id u us)))
    by true e b f more = ((e, every-older u v us e h.0), h)
    by false e true f more = h
    by false e false f more = (every-put v u us (older-total u v e f) h.0, more)

pub order-ascends : (us : List Id) → Ascends Older (in_order us)
order-ascends [] = tt
order-ascends (u ∷ us) = insert-ascends u (in_order us) (order-ascends us)

-- lists with the same members are the same in order
pub in_order-same : (us vs : List Id) → ((x : Id) → In x us → In x vs) → ((x : Id) → In x vs → In x us) → in_order us ≡ in_order vs
in_order-same us vs f g =
    same-ascending Older older-strict (in_order us) (in_order vs) (order-ascends us) (order-ascends vs)
    (λ x i. into-order x vs (f x (in-order x us i))) (λ x i. into-order x us (g x (in-order x vs i)))

-- a list that ascends is in order already
pub order-of-ascending : (us vs : List Id) → Ascends Older us → ((x : Id) → In x us → In x vs) → ((x : Id) → In x vs → In x us) → us ≡ in_order vs
order-of-ascending us vs a f g =
    same-ascending Older older-strict us (in_order vs) a (order-ascends vs) (λ x i. into-order x vs (f x i)) (λ x i. g x (in-order x vs i))

pub has-append : (b : Id) (us vs : List Id) → has_id b (us ++ vs) ≡ (has_id b us || has_id b vs)
has-append b [] vs = refl
has-append b (u ∷ us) vs = by (is_same_id b u) (has-append b us vs)
  where
    by : (x : Bool) → has_id b (us ++ vs) ≡ (has_id b us || has_id b vs) → (x || has_id b (us ++ vs)) ≡ ((x || has_id b us) || has_id b vs)
    by true e = refl
    by false e = e
