-- The greatest of some names.
use Rattle.law_story.proofs.Lists.{In}
use Rattle.law_story.proofs.NextFits.{greatest-in}
use Rattle.salt_model.specs.Words.{greatest}
use Rattle.salt_values.specs.Id.{is_older}
use Rattle.salt_values.specs.declared.id.Id.{Id}
use Rattle.salt_waits.proofs.Orders.{not_younger}
use Rattle.std.proofs.Common.{⊎_elim, if◌then◌else◌, Bool, IsTrue, List, None, Option, Some, [], ap, arith, cond, false, inl, inr, refl, subst, sym, true, ◌∷◌, ◌≡◌, ◌⊎◌}
use Rattle.std.proofs.lemmas.Bool.Decides.{nat_tests}

greatest_of_none : (us : List Id) → greatest us ≡ None → us ≡ []
greatest_of_none [] h = refl
greatest_of_none (u ∷ us) h = by (greatest us) h
  where
    by : (o : Option Id) → ◌≡◌ {A = Option Id} (elim o [ None ↦ Some u | Some v ↦ Some (if is_older u v then v else u) ]) None → u ∷ us ≡ []
    by None e = cc
    by (Some v) e = cc

-- no name is younger than the greatest
none_younger : (us : List Id) (g n : Id) → greatest us ≡ Some g → In n us → is_older g n ≡ false
none_younger [] g n is h = absurd h
none_younger (u ∷ us) g n is h = by (greatest us) refl (λ y e i. none_younger us y n e i) is h
  where
    not_older_itself : (x : Id) → is_older x x ≡ false
    not_older_itself x = grind (arith, nat_tests)

    older_still : (x y z : Id) → is_older x y ≡ false → is_older y z ≡ false → is_older x z ≡ false
    older_still x y z a b = grind (arith, nat_tests)

    not_both_older : (x y : Id) → is_older x y ≡ true → is_older y x ≡ false
    not_both_older x y a = grind (arith, nat_tests)

    pick : (y : Id) → (In n us → is_older y n ≡ false) → (b : Bool) → is_older u y ≡ b → cond b y u ≡ g → In n (u ∷ us) → is_older g n ≡ false
    pick y more true o s (inl e) = subst (λ x. is_older x n ≡ false) s (subst (λ x. is_older y x ≡ false) e (not_both_older u y o))
    pick y more true o s (inr i) = subst (λ x. is_older x n ≡ false) s (more i)
    pick y more false o s (inl e) = subst (λ x. is_older x n ≡ false) s (subst (λ x. is_older u x ≡ false) e (not_older_itself u))
    pick y more false o s (inr i) = subst (λ x. is_older x n ≡ false) s (older_still u y n o (more i))

    by : (o : Option Id) → greatest us ≡ o → ((y : Id) → greatest us ≡ Some y → In n us → is_older y n ≡ false) →
        ◌≡◌ {A = Option Id} (elim o [ None ↦ Some u | Some y ↦ Some (if is_older u y then y else u) ]) (Some g) → In n (u ∷ us) → is_older g n ≡ false
    by None e more s (inl same) = subst (λ x. is_older x n ≡ false) (let t : u ≡ g = cc s in t) (subst (λ x. is_older u x ≡ false) same (not_older_itself u))
    by None e more s (inr i) = absurd (subst (In n) (greatest_of_none us e) i)
    by (Some y) e more s h = pick y (more y e) (is_older u y) refl (cc s) h

-- a name of the list that no name is younger than is the greatest
pub is_greatest : (us : List Id) (n : Id) → In n us → ((m : Id) → In m us → is_older n m ≡ false) → greatest us ≡ Some n
is_greatest us n h oldest = by (greatest us) refl
  where
    by : (o : Option Id) → greatest us ≡ o → o ≡ Some n
    by None e = absurd (subst (In n) (greatest_of_none us e) h)
    by (Some g) e = ⊎_elim (λ older. absurd (let no = oldest g (greatest-in g us e) in cc (no, older))) (λ same. ap Some (sym same)) (not_younger n g (none_younger us g n e h))

pub greatest_none : (us : List Id) → ((n : Id) → In n us → ⊥) → greatest us ≡ None
greatest_none [] none = refl
greatest_none (u ∷ us) none = absurd (none u (inl refl))

-- a name that is older than another, or is it, is not younger
pub older_or_same : (a b : Id) → IsTrue (is_older a b) ⊎ (a ≡ b) → is_older b a ≡ false
older_or_same a b (inl older) = not_both a b older
  where
    not_both : (a b : Id) → is_older a b ≡ true → is_older b a ≡ false
    not_both a b h = grind (arith, nat_tests)
older_or_same a b (inr same) = subst (λ x. is_older x a ≡ false) same (itself a)
  where
    itself : (a : Id) → is_older a a ≡ false
    itself a = grind (arith, nat_tests)
