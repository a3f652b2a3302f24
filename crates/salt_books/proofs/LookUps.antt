-- Units that are looked up among those that are held.
use Rattle.salt_books.specs.Held.{seen}
use Rattle.salt_books.specs.Names.{has_name}
use Rattle.salt_books.specs.declared.held.Held.{Held}
use Rattle.law_states.specs.OpenUnits.{OpenUnit, names_in, unit_named}
use Rattle.law_states.specs.Readings.{first_parts}
use Rattle.law_story.proofs.Ids.{is_same_id-true}
use Rattle.law_story.proofs.NextFits.{find-in}
use Rattle.salt_model.specs.Units.{program_begun}
use Rattle.salt_values.specs.Id.{is_same_id}
use Rattle.salt_values.specs.declared.id.Id.{Id}
use Rattle.std.proofs.Common.{ap, arith, subst, sym, ◌∙◌}
use Rattle.std.proofs.lemmas.Bool.Decides.{nat_tests}
use Rattle.std.specs.List.{cons_option, filter_map, find, position, position_or_len}
use Rattle.std.specs.Prelude.{Bool, IsSome, List, None, Option, Some, [], cond, get_or, length, map, nat_lt, not, option_map, refl, suc, true, false, ℕ, ◌+◌, ◌∷◌, ◌≡◌}

pub find-seen : (p : OpenUnit → Bool) (hs : List Held) → option_map seen (find (λ (h : Held). p (seen h)) hs) ≡ find p (map seen hs)
find-seen p [] = refl
find-seen p (h ∷ hs) = by (p (seen h)) (find-seen p hs)
  where
    by : (b : Bool) → option_map seen (find (λ (h : Held). p (seen h)) hs) ≡ find p (map seen hs) →
        option_map seen (cond b (Some h) (find (λ (h : Held). p (seen h)) hs)) ≡ cond b (Some (seen h)) (find p (map seen hs))
    by true more = refl
    by false more = more

absent : {A : Type 0} (p : A → Bool) (xs : List A) → nat_lt (position_or_len p xs) (length xs) ≡ false → find p xs ≡ None
absent p [] h = refl
absent {A = A} p (x ∷ xs) h = by (p x) (absent p xs) h
  where
    by : (t : Bool) → (nat_lt (position_or_len p xs) (length xs) ≡ false → find p xs ≡ None) →
        nat_lt (cond (not t) (1 + position_or_len p xs) 0) (suc (length xs)) ≡ false → cond t (Some x) (find p xs) ≡ None
    by true more h = absurd (grind (arith, nat_tests))
    by false more h = more (grind (arith, nat_tests))

-- what has no place is not there
pub none-found : {A : Type 0} (p : A → Bool) (xs : List A) → position p xs ≡ None → find p xs ≡ None
none-found p xs h = absent p xs (by (nat_lt (position_or_len p xs) (length xs)) h)
  where
    by : (t : Bool) → cond t (Some (position_or_len p xs)) None ≡ None → t ≡ false
    by false e = refl
    by true e = absurd (cc)

-- a search by name
module _ (u : Id) (hs : List Held) where
  pub named : (at : ℕ) (d : Held) → find (has_name u) hs ≡ Some (get_or hs at d) → (get_or hs at d).open.unit ≡ u
  named at d e = is_same_id-true (get_or hs at d).open.unit u (find-in (has_name u) (get_or hs at d) hs e).1

  -- one that is open is held
  pub there : (is : List Held) (os : List OpenUnit) → is ≡ hs → map seen hs ≡ os → IsSome (unit_named u os) → IsSome (find (has_name u) is)
  there is os items same some = by (find (has_name u) is)
      (subst IsSome (sym (ap (λ l. option_map seen (find (has_name u) l)) items ∙ find-seen (λ (o : OpenUnit). is_same_id o.unit u) hs ∙ ap (unit_named u) same)) some)
    where
      by : (o : Option Held) → IsSome (option_map seen o) → IsSome o
      by (Some h) it = it
      by None it = it

pub names-seen : (hs : List Held) → map (λ (h : Held). (seen h).unit) hs ≡ names_in (map seen hs)
names-seen [] = refl
names-seen (h ∷ hs) = ap (λ l. h.open.unit ∷ l) (names-seen hs)

pub parts-seen : (hs : List Held) → filter_map (λ (h : Held). program_begun (seen h).kind) hs ≡ first_parts (map seen hs)
parts-seen [] = refl
parts-seen (h ∷ hs) = ap (λ l. cons_option (program_begun h.kind) l) (parts-seen hs)
