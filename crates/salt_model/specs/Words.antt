-- Small words on lists, names and numbers of units.
use Rattle.salt_values.specs.Id.{in_order, is_older}
use Rattle.salt_values.specs.declared.id.Id.{Id}
use Rattle.std.specs.List.{filter, flat_map, list_all}
use Rattle.std.specs.Prelude.{Bool, Err, List, None, Ok, Option, Result, Some, [], false, if◌then◌else◌, suc, true, zero, ℕ, ◌++◌, ◌∷◌}
-- a fact of each element
pub use Rattle.std.specs.List.{AllByRecursion as Every}

abbrev pub first_of_list : {A : Type 0} → List A → Option A
first_of_list [] = None
first_of_list (x ∷ xs) = Some x

abbrev pub is_empty : {A : Type 0} → List A → Bool
is_empty [] = true
is_empty (x ∷ xs) = false

-- and_then r f: f of what r gives, or r's cause
abbrev pub and_then : {A B E : Type 0} → Result A E → (A → Result B E) → Result B E
and_then (Ok x) f = f x
and_then (Err e) f = Err e

abbrev pub greatest : List Id → Option Id
greatest [] = None
greatest (u ∷ us) = elim (greatest us) [ None ↦ Some u | Some v ↦ Some (if is_older u v then v else u) ]

-- the names, and all to which `next` leads from them in at most that many steps
abbrev pub widened : (Id → List Id) → ℕ → List Id → List Id
widened next zero seen = seen
widened next (suc n) seen = widened next n (in_order (seen ++ flat_map next seen))

-- a list without those that the test on what is left drops, again and again
abbrev pub shrink : {A : Type 0} → (List A → A → Bool) → ℕ → List A → List A
shrink test zero xs = xs
shrink test (suc n) xs = elim (list_all (test xs) xs) [ true ↦ xs | false ↦ shrink test n (filter (test xs) xs) ]
