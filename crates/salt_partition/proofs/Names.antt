-- Names of units put into a set.
use Rattle.salt_codec.specs.declared.prepared.PreparedUnit.{PreparedUnit}
use Rattle.law_story.proofs.Ids.{is_same_id-sym}
use Rattle.salt_values.specs.Id.{has_id}
use Rattle.salt_partition.specs.Contents.{units_of}
use Rattle.salt_stands.specs.Pieces.{is_prepared_in}
use Rattle.salt_values.specs.Id.{is_same_id}
use Rattle.salt_values.specs.Order.{id_cmp}
use Rattle.salt_values.specs.declared.id.Id.{Id}
use Rattle.std.proofs.Common.{Bool, List, [], ap, arith, cond, false, refl, sym, true, ℕ, ◌++◌, ◌≡◌, ◌∙◌, ◌∷◌}
use Rattle.std.proofs.lemmas.Bool.Decides.{nat_tests}
use Rattle.std.proofs.lemmas.List.Folds.{list_any-append}
use Rattle.std.specs.BTreeMap.{is_at}
use Rattle.std.specs.BTreeSet.{BTreeSet}
use Rattle.std.specs.List.{list_any}
use Rattle.std.specs.Ordering.{is_eq, nat_cmp, ordering_then}
use Rattle.std.specs.Prelude.{map, ◌&&◌, ◌==◌, ◌||◌}
use Rattle.std.specs.declared.cmp.Ordering.TheVariants.{Equal, Greater, Less}
use Rattle.std.specs.declared.cmp.Ordering.{Ordering}

tied : (m n : ℕ) → is_eq (nat_cmp m n) ≡ (m == n)
tied m n = grind (arith, nat_tests)

both : (o p : Ordering) → is_eq (ordering_then o p) ≡ (is_eq o && is_eq p)
both Less p = refl
both Equal p = refl
both Greater p = refl

same_at : (a b : Id) → is_eq (id_cmp a b) ≡ is_same_id a b
same_at a b = both (nat_cmp a.boot b.boot) (nat_cmp a.seq b.seq) ∙ (ap (λ t. t && is_eq (nat_cmp a.seq b.seq)) (tied a.boot b.boot) ∙ ap (λ t. (a.boot == b.boot) && t) (tied a.seq b.seq))

pub has_key : (q : Id) (names : List Id) → list_any (is_at (id_cmp q)) names ≡ has_id q names
has_key q [] = refl
has_key q (x ∷ xs) = ap (λ t. t || list_any (is_at (id_cmp q)) xs) (same_at q x) ∙ ap (λ t. is_same_id q x || t) (has_key q xs)

-- a name more in a set, as in a list
pub put_next : (name q : Id) (names : List Id) (old new : BTreeSet Id)
    → ((q : Id) → list_any (is_at (id_cmp q)) new.keys ≡ cond (is_eq (id_cmp name q)) true (list_any (is_at (id_cmp q)) old.keys))
    → has_id q old.keys ≡ has_id q names → has_id q new.keys ≡ has_id q (names ++ name ∷ [])
put_next name q names old new puts same =
    sym (has_key q new.keys) ∙ puts q ∙ ap (λ t. cond t true (list_any (is_at (id_cmp q)) old.keys)) (same_at name q ∙ is_same_id-sym name q)
    ∙ ap (λ b. cond (is_same_id q name) true b) (has_key q old.keys ∙ same) ∙ by (is_same_id q name) (has_id q names)
    ∙ sym (list_any-append (is_same_id q) names (name ∷ []))
  where
    by : (t b : Bool) → cond t true b ≡ (b || (t || false))
    by true true = refl
    by true false = refl
    by false true = refl
    by false false = refl

units_next : (units : List PreparedUnit) (x : PreparedUnit) → map (λ prepared. prepared.unit) (units_of (units ++ x ∷ [])) ≡ map (λ prepared. prepared.unit) (units_of units) ++ x.unit ∷ []
units_next [] x = refl
units_next (y ∷ units) x = ap (λ l. y.unit ∷ l) (units_next units x)

pub prepared_next : (units : List PreparedUnit) (x : PreparedUnit) (q : Id) (old new : BTreeSet Id)
    → ((q : Id) → list_any (is_at (id_cmp q)) new.keys ≡ cond (is_eq (id_cmp x.unit q)) true (list_any (is_at (id_cmp q)) old.keys))
    → has_id q old.keys ≡ is_prepared_in q (units_of units) → has_id q new.keys ≡ is_prepared_in q (units_of (units ++ x ∷ []))
prepared_next units x q old new puts same = put_next x.unit q (map (λ prepared. prepared.unit) (units_of units)) old new puts same ∙ ap (has_id q) (sym (units_next units x))
