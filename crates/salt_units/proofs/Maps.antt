-- Rows in a map stay at the places of their keys where one place is written.
use Rattle.salt_eval.proofs.InOrder.{row_at-tables_of}
use Rattle.salt_eval.specs.Scans.{IsKeyed}
use Rattle.salt_eval.specs.Views.{tables_of}
use Rattle.law_story.proofs.Places.{equal-is, place_same}
use Rattle.salt_model.specs.Tables.{Entry, place_cmp}
use Rattle.salt_model.specs.declared.places.Place.{Place}
use Rattle.salt_values.specs.declared.value.Value.{Value}
use Rattle.std.proofs.Common.{subst, sym, ◌∙◌}
use Rattle.std.specs.BTreeMap.{is_at}
use Rattle.std.specs.Map.{lookup}
use Rattle.std.specs.Ordering.{is_eq}
use Rattle.std.specs.Prelude.{Bool, IfSome, List, Option, cond, false, refl, true, ◌≡◌}
use Rattle.salt_values.specs.Value.{key_of}

abbrev pub HasKeyOf : Place → Option (List Value) → Type 0
HasKeyOf p row = IfSome row (λ r. key_of r ≡ p.key)

pub keyed-after : (old now : List Entry) (p : Place) (row : Option (List Value)) → HasKeyOf p row →
    ((q : Place) → lookup (is_at (place_cmp q)) now ≡ cond (is_eq (place_cmp p q)) row (lookup (is_at (place_cmp q)) old)) → IsKeyed (tables_of old) → IsKeyed (tables_of now)
keyed-after old now p row key written keyed q = subst (HasKeyOf q) (sym (row_at-tables_of q now ∙ written q)) (by (is_eq (place_cmp p q)) refl)
  where
    by : (b : Bool) → is_eq (place_cmp p q) ≡ b → HasKeyOf q (cond b row (lookup (is_at (place_cmp q)) old))
    by true tied = subst (λ (x : Place). HasKeyOf x row) (place_same p q (equal-is _ tied)) key
    by false apart = subst (HasKeyOf q) (row_at-tables_of q old) (keyed q)
