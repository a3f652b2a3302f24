-- The unit that was prepared last, which is kept until it is applied.
use Rattle.salt_bytes.specs.Partition.{Prepared}
use Rattle.salt_codec.specs.Entries.{prepared_of}
use Rattle.salt_codec.specs.declared.prepared.PreparedUnit.{PreparedUnit}
use Rattle.salt_values.specs.Id.{has_id}
use Rattle.salt_partition.proofs.Seeing.{units_push}
use Rattle.salt_partition.specs.Contents.{units_of}
use Rattle.salt_partition.specs.Partitions.{IsLastKept, IsPreparedLast, prepared}
use Rattle.salt_stands.proofs.Decided.{has_last}
use Rattle.salt_stands.specs.Pieces.{PartView}
use Rattle.salt_values.specs.declared.id.Id.{Id}
use Rattle.std.proofs.Common.{List, None, Option, Some, [], ap, arith, false, length, length-append, refl, subst, sym, true, ◌++◌, ◌≡◌, ◌∙◌, ◌∷◌}
use Rattle.std.specs.Prelude.{option_map}

-- lists with one more at their ends
last_same : {A : Type 0} (xs ys : List A) (x y : A) → xs ++ x ∷ [] ≡ ys ++ y ∷ [] → x ≡ y
last_same [] [] x y e = cc
last_same [] (b ∷ ys) x y e = absurd (omega (arith, ap length e, length-append ys (y ∷ [])))
last_same (a ∷ xs) [] x y e = absurd (omega (arith, ap length e, length-append xs (x ∷ [])))
last_same (a ∷ xs) (b ∷ ys) x y e = last_same xs ys x y rest
  where
    rest : xs ++ x ∷ [] ≡ ys ++ y ∷ []
    rest = cc

none_last : {A : Type 0} (ys : List A) (y : A) → [] ≡ ys ++ y ∷ [] → ⊥
none_last ys y e = omega (arith, ap length e, length-append ys (y ∷ []))

-- of no unit
pub no_last : (applied : List Id) (last : Option PreparedUnit) → IsLastKept applied [] last
no_last applied last before x e new = absurd (none_last before x e)

-- one more that is kept
pub last_put : (applied : List Id) (ps : List Prepared) (unit : Prepared) (last : PreparedUnit) → prepared_of last ≡ unit → IsLastKept applied (ps ++ unit ∷ []) (Some last)
last_put applied ps unit last same before x e new = ap (λ y. Some y) (same ∙ last_same ps before unit x e)

-- one more that is applied
pub last_gone : (applied : List Id) (ps : List Prepared) (unit : Prepared) (last : Option PreparedUnit) → has_id unit.unit applied ≡ true → IsLastKept applied (ps ++ unit ∷ []) last
last_gone applied ps unit last decided before x e new = absurd (differ (sym decided ∙ ap (λ (y : Prepared). has_id y.unit applied) (last_same ps before unit x e) ∙ new))
  where
    differ : true ≡ false → ⊥
    differ e = cc

-- the same, of units that were read
pub read_put : (us : List Id) (units : List PreparedUnit) (x : PreparedUnit) → IsLastKept us (units_of (units ++ x ∷ [])) (Some x)
read_put us units x = subst (λ (ps : List Prepared). IsLastKept us ps (Some x)) (sym (units_push units x)) (last_put us (units_of units) (prepared_of x) x refl)

pub read_gone : (us : List Id) (units : List PreparedUnit) (x : PreparedUnit) (last : Option PreparedUnit) → has_id x.unit us ≡ true → IsLastKept us (units_of (units ++ x ∷ [])) last
read_gone us units x last decided = subst (λ (ps : List Prepared). IsLastKept us ps last) (sym (units_push units x)) (last_gone us (units_of units) (prepared_of x) last decided)

-- the one that is kept is the one that was prepared last
pub last_is : (v : PartView) (applied : List Id) (u : Id) (kept : Option PreparedUnit) → IsLastKept applied v.log.prepared kept → (last : IsPreparedLast v applied u) → option_map prepared_of kept ≡ Some (prepared u last.changes)
last_is v applied u kept is last = is last.before (prepared u last.changes) last.last last.new

pub is_there : (kept : Option PreparedUnit) (unit : Prepared) → kept ≡ None → option_map prepared_of kept ≡ Some unit → ⊥
is_there None unit none is = cc
is_there (Some x) unit none is = cc

pub changes_kept : (x : PreparedUnit) (kept : Option PreparedUnit) (unit : Prepared) → kept ≡ Some x → option_map prepared_of kept ≡ Some unit → x.changes.items ≡ unit.changes
changes_kept x kept unit some is = ap (λ (y : Prepared). y.changes) (same (ap (option_map prepared_of) (sym some) ∙ is))
  where
    same : Some (prepared_of x) ≡ Some unit → prepared_of x ≡ unit
    same e = cc

-- after it is applied none needs to be kept
pub applied_last : (v : PartView) (applied : List Id) (u : Id) (last : IsPreparedLast v applied u) (kept : Option PreparedUnit) → IsLastKept (applied ++ u ∷ []) v.log.prepared kept
applied_last v applied u last kept = subst (λ (ps : List Prepared). IsLastKept (applied ++ u ∷ []) ps kept) (sym last.last) (last_gone (applied ++ u ∷ []) last.before (prepared u last.changes) kept (has_last applied u))
