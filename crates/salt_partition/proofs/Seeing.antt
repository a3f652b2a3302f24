-- Facts of units that were read, as facts of what they are seen as.
use Rattle.salt_bytes.specs.Partition.{Prepared}
use Rattle.salt_codec.specs.Entries.{prepared_of}
use Rattle.salt_codec.specs.declared.prepared.PreparedUnit.{PreparedUnit}
use Rattle.salt_partition.specs.Contents.{units_of}
use Rattle.salt_model.specs.Tables.{Entry, Tables, no_rows, with_changes}
use Rattle.salt_values.specs.Id.{has_id}
use Rattle.salt_stands.proofs.Decided.{changes_push, with_changes_append}
use Rattle.salt_stands.specs.Partition.{changes_if, decided_changes}
use Rattle.salt_values.specs.declared.id.Id.{Id}
use Rattle.std.proofs.Common.{Bool, List, [], ap, false, refl, sym, true, ◌++◌, ◌≡◌, ◌∙◌, ◌∷◌}
use Rattle.std.proofs.lemmas.List.{append-nil}
use Rattle.std.specs.List.{list_all}
use Rattle.std.specs.Prelude.{◌&&◌}

pub all_units : (p : Prepared → Bool) (units : List PreparedUnit) → list_all (λ x. p (prepared_of x)) units ≡ list_all p (units_of units)
all_units p [] = refl
all_units p (x ∷ units) = ap (λ b. p (prepared_of x) && b) (all_units p units)

pub units_push : (units : List PreparedUnit) (x : PreparedUnit) → units_of (units ++ x ∷ []) ≡ units_of units ++ prepared_of x ∷ []
units_push [] x = refl
units_push (y ∷ units) x = ap (λ l. prepared_of y ∷ l) (units_push units x)

pub units_pushed : (old new : List PreparedUnit) (x : PreparedUnit) → new ≡ old ++ x ∷ [] → units_of new ≡ units_of old ++ prepared_of x ∷ []
units_pushed old new x same = ap units_of same ∙ units_push old x

-- the changes with one unit more
changes_more : (us : List Id) (units : List PreparedUnit) (x : PreparedUnit) → decided_changes us (units_of (units ++ x ∷ [])) ≡ decided_changes us (units_of units) ++ changes_if (has_id x.unit us) x.changes.items
changes_more us units x = ap (decided_changes us) (units_push units x) ∙ changes_push us (units_of units) (prepared_of x)

pub decided_next : (us : List Id) (units : List PreparedUnit) (x : PreparedUnit) (rows new : List Entry) → has_id x.unit us ≡ true
    → rows ≡ (with_changes (decided_changes us (units_of units)) no_rows).list → ((t : Tables) → rows ≡ t.list → new ≡ (with_changes x.changes.items t).list)
    → new ≡ (with_changes (decided_changes us (units_of (units ++ x ∷ []))) no_rows).list
decided_next us units x rows new decided same make =
    let before = decided_changes us (units_of units) in
    make (with_changes before no_rows) same
    ∙ ap (λ (t : Tables). t.list) (sym (with_changes_append before x.changes.items no_rows))
    ∙ ap (λ cs. (with_changes cs no_rows).list) (sym (changes_more us units x ∙ ap (λ b. before ++ changes_if b x.changes.items) decided))

pub undecided_next : (us : List Id) (units : List PreparedUnit) (x : PreparedUnit) (rows : List Entry) → has_id x.unit us ≡ false
    → rows ≡ (with_changes (decided_changes us (units_of units)) no_rows).list → rows ≡ (with_changes (decided_changes us (units_of (units ++ x ∷ []))) no_rows).list
undecided_next us units x rows undecided same =
    let before = decided_changes us (units_of units) in
    same ∙ ap (λ cs. (with_changes cs no_rows).list) (sym (changes_more us units x ∙ ap (λ b. before ++ changes_if b x.changes.items) undecided ∙ append-nil before))

pub all_alike : {A : Type 0} (f h : A → Bool) (xs : List A) → ((x : A) → f x ≡ h x) → list_all f xs ≡ list_all h xs
all_alike f h [] same = refl
all_alike f h (x ∷ xs) same = ap (λ b. b && list_all f xs) (same x) ∙ ap (λ b. h x && b) (all_alike f h xs same)
