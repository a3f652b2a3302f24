-- What is read from a partition's log can be put into rows; and its rows have their keys.
use Rattle.salt_bytes.proofs.Only.{if_only, took}
use Rattle.salt_bytes.specs.Changes.{are_in_order, take_change, take_change_to}
use Rattle.salt_bytes.specs.Ids.{take_id}
use Rattle.salt_bytes.specs.Numbers.{take_16, take_64, take_counted}
use Rattle.salt_bytes.specs.Partition.{Prepared, prepared_in, take_prepared}
use Rattle.salt_bytes.specs.Spellable.{Every}
use Rattle.salt_bytes.specs.Taking.{Take, give, if_all, only_if, take_byte, take_bytes, take_each, then_take}
use Rattle.salt_bytes.specs.Values.{is_row_length, take_row, take_value, take_value_of}
use Rattle.salt_disk.specs.Disks.{View}
use Rattle.salt_codec.specs.Entries.{CanBePut, IsPutTo, MayStand, prepared_of}
use Rattle.salt_codec.specs.declared.prepared.PreparedUnit.{PreparedUnit}
use Rattle.salt_eval.specs.Scans.{IsKeyed}
use Rattle.salt_model.specs.Tables.{Tables, changed_at, make_change, no_rows, place_cmp, row_at, with_changes}
use Rattle.salt_values.specs.Id.{has_id}
use Rattle.salt_model.specs.declared.places.Place.{Place}
use Rattle.salt_partition.specs.Contents.{AreKeyed, ArePut, HasKey, HasKeyTo}
use Rattle.salt_partition.specs.Partitions.{IsPartition}
use Rattle.salt_partition.specs.declared.partition.Partition.{Partition}
use Rattle.salt_stands.proofs.Places.{equal_is, place_same, row_at_set}
use Rattle.salt_stands.specs.Partition.{changes_if, decided_changes, part_tables}
use Rattle.salt_stands.specs.Pieces.{PartView}
use Rattle.salt_values.specs.Text.{is_text}
use Rattle.salt_values.specs.Value.{is_null, key_of}
use Rattle.salt_values.specs.declared.change.Change.{Change}
use Rattle.salt_values.specs.declared.id.Id.{Id}
use Rattle.salt_values.specs.declared.value.Value.TheVariants.{Int, Null, Text}
use Rattle.salt_values.specs.declared.value.Value.{Value}
use Rattle.std.proofs.Common.{List, None, Option, Some, [], ap, false, length, refl, subst, suc, sym, true, zero, ℕ, ◌++◌, ◌≡◌, ◌∙◌, ◌∷◌}
use Rattle.std.specs.Int.{cast_signed, w64}
use Rattle.std.specs.Ordering.{is_eq}
use Rattle.std.specs.Prelude.{Bool, IfSome, cond, option_map, ◌==◌}

given_first : {A : Type 0} (x y : A) (bytes rest : List ℕ) → give x bytes ≡ Some (y, rest) → x ≡ y
given_first x y bytes rest e = (Rattle.salt_bytes.proofs.Only.given_only x y bytes rest e).0

-- A VALUE AND A ROW that are read
kind_told : (kind : ℕ) (bytes : List ℕ) (v : Value) (rest : List ℕ) → take_value_of false kind bytes ≡ Some (v, rest) → is_null v ≡ false
kind_told zero bytes v rest e = cc
kind_told (suc zero) bytes v rest e =
    let t = took (λ n. give (Int (cast_signed w64 n))) (take_64 bytes) (v, rest) e in
    subst (λ u. is_null u ≡ false) (given_first (Int (cast_signed w64 t.x)) v t.rest rest t.goes) refl
kind_told (suc (suc zero)) bytes v rest e =
    let n = took (λ n. then_take (take_bytes n) (λ t. only_if (is_text t) (give (Text t)))) (take_byte bytes) (v, rest) e in
    let t = took (λ t. only_if (is_text t) (give (Text t))) (take_bytes n.x n.rest) (v, rest) n.goes in
    let a = (if_only (is_text t.x) (give (Text t.x)) t.rest (v, rest) t.goes).1 in
    subst (λ u. is_null u ≡ false) (given_first (Text t.x) v t.rest rest a) refl
kind_told (suc (suc (suc n))) bytes v rest e = cc

value_told : (bytes : List ℕ) (v : Value) (rest : List ℕ) → take_value false bytes ≡ Some (v, rest) → is_null v ≡ false
value_told bytes v rest e = let t = took (take_value_of false) (take_byte bytes) (v, rest) e in kind_told t.x t.rest v rest t.goes

each_long : {A : Type 0} (take : Take A) (n : ℕ) (bytes : List ℕ) (xs : List A) (rest : List ℕ) → take_each take n bytes ≡ Some (xs, rest) → length xs ≡ n
each_long take zero bytes xs rest e = ap (λ l. length l) (sym (given_first [] xs bytes rest e))
each_long take (suc n) bytes xs rest e =
    let t = took (λ x. then_take (take_each take n) (λ xs. give (x ∷ xs))) (take bytes) (xs, rest) e in
    let k = took (λ xs. give (t.x ∷ xs)) (take_each take n t.rest) (xs, rest) t.goes in
    ap (λ l. length l) (sym (given_first (t.x ∷ k.x) xs k.rest rest k.goes)) ∙ ap suc (each_long take n t.rest k.x k.rest k.was)

row_long : (nulls : Bool) (bytes : List ℕ) (row : List Value) (rest : List ℕ) → take_row nulls bytes ≡ Some (row, rest) → is_row_length (length row) ≡ true
row_long nulls bytes row rest e =
    let t = took (λ n. only_if (is_row_length n) (take_each (take_value nulls) n)) (take_byte bytes) (row, rest) e in
    let a = if_only (is_row_length t.x) (take_each (take_value nulls) t.x) t.rest (row, rest) t.goes in
    ap is_row_length (each_long (take_value nulls) t.x t.rest row rest a.1) ∙ a.0

-- where NULL is spelled any value may stand
stands : (v : Value) → MayStand true v
stands (Int z) = tt
stands (Text t) = tt
stands Null = refl

all_stand : (row : List Value) → Every (MayStand true) row
all_stand [] = tt
all_stand (v ∷ vs) = (stands v, all_stand vs)

-- A CHANGE that is read
change_put : (nulls : Bool) (table kind : ℕ) (bytes : List ℕ) (c : Change) (rest : List ℕ) → take_change_to nulls table kind bytes ≡ Some (c, rest) → CanBePut true c
change_put nulls table zero bytes c rest e =
    let t = took (λ key. give (record { table = table; key = key; row = None })) (take_value false bytes) (c, rest) e in
    subst (CanBePut true) (given_first (record { table = table; key = t.x; row = None }) c t.rest rest t.goes) (value_told bytes t.x t.rest t.was)
change_put nulls table (suc zero) bytes c rest e =
    let t = took (λ row. give (record { table = table; key = key_of row; row = Some row })) (take_row nulls bytes) (c, rest) e in
    subst (CanBePut true) (given_first (record { table = table; key = key_of t.x; row = Some t.x }) c t.rest rest t.goes) (row_long nulls bytes t.x t.rest t.was, refl, all_stand t.x)
change_put nulls table (suc (suc n)) bytes c rest e = cc

take_put : (nulls : Bool) (bytes : List ℕ) (c : Change) (rest : List ℕ) → take_change nulls bytes ≡ Some (c, rest) → CanBePut true c
take_put nulls bytes c rest e =
    let t = took (λ table. then_take take_byte (take_change_to nulls table)) (take_16 bytes) (c, rest) e in
    let k = took (take_change_to nulls t.x) (take_byte t.rest) (c, rest) t.goes in
    change_put nulls t.x k.x k.rest c rest k.goes

each_put : (nulls : Bool) (n : ℕ) (bytes : List ℕ) (cs : List Change) (rest : List ℕ) → take_each (take_change nulls) n bytes ≡ Some (cs, rest) → Every (CanBePut true) cs
each_put nulls zero bytes cs rest e = subst (Every (CanBePut true)) (given_first [] cs bytes rest e) tt
each_put nulls (suc n) bytes cs rest e =
    let t = took (λ x. then_take (take_each (take_change nulls) n) (λ xs. give (x ∷ xs))) (take_change nulls bytes) (cs, rest) e in
    let k = took (λ xs. give (t.x ∷ xs)) (take_each (take_change nulls) n t.rest) (cs, rest) t.goes in
    subst (Every (CanBePut true)) (given_first (t.x ∷ k.x) cs k.rest rest k.goes) (take_put nulls bytes t.x t.rest t.was, each_put nulls n t.rest k.x k.rest k.was)

prepared_put : (nulls : Bool) (bytes : List ℕ) (x : Prepared) (rest : List ℕ) → take_prepared nulls bytes ≡ Some (x, rest) → ArePut x
prepared_put nulls bytes x rest e =
    let t = took (λ kind. only_if (kind == 1) (then_take take_id (λ unit. then_take (take_counted (take_change nulls)) (λ changes. only_if (are_in_order changes) (give (record { unit = unit; changes = changes })))))) (take_byte bytes) (x, rest) e in
    let a = (if_only (t.x == 1) (then_take take_id (λ unit. then_take (take_counted (take_change nulls)) (λ changes. only_if (are_in_order changes) (give (record { unit = unit; changes = changes }))))) t.rest (x, rest) t.goes).1 in
    let u = took (λ unit. then_take (take_counted (take_change nulls)) (λ changes. only_if (are_in_order changes) (give (record { unit = unit; changes = changes })))) (take_id t.rest) (x, rest) a in
    let k = took (λ changes. only_if (are_in_order changes) (give (record { unit = u.x; changes = changes }))) (take_counted (take_change nulls) u.rest) (x, rest) u.goes in
    let b = (if_only (are_in_order k.x) (give (record { unit = u.x; changes = k.x })) k.rest (x, rest) k.goes).1 in
    let n = took (take_each (take_change nulls)) (take_64 u.rest) (k.x, k.rest) k.was in
    subst ArePut (given_first (record { unit = u.x; changes = k.x }) x k.rest rest b) (each_put nulls n.x n.rest k.x k.rest n.goes)

payload_put : (nulls : Bool) (payload : List ℕ) (x : Prepared) → prepared_in nulls payload ≡ Some x → ArePut x
payload_put nulls payload x e = by (take_prepared nulls payload) refl e
  where
    by : (o : Option (Prepared × List ℕ)) → take_prepared nulls payload ≡ o → if_all o ≡ Some x → ArePut x
    by None is e = cc
    by (Some (y, [])) is e = subst ArePut same (prepared_put nulls payload y [] is)
      where
        same : y ≡ x
        same = cc
    by (Some (y, b ∷ bs)) is e = cc

-- what was read
pub unit_put : (nulls : Bool) (payload : List ℕ) (o : Option PreparedUnit) → option_map prepared_of o ≡ prepared_in nulls payload → IfSome o (λ unit. ArePut (prepared_of unit))
unit_put nulls payload None e = tt
unit_put nulls payload (Some x) e = payload_put nulls payload (prepared_of x) (sym e)

pub if_some : {X : Type 0} (o : Option X) (x : X) (P : X → Type 0) → o ≡ Some x → IfSome o P → P x
if_some {X = X} o x P e h = subst (λ (v : Option X). IfSome v P) e h

-- a change that can be put has its key
put_keyed : (nulls : Bool) (key : Value) (row : Option (List Value)) → IsPutTo nulls key row → HasKeyTo key row
put_keyed nulls key None h = tt
put_keyed nulls key (Some row) h = h.1

pub all_put_keyed : (nulls : Bool) (cs : List Change) → Every (CanBePut nulls) cs → Every HasKey cs
all_put_keyed nulls [] h = tt
all_put_keyed nulls (c ∷ cs) h = (put_keyed nulls c.key c.row h.0, all_put_keyed nulls cs h.1)

pub units_keyed : (xs : List Prepared) → Every ArePut xs → Every AreKeyed xs
units_keyed [] h = tt
units_keyed (x ∷ xs) h = (all_put_keyed true x.changes h.0, units_keyed xs h.1)

-- and it can be put where NULL is spelled
put_to : (nulls : Bool) (key : Value) (row : Option (List Value)) → IsPutTo nulls key row → IsPutTo true key row
put_to nulls key None h = h
put_to nulls key (Some row) h = (h.0, h.1, all_stand row)

pub all_put : (nulls : Bool) (cs : List Change) → Every (CanBePut nulls) cs → Every (CanBePut true) cs
all_put nulls [] h = tt
all_put nulls (c ∷ cs) h = (put_to nulls c.key c.row h.0, all_put nulls cs h.1)

pub every_last : {X : Type 0} (P : X → Type 0) (xs : List X) (x : X) → Every P (xs ++ x ∷ []) → P x
every_last P [] x h = h.0
every_last P (y ∷ ys) x h = every_last P ys x h.1

pub every_push : {X : Type 0} (P : X → Type 0) (xs : List X) (x : X) → Every P xs → P x → Every P (xs ++ x ∷ [])
every_push P [] x h p = (p, tt)
every_push P (y ∷ ys) x h p = (h.0, every_push P ys x h.1 p)

-- THE ROWS that changes make
pub every_append : {X : Type 0} (P : X → Type 0) (xs ys : List X) → Every P xs → Every P ys → Every P (xs ++ ys)
every_append P [] ys h k = k
every_append P (x ∷ xs) ys h k = (h.0, every_append P xs ys h.1 k)

pub decided_keyed : (us : List Id) (ps : List Prepared) → Every AreKeyed ps → Every HasKey (decided_changes us ps)
decided_keyed us [] h = tt
decided_keyed us (x ∷ xs) h = every_append HasKey (changes_if (has_id x.unit us) x.changes) (decided_changes us xs) (by (has_id x.unit us)) (decided_keyed us xs h.1)
  where
    by : (b : Bool) → Every HasKey (changes_if b x.changes)
    by true = h.0
    by false = tt

one_keyed : (c : Change) (t : Tables) → HasKey c → IsKeyed t → IsKeyed (make_change c t)
one_keyed c t own keyed q = subst (λ o. IfSome o (λ row. key_of row ≡ q.key)) (sym (row_at_set q (changed_at c) c.row t)) (by (is_eq (place_cmp q (changed_at c))) refl)
  where
    there : (row : Option (List Value)) → HasKeyTo c.key row → q.key ≡ c.key → IfSome row (λ row. key_of row ≡ q.key)
    there None h e = tt
    there (Some row) h e = h ∙ sym e

    by : (b : Bool) → is_eq (place_cmp q (changed_at c)) ≡ b → IfSome (cond b c.row (row_at q t)) (λ row. key_of row ≡ q.key)
    by true e = there c.row own (ap (λ (p : Place). p.key) (place_same q (changed_at c) (equal_is (place_cmp q (changed_at c)) e)))
    by false e = keyed q

pub changes_keyed : (cs : List Change) (t : Tables) → Every HasKey cs → IsKeyed t → IsKeyed (with_changes cs t)
unfolding with_changes
changes_keyed [] t h keyed = keyed
changes_keyed (c ∷ cs) t h keyed = changes_keyed cs (make_change c t) h.1 (one_keyed c t h.0 keyed)

pub part_keyed : (d : View) (x : Partition) (p : ℕ) (v : PartView) (applied : List Id) → IsPartition d x p v applied → IsKeyed (part_tables applied v.log v.rows)
part_keyed d x p v applied is =
    changes_keyed (v.rows ++ decided_changes applied v.log.prepared) no_rows
    (every_append HasKey v.rows (decided_changes applied v.log.prepared) (subst (Every HasKey) (sym is.none) tt) (decided_keyed applied v.log.prepared is.keyed))
    (λ q. tt)
