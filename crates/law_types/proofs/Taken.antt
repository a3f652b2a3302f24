-- What the bytes of a partition's log give: changes whose rows stand at their keys.
use Rattle.salt_bytes.specs.Changes.{are_in_order, take_change, take_change_to}
use Rattle.salt_bytes.specs.Formats.{has_nulls}
use Rattle.salt_bytes.specs.Ids.{take_id}
use Rattle.salt_bytes.specs.Numbers.{take_16, take_64, take_counted}
use Rattle.salt_bytes.specs.Partition.{PartitionHeader, Prepared, partition_header_in, prepared_in, take_prepared}
use Rattle.salt_bytes.specs.Taking.{Take, give, go_on, if_all, only_if, take_byte, take_each, then_take, whole}
use Rattle.salt_bytes.specs.Values as bytes
use Rattle.law_story.proofs.Every.{every-append}
use Rattle.salt_model.specs.Words.{Every}
use Rattle.salt_stands.specs.PartitionLog.{PartitionLog, gather, gathered, own_log, partition_in, with_prepared}
use Rattle.salt_values.specs.declared.change.Change.{Change}
use Rattle.salt_values.specs.declared.value.Value.{Value}
use Rattle.std.proofs.Common.{ap, subst}
use Rattle.std.specs.Prelude.{Bool, List, None, Option, Some, [], false, option_map, refl, suc, true, zero, ℕ, ⊤, ◌++◌, ◌==◌, ◌∷◌, ◌≡◌, option_and_then}
use Rattle.std.specs.Bool.{then_some}
use Rattle.salt_values.specs.Value.{key_of}

abbrev Gives : {A : Type 0} → (A → Type 0) → Take A → Type 0
Gives {A} P take = (text : List ℕ) (x : A) (rest : List ℕ) → take text ≡ Some (x, rest) → P x

then-gives : {A B : Type 0} (Q : A → Type 0) (P : B → Type 0) (t : Take A) (f : A → Take B) → Gives Q t → ((x : A) → Q x → Gives P (f x)) → Gives P (then_take t f)
then-gives {A} {B} Q P t f first next text y rest h = by (t text) refl h
  where
    by : (o : Option (A × List ℕ)) → t text ≡ o → go_on f o ≡ Some (y, rest) → P y
    by None e g = absurd cc
    by (Some taken) e g = next taken.0 (first text taken.0 taken.1 e) taken.1 y rest g

-- of anything that is taken first
behind-gives : {A B : Type 0} (P : B → Type 0) (t : Take A) (f : A → Take B) → ((x : A) → Gives P (f x)) → Gives P (then_take t f)
behind-gives P t f next = then-gives (λ x. ⊤) P t f (λ text x rest h. tt) (λ x q. next x)

only-gives : {A : Type 0} (P : A → Type 0) (b : Bool) (t : Take A) → Gives P t → Gives P (only_if b t)
only-gives P true t h = h
only-gives P false t h = λ text x rest e. absurd cc

give-gives : {A : Type 0} (P : A → Type 0) (x : A) → P x → Gives P (give x)
give-gives {A} P x h text y rest e =
    let pair : (x, text) ≡ (y, rest) = cc in
    subst P (ap (λ (p : A × List ℕ). p.0) pair) h

each-gives : {A : Type 0} (P : A → Type 0) (t : Take A) → Gives P t → (n : ℕ) → Gives (Every P) (take_each t n)
each-gives P t h zero = give-gives (Every P) [] tt
each-gives P t h (suc n) =
    then-gives P (Every P) t (λ x. then_take (take_each t n) (λ xs. give (x ∷ xs))) h
    (λ x q. then-gives (Every P) (Every P) (take_each t n) (λ xs. give (x ∷ xs)) (each-gives P t h n) (λ xs qs. give-gives (Every P) (x ∷ xs) (q, qs)))

whole-gives : {A : Type 0} (P : A → Type 0) (t : Take A) → Gives P t → (text : List ℕ) (x : A) → whole t text ≡ Some x → P x
whole-gives {A} P t h text x e = by (t text) refl e
  where
    by : (o : Option (A × List ℕ)) → t text ≡ o → if_all o ≡ Some x → P x
    by None g e = absurd cc
    by (Some (y, [])) g e = let same : y ≡ x = cc in subst P same (h text y [] g)
    by (Some (y, b ∷ bs)) g e = absurd cc

-- CHANGES

abbrev StandsAtKey : Value → Option (List Value) → Type 0
StandsAtKey key None = ⊤
StandsAtKey key (Some row) = key ≡ key_of row

-- the row that it puts stands at the place of its key
abbrev pub IsKeyed : Change → Type 0
IsKeyed ch = StandsAtKey ch.key ch.row

change-keyed : (nulls : Bool) → Gives IsKeyed (take_change nulls)
change-keyed nulls = behind-gives IsKeyed take_16 _ (λ table. behind-gives IsKeyed take_byte (take_change_to nulls table) (to table))
  where
    to : (table n : ℕ) → Gives IsKeyed (take_change_to nulls table n)
    to table zero = behind-gives IsKeyed (bytes.take_value false) _ (λ key. give-gives IsKeyed (record { table = table; key = key; row = None }) tt)
    to table (suc zero) = behind-gives IsKeyed (bytes.take_row nulls) _ (λ row. give-gives IsKeyed (record { table = table; key = key_of row; row = Some row }) refl)
    to table (suc (suc n)) = λ text x rest e. absurd cc

abbrev pub AreKeyed : Prepared → Type 0
AreKeyed p = Every IsKeyed p.changes

taken-keyed : (nulls : Bool) → Gives AreKeyed (take_prepared nulls)
taken-keyed nulls =
    behind-gives AreKeyed take_byte _ (λ k. only-gives AreKeyed (k == 1) _ (
    behind-gives AreKeyed take_id _ (λ unit.
    then-gives (Every IsKeyed) AreKeyed (take_counted (take_change nulls)) _
    (behind-gives (Every IsKeyed) take_64 (take_each (take_change nulls)) (each-gives IsKeyed (take_change nulls) (change-keyed nulls)))
    (λ changes keyed. only-gives AreKeyed (are_in_order changes) _ (give-gives AreKeyed (record { unit = unit; changes = changes }) keyed)))))

prepared-keyed : (nulls : Bool) (payload : List ℕ) (p : Prepared) → prepared_in nulls payload ≡ Some p → AreKeyed p
prepared-keyed nulls payload p e = whole-gives AreKeyed (take_prepared nulls) (taken-keyed nulls) payload p e

-- THE LOG

abbrev AllKeyed : Option (List Prepared) → Type 0
AllKeyed None = ⊤
AllKeyed (Some ps) = Every AreKeyed ps

gather-keyed : (nulls : Bool) (payload : List ℕ) (found : Option (List Prepared)) → AllKeyed found → AllKeyed (gather nulls payload found)
gather-keyed nulls payload None h = tt
gather-keyed nulls payload (Some ps) h = by (prepared_in nulls payload) refl
  where
    by : (o : Option Prepared) → prepared_in nulls payload ≡ o → AllKeyed (option_map (λ p. ps ++ p ∷ []) o)
    by None e = tt
    by (Some p) e = every-append AreKeyed ps (p ∷ []) h (prepared-keyed nulls payload p e, tt)

gathered-keyed : (nulls : Bool) (found : Option (List Prepared)) (payloads : List (List ℕ)) → AllKeyed found → AllKeyed (gathered nulls found payloads)
gathered-keyed nulls found [] h = h
gathered-keyed nulls found (payload ∷ payloads) h = gathered-keyed nulls (gather nulls payload found) payloads (gather-keyed nulls payload found h)

abbrev pub IsLogKeyed : PartitionLog → Type 0
IsLogKeyed log = Every AreKeyed log.prepared

pub log-keyed : (p : ℕ) (entries : List (List ℕ)) (log : PartitionLog) → partition_in p entries ≡ Some log → IsLogKeyed log
log-keyed p [] log e = absurd cc
log-keyed p (first ∷ payloads) log e = by (partition_header_in first) e
  where
    filled : (h : PartitionHeader) (o : Option (List Prepared)) → AllKeyed o → with_prepared h o ≡ Some log → IsLogKeyed log
    filled h None k g = absurd cc
    filled h (Some ps) k g = let same : record { header = h; prepared = ps } ≡ log = cc in subst IsLogKeyed same k

    given-log : (h : PartitionHeader) (b : Bool) → option_and_then (λ own. with_prepared own (gathered (has_nulls own.format) (Some []) payloads)) (then_some b h) ≡ Some log → IsLogKeyed log
    given-log h true g = filled h _ (gathered-keyed (has_nulls h.format) (Some []) payloads tt) g
    given-log h false g = absurd cc

    by : (o : Option PartitionHeader) → option_and_then (λ h. own_log p h payloads) o ≡ Some log → IsLogKeyed log
    by None g = absurd cc
    by (Some h) g = given-log h (h.part == p) g
