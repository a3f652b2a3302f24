-- What the entries of a partition's log spell, read one by one.
use Rattle.salt_bytes.specs.Formats.{has_nulls}
use Rattle.salt_bytes.specs.Partition.{PartitionHeader, Prepared, partition_header_in, prepared_in}
use Rattle.salt_stands.specs.PartitionLog.{PartitionLog, gathered, own_log, partition_in, with_prepared}
use Rattle.std.proofs.Common.{Bool, List, None, Option, Some, [], ap, append_assoc, arith, drop, false, length, refl, slice_get, subst, suc, sym, true, zero, ℕ, ◌+◌, ◌++◌, ◌<◌, ◌≡◌, ◌≤◌, ◌∙◌, ◌∷◌}
use Rattle.std.proofs.lemmas.List.{append-nil}
use Rattle.std.specs.Prelude.{option_map, ◌==◌, option_and_then}
use Rattle.std.specs.Bool.{then_some}

-- AN ENTRY OF THE LIST

record Entry (entries : List (List ℕ)) (i : ℕ) : Type 0 where
  pub payload : List ℕ
  pub got : slice_get entries i ≡ Some payload
  pub left : drop i entries ≡ payload ∷ drop (i + 1) entries

entry_at : (entries : List (List ℕ)) (i : ℕ) → i < length entries → Entry entries i
entry_at [] i low = absurd (omega (arith, low))
entry_at (e ∷ entries) zero low = record { payload = e; got = refl; left = refl }
entry_at (e ∷ entries) (suc i) low =
    let next = entry_at entries i (omega (arith, low)) in
    let same : suc (i + 1) ≡ suc i + 1 = omega arith in
    record { payload = next.payload; got = next.got; left = next.left ∙ ap (λ k. next.payload ∷ drop k (e ∷ entries)) same }

drop_all : {A : Type 0} (xs : List A) (i : ℕ) → length xs ≤ i → drop i xs ≡ []
drop_all [] zero h = refl
drop_all [] (suc i) h = refl
drop_all (x ∷ xs) zero h = absurd (omega (arith, h))
drop_all (x ∷ xs) (suc i) h = drop_all xs i (omega (arith, h))

gathered_none : (nulls : Bool) (entries : List (List ℕ)) → gathered nulls None entries ≡ None
gathered_none nulls [] = refl
gathered_none nulls (e ∷ entries) = gathered_none nulls entries

-- ONE ENTRY FURTHER

pub gathered_next : (nulls : Bool) (xs : List Prepared) (entries : List (List ℕ)) (i : ℕ) (x : Prepared) → i < length entries → Some x ≡ option_and_then (prepared_in nulls) (slice_get entries i)
    → gathered nulls (Some xs) (drop i entries) ≡ gathered nulls (Some (xs ++ x ∷ [])) (drop (i + 1) entries)
gathered_next nulls xs entries i x low is =
    let e = entry_at entries i low in
    let reads : prepared_in nulls e.payload ≡ Some x = sym (is ∙ ap (option_and_then (prepared_in nulls)) e.got) in
    ap (gathered nulls (Some xs)) e.left ∙ ap (λ o. gathered nulls (option_map (λ y. xs ++ y ∷ []) o) (drop (i + 1) entries)) reads

pub gathered_fails : (nulls : Bool) (xs : List Prepared) (entries : List (List ℕ)) (i : ℕ) → i < length entries → None ≡ option_and_then (prepared_in nulls) (slice_get entries i)
    → gathered nulls (Some xs) (drop i entries) ≡ None
gathered_fails nulls xs entries i low is =
    let e = entry_at entries i low in
    let reads : prepared_in nulls e.payload ≡ None = sym (is ∙ ap (option_and_then (prepared_in nulls)) e.got) in
    ap (gathered nulls (Some xs)) e.left ∙ ap (λ o. gathered nulls (option_map (λ y. xs ++ y ∷ []) o) (drop (i + 1) entries)) reads ∙ gathered_none nulls (drop (i + 1) entries)

pub gathered_end : (nulls : Bool) (xs : List Prepared) (entries : List (List ℕ)) (i : ℕ) → length entries ≤ i → gathered nulls (Some xs) (drop i entries) ≡ Some xs
gathered_end nulls xs entries i long = ap (gathered nulls (Some xs)) (drop_all entries i long)

-- ALL OF THEM

each : Bool → List (List ℕ) → Option (List Prepared)
each nulls [] = Some []
each nulls (e ∷ entries) = option_and_then (λ x. option_map (λ xs. x ∷ xs) (each nulls entries)) (prepared_in nulls e)

gathered_each : (nulls : Bool) (xs : List Prepared) (entries : List (List ℕ)) → gathered nulls (Some xs) entries ≡ option_map (λ ys. xs ++ ys) (each nulls entries)
unfolding each
gathered_each nulls xs [] = ap (λ l. Some l) (sym (append-nil xs))
gathered_each nulls xs (e ∷ entries) = by (prepared_in nulls e) (λ x. gathered_each nulls (xs ++ x ∷ []) entries)
  where
    more : (x : Prepared) (o : Option (List Prepared)) → option_map (λ ys. xs ++ x ∷ [] ++ ys) o ≡ option_map (λ ys. xs ++ ys) (option_map (λ ys. x ∷ ys) o)
    more x None = refl
    more x (Some ys) = ap (λ l. Some l) (append_assoc xs (x ∷ []) ys)

    by : (o : Option Prepared) → ((x : Prepared) → gathered nulls (Some (xs ++ x ∷ [])) entries ≡ option_map (λ ys. xs ++ x ∷ [] ++ ys) (each nulls entries))
        → gathered nulls (option_map (λ y. xs ++ y ∷ []) o) entries ≡ option_map (λ ys. xs ++ ys) (option_and_then (λ x. option_map (λ ys. x ∷ ys) (each nulls entries)) o)
    by None rest = gathered_none nulls entries
    by (Some x) rest = rest x ∙ more x (each nulls entries)

each_is : (nulls : Bool) (entries : List (List ℕ)) (ps : List Prepared) → gathered nulls (Some []) entries ≡ Some ps → each nulls entries ≡ Some ps
each_is nulls entries ps is = same (each nulls entries) (sym (gathered_each nulls [] entries) ∙ is)
  where
    same : (o : Option (List Prepared)) → option_map (λ ys. [] ++ ys) o ≡ Some ps → o ≡ Some ps
    same None h = cc
    same (Some ys) h = h

each_at : (nulls : Bool) (entries : List (List ℕ)) (ps : List Prepared) → each nulls entries ≡ Some ps → (i : ℕ) → i < length entries → option_and_then (prepared_in nulls) (slice_get entries i) ≡ slice_get ps i
unfolding each
each_at nulls [] ps is i low = absurd (omega (arith, low))
each_at nulls (e ∷ entries) ps is i low = by (prepared_in nulls e) refl (each nulls entries) (λ xs rest j below. each_at nulls entries xs rest j below) is i low
  where
    at : (x : Prepared) (xs : List Prepared) → prepared_in nulls e ≡ Some x → ((j : ℕ) → j < length entries → option_and_then (prepared_in nulls) (slice_get entries j) ≡ slice_get xs j)
        → (i : ℕ) → i < suc (length entries) → option_and_then (prepared_in nulls) (slice_get (e ∷ entries) i) ≡ slice_get (x ∷ xs) i
    at x xs first rest zero low = first
    at x xs first rest (suc i) low = rest i (omega (arith, low))

    by : (o : Option Prepared) → prepared_in nulls e ≡ o → (r : Option (List Prepared))
        → ((xs : List Prepared) → r ≡ Some xs → (j : ℕ) → j < length entries → option_and_then (prepared_in nulls) (slice_get entries j) ≡ slice_get xs j)
        → option_and_then (λ x. option_map (λ xs. x ∷ xs) r) o ≡ Some ps → (i : ℕ) → i < suc (length entries) → option_and_then (prepared_in nulls) (slice_get (e ∷ entries) i) ≡ slice_get ps i
    by None first r rest h i low = cc
    by (Some x) first None rest h i low = cc
    by (Some x) first (Some xs) rest h i low = let same : x ∷ xs ≡ ps = cc in subst (λ (l : List Prepared). option_and_then (prepared_in nulls) (slice_get (e ∷ entries) i) ≡ slice_get l i) same (at x xs first (rest xs refl) i low)

each_length : (nulls : Bool) (entries : List (List ℕ)) (ps : List Prepared) → each nulls entries ≡ Some ps → length entries ≡ length ps
unfolding each
each_length nulls [] ps is = let same : [] ≡ ps = cc in ap length same
each_length nulls (e ∷ entries) ps is = by (prepared_in nulls e) (each nulls entries) (λ xs rest. each_length nulls entries xs rest) is
  where
    by : (o : Option Prepared) (r : Option (List Prepared)) → ((xs : List Prepared) → r ≡ Some xs → length entries ≡ length xs) → option_and_then (λ x. option_map (λ xs. x ∷ xs) r) o ≡ Some ps → suc (length entries) ≡ length ps
    by None r rest h = cc
    by (Some x) None rest h = cc
    by (Some x) (Some xs) rest h = let same : x ∷ xs ≡ ps = cc in ap suc (rest xs refl) ∙ ap length same

-- OF A LOG

units_gathered : (p : ℕ) (first : List ℕ) (payloads : List (List ℕ)) (log : PartitionLog) → partition_in p (first ∷ payloads) ≡ Some log → gathered (has_nulls log.header.format) (Some []) payloads ≡ Some log.prepared
units_gathered p first payloads log is = by (partition_header_in first) is
  where
    whole : (h : PartitionHeader) (o : Option (List Prepared)) → gathered (has_nulls h.format) (Some []) payloads ≡ o → with_prepared h o ≡ Some log → gathered (has_nulls log.header.format) (Some []) payloads ≡ Some log.prepared
    whole h None got e = cc
    whole h (Some ps) got e = subst (λ (l : PartitionLog). gathered (has_nulls l.header.format) (Some []) payloads ≡ Some l.prepared) same got
      where
        same : record { header = h; prepared = ps } ≡ log
        same = cc

    own : (b : Bool) (h : PartitionHeader) → option_and_then (λ own. with_prepared own (gathered (has_nulls own.format) (Some []) payloads)) (then_some b h) ≡ Some log → gathered (has_nulls log.header.format) (Some []) payloads ≡ Some log.prepared
    own false h e = cc
    own true h e = whole h (gathered (has_nulls h.format) (Some []) payloads) refl e

    by : (o : Option PartitionHeader) → option_and_then (λ h. own_log p h payloads) o ≡ Some log → gathered (has_nulls log.header.format) (Some []) payloads ≡ Some log.prepared
    by None e = cc
    by (Some h) e = own (h.part == p) h e

pub logged_at : (p : ℕ) (entries : List (List ℕ)) (log : PartitionLog) → partition_in p entries ≡ Some log → (i : ℕ) → i + 1 < length entries
    → option_and_then (prepared_in (has_nulls log.header.format)) (slice_get entries (i + 1)) ≡ slice_get log.prepared i
logged_at p [] log is i low = cc
logged_at p (first ∷ payloads) log is i low =
    let nulls = has_nulls log.header.format in
    let next : i + 1 ≡ suc i = omega arith in
    ap (λ k. option_and_then (prepared_in nulls) (slice_get (first ∷ payloads) k)) next
    ∙ each_at nulls payloads log.prepared (each_is nulls payloads log.prepared (units_gathered p first payloads log is)) i (omega (arith, low))

pub logged_count : (p : ℕ) (entries : List (List ℕ)) (log : PartitionLog) → partition_in p entries ≡ Some log → length entries ≡ suc (length log.prepared)
logged_count p [] log is = cc
logged_count p (first ∷ payloads) log is =
    let nulls = has_nulls log.header.format in
    ap suc (each_length nulls payloads log.prepared (each_is nulls payloads log.prepared (units_gathered p first payloads log is)))

pub past : {A : Type 0} (xs : List A) (i : ℕ) → length xs ≤ i → slice_get xs i ≡ None
past [] i h = refl
past (x ∷ xs) zero h = absurd (omega (arith, h))
past (x ∷ xs) (suc i) h = past xs i (omega (arith, h))

pub got_at : {A : Type 0} (xs : List A) (i : ℕ) → i < length xs → (x : A) × (slice_get xs i ≡ Some x)
got_at [] i low = absurd (omega (arith, low))
got_at (x ∷ xs) zero low = (x, refl)
got_at (x ∷ xs) (suc i) low = got_at xs i (omega (arith, low))

pub got_last : {A : Type 0} (xs : List A) (x : A) → slice_get (xs ++ x ∷ []) (length xs) ≡ Some x
got_last [] x = refl
got_last (y ∷ xs) x = got_last xs x
