-- A partition's log with one more entry.
use Rattle.salt_bytes.specs.Formats.{has_nulls}
use Rattle.salt_bytes.specs.Partition.{PartitionHeader, Prepared, partition_header_in, prepared_in}
use Rattle.salt_stands.specs.PartitionLog.{PartitionLog, gather, gathered, own_log, partition_in, with_prepared}
use Rattle.std.proofs.Common.{Bool, List, None, Option, Some, [], ap, false, refl, subst, true, ℕ, ◌++◌, ◌≡◌, ◌∙◌, ◌∷◌}
use Rattle.std.specs.Prelude.{option_map, ◌==◌, option_and_then}
use Rattle.std.specs.Bool.{then_some}

gathered_push : (nulls : Bool) (found : Option (List Prepared)) (ps : List (List ℕ)) (p : List ℕ) → gathered nulls found (ps ++ p ∷ []) ≡ gather nulls p (gathered nulls found ps)
gathered_push nulls found [] p = refl
gathered_push nulls found (q ∷ ps) p = gathered_push nulls (gather nulls q found) ps p

module _ (payload : List ℕ) (x : Prepared) where
  abbrev pub with_one : PartitionLog → PartitionLog
  with_one log = record log { prepared = log.prepared ++ x ∷ [] }

  abbrev Goal : PartitionHeader → Option (List Prepared) → PartitionLog → Type 0
  Goal h found log = prepared_in (has_nulls log.header.format) payload ≡ Some x → with_prepared h (gather (has_nulls h.format) payload found) ≡ Some (with_one log)

  one_more : (h : PartitionHeader) (found : Option (List Prepared)) (log : PartitionLog) → with_prepared h found ≡ Some log → Goal h found log
  one_more h None log is = cc
  one_more h (Some ps) log is = subst (λ (l : PartitionLog). Goal h (Some ps) l) same (λ reads. ap (λ o. with_prepared h (option_map (λ p. ps ++ p ∷ []) o)) reads)
    where
      same : record { header = h; prepared = ps } ≡ log
      same = cc

  own : (b : Bool) (h : PartitionHeader) (ps : List (List ℕ)) (log : PartitionLog)
      → option_and_then (λ own. with_prepared own (gathered (has_nulls own.format) (Some []) ps)) (then_some b h) ≡ Some log
      → prepared_in (has_nulls log.header.format) payload ≡ Some x
      → option_and_then (λ own. with_prepared own (gathered (has_nulls own.format) (Some []) (ps ++ payload ∷ []))) (then_some b h) ≡ Some (with_one log)
  own false h ps log is reads = cc
  own true h ps log is reads =
      ap (with_prepared h) (gathered_push (has_nulls h.format) (Some []) ps payload) ∙ one_more h (gathered (has_nulls h.format) (Some []) ps) log is reads

  from_header : (p : ℕ) (o : Option PartitionHeader) (ps : List (List ℕ)) (log : PartitionLog)
      → option_and_then (λ h. own_log p h ps) o ≡ Some log → prepared_in (has_nulls log.header.format) payload ≡ Some x
      → option_and_then (λ h. own_log p h (ps ++ payload ∷ [])) o ≡ Some (with_one log)
  from_header p None ps log is reads = cc
  from_header p (Some h) ps log is reads = own (h.part == p) h ps log is reads

  pub partition_push : (p : ℕ) (es : List (List ℕ)) (log : PartitionLog) → partition_in p es ≡ Some log → prepared_in (has_nulls log.header.format) payload ≡ Some x → partition_in p (es ++ payload ∷ []) ≡ Some (with_one log)
  partition_push p [] log is reads = cc
  partition_push p (first ∷ ps) log is reads = from_header p (partition_header_in first) ps log is reads
