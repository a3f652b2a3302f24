-- A log is sound where the partition knows it and it fits the definitions.
use Rattle.salt_stands.specs.Coordinator.{Coordinator, decided_for}
use Rattle.salt_stands.specs.OpenedPart.{fits_definitions, is_fitting_log, is_known_log, is_of_boot}
use Rattle.salt_stands.specs.Partition.{are_there, is_format_under, is_sound_log}
use Rattle.salt_stands.specs.PartitionLog.{PartitionLog}
use Rattle.salt_stands.specs.Reading.{Reading}
use Rattle.std.proofs.Common.{Bool, List, [], ap, false, refl, true, ℕ, ◌≡◌, ◌∙◌, ◌∷◌}
use Rattle.std.specs.List.{list_all}
use Rattle.std.specs.Prelude.{◌&&◌}

crossed : (a b c d : Bool) → (a && b && (c && d)) ≡ (a && c && (b && d))
crossed true true c d = refl
crossed true false true d = refl
crossed true false false d = refl
crossed false b c d = refl

all_both : {A : Type 0} (p q : A → Bool) (xs : List A) → list_all (λ x. p x && q x) xs ≡ (list_all p xs && list_all q xs)
all_both p q [] = refl
all_both p q (x ∷ xs) = ap (λ b. p x && q x && b) (all_both p q xs) ∙ crossed (p x) (q x) (list_all p xs) (list_all q xs)

swapped : (f t b d : Bool) → (f && (t && (b && d))) ≡ (t && b && (f && d))
swapped true t b d = by t
  where
    by : (t : Bool) → (t && (b && d)) ≡ (t && b && d)
    by true = refl
    by false = refl
swapped false t b d = by t b
  where
    by : (t b : Bool) → false ≡ (t && b && false)
    by true true = refl
    by true false = refl
    by false b = refl

pub sound_is : {D : Type 0} (r : Reading D) (c : Coordinator D) (p : ℕ) (log : PartitionLog) → is_sound_log r c p log ≡ (is_known_log c.log.told.boot (decided_for p c.log.told.decided) log && is_fitting_log r c p log)
sound_is r c p log =
    let format = is_format_under c.log.header.format log.header.format in
    let there = are_there (decided_for p c.log.told.decided) log in
    ap (λ b. format && (there && b)) (all_both (is_of_boot c.log.told.boot) (fits_definitions r c p) log.prepared)
    ∙ swapped format there (list_all (is_of_boot c.log.told.boot) log.prepared) (list_all (fits_definitions r c p) log.prepared)
