-- The units that are decided in one partition.
use Rattle.salt_parts.specs.Openings.{HaveUnits, IsRulingOf, decided_in}
use Rattle.salt_parts.specs.declared.ruling.Ruling.{Ruling}
use Rattle.salt_stands.specs.CoordinatorLog.{CoordinatorLog}
use Rattle.salt_values.specs.declared.id.Id.{Id}
use Rattle.std.proofs.Common.{List, Some, get_or, length, refl, sym, ℕ, ◌<◌, ◌≡◌, ◌∙◌}
use Rattle.std.proofs.lemmas.Option.{slice_get_read}

one_list : (us vs : List Id) → Some us ≡ Some vs → us ≡ vs
one_list us vs e = cc

pub units_at : (lists : List (List Id)) (us : ℕ → List Id) (n : ℕ) (ids : List Id) → HaveUnits lists us → n < length lists → ids ≡ get_or lists n ids → ids ≡ us n
units_at lists us n ids have low at = one_list ids (us n) (sym (slice_get_read lists (length lists) n ids refl low at) ∙ have n low)

pub ruled_units : (x : Ruling) (log : CoordinatorLog) (p : ℕ) (us : List Id) → IsRulingOf x log → p < length x.decided.items → us ≡ get_or x.decided.items p us → us ≡ decided_in log p
ruled_units x log p us is low at = units_at x.decided.items (decided_in log) p us is.decided low at
