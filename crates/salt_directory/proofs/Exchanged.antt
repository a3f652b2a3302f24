-- A row that comes in the place of one of its key.
use Rattle.salt_bytes.specs.Page.{TableRow}
use Rattle.salt_directory.proofs.Split.{set_parted}
use Rattle.salt_directory.specs.Rows.{IsExchanged}
use Rattle.salt_pages.specs.Pages.{IsFound}
use Rattle.salt_values.specs.declared.value.Value.{Value}
use Rattle.std.proofs.Common.{List, Some, ap, drop, refl, set, suc, take, ℕ, ◌++◌, ◌≡◌, ◌∙◌, ◌∷◌}

row_of : ℕ → List Value → TableRow
row_of table row = record { table = table; row = row }

pub in_its_place : (table : ℕ) (key : Value) (row : List Value) (old : List TableRow) (i : ℕ) (found : IsFound table key old (Some i)) (new : List TableRow) → new ≡ set old i (record { table = found.0.table; row = row })
    → IsExchanged table key row old new
unfolding row_of
in_its_place table key row old i found new put = record {
  front = take i old;
  back = drop (suc i) old;
  others = record { at = i; row = found.0; there = found.1; of = found.2; is = refl };
  is = put ∙ set_parted old i found.0 (row_of found.0.table row) found.1 ∙ ap (λ (n : ℕ). take i old ++ row_of n row ∷ drop (suc i) old) found.2.0;
}
