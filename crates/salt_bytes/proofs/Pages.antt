-- A page that was spelled is read again, and takes its length.
use Rattle.salt_bytes.proofs.Logs.{takes_table_row}
use Rattle.salt_bytes.proofs.Numbers.{takes_16}
use Rattle.salt_bytes.proofs.Taking.{Takes, both, takes_bytes, takes_each}
use Rattle.salt_bytes.specs.Numbers.{take_16}
use Rattle.salt_bytes.specs.Page.{TableRow, if_zeros, is_zero, page_front, page_length, rows_in_page, spell_page, spell_table_row, take_page, take_table_row}
use Rattle.salt_bytes.specs.Spellable.{IsSpellablePage, IsSpellableTableRow}
use Rattle.salt_bytes.specs.Taking.{go_on, take_each, then_take}
use Rattle.std.proofs.Common.{Bool, Some, ap, arith, length, length-append, refl, suc, true, zero, ℕ, ◌-◌, ◌≡◌, ◌∙◌}
use Rattle.std.proofs.lemmas.List.{length-replicate}
use Rattle.std.specs.List.{list_all}
use Rattle.std.specs.Prelude.{List, option_map, replicate}
use Rattle.std.specs.Bool.{then_some}

takes_rows : (nulls : Bool) (rows : List TableRow) → IsSpellablePage nulls rows → Takes (then_take take_16 (take_each (take_table_row nulls))) (page_front rows) rows
takes_rows nulls rows good = both _ (takes_16 (length rows) good.count) (takes_each (IsSpellableTableRow nulls) (take_table_row nulls) spell_table_row (takes_table_row nulls) rows good.each)

all_zero : (n : ℕ) → list_all is_zero (replicate n 0) ≡ true
all_zero zero = refl
all_zero (suc n) = all_zero n

pub reads_page : (nulls : Bool) (rows : List TableRow) → IsSpellablePage nulls rows → rows_in_page nulls (spell_page rows) ≡ Some rows
reads_page nulls rows good =
    let k = page_length - length (page_front rows) in
    ap if_zeros ((takes_rows nulls rows good).taken (replicate k 0)) ∙ ap (λ b. then_some b rows) (all_zero k)

pub length-page : (nulls : Bool) (rows : List TableRow) → IsSpellablePage nulls rows → length (spell_page rows) ≡ page_length
length-page nulls rows good =
    let k = page_length - length (page_front rows) in
    omega (arith, length-append (page_front rows) (replicate k 0), length-replicate {A = ℕ} k 0, good.room)

pub takes_page : (nulls : Bool) (rows : List TableRow) → IsSpellablePage nulls rows → Takes (take_page nulls) (spell_page rows) rows
takes_page nulls rows good = record {
  taken = λ rest. ap (go_on (λ bytes rest. option_map (λ (rs : List TableRow). (rs, rest)) (rows_in_page nulls bytes))) ((takes_bytes (spell_page rows) page_length (length-page nulls rows good)).taken rest) ∙ ap (option_map (λ (rs : List TableRow). (rs, rest))) (reads_page nulls rows good);
}
