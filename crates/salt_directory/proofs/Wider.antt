-- What is read without NULL is read the same with it.
use Rattle.salt_bytes.specs.Numbers.{take_16}
use Rattle.salt_bytes.specs.Page.{TableRow, if_zeros, rows_in_page, take_table_row}
use Rattle.salt_bytes.specs.Taking.{Take, give, go_on, only_if, take_byte, take_each, then_take}
use Rattle.salt_bytes.specs.Values.{is_row_length, take_row, take_value, take_value_of}
use Rattle.salt_checkpoint.specs.Sides.{side_bytes}
use Rattle.salt_directory.proofs.PageAt.{page_is, whole_page}
use Rattle.salt_stands.specs.Partition.{page_at}
use Rattle.salt_values.specs.declared.value.Value.{Value}
use Rattle.std.proofs.Common.{Bool, List, None, Option, Some, ap, false, refl, suc, sym, true, zero, ℕ, ◌≡◌, ◌∙◌, ◌∷◌}

-- what the first takes, the second takes
record Wider {A : Type 0} (f g : Take A) : Type 0 where
  wider : (bytes : List ℕ) (x : A × List ℕ) → f bytes ≡ Some x → g bytes ≡ Some x

itself : {A : Type 0} (f : Take A) → Wider f f
itself f = record { wider = λ bytes x is. is }

then_wider : {A B : Type 0} (f g : Take A) (h k : A → Take B) → Wider f g → ((x : A) → Wider (h x) (k x)) → Wider (then_take f h) (then_take g k)
then_wider {A = A} {B = B} f g h k first next = record { wider = λ bytes y is. by bytes y (f bytes) refl is }
  where
    by : (bytes : List ℕ) (y : B × List ℕ) (o : Option (A × List ℕ)) → f bytes ≡ o → go_on h o ≡ Some y → go_on k (g bytes) ≡ Some y
    by bytes y None e is = cc
    by bytes y (Some x) e is = ap (go_on k) (first.wider bytes x e) ∙ (next x.0).wider x.1 y is

only_wider : {A : Type 0} (b : Bool) (f g : Take A) → Wider f g → Wider (only_if b f) (only_if b g)
only_wider true f g h = h
only_wider false f g h = record { wider = λ bytes x is. is }

each_wider : {A : Type 0} (f g : Take A) → Wider f g → (n : ℕ) → Wider (take_each f n) (take_each g n)
each_wider f g h zero = record { wider = λ bytes x is. is }
each_wider f g h (suc n) = then_wider f g (λ x. then_take (take_each f n) (λ xs. give (x ∷ xs))) (λ x. then_take (take_each g n) (λ xs. give (x ∷ xs))) h
    (λ x. then_wider (take_each f n) (take_each g n) (λ xs. give (x ∷ xs)) (λ xs. give (x ∷ xs)) (each_wider f g h n) (λ xs. itself (give (x ∷ xs))))

value_wider : Wider (take_value false) (take_value true)
value_wider = then_wider take_byte take_byte (take_value_of false) (take_value_of true) (itself take_byte) by
  where
    by : (kind : ℕ) → Wider (take_value_of false kind) (take_value_of true kind)
    by zero = record { wider = λ bytes x is. cc }
    by (suc zero) = record { wider = λ bytes x is. is }
    by (suc (suc zero)) = record { wider = λ bytes x is. is }
    by (suc (suc (suc n))) = record { wider = λ bytes x is. is }

row_wider : Wider (take_row false) (take_row true)
row_wider = then_wider take_byte take_byte (λ n. only_if (is_row_length n) (take_each (take_value false) n)) (λ n. only_if (is_row_length n) (take_each (take_value true) n)) (itself take_byte)
    (λ n. only_wider (is_row_length n) (take_each (take_value false) n) (take_each (take_value true) n) (each_wider (take_value false) (take_value true) value_wider n))

table_row : ℕ → List Value → TableRow
table_row table row = record { table = table; row = row }

table_row_wider : Wider (take_table_row false) (take_table_row true)
unfolding table_row
table_row_wider = then_wider take_16 take_16 (λ table. then_take (take_row false) (λ row. give (table_row table row))) (λ table. then_take (take_row true) (λ row. give (table_row table row))) (itself take_16)
    (λ table. then_wider (take_row false) (take_row true) (λ row. give (table_row table row)) (λ row. give (table_row table row)) row_wider (λ row. itself (give (table_row table row))))

rows_wider : Wider (then_take take_16 (take_each (take_table_row false))) (then_take take_16 (take_each (take_table_row true)))
rows_wider = then_wider take_16 take_16 (take_each (take_table_row false)) (take_each (take_table_row true)) (itself take_16) (λ n. each_wider (take_table_row false) (take_table_row true) table_row_wider n)

pub page_wider : (nulls : Bool) (bytes : List ℕ) (rows : List TableRow) → rows_in_page nulls bytes ≡ Some rows → rows_in_page true bytes ≡ Some rows
page_wider true bytes rows is = is
page_wider false bytes rows is = by (then_take take_16 (take_each (take_table_row false)) bytes) refl is
  where
    by : (o : Option (List TableRow × List ℕ)) → then_take take_16 (take_each (take_table_row false)) bytes ≡ o → if_zeros o ≡ Some rows → if_zeros (then_take take_16 (take_each (take_table_row true)) bytes) ≡ Some rows
    by None e is = cc
    by (Some x) e is = ap if_zeros (rows_wider.wider bytes x e) ∙ is

pub page_at_wider : (nulls : Bool) (bytes : List ℕ) (page side : ℕ) (rows : List TableRow) → page_at nulls bytes page side ≡ Some rows → page_at true bytes page side ≡ Some rows
page_at_wider nulls bytes page side rows is =
    let whole = whole_page nulls bytes page side rows is in
    page_is true bytes page side whole ∙ page_wider nulls (side_bytes bytes page side) rows (sym (page_is nulls bytes page side whole) ∙ is)
