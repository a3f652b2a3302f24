-- The rows of all partitions have their keys, as those of each do.
use Rattle.salt_eval.specs.Scans.{IsKeyed}
use Rattle.salt_model.specs.Tables.{Tables, row_at}
use Rattle.salt_stands.proofs.Places.{or_row, row_at_entries}
use Rattle.salt_stands.specs.Pieces.{listed}
use Rattle.salt_stands.specs.Tables.{joined}
use Rattle.salt_values.specs.Value.{key_of}
use Rattle.salt_values.specs.declared.value.Value.{Value}
use Rattle.std.proofs.Common.{List, None, Option, Some, arith, subst, sym, ℕ, ◌+◌, ◌<◌, ◌≡◌}
use Rattle.std.specs.Prelude.{IfSome, suc, zero}

keyed_or : (a b : Option (List Value)) (key : Value) → IfSome a (λ row. key_of row ≡ key) → IfSome b (λ row. key_of row ≡ key) → IfSome (or_row a b) (λ row. key_of row ≡ key)
keyed_or None b key h k = k
keyed_or (Some x) b key h k = h

pub joined_keyed : (T : ℕ → Tables) (p n : ℕ) → ((k : ℕ) → k < p + n → IsKeyed (T k)) → IsKeyed (joined (listed T p n))
unfolding joined
joined_keyed T p zero h q = tt
joined_keyed T p (suc n) h q = subst (λ o. IfSome o (λ row. key_of row ≡ q.key)) (sym (row_at_entries q (T p).list (joined (listed T (suc p) n))))
    (keyed_or (row_at q (T p)) (row_at q (joined (listed T (suc p) n))) q.key (h p (omega arith) q) (joined_keyed T (suc p) n (λ k low. h k (omega (arith, low))) q))
