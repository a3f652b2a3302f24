-- Nodes that are packed, with zeros behind them.
use Rattle.salt_net.specs.Packed.{ZEROS}
use Rattle.std.proofs.Common.{List, [], ap, arith, drop, refl, subst, suc, sym, zero, ℕ, ◌+◌, ◌≡◌, ◌∙◌, ◌∷◌}
use Rattle.std.proofs.lemmas.List.{drop-set-lt}
use Rattle.std.specs.Prelude.{slice_set}

drop_next : (n : ℕ) (l : List ℕ) → drop (suc n) l ≡ drop 1 (drop n l)
drop_next zero l = refl
drop_next (suc n) [] = refl
drop_next (suc n) (x ∷ l) = drop_next n l

pub packed_next : (n node : ℕ) (packed : List ℕ) → drop n packed ≡ drop n ZEROS → drop (n + 1) (slice_set packed n node) ≡ drop (n + 1) ZEROS
packed_next n node packed rest = drop-set-lt (n + 1) packed n node (omega arith) ∙ subst (λ (k : ℕ). drop k packed ≡ drop k ZEROS) one (drop_next n packed ∙ (ap (drop 1) rest ∙ sym (drop_next n ZEROS)))
  where
    one : suc n ≡ n + 1
    one = omega arith
