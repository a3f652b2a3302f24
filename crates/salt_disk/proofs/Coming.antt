-- Stops that have come, over one call and over several.
use Rattle.salt_disk.specs.Disks.{HaveCome}
use Rattle.std.proofs.Common.{List, [], ap, append_assoc, arith, length, length-append, refl, sym, ℕ, ◌++◌, ◌+◌, ◌≡◌, ◌∙◌}
use Rattle.std.proofs.lemmas.List.{nil_from_length}

-- where none has come the same ones are left
pub none_come : (old new : List (ℕ × ℕ)) → new ≡ old → HaveCome 0 old new
none_come old new same = record { come = []; many = refl; is = sym same }

pub none_came : (old new : List (ℕ × ℕ)) → HaveCome 0 old new → new ≡ old
none_came old new h = sym (h.is ∙ ap (λ (l : List (ℕ × ℕ)). l ++ new) (nil_from_length h.come h.many))

-- the same number, told otherwise
pub come_as : (n m : ℕ) (old new : List (ℕ × ℕ)) → n ≡ m → HaveCome n old new → HaveCome m old new
come_as n m old new same h = record { come = h.come; many = h.many ∙ same; is = h.is }

-- one call after another
pub come_on : (n m : ℕ) (a b c : List (ℕ × ℕ)) → HaveCome n a b → HaveCome m b c → HaveCome (n + m) a c
come_on n m a b c p q = record {
  come = p.come ++ q.come;
  many = omega (arith, p.many, q.many, length-append p.come q.come);
  is = p.is ∙ ap (λ (l : List (ℕ × ℕ)). p.come ++ l) q.is ∙ sym (append_assoc p.come q.come c);
}

-- as many have come as there are fewer
pub come_counted : (n : ℕ) (old new : List (ℕ × ℕ)) → HaveCome n old new → length old ≡ n + length new
come_counted n old new h = omega (arith, ap length h.is, length-append h.come new, h.many)

-- those that are armed behind them stay there
pub come_before : (n : ℕ) (old new behind : List (ℕ × ℕ)) → HaveCome n old new → HaveCome n (old ++ behind) (new ++ behind)
come_before n old new behind h = record {
  come = h.come;
  many = h.many;
  is = ap (λ (l : List (ℕ × ℕ)). l ++ behind) h.is ∙ append_assoc h.come new behind;
}
