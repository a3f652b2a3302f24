-- The names by which programs were called.
use Rattle.salt_books.specs.declared.called.CalledNames.{CalledNames}
use Rattle.salt_values.specs.declared.id.Id.{Id}
use Rattle.std.specs.BTreeMap.{get}
use Rattle.std.specs.Ordering.{nat_cmp, on, then_cmp}
use Rattle.std.specs.Prelude.{List, Option, ℕ}
use Rattle.std.specs.declared.cmp.Ordering.{Ordering}

-- the older name first
abbrev pub id_cmp : Id → Id → Ordering
id_cmp = then_cmp (on (λ (a : Id). a.boot) nat_cmp) (on (λ (a : Id). a.seq) nat_cmp)

-- the name by which a program was called, if it is under way
abbrev pub name_told : CalledNames → Id → Option (List ℕ)
name_told x b = get id_cmp x.names b
