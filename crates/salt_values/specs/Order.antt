-- The order of names, oldest first.
use Rattle.salt_values.specs.declared.id.Id.{Id}
use Rattle.std.specs.Cmp.{IsTotalOrder, nat_cmp_total, on_total, then_total}
use Rattle.std.specs.Ordering.{nat_cmp, on, then_cmp}
use Rattle.std.specs.Prelude.{ℕ}
use Rattle.std.specs.declared.cmp.Ordering.{Ordering}

abbrev pub boot_of : Id → ℕ
boot_of a = a.boot

abbrev pub seq_of : Id → ℕ
seq_of a = a.seq

abbrev pub id_cmp : Id → Id → Ordering
id_cmp = then_cmp (on boot_of nat_cmp) (on seq_of nat_cmp)

pub id_total : IsTotalOrder id_cmp
id_total = then_total (on_total boot_of nat_cmp_total) (on_total seq_of nat_cmp_total)
