use Rattle.salt_disk.specs.Marks.{place_mark}
use Rattle.std.proofs.Common.{drop, ◌≡◌}
use Rattle.salt_disk.proofs.covers.Covers.mark_of.Given as goal

abbrev pub invariant-loop-span : goal.invariant-loop-span
invariant-loop-span l = place_mark (drop l.span-index l.self) l.place ≡ place_mark l.self l.place
