use Rattle.salt_database.proofs.reopening.books_fallen.Goals as goal
use Rattle.std.proofs.Common.{inl, refl}
use Rattle.std.specs.Prelude.{[]}

pub returns : goal.returns
returns c = λ s why k. record {
  units = k.units;
  bases = k.bases;
  goes = [];
  are = c.fall.ensures (record s { unit_count = k.units; base_count = k.bases; to_go = k.goes }) why k.are;
  going = inl refl;
}
