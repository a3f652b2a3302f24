-- The programs that go on.
use Rattle.salt_values.specs.declared.cont.Cont.{Cont}
use Rattle.salt_values.specs.declared.id.Id.{Id}
use Rattle.std.specs.Prelude.{List, map}

abbrev pub bases_in : List Cont → List Id
bases_in conts = map (λ (c : Cont). c.base) conts
