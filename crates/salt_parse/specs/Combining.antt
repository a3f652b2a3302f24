-- Readers one behind the other.
use Rattle.salt_parse.specs.Reading.{Reader, after, either}
use Rattle.salt_ast.specs.Scanning.{◌>>=◌}
use Rattle.salt_ast.specs.Symbols.{Symbol}
use Rattle.std.specs.Prelude.{Some}

-- nothing is read
abbrev pub nothing_at : {A : Type 0} → A → Reader A
nothing_at x f ts = Some (x, f, ts)

-- what stands behind a symbol
abbrev pub behind_at : {A : Type 0} → Symbol → Reader A → Reader A
behind_at t read f ts = after t ts >>= λ us. read f us

-- what stands before a symbol
abbrev pub before_at : {A : Type 0} → Reader A → Symbol → Reader A
before_at read t f ts = read f ts >>= λ x. after t x.2 >>= λ us. Some (x.0, x.1, us)

-- one and the other behind it
abbrev pub both_at : {A B : Type 0} → Reader A → Reader B → Reader (A × B)
both_at read next f ts = read f ts >>= λ x. next x.1 x.2 >>= λ y. Some ((x.0, y.0), y.1, y.2)

-- what is made of what is read
abbrev pub made_at : {A B : Type 0} → (A → B) → Reader A → Reader B
made_at form read f ts = read f ts >>= λ x. Some (form x.0, x.1, x.2)

-- behind the symbol the first, where it comes next, and else the other
abbrev pub choice_at : {A : Type 0} → Symbol → Reader A → Reader A → Reader A
choice_at t read other f ts = either (after t ts) (other f ts) (read f)
