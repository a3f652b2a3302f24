-- The keys that a statement changes lie in its reach, in Write mode; two reaches with a key in common meet.
use Rattle.salt_ast.specs.declared.trees.Statement.{Statement}
use Rattle.salt_ast.specs.declared.trees.TableDef.{TableDef}
use Rattle.law_story.proofs.Lists.{In}
use Rattle.law_story.proofs.Places.{both_true}
use Rattle.law_story.proofs.Writes.{Writes, statement-writes}
use Rattle.salt_model.specs.Locks.{is_read}
use Rattle.salt_model.specs.Statements.{outcome_of}
use Rattle.salt_model.specs.Reaches.{reach}
use Rattle.salt_model.specs.Tables.{Tables}
use Rattle.salt_model.specs.Words.{Every}
use Rattle.salt_model.specs.declared.locks.Reach.{Reach}
use Rattle.salt_model.specs.declared.vars.Binding.{Binding}
use Rattle.salt_ranges.specs.Ranges.{has_key}
use Rattle.salt_values.specs.declared.change.Change.{Change}
use Rattle.salt_values.specs.declared.value.Value.{Value}
use Rattle.std.proofs.Common.{ap, inl, inr, subst}
use Rattle.std.proofs.lemmas.Bool.{eqb-true}
use Rattle.std.specs.Prelude.{List, None, Option, Some, [], false, true, ℕ, ◌==◌, ◌∷◌, ◌≡◌}

abbrev pub Covers : Option Reach → ℕ → Value → Type 0
Covers None t k = ⊥
Covers (Some r) t k = (is_read r.mode ≡ false) × (r.table ≡ t) × (has_key r.range k ≡ true)

pub every-in : {A : Type 0} (P : A → Type 0) (x : A) (xs : List A) → Every P xs → In x xs → P x
every-in P x [] h i = absurd i
every-in P x (y ∷ ys) h (inl e) = subst P e h.0
every-in P x (y ∷ ys) h (inr i) = every-in P x ys h.1 i

covers : (o : Option Reach) (c : Change) → Writes o c → Covers o c.table c.key
covers None c w = absurd w
covers (Some r) c w = let b = both_true (r.table == c.table) _ w.1 in (ap is_read w.0, eqb-true r.table c.table b.0, b.1)

pub covers-change : (schema : List TableDef) (tables : Tables) (vars : List Binding) (st : Statement) (c : Change) → In c (outcome_of schema tables vars st).changes → Covers (reach schema vars st) c.table c.key
covers-change schema tables vars st c i = covers (reach schema vars st) c (every-in (Writes (reach schema vars st)) c (outcome_of schema tables vars st).changes (statement-writes schema tables vars st) i)
