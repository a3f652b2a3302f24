-- Moves along the path of a program of three parts, computed from the definitions.
use Rattle.salt_ast.specs.declared.programs.Body.TheVariants as body
use Rattle.salt_ast.specs.declared.programs.Next.TheVariants as next
use Rattle.salt_ast.specs.declared.programs.Next.{Next}
use Rattle.salt_ast.specs.declared.programs.PartDef.{PartDef}
use Rattle.salt_ast.specs.declared.programs.ProgramDef.{ProgramDef}
use Rattle.salt_cont.specs.Moves.{move_on}
use Rattle.salt_bytes.specs.declared.moves.Move.TheVariants as move
use Rattle.salt_bytes.specs.declared.moves.Move.{Move}
use Rattle.salt_values.specs.declared.cont.Cont.{Cont}
use Rattle.salt_values.specs.declared.value.Value.{Value}
use Rattle.salt_values.specs.declared.value.Value.TheVariants as value
use Rattle.std.specs.Prelude.{Bool, List, None, Option, Some, [], codes, false, pos, refl, true, ℕ, ◌∷◌, ◌≡◌}

abbrev part : Option ℕ → Option Next → PartDef
part retry on_failure = record { block = []; then = None; retry = retry; on_failure = on_failure }

-- the second part is tried three times, and then the third one twice
abbrev program : ProgramDef
program = record {
  name = codes "p";
  params = [];
  vars = [];
  body = body.Base (part None None ∷ part (Some 2) (Some (next.Part 3)) ∷ part (Some 1) (Some next.End) ∷ []);
}

abbrev old_vars : List Value
old_vars = value.Int (pos 1) ∷ []

abbrev new_vars : List Value
new_vars = value.Int (pos 2) ∷ []

abbrev standing_at : (part tries : ℕ) → List Value → Cont
standing_at part tries vars = record { base = record { boot = 1; seq = 2 }; accepted = 3; program = codes "p"; args = []; vars = vars; next = part; tries = tries }

abbrev moves : (part tries : ℕ) → (failed : Bool) → Move
moves part tries failed = move_on (program ∷ []) (standing_at part tries old_vars) new_vars failed

commit_of_first : moves 1 0 false ≡ move.Continue (standing_at 2 2 new_vars)
commit_of_first = refl

failure_with_tries : moves 2 2 true ≡ move.Continue (standing_at 2 1 old_vars)
failure_with_tries = refl

failure_without : moves 2 0 true ≡ move.Continue (standing_at 3 1 old_vars)
failure_without = refl

commit_after_a_failure : moves 2 1 false ≡ move.Continue (standing_at 3 1 new_vars)
commit_after_a_failure = refl

commit_of_last : moves 3 1 false ≡ move.Finish (record { boot = 1; seq = 2 })
commit_of_last = refl

last_failure : moves 3 0 true ≡ move.Finish (record { boot = 1; seq = 2 })
last_failure = refl
