-- Programs within the limits have few parts, and few statements in each.
use Rattle.salt_ast.specs.Limits.{height_passed, name_passed, passed_in_list, statement_passed}
use Rattle.salt_ast.specs.ProgramLimits.{body_passed, next_passed, outside, part_passed, program_exprs, program_limit, program_passed}
use Rattle.salt_ast.specs.declared.limit.LimitName.TheVariants as limit
use Rattle.salt_ast.specs.declared.limit.LimitName.{LimitName}
use Rattle.salt_ast.specs.declared.programs.Body.TheVariants.{Acid, Base}
use Rattle.salt_ast.specs.declared.programs.Body.{Body}
use Rattle.salt_ast.specs.declared.programs.PartDef.{PartDef}
use Rattle.salt_ast.specs.declared.programs.ProgramDef.{ProgramDef}
use Rattle.salt_cont.proofs.Defined.{of-named, one-more}
use Rattle.salt_cont.specs.Catalogues.{AllAreFew}
use Rattle.salt_cont.specs.Moves.{parts_named}
use Rattle.salt_cont.specs.Rests.{AreFew}
use Rattle.salt_program.specs.Refusals.{parts_in}
use Rattle.salt_values.specs.declared.limits.TheConstants.{PARAMETERS_MOST, PARTS_MOST, RETRY_MOST, STATEMENTS_MOST, VARIABLES_MOST}
use Rattle.std.proofs.Common.{arith, get_or, suc, zero}
use Rattle.std.specs.Option.{option_or}
use Rattle.std.specs.Prelude.{List, None, Option, Some, [], length, option_and_then, refl, ℕ, ◌++◌, ◌<◌, ◌∷◌, ◌≡◌, ◌≤◌}

first : (a b : Option LimitName) → option_or a b ≡ None → a ≡ None
first None b h = refl
first (Some l) b h = absurd cc

second : (a b : Option LimitName) → option_or a b ≡ None → b ≡ None
second None b h = h
second (Some l) b h = absurd cc

few : {A : Type 0} (room : ℕ) (l : LimitName) (passed : A → Option LimitName) (xs : List A) → passed_in_list room l passed xs ≡ None → length xs ≤ room
few room l passed [] h = omega arith
few zero l passed (x ∷ xs) h = absurd cc
few (suc room) l passed (x ∷ xs) h = let more = few room l passed xs (second (passed x) (passed_in_list room l passed xs) h) in omega (arith, more)

each : {A : Type 0} (room : ℕ) (l : LimitName) (passed : A → Option LimitName) (xs : List A) → passed_in_list room l passed xs ≡ None → (k : ℕ) (d : A) → k < length xs → passed (get_or xs k d) ≡ None
each room l passed [] h k d lt = absurd (omega (arith, lt))
each zero l passed (x ∷ xs) h k d lt = absurd cc
each (suc room) l passed (x ∷ xs) h zero d lt = first (passed x) (passed_in_list room l passed xs) h
each (suc room) l passed (x ∷ xs) h (suc k) d lt = each room l passed xs (second (passed x) (passed_in_list room l passed xs) h) k d (omega (arith, lt))

none-few : AreFew []
none-few = record { count = omega arith; blocks = λ k d lt. absurd (omega (arith, lt)) }

few-parts : (b : Body) → body_passed b ≡ None → AreFew (parts_in b)
few-parts (Acid block) h = none-few
few-parts (Base parts) h = record {
  count = few PARTS_MOST limit.Parts part_passed parts h;
  blocks = λ k d lt. small (get_or parts k d) (each PARTS_MOST limit.Parts part_passed parts h k d lt);
}
  where
    small : (p : PartDef) → part_passed p ≡ None → length p.block ≤ STATEMENTS_MOST
    small p h = few STATEMENTS_MOST limit.Statements statement_passed p.block
        (first (passed_in_list STATEMENTS_MOST limit.Statements statement_passed p.block) (option_or (option_and_then next_passed p.then) (option_or (option_and_then (outside 1 RETRY_MOST limit.Retry) p.retry) (option_and_then next_passed p.on_failure))) h)

-- a program within the limits
pub few-in-program : (p : ProgramDef) → program_limit p ≡ None → AreFew (parts_in p.body)
unfolding program_limit
few-in-program p h =
    few-parts p.body
    (second (passed_in_list VARIABLES_MOST limit.Variables (λ f. name_passed f.name) p.vars) (body_passed p.body)
    (second (passed_in_list PARAMETERS_MOST limit.Parameters (λ f. name_passed f.name) p.params) (option_or (passed_in_list VARIABLES_MOST limit.Variables (λ f. name_passed f.name) p.vars) (body_passed p.body))
    (second (name_passed p.name) (option_or (passed_in_list PARAMETERS_MOST limit.Parameters (λ f. name_passed f.name) p.params) (option_or (passed_in_list VARIABLES_MOST limit.Variables (λ f. name_passed f.name) p.vars) (body_passed p.body)))
    (first (program_passed p) (height_passed (program_exprs p)) h))))

pub limited : (catalogue : List ProgramDef) (p : ProgramDef) → AllAreFew catalogue → program_limit p ≡ None → AllAreFew (catalogue ++ p ∷ [])
limited catalogue p all h = one-more (λ (q : ProgramDef). AreFew (parts_in q.body)) catalogue p all (few-in-program p h)

pub are-few : (catalogue : List ProgramDef) (name : List ℕ) → AllAreFew catalogue → AreFew (parts_named catalogue name)
are-few catalogue name all = of-named AreFew catalogue name none-few all
