-- A line that is not refused has no fault, and its session and the disks are in a state for it.
use Rattle.salt_ast.specs.Judgement.{kept_limit, table_fault}
use Rattle.salt_ast.specs.ProgramJudgement.{Known, kept, faulty, line_fault, of_program_fault, program_fault, program_kept_limit}
use Rattle.salt_ast.specs.declared.lines.Line.TheVariants.{Program, Table}
use Rattle.salt_ast.specs.declared.lines.Line.{Line}
use Rattle.salt_ast.specs.declared.programs.ProgramDef.{ProgramDef}
use Rattle.salt_ast.specs.declared.trees.TableDef.{TableDef}
use Rattle.law_states.specs.OpenUnits.{UnitState}
use Rattle.law_states.specs.Refused.{UnderWay, busy_in, known_in, refused_in, wrong_in}
use Rattle.salt_model.specs.Refusals.{defines, refusal_by}
use Rattle.salt_program.specs.Refusals.{program_refusal}
use Rattle.salt_schema.specs.Refusals.{table_refusal}
use Rattle.salt_books.specs.Books.{programs_in, tables_in}
use Rattle.salt_books.specs.declared.books.Books.{Books}
use Rattle.salt_scheduler.specs.Refusals.{known_by, line_refusal}
use Rattle.salt_scheduler.specs.Standing.{IsDefinable}
use Rattle.std.proofs.Common.{ap, subst, ◌∙◌}
use Rattle.std.specs.Bool.{then_some}
use Rattle.std.specs.Option.{option_or}
use Rattle.std.specs.Prelude.{Bool, List, None, Ok, Option, Result, Some, [], false, is_some, option_map, refl, true, ◌&&◌, ◌≡◌}
use Rattle.salt_model.specs.declared.events.Refusal.TheVariants as refused
use Rattle.salt_program.specs.Refusals as programs
use Rattle.salt_program.specs.declared.error.DefineErr.TheVariants as define_error
use Rattle.salt_schema.specs.Refusals as tables
use Rattle.salt_schema.specs.declared.error.SchemaErr.TheVariants as schema_error

none-first : {A : Type 0} (o p : Option A) → option_or o p ≡ None → o ≡ None
none-first None p h = refl
none-first (Some x) p h = cc

none-second : {A : Type 0} (o p : Option A) → option_or o p ≡ None → p ≡ None
none-second None p h = h
none-second (Some x) p h = cc

none-mapped : {A B : Type 0} (f : A → B) (o : Option A) → option_map f o ≡ None → o ≡ None
none-mapped f None h = refl
none-mapped f (Some x) h = cc

false-then : {A : Type 0} (b : Bool) (x : A) → then_some b x ≡ None → b ≡ false
false-then true x h = cc
false-then false x h = refl

both-none : {A B C : Type 0} (f : A → B) (g : A → C) (o : Option A) → option_map f o ≡ None → option_map g o ≡ None
both-none f g None h = refl
both-none f g (Some x) h = cc

pub allowed-faultless : (s : UnitState) (w : UnderWay) (line : Line) → refused_in s w line ≡ None → line_fault (known_in s w) line ≡ None
allowed-faultless s w line h =
    none-mapped refusal_by (line_fault (known_in s w) line)
    (none-first (option_map refusal_by (line_fault (known_in s w) line))
    (option_or (then_some (wrong_in s w line) refused.State) (then_some (defines line && busy_in s w) refused.Busy)) h)

pub allowed-right : (s : UnitState) (w : UnderWay) (line : Line) → refused_in s w line ≡ None → wrong_in s w line ≡ false
allowed-right s w line h =
    let rest = option_or (then_some (wrong_in s w line) refused.State) (then_some (defines line && busy_in s w) refused.Busy) in
    false-then (wrong_in s w line) refused.State
    (none-first (then_some (wrong_in s w line) refused.State) (then_some (defines line && busy_in s w) refused.Busy)
    (none-second (option_map refusal_by (line_fault (known_in s w) line)) rest h))

pub table-allowed : (known : Known) (d : TableDef) → line_fault known (Table d) ≡ None → table_refusal known.schema d ≡ None
unfolding line_fault
table-allowed known d h =
    let limit = none-first (option_map kept (kept_limit known.schema)) (option_map faulty (table_fault known.schema d)) h in
    let fault = none-second (option_map kept (kept_limit known.schema)) (option_map faulty (table_fault known.schema d)) h in
    ap (λ o. option_or o (option_map tables.fault_error (table_fault known.schema d))) (both-none kept (λ _. schema_error.Tables) (kept_limit known.schema) limit)
    ∙ both-none faulty tables.fault_error (table_fault known.schema d) fault

pub program-allowed : (known : Known) (p : ProgramDef) → line_fault known (Program p) ≡ None → program_refusal known.schema known.catalogue p ≡ None
unfolding line_fault
program-allowed known p h =
    let first = option_map kept (program_kept_limit known.catalogue) in
    let second = option_map of_program_fault (program_fault known.schema known.catalogue p) in
    let limit = none-first first second h in
    let fault = none-second first second h in
    ap (λ o. option_or o (option_map programs.fault_error (program_fault known.schema known.catalogue p))) (both-none kept (λ _. define_error.Programs) (program_kept_limit known.catalogue) limit)
    ∙ both-none of_program_fault programs.fault_error (program_fault known.schema known.catalogue p) fault

-- by what the books know
pub definable : (line : Line) (x : Books) (schema : List TableDef) (catalogue : List ProgramDef) → schema ≡ tables_in x → catalogue ≡ programs_in x →
    line_refusal (known_by schema catalogue [] 0) line ≡ None → IsDefinable line x
definable (Table d) x schema catalogue tables programs none =
    subst (λ (ts : List TableDef). table_refusal ts d ≡ None) tables
    (table-allowed (known_by schema catalogue [] 0) d (none-mapped refusal_by (line_fault (known_by schema catalogue [] 0) (Table d)) none))
definable (Program p) x schema catalogue tables programs none =
    subst (λ (ts : List TableDef). program_refusal ts (programs_in x) p ≡ None) tables
    (subst (λ (ps : List ProgramDef). program_refusal schema ps p ≡ None) programs
    (program-allowed (known_by schema catalogue [] 0) p (none-mapped refusal_by (line_fault (known_by schema catalogue [] 0) (Program p)) none)))
definable line x schema catalogue tables programs none = tt

pub none-refused : {A B : Type 0} (o : Option A) (some : Bool) → some ≡ is_some o → ◌≡◌ {A = Result Bool B} (Ok some) (Ok false) → o ≡ None
none-refused None some told is = refl
none-refused (Some x) some told is = let no : some ≡ true = told in let ok = is in cc
