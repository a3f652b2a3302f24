-- What is kept at a place of a run: what a start has, and what devices stand for. And what is read off it: tables, programs, parts and ways.
use Rattle.salt_model.specs.Words.{Every}
use Rattle.salt_ast.specs.Paths.{Position, at_number, next_on_commit, next_on_failure, retries}
use Rattle.salt_ast.specs.ProgramJudgement.{program_named}
use Rattle.salt_ast.specs.declared.programs.Body.TheVariants.{Acid, Base}
use Rattle.salt_ast.specs.declared.programs.PartDef.{PartDef}
use Rattle.salt_ast.specs.declared.programs.ProgramDef.{ProgramDef}
use Rattle.salt_ast.specs.declared.trees.ColType.{ColType}
use Rattle.salt_ast.specs.declared.trees.Field.{Field}
use Rattle.salt_ast.specs.declared.trees.Statement.{Statement}
use Rattle.salt_ast.specs.declared.trees.TableDef.{TableDef}
use Rattle.salt_model.specs.Eval.{named_values}
use Rattle.salt_model.specs.Tables.{Tables, no_rows}
use Rattle.salt_model.specs.declared.events.UnitKind.TheVariants.{Acid, Call, First, Later}
use Rattle.salt_model.specs.declared.events.UnitKind.{UnitKind}
use Rattle.salt_model.specs.declared.vars.Binding.{Binding}
use Rattle.salt_values.specs.Id.{is_same_id}
use Rattle.salt_values.specs.declared.cont.Cont.{Cont}
use Rattle.salt_values.specs.declared.id.Id.{Id}
use Rattle.salt_values.specs.declared.value.Value.TheVariants.{Int, Text}
use Rattle.salt_values.specs.declared.value.Value.{Value}
use Rattle.std.specs.List.{filter_map}
use Rattle.std.specs.Prelude.{IsSome, List, None, Option, Some, []}
use Rattle.std.specs.Prelude.{drop, if◌then◌else◌, length, map, option_and_then, option_map, pos, ℕ, ⊤, ◌++◌, ◌<◌, ◌∷◌, ◌≤◌}
use Rattle.std.specs.Option.{option_map_or}

-- a definition, as the line that made it
pub data Definition : Type 0 where
  OfTable : TableDef → Definition
  OfProgram : ProgramDef → Definition

pub record Kept : Type 0 where
  pub boot : ℕ
  pub decisions : ℕ
  pub definitions : List Definition
  pub tables : Tables
  pub conts : List Cont

abbrev pub nothing_kept : Kept
nothing_kept = record { boot = 0; decisions = 0; definitions = []; tables = no_rows; conts = [] }

-- each was accepted by a decision after those of the ones before it, and none by one above n
abbrev pub Rise : ℕ → List Cont → Type 0
Rise n [] = ⊤
Rise n (c ∷ cs) = Every (λ (d : Cont). c.accepted < d.accepted) cs × (c.accepted ≤ n) × Rise n cs

abbrev pub table_of_definition : Definition → Option TableDef
table_of_definition (OfTable d) = Some d
table_of_definition (OfProgram p) = None

abbrev pub program_of_definition : Definition → Option ProgramDef
program_of_definition (OfTable d) = None
program_of_definition (OfProgram p) = Some p

abbrev pub schema_of : Kept → List TableDef
schema_of k = filter_map table_of_definition k.definitions

abbrev pub programs_of : Kept → List ProgramDef
programs_of k = filter_map program_of_definition k.definitions

abbrev pub kept_program : List ℕ → Kept → Option ProgramDef
kept_program n k = program_named (programs_of k) n

abbrev pub cont_in : Id → List Cont → Option Cont
cont_in b [] = None
cont_in b (c ∷ cs) = if is_same_id b c.base then Some c else cont_in b cs

-- the continuation of a program that is accepted and not finished
abbrev pub cont_of : Id → Kept → Option Cont
cont_of b k = cont_in b k.conts

abbrev pub parts_of : ProgramDef → List PartDef
parts_of p = elim p.body [ Acid block ↦ [] | Base parts ↦ parts ]

-- how often a part of a program is tried again; never, where there is no such part
abbrev pub retries_of : Option ProgramDef → (part : ℕ) → ℕ
retries_of o part = option_map_or (λ p. retries (at_number part (parts_of p))) o 0

-- a program has no more tries left than the part at which it stands is tried again
abbrev pub IsWithinTries : Kept → Cont → Type 0
IsWithinTries k c = c.tries ≤ retries_of (kept_program c.program k) c.next

abbrev pub AreTriesWithin : Kept → Type 0
AreTriesWithin k = Every (IsWithinTries k) k.conts

-- what may be kept: its programs are of its boots, were accepted by its decisions, in this order, are defined, and have tries that these definitions give
pub record WellKept (k : Kept) : Type 0 where
  pub boots : Every (λ (c : Cont). c.base.boot ≤ k.boot) k.conts
  pub accepted : Rise k.decisions k.conts
  pub defined : Every (λ (c : Cont). IsSome (kept_program c.program k)) k.conts
  pub tries : AreTriesWithin k

abbrev pub zero_of : ColType → Value
zero_of ColType.Int = Int (pos 0)
zero_of ColType.Text = Text []

abbrev pub zeros : List Field → List Value
zeros fields = map (λ f. zero_of f.kind) fields

-- the arguments, and every variable 0 or the empty text
abbrev pub vars_at_call : ProgramDef → List Value → List Binding
vars_at_call p args = named_values p.params args ++ named_values p.vars (zeros p.vars)

abbrev pub vars_at_cont : ProgramDef → Cont → List Binding
vars_at_cont p c = named_values p.params c.args ++ named_values p.vars c.vars

-- the values of a program's variables, its arguments aside
abbrev pub values_kept : ProgramDef → List Binding → List Value
values_kept p vars = map (λ b. b.value) (drop (length p.params) vars)

-- the variables with which a unit of this kind begins
abbrev pub vars_of_kind : Kept → UnitKind → List Binding
vars_of_kind k (Acid s) = []
vars_of_kind k (Call s n args) = elim (kept_program n k) [ None ↦ [] | Some p ↦ vars_at_call p args ]
vars_of_kind k (First s b n args) = elim (kept_program n k) [ None ↦ [] | Some p ↦ vars_at_call p args ]
vars_of_kind k (Later b part) =
    elim (cont_of b k) [ None ↦ [] | Some c ↦ elim (kept_program c.program k) [ None ↦ [] | Some p ↦ vars_at_cont p c ] ]

abbrev pub block_of_part : ProgramDef → ℕ → List Statement
block_of_part p n = elim (at_number n (parts_of p)) [ None ↦ [] | Some part ↦ part.block ]

abbrev pub block_of_call : ProgramDef → List Statement
block_of_call p = elim p.body [ Acid block ↦ block | Base parts ↦ [] ]

-- the statements of a unit's program or part; a unit of a session has none
abbrev pub block_of_kind : Kept → UnitKind → Option (List Statement)
block_of_kind k (Acid s) = None
block_of_kind k (Call s n args) = option_map block_of_call (kept_program n k)
block_of_kind k (First s b n args) = option_map (λ p. block_of_part p 1) (kept_program n k)
block_of_kind k (Later b part) =
    option_and_then (λ c. option_map (λ p. block_of_part p part) (kept_program c.program k)) (cont_of b k)

abbrev pub without_cont : Id → List Cont → List Cont
without_cont b [] = []
without_cont b (c ∷ cs) = if is_same_id b c.base then cs else c ∷ without_cont b cs

abbrev pub change_cont : Id → (Cont → Cont) → List Cont → List Cont
change_cont b f [] = []
change_cont b f (c ∷ cs) = if is_same_id b c.base then f c ∷ cs else c ∷ change_cont b f cs

-- a continuation that goes on at a position, with these variables, or ends
abbrev pub moved : Id → Option Position → (Cont → Cont) → List Cont → List Cont
moved b None f cs = without_cont b cs
moved b (Some at) f cs = change_cont b (λ c. record (f c) { next = at.part; tries = at.tries }) cs

-- part 1 was committed by decision n: the continuation begins, unless the way is the end
abbrev pub begun_cont : Id → ℕ → ProgramDef → List Value → List Binding → Option Position → List Cont → List Cont
begun_cont b n p args vars None cs = cs
begun_cont b n p args vars (Some at) cs =
    cs ++ record { base = b; accepted = n; program = p.name; args = args; vars = values_kept p vars; next = at.part; tries = at.tries } ∷ []

-- the continuations after a commit
abbrev pub conts_committed : Kept → ℕ → UnitKind → List Binding → List Cont
conts_committed k n (First s b name args) vars = elim (kept_program name k)
    [ None ↦ k.conts | Some p ↦ begun_cont b n p args vars (next_on_commit (parts_of p) 1) k.conts ]
conts_committed k n (Later b part) vars = elim (option_and_then (λ c. kept_program c.program k) (cont_of b k))
    [ None ↦ k.conts | Some p ↦ moved b (next_on_commit (parts_of p) part) (λ c. record c { vars = values_kept p vars }) k.conts ]
conts_committed k n kind vars = k.conts

-- how often the part at which a program stands may still fail and be tried again
abbrev pub tries_left : Id → Kept → ℕ
tries_left b k = elim (cont_of b k) [ None ↦ 0 | Some c ↦ c.tries ]

-- the continuations after a branch
abbrev pub conts_branched : Kept → UnitKind → List Cont
conts_branched k (Later b part) = elim (option_and_then (λ c. kept_program c.program k) (cont_of b k))
    [ None ↦ k.conts | Some p ↦ moved b (next_on_failure (parts_of p) part (tries_left b k)) (λ c. c) k.conts ]
conts_branched k kind = k.conts
