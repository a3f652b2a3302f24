-- Where programs go on behind a commit, with their variables.
use Rattle.salt_ast.specs.Paths.{next_on_commit}
use Rattle.salt_ast.specs.ProgramJudgement.{program_named}
use Rattle.salt_ast.specs.declared.programs.ProgramDef.{ProgramDef}
use Rattle.salt_audit.specs.Telling.{program_by}
use Rattle.salt_audit.specs.declared.state.Begun.{Begun}
use Rattle.salt_model.specs.Kept.{begun_cont, change_cont, moved, parts_of, values_kept}
use Rattle.salt_model.specs.declared.events.UnitKind.TheVariants.{Acid, Call, First, Later}
use Rattle.salt_model.specs.declared.events.UnitKind.{UnitKind}
use Rattle.salt_model.specs.declared.vars.Binding.{Binding}
use Rattle.salt_values.specs.declared.cont.Cont.{Cont}
use Rattle.salt_values.specs.declared.id.Id.{Id}
use Rattle.salt_values.specs.declared.value.Value.{Value}
use Rattle.std.specs.Prelude.{List, None, Option, Some, [], suc, zero, ℕ, ◌∷◌}

-- a program that is not there begins to go on nowhere
abbrev pub begun_with : Id → ℕ → List Value → List Binding → Option ProgramDef → List Cont → List Cont
begun_with b n args vars None cs = cs
begun_with b n args vars (Some p) cs = begun_cont b n p args vars (next_on_commit (parts_of p) 1) cs

abbrev pub moved_with : Id → ℕ → List Binding → Option ProgramDef → List Cont → List Cont
moved_with b part vars None cs = cs
moved_with b part vars (Some p) cs = moved b (next_on_commit (parts_of p) part) (λ (c : Cont). record c { vars = values_kept p vars }) cs

-- a unit of this kind commits by decision n with these variables
abbrev pub conts_kept : List ProgramDef → ℕ → List Binding → UnitKind → List Cont → List Cont
conts_kept catalogue n vars (Acid session) cs = cs
conts_kept catalogue n vars (Call session name args) cs = cs
conts_kept catalogue n vars (First session b name args) cs = begun_with b n args vars (program_named catalogue name) cs
conts_kept catalogue n vars (Later b part) cs = moved_with b part vars (program_by catalogue cs b) cs

abbrev pub conts_noted : List ProgramDef → ℕ → List Binding → Option Begun → List Cont → List Cont
conts_noted catalogue n vars None cs = cs
conts_noted catalogue n vars (Some unit) cs = conts_kept catalogue n vars unit.kind cs

-- VARIABLES ARE PUT IN WHERE A PROGRAM GOES ON: of a later part before it is moved, and behind a first part at the end

abbrev pub values_named : List Binding → Option ProgramDef → List Value
values_named vars None = []
values_named vars (Some p) = values_kept p vars

abbrev pub with_values : List Value → Cont → Cont
with_values values c = record c { vars = values }

abbrev pub put_for : Id → List Binding → Option ProgramDef → List Cont → List Cont
put_for b vars None cs = cs
put_for b vars (Some p) cs = change_cont b (with_values (values_kept p vars)) cs

abbrev pub put_for_kind : List ProgramDef → List Binding → UnitKind → List Cont → List Cont
put_for_kind catalogue vars (Later b part) cs = put_for b vars (program_by catalogue cs b) cs
put_for_kind catalogue vars kind cs = cs

abbrev pub put_before : List ProgramDef → List Binding → Option Begun → List Cont → List Cont
put_before catalogue vars None cs = cs
put_before catalogue vars (Some unit) cs = put_for_kind catalogue vars unit.kind cs

abbrev pub values_for_kind : List ProgramDef → List Binding → UnitKind → Option (List Value)
values_for_kind catalogue vars (First session b name args) = Some (values_named vars (program_named catalogue name))
values_for_kind catalogue vars kind = None

abbrev pub values_behind : List ProgramDef → List Binding → Option Begun → Option (List Value)
values_behind catalogue vars None = None
values_behind catalogue vars (Some unit) = values_for_kind catalogue vars unit.kind

abbrev pub set_values : ℕ → List Value → List Cont → List Cont
set_values at values [] = []
set_values zero values (c ∷ cs) = with_values values c ∷ cs
set_values (suc at) values (c ∷ cs) = c ∷ set_values at values cs

abbrev pub put_behind : ℕ → Option (List Value) → List Cont → List Cont
put_behind at None cs = cs
put_behind at (Some values) cs = set_values at values cs
