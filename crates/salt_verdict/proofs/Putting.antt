-- Variables that are put in where programs go on, beside what a commit makes of where those stand.
use Rattle.salt_ast.specs.Paths.{Position, next_on_commit}
use Rattle.salt_ast.specs.ProgramJudgement.{program_named}
use Rattle.salt_ast.specs.declared.programs.ProgramDef.{ProgramDef}
use Rattle.salt_audit.specs.Standing.{cont_named, is_of}
use Rattle.salt_audit.specs.Telling.{IsBehind, committed_by, conts_by, conts_ended, first_by, later_by, moved_by, program_by, tries_of, way_behind}
use Rattle.salt_audit.specs.declared.state.Begun.{Begun}
use Rattle.salt_audit.specs.declared.state.State.{State}
use Rattle.salt_model.specs.Kept.{begun_cont, change_cont, moved, parts_of, values_kept, without_cont}
use Rattle.salt_model.specs.declared.events.End.TheVariants as end
use Rattle.salt_model.specs.declared.events.Event.TheVariants as event
use Rattle.salt_model.specs.declared.events.Event.{Event}
use Rattle.salt_model.specs.declared.events.UnitKind.TheVariants.{Acid, Call, First, Later}
use Rattle.salt_model.specs.declared.events.UnitKind.{UnitKind}
use Rattle.salt_model.specs.declared.vars.Binding.{Binding}
use Rattle.salt_values.specs.Id.{is_same_id}
use Rattle.salt_values.specs.declared.cont.Cont.{Cont}
use Rattle.salt_values.specs.declared.id.Id.{Id}
use Rattle.salt_values.specs.declared.value.Value.{Value}
use Rattle.salt_verdict.specs.Goings.{begun_with, conts_kept, conts_noted, moved_with, put_before, put_behind, put_for, put_for_kind, set_values, values_behind, values_for_kind, values_named, with_values}
use Rattle.std.proofs.Common.{ap, arith, subst, sym, ◌∙◌}
use Rattle.std.specs.List.{position_from}
use Rattle.std.specs.Prelude.{Bool, List, None, Option, Some, [], cond, false, length, option_and_then, refl, set, slice_get, suc, true, zero, ℕ, ◌+◌, ◌++◌, ◌∷◌, ◌≡◌}

-- AT A PLACE

pub none_there : (values : List Value) (cs : List Cont) (at : ℕ) → slice_get cs at ≡ None → cs ≡ set_values at values cs
none_there values [] at none = refl
none_there values (c ∷ cs) zero none = absurd cc
none_there values (c ∷ cs) (suc at) none = ap (λ l. c ∷ l) (none_there values cs at none)

pub set_there : (values : List Value) (cs : List Cont) (at : ℕ) (c : Cont) → slice_get cs at ≡ Some c → set cs at (with_values values c) ≡ set_values at values cs
set_there values [] at c some = absurd cc
set_there values (d ∷ cs) zero c some = let is : d ≡ c = cc in ap (λ (z : Cont). with_values values z ∷ cs) (sym is)
set_there values (d ∷ cs) (suc at) c some = ap (λ l. d ∷ l) (set_there values cs at c some)

beyond : (values : List Value) (cs : List Cont) → set_values (length cs) values cs ≡ cs
beyond values [] = refl
beyond values (c ∷ cs) = ap (λ l. c ∷ l) (beyond values cs)

at_end : (values : List Value) (cs : List Cont) (c : Cont) → set_values (length cs) values (cs ++ c ∷ []) ≡ cs ++ with_values values c ∷ []
at_end values [] c = refl
at_end values (d ∷ cs) c = ap (λ l. d ∷ l) (at_end values cs c)

-- AT A PROGRAM

module _ (b : Id) (values : List Value) where
  set_from : (m : ℕ) (cs : List Cont) (at : ℕ) → position_from (is_of b) m cs ≡ Some at →
      (j : ℕ) × (at ≡ m + j) × (set_values j values cs ≡ change_cont b (with_values values) cs)
  set_from m [] at e = absurd cc
  set_from m (c ∷ cs) at e = by (is_same_id b c.base) e (set_from (m + 1) cs at)
    where
      by : (t : Bool) → cond t (Some m) (position_from (is_of b) (m + 1) cs) ≡ Some at →
          (position_from (is_of b) (m + 1) cs ≡ Some at → (j : ℕ) × (at ≡ (m + 1) + j) × (set_values j values cs ≡ change_cont b (with_values values) cs)) →
          (j : ℕ) × (at ≡ m + j) × (set_values j values (c ∷ cs) ≡ cond t (with_values values c ∷ cs) (c ∷ change_cont b (with_values values) cs))
      by true f more = let same : m ≡ at = cc in (0, omega arith, refl)
      by false f more =
          let r = more f in
          let place : at ≡ (m + 1) + r.0 = r.1 in
          (suc r.0, omega arith, ap (λ l. c ∷ l) r.2)

  pub set_first : (cs : List Cont) (at : ℕ) → position_from (is_of b) 0 cs ≡ Some at → set_values at values cs ≡ change_cont b (with_values values) cs
  set_first cs at e =
      let r = set_from 0 cs at e in
      let place : at ≡ 0 + r.0 = r.1 in
      let same : r.0 ≡ at = omega arith in
      subst (λ (j : ℕ). set_values j values cs ≡ change_cont b (with_values values) cs) same r.2

  none_from : (m : ℕ) (cs : List Cont) → position_from (is_of b) m cs ≡ None → cs ≡ change_cont b (with_values values) cs
  none_from m [] e = refl
  none_from m (c ∷ cs) e = by (is_same_id b c.base) e (none_from (m + 1) cs)
    where
      by : (t : Bool) → cond t (Some m) (position_from (is_of b) (m + 1) cs) ≡ None → (position_from (is_of b) (m + 1) cs ≡ None → cs ≡ change_cont b (with_values values) cs) →
          c ∷ cs ≡ cond t (with_values values c ∷ cs) (c ∷ change_cont b (with_values values) cs)
      by true f more = absurd cc
      by false f more = ap (λ l. c ∷ l) (more f)

  pub none_first : (cs : List Cont) → position_from (is_of b) 0 cs ≡ None → cs ≡ change_cont b (with_values values) cs
  none_first cs e = none_from 0 cs e

  -- what is changed again
  twice : (g : Cont → Cont) (cs : List Cont) → change_cont b g (change_cont b (with_values values) cs) ≡ change_cont b (λ (c : Cont). g (with_values values c)) cs
  twice g [] = refl
  twice g (c ∷ cs) = by (is_same_id b c.base) refl (twice g cs)
    where
      by : (t : Bool) → is_same_id b c.base ≡ t → change_cont b g (change_cont b (with_values values) cs) ≡ change_cont b (λ (d : Cont). g (with_values values d)) cs →
          change_cont b g (cond t (with_values values c ∷ cs) (c ∷ change_cont b (with_values values) cs))
          ≡ cond t (g (with_values values c) ∷ cs) (c ∷ change_cont b (λ (d : Cont). g (with_values values d)) cs)
      by true is more = ap (λ (s : Bool). cond s (g (with_values values c) ∷ cs) (with_values values c ∷ change_cont b g cs)) is
      by false is more =
          ap (λ (s : Bool). cond s (g c ∷ change_cont b (with_values values) cs) (c ∷ change_cont b g (change_cont b (with_values values) cs))) is
          ∙ ap (λ l. c ∷ l) more

  gone : (cs : List Cont) → without_cont b (change_cont b (with_values values) cs) ≡ without_cont b cs
  gone [] = refl
  gone (c ∷ cs) = by (is_same_id b c.base) refl (gone cs)
    where
      by : (t : Bool) → is_same_id b c.base ≡ t → without_cont b (change_cont b (with_values values) cs) ≡ without_cont b cs →
          without_cont b (cond t (with_values values c ∷ cs) (c ∷ change_cont b (with_values values) cs)) ≡ cond t cs (c ∷ without_cont b cs)
      by true is more = ap (λ (s : Bool). cond s cs (with_values values c ∷ without_cont b cs)) is
      by false is more =
          ap (λ (s : Bool). cond s (change_cont b (with_values values) cs) (c ∷ without_cont b (change_cont b (with_values values) cs))) is
          ∙ ap (λ l. c ∷ l) more

  moved_same : (way : Option Position) (cs : List Cont) → moved b way (λ (c : Cont). c) (change_cont b (with_values values) cs) ≡ moved b way (with_values values) cs
  moved_same None cs = gone cs
  moved_same (Some at) cs = twice (λ (c : Cont). record c { next = at.part; tries = at.tries }) cs

  -- its program stays
  named_same : (catalogue : List ProgramDef) (cs : List Cont) → program_by catalogue (change_cont b (with_values values) cs) b ≡ program_by catalogue cs b
  named_same catalogue [] = refl
  named_same catalogue (c ∷ cs) = by (is_same_id b c.base) refl (named_same catalogue cs)
    where
      defined : Option Cont → Option ProgramDef
      defined o = option_and_then (λ (d : Cont). program_named catalogue d.program) o

      by : (t : Bool) → is_same_id b c.base ≡ t → program_by catalogue (change_cont b (with_values values) cs) b ≡ program_by catalogue cs b →
          program_by catalogue (cond t (with_values values c ∷ cs) (c ∷ change_cont b (with_values values) cs)) b
          ≡ option_and_then (λ (d : Cont). program_named catalogue d.program) (cond t (Some c) (cont_named b cs))
      by true is more = ap (λ (s : Bool). defined (cond s (Some (with_values values c)) (cont_named b cs))) is
      by false is more = ap (λ (s : Bool). defined (cond s (Some c) (cont_named b (change_cont b (with_values values) cs)))) is ∙ more

-- A COMMIT

module _ (catalogue : List ProgramDef) (vars : List Binding) where
  later_same : (b : Id) (part : ℕ) (o : Option ProgramDef) (cs : List Cont) → program_by catalogue cs b ≡ o →
      later_by false catalogue b part (put_for b vars o cs) ≡ moved_with b part vars o cs
  later_same b part None cs is = ap (λ (o : Option ProgramDef). moved_by b (way_behind false part (tries_of (cont_named b cs))) o cs) is
  later_same b part (Some p) cs is =
      let values = values_kept p vars in
      let after = change_cont b (with_values values) cs in
      ap (λ (o : Option ProgramDef). moved_by b (way_behind false part (tries_of (cont_named b after))) o after) (named_same b values catalogue cs ∙ is)
      ∙ moved_same b values (next_on_commit (parts_of p) part) cs

  first_same : (b : Id) (n : ℕ) (args : List Value) (o : Option ProgramDef) (cs : List Cont) →
      set_values (length cs) (values_named vars o) (first_by b n args o cs) ≡ begun_with b n args vars o cs
  first_same b n args None cs = beyond [] cs
  first_same b n args (Some p) cs = by (next_on_commit (parts_of p) 1)
    where
      by : (way : Option Position) → set_values (length cs) (values_kept p vars) (begun_cont b n p args [] way cs) ≡ begun_cont b n p args vars way cs
      by None = beyond (values_kept p vars) cs
      by (Some at) =
          at_end (values_kept p vars) cs (record { base = b; accepted = n; program = p.name; args = args; vars = values_kept p []; next = at.part; tries = at.tries })

  pub commits_exactly : (n : ℕ) (o : Option Begun) (cs : List Cont) →
      put_behind (length (put_before catalogue vars o cs)) (values_behind catalogue vars o) (conts_ended catalogue (end.Committed n) o (put_before catalogue vars o cs))
      ≡ conts_noted catalogue n vars o cs
  commits_exactly n None cs = refl
  commits_exactly n (Some unit) cs = of_kind unit.kind
    where
      of_kind : (kind : UnitKind) →
          put_behind (length (put_for_kind catalogue vars kind cs)) (values_for_kind catalogue vars kind) (committed_by catalogue n kind (put_for_kind catalogue vars kind cs))
          ≡ conts_kept catalogue n vars kind cs
      of_kind (Acid session) = refl
      of_kind (Call session name args) = refl
      of_kind (First session b name args) = first_same b n args (program_named catalogue name) cs
      of_kind (Later b part) = later_same b part (program_by catalogue cs b) cs refl

-- what is told of the end asks not where programs go on, but for these
pub commit_behind : (s t : State) (cs : List Cont) (u : Id) (n : ℕ) → IsBehind (record s { conts = cs }) t (event.Ended u (end.Committed n)) →
    IsBehind s (record t { conts = conts_by (event.Ended u (end.Committed n)) s }) (event.Ended u (end.Committed n))
commit_behind s t cs u n b = record {
  opened = b.opened;
  schema = b.schema;
  programs = b.programs;
  conts = refl;
  units = b.units;
  bases = b.bases;
  accepted = b.accepted;
  finished = b.finished;
}

pub told_behind : (s t : State) (e : Event) → IsBehind s t e → IsBehind s (record t { conts = conts_by e s }) e
told_behind s t e b = record {
  opened = b.opened;
  schema = b.schema;
  programs = b.programs;
  conts = refl;
  units = b.units;
  bases = b.bases;
  accepted = b.accepted;
  finished = b.finished;
}
