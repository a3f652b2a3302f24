-- What a line brings first: calls give what the state tells.
use Rattle.salt_ast.specs.ProgramJudgement.{line_fault}
use Rattle.salt_ast.specs.declared.lines.Act.{Act}
use Rattle.salt_ast.specs.declared.lines.Act.TheVariants.{Do, Rollback}
use Rattle.salt_ast.specs.declared.lines.Line.{Line}
use Rattle.salt_ast.specs.declared.lines.Line.TheVariants as line_of
use Rattle.salt_ast.specs.declared.lines.Line.TheVariants.{Program, Table}
use Rattle.salt_ast.specs.declared.programs.ProgramDef.{ProgramDef}
use Rattle.salt_ast.specs.declared.trees.Statement.{Statement}
use Rattle.salt_ast.specs.declared.trees.TableDef.{TableDef}
use Rattle.salt_books.specs.Books.{AreBooks}
use Rattle.salt_books.specs.Held.{seen}
use Rattle.salt_books.specs.declared.held.Held.{Held}
use Rattle.salt_scheduler.proofs.Allowing.{allowed-faultless, program-allowed, table-allowed}
use Rattle.salt_scheduler.proofs.Done.{at-follow, called-stays, gives, state_by, sub-called}
use Rattle.salt_scheduler.proofs.Found.{found-named}
use Rattle.salt_scheduler.specs.Follows.{FollowsOn}
use Rattle.salt_scheduler.specs.Serving.{is_prepared_line, is_served}
use Rattle.salt_books.specs.Sound.{IsSoundState}
use Rattle.salt_scheduler.specs.Standing.{AnswersWith, IsAllowed, StandsForState}
use Rattle.salt_scheduler.specs.declared.scheduler.Scheduler.{Scheduler}
use Rattle.salt_scheduler.specs.declared.follow.Follow.TheVariants.{Nothing}
use Rattle.law_states.proofs.Rising.{names-rise}
use Rattle.law_states.specs.Members.{In}
use Rattle.law_states.specs.OpenUnits.{OpenUnit, UnitState, unit_named}
use Rattle.law_states.specs.Readings.{first_parts, under_way_of}
use Rattle.law_states.specs.Refused.{known_in}
use Rattle.law_states.specs.States.{State, named_by}
use Rattle.law_states.specs.Steps.{units_after}
use Rattle.law_states.specs.Told.{Clashes, Items, act_in, begins_in, calls_in, goes_on_in, kind_called_in, line_in, turn_of_in}
use Rattle.law_states.specs.UnitFacts.{facts_in}
use Rattle.salt_model.specs.Kept.{cont_of, kept_program}
use Rattle.salt_model.specs.declared.events.End.TheVariants.{RolledBack}
use Rattle.salt_model.specs.declared.events.Event.{Event}
use Rattle.salt_model.specs.declared.events.Event.TheVariants.{Ended}
use Rattle.salt_model.specs.declared.events.UnitKind.{UnitKind}
use Rattle.salt_model.specs.declared.events.UnitKind.TheVariants.{Acid, Later}
use Rattle.salt_program.specs.Refusals.{program_refusal}
use Rattle.salt_schema.specs.Refusals.{table_refusal}
use Rattle.salt_values.specs.declared.cont.Cont.{Cont}
use Rattle.salt_values.specs.declared.id.Id.{Id}
use Rattle.salt_values.specs.declared.value.Value.{Value}
use Rattle.salt_conflicts.proofs.Others.{others}
use Rattle.salt_conflicts.specs.Watched.{IsOfNoWatch, IsWatch}
use Rattle.std.proofs.Common.{ap, subst, sym, ◌∙◌}
use Rattle.std.specs.List.{find}
use Rattle.std.specs.Prelude.{Bool, List, None, Option, Some, false, option_map, refl, true, ℕ, ◌≡◌}

-- DEFINITIONS that are not refused.

pub table-may : (line : Line) (x : Scheduler) (d : TableDef) → IsAllowed line x → line ≡ Table d → table_refusal x.books.known.schema d ≡ None
table-may line x d h same =
    let s = h.0 in
    let known = known_in s.units (under_way_of s) in
    subst (λ schema. table_refusal schema d ≡ None) (sym h.1.books.known.schema)
    (table-allowed known d (subst (λ l. line_fault known l ≡ None) same (allowed-faultless s.units (under_way_of s) line h.2.allowed)))

pub program-may : (line : Line) (x : Scheduler) (p : ProgramDef) → IsAllowed line x → line ≡ Program p →
    program_refusal x.books.known.schema x.books.known.catalogue p ≡ None
program-may line x p h same =
    let s = h.0 in
    let known = known_in s.units (under_way_of s) in
    subst (λ schema. program_refusal schema x.books.known.catalogue p ≡ None) (sym h.1.books.known.schema)
    (subst (λ catalogue. program_refusal known.schema catalogue p ≡ None) (sym h.1.books.known.catalogue)
    (program-allowed known p (subst (λ l. line_fault known l ≡ None) same (allowed-faultless s.units (under_way_of s) line h.2.allowed))))

-- an event of no lock, wait, unit or program, which nothing follows
pub quiet : (e : Event) (s : State) (x new : Scheduler) (given : Option Event) → is_served e ≡ true → IsOfNoWatch e →
    FollowsOn Nothing e s.units (units_after e s.units) → (units_after e s.units).units ≡ s.units.units →
    ((b : Id) → named_by e s.names b ≡ s.names b) → StandsForState x s → new.follow ≡ Nothing → new.watch ≡ x.watch → new.called ≡ x.called →
    new.calm ≡ x.calm → AreBooks new.books (units_after e s.units) → given ≡ Some e → AnswersWith s (Some e) new given
quiet e s x new given served none follows units names stands follow watch called calm books told =
    let t = state_by e s s.watch in
    gives IsWatch e s s.watch x new given stands told (at-follow Nothing e s s.watch new follow (record {
      served = served;
      follows = follows;
      watch = others s.watch (facts_in s.units e) e none;
      watched = subst (λ v. IsWatch v s.watch) (sym watch) stands.watch;
      books = books;
      called = called-stays IsWatch Nothing s t x new stands called names
          (sub-called Nothing x.follow s t refl (λ b i. i) (λ b i. subst (λ os. In b (first_parts os)) units i));
      calm = λ is. stands.calm (sym calm ∙ is);
    }))

-- LINES that bring nothing: those that are not prepared, of no unit and no program, and show nothing.

pub nothing-first : (s : UnitState) (clash : Clashes) (items : Items) (line : Line) → is_prepared_line line ≡ false → ((t : ℕ) (act : Act) → line ≡ line_of.Session t act → ⊥) →
    ((b : Id) → line ≡ line_of.Go b → ⊥) → (line ≡ line_of.ShowLocks → ⊥) → (line ≡ line_of.ShowBases → ⊥) → line_in s clash items line ≡ None
nothing-first s clash items (Table d) plain no_session no_go no_locks no_bases = cc
nothing-first s clash items (Program p) plain no_session no_go no_locks no_bases = cc
nothing-first s clash items (line_of.Crash pairs) plain no_session no_go no_locks no_bases = cc
nothing-first s clash items (line_of.Net pairs) plain no_session no_go no_locks no_bases = cc
nothing-first s clash items (line_of.Session t act) plain no_session no_go no_locks no_bases = absurd (no_session t act refl)
nothing-first s clash items (line_of.Go b) plain no_session no_go no_locks no_bases = absurd (no_go b refl)
nothing-first s clash items line_of.ShowLocks plain no_session no_go no_locks no_bases = absurd (no_locks refl)
nothing-first s clash items line_of.ShowBases plain no_session no_go no_locks no_bases = absurd (no_bases refl)
nothing-first s clash items line_of.Nothing plain no_session no_go no_locks no_bases = refl
nothing-first s clash items line_of.GoAll plain no_session no_go no_locks no_bases = refl

-- CALLS, by the kind of the unit that is to begin.

pub calls-as : (s : UnitState) (t : ℕ) (n : List ℕ) (args : List Value) (kind : Option UnitKind) →
    kind ≡ option_map (λ (p : ProgramDef). kind_called_in s t n args p.body) (kept_program n s.kept) → calls_in s t n args ≡ option_map (begins_in s) kind
calls-as s t n args kind h = by (kept_program n s.kept) h
  where
    kind_of : ProgramDef → UnitKind
    kind_of p = kind_called_in s t n args p.body

    by : (o : Option ProgramDef) → kind ≡ option_map (λ (p : ProgramDef). kind_called_in s t n args p.body) o →
        option_map (λ (p : ProgramDef). begins_in s (kind_called_in s t n args p.body)) o ≡ option_map (begins_in s) kind
    by None g = sym (ap (option_map (begins_in s)) g)
    by (Some p) g = sym (ap (option_map (begins_in s)) g)

-- UNITS of sessions and programs are those of their names.

names-seen : (held : Option Held) → option_map (λ (h : Held). (seen h).unit) held ≡ option_map (λ (o : OpenUnit). o.unit) (option_map seen held)
names-seen None = refl
names-seen (Some h) = refl

pub name-told : (held : Option Held) (o : Option OpenUnit) (name told : Option Id) → name ≡ told → name ≡ option_map (λ (h : Held). (seen h).unit) held →
    option_map seen held ≡ o → told ≡ option_map (λ (o : OpenUnit). o.unit) o
name-told held o name told is named same = sym is ∙ named ∙ names-seen held ∙ ap (option_map (λ (o : OpenUnit). o.unit)) same

pub named-so : (p : OpenUnit → Bool) (s : State) (u : Id) → IsSoundState s → Some u ≡ option_map (λ (o : OpenUnit). o.unit) (find p s.units.units) →
    unit_named u s.units.units ≡ find p s.units.units
named-so p s u sound h = by (find p s.units.units) refl h
  where
    by : (o : Option OpenUnit) → find p s.units.units ≡ o → Some u ≡ option_map (λ (o : OpenUnit). o.unit) o → unit_named u s.units.units ≡ o
    by None found g = absurd cc
    by (Some o) found g =
        let same : o.unit ≡ u = cc in
        subst (λ v. unit_named v s.units.units ≡ Some o) same
        (found-named p s.units.units o (names-rise s.units sound.trace sound.keeps.units sound.sound.played sound.sound.well) found)

pub none-so : (o : Option OpenUnit) → None ≡ option_map (λ (o : OpenUnit). o.unit) o → o ≡ None
none-so None h = refl
none-so (Some o) h = cc

-- ACTS, by the open unit of their session.

pub does-alone : (s : UnitState) (clash : Clashes) (t : ℕ) (act : Act) (st : Statement) (o : Option OpenUnit) → act ≡ Do st → o ≡ None →
    act_in s clash t act o ≡ Some (begins_in s (Acid t))
does-alone s clash t act st o is h = ap (λ (a : Act). act_in s clash t a o) is ∙ ap (act_in s clash t (Do st)) h

pub does-within : (s : UnitState) (clash : Clashes) (t : ℕ) (u : Id) (act : Act) (st : Statement) (o : Option OpenUnit) → act ≡ Do st →
    Some u ≡ option_map (λ (o : OpenUnit). o.unit) o → act_in s clash t act o ≡ turn_of_in s clash o
does-within s clash t u act st None is h = cc
does-within s clash t u act st (Some o) is h = ap (λ (a : Act). act_in s clash t a (Some o)) is

pub rolls-back : (s : UnitState) (clash : Clashes) (t : ℕ) (u : Id) (o : Option OpenUnit) → Some u ≡ option_map (λ (o : OpenUnit). o.unit) o →
    act_in s clash t Rollback o ≡ Some (Ended u RolledBack)
rolls-back s clash t u None h = cc
rolls-back s clash t u (Some o) h = let same : o.unit ≡ u = cc in ap (λ v. Some (Ended v RolledBack)) same

-- PROGRAMS that go on.

pub goes-within : (s : UnitState) (clash : Clashes) (b u : Id) (o : Option OpenUnit) → Some u ≡ option_map (λ (o : OpenUnit). o.unit) o →
    goes_on_in s clash b o ≡ turn_of_in s clash o
goes-within s clash b u None h = cc
goes-within s clash b u (Some o) h = refl

pub goes-later : (s : UnitState) (clash : Clashes) (b : Id) (o : Option OpenUnit) (c : Option Cont) → o ≡ None → cont_of b s.kept ≡ c →
    goes_on_in s clash b o ≡ option_map (λ (c : Cont). begins_in s (Later b c.next)) c
goes-later s clash b o c h g = ap (goes_on_in s clash b) h ∙ ap (option_map (λ (c : Cont). begins_in s (Later b c.next))) g
