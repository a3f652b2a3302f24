-- What was in flight fits the books: by what was looked at, and where the disks tell by the state.
use Rattle.salt_ast.specs.declared.programs.PartDef.{PartDef}
use Rattle.salt_ast.specs.declared.programs.ProgramDef.{ProgramDef}
use Rattle.salt_ast.specs.declared.trees.TableDef.{TableDef}
use Rattle.salt_books.specs.Books.{programs_in, tables_in}
use Rattle.salt_books.specs.declared.books.Books.{Books}
use Rattle.salt_books.specs.declared.known.Known.{Known}
use Rattle.salt_database.proofs.Booting.{flies-some}
use Rattle.salt_database.proofs.Flown.{branch-there, commit-there, program-allowed, program-flies, table-allowed}
use Rattle.salt_database.specs.Finding.{CanFly, Flies, RestsOrFlies, first_in}
use Rattle.salt_drain.specs.Follows.{rest_in}
use Rattle.salt_drain.specs.Recovering.{books_of}
use Rattle.salt_drain.specs.declared.recovery.Recovery.{Recovery}
use Rattle.salt_engine.specs.declared.flights.InFlight.{InFlight}
use Rattle.salt_engine.specs.declared.flights.InFlight.TheVariants as asked
use Rattle.law_states.specs.OpenUnits.{UnitState}
use Rattle.law_states.specs.States.{State}
use Rattle.salt_model.specs.declared.events.Event.{Event}
use Rattle.salt_program.specs.Refusals as programs
use Rattle.salt_program.specs.Refusals.{parts_in, program_refusal}
use Rattle.salt_program.specs.declared.error.DefineErr.{DefineErr}
use Rattle.salt_schema.specs.Refusals as tables
use Rattle.salt_schema.specs.Refusals.{table_refusal}
use Rattle.salt_schema.specs.declared.error.SchemaErr.{SchemaErr}
use Rattle.std.proofs.Common.{ap, arith, subst, sym, ◌∙◌}
use Rattle.std.proofs.lemmas.Bool.Decides.{nat_tests}
use Rattle.std.specs.Prelude.{Bool, Err, IsSome, List, None, Ok, Option, Result, Some, is_ok, length, nat_le, refl, false, true, ℕ, ◌<◌, ◌^◌, ◌≡◌}

-- BY WHAT WAS LOOKED AT

few : (n : ℕ) → nat_le n 4294967295 ≡ true → n < 2 ^ 32
few n h = grind (arith, nat_tests)

pub few-parts : (p : ProgramDef) (parts : List PartDef) (n : ℕ) → n ≡ length parts → parts ≡ parts_in p.body → nat_le n 4294967295 ≡ true → length (parts_in p.body) < 2 ^ 32
few-parts p parts n counted same h = subst (λ m. m < 2 ^ 32) (counted ∙ ap length same) (few n h)

pub none-flies : (x : Books) (i : Option InFlight) → ((f : InFlight) → i ≡ Some f → ⊥) → CanFly x i
none-flies x None never = tt
none-flies x (Some f) never = absurd (never f refl)

table-ok : {A : Type 0} (refusal : Option SchemaErr) (r : Result A SchemaErr) → tables.IsAnswer refusal r → is_ok r ≡ true → refusal ≡ None
table-ok refusal (Ok x) h is = h
table-ok refusal (Err e) h is = cc

pub table-judged : {A : Type 0} (x : Books) (schema : List TableDef) (d : TableDef) (r : Result A SchemaErr) → schema ≡ tables_in x → tables.IsAnswer (table_refusal schema d) r → is_ok r ≡ true →
    table_refusal (tables_in x) d ≡ None
table-judged x schema d r same h is = ap (λ (ts : List TableDef). table_refusal ts d) (sym same) ∙ table-ok (table_refusal schema d) r h is

program-ok : {A : Type 0} (refusal : Option DefineErr) (r : Result A DefineErr) → programs.IsAnswer refusal r → is_ok r ≡ true → refusal ≡ None
program-ok refusal (Ok x) h is = h
program-ok refusal (Err e) h is = cc

pub program-judged : {A : Type 0} (x : Known) (schema : List TableDef) (catalogue : List ProgramDef) (p : ProgramDef) (r : Result A DefineErr) → schema ≡ x.schema → catalogue ≡ x.catalogue →
    programs.IsAnswer (program_refusal schema catalogue p) r → is_ok r ≡ true → program_refusal x.schema x.catalogue p ≡ None
program-judged x schema catalogue p r schemas catalogues h is =
    (λ i. program_refusal (sym schemas i) (sym catalogues i) p) ∙ program-ok (program_refusal schema catalogue p) r h is

pub defines-over : (x : Books) (known : Known) (p : ProgramDef) → known ≡ x.known → (length (parts_in p.body) < 2 ^ 32) × (program_refusal known.schema known.catalogue p ≡ None) →
    (length (parts_in p.body) < 2 ^ 32) × (program_refusal (tables_in x) (programs_in x) p ≡ None)
defines-over x known p same h = (h.0, subst (λ (k : Known). program_refusal k.schema k.catalogue p ≡ None) same h.1)

-- BY THE STATE

flies-fits : (x : Recovery) (i : InFlight) (e : Event) (s : State) → Flies x i e s → CanFly (books_of x) (Some i)
flies-fits x (asked.Commit u) e s h = commit-there x (asked.Commit u) e s h u refl (books_of x) refl
flies-fits x (asked.Branch u b cause) e s h = branch-there x (asked.Branch u b cause) e s h u b cause refl (books_of x) refl
flies-fits x (asked.Table d text) e s h = table-allowed x (asked.Table d text) e s h d text refl
flies-fits x (asked.Program p text) e s h =
    ((program-flies x (asked.Program p text) e s h p text refl).few, program-allowed x (asked.Program p text) e s h p text refl)

pub rests-fits : (x : Recovery) (in_flight : Option InFlight) (f : Option Event) (s : State) → RestsOrFlies x in_flight f s → CanFly (books_of x) in_flight
rests-fits x None f s h = tt
rests-fits x (Some i) f s h = let it = flies-some x (Some i) i f s refl h in flies-fits x i it.0 s it.2

-- and something comes first
pub first-some : (later : Bool) (f : Option Event) (s : UnitState) → IsSome (rest_in s) → IsSome (first_in later f s)
first-some true (Some e) s rests = refl
first-some true None s rests = rests
first-some false (Some e) s rests = rests
first-some false None s rests = rests
