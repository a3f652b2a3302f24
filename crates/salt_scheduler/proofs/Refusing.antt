-- Why a line is refused, by what the books and the watch tell.
use Rattle.salt_ast.specs.Judgement.{unknown}
use Rattle.salt_ast.specs.ProgramJudgement as judgement
use Rattle.salt_ast.specs.ProgramJudgement.{LineFault, line_fault}
use Rattle.salt_ast.specs.ProgramTexts.{base_text}
use Rattle.salt_ast.specs.declared.lines.Act.TheVariants.{Begin, Call, Commit, Do, Rollback, Step}
use Rattle.salt_ast.specs.declared.lines.Line.TheVariants.{Crash, Go, GoAll, Net, Nothing, Program, Session, ShowBases, ShowLocks, Table}
use Rattle.salt_ast.specs.declared.lines.Line.{Line}
use Rattle.salt_ast.specs.declared.programs.ProgramDef.{ProgramDef}
use Rattle.salt_ast.specs.declared.trees.TableDef.{TableDef}
use Rattle.salt_scheduler.specs.Refused.{IsCountFor, is_turn, refusal_by_state}
use Rattle.salt_scheduler.specs.Refusals.{known_by, line_refusal, told}
use Rattle.law_states.specs.Nexts.{refusal_of}
use Rattle.law_states.specs.Readings.{under_way_of}
use Rattle.law_states.specs.Refused.{known_in}
use Rattle.law_states.specs.States.{State}
use Rattle.salt_model.specs.Kept.{Kept, cont_in}
use Rattle.salt_model.specs.Trace.{Tree}
use Rattle.salt_model.specs.declared.events.Refusal.{Refusal}
use Rattle.salt_books.specs.Known.{IsKnown}
use Rattle.salt_books.specs.declared.known.Known.{Known}
use Rattle.salt_values.specs.Id.{is_same_id}
use Rattle.salt_values.specs.declared.cont.Cont.{Cont}
use Rattle.salt_values.specs.declared.id.Id.{Id}
use Rattle.std.proofs.Common.{Bor, ap, sym, ◌∙◌}
use Rattle.std.specs.Bool.{then_some}
use Rattle.std.specs.List.{list_any}
use Rattle.std.specs.Option.{option_copied, option_or}
use Rattle.std.specs.Prelude.{Bool, List, None, Option, Some, [], cond, false, is_some, map, not, option_map, refl, true, ℕ, ◌∷◌, ◌||◌, ◌≡◌}

-- of a line that calls no program the number of those under way tells nothing
uncounted : (schema : List TableDef) (catalogue : List ProgramDef) (conts : List Cont) (count many : ℕ) (line : Line) → IsCountFor line many count →
    line_fault (known_by schema catalogue conts count) line ≡ line_fault (known_by schema catalogue conts many) line
unfolding line_fault
uncounted schema catalogue conts count many (Session t (Call n args)) h = ap (λ k. line_fault (known_by schema catalogue conts k) (Session t (Call n args))) (h refl)
uncounted schema catalogue conts count many (Session t (Do st)) h = refl
uncounted schema catalogue conts count many (Session t Begin) h = refl
uncounted schema catalogue conts count many (Session t Commit) h = refl
uncounted schema catalogue conts count many (Session t Rollback) h = refl
uncounted schema catalogue conts count many (Session t Step) h = refl
uncounted schema catalogue conts count many (Table d) h = refl
uncounted schema catalogue conts count many (Program p) h = refl
uncounted schema catalogue conts count many (Go base) h = refl
uncounted schema catalogue conts count many Nothing h = refl
uncounted schema catalogue conts count many GoAll h = refl
uncounted schema catalogue conts count many ShowLocks h = refl
uncounted schema catalogue conts count many ShowBases h = refl
uncounted schema catalogue conts count many (Crash pairs) h = refl
uncounted schema catalogue conts count many (Net pairs) h = refl

-- whether a program is among those that go on

any_found : (b : Id) (cs : List Cont) → list_any (is_same_id b) (map (λ (c : Cont). c.base) cs) ≡ is_some (cont_in b cs)
any_found b [] = refl
any_found b (c ∷ cs) = by (is_same_id b c.base) (any_found b cs)
  where
    by : (t : Bool) → list_any (is_same_id b) (map (λ (x : Cont). x.base) cs) ≡ is_some (cont_in b cs) →
        (t || list_any (is_same_id b) (map (λ (x : Cont). x.base) cs)) ≡ is_some (cond t (Some c) (cont_in b cs))
    by true ih = refl
    by false ih = ih

pub copied-some : {A : Type 0} (r : Option (Bor A)) (o : Option A) → option_copied r ≡ o → is_some r ≡ is_some o
copied-some None o h = ap is_some h
copied-some (Some x) o h = ap is_some h

abbrev go_told : Id → Bool → Option LineFault
go_told b goes_on = option_map judgement.faulty (then_some (not goes_on) (unknown (base_text b)))

-- of a turn of a program that goes on there is no fault
pub turns : (schema : List TableDef) (catalogue : List ProgramDef) (k : Kept) (count : ℕ) (line : Line) → is_turn k line ≡ true →
    line_fault (known_by schema catalogue k.conts count) line ≡ None
unfolding line_fault
turns schema catalogue k count (Go base) h = ap (go_told base) (any_found base k.conts ∙ h)
turns schema catalogue k count (Session t act) h = cc
turns schema catalogue k count (Table d) h = cc
turns schema catalogue k count (Program p) h = cc
turns schema catalogue k count Nothing h = cc
turns schema catalogue k count GoAll h = cc
turns schema catalogue k count ShowLocks h = cc
turns schema catalogue k count ShowBases h = cc
turns schema catalogue k count (Crash pairs) h = cc
turns schema catalogue k count (Net pairs) h = cc

-- of any other line it tells nothing which programs go on
unturned : (schema : List TableDef) (catalogue : List ProgramDef) (k : Kept) (count : ℕ) (line : Line) → is_turn k line ≡ false →
    line_fault (known_by schema catalogue [] count) line ≡ line_fault (known_by schema catalogue k.conts count) line
unfolding line_fault
unturned schema catalogue k count (Go base) h = ap (go_told base) (sym (any_found base k.conts ∙ h))
unturned schema catalogue k count (Session t (Call n args)) h = refl
unturned schema catalogue k count (Session t (Do st)) h = refl
unturned schema catalogue k count (Session t Begin) h = refl
unturned schema catalogue k count (Session t Commit) h = refl
unturned schema catalogue k count (Session t Rollback) h = refl
unturned schema catalogue k count (Session t Step) h = refl
unturned schema catalogue k count (Table d) h = refl
unturned schema catalogue k count (Program p) h = refl
unturned schema catalogue k count Nothing h = refl
unturned schema catalogue k count GoAll h = refl
unturned schema catalogue k count ShowLocks h = refl
unturned schema catalogue k count ShowBases h = refl
unturned schema catalogue k count (Crash pairs) h = refl
unturned schema catalogue k count (Net pairs) h = refl

-- what is judged by what is known, and the number of programs under way where it is asked
pub judged : (s : State) (x : Known) (schema : List TableDef) (catalogue : List ProgramDef) (count : ℕ) (line : Line) →
    IsKnown x s.units.kept → schema ≡ x.schema → catalogue ≡ x.catalogue → is_turn s.units.kept line ≡ false → IsCountFor line (under_way_of s).count count →
    line_refusal (known_by schema catalogue [] count) line ≡ told (line_fault (known_in s.units (under_way_of s)) line)
judged s x schema catalogue count line h a b other many =
    ap told (unturned schema catalogue s.units.kept count line other)
    ∙ (ap told (uncounted schema catalogue s.units.kept.conts count (under_way_of s).count line many)
    ∙ (λ i. told (line_fault (known_by ((a ∙ h.schema) i) ((b ∙ h.catalogue) i) s.units.kept.conts (under_way_of s).count) line)))

-- a fault comes before what the state refuses
pub faulty : (s : State) (line : Line) (fault by_state : Option Refusal) → fault ≡ told (line_fault (known_in s.units (under_way_of s)) line) →
    by_state ≡ refusal_by_state s line → option_or fault by_state ≡ refusal_of s (Tree line)
faulty s line fault by_state f b = λ i. option_or (f i) (b i)
