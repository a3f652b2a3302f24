-- What a sound state in an opening gives: names that rise, and blocks of the units that go on with programs.
use Rattle.salt_ast.specs.declared.programs.ProgramDef.{ProgramDef}
use Rattle.salt_ast.specs.declared.trees.Statement.{Statement}
use Rattle.salt_books.proofs.AtParts.{due, found}
use Rattle.salt_books.proofs.Named.{is-some}
use Rattle.law_states.proofs.UnitLists.{named-in}
use Rattle.law_states.specs.Follows.{cut_in}
use Rattle.law_states.specs.Keeps.{KeepsUnit}
use Rattle.law_states.specs.OpenUnits.{OpenUnit, names_in, unit_named}
use Rattle.law_states.specs.States.{State}
use Rattle.law_story.proofs.Defined.{AreDefined, IsKeptProgram, defined-kept}
use Rattle.law_story.proofs.Lists.{In, in-filter, in-order}
use Rattle.law_story.proofs.WellKept.{of-start}
use Rattle.salt_model.specs.After.{kept}
use Rattle.salt_model.specs.Kept.{Kept, block_of_kind, block_of_part, cont_in, cont_of, kept_program}
use Rattle.salt_model.specs.Trace.{start_of}
use Rattle.salt_model.specs.Units.{is_open, kind_of, units_begun}
use Rattle.salt_model.specs.Words.{Every, first_of_list}
use Rattle.salt_values.specs.Id.{in_order}
use Rattle.salt_model.specs.declared.events.UnitKind.TheVariants.{Later}
use Rattle.salt_drain.specs.Recovering.{IsOfPart, IsRecovering}
use Rattle.salt_values.specs.Id.{is_same_id}
use Rattle.salt_values.specs.declared.cont.Cont.{Cont}
use Rattle.salt_values.specs.declared.id.Id.{Id}
use Rattle.std.proofs.Common.{ap, inl, subst, sym, ◌∙◌}
use Rattle.std.specs.List.{filter}
use Rattle.std.specs.Prelude.{Bool, IsSome, List, None, Option, Some, [], cond, false, is_some, nat_lt, option_and_then, option_map, refl, true, ℕ, ◌∷◌, ◌≡◌}

first-in : (u : Id) (us : List Id) → first_of_list us ≡ Some u → In u us
first-in u [] h = cc
first-in u (v ∷ us) h = let same : v ≡ u = cc in inl same

-- the unit that is cut first is open
pub cut-open : (s : State) (u : Id) → IsRecovering s → first_of_list (cut_in s.units) ≡ Some u → IsSome (unit_named u s.units.units)
cut-open s u h first =
    let names = names_in s.units.units in
    let p : Id → Bool = λ (v : Id). nat_lt v.boot s.units.kept.boot in
    let there = (in-filter p u names (in-order u (filter p names) (first-in u (in_order (filter p names)) first))).0 in
    let it = named-in (KeepsUnit h.sound.trace) u s.units.units there h.sound.keeps.units.each in
    is-some (unit_named u s.units.units) it.0 it.1

-- A UNIT THAT GOES ON WITH A PROGRAM has a block.

found-cont : (P : Cont → Type 0) (b : Id) (cs : List Cont) (c : Cont) → Every P cs → cont_in b cs ≡ Some c → P c
found-cont P b [] c h e = absurd (cc)
found-cont P b (d ∷ cs) c h e = by (is_same_id b d.base) e (found-cont P b cs c h.1)
  where
    by : (t : Bool) → cond t (Some d) (cont_in b cs) ≡ Some c → (cont_in b cs ≡ Some c → P c) → P c
    by true e more = let same : d ≡ c = cc in subst P same h.0
    by false e more = more e

abbrev HasBlock : Kept → Id → ℕ → Type 0
HasBlock k b part = (block : List Statement) × (block_of_kind k (Later b part) ≡ Some block)

part-block : (k : Kept) (b : Id) (part : ℕ) → AreDefined k k.conts → option_map (λ (c : Cont). c.next) (cont_of b k) ≡ Some part → HasBlock k b part
part-block k b part defined at = by (cont_of b k) refl at
  where
    program : (c : Cont) (o : Option ProgramDef) → cont_of b k ≡ Some c → kept_program c.program k ≡ o → is_some o ≡ true → HasBlock k b part
    program c None e f h = absurd (cc)
    program c (Some p) e f h = (
      block_of_part p part,
      ap (option_and_then (λ (c : Cont). option_map (λ p. block_of_part p part) (kept_program c.program k))) e ∙ ap (option_map (λ p. block_of_part p part)) f,
    )

    by : (o : Option Cont) → cont_of b k ≡ o → option_map (λ (c : Cont). c.next) o ≡ Some part → HasBlock k b part
    by None e h = absurd (cc)
    by (Some c) e h = program c (kept_program c.program k) e refl (found-cont (λ (c : Cont). IsKeptProgram k c.program) b k.conts c defined e)

pub has-block : (s : State) (u : Id) (o : OpenUnit) → IsRecovering s → unit_named u s.units.units ≡ Some o → IsOfPart o →
    (block : List Statement) × (block_of_kind s.units.kept o.kind ≡ Some block)
has-block s u o h named part =
    let sound = h.sound in
    let it = found (KeepsUnit sound.trace) u s.units.units o sound.keeps.units.each named in
    let opened = (in-filter (is_open sound.trace) u (units_begun sound.trace) (subst (λ us. In u us) (sym sound.keeps.units.units) it.2)).1 in
    let kind = subst (λ x. kind_of x sound.trace ≡ Some o.kind) it.1 it.0.kind in
    let at = due sound.trace sound.sound.played (of-start (start_of sound.trace).kept sound.sound.well) u part.0 part.1 opened (kind ∙ ap Some part.2) in
    let block = part-block (kept sound.trace) part.0 part.1 (defined-kept sound.trace sound.sound.well.defined) at in
    (block.0, (λ i. block_of_kind (sym sound.keeps.units.kept i) (part.2 i)) ∙ block.1)
