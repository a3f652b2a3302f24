-- What a unit asks for that goes on with a program: the next statement of its block, in whatever line.
use Rattle.salt_ast.specs.declared.lines.Line.TheVariants.{Nothing}
use Rattle.salt_books.specs.Asking.{IsAsked, IsAskedBy}
use Rattle.salt_books.specs.Books.{AreBooks}
use Rattle.salt_books.specs.declared.asking.Asking.{Asking}
use Rattle.salt_books.specs.declared.books.Books.{Books}
use Rattle.law_states.specs.OpenUnits.{OpenUnit, UnitState, asking, asks_next, unit_named}
use Rattle.law_states.specs.States.{State}
use Rattle.law_states.specs.Told.{does_in, serve_in}
use Rattle.salt_drain.proofs.Sound.{has-block}
use Rattle.salt_drain.specs.Recovering.{IsOfPart, IsPartIfOpen, IsRecovering}
use Rattle.salt_values.specs.declared.id.Id.{Id}
use Rattle.std.proofs.Common.{ap, subst, sym, ◌∙◌}
use Rattle.std.specs.Prelude.{None, Option, Some, option_and_then, option_map, refl, ◌≡◌}

-- in a line that is nothing
abbrev pub unlined : UnitState → UnitState
unlined s = record s { line = Nothing }

pub books-unlined : (x : Books) (s : UnitState) → AreBooks x s → AreBooks x (unlined s)
books-unlined x s h = record {
  known = h.known;
  units = h.units;
  unit_count = h.unit_count;
  base_count = h.base_count;
  to_go = h.to_go;
  early = h.early;
  named = h.named;
  owes = h.owes;
}

pub asks-alike : (s : State) (u : Id) (o : OpenUnit) → IsRecovering s → unit_named u s.units.units ≡ Some o → IsOfPart o →
    asks_next (unlined s.units) o ≡ asks_next s.units o
asks-alike s u o h named part =
    let block = has-block s u o h named part in
    ap (asking Nothing o) block.1 ∙ sym (ap (asking s.units.line o) block.1)

-- what a unit asks for in no line, it asks for in this one
pub asked-alike : (s : State) (u : Id) (a : Asking) → IsRecovering s → IsPartIfOpen s.units u → IsAsked (unlined s.units) u (Some a) →
    (o : OpenUnit) × IsAskedBy a s.units o × IsOfPart o
asked-alike s u a h parts asked =
    let o = asked.1.0 in
    let by = asked.1.1 in
    let part = parts o (subst (λ v. unit_named v s.units.units ≡ Some o) asked.0 by.named) in (
      o,
      record { named = by.named; asks = sym (asks-alike s a.unit o h by.named part) ∙ by.asks; base = by.base; family = by.family; reach = by.reach },
      part,
    )

pub nothing-alike : (s : State) (u : Id) → IsRecovering s → IsPartIfOpen s.units u → IsAsked (unlined s.units) u None →
    option_and_then (serve_in s.units) (unit_named u s.units.units) ≡ None
nothing-alike s u h parts none = by (unit_named u s.units.units) refl none
  where
    by : (q : Option OpenUnit) → unit_named u s.units.units ≡ q → option_and_then (asks_next (unlined s.units)) q ≡ None → option_and_then (serve_in s.units) q ≡ None
    by None e h = refl
    by (Some o) e n = ap (option_map (does_in s.units o)) (sym (asks-alike s u o h e (parts o e)) ∙ n)

-- what is told of a unit that asks
pub serves-asked : (s : UnitState) (a : Asking) (o : OpenUnit) → IsAskedBy a s o →
    option_map (λ (o : OpenUnit). does_in s o a.statement) (unit_named a.unit s.units) ≡ option_and_then (serve_in s) (unit_named a.unit s.units)
serves-asked s a o h =
    ap (option_map (λ (o : OpenUnit). does_in s o a.statement)) h.named
    ∙ sym (ap (option_and_then (serve_in s)) h.named ∙ ap (option_map (does_in s o)) h.asks)
