-- What is left of an opening, by the books, is what is left by its state.
use Rattle.salt_books.specs.Books.{AreBooks}
use Rattle.salt_books.specs.declared.books.Books.{Books}
use Rattle.salt_database.specs.Standing.{left_by, left_in}
use Rattle.salt_engine.specs.declared.stage.Stage.TheVariants.{Going}
use Rattle.law_states.specs.OpenUnits.{UnitState}
use Rattle.law_states.specs.States.{State}
use Rattle.law_states.specs.Steps.{units_after}
use Rattle.salt_model.specs.declared.events.Event.{Event}
use Rattle.salt_model.specs.declared.events.Event.TheVariants.{Early, Ready}
use Rattle.law_openings.specs.Draining.{done_now, is_earlier, left_to_open, opening_stage, statements_left, units_to_cut}
use Rattle.salt_model.specs.Rests.{rests_of}
use Rattle.salt_drain.specs.Recovering.{HasDoneEvent, StandsBehindEvent, books_of}
use Rattle.salt_drain.specs.declared.recovery.Recovery.{Recovery}
use Rattle.std.proofs.Common.{ap, subst}
use Rattle.std.specs.List.{filter}
use Rattle.std.specs.Prelude.{Some, length, ℕ, ◌*◌, ◌+◌, ◌-◌, ◌≡◌}

left-books : (x : Books) (s : UnitState) → AreBooks x s → left_by x ≡ units_to_cut s + statements_left s
left-books x s h = λ i.
    length (filter (is_earlier (h.known.boot i)) (h.units i))
    + (rests_of (h.known.catalogue i) (h.known.conts i) - done_now (h.known.boot i) (h.units i))

pub behind-books : (e : Event) (x : Recovery) (s : UnitState) → StandsBehindEvent e x s → AreBooks (books_of x) s
behind-books Ready x s h = h.0
behind-books (Early bs) x s h = h.0
behind-books e x s h = h.books

pub left-at : (x : Recovery) (e : Event) (s t : State) → HasDoneEvent x e s t → left_in (Going x) (Some e) ≡ left_to_open s.units (Some e)
left-at x e s t d =
    let books : AreBooks (books_of x) (units_after e s.units) = subst (AreBooks (books_of x)) d.after.units (behind-books e x t.units d.behind) in
    ap (λ (n : ℕ). 8 * n + opening_stage e) (left-books (books_of x) (units_after e s.units) books)
