use Rattle.salt_scheduler.proofs.scheduler.Scheduler.end.Goals as goal
use Rattle.std.specs.Prelude.{refl}
use Rattle.law_states.specs.UnitFacts.{facts_in}
use Rattle.salt_books.specs.Held.{seen}
use Rattle.salt_books.proofs.Named.{rising}
use Rattle.salt_books.proofs.Shown.{have-unit}
use Rattle.salt_books.proofs.States as states
use Rattle.salt_books.proofs.States.{books-by}
use Rattle.law_states.specs.Steps.{units_after}
use Rattle.salt_model.specs.declared.events.Event.TheVariants.{Ended}
use Rattle.salt_scheduler.proofs.Done.{state_by, under-way-at}
use Rattle.salt_scheduler.proofs.UnderWay.{under-way}
use Rattle.law_states.specs.Readings.{first_parts}
use Rattle.std.proofs.Common.{sym, ◌∙◌}
use Rattle.salt_scheduler.proofs.EndsDone.{books-unended, end-gives, ended-first, ended-first-none, undecided-free}

pub returns-in_default : goal.returns-in_default
returns-in_default c = λ s r stands serves.
    let none = sym (c.in_default.ensures s.units stands.books) in
    end-gives c.args.self.now _ c.args.unit c.args.end s _ stands c.requires refl
    (books-unended c.args.self.now.books s.units c.args.unit c.args.end c.requires none stands.books)
    (c.end.ensures s.watch (facts_in s.units (Ended c.args.unit c.args.end)) c.args.end stands.watch (undecided-free c.args.end c.requires)
    (ended-first-none s.units c.args.unit c.args.end none))
    (λ w b watched i. refl)
    refl
    refl

pub end-requires-3 : goal.end-requires-3
end-requires-3 c =
    let x = c.args.self.now.books in
    let s = states.state_by x c.args.line.now in
    have-unit x s c.args.unit (seen c.in-Some.held.now) (books-by x c.args.line.now) (sym (c.in-Some.ensures s (books-by x c.args.line.now)))

pub returns : goal.returns
returns c = λ s r stands serves.
    let e = Ended c.args.unit c.args.end in
    let named = sym (c.in-Some.ensures s.units stands.books) in
    let books = c.end-3.ensures s.units c.args.end stands.books (rising s serves.sound) c.requires in
    end-gives c.args.self.now _ c.args.unit c.args.end s _ stands c.requires refl
    books
    (c.end-2.ensures s.watch (facts_in s.units e) c.args.end stands.watch (undecided-free c.args.end c.requires)
    (ended-first s.units c.args.unit c.args.end (seen c.in-Some.held.now) named ∙ sym c.program_begun-first.ensures))
    (λ w b watched i. (c.in_ok-forget_first.ensures (units_after e s.units) w books watched).kept b
    (under-way b w.programs (first_parts (units_after e s.units).units) (under-way-at (state_by e s w) b i)))
    refl
    refl
