-- What the programs that go on have left, and that an opening does no more of it.
use Rattle.salt_ast.specs.Paths.{rest_of}
use Rattle.salt_ast.specs.ProgramJudgement.{program_named}
use Rattle.salt_ast.specs.declared.programs.ProgramDef.{ProgramDef}
use Rattle.salt_model.specs.After.{kept}
use Rattle.salt_model.specs.Kept.{parts_of, programs_of}
use Rattle.salt_model.specs.Next.{is_decision}
use Rattle.salt_model.specs.Phases.{Opening, phase}
use Rattle.salt_model.specs.Stops.{is_just_opened}
use Rattle.salt_model.specs.Trace.{Trace, over_events, ◌says◌}
use Rattle.salt_model.specs.declared.events.Event.TheVariants.{Did, Opened}
use Rattle.salt_model.specs.declared.events.Event.{Event}
use Rattle.salt_values.specs.declared.cont.Cont.{Cont}
use Rattle.std.specs.Prelude.{List, None, Some, [], if◌then◌else◌, ℕ, ◌&&◌, ◌+◌, ◌∷◌, ◌≡◌, ◌≤◌}

-- the statements that a program may still do from the part on at which it stands, at most
abbrev pub rest_of_cont : List ProgramDef → Cont → ℕ
rest_of_cont ps c = elim (program_named ps c.program) [ None ↦ 0 | Some p ↦ rest_of (parts_of p) (Some (record { part = c.next; tries = c.tries })) ]

abbrev pub rests_of : List ProgramDef → List Cont → ℕ
rests_of ps [] = 0
rests_of ps (c ∷ cs) = rest_of_cont ps c + rests_of ps cs

-- the same of the programs that go on behind a trace
abbrev pub rests_at : Trace → ℕ
rests_at trace = rests_of (programs_of (kept trace)) (kept trace).conts

-- whether an event does a statement, as a number
abbrev pub statements_in : Event → ℕ
statements_in (Did u st answer) = 1
statements_in e = 0

abbrev pub statements_told : List Event → ℕ
statements_told [] = 0
statements_told (e ∷ es) = statements_in e + statements_told es

-- THE LAST OPENING

-- what the programs had left that it found: behind its Opened, or behind the decision in flight, where that is told next
abbrev pub rests_found : Trace → ℕ
rests_found = over_events (λ k. 0) (λ trace e n. elim e
    [ Opened boot number ↦ rests_at (trace says Opened boot number) | f ↦ (if is_just_opened trace && is_decision f then rests_at (trace says f) else n) ])

-- the statements that are told since its Opened
abbrev pub done_since_opened : Trace → ℕ
done_since_opened = over_events (λ k. 0) (λ trace e n. elim e [ Opened boot number ↦ 0 | f ↦ n + statements_in f ])

-- while it goes on, they are no more than that
abbrev pub DoesItsRests : Trace → Type 0
DoesItsRests trace = phase trace ≡ Opening → done_since_opened trace ≤ rests_found trace
