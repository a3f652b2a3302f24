-- The moves of programs at the decided ends of their units.
use Rattle.salt_cont.specs.Move.TheVariants.{Continue, Finish, Plain}
use Rattle.salt_cont.specs.Move.{Move}
use Rattle.salt_model.specs.Kept.{Kept, cont_of, conts_branched, conts_committed}
use Rattle.salt_model.specs.Words.{Every}
use Rattle.salt_model.specs.declared.events.UnitKind.TheVariants.{First, Later}
use Rattle.salt_model.specs.declared.events.UnitKind.{UnitKind}
use Rattle.salt_model.specs.declared.vars.Binding.{Binding}
use Rattle.salt_stands.specs.OpenConts.{do_rise, make_move}
use Rattle.salt_values.specs.declared.cont.Cont.{Cont}
use Rattle.salt_values.specs.declared.id.Id.{Id}
use Rattle.std.specs.Prelude.{Bool, List, None, Some, false, true, ℕ, ⊤, ◌≡◌, ◌≤◌}

-- the program stands at this part, if it goes on
abbrev pub IsNext : Kept → Id → ℕ → Type 0
IsNext k b part = (c : Cont) → cont_of b k ≡ Some c → c.next ≡ part

-- the part of a unit is the one at which its program stands
abbrev pub IsAtPart : Kept → UnitKind → Type 0
IsAtPart k (Later b part) = IsNext k b part
IsAtPart k kind = ⊤

-- a program of which this is the first part goes on nowhere yet
abbrev pub IsNew : Kept → UnitKind → Type 0
IsNew k (First s b name args) = cont_of b k ≡ None
IsNew k kind = ⊤

-- continuations among which a unit of this kind may move its own: of distinct programs, accepted by decisions that rise up to the last one
pub record CanMove (k : Kept) (kind : UnitKind) : Type 0 where
  pub rise : do_rise k.conts ≡ true
  pub accepted : Every (λ (c : Cont). c.accepted ≤ k.decisions) k.conts
  pub new : IsNew k kind

-- the move leads from the continuations that are open to these
abbrev pub MovesTo : Move → Kept → List Cont → Type 0
MovesTo m k conts = make_move k.conts m ≡ Some conts

-- the move of a program behind its first part: one that ends there was not accepted before
abbrev pub begun : Move → Move
begun (Continue c) = Continue c
begun (Finish b) = Plain
begun Plain = Plain

-- the continuations after the decided end of a unit: a commit, or the failure of a later part
abbrev pub conts_ended : (failed : Bool) → Kept → ℕ → UnitKind → List Binding → List Cont
conts_ended false k n kind vars = conts_committed k n kind vars
conts_ended true k n kind vars = conts_branched k kind
