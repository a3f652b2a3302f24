-- A unit's commit, and its branch, asked of a storage: what has to be known of it, and what it leaves.
use Rattle.salt_books.proofs.AtParts.{at-part}
use Rattle.salt_books.proofs.CanMoves.{can-move}
use Rattle.salt_books.specs.Books.{AreBooks, IsUnitAtPart}
use Rattle.salt_books.specs.Coming.{IsLaterUnit}
use Rattle.salt_books.specs.declared.books.Books.{Books}
use Rattle.salt_cont.specs.Move.{Move}
use Rattle.salt_engine.proofs.Decided.{branch-written, commit-written, edits-back, ended-stored, ended-undone, ends-next, is-new-unit, named-unit}
use Rattle.salt_engine.specs.Deciding.{IsBefore, IsBranched, IsCommitted, LeavesEventUndone, branches_in}
use Rattle.law_states.specs.OpenUnits.{OpenUnit, UnitState, unit_named}
use Rattle.law_states.specs.Overlays.{edits_of}
use Rattle.law_states.specs.Told.{commits_in, next_decision_number}
use Rattle.salt_books.specs.Moves.{CanMove}
use Rattle.salt_model.specs.Kept.{Kept, conts_branched, conts_committed}
use Rattle.salt_model.specs.Trace.{Trace}
use Rattle.salt_model.specs.declared.events.Cause.{Cause}
use Rattle.salt_model.specs.declared.events.End.TheVariants.{Branched, Committed}
use Rattle.law_decisions.specs.Ending.{EndsNext, MayEnd}
use Rattle.salt_stands.specs.OpenConts.{make_move}
use Rattle.salt_storage.specs.Storing.{IsSoundKept, MayDecide, decided}
use Rattle.salt_storage.specs.Writing.{OfUnit, ToWrite}
use Rattle.salt_storage.specs.declared.halt.Halt.TheVariants.{DeviceFull}
use Rattle.salt_storage.specs.declared.halt.Halt.{Halt}
use Rattle.salt_values.specs.Id.{is_same_id}
use Rattle.salt_values.specs.declared.change.Change.{Change}
use Rattle.salt_values.specs.declared.cont.Cont.{Cont}
use Rattle.salt_values.specs.declared.id.Id.{Id}
use Rattle.std.proofs.Common.{ap, subst, sym, ◌∙◌}
use Rattle.std.specs.Prelude.{List, Some, [], false, map, refl, ℕ, ◌≡◌}
use Rattle.salt_stands.specs.Turning.{change_at}

-- the law of commits, and of branches, of law_decisions
abbrev pub CommitLaw : Type 0
CommitLaw = (s : UnitState) (trace : Trace) (o : OpenUnit) (cs : List Change) (m : Move) (conts : List Cont) →
    EndsNext s trace o (Committed (next_decision_number s)) → edits_of cs ≡ o.changes → make_move s.kept.conts m ≡ Some conts →
    conts ≡ conts_committed s.kept (next_decision_number s) o.kind o.vars → MayEnd s o (Committed (next_decision_number s)) cs m conts

abbrev pub BranchLaw : Type 0
BranchLaw = (s : UnitState) (trace : Trace) (o : OpenUnit) (cause : Cause) (m : Move) (conts : List Cont) →
    EndsNext s trace o (Branched (next_decision_number s) cause) → make_move s.kept.conts m ≡ Some conts →
    conts ≡ conts_branched s.kept o.kind → MayEnd s o (Branched (next_decision_number s) cause) [] m conts

module _ (holds : Kept → Type 0) (is_new : Id → Type 0) (x : Books) (s : UnitState) (o : OpenUnit) (u : Id) (may : (k : Kept) → holds k → IsSoundKept k)
    (named : unit_named u s.units ≡ Some o) where
  module _ (b : IsBefore holds is_new x (commits_in s o) s) where
    pub commit-moves : (m : Move) → ((s : UnitState) (o : OpenUnit) → AreBooks x s → unit_named u s.units ≡ Some o → IsUnitAtPart s u → CanMove s.kept o.kind →
        make_move s.kept.conts m ≡ Some (conts_committed s.kept (next_decision_number s) o.kind o.vars)) → make_move s.kept.conts m ≡ Some (conts_committed s.kept (next_decision_number s) o.kind o.vars)
    commit-moves m made =
        made s o b.books named (at-part s b.comes.trace u b.comes.keeps b.comes.sound)
        (can-move s b.comes.trace u o b.comes.keeps b.comes.sound (may s.kept b.stored.holding).rise named)

    module _ (law : CommitLaw) (cs : List Change) (m : Move) (are : cs ≡ map change_at o.changes)
        (moves : make_move s.kept.conts m ≡ Some (conts_committed s.kept (next_decision_number s) o.kind o.vars)) where
      ends : MayEnd s o (Committed (next_decision_number s)) cs m (conts_committed s.kept (next_decision_number s) o.kind o.vars)
      ends =
          law s b.comes.trace o cs m _ (ends-next holds is_new x s o u (Committed (next_decision_number s)) b named may)
          (ap edits_of are ∙ edits-back o.changes) moves refl

      pub commit-may : MayDecide s.kept u cs m (conts_committed s.kept (next_decision_number s) o.kind o.vars)
      commit-may = subst (λ v. MayDecide s.kept v cs m (conts_committed s.kept (next_decision_number s) o.kind o.vars)) (named-unit u s.units o named) ends.may

      pub commit-new : is_new u
      commit-new = is-new-unit holds is_new x s o u (Committed (next_decision_number s)) b named may refl

      pub commit-done : (now : Kept → Type 0) (new_now : Id → Type 0) → now (decided s.kept cs (conts_committed s.kept (next_decision_number s) o.kind o.vars)) →
          ((v : Id) → is_same_id v u ≡ false → is_new v → new_now v) → (number : ℕ) → number ≡ next_decision_number s →
          IsCommitted now new_now (record { made = m; number = number }) s o
      commit-done now new_now holding stays number is = record {
        number = is;
        moves = moves;
        stored = ended-stored holds is_new x s o u (Committed (next_decision_number s)) b named may now new_now (subst now ends.leaves holding) stays;
      }

      pub commit-undone : (leaves : Kept → Kept → Type 0) (fills : ToWrite → ℕ → Type 0) (halt : Halt) →
          leaves s.kept (decided s.kept cs (conts_committed s.kept (next_decision_number s) o.kind o.vars)) → ((dev : ℕ) → halt ≡ DeviceFull dev → fills (OfUnit u cs m) dev) →
          LeavesEventUndone leaves fills halt s (commits_in s o)
      commit-undone leaves fills halt left full =
          ended-undone holds is_new x s o u (Committed (next_decision_number s)) b named may leaves fills halt cs m refl (subst (leaves s.kept) ends.leaves left)
          (commit-written s o u cs m named are moves) full

  module _ (cause : Cause) (b : IsBefore holds is_new x (branches_in s o.unit cause) s) where
    pub branch-moves : (m : Move) → ((s : UnitState) (o : OpenUnit) → AreBooks x s → unit_named u s.units ≡ Some o → IsUnitAtPart s u → CanMove s.kept o.kind →
        make_move s.kept.conts m ≡ Some (conts_branched s.kept o.kind)) → make_move s.kept.conts m ≡ Some (conts_branched s.kept o.kind)
    branch-moves m made =
        made s o b.books named (at-part s b.comes.trace u b.comes.keeps b.comes.sound)
        (can-move s b.comes.trace u o b.comes.keeps b.comes.sound (may s.kept b.stored.holding).rise named)

    module _ (law : BranchLaw) (cs : List Change) (none : cs ≡ []) (m : Move) (moves : make_move s.kept.conts m ≡ Some (conts_branched s.kept o.kind)) where
      branches : MayEnd s o (Branched (next_decision_number s) cause) cs m (conts_branched s.kept o.kind)
      branches =
          subst (λ (ds : List Change). MayEnd s o (Branched (next_decision_number s) cause) ds m (conts_branched s.kept o.kind)) (sym none)
          (law s b.comes.trace o cause m _ (ends-next holds is_new x s o u (Branched (next_decision_number s) cause) b named may) moves refl)

      pub branch-may : MayDecide s.kept u cs m (conts_branched s.kept o.kind)
      branch-may = subst (λ v. MayDecide s.kept v cs m (conts_branched s.kept o.kind)) (named-unit u s.units o named) branches.may

      pub branch-new : is_new u
      branch-new = is-new-unit holds is_new x s o u (Branched (next_decision_number s) cause) b named may refl

      pub branch-done : (now : Kept → Type 0) (new_now : Id → Type 0) → now (decided s.kept cs (conts_branched s.kept o.kind)) →
          ((v : Id) → is_same_id v u ≡ false → is_new v → new_now v) → (number : ℕ) → number ≡ next_decision_number s →
          IsBranched now new_now (record { made = m; number = number }) s o cause
      branch-done now new_now holding stays number is = record {
        number = is;
        moves = moves;
        stored = ended-stored holds is_new x s o u (Branched (next_decision_number s) cause) b named may now new_now (subst now branches.leaves holding) stays;
      }

      pub branch-undone : (leaves : Kept → Kept → Type 0) (fills : ToWrite → ℕ → Type 0) (halt : Halt) →
          leaves s.kept (decided s.kept cs (conts_branched s.kept o.kind)) → ((dev : ℕ) → halt ≡ DeviceFull dev → fills (OfUnit u cs m) dev) →
          LeavesEventUndone leaves fills halt s (branches_in s o.unit cause)
      branch-undone leaves fills halt left full =
          ended-undone holds is_new x s o u (Branched (next_decision_number s) cause) b named may leaves fills halt cs m refl (subst (leaves s.kept) branches.leaves left)
          (λ w is. branch-written s o u cause m named moves w (is ∙ ap (λ (ds : List Change). OfUnit u ds m) none)) full

-- the branch of a unit that is named: by its own name
pub own-branch : (holds : Kept → Type 0) (is_new : Id → Type 0) (x : Books) (s : UnitState) (u base : Id) (cause : Cause) → IsBefore holds is_new x (branches_in s u cause) s →
    (later : IsLaterUnit s u base) → IsBefore holds is_new x (branches_in s later.unit.unit cause) s
own-branch holds is_new x s u base cause b later =
    subst (λ v. IsBefore holds is_new x (branches_in s v cause) s) (sym (named-unit u s.units later.unit later.named)) b

pub own-undone : (leaves : Kept → Kept → Type 0) (fills : ToWrite → ℕ → Type 0) (halt : Halt) (s : UnitState) (u base : Id) (cause : Cause) → (later : IsLaterUnit s u base) →
    LeavesEventUndone leaves fills halt s (branches_in s later.unit.unit cause) → LeavesEventUndone leaves fills halt s (branches_in s u cause)
own-undone leaves fills halt s u base cause later undone =
    subst (λ v. LeavesEventUndone leaves fills halt s (branches_in s v cause)) (named-unit u s.units later.unit later.named) undone
