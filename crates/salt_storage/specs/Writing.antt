-- What is written next.
use Rattle.salt_bytes.specs.declared.moves.Move.{Move}
use Rattle.salt_model.specs.Kept.{Kept}
use Rattle.salt_gatelog.specs.declared.unopened.OpenErr.{OpenErr}
use Rattle.salt_values.specs.declared.change.Change.{Change}
use Rattle.salt_values.specs.declared.id.Id.{Id}
use Rattle.std.specs.Prelude.{List, ℕ}

-- what a first opening writes, the next boot, a definition by its text, or a unit with its changes and its program's move
pub data ToWrite : Type 0 where
  OfOpening : ToWrite
  OfBoot : ToWrite
  OfDefinition : List ℕ → ToWrite
  OfUnit : Id → List Change → Move → ToWrite

-- what it refuses or finds now, it would have refused or found before
pub record FindsNoMore (old_refuses : OpenErr → Type 0) (old_finds : Kept → Type 0) (refuses : OpenErr → Type 0) (finds : Kept → Type 0) : Type 0 where
  pub refuses_no_more : (e : OpenErr) → refuses e → old_refuses e
  pub finds_no_more : (k : Kept) → finds k → old_finds k
