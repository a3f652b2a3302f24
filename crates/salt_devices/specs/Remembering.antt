-- What is remembered of a database behind a call that was broken off: numbers, and what was being written.
use Rattle.salt_commit.specs.Stores.{last_boot, last_decision}
use Rattle.salt_commit.specs.declared.store.Store.{Store}
use Rattle.salt_devices.specs.declared.pending.Pending.TheVariants.{Boot, Decision, Nothing, Opening}
use Rattle.salt_devices.specs.declared.pending.Pending.{Pending}
use Rattle.salt_model.specs.Kept.{Kept}
use Rattle.salt_stands.specs.Stands.{are_spent}
use Rattle.salt_storage.specs.declared.found.Numbers.{Numbers}
use Rattle.salt_storage.specs.OpenErr.TheVariants.{NotSalt, NumbersSpent, OtherShape}
use Rattle.salt_storage.specs.OpenErr.{OpenErr}
use Rattle.std.specs.Prelude.{None, Option, Some, true, ⊤, ◌+◌, ◌≡◌, ◌⊎◌}

pub record AreNumbersOf (n : Numbers) (k : Kept) : Type 0 where
  pub boot : n.boot ≡ k.boot
  pub decisions : n.decisions ≡ k.decisions

-- the numbers of a store
abbrev pub numbers_of : Store → Numbers
numbers_of x = record { boot = last_boot x; decisions = last_decision x }

-- those that are known: of the store, as long as it stands, and else those that are remembered
abbrev pub numbers_known : Option Store → Numbers → Numbers
numbers_known None n = n
numbers_known (Some x) n = numbers_of x

-- the numbers m are those behind n, with what was being written
abbrev pub Follow : Pending → (n m : Numbers) → Type 0
Follow Nothing n m = ⊥
Follow Opening n m = ⊥
Follow Boot n m = (m.boot ≡ n.boot + 1) × (m.decisions ≡ n.decisions)
Follow Decision n m = (m.boot ≡ n.boot) × (m.decisions ≡ n.decisions + 1)

-- the same of what is kept, or nothing was being written and it is the same
abbrev pub MayFollow : Pending → Kept → Kept → Type 0
MayFollow Nothing a b = b ≡ a
MayFollow Opening a b = ⊥
MayFollow Boot a b = (b.boot ≡ a.boot + 1) × (b.decisions ≡ a.decisions)
MayFollow Decision a b = (b.boot ≡ a.boot) × (b.decisions ≡ a.decisions + 1)

-- the numbers are those of the one; with what was being written it is the other
pub record Remembers (n : Numbers) (p : Pending) (a b : Kept) : Type 0 where
  pub numbers : AreNumbersOf n a
  pub follows : MayFollow p a b

-- how an opening of what is remembered may fail: by the spent numbers of the one or the other, or halted
abbrev pub MayTell : (a b : Kept) → OpenErr → Type 0
MayTell a b (NotSalt dev) = ⊥
MayTell a b (OtherShape kept asked) = ⊥
MayTell a b (NumbersSpent boot decisions) = (are_spent boot decisions ≡ true) ×
    (((boot ≡ a.boot) × (decisions ≡ a.decisions)) ⊎ ((boot ≡ b.boot) × (decisions ≡ b.decisions)))
MayTell a b e = ⊤
