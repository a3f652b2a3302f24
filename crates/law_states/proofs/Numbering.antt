-- The numbers of the locks that are held stay below the count of those that were taken.
use Rattle.law_states.proofs.KeptTable.{fates-below}
use Rattle.law_states.specs.KeptLocks.{AreBelow, Numbered, numbered_from, on_lock}
use Rattle.law_states.specs.Members.{In}
use Rattle.law_states.specs.UnitFacts.{UnitFacts}
use Rattle.law_states.specs.WatchSteps.{counted_by, fate_by, table_by, taken_by_now, won_by}
use Rattle.law_story.proofs.Lists.{either, in-cases}
use Rattle.salt_model.specs.declared.events.Event.{Event}
use Rattle.salt_model.specs.declared.locks.Lock.{Lock}
use Rattle.std.proofs.Common.{arith, inl, inr, subst}
use Rattle.std.specs.List.{filter_map}
use Rattle.std.specs.Prelude.{List, [], length, ℕ, ◌+◌, ◌<◌, ◌∷◌}

won-below : (k : ℕ) (n : Numbered) (ls : List Lock) → In n (numbered_from k ls) → n.number < k + length ls
won-below k n [] i = absurd i
won-below k n (l ∷ ls) (inl q) = subst (λ (m : Numbered). m.number < k + length (l ∷ ls)) q (omega arith)
won-below k n (l ∷ ls) (inr i) = let b = won-below (k + 1) n ls i in omega arith

pub below-counted : (f : UnitFacts) (e : Event) (k : ℕ) (table : List Numbered) → AreBelow k table → AreBelow (counted_by f e k) (table_by f k e table)
below-counted f e k table b n i = either
    (λ j. let m = fates-below f e k table b n j in omega arith)
    (λ j. won-below (taken_by_now e k) n (won_by f e) j)
    (in-cases n (filter_map (on_lock (fate_by f e)) table) _ i)
