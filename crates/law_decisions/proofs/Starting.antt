-- What may be kept may be kept under a later boot.
use Rattle.law_story.proofs.Every.{every-map}
use Rattle.salt_model.specs.Kept.{Kept, WellKept, nothing_kept}
use Rattle.salt_storage.specs.Storing.{IsSoundKept}
use Rattle.law_types.specs.Typed.{IsTyped}
use Rattle.salt_values.specs.declared.cont.Cont.{Cont}
use Rattle.std.proofs.Common.{arith}
use Rattle.std.specs.Prelude.{refl, ℕ, ◌+◌, ◌≤◌}

under : (a b n : ℕ) → a ≤ b → n ≤ a → n ≤ b
under a b n h g = omega (arith, h, g)

typed-later : (k : Kept) (boot : ℕ) → IsTyped k → IsTyped (record k { boot = boot })
typed-later k boot h = record { tables = h.tables; programs = h.programs; rows = h.rows; conts = h.conts }

well-later : (k : Kept) (boot : ℕ) → k.boot ≤ boot → WellKept k → WellKept (record k { boot = boot })
well-later k boot later h = record {
  boots = every-map (λ (c : Cont). c.base.boot ≤ k.boot) (λ (c : Cont). c.base.boot ≤ boot) (λ c g. under k.boot boot c.base.boot later g) k.conts h.boots;
  accepted = h.accepted;
  defined = h.defined;
  tries = h.tries;
}

pub kept-later : (k : Kept) (boot : ℕ) → k.boot ≤ boot → IsSoundKept k → IsSoundKept (record k { boot = boot })
kept-later k boot later h = record {
  typed = typed-later k boot h.typed;
  well = well-later k boot later h.well;
  rise = h.rise;
  spelled = h.spelled;
}

pub next-boot : (n : ℕ) → n ≤ n + 1
next-boot n = omega arith

pub nothing-sound : IsTyped nothing_kept → IsSoundKept nothing_kept
nothing-sound typed = record { typed = typed; well = record { boots = tt; accepted = tt; defined = tt; tries = tt }; rise = refl; spelled = tt }
