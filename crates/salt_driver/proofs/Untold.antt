-- What holds of calls over disks that tell, and over others: loops end over both.
use Rattle.salt_disk.specs.Disks.{SameShape, View}
use Rattle.salt_disk.specs.declared.disks.DiskErr.TheVariants as disk
use Rattle.law_states.specs.Laws.{is_of_run}
use Rattle.salt_model.specs.declared.events.Event.{Event}
use Rattle.salt_driver.specs.Standing.{WasTold}
use Rattle.salt_storage.specs.Answers.{disk_err_of}
use Rattle.salt_storage.specs.declared.halt.Halt.{Halt}
use Rattle.std.proofs.Common.{ap, arith, inl, inr, subst, sym, ◌∙◌}
use Rattle.std.specs.Prelude.{Bool, IsTrue, List, Some, [], false, length, refl, true, ℕ, ◌+◌, ◌++◌, ◌-◌, ◌<◌, ◌^◌, ◌∷◌, ◌≡◌, ◌⊎◌}

-- what tells before a call tells behind it, and the other way round
pub told-now : {old new : View} → SameShape old new → IsTrue old.told → IsTrue new.told
told-now shape told = subst IsTrue (sym shape.told) told

pub told-then : {old new : View} → SameShape old new → IsTrue new.told → IsTrue old.told
told-then shape told = subst IsTrue shape.told told

pub untold-now : {old new : View} → SameShape old new → old.told ≡ false → new.told ≡ false
untold-now shape untold = shape.told ∙ untold

pub untold-then : {old new : View} → SameShape old new → new.told ≡ false → old.told ≡ false
untold-then shape untold = sym shape.told ∙ untold

pub not-both : {b : Bool} → b ≡ false → IsTrue b → ⊥
not-both untold told = let no : false ≡ true = sym untold ∙ told in cc

-- what is still left of a loop: by what tells, or else by what it may count yet
abbrev pub still_left : (told : Bool) → (left room : ℕ) → ℕ
still_left true left room = left
still_left false left room = room

still-falls : (told : Bool) (left room fewer less : ℕ) → (IsTrue told → fewer < left) → (told ≡ false → less < room) → still_left told fewer less < still_left told left room
still-falls true left room fewer less falls counts = falls refl
still-falls false left room fewer less falls counts = counts refl

pub still-less : {old new : View} → SameShape old new → (left room fewer less : ℕ) → (IsTrue old.told → fewer < left) → (old.told ≡ false → less < room) →
    still_left new.told fewer less < still_left old.told left room
still-less {old} {new} shape left room fewer less falls counts =
    subst (λ (b : Bool). still_left b fewer less < still_left old.told left room) (sym shape.told) (still-falls old.told left room fewer less falls counts)

-- a story that grows has less room in memory
pub less-room : (story told : List Event) (e : Event) (n : ℕ) → told ≡ story ++ e ∷ [] → n ≡ length told → n < 2 ^ 64 → 2 ^ 64 - length told < 2 ^ 64 - length story
less-room story told e n grows counted fits = let more = longer story e in let same = ap length grows in omega arith
  where
    longer : (es : List Event) (f : Event) → length (es ++ f ∷ []) ≡ length es + 1
    longer [] f = refl
    longer (x ∷ es) f = let h = longer es f in omega arith

-- what was broken off in an event that is none of a run
pub told-or-short : (halt : Halt) (e : Event) (story told : List Event) → is_of_run e ≡ false → WasTold halt e story told →
    ((told ≡ story) × (Some (disk_err_of halt) ≡ Some disk.Memory)) ⊎ ((told ≡ story ++ e ∷ []) × (is_of_run e ≡ false))
told-or-short halt e story told plain (inl short) = inl (short.0, ap (λ x. Some (disk_err_of x)) short.1)
told-or-short halt e story told plain (inr said) = inr (said, plain)
