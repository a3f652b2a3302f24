-- The best unit on a cycle, place by place.
use Rattle.salt_values.specs.Id.{is_older}
use Rattle.salt_waits.proofs.Circles.{place_of, same_item}
use Rattle.salt_waits.proofs.Orders.{before_both, none_before_itself, not_younger}
use Rattle.salt_waits.specs.Victims.{IsOnCycle, IsRightVictim, gives_way, gives_way_by, gives_way_to}
use Rattle.salt_waits.specs.declared.units.WaitUnit.{WaitUnit}
use Rattle.std.proofs.Common.{⊎_elim, Bool, IsTrue, List, None, Option, Some, ap, arith, eq-or-lt_of_le, false, length, option_map, refl, slice_get, subst, sym, true, ℕ, ◌+◌, ◌<◌, ◌≡◌, ◌∙◌, ◌≤◌, ◌⊎◌}
use Rattle.std.proofs.lemmas.Option.{slice_get_within}

-- no unit below the bound that is on a cycle gives way before it
pub record IsBest (bound : ℕ) (list : List WaitUnit) (u : WaitUnit) : Type 0 where
  pub on_cycle : IsOnCycle list u
  pub first : (at : ℕ) (v : WaitUnit) → at < bound → slice_get list at ≡ Some v → IsOnCycle list v → gives_way v u ≡ false

abbrev pub IsBestBelow : ℕ → List WaitUnit → Option WaitUnit → Type 0
IsBestBelow bound list (Some u) = IsBest bound list u
IsBestBelow bound list None = (at : ℕ) (v : WaitUnit) → at < bound → slice_get list at ≡ Some v → IsOnCycle list v → ⊥

-- a fact of the units below a bound and of the one at it
bounded : (P : WaitUnit → Type 0) (bound : ℕ) (list : List WaitUnit) (u : WaitUnit) → slice_get list bound ≡ Some u → ((at : ℕ) (v : WaitUnit) → at < bound → slice_get list at ≡ Some v → P v) → P u
    → (at : ℕ) (v : WaitUnit) → at < bound + 1 → slice_get list at ≡ Some v → P v
bounded P bound list u is before now at v below at_v = ⊎_elim (λ e. subst P (same_item u v (sym is ∙ (ap (slice_get list) (sym e) ∙ at_v))) now) (λ less. before at v less at_v) (cases (omega (arith, below)))
  where
    cases : at ≤ bound → (at ≡ bound) ⊎ (at < bound)
    cases le = eq-or-lt_of_le le

not_true : (b : Bool) → (b ≡ true → ⊥) → b ≡ false
not_true true none = absurd (none refl)
not_true false none = refl

pub better : (bound : ℕ) (list : List WaitUnit) (u : WaitUnit) (best : Option WaitUnit) → slice_get list bound ≡ Some u → gives_way_to u best ≡ true → IsOnCycle list u → IsBestBelow bound list best
    → IsBestBelow (bound + 1) list (Some u)
better bound list u best is wins on before = record { on_cycle = on; first = bounded (λ v. IsOnCycle list v → gives_way v u ≡ false) bound list u is (earlier best wins before) (λ _. none_before_itself u) }
  where
    earlier : (best : Option WaitUnit) → gives_way_to u best ≡ true → IsBestBelow bound list best → (at : ℕ) (v : WaitUnit) → at < bound → slice_get list at ≡ Some v → IsOnCycle list v → gives_way v u ≡ false
    earlier None wins none at v below at_v on_v = absurd (none at v below at_v on_v)
    earlier (Some b) wins b_best at v below at_v on_v = not_true (gives_way v u) (λ yes. let both = before_both v u b yes wins in let no = b_best.first at v below at_v on_v in cc (both, no))

-- a unit that is on no cycle, or that does not give way before the best one
pub no_better : (bound : ℕ) (list : List WaitUnit) (u : WaitUnit) (best : Option WaitUnit) → slice_get list bound ≡ Some u → (gives_way_to u best ≡ true → IsOnCycle list u → ⊥) → IsBestBelow bound list best
    → IsBestBelow (bound + 1) list best
no_better bound list u None is not before = bounded (λ v. IsOnCycle list v → ⊥) bound list u is before (λ on. not refl on)
no_better bound list u (Some b) is not before = record { on_cycle = before.on_cycle; first = bounded (λ v. IsOnCycle list v → gives_way v b ≡ false) bound list u is before.first (λ on. not_true (gives_way u b) (λ yes. not yes on)) }

pub best_of_all : (list : List WaitUnit) (best : Option WaitUnit) → IsBestBelow (length list) list best → IsRightVictim list (option_map (λ (u : WaitUnit). u.unit) best)
best_of_all list None none = λ v on. let at = place_of list v on.listed in none at.0 v (slice_get_within list at.0 v at.1) at.1 on
best_of_all list (Some u) best = (
  u,
  refl,
  record {
    on_cycle = best.on_cycle;
    acid_first = λ v on acid. acid_by v.acid u.acid (is_older u.unit v.unit) (never v on) acid;
    youngest = λ v on same. not_younger v.unit u.unit (younger_by v.acid u.acid (is_older u.unit v.unit) same (never v on));
  },
)
  where
    never : (v : WaitUnit) → IsOnCycle list v → gives_way v u ≡ false
    never v on = let at = place_of list v on.listed in best.first at.0 v (slice_get_within list at.0 v at.1) at.1 on

    acid_by : (a b o : Bool) → gives_way_by a b o ≡ false → IsTrue a → IsTrue b
    acid_by true true o e is = is
    acid_by true false o e is = absurd (cc e)
    acid_by false b o e is = absurd (cc is)

    younger_by : (a b o : Bool) → a ≡ b → gives_way_by a b o ≡ false → o ≡ false
    younger_by true true o same e = e
    younger_by false false o same e = e
    younger_by true false o same e = absurd (cc same)
    younger_by false true o same e = absurd (cc same)
