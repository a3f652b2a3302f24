-- What a value shows, its fields do.
use Rattle.salt_conflicts.specs.Watched.{IsFinishing, IsWatch}
use Rattle.salt_conflicts.specs.declared.watching.Watching.{Watching}
use Rattle.law_states.specs.Watches.{Watch}
use Rattle.salt_values.specs.declared.id.Id.{Id}
use Rattle.std.proofs.Common.{subst, sym}
use Rattle.std.specs.Prelude.{◌≡◌}

pub watch-shown : (x y : Watching) (w : Watch) → x ≡ y → IsWatch y w → IsWatch x w
watch-shown x y w same h = subst (λ (z : Watching). IsWatch z w) (sym same) h

pub finishing-shown : (b : Id) (x y : Watching) (w : Watch) → x ≡ y → IsFinishing b y w → IsFinishing b x w
finishing-shown b x y w same h = subst (λ (z : Watching). IsFinishing b z w) (sym same) h
