-- One thing put behind another.
use Rattle.std.proofs.Common.{Err, List, Ok, Result, ap, append_assoc, ℕ, ◌++◌, ◌≡◌, ◌∙◌}
use Rattle.std.specs.Prelude.{IfOk, OnOk}

pub both_put : {A E : Type 0} (r : Result A E) (items : A → List ℕ) (start middle x y written : List ℕ) → middle ≡ start ++ x → written ≡ y
    → IfOk r (λ made. items made ≡ middle ++ written) → IfOk r (λ made. items made ≡ start ++ (x ++ y))
both_put (Ok made) items start middle x y written e f h = h ∙ ap (λ l. l ++ written) e ∙ append_assoc start x written ∙ ap (λ l. start ++ (x ++ l)) f
both_put (Err err) items start middle x y written e f h = tt

pub always : {A E : Type 0} (r : Result A E) (P : Type 0) → P → OnOk r P
always (Ok made) P h = h
always (Err err) P h = tt
