-- What is known by the names of units: one that is put in, and one that is taken out first.
use Rattle.salt_audit.specs.Order.{id_cmp}
use Rattle.salt_values.specs.Id.{is_same_id}
use Rattle.salt_values.specs.declared.id.Id.{Id}
use Rattle.std.proofs.Common.{ap, arith, ◌∙◌}
use Rattle.std.proofs.lemmas.Bool.Decides.{nat_tests}
use Rattle.std.specs.BTreeMap.{BTreeMap, get}
use Rattle.std.specs.Ordering.{is_eq, nat_cmp, ordering_then}
use Rattle.std.specs.Prelude.{Bool, None, Option, cond, false, if◌then◌else◌, refl, true, ℕ, ◌&&◌, ◌==◌, ◌≡◌}
use Rattle.std.specs.declared.cmp.Ordering.TheVariants.{Equal, Greater, Less}
use Rattle.std.specs.declared.cmp.Ordering.{Ordering}

tied : (m n : ℕ) → is_eq (nat_cmp m n) ≡ (n == m)
tied m n = grind (arith, nat_tests)

both : (o p : Ordering) → is_eq (ordering_then o p) ≡ (is_eq o && is_eq p)
both Less p = refl
both Equal p = refl
both Greater p = refl

pub same_at : (a b : Id) → is_eq (id_cmp a b) ≡ is_same_id b a
same_at a b = both (nat_cmp a.boot b.boot) (nat_cmp a.seq b.seq) ∙ (ap (λ t. t && is_eq (nat_cmp a.seq b.seq)) (tied a.boot b.boot) ∙ ap (λ t. (b.boot == a.boot) && t) (tied a.seq b.seq))

-- this is put, or nothing, at the name
abbrev pub Puts : {V : Type 0} → BTreeMap Id V → BTreeMap Id V → Id → Option V → Type 0
Puts old new v o = (q : Id) → get id_cmp new q ≡ cond (is_eq (id_cmp v q)) o (get id_cmp old q)

pub one_put : {V : Type 0} (old new : BTreeMap Id V) (v : Id) (o : Option V) → Puts old new v o → (u : Id) → get id_cmp new u ≡ (if is_same_id u v then o else get id_cmp old u)
one_put old new v o w u = w u ∙ ap (λ (t : Bool). cond t o (get id_cmp old u)) (same_at v u)

pub put_back : {V : Type 0} (old mid new : BTreeMap Id V) (v : Id) (o : Option V) → Puts old mid v None → Puts mid new v o → (u : Id) →
    get id_cmp new u ≡ (if is_same_id u v then o else get id_cmp old u)
put_back old mid new v o out back u = one_put mid new v o back u ∙ by (is_same_id u v) (one_put old mid v None out u)
  where
    by : (t : Bool) → get id_cmp mid u ≡ (if t then None else get id_cmp old u) → (if t then o else get id_cmp mid u) ≡ (if t then o else get id_cmp old u)
    by true h = refl
    by false h = h
