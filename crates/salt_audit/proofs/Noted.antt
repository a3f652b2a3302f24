-- Units by their names: one that is changed, one that is not there, and one more.
use Rattle.salt_audit.proofs.Amiss.{id_is}
use Rattle.salt_audit.proofs.Named.{same_at}
use Rattle.salt_audit.specs.Order.{id_cmp}
use Rattle.salt_audit.specs.Standing.{begun_in}
use Rattle.salt_audit.specs.declared.state.Begun.{Begun}
use Rattle.salt_values.specs.Id.{is_same_id}
use Rattle.salt_values.specs.declared.id.Id.{Id}
use Rattle.std.proofs.Common.{ap, sym, ◌∙◌}
use Rattle.std.specs.BTreeMap.{BTreeMap, get}
use Rattle.std.specs.Ordering.{is_eq}
use Rattle.std.specs.Prelude.{Bool, None, Some, cond, false, if◌then◌else◌, option_map, refl, true, ◌≡◌}

-- this is written at the name
abbrev pub Writes : BTreeMap Id Begun → BTreeMap Id Begun → Id → Begun → Type 0
Writes old new v n = (q : Id) → get id_cmp new q ≡ cond (is_eq (id_cmp v q)) (Some n) (get id_cmp old q)

pub unit_changed : (old new : BTreeMap Id Begun) (v : Id) (n : Begun) (f : Begun → Begun) → get id_cmp old v ≡ Some n → Writes old new v (f n) → (u : Id) →
    begun_in u new ≡ (if is_same_id u v then option_map f (begun_in u old) else begun_in u old)
unit_changed old new v n f there w u =
    w u ∙ ap (λ (t : Bool). cond t (Some (f n)) (get id_cmp old u)) (same_at v u) ∙ by (is_same_id u v) refl
  where
    by : (t : Bool) → is_same_id u v ≡ t → cond t (Some (f n)) (get id_cmp old u) ≡ (if t then option_map f (begun_in u old) else begun_in u old)
    by true is = sym (ap (option_map f) (ap (get id_cmp old) (id_is u v is) ∙ there))
    by false is = refl

pub unit_missing : (old : BTreeMap Id Begun) (v : Id) (f : Begun → Begun) → get id_cmp old v ≡ None → (u : Id) →
    begun_in u old ≡ (if is_same_id u v then option_map f (begun_in u old) else begun_in u old)
unit_missing old v f none u = by (is_same_id u v) refl
  where
    by : (t : Bool) → is_same_id u v ≡ t → begun_in u old ≡ (if t then option_map f (begun_in u old) else begun_in u old)
    by true is =
        let gone : begun_in u old ≡ None = ap (get id_cmp old) (id_is u v is) ∙ none in
        gone ∙ sym (ap (option_map f) gone)
    by false is = refl

pub unit_more : (old new : BTreeMap Id Begun) (n : Begun) → Writes old new n.name n → (u : Id) → begun_in u new ≡ (if is_same_id u n.name then Some n else begun_in u old)
unit_more old new n w u = w u ∙ ap (λ (t : Bool). cond t (Some n) (get id_cmp old u)) (same_at n.name u)
