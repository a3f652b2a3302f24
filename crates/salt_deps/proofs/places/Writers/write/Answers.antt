use Rattle.law_states.specs.Members.{In}
use Rattle.salt_deps.proofs.Errs.{on_err}
use Rattle.salt_deps.proofs.Writing.{listed-written}
use Rattle.salt_deps.proofs.places.Writers.write.Goals as goal
use Rattle.salt_deps.specs.Written.{places_at}
use Rattle.salt_model.specs.Tables.{place_cmp}
use Rattle.std.proofs.Common.{Err, Ok, Result, Some, cond, refl, subst, sym, ◌∙◌, ◌≡◌}
use Rattle.std.specs.BTreeMap.{get}
use Rattle.std.specs.Ordering.{is_eq}
use Rattle.std.specs.Prelude.{OnErr, OnOk}

-- what follows both where the call went well and where it did not
either : {T E : Type 0} (r : Result T E) (A B P : Type 0) → OnOk r A → OnErr r B → (A → P) → (B → P) → P
either (Ok x) A B P a b f g = f a
either (Err e) A B P a b f g = g b

pub returns-clause-ok : goal.returns-clause-ok
returns-clause-ok c q =
    subst (λ p. get place_cmp c.insert.new.self q ≡ cond (is_eq (place_cmp p q)) (Some c.args.base) (get place_cmp c.args.self.now.last q)) c.in_ok-place.ensures
    (c.in_ok-insert.ensures.updates.0 q)

pub returns-in_err-insert-clause-err : goal.returns-in_err-insert-clause-err
returns-in_err-insert-clause-err c = on_err c.from_residual-in_err-insert.result _ (λ q. rw c.in_err-insert.ensures.err refl)

pub invariant_of-self-2 : goal.invariant_of-self-2
invariant_of-self-2 c = record {
  listed = either c.insert.result _ _ _ c.insert.ensures.updates c.insert.ensures.err
      (λ updated. listed-written c.args.self.now.last c.insert.new.self c.args.self.now.places c.list_place.new.places c.in_ok-place.place c.args.base c.args.self.now.listed
      c.list_place.ensures.kept
      (subst (λ p. In p (places_at c.list_place.new.places c.args.base)) (c.in_ok-listed.ensures ∙ sym c.in_ok-place.ensures) c.in_ok-list_place.ensures.added)
      updated.0)
      (λ same q b h missing. c.args.self.now.listed q b (rw (← same) h) (λ i. missing (c.list_place.ensures.kept b q i)));
}

pub invariant_of-self : goal.invariant_of-self
invariant_of-self c = record { listed = λ q b h missing. c.args.self.now.listed q b h (λ i. missing (c.list_place.ensures.kept b q i)) }
