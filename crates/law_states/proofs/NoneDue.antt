-- No kept program is due between finishes, so a finish can make due only programs that come to its own.
use Rattle.law_states.proofs.CallsFit.{wrote-finished, wrote-reads}
use Rattle.law_states.specs.DependencyCalls.{HasAbandoned, HasFinished, HasRead, WroteAll, marked}
use Rattle.law_states.specs.KeptSources.{Dependencies, IsDue, Through, itself, through}
use Rattle.law_states.specs.NoneDue.{NoneDue}
use Rattle.law_story.proofs.Ids.{is_same_id-true}
use Rattle.law_story.proofs.Lists.{either, has-in, in-has, or_cases}
use Rattle.salt_values.specs.Id.{has_id}
use Rattle.salt_model.specs.declared.locks.Reach.{Reach}
use Rattle.salt_model.specs.declared.places.Place.{Place}
use Rattle.salt_values.specs.Id.{is_same_id}
use Rattle.salt_values.specs.declared.id.Id.{Id}
use Rattle.std.proofs.Common.{inl, subst, sym, ◌∙◌}
use Rattle.std.specs.Prelude.{Bool, IsTrue, List, Option, false, refl, true, ◌||◌, ◌≡◌}

-- ways by more pairs
through-more : (f g : Id → Id → Bool) → ((x y : Id) → IsTrue (f x y) → IsTrue (g x y)) → (b c : Id) → Through f b c → Through g b c
through-more f g h b c itself = itself
through-more f g h b c (through {c = x} i r) = through (h b x i) (through-more f g h x c r)

-- fewer finished, or more pairs, make none due
fewer-due : (old new : Dependencies) → ((x y : Id) → IsTrue (old.reads x y) → IsTrue (new.reads x y)) →
    ((b : Id) → IsTrue (new.finished b) → IsTrue (old.finished b)) → NoneDue old → NoneDue new
fewer-due old new r f n b d =
    n b (record { finished = f b d.finished; sources = λ c t. f c (d.sources c (through-more old.reads new.reads r b c t)) })

pub wrote-none : (base : Option Id) (ps : List Place) (old new : Dependencies) → WroteAll base ps old new → NoneDue old → NoneDue new
wrote-none base ps old new w n =
    fewer-due old new (λ x y t. (wrote-reads base ps old new w x y).1 t) (λ b t. (wrote-finished base ps old new w b).0 t) n

pub read-none : (base : Id) (r : Reach) (old new : Dependencies) → HasRead base r old new → NoneDue old → NoneDue new
read-none base r old new h n = fewer-due old new (λ x y t. (h.reads x y).1 (inl t)) (λ b t. (h.finished b).0 t) n

-- one that no other reads from, and that is not finished, is given up
pub abandon-none : (base : Id) (old new : Dependencies) → HasAbandoned base old new → ((x : Id) → IsTrue (old.reads x base) → ⊥) →
    (IsTrue (old.finished base) → ⊥) → NoneDue old → NoneDue new
abandon-none base old new h source unfinished n b d =
    n b (record { finished = (h.finished b).0 d.finished; sources = λ c t. (h.finished c).0 (d.sources c (kept b c t (apart b (λ e. unfinished (subst (λ x. IsTrue (old.finished x)) e ((h.finished b).0 d.finished)))))) })
  where
    apart : (x : Id) → (x ≡ base → ⊥) → is_same_id x base ≡ false
    apart x n = by (is_same_id x base) refl
      where
        by : (t : Bool) → is_same_id x base ≡ t → t ≡ false
        by false e = refl
        by true e = absurd (n (is_same_id-true x base e))

    kept : (b c : Id) → Through old.reads b c → is_same_id b base ≡ false → Through new.reads b c
    kept b c itself a = itself
    kept b c (through {c = x} i r) a =
        through ((h.reads b x).1 (i, a)) (kept x c r (apart x (λ e. source b (subst (λ y. IsTrue (old.reads b y)) e i))))

-- after a finish none is due
pub finish-leaves-none : (base : Id) (bs : List Id) (old new : Dependencies) → HasFinished base bs old new → NoneDue new
finish-leaves-none base bs old new h b d = out ((h.finished b).0 d.finished)
  where
    -- what is not given is not due; a way from it goes on among those kept, or reaches one that is given
    goes : (x c : Id) → IsTrue ((marked base old).finished x) → ((z : Id) → Through new.reads x z → IsTrue (new.finished z)) → Through old.reads x c →
        has_id x bs ≡ false → IsTrue ((marked base old).finished c)
    goes x c f all itself n = f
    goes x c f all (through {c = y} i r) n = by (has_id y bs) refl (λ e g more. goes y c g more r e)
      where
        by : (t : Bool) → has_id y bs ≡ t →
            (has_id y bs ≡ false → IsTrue ((marked base old).finished y) → ((z : Id) → Through new.reads y z → IsTrue (new.finished z)) → IsTrue ((marked base old).finished c)) →
            IsTrue ((marked base old).finished c)
        by true e go = ((h.due y).0 (has-in y bs e)).sources c r
        by false e go =
            let step : IsTrue (new.reads x y) = (h.reads x y).1 (i, n, e) in
            go e ((h.finished y).0 (all y (through step itself))).0 (λ z t. all z (through step t))

    out : IsTrue (is_same_id b base || old.finished b) × (has_id b bs ≡ false) → ⊥
    out m =
        let t : true ≡ false = sym (in-has b bs ((h.due b).1 (record { finished = m.0; sources = λ c r. goes b c m.0 d.sources r m.1 }))) ∙ m.1 in cc

-- and what a finish makes due comes to the program that is finished
pub due-comes-to : (base : Id) (old : Dependencies) → NoneDue old → (b : Id) → IsDue (marked base old) b → (Through old.reads b base → ⊥) → ⊥
due-comes-to base old n b d none = n b (record { finished = was b itself; sources = λ c r. was c r })
  where
    was : (c : Id) → Through old.reads b c → IsTrue (old.finished c)
    was c r =
        either (λ e. absurd (none (subst (Through old.reads b) (is_same_id-true c base e) r))) (λ t. t)
        (or_cases (is_same_id c base) (old.finished c) (at c r))
      where
        at : (c : Id) → Through old.reads b c → (is_same_id c base || old.finished c) ≡ true
        at c itself = d.finished
        at c r = d.sources c r
