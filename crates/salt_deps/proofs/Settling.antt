-- Between finishes no program comes to finished ones alone.
use Rattle.salt_deps.specs.Due.{NoneSettled, SettledComeTo}
use Rattle.law_states.specs.DependencyCalls.{HasFinished}
use Rattle.law_states.specs.KeptSources.{Dependencies, Through, itself, through}
use Rattle.law_states.proofs.NoneDue.{finish-leaves-none}
use Rattle.law_story.proofs.Ids.{is_same_id-true}
use Rattle.law_story.proofs.Lists.{either, or_cases}
use Rattle.salt_values.specs.Id.{has_id}
use Rattle.salt_values.specs.Id.{is_same_id}
use Rattle.salt_values.specs.declared.id.Id.{Id}
use Rattle.std.proofs.Common.{inl, inr, subst, ◌∙◌}
use Rattle.std.specs.Prelude.{Bool, List, [], false, not, refl, true, ◌&&◌, ◌∷◌, ◌≡◌, ◌⊎◌}

through-more : (f g : Id → Id → Bool) → ((x y : Id) → f x y ≡ true → g x y ≡ true) → (b c : Id) → Through f b c → Through g b c
through-more f g h b c itself = itself
through-more f g h b c (through {c = x} i r) = through (h b x i) (through-more f g h x c r)

-- more readings settle none
pub more-read : (old new : Id → Id → Bool) (finished : List Id) → ((x y : Id) → old x y ≡ true → new x y ≡ true) → NoneSettled old finished → NoneSettled new finished
more-read old new finished more none b s = none b (λ c r. s c (through-more old new more b c r))

-- an unfinished program that reads from none any more settles none
pub one-unread : (old new : Id → Id → Bool) (finished : List Id) (base : Id) → ((x y : Id) → new x y ≡ (old x y && not (is_same_id x base))) → has_id base finished ≡ false →
    NoneSettled old finished → NoneSettled new finished
one-unread old new finished base left open-still none b s = none b (λ c r. either (λ e. s c e) (λ e. let yes : has_id base finished ≡ true = s base e in absurd cc) (ways b c r))
  where
    ways : (x c : Id) → Through old x c → Through new x c ⊎ Through new x base
    ways x c itself = inl itself
    ways x c (through {c = y} h r) = by (is_same_id x base) refl (ways y c r)
      where
        by : (t : Bool) → is_same_id x base ≡ t → Through new y c ⊎ Through new y base → Through new x c ⊎ Through new x base
        by true e more = inr (subst (Through new x) (is_same_id-true x base e) itself)
        by false e (inl w) = inl (through (left x y ∙ rw (h, e) refl) w)
        by false e (inr w) = inr (through (left x y ∙ rw (h, e) refl) w)

-- what settles with one more finished comes to it
pub settled-come : (reads : Id → Id → Bool) (finished : List Id) (base : Id) → NoneSettled reads finished → SettledComeTo reads (base ∷ finished) (base ∷ [])
settled-come reads finished base none b s apart = none b (λ c r. either (λ e. absurd (apart base (inl refl) (subst (Through reads b) (is_same_id-true c base e) r))) (λ e. e) (or_cases (is_same_id c base) (has_id c finished) (s c r)))

-- after a finish none is settled
pub none-left : (base : Id) (bs : List Id) (old new : Dependencies) (finished : List Id) → ((b : Id) → has_id b finished ≡ true → new.finished b ≡ true) → HasFinished base bs old new → NoneSettled new.reads finished
none-left base bs old new finished are h b s = finish-leaves-none base bs old new h b (record { finished = are b (s b itself); sources = λ c r. are c (s c r) })
