-- The words of a line, each with what was counted behind it, are the summary.
use Rattle.salt_model.specs.Continuing.{accepted_by}
use Rattle.salt_model.specs.EventTexts.{cell_text}
use Rattle.salt_model.specs.Summary as model
use Rattle.salt_model.specs.declared.events.End.TheVariants.{Committed, Victim}
use Rattle.salt_model.specs.declared.events.Event.TheVariants.{Accepted, Began, Ended, Waits}
use Rattle.salt_model.specs.declared.events.Event.{Event}
use Rattle.salt_workload.specs.Summary as counted
use Rattle.std.proofs.Common.{ap, append_assoc, ◌∙◌}
use Rattle.std.specs.Fmt.{decimal}
use Rattle.std.specs.List.{filter}
use Rattle.std.specs.Prelude.{Bool, List, None, [], codes, cond, false, is_some, length, refl, suc, true, ℕ, ◌++◌, ◌∷◌, ◌≡◌}

-- COUNTS

count-same : (f g : Event → Bool) → ((e : Event) → f e ≡ g e) → (story : List Event) → length (filter f story) ≡ length (filter g story)
count-same f g same [] = refl
count-same f g same (e ∷ es) = ap (λ (b : Bool). length (cond b (e ∷ filter f es) (filter f es))) (same e) ∙ by (g e) (count-same f g same es)
  where
    by : (b : Bool) → length (filter f es) ≡ length (filter g es) → length (cond b (e ∷ filter f es) (filter f es)) ≡ length (cond b (e ∷ filter g es) (filter g es))
    by true h = ap suc h
    by false h = h

began : (e : Event) → counted.is_began e ≡ model.is_began e
began (Began u kind) = refl
began e = refl

committed : (e : Event) → counted.is_committed e ≡ model.is_committed e
committed (Ended u (Committed n)) = refl
committed (Ended u end) = refl
committed e = refl

accepted : (e : Event) → counted.is_accepted e ≡ is_some (accepted_by e)
accepted (Accepted b) = refl
accepted e = refl

waits : (e : Event) → counted.is_waits e ≡ model.is_wait e
waits (Waits u owners) = refl
waits e = refl

victims : (e : Event) → counted.is_victim e ≡ model.is_victim e
victims (Ended u Victim) = refl
victims (Ended u end) = refl
victims e = refl

-- THE LINE

step : (word : List ℕ) (a b : ℕ) (x y : List ℕ) → a ≡ b → x ≡ y → (word ++ decimal a) ++ x ≡ word ++ (decimal b ++ y)
step word a b x y same more = append_assoc word (decimal a) x ∙ ap (λ n. word ++ (decimal n ++ x)) same ∙ ap (λ l. word ++ (decimal b ++ l)) more

pub spelled : (calls lines : ℕ) (story : List Event) →
    (codes "load " ++ decimal calls) ++ ((codes " lines " ++ decimal lines) ++ ((codes " units " ++ decimal (model.count_of counted.is_began story)) ++
    ((codes " committed " ++ decimal (model.count_of counted.is_committed story)) ++ ((codes " accepted " ++ decimal (model.count_of counted.is_accepted story)) ++
    ((codes " released " ++ decimal (counted.released_count story)) ++ ((codes " waits " ++ decimal (model.count_of counted.is_waits story)) ++
    ((codes " victims " ++ decimal (model.count_of counted.is_victim story)) ++ ((codes " total " ++ cell_text (model.last_value None story)) ++ 10 ∷ []))))))))
    ≡ model.summary_of calls lines story
spelled calls lines story =
    step (codes "load ") calls calls _ _ refl
    (step (codes " lines ") lines lines _ _ refl
    (step (codes " units ") _ _ _ _ (count-same counted.is_began model.is_began began story)
    (step (codes " committed ") _ _ _ _ (count-same counted.is_committed model.is_committed committed story)
    (step (codes " accepted ") _ _ _ _ (count-same counted.is_accepted (λ e. is_some (accepted_by e)) accepted story)
    (step (codes " released ") _ _ _ _ refl
    (step (codes " waits ") _ _ _ _ (count-same counted.is_waits model.is_wait waits story)
    (step (codes " victims ") _ _ _ _ (count-same counted.is_victim model.is_victim victims story)
    (append_assoc (codes " total ") (cell_text (model.last_value None story)) (10 ∷ [])))))))))
