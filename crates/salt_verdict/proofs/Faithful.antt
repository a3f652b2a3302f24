-- What is dishonest by what is known is so of the trace.
use Rattle.law_story.proofs.Lists.{in-filter}
use Rattle.salt_audit.specs.Formed.{is_formed_by}
use Rattle.salt_audit.specs.Laws.{dishonest, fails_amiss, fits_end, is_same_answer, replays, same_all}
use Rattle.salt_audit.specs.Retelling.{told}
use Rattle.salt_model.specs.Honest.{cause_among}
use Rattle.salt_model.specs.Statements.{serial}
use Rattle.salt_model.specs.Trace.{Trace}
use Rattle.salt_model.specs.Units.{answers_of, is_open, open_units, units_begun}
use Rattle.salt_model.specs.declared.events.Answer.{Answer}
use Rattle.salt_model.specs.declared.events.Event.TheVariants as event
use Rattle.salt_model.specs.declared.events.Event.{Event}
use Rattle.salt_values.specs.declared.id.Id.{Id}
use Rattle.salt_verdict.proofs.Active.{does_open, ends_open}
use Rattle.salt_verdict.proofs.Listed.{agreeing}
use Rattle.salt_verdict.specs.Ledger.{HoldsTrace, amiss_by, dishonest_by, is_unfaithful, replays_by, unfaithful_in}
use Rattle.salt_verdict.specs.declared.ledger.Ledger.{Ledger}
use Rattle.std.proofs.Common.{Bool, List, [], ap, false, if◌then◌else◌, not, refl, sym, true, ◌++◌, ◌∙◌, ◌∷◌, ◌≡◌}
use Rattle.std.specs.List.{filter}
use Rattle.std.specs.Prelude.{is_some}

module _ (l : Ledger) (trace : Trace) (h : HoldsTrace l trace) where
  replay_same : (u : Id) → is_open trace u ≡ true → replays trace u ≡ replays_by l u
  replay_same u runs = λ i. same_all is_same_answer (h.answers u runs i) (serial (h.knows.schema i) (h.tables i) (h.vars u runs i) (h.done u runs i)).answers

  unfaithful_same : unfaithful_in l ≡ filter (λ u. not (replays trace u)) (open_units trace)
  unfaithful_same =
      ap (filter (is_unfaithful l)) (sym h.active)
      ∙ agreeing (is_unfaithful l) (λ (u : Id). not (replays trace u)) (open_units trace)
      (λ u i. ap not (sym (replay_same u (in-filter (is_open trace) u (units_begun trace) i).1)))

  turned : (u : Id) (b : Bool) → (if b then [] else u ∷ []) ≡ (if not b then u ∷ [] else [])
  turned u true = refl
  turned u false = refl

  amiss_same : (e : Event) → is_formed_by trace e ≡ true → amiss_by l e ≡ fails_amiss trace e
  amiss_same (event.Did u st a) f = ap (λ (as_ : List Answer). if is_some (cause_among as_) then u ∷ [] else []) (sym (h.answers u (does_open trace u st a f)))
  amiss_same (event.Ended u e) f =
      ap (λ (as_ : List Answer). if not (fits_end e (cause_among as_)) then u ∷ [] else []) (sym (h.answers u (ends_open trace u e f)))
      ∙ sym (turned u (fits_end e (cause_among (answers_of u trace))))
  amiss_same (event.Began u k) f = refl
  amiss_same (event.Waits u os) f = refl
  amiss_same (event.Accepted b) f = refl
  amiss_same (event.Finished b) f = refl
  amiss_same (event.Released bs) f = refl
  amiss_same (event.Early bs) f = refl
  amiss_same (event.Down w) f = refl
  amiss_same (event.Opened boot n) f = refl
  amiss_same event.Ready f = refl
  amiss_same (event.Defined n text) f = refl
  amiss_same (event.Refused r) f = refl
  amiss_same (event.Armed pairs) f = refl
  amiss_same (event.Shown items) f = refl

pub dishonest_same : (before after : Ledger) (trace : Trace) (e : Event) → HoldsTrace before trace → is_formed_by trace e ≡ true → HoldsTrace after (told trace e) →
    dishonest_by before after e ≡ dishonest trace e
dishonest_same before after trace e h f k = λ i. unfaithful_same after (told trace e) k i ++ amiss_same before trace h e f i
