-- The sources that a program is given are those that it reads through.
use Rattle.law_story.proofs.Defined.{AreDefined}
use Rattle.law_story.proofs.FinishedSources.{Sources, sources-played}
use Rattle.law_story.proofs.Ids.{is_same_id-refl}
use Rattle.law_story.proofs.Lists.{In, either, filter-short, has-in, in-has}
use Rattle.law_story.proofs.Upheld.{OfBoots}
use Rattle.law_story.proofs.Widening.{Path, all-come, comes-by, here, onward}
use Rattle.law_story.specs.Rewordings.{SourcesAreReadThrough}
use Rattle.salt_model.specs.Played.{IsPlayed}
use Rattle.salt_model.specs.Programs.{accepted_in}
use Rattle.salt_model.specs.Reads.{read_directly, sources}
use Rattle.salt_model.specs.Releasing.{ReadsThrough, itself, through}
use Rattle.salt_model.specs.Trace.{Trace, start_of}
use Rattle.salt_values.specs.Id.{has_id, without}
use Rattle.salt_values.specs.declared.id.Id.{Id}
use Rattle.std.proofs.Common.{inl, inr, subst, sym}
use Rattle.std.specs.Prelude.{List, [], length, not, refl, ◌∷◌, ◌≤◌}

module _ (trace : Trace) where
  abbrev reads : Id → List Id
  reads b = read_directly b trace

  path-read : (b c : Id) → Path reads b c → ReadsThrough trace b c
  path-read b c here = itself
  path-read b c (onward {v = x} h r) = through (in-has x _ h) (path-read x c r)

  read-path : (b c : Id) → ReadsThrough trace b c → Path reads b c
  read-path b c itself = here
  read-path b c (through {c = x} h r) = onward (has-in x _ h) (read-path x c r)

  -- what is read through is accepted, or the reader itself
  read-accepted : Sources trace → (b c : Id) → ReadsThrough trace b c → In c (b ∷ accepted_in trace)
  read-accepted s b c itself = inl refl
  read-accepted s b c (through {c = x} h r) =
      inr (either (λ e. subst (λ y. In y (accepted_in trace)) e (s.read b x (has-in x _ h))) (λ i. i) (read-accepted s x c r))

  others : (b : Id) → length (without (b ∷ []) (b ∷ accepted_in trace)) ≤ length (accepted_in trace)
  others b = rw (is_same_id-refl b) (filter-short (λ u. not (has_id u (b ∷ []))) (accepted_in trace))

  pub sources-exact : Sources trace → SourcesAreReadThrough trace
  sources-exact s b c = (
    (λ h. from (comes-by reads (length (accepted_in trace)) (b ∷ []) c (has-in c (sources trace b) h))),
    (λ r. in-has c (sources trace b) (all-come reads (b ∷ accepted_in trace) (λ x y i. inl (inr (s.read y x i))) (length (accepted_in trace)) (b ∷ []) (others b) b c (inl refl) (read-path b c r) (read-accepted s b c r))),
  )
    where
      from : (y : Id) × In y (b ∷ []) × Path reads y c → ReadsThrough trace b c
      from r = path-read b c (subst (λ y. Path reads y c) (sym (either (λ e. e) (λ x. absurd x) r.1)) r.2)

pub sources-read : (trace : Trace) → IsPlayed trace → OfBoots (start_of trace).kept → AreDefined (start_of trace).kept (start_of trace).kept.conts → SourcesAreReadThrough trace
sources-read trace p w d = sources-exact trace (sources-played trace p w d)
