-- Behind an early opening the cover and the group are all that is kept, and no unit has begun.
use Rattle.law_states.proofs.Abandoned.{finished-accepted, firsts}
use Rattle.law_states.proofs.Askers.{waiting-says}
use Rattle.law_states.proofs.KeptPrograms.{unreleased-says}
use Rattle.law_states.proofs.LocksAfter.{cover-early}
use Rattle.law_states.proofs.Pairs.{early-named, reads-early}
use Rattle.law_states.proofs.Writers.{writer-early}
use Rattle.law_states.specs.KeptCover.{KeepsCover, group_of}
use Rattle.law_states.specs.KeptSources.{FinishedLive}
use Rattle.law_story.proofs.Ids.{and_left, and_right}
use Rattle.law_story.proofs.Lists.{has-in}
use Rattle.law_story.proofs.NextFits.{Fits}
use Rattle.law_story.proofs.Salted.{salty}
use Rattle.law_story.proofs.Sound.{named-bases}
use Rattle.law_story.proofs.Upheld.{OfBoots, holds, may-fit}
use Rattle.law_story.proofs.WellKept.{of-start}
use Rattle.salt_model.specs.Kept.{WellKept}
use Rattle.salt_model.specs.Phases.{Fallen, Opening, phase}
use Rattle.salt_model.specs.Played.{IsPlayed}
use Rattle.salt_model.specs.Trace.{Trace, from, start_of, ◌asks◌, ◌says◌, ◌turns◌}
use Rattle.salt_model.specs.Turns.{owes_turn, still_to_go}
use Rattle.salt_model.specs.Units.{base_count, unit_count}
use Rattle.salt_model.specs.declared.events.Event.TheVariants.{Began, Down, Early, Opened, Ready, Refused}
use Rattle.salt_model.specs.declared.events.UnitKind.{UnitKind}
use Rattle.salt_model.specs.declared.events.UnitKind.TheVariants.{Acid, Call, First, Later}
use Rattle.salt_values.specs.Id.{has_id}
use Rattle.salt_values.specs.declared.id.Id.{Id}
use Rattle.std.proofs.Common.{append-nil, inl, sym, ◌∙◌}
use Rattle.std.specs.Prelude.{Bool, List, [], false, not, refl, true, ◌&&◌, ◌≡◌}

-- where the run is down no turn is to come
pub record Still (trace : Trace) : Type 0 where
  pub to_go : still_to_go trace ≡ []
  pub owes : owes_turn trace ≡ false

fallen : (trace : Trace) → IsPlayed trace → phase trace ≡ Fallen → Still trace
fallen (from k) p h = record { to_go = refl; owes = refl }
fallen (trace asks asked) p h = let s = sym p.1.0 ∙ h in cc
fallen (trace turns b) p h = let s = sym p.1 ∙ h in cc
fallen (trace says Down why) p h = record { to_go = refl; owes = refl }
fallen (trace says Opened boot n) p h = cc
fallen (trace says Ready) p h = cc
fallen (trace says Early bs) p h = cc
fallen (trace says Refused r) p h = let s = fallen trace p.0 h in record { to_go = s.to_go; owes = refl }
fallen (trace says e) p h = let s = fallen trace p.0 h in record { to_go = s.to_go; owes = s.owes }

-- in an opening that may be early nothing begins
pub record Quiet (trace : Trace) : Type 0 where
  pub still : Still trace
  pub begun : unit_count trace ≡ 0
  pub bases : base_count trace ≡ 0

quiet : (trace : Trace) → IsPlayed trace → OfBoots (start_of trace).kept → (start_of trace).early ≡ true → phase trace ≡ Opening → Quiet trace
quiet (from k) p w y h = cc
quiet (trace asks asked) p w y h = let s = sym p.1.0 ∙ h in cc
quiet (trace turns b) p w y h = let s = sym p.1 ∙ h in cc
quiet (trace says Down why) p w y h = cc
quiet (trace says Opened boot n) p w y h =
    let s = fallen trace p.0 (may-fit trace (Opened boot n) (holds trace p.0 w).comes p.1).0 in
    record { still = record { to_go = s.to_go; owes = s.owes }; begun = refl; bases = refl }
quiet (trace says Ready) p w y h = cc
quiet (trace says Early bs) p w y h = cc
quiet (trace says Began u kind) p w y h = absurd (none kind (may-fit trace (Began u kind) (holds trace p.0 w).comes p.1))
  where
    none : (kind : UnitKind) → Fits trace (Began u kind) → ⊥
    none (Later b part) f = let s = sym y ∙ (f.2.2 h).2 in cc
    none (First s b n args) f = let s = sym f.2.0 ∙ h in cc
    none (Acid s) f = let s = sym f.2 ∙ h in cc
    none (Call s n args) f = let s = sym f.2 ∙ h in cc
quiet (trace says Refused r) p w y h =
    let q = quiet trace p.0 w y h in record { still = record { to_go = q.still.to_go; owes = refl }; begun = q.begun; bases = q.bases }
quiet (trace says e) p w y h =
    let q = quiet trace p.0 w y h in record { still = record { to_go = q.still.to_go; owes = q.still.owes }; begun = q.begun; bases = q.bases }

three : (a b c : Bool) → a ≡ true → b ≡ true → c ≡ false → (a && b && not c) ≡ true
three true true false e f g = refl
three false b c e f g = cc
three true false c e f g = cc
three true true true e f g = cc

un-not : (t : Bool) → not t ≡ true → t ≡ false
un-not true h = cc
un-not false h = refl

pub early-keeps : (trace : Trace) (bs : List Id) → IsPlayed (trace says Early bs) → WellKept (start_of trace).kept → KeepsCover (trace says Early bs) bs
early-keeps trace bs p w =
    let o = of-start (start_of trace).kept w in
    let k = holds trace p.0 o in
    let f = may-fit trace (Early bs) k.comes p.1 in
    let first = firsts trace p.0 o in
    let q = quiet trace p.0 o f.4 f.0 in
    record {
      names = f.1;
      named = refl;
      units = f.3;
      begun = q.begun;
      bases = q.bases;
      to_go = q.still.to_go;
      owes = q.still.owes;
      locks = append-nil _ ∙ cover-early trace bs k.sound f;
      waits = waiting-says trace (Early bs) p o;
      programs = unreleased-says trace (Early bs) p o;
      dependencies = record {
        writer = λ x. sym (writer-early trace bs (salty trace p.0 o w.defined) x);
        reads = λ x y. let r = reads-early trace bs (group_of bs) p o k.sound first f x y in (
          (λ t. r.0 (and_left _ _ (and_left (has_id x bs && has_id y bs) _ t), and_right (has_id x bs) _ (and_left (has_id x bs && has_id y bs) _ t), un-not _ (and_right (has_id x bs && has_id y bs) _ t))),
          (λ m. let i = r.1 m in three _ _ _ i.0 i.1 i.2),
        );
        finished = λ b. ((λ t. cc), (λ (m : FinishedLive (trace says Early bs) b). absurd (k.sound.goes_on b (named-bases trace bs f b (has-in b bs (early-named trace bs b (first.accepted_known b (finished-accepted trace p.0 o b m.finished)) m.unreleased))) (inl m.finished))));
      };
    }
