-- An event is amiss behind its unit's answers.
use Rattle.salt_audit.specs.Laws.{fails_amiss, fits_end}
use Rattle.salt_audit.specs.Replaying.{is_amiss, is_of_unit}
use Rattle.salt_model.specs.Honest.{cause_among}
use Rattle.salt_model.specs.Trace.{Trace}
use Rattle.salt_model.specs.Units.{answers_of}
use Rattle.salt_model.specs.declared.events.Event.TheVariants as event
use Rattle.salt_model.specs.declared.events.Event.{Event}
use Rattle.salt_values.specs.Id.{is_same_id}
use Rattle.salt_values.specs.declared.id.Id.{Id}
use Rattle.std.proofs.Common.{Bool, [], ap, arith, false, if◌then◌else◌, is_some, not, refl, sym, true, ◌&&◌, ◌==◌, ◌∷◌, ◌∙◌, ◌≡◌}
use Rattle.std.proofs.lemmas.Bool.Decides.{nat_tests}

pub both_true : (a b : Bool) → (a && b) ≡ true → (a ≡ true) × (b ≡ true)
both_true true true h = (refl, refl)
both_true true false h = absurd cc
both_true false b h = absurd cc

pub id_is : (u v : Id) → is_same_id u v ≡ true → u ≡ v
id_is u v h =
    let p = both_true (u.boot == v.boot) (u.seq == v.seq) h in
    let boot : u.boot ≡ v.boot = grind (arith, nat_tests, p.0) in
    let seq : u.seq ≡ v.seq = grind (arith, nat_tests, p.1) in
    (λ i. record { boot = boot i; seq = seq i })

turned : (u : Id) (b : Bool) → (if b then [] else u ∷ []) ≡ (if not b then u ∷ [] else [])
turned u true = refl
turned u false = refl

pub amiss_same : (trace : Trace) (u : Id) (e : Event) → is_of_unit u e ≡ true → fails_amiss trace e ≡ (if is_amiss e (answers_of u trace) then u ∷ [] else [])
amiss_same trace u (event.Did v st a) is = ap (λ (w : Id). if is_some (cause_among (answers_of w trace)) then w ∷ [] else []) (sym (id_is u v is))
amiss_same trace u (event.Ended v e) is =
    turned v (fits_end e (cause_among (answers_of v trace)))
    ∙ ap (λ (w : Id). if not (fits_end e (cause_among (answers_of w trace))) then w ∷ [] else []) (sym (id_is u v is))
amiss_same trace u (event.Began v k) is = absurd cc
amiss_same trace u (event.Waits v os) is = absurd cc
amiss_same trace u (event.Accepted b) is = absurd cc
amiss_same trace u (event.Finished b) is = absurd cc
amiss_same trace u (event.Released bs) is = absurd cc
amiss_same trace u (event.Early bs) is = absurd cc
amiss_same trace u (event.Down w) is = absurd cc
amiss_same trace u (event.Opened boot n) is = absurd cc
amiss_same trace u event.Ready is = absurd cc
amiss_same trace u (event.Defined n text) is = absurd cc
amiss_same trace u (event.Refused r) is = absurd cc
amiss_same trace u (event.Armed pairs) is = absurd cc
amiss_same trace u (event.Shown items) is = absurd cc
