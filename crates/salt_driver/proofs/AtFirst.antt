-- A run that fell before anything was found on its devices begins over what is found then.
use Rattle.salt_storage.specs.OpenErr.TheVariants as opening
use Rattle.law_states.specs.Laws.{IsSound}
use Rattle.law_states.specs.Points.{KeepsPoint, Point}
use Rattle.salt_model.specs.Ends.{flight_told}
use Rattle.salt_model.specs.Everywhere.{Each}
use Rattle.salt_model.specs.Kept.{Kept, WellKept}
use Rattle.salt_model.specs.Phases.{Fallen, downs, has_opened, phase}
use Rattle.salt_model.specs.Trace.{Start, Trace, lines_asked, start_of}
use Rattle.salt_model.specs.Words.{Every}
use Rattle.salt_model.specs.declared.events.Event.TheVariants.{Down}
use Rattle.salt_model.specs.declared.events.Event.{Event}
use Rattle.salt_model.specs.declared.events.Flight.{Flight}
use Rattle.salt_model.specs.declared.events.Why.TheVariants.{Stopped}
use Rattle.law_openings.proofs.Leaving.{leaves}
use Rattle.law_openings.proofs.Opening.{falls-again, start-point}
use Rattle.salt_driver.proofs.Falling.{fallen_point}
use Rattle.salt_driver.proofs.StartNames.{start-names}
use Rattle.salt_driver.specs.Devices.{OnDevices}
use Rattle.salt_driver.specs.Opening.{FailsToFind, FindsFirst, IsOpenedFirst, IsUnfound, IsUnopened, fallen_often, start_over, unopened_point}
use Rattle.salt_driver.specs.Serving.{IsDown}
use Rattle.salt_stands.specs.Stands.{are_spent}
use Rattle.salt_stands.specs.Unspent.{OpensUnspent}
use Rattle.salt_storage.specs.Storing.{IsFound, IsSoundKept}
use Rattle.salt_storage.specs.declared.found.Found.{Found}
use Rattle.salt_disk.specs.Disks.{View}
use Rattle.salt_storage.specs.Answers.{IsLater, IsRefusal}
use Rattle.salt_storage.specs.Writing.{FindsNoMore, OfOpening, ToWrite}
use Rattle.salt_storage.specs.OpenErr.{OpenErr}
use Rattle.law_types.specs.Played.{HasKey}
use Rattle.std.proofs.Common.{ap, arith, inl, inr, subst, sym, ◌∙◌}
use Rattle.std.specs.Prelude.{Bool, IsTrue, List, None, Ok, Option, Result, Some, [], false, if◌then◌else◌, refl, ℕ, ◌+◌, ◌++◌, ◌∷◌, ◌≡◌, ◌≤◌, ◌⊎◌, suc, zero}

often-begins : (start : Start) (times : ℕ) → start_of (fallen_often start times) ≡ start
often-begins start zero = refl
often-begins start (suc times) = often-begins start times

often-down : (start : Start) (times : ℕ) → phase (fallen_often start times) ≡ Fallen
often-down start zero = refl
often-down start (suc times) = refl

often-asked : (start : Start) (times : ℕ) → lines_asked (fallen_often start times) ≡ []
often-asked start zero = refl
often-asked start (suc times) = often-asked start times

often-unopened : (start : Start) (times : ℕ) → has_opened (fallen_often start times) ≡ false
often-unopened start zero = refl
often-unopened start (suc times) = often-unopened start times

often-unspent : (start : Start) (times : ℕ) → Each OpensUnspent (fallen_often start times)
often-unspent start zero = tt
often-unspent start (suc times) = (often-unspent start times, tt)

-- it is there as it fell first
unfound-point : (k : Kept) (can_stop early over : Bool) → WellKept k → (times : ℕ) →
    (p : Point) × KeepsPoint p (fallen_often (start_over k can_stop early over) times) × IsSound (fallen_often (start_over k can_stop early over) times) × IsUnopened k can_stop early over p
unfolding fallen_point
unfound-point k can_stop early over well zero =
    let start = start_over k can_stop early over in
    let at = start-point start well in
    (unopened_point start, at.0, at.1, record { fallen = refl; kept = refl; line = refl; units = refl; named = refl; owes = refl; flight = refl; can_stop = refl; early = refl; over_net = refl })
unfound-point k can_stop early over well (suc times) =
    let u = unfound-point k can_stop early over well times in
    let p = u.0 in
    let trace = fallen_often (start_over k can_stop early over) times in
    let l = leaves p.state trace (Down Stopped) u.1.state u.2 in
    let q = fallen_point Stopped p l in
    let at = falls-again p q trace u.1 u.2 (record { fallen = u.3.fallen; after = l.after; next = refl; flight = refl }) in (
      q,
      at.0,
      at.1,
      record {
        fallen = refl;
        kept = u.3.kept;
        line = u.3.line;
        units = u.3.units;
        named = u.3.named;
        owes = refl;
        flight = u.3.flight;
        can_stop = u.3.can_stop;
        early = u.3.early;
        over_net = u.3.over_net;
      },
    )

-- over what was found then it is down
pub down-at-first : (k : Kept) (can_stop early over : Bool) (devices : OnDevices) (flies : Option Flight) (story : List Event) → IsUnfound story → IsSoundKept k →
    IsOpenedFirst devices.can_reopen_at k can_stop early over → flies ≡ None → (trace : Trace) × IsDown devices flies (start_over k can_stop early over) story trace × (lines_asked trace ≡ [])
down-at-first k can_stop early over devices flies story u sound opens none =
    let start = start_over k can_stop early over in
    let times = u.0 in
    let trace = fallen_often start times in
    let x = unfound-point k can_stop early over sound.well times in (
      trace,
      record {
        tells = record { begins = often-begins start times; told = u.1 start; played = x.2.played };
        fallen = often-down start times;
        fits = record {
          well = sound.well;
          typed = sound.typed;
          named = start-names start sound.rise;
          keyed = subst (Every HasKey) (sym (often-asked start times)) tt;
          unspent = often-unspent start times;
        };
        point = x.0;
        keeps = x.1;
        room = 0;
        boots = subst (λ (b : Bool). 0 + 1 ≤ downs trace + (if b then 0 else 1)) (sym (often-unopened start times)) (omega arith);
        again = opens x.0 x.3;
        flies = none ∙ ap flight_told (sym x.3.flight);
      },
      often-asked start times,
    )

-- one fall more, and nothing is found yet
pub falls-unfound : (story told : List Event) → IsUnfound story → told ≡ story ++ Down Stopped ∷ [] → IsUnfound told
falls-unfound story told u grows = (suc u.0, λ start. ap (λ es. es ++ Down Stopped ∷ []) (u.1 start) ∙ sym grows)

pub none-told : (story : List Event) → story ≡ [] → IsUnfound story
none-told story empty = (zero, λ start. sym empty)

module _ (r0 r1 r2 : OpenErr → Type 0) (b0 b1 b2 : Kept → Type 0) where
  pub no-more-behind : FindsNoMore r0 b0 r1 b1 → FindsNoMore r1 b1 r2 b2 → FindsNoMore r0 b0 r2 b2
  no-more-behind g h = record {
    refuses_no_more = λ e is. g.refuses_no_more e (h.refuses_no_more e is);
    finds_no_more = λ k is. g.finds_no_more k (h.finds_no_more k is);
  }

pub same-found : (r : OpenErr → Type 0) (b : Kept → Type 0) → FindsNoMore r b r b
same-found r b = record { refuses_no_more = λ e is. is; finds_no_more = λ k is. is }

pub first-before : (told : Bool) (b0 b1 holds : Kept → Type 0) (r0 r1 : OpenErr → Type 0) (x : Found) → FindsNoMore r0 b0 r1 b1 → FindsFirst told b1 holds x → FindsFirst told b0 holds x
first-before told b0 b1 holds r0 r1 x g f =
    record { kept = f.kept; is = f.is; found = g.finds_no_more f.kept f.found; holding = f.holding; sound = f.sound; unspent = f.unspent }

pub fails-to-find : (r0 r1 r2 : OpenErr → Type 0) (b0 b1 b2 : Kept → Type 0) (fills : ToWrite → ℕ → Type 0) (e : OpenErr) (story now : List Event) → now ≡ story → FindsNoMore r0 b0 r1 b1 →
    FindsNoMore r1 b1 r2 b2 → r1 e ⊎ (e ≡ opening.Memory) → (story ≡ []) ⊎ IsLater e → ((dev : ℕ) → e ≡ opening.Full dev → fills OfOpening dev) → FailsToFind r0 b0 r2 b2 fills e now
fails-to-find r0 r1 r2 b0 b1 b2 fills e story now same g h refused empty full =
    record { refused = by refused; empty = untold empty; full = full; less = no-more-behind r0 r1 r2 b0 b1 b2 g h }
  where
    by : r1 e ⊎ (e ≡ opening.Memory) → r0 e ⊎ (e ≡ opening.Memory)
    by (inl r) = inl (g.refuses_no_more e r)
    by (inr m) = inr m

    untold : (story ≡ []) ⊎ IsLater e → (now ≡ []) ⊎ IsLater e
    untold (inl is) = inl (same ∙ is)
    untold (inr l) = inr l

-- nothing is told yet, or behind a stop it is later
pub later-by : (story : List Event) (tried : Type 0) (e : OpenErr) → (story ≡ []) ⊎ tried → (tried → IsLater e) → (story ≡ []) ⊎ IsLater e
later-by story tried e (inl none) later = inl none
later-by story tried e (inr t) later = inr (later t)

-- where what is there is refused, this is the first call, and nothing is told; none comes behind it
pub at-first : {D S : Type 0} (view : D → View) (refuses : View → S → OpenErr → Type 0) (first now : D) (old new : S) (story : List Event) (P : View → Type 0) →
    ((now ≡ first) × (new ≡ old) × (story ≡ [])) ⊎ ((refusal : OpenErr) → IsRefusal refusal → refuses (view first) old refusal → IsTrue (view first).told → ⊥) →
    ((refusal : OpenErr) → IsRefusal refusal → refuses (view now) new refusal → IsTrue (view now).told → P (view now)) →
    (refusal : OpenErr) → IsRefusal refusal → refuses (view first) old refusal → IsTrue (view first).told → P (view first) × (story ≡ [])
at-first {D} {S} view refuses first now old new story P (inl same) h = λ refusal is refused told. (
  subst (λ (s : S). (refusal : OpenErr) → IsRefusal refusal → refuses (view first) s refusal → IsTrue (view first).told → P (view first)) same.1
      (subst (λ (d : D). (refusal : OpenErr) → IsRefusal refusal → refuses (view d) new refusal → IsTrue (view d).told → P (view d)) same.0 h) refusal is refused told,
  same.2,
)
at-first view refuses first now old new story P (inr never) h = λ refusal is refused told. absurd (never refusal is refused told)

-- what an opening gives
pub finds-by : (told : Bool) (finds holds : Kept → Type 0) (x : Found) → ((k : Kept) × IsFound x k × IsSoundKept k × finds k × (IsTrue told → holds k)) → are_spent x.boot x.decisions ≡ false →
    FindsFirst told finds holds x
finds-by told finds holds x h unspent = record { kept = h.0; is = h.1; sound = h.2; found = h.3; holding = h.4; unspent = unspent }

pub same-some : (x y : Found) → ◌≡◌ {A = Result (Option Found) OpenErr} (Ok (Some x)) (Ok (Some y)) → x ≡ y
same-some x y e = cc
