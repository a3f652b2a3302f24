-- The next event of a played trace is told by its state, and by what is known beside it.
use Rattle.law_states.proofs.Doing.{reach-kept}
use Rattle.law_states.proofs.KeepsOn.{keeps-asks, keeps-says, keeps-turns}
use Rattle.law_states.proofs.KeptAfter.{open-listed}
use Rattle.law_states.proofs.LookUps.{number-kept}
use Rattle.law_states.proofs.Told.{after-began-told, after-did-told, after-end-told, cuts-told, finishes-told, go-told, line-told, name_of, serve-told, settle-told, to-cut-told}
use Rattle.law_states.specs.Follows.{cut_in, cuts_or_drains_in, follow_in, follow_opening_in, opened_in, said_in, serving_in, settles_in, stands_in, unit_of}
use Rattle.law_states.specs.Keeps.{KeepsUnit, KeepsUnits}
use Rattle.law_states.specs.Laws.{is_of_run}
use Rattle.law_states.specs.OpenUnits.{OpenUnit, UnitState, unit_named}
use Rattle.law_states.specs.Steps.{units_after, units_asked, units_turned}
use Rattle.law_states.specs.Told.{Beside, at_devices_in, go_in, line_in, settle_in}
use Rattle.law_story.proofs.Coming.{Good}
use Rattle.law_story.proofs.Every.{IfSome}
use Rattle.law_story.proofs.Ids.{is_same_id-refl}
use Rattle.law_story.proofs.NextFits.{find-in, wait-open}
use Rattle.law_story.proofs.Opens.{Open}
use Rattle.law_story.proofs.Replays.{Ground, good-event, replays}
use Rattle.salt_ast.specs.declared.trees.Statement.{Statement}
use Rattle.salt_model.specs.After.{reach_now}
use Rattle.salt_model.specs.Kept.{WellKept, schema_of}
use Rattle.salt_model.specs.Locks.{clashing}
use Rattle.salt_model.specs.Next.{next, said_event, serving_event}
use Rattle.salt_model.specs.Openings.{after_opened, cuts_or_drains, follow_opening, stands_now, to_cut}
use Rattle.salt_model.specs.Phases.{Fallen, Opening, Phase, Serving}
use Rattle.salt_model.specs.Played.{IsPlayed}
use Rattle.salt_model.specs.Reaches.{reach}
use Rattle.salt_model.specs.Reads.{to_release}
use Rattle.salt_model.specs.Refusals.{refusal}
use Rattle.salt_model.specs.Segments.{May}
use Rattle.salt_model.specs.Shown.{base_items, lock_items}
use Rattle.salt_model.specs.Stops.{is_at_devices}
use Rattle.salt_model.specs.Trace.{Asked, Trace, line_asked, line_of, start_of, ◌asks◌, ◌says◌, ◌turns◌}
use Rattle.salt_model.specs.Turns.{after_began, after_did, after_end, does_next, follow, releases, settle, settle_by}
use Rattle.salt_model.specs.Units.{kind_of, wait_list}
use Rattle.salt_model.specs.Waiting.{clashing_now, next_unblocked, victim}
use Rattle.salt_model.specs.Words.{is_empty}
use Rattle.salt_model.specs.declared.events.End.{End}
use Rattle.salt_model.specs.declared.events.Event.{Event}
use Rattle.salt_model.specs.declared.events.Event.TheVariants.{Accepted, Began, Did, Down, Early, Ended, Finished, Opened, Ready, Refused}
use Rattle.salt_values.specs.declared.id.Id.{Id}
use Rattle.std.proofs.Common.{ap, sym, ◌∙◌}
use Rattle.std.specs.Bool.{then_some}
use Rattle.std.specs.Option.{option_or}
use Rattle.std.specs.Prelude.{Bool, None, Option, Some, false, is_some, option_and_then, option_map, refl, ℕ, ◌==◌, ◌≡◌}

-- what is known beside the units is the trace's
pub record IsBeside (trace : Trace) (x : Beside) : Type 0 where
  pub clash : (o : OpenUnit) (st : Statement) → KeepsUnit trace o → clashing trace o.unit st ≡ x.clash o st
  pub items : record { locks = lock_items trace; bases = base_items trace } ≡ x.items
  pub victim : victim trace ≡ x.victim
  pub served : next_unblocked trace ≡ x.served
  pub due : to_release trace ≡ x.due

served-listed : (s : UnitState) (trace : Trace) → Ground trace → KeepsUnits s trace → (o : Option Id) → ((u : Id) → o ≡ Some u → Open trace u) →
    (x : Option OpenUnit) × (option_and_then (λ u. unit_named u s.units) o ≡ x) × (o ≡ name_of x) × IfSome (KeepsUnit trace) x
served-listed s trace ground keeps None f = (None, refl, refl, tt)
served-listed s trace ground keeps (Some u) f = let r = open-listed s trace u ground keeps (f u refl) in (Some r.0, r.1, ap Some (sym r.2), r.3)

pub settles-told : (s : UnitState) (trace : Trace) (x : Beside) → IsBeside trace x → Ground trace → KeepsUnits s trace → settle trace ≡ settles_in s x
settles-told s trace x is ground keeps =
    let r = served-listed s trace ground keeps (next_unblocked trace) (λ u e. wait-open trace u (find-in (λ u. is_empty (clashing_now trace u)) u (wait_list trace) e).0) in
    ap (settle_by trace (victim trace)) r.2 ∙ settle-told s trace keeps (victim trace) r.0 r.3 ∙ ap (settle_in s (victim trace)) (sym r.1)
    ∙ (λ i. settle_in s (is.victim i) (option_and_then (λ u. unit_named u s.units) (is.served i)))

-- an event of a played trace, and the state before and after it
module _ (s : UnitState) (trace : Trace) (keeps : KeepsUnits s trace) (ground : Ground trace) (x : Beside) where
  abbrev Follows : Event → Type 0
  Follows e =
      IsBeside (trace says e) x → Ground (trace says e) → Good trace e → KeepsUnits (units_after e s) (trace says e) → follow
      (trace says e) e ≡ follow_in (units_after e s) x e (unit_of e s (units_after e s))

  ended-follows : (u : Id) (end : End) → Follows (Ended u end)
  ended-follows u end is base good after =
      let now = trace says Ended u end in
      let a = units_after (Ended u end) s in
      let r = open-listed s trace u ground keeps good.0 in
      ap (after_end now end) (ap (λ v. kind_of v trace) (sym r.2) ∙ r.3.kind)
      ∙ after-end-told a now after end r.0.kind
      ∙ ap (follow_in a x (Ended u end)) (sym r.1)

  follow-told : (e : Event) → Follows e
  follow-told (Began u kind) is base good after =
      let now = trace says Began u kind in
      let a = units_after (Began u kind) s in
      let r = open-listed a now u base after (rw (is_same_id-refl u) refl) in
      ap (λ v. after_began now v (line_of trace) kind) (sym r.2) ∙ ap (λ l. after_began now r.0.unit l kind) after.line
      ∙ after-began-told a now after x.clash is.clash r.0 r.3 s.line kind
      ∙ ap (follow_in a x (Began u kind)) (sym r.1)
  follow-told (Did u st answer) is base good after =
      let now = trace says Did u st answer in
      let a = units_after (Did u st answer) s in
      let r = open-listed a now u base after (rw (is_same_id-refl u) refl) in
      ap (λ v. after_did now v answer) (sym r.2)
      ∙ after-did-told a now after r.0 r.3 answer
      ∙ ap (follow_in a x (Did u st answer)) (sym r.1)
  follow-told (Ended u end) is base good after = ended-follows u end is base good after
  follow-told (Accepted b) is base good after = finishes-told s (trace says Accepted b) after b
  follow-told (Finished b) is base good after = ap releases is.due
  follow-told e is base good after = refl

  serving-told : (e : Event) → IsBeside (trace says e) x → Ground (trace says e) → Good trace e → KeepsUnits (units_after e s) (trace says e) →
      serving_event (trace says e) e ≡ serving_in (units_after e s) x e (unit_of e s (units_after e s))
  serving-told Ready is base good after = refl
  serving-told (Early bs) is base good after = refl
  serving-told e is base good after =
      let f = follow-told e is base good after in
      let g = settles-told (units_after e s) (trace says e) x is base after in
      λ i. option_or (f i) (g i)

  abbrev FollowsOpening : Event → Type 0
  FollowsOpening e =
      Ground (trace says e) → Good trace e → KeepsUnits (units_after e s) (trace says e) → follow_opening (trace says e) e ≡ follow_opening_in
      (units_after e s) e (unit_of e s (units_after e s))

  follow-opening-told : (e : Event) → FollowsOpening e
  follow-opening-told (Began u kind) base good after =
      let now = trace says Began u kind in
      let a = units_after (Began u kind) s in
      let r = open-listed a now u base after (rw (is_same_id-refl u) refl) in
      ap (does_next now) (sym r.2) ∙ serve-told a now after r.0 r.3 ∙ ap (follow_opening_in a (Began u kind)) (sym r.1)
  follow-opening-told (Did u st answer) base good after =
      let now = trace says Did u st answer in
      let a = units_after (Did u st answer) s in
      let r = open-listed a now u base after (rw (is_same_id-refl u) refl) in
      ap (λ v. option_or (after_did now v answer) (does_next now v)) (sym r.2)
      ∙ (λ i. option_or (after-did-told a now after r.0 r.3 answer i) (serve-told a now after r.0 r.3 i))
      ∙ ap (follow_opening_in a (Did u st answer)) (sym r.1)
  follow-opening-told (Ended u end) base good after =
      let now = trace says Ended u end in
      let a = units_after (Ended u end) s in
      let r = open-listed s trace u ground keeps good.0 in
      ap (after_end now end) (ap (λ v. kind_of v trace) (sym r.2) ∙ r.3.kind)
      ∙ after-end-told a now after end r.0.kind
      ∙ ap (follow_opening_in a (Ended u end)) (sym r.1)
  follow-opening-told (Accepted b) base good after = finishes-told s (trace says Accepted b) after b
  follow-opening-told e base good after = refl

drained-told : (s : UnitState) (trace : Trace) → KeepsUnits s trace → cuts_or_drains trace (to_cut trace) ≡ cuts_or_drains_in s (cut_in s)
drained-told s trace keeps = ap (cuts_or_drains trace) (to-cut-told s trace keeps) ∙ cuts-told s trace keeps (cut_in s)

pub opened-told : (s : UnitState) (trace : Trace) → KeepsUnits s trace → (n : ℕ) (pending : Option Event) →
    after_opened trace n pending ≡ opened_in s n pending
opened-told s trace keeps n pending = let d = drained-told s trace keeps in λ i. option_or (stands pending i) (d i)
  where
    stands : (o : Option Event) → stands_now trace n o ≡ stands_in s n o
    stands None = refl
    stands (Some decision) = ap (λ m. then_some (n == m) decision) (number-kept s trace keeps)

-- what comes after an event of a played trace
pub said-told : (s : UnitState) (trace : Trace) (e : Event) (p : Phase) (x : Beside) → IsBeside (trace says e) x → KeepsUnits s trace →
    IsPlayed (trace says e) → WellKept (start_of trace).kept →
    said_event p (trace says e) e ≡ said_in p (units_after e s) x e (unit_of e s (units_after e s))
said-told s trace e p x is keeps played w =
    by p
  where
    ground : Ground trace
    ground = (replays trace played.0).base

    base : Ground (trace says e)
    base = (replays (trace says e) played).base

    good : Good trace e
    good = good-event trace e (replays trace played.0) played.1

    after : KeepsUnits (units_after e s) (trace says e)
    after = keeps-says s trace e keeps played w

    by : (p : Phase) → said_event p (trace says e) e ≡ said_in p (units_after e s) x e (unit_of e s (units_after e s))
    by Serving = serving-told s trace keeps ground x e is base good after
    by Opening =
        let f = follow-opening-told s trace keeps ground x e base good after in
        let d = drained-told (units_after e s) (trace says e) after in
        λ i. option_or (f i) (d i)
    by Fallen = refl

-- what a line brings, unless it is refused, and a turn of `go all`
pub asked-told : (s : UnitState) (trace : Trace) (asked : Asked) (x : Beside) → IsBeside (trace asks asked) x → KeepsUnits s trace →
    next (trace asks asked) ≡ option_or (option_map Refused (refusal trace asked)) (line_in (units_asked asked s) x.clash x.items (line_asked asked))
asked-told s trace asked x is keeps =
    ap (option_or (option_map Refused (refusal trace asked)))
    (line-told (units_asked asked s) (trace asks asked) (keeps-asks s trace asked keeps) x.clash is.clash x.items is.items (line_asked asked))

pub turned-told : (s : UnitState) (trace : Trace) (b : Id) (x : Beside) → IsBeside (trace turns b) x → KeepsUnits s trace →
    next (trace turns b) ≡ go_in (units_turned b s) x.clash b
turned-told s trace b x is keeps = go-told (units_turned b s) (trace turns b) (keeps-turns s trace b keeps) x.clash is.clash b

-- what is told to come next may stand there
pub may-stand : (trace : Trace) (e : Event) → is_of_run e ≡ false → next trace ≡ Some e → May trace e
may-stand trace (Down why) h n = cc
may-stand trace (Opened boot m) h n = cc
may-stand trace e h n = n

abbrev at_devices_by : UnitState → Statement → Option OpenUnit → Bool
at_devices_by s st x = elim x [ None ↦ false | Some o ↦ is_some (reach (schema_of s.kept) o.vars st) ]

-- whether an open unit's statement, or another event, is at the devices
pub devices-told : (s : UnitState) (trace : Trace) (e : Event) → KeepsUnits s trace → IsPlayed trace → Good trace e →
    is_at_devices trace e ≡ at_devices_in s e
devices-told s trace (Did u st answer) keeps p good =
    let r = open-listed s trace u (replays trace p).base keeps good.0 in
    ap (λ v. is_some (reach_now v trace st)) (sym r.2) ∙ ap is_some (reach-kept trace s.kept r.0 st keeps.kept r.3) ∙ ap (at_devices_by s st) (sym r.1)
devices-told s trace e keeps p good = refl
