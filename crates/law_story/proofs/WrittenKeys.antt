-- The keys that a unit writes as its statements are done are those that its changes name when it ends.
use Rattle.law_story.proofs.Fresh.{or_left, or_right}
use Rattle.law_story.proofs.Ids.{is_same_id-refl, is_same_id-true}
use Rattle.law_story.proofs.Lists.{or_right_true}
use Rattle.law_story.proofs.NextFits.{Fits}
use Rattle.law_story.proofs.Opens.{Open}
use Rattle.law_story.proofs.Replays.{Inv, did-run, good-event, open-other, others, quiet, replays}
use Rattle.law_story.proofs.Sound.{Sound, not-fresh}
use Rattle.law_story.proofs.Upheld.{OfBoots, holds, may-fit}
use Rattle.law_story.specs.Names.{is_named, is_unit_of}
use Rattle.law_story.specs.Rewordings.{WritesAtEnd, is_changed, is_written}
use Rattle.salt_ast.specs.declared.trees.Statement.{Statement}
use Rattle.salt_model.specs.After.{changes_now, run_of}
use Rattle.salt_model.specs.Everywhere.{Each}
use Rattle.salt_model.specs.Played.{IsPlayed}
use Rattle.salt_model.specs.Reads.{Written, written_by, wrote_of}
use Rattle.salt_model.specs.Segments.{May}
use Rattle.salt_model.specs.Statements.{UnitRun}
use Rattle.salt_model.specs.Tables.{Edits, changed_at, place_cmp, place_total, put_change, put_changes}
use Rattle.salt_model.specs.Trace.{Trace, from, start_of, ◌asks◌, ◌says◌, ◌turns◌}
use Rattle.salt_model.specs.Units.{is_open}
use Rattle.salt_model.specs.declared.events.Answer.{Answer}
use Rattle.salt_model.specs.declared.events.End.TheVariants.{Committed}
use Rattle.salt_model.specs.declared.events.Event.{Event}
use Rattle.salt_model.specs.declared.events.Event.TheVariants.{Began, Did, Ended, Waits}
use Rattle.salt_model.specs.declared.events.UnitKind.{UnitKind}
use Rattle.salt_model.specs.declared.places.Place.{Place}
use Rattle.salt_values.specs.Id.{is_same_id}
use Rattle.salt_values.specs.declared.change.Change.{Change}
use Rattle.salt_values.specs.declared.id.Id.{Id}
use Rattle.std.proofs.Common.{ap, subst, sym, ◌∙◌}
use Rattle.std.specs.FinMap.Entries.{find, find-put}
use Rattle.std.specs.List.{list_any}
use Rattle.std.specs.Ordering.{is_eq}
use Rattle.std.specs.Prelude.{Bool, List, Some, [], cond, false, is_some, refl, true, ◌++◌, ◌||◌, ◌∷◌, ◌≡◌}

is_among_changes : Place → List Change → Bool
is_among_changes p cs = list_any (λ c. is_eq (place_cmp p (changed_at c))) cs

-- changes that are put over others change what either do
put-changed : (p : Place) (cs : List Change) (ds : Edits) → is_changed p (put_changes cs ds) ≡ (is_among_changes p cs || is_changed p ds)
unfolding is_among_changes
put-changed p [] ds = refl
put-changed p (c ∷ cs) ds = put-changed p cs (put_change c ds) ∙ ap (λ o. is_among_changes p cs || is_some o) (find-put place_cmp place_total p (changed_at c) c.row ds.list) ∙ by (is_eq (place_cmp p (changed_at c)))
  where
    by : (b : Bool) → (is_among_changes p cs || is_some (cond b (Some c.row) (find place_cmp p ds.list))) ≡ ((b || is_among_changes p cs) || is_some (find place_cmp p ds.list))
    by true = or_right_true (is_among_changes p cs) true refl
    by false = refl

-- and the keys written by them are written by either
written-more : (p : Place) (u : Id) (cs : List Change) (ws : List Written) → is_written p (written_by u cs ++ ws) ≡ (is_among_changes p cs || is_written p ws)
unfolding is_among_changes
written-more p u [] ws = refl
written-more p u (c ∷ cs) ws = by (is_eq (place_cmp p (changed_at c))) (written-more p u cs ws)
  where
    by : (b : Bool) → is_written p (written_by u cs ++ ws) ≡ (is_among_changes p cs || is_written p ws) → (b || is_written p (written_by u cs ++ ws)) ≡ ((b || is_among_changes p cs) || is_written p ws)
    by true h = refl
    by false h = h

-- a unit that no event names has written nothing
wrote-new : (u : Id) (trace : Trace) → is_named u trace ≡ false → wrote_of u trace ≡ []
wrote-new u (from k) n = refl
wrote-new u (trace asks asked) n = wrote-new u trace n
wrote-new u (trace turns b) n = wrote-new u trace n
wrote-new u (trace says Did v st a) n = rw (or_left (is_same_id u v) _ n) (wrote-new u trace (or_right (is_same_id u v) _ n))
wrote-new u (trace says e) n = wrote-new u trace (or_right (is_unit_of u e) _ n)

abbrev Same : Trace → Id → Type 0
Same trace u = (p : Place) → is_written p (wrote_of u trace) ≡ is_changed p (run_of u trace).changes

wrote-other : (trace : Trace) (e : Event) (u : Id) → is_unit_of u e ≡ false → wrote_of u (trace says e) ≡ wrote_of u trace
wrote-other trace (Did v st a) u n = rw n refl
wrote-other trace e u n = refl

same-other : (trace : Trace) (e : Event) (u : Id) → Inv trace → May trace e → Same trace u → Open trace u → is_unit_of u e ≡ false → Same (trace says e) u
same-other trace e u inv m h o n p =
    let run = others trace e u inv.base (good-event trace e inv m) o n in
    ap (is_written p) (wrote-other trace e u n) ∙ h p ∙ sym (ap (λ (r : UnitRun). is_changed p r.changes) run.1)

began-changes : (trace : Trace) (u : Id) (kind : UnitKind) (p : Place) → is_changed p (run_of u (trace says Began u kind)).changes ≡ false
began-changes trace u kind p = rw (is_same_id-refl u) refl

same-began : (trace : Trace) (u : Id) (kind : UnitKind) → Sound trace → Fits trace (Began u kind) → Same (trace says Began u kind) u
same-began trace u kind s f p = ap (is_written p) (wrote-new u trace (new (is_named u trace) refl)) ∙ sym (began-changes trace u kind p)
  where
    new : (b : Bool) → is_named u trace ≡ b → is_named u trace ≡ false
    new false e = e
    new true e = let x : is_same_id u u ≡ false = subst (λ v. is_same_id u v ≡ false) (sym f.0) (not-fresh trace u s f.1 e) in let y : true ≡ false = sym (is_same_id-refl u) ∙ x in cc

same-did : (trace : Trace) (u : Id) (st : Statement) (a : Answer) → Inv trace → May trace (Did u st a) → Same trace u → Open trace u → Same (trace says Did u st a) u
same-did trace u st a inv m h o p =
    let run = did-run trace u st a inv.base (quiet trace (Did u st a) inv m u o (rw (is_same_id-refl u) refl) refl) o in
    let told : wrote_of u (trace says Did u st a) ≡ written_by u (changes_now u trace st) ++ wrote_of u trace = rw (is_same_id-refl u) refl in
    ap (is_written p) told ∙ written-more p u (changes_now u trace st) (wrote_of u trace) ∙ ap (λ b. is_among_changes p (changes_now u trace st) || b) (h p) ∙ sym (put-changed p (changes_now u trace st) (run_of u trace).changes) ∙ sym (ap (λ (r : UnitRun). is_changed p r.changes) run)

same-own : (trace : Trace) (e : Event) (u : Id) → Inv trace → Sound trace → May trace e → Fits trace e → ((v : Id) → Open trace v → Same trace v) → Open (trace says e) u → is_unit_of u e ≡ true → Same (trace says e) u
same-own trace (Began v kind) u inv s m f h o i = subst (λ x. Same (trace says Began x kind) u) (is_same_id-true u v i) (same-began trace u kind s (subst (λ x. Fits trace (Began x kind)) (sym (is_same_id-true u v i)) f))
same-own trace (Did v st a) u inv s m f h o i =
    let e = is_same_id-true u v i in
    subst (λ x. May trace (Did x st a) → Fits trace (Did x st a) → Same (trace says Did x st a) u) e (λ m f. same-did trace u st a inv m (h u f.0) f.0) m f
same-own trace (Waits v owners) u inv s m f h o i = let e = is_same_id-true u v i in λ p. h u (subst (Open trace) (sym e) f) p
same-own trace (Ended v end) u inv s m f h o i = let shut : is_open (trace says Ended v end) u ≡ false = rw i refl in cc
same-own trace e u inv s m f h o i = cc

same-says : (trace : Trace) (e : Event) → Inv trace → Sound trace → May trace e → Fits trace e → ((v : Id) → Open trace v → Same trace v) → (u : Id) → Open (trace says e) u → Same (trace says e) u
same-says trace e inv s m f h u o = by (is_unit_of u e) refl
  where
    by : (b : Bool) → is_unit_of u e ≡ b → Same (trace says e) u
    by true i = same-own trace e u inv s m f h o i
    by false n = let was = open-other trace e u n o in same-other trace e u inv m (h u was) was n

same : (trace : Trace) → IsPlayed trace → OfBoots (start_of trace).kept → (u : Id) → Open trace u → Same trace u
same (from k) p w = λ u o. cc
same (trace asks asked) p w = same trace p.0 w
same (trace turns b) p w = same trace p.0 w
same (trace says e) p w = let h = holds trace p.0 w in same-says trace e (replays trace p.0) h.sound p.1 (may-fit trace e h.comes p.1) (same trace p.0 w)

at-end : (trace : Trace) (e : Event) → ((u : Id) → Open trace u → Same trace u) → Fits trace e → WritesAtEnd trace e
at-end trace (Ended u (Committed n)) h f = h u f.0
at-end trace e h f = tt

pub written-at-end : (trace : Trace) → IsPlayed trace → OfBoots (start_of trace).kept → Each WritesAtEnd trace
written-at-end (from k) p w = tt
written-at-end (trace asks asked) p w = written-at-end trace p.0 w
written-at-end (trace turns b) p w = written-at-end trace p.0 w
written-at-end (trace says e) p w = (written-at-end trace p.0 w, at-end trace e (same trace p.0 w) (may-fit trace e (holds trace p.0 w).comes p.1))
