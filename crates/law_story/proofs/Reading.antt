-- What is read of whom: written keys are covered by locks, ACID units read from released programs, and a released program's sources are released.
use Rattle.law_story.proofs.BaseTables.{Based}
use Rattle.law_story.proofs.Hiding.{AllFree, Hides, due-named, due-parts, found-now, found_early, freed-by-last, now-new, now-old, reads-says, releasable-reads, released-says}
use Rattle.law_story.proofs.Ids.{and_left, and_right, is_same_id-refl, is_same_id-true, same_sym}
use Rattle.law_story.proofs.Lists.{In, any-not, either, has-in, in-cases, in-filter, in-has, in-left, in-map, in-right, into-filter, into-filter_map, or_right_true}
use Rattle.law_story.proofs.NextFits.{Fits}
use Rattle.law_story.proofs.Places.{meet-common}
use Rattle.law_story.proofs.Reached.{Covers, covers-change}
use Rattle.law_story.proofs.Sound.{Sound, committed-named, freed-passed, kind-some, kind-stays, named-bases, not-fresh, of-program, releasable-finished}
use Rattle.law_story.proofs.Unreleased.{whole-did}
use Rattle.salt_ast.specs.declared.trees.Statement.{Statement}
use Rattle.salt_model.specs.After.{changes_now, kept, reach_now, run_of}
use Rattle.salt_model.specs.Isolation.{is_committed_standing, is_open_or_committed, is_program_released, is_unreleased_part, read_by, touches_unreleased}
use Rattle.salt_model.specs.Kept.{schema_of}
use Rattle.salt_model.specs.Locks.{Taken, is_read, taken_by, taken_in, touches}
use Rattle.salt_model.specs.Programs.{freed_by, left_out, programs_in, released_in}
use Rattle.salt_model.specs.Reads.{Written, last_of_each, programs_among, read_directly, releasable, writers_in, written_by, written_in, wrote_of, written_at}
use Rattle.salt_model.specs.Trace.{Trace, from, ◌asks◌, ◌says◌, ◌turns◌}
use Rattle.salt_model.specs.Units.{Never, Over, Running, Standing, Waiting, is_of_program, is_open, is_open_standing, kind_of, program_of, program_of_kind, standing, standing_after}
use Rattle.salt_model.specs.declared.events.Answer.{Answer}
use Rattle.salt_model.specs.declared.events.End.TheVariants.{Committed}
use Rattle.salt_model.specs.declared.events.Event.{Event}
use Rattle.salt_model.specs.declared.events.Event.TheVariants.{Began, Did, Early, Ended, Ready, Released, Waits}
use Rattle.salt_model.specs.declared.locks.Reach.{Reach}
use Rattle.salt_ranges.specs.Ranges.{has_key, meets}
use Rattle.salt_values.specs.Id.{has_id, is_same_id, without}
use Rattle.salt_values.specs.declared.id.Id.{Id}
use Rattle.std.proofs.Common.{ap, inl, inr, subst, sym, ◌∙◌}
use Rattle.std.specs.List.{filter}
use Rattle.std.specs.Prelude.{Bool, List, None, Option, Some, [], cond, false, is_none, is_some, not, option_and_then, refl, true, ⊤, ◌&&◌, ◌++◌, ◌==◌, ◌∷◌, ◌≡◌, ◌⊎◌}
use Rattle.salt_model.specs.Tables.{is_within}

-- reaches that cover a key to be written
abbrev Wrote : Taken → Written → Type 0
Wrote t w = (t.unit ≡ w.unit) × (is_read t.reach.mode ≡ false) × (t.reach.table ≡ w.table) × (has_key t.reach.range w.key ≡ true)

taken-covers : (v : Id) (o : Option Reach) (w : Written) → v ≡ w.unit → Covers o w.table w.key → (t : Taken) × In t (taken_by v o) × Wrote t w
taken-covers v None w e h = absurd h
taken-covers v (Some r) w e h = (record { unit = v; reach = r }, inl refl, (e, h.0, h.1, h.2))

-- what a unit has written, its statements reached
wrote-taken : (trace : Trace) (u : Id) (w : Written) → In w (wrote_of u trace) → (u ≡ w.unit) × ((t : Taken) × In t (taken_in trace) × Wrote t w)
wrote-taken (from k) u w h = absurd h
wrote-taken (trace asks line) u w h = wrote-taken trace u w h
wrote-taken (trace turns b) u w h = wrote-taken trace u w h
wrote-taken (trace says Did v st a) u w h = go (wrote-taken trace u w) (is_same_id u v) refl h
  where
    before : (u ≡ w.unit) × ((t : Taken) × In t (taken_in trace) × Wrote t w) → (u ≡ w.unit) × ((t : Taken) × In t (taken_in trace ++ taken_by v (reach_now v trace st)) × Wrote t w)
    before r = (r.0, (r.1.0, in-left r.1.0 (taken_in trace) _ r.1.1, r.1.2))

    fresh : is_same_id u v ≡ true → In w (written_by u (changes_now v trace st)) → (u ≡ w.unit) × ((t : Taken) × In t (taken_in trace ++ taken_by v (reach_now v trace st)) × Wrote t w)
    fresh e i =
        let m = in-map _ w (changes_now v trace st) i in
        let c : Covers (reach_now v trace st) m.0.table m.0.key = covers-change (schema_of (kept trace)) (run_of v trace).tables (run_of v trace).vars st m.0 m.1 in
        let x : u ≡ w.unit = ap (λ (y : Written). y.unit) m.2 in
        let d : Covers (reach_now v trace st) w.table w.key = subst (λ (y : Written). Covers (reach_now v trace st) y.table y.key) m.2 c in
        let t = taken-covers v (reach_now v trace st) w (sym (is_same_id-true u v e) ∙ x) d in
        (x, (t.0, in-right t.0 (taken_in trace) _ t.1, t.2))

    go : (In w (wrote_of u trace) → (u ≡ w.unit) × ((t : Taken) × In t (taken_in trace) × Wrote t w)) → (b : Bool) → is_same_id u v ≡ b → In w (cond b (written_by u (changes_now v trace st) ++ wrote_of u trace) (wrote_of u trace)) → (u ≡ w.unit) × ((t : Taken) × In t (taken_in trace ++ taken_by v (reach_now v trace st)) × Wrote t w)
    go more true e g = either (λ i. fresh e i) (λ i. before (more i)) (in-cases w (written_by u (changes_now v trace st)) (wrote_of u trace) g)
    go more false e g = before (more g)
wrote-taken (trace says e) u w h = wrote-taken trace u w h

-- a written key: its unit is committed and known, and reached it to write
pub record Covered (trace : Trace) (w : Written) : Type 0 where
  pub committed : is_committed_standing (standing w.unit trace) ≡ true
  pub kind_known : is_some (kind_of w.unit trace) ≡ true
  pub taken : (t : Taken) × In t (taken_in trace) × Wrote t w

-- how units of these programs may read: an ACID one from released programs, one of a program from that and its sources
abbrev pub ReadOk : Trace → Option Id → Option Id → Type 0
ReadOk trace None q = is_program_released trace q ≡ true
ReadOk trace (Some b) None = ⊤
ReadOk trace (Some b) (Some c) = (c ≡ b) ⊎ In c (read_directly b trace)

pub record Read (trace : Trace) (u v : Id) : Type 0 where
  pub reader_known : is_some (kind_of u trace) ≡ true
  pub writer_known : is_some (kind_of v trace) ≡ true
  pub fits : ReadOk trace (program_of u trace) (program_of v trace)

pub record Salty (trace : Trace) : Type 0 where
  pub written : (w : Written) → In w (written_in trace) → Covered trace w
  pub reads : (u v : Id) → In v (read_by u trace) → Read trace u v
  pub closed : (b c : Id) → In b (released_in trace) → In c (read_directly b trace) → In c (released_in trace)

-- a committed unit stays committed
committed-stays : (trace : Trace) (e : Event) (u : Id) → Sound trace → Fits trace e → is_committed_standing (standing u trace) ≡ true → is_committed_standing (standing u (trace says e)) ≡ true
committed-stays trace e u s f h = its e f
  where
    not-open : (x : Standing) → is_committed_standing x ≡ true → is_open_standing x ≡ true → ⊥
    not-open Never c o = cc
    not-open Running c o = cc
    not-open Waiting c o = cc
    not-open (Over end) c o = cc

    other : (v : Id) → is_open trace v ≡ true → is_same_id u v ≡ false
    other v o = go (is_same_id u v) refl
      where
        go : (b : Bool) → is_same_id u v ≡ b → b ≡ false
        go false e = refl
        go true e = absurd (not-open (standing u trace) h (rw (is_same_id-true u v e) o))

    its : (e : Event) → Fits trace e → is_committed_standing (standing_after u e (standing u trace)) ≡ true
    its (Began v kind) f = let n : is_same_id u v ≡ false = subst (λ x. is_same_id u x ≡ false) (sym f.0) (not-fresh trace u s f.1 (committed-named trace u h)) in rw n h
    its (Did v st a) f = rw (other v f.0) h
    its (Waits v owners) f = rw (other v f) h
    its (Ended v end) f = rw (other v f.0) h
    its e f = h

taken-says : (trace : Trace) (e : Event) (t : Taken) → In t (taken_in trace) → In t (taken_in (trace says e))
taken-says trace (Did u st a) t h = in-left t (taken_in trace) _ h
taken-says trace e t h = h

covered-says : (trace : Trace) (e : Event) (w : Written) → Sound trace → Fits trace e → Covered trace w → Covered (trace says e) w
covered-says trace e w s f c = record {
  committed = committed-stays trace e w.unit s f c.committed;
  kind_known = kind-some trace e w.unit c.kind_known;
  taken = (c.taken.0, taken-says trace e c.taken.0 c.taken.1, c.taken.2);
}

written-step : (trace : Trace) (e : Event) → Sound trace → Salty trace → Fits trace e → (w : Written) → In w (written_in (trace says e)) → Covered (trace says e) w
written-step trace (Ended u (Committed n)) s z f w h = either new (λ i. covered-says trace (Ended u (Committed n)) w s f (z.written w i)) (in-cases w (wrote_of u trace) (written_in trace) h)
  where
    new : In w (wrote_of u trace) → Covered (trace says Ended u (Committed n)) w
    new i =
        let t = wrote-taken trace u w i in
        record {
          committed = subst (λ x. is_committed_standing (standing x (trace says Ended u (Committed n))) ≡ true) t.0 (rw (is_same_id-refl u) refl);
          kind_known = subst (λ x. is_some (kind_of x trace) ≡ true) t.0 (s.known u f.0);
          taken = t.1;
        }
written-step trace e s z f w h = covered-says trace e w s f (z.written w h)

-- who is read from has written a key there
last-in : (w : Written) (ws : List Written) → In w (last_of_each ws) → In w ws
last-in w [] h = h
last-in w (x ∷ ws) (inl e) = inl e
last-in w (x ∷ ws) (inr h) = inr (last-in w ws (in-filter _ w (last_of_each ws) h).0)

pub writer-in : (trace : Trace) (r : Reach) (v : Id) → In v (writers_in trace (Some r)) → (w : Written) × In w (written_in trace) × (is_within r (written_at w) ≡ true) × (w.unit ≡ v)
writer-in trace r v h =
    let m = in-map (λ (w : Written). w.unit) v (filter (λ (w : Written). is_within r (written_at w)) (last_of_each (written_in trace))) h in
    let i = in-filter (λ (w : Written). is_within r (written_at w)) m.0 (last_of_each (written_in trace)) m.1 in
    (m.0, last-in m.0 (written_in trace) i.0, i.1, m.2)

-- fact 4: whoever wrote a key that an ACID unit reaches is ACID, or of a released program
reached-released : (trace : Trace) (r : Reach) (w : Written) → touches_unreleased trace (Some r) ≡ false → Covered trace w → is_within r (written_at w) ≡ true → is_program_released trace (program_of w.unit trace) ≡ true
reached-released trace r w none c h =
    let t = c.taken.0 in
    let x = c.taken.2 in
    let table : (t.reach.table == r.table) ≡ true = rw x.2 (same_sym w.table r.table ∙ and_left (r.table == w.table) _ h) in
    let range : meets t.reach.range r.range ≡ true = meet-common t.reach.range r.range w.key x.3 (and_right (r.table == w.table) _ h) in
    let touch : touches t.reach r ≡ true = rw (table, range, x.1) refl in
    let part : is_unreleased_part trace t ≡ false = its (touches t.reach r) (is_unreleased_part trace t) touch (any-not _ t (taken_in trace) none c.taken.1) in
    left (is_program_released trace (program_of w.unit trace)) (its (is_open_or_committed (standing w.unit trace)) _ (or_right_true (is_open_standing (standing w.unit trace)) _ c.committed) (subst (λ v. (is_open_or_committed (standing v trace) && not (is_program_released trace (program_of v trace))) ≡ false) x.0 part))
  where
    its : (p q : Bool) → p ≡ true → (p && q) ≡ false → q ≡ false
    its true q e g = g
    its false q e g = cc

    left : (p : Bool) → not p ≡ false → p ≡ true
    left true g = refl
    left false g = cc

writers-known : (trace : Trace) (o : Option Reach) (v : Id) → Salty trace → In v (writers_in trace o) → is_some (kind_of v trace) ≡ true
writers-known trace None v z h = absurd h
writers-known trace (Some r) v z h = let w = writer-in trace r v h in subst (λ x. is_some (kind_of x trace) ≡ true) w.3 (z.written w.0 w.1).kind_known

pub writers-released : (trace : Trace) (o : Option Reach) (v : Id) → Salty trace → touches_unreleased trace o ≡ false → In v (writers_in trace o) → is_program_released trace (program_of v trace) ≡ true
writers-released trace None v z none h = absurd h
writers-released trace (Some r) v z none h = let w = writer-in trace r v h in subst (λ x. is_program_released trace (program_of x trace) ≡ true) w.3 (reached-released trace r w.0 none (z.written w.0 w.1) w.2)

ok-says : (trace : Trace) (e : Event) (p q : Option Id) → ReadOk trace p q → ReadOk (trace says e) p q
ok-says trace e None None h = refl
ok-says trace e None (Some c) h = in-has c _ (released-says trace e c (has-in c _ h))
ok-says trace e (Some b) None h = tt
ok-says trace e (Some b) (Some c) h = either (λ g. inl g) (λ g. inr (reads-says trace e b c g)) h

read-says : (trace : Trace) (e : Event) (u v : Id) → Sound trace → Fits trace e → Read trace u v → Read (trace says e) u v
read-says trace e u v s f r = record {
  reader_known = kind-some trace e u r.reader_known;
  writer_known = kind-some trace e v r.writer_known;
  fits = subst (λ o. ReadOk (trace says e) (option_and_then program_of_kind o) (program_of v (trace says e))) (sym (kind-stays trace e u s f r.reader_known)) (subst (λ o. ReadOk (trace says e) (program_of u trace) (option_and_then program_of_kind o)) (sym (kind-stays trace e v s f r.writer_known)) (ok-says trace e (program_of u trace) (program_of v trace) r.fits));
}

-- a statement done reads as it may
did-reads : (trace : Trace) (u : Id) (st : Statement) (a : Answer) (v : Id) (p q : Option Id) → Salty trace → program_of u trace ≡ p → program_of v trace ≡ q → (p ≡ None → is_program_released trace q ≡ true) → In v (writers_in trace (reach_now u trace st)) → ReadOk (trace says Did u st a) p q
did-reads trace u st a v None q z eu ev k h = k refl
did-reads trace u st a v (Some b) None z eu ev k h = tt
did-reads trace u st a v (Some b) (Some c) z eu ev k h = go (is_same_id c b) refl
  where
    go : (t : Bool) → is_same_id c b ≡ t → (c ≡ b) ⊎ In c (read_directly b (trace says Did u st a))
    go true e = inl (is_same_id-true c b e)
    go false e =
        let mine : is_of_program b trace u ≡ true = of-program trace u b eu in
        let among : In c (programs_among trace (writers_in trace (reach_now u trace st))) = into-filter_map (λ x. program_of x trace) v c (writers_in trace (reach_now u trace st)) h ev in
        let apart : In c (without (b ∷ []) (programs_among trace (writers_in trace (reach_now u trace st)))) = into-filter (λ x. not (has_id x (b ∷ []))) c _ among (rw e refl) in
        inr (rw mine (in-left c _ (read_directly b trace) apart))

reads-step : (trace : Trace) (e : Event) → Sound trace → Salty trace → Hides trace → Based trace → Fits trace e → (u v : Id) → In v (read_by u (trace says e)) → Read (trace says e) u v
reads-step trace (Did x st a) s z k b f u v h = go (is_same_id u x) refl h
  where
    new : is_same_id u x ≡ true → In v (writers_in trace (reach_now x trace st)) → Read (trace says Did x st a) u v
    new e i = subst (λ y. Read (trace says Did x st a) y v) (sym (is_same_id-true u x e)) (record {
      reader_known = s.known x f.0;
      writer_known = writers-known trace (reach_now x trace st) v z i;
      fits = did-reads trace x st a v (program_of x trace) (program_of v trace) z refl refl (λ g. writers-released trace (reach_now x trace st) v z (whole-did trace x st k b (ap is_none g) (f.2 (ap is_none g))) i) i;
    })

    go : (b : Bool) → is_same_id u x ≡ b → In v (cond b (writers_in trace (reach_now x trace st) ++ read_by u trace) (read_by u trace)) → Read (trace says Did x st a) u v
    go true e g = either (new e) (λ i. read-says trace (Did x st a) u v s f (z.reads u v i)) (in-cases v (writers_in trace (reach_now x trace st)) (read_by u trace) g)
    go false e g = read-says trace (Did x st a) u v s f (z.reads u v g)
reads-step trace e s z k b f u v h = read-says trace e u v s f (z.reads u v h)

-- fact 5: what a released program reads from is released
closed-step : (trace : Trace) (e : Event) → Sound trace → Salty trace → Hides trace → Fits trace e → (b c : Id) → In b (released_in (trace says e)) → In c (read_directly b (trace says e)) → In c (released_in (trace says e))
closed-step trace (Did u st a) s z k f b c r h = go (is_of_program b trace u) refl h
  where
    go : (t : Bool) → is_of_program b trace u ≡ t → In c (cond t (without (b ∷ []) (programs_among trace (writers_in trace (reach_now u trace st))) ++ read_directly b trace) (read_directly b trace)) → In c (released_in trace)
    go true e g = absurd (s.alive b u f.0 e (inr (inl r)))
    go false e g = z.closed b c r g
closed-step trace (Early bs) s z k f b c r h = go (has_id b bs) refl h
  where
    go : (t : Bool) → has_id b bs ≡ t → In c (cond t (without (b ∷ []) bs ++ read_directly b trace) (read_directly b trace)) → In c (released_in trace)
    go true e g = absurd (s.goes_on b (named-bases trace bs f b (has-in b bs e)) (inr (inl r)))
    go false e g = z.closed b c r g
closed-step trace (Released bs) s z k f b c r h = either freed (λ i. either (λ j. now-old trace bs f.0 k c (z.closed b c j h)) due (in-cases b (released_in trace) bs i)) (in-cases b (freed_by bs trace) _ r)
  where
    -- where the first of those that the last early opening names is released, all that it found are
    free : (x : Id) → In x (found_early trace) → AllFree trace → In x (released_in trace)
    free x i a = let q = k.some x i in k.together q.0 x q.1 (a q.0 q.1) i

    freed : In b (freed_by bs trace) → In c (released_in (trace says Released bs))
    freed i =
        let d = freed-by-last trace bs f.0 k b i in
        let there : In b (found_early trace) = k.passed b (freed-passed bs trace b i) in
        either (λ g. found-now trace bs f.0 k d.0 c d.1 d.2 g) (λ a. now-old trace bs f.0 k c (z.closed b c (free b there a) h)) (k.reads_found b c there h)

    left : In b bs → In c (left_out trace) → In c (released_in (trace says Released bs))
    left i o =
        let fin = releasable-finished trace b (due-parts trace bs f.0 k b i).0 in
        either (λ g. found-now trace bs f.0 k b c (due-named trace bs f.0 k b i g fin) i (k.out c o)) (λ a. now-old trace bs f.0 k c (free c (k.out c o) a)) (k.fresh b (k.accepted b (k.finished b fin)))

    due : In b bs → In c (released_in (trace says Released bs))
    due i = either (λ g. by (has_id c (left_out trace)) refl g) (λ g. now-old trace bs f.0 k c g) (releasable-reads trace b c (due-parts trace bs f.0 k b i).0 h)
      where
        by : (t : Bool) → has_id c (left_out trace) ≡ t → In c (releasable trace) → In c (released_in (trace says Released bs))
        by true e g = left i (has-in c (left_out trace) e)
        by false e g = now-new trace bs f.0 k c g (λ o. let x : has_id c (left_out trace) ≡ true = in-has c _ o in let y : true ≡ false = sym x ∙ e in cc)
closed-step trace Ready s z k f b c r h = in-right c (released_in trace) (programs_in trace) (k.reads_in b c h)
closed-step trace e s z k f b c r h = z.closed b c r h

pub salty-step : (trace : Trace) (e : Event) → Sound trace → Salty trace → Hides trace → Based trace → Fits trace e → Salty (trace says e)
salty-step trace e s z k b f = record { written = written-step trace e s z f; reads = reads-step trace e s z k b f; closed = closed-step trace e s z k f }
