-- A program is given up where its first part ends without a commit: then no unit of it is open or committed, and it is never accepted.
use Rattle.law_states.specs.KeptSources.{abandoned_in, first_of, given_up}
use Rattle.law_states.specs.Members.{In}
use Rattle.law_story.proofs.FinishedSources.{committed-back, kind-back}
use Rattle.law_story.proofs.Hiding.{hides, program-in, programs-say}
use Rattle.law_story.proofs.Ids.{is_same_id-refl, is_same_id-true}
use Rattle.law_story.proofs.Lists.{either, in-cases}
use Rattle.law_story.proofs.NextFits.{Fits, IsAcceptance, is_first_of}
use Rattle.law_story.proofs.Sound.{Old, OldAt, Sound, begins-new, of-program, old-not, open-back}
use Rattle.law_story.proofs.Upheld.{OfBoots, holds, may-fit}
use Rattle.salt_model.specs.Continuing.{last_said}
use Rattle.salt_model.specs.Isolation.{is_committed_standing}
use Rattle.salt_model.specs.Phases.{phase}
use Rattle.salt_model.specs.Played.{IsPlayed}
use Rattle.salt_model.specs.Programs.{accepted_in, finished_in, programs_in}
use Rattle.salt_model.specs.Trace.{Trace, from, start_of, ◌asks◌, ◌says◌, ◌turns◌}
use Rattle.salt_model.specs.Units.{Never, Over, Running, Standing, Waiting, is_open, is_open_standing, kind_of, program_begun, program_of, program_of_kind, standing}
use Rattle.salt_model.specs.declared.events.End.{End}
use Rattle.salt_model.specs.declared.events.End.TheVariants.{Branched, Committed, Cut, Failed, RolledBack, Victim}
use Rattle.salt_model.specs.declared.events.Event.{Event}
use Rattle.salt_model.specs.declared.events.Event.TheVariants.{Accepted, Began, Ended}
use Rattle.salt_model.specs.declared.events.UnitKind.{UnitKind}
use Rattle.salt_model.specs.declared.events.UnitKind.TheVariants.{Acid, Call, First, Later}
use Rattle.salt_values.specs.Id.{is_same_id}
use Rattle.salt_values.specs.declared.id.Id.{Id}
use Rattle.std.proofs.Common.{ap, inl, inr, subst, sym, ◌∙◌}
use Rattle.std.specs.Bool.{then_some}
use Rattle.std.specs.Option.{option_or}
use Rattle.std.specs.Prelude.{Bool, None, Option, Some, [], cond, false, option_and_then, refl, true, ℕ, ◌∷◌, ◌≡◌, ◌⊎◌}

-- what is known of programs in their first part, and of those given up
pub record Firsts (trace : Trace) : Type 0 where
  pub accepted_known : (b : Id) → In b (accepted_in trace) → In b (programs_in trace)
  pub abandoned_known : (b : Id) → In b (abandoned_in trace) → In b (programs_in trace)
  pub alone : (b u v : Id) → is_open trace u ≡ true → first_of u trace ≡ Some b → program_of v trace ≡ Some b → v ≡ u
  pub new : (b u : Id) → is_open trace u ≡ true → first_of u trace ≡ Some b → In b (accepted_in trace) → ⊥
  pub open_kept : (b u : Id) → is_open trace u ≡ true → program_of u trace ≡ Some b → In b (abandoned_in trace) → ⊥
  pub committed_kept : (b u : Id) → is_committed_standing (standing u trace) ≡ true → program_of u trace ≡ Some b → In b (abandoned_in trace) → ⊥
  pub accepted_kept : (b : Id) → In b (accepted_in trace) → In b (abandoned_in trace) → ⊥

pub first-program : (o : Option UnitKind) (b : Id) → option_and_then program_begun o ≡ Some b → option_and_then program_of_kind o ≡ Some b
first-program (Some (First s c n args)) b h = h
first-program None b h = cc
first-program (Some (Acid s)) b h = cc
first-program (Some (Call s n args)) b h = cc
first-program (Some (Later c part)) b h = cc

pub not-both : (s : Standing) → is_open_standing s ≡ true → is_committed_standing s ≡ true → ⊥
not-both Never o c = cc
not-both Running o c = cc
not-both Waiting o c = cc
not-both (Over end) o c = cc

-- a first part that has just committed
pub just-committed : (trace : Trace) (b : Id) → IsAcceptance b trace (last_said trace) →
    (u : Id) × (is_committed_standing (standing u trace) ≡ true) × (first_of u trace ≡ Some b)
just-committed (from k) b h = absurd h
just-committed (trace asks asked) b h = just-committed trace b (before (last_said trace) h)
  where
    before : (o : Option Event) → IsAcceptance b (trace asks asked) o → IsAcceptance b trace o
    before (Some (Ended u (Committed n))) g = g
    before o g = absurd g
just-committed (trace turns c) b h = just-committed trace b (before (last_said trace) h)
  where
    before : (o : Option Event) → IsAcceptance b (trace turns c) o → IsAcceptance b trace o
    before (Some (Ended u (Committed n))) g = g
    before o g = absurd g
just-committed (trace says Ended u (Committed n)) b h = (u, rw (is_same_id-refl u) refl, first (kind_of u trace) h)
  where
    first : (o : Option UnitKind) → is_first_of b o ≡ true → option_and_then program_begun o ≡ Some b
    first (Some (First t c name args)) g = ap Some (sym (is_same_id-true b c g))
    first None g = cc
    first (Some (Acid t)) g = cc
    first (Some (Call t name args)) g = cc
    first (Some (Later c part)) g = cc
just-committed (trace says e) b h = absurd h

one-of : (b c : Id) → In b (c ∷ []) → c ≡ b
one-of b c (inl e) = e
one-of b c (inr e) = absurd e

given-first : (end : End) (o : Option Id) (b : Id) → In b (given_up end o) → o ≡ Some b
given-first (Committed n) o b i = absurd i
given-first end None b i = absurd i
given-first end (Some c) b i = ap Some (one-of b c i)

-- a program given up by this event, or before
abandoned-back : (trace : Trace) (e : Event) (b : Id) → In b (abandoned_in (trace says e)) →
    In b (abandoned_in trace) ⊎ ((u : Id) × (end : End) × (e ≡ Ended u end) × In b (given_up end (first_of u trace)))
abandoned-back trace (Ended u end) b h = either (λ i. inl i) (λ i. inr (u, end, refl, i)) (in-cases b (abandoned_in trace) _ h)
abandoned-back trace e b h = inl h

accepted-back : (trace : Trace) (e : Event) (b : Id) → In b (accepted_in (trace says e)) → In b (accepted_in trace) ⊎ (e ≡ Accepted b)
accepted-back trace (Accepted c) b h = either (λ i. inl i) (λ i. inr (ap Accepted (one-of b c i))) (in-cases b (accepted_in trace) (c ∷ []) h)
accepted-back trace e b h = inl h

firsts-accepted : (trace : Trace) (e : Event) → Fits trace e → Firsts trace → (b : Id) → In b (accepted_in (trace says e)) →
    In b (programs_in (trace says e))
firsts-accepted trace e f h b i = either (λ j. programs-say trace e b (h.accepted_known b j)) (λ q. by q) (accepted-back trace e b i)
  where
    by : e ≡ Accepted b → In b (programs_in (trace says e))
    by q =
        let u = just-committed trace b (subst (Fits trace) q f) in
        programs-say trace e b (program-in trace u.0 b (first-program (kind_of u.0 trace) b u.2))

firsts-abandoned : (trace : Trace) (e : Event) → Firsts trace → (b : Id) → In b (abandoned_in (trace says e)) → In b (programs_in (trace says e))
firsts-abandoned trace e h b i =
    either (λ j. programs-say trace e b (h.abandoned_known b j)) (λ r. programs-say trace e b (program-in trace r.0 b (first-program (kind_of r.0 trace) b (given-first r.1 (first_of r.0 trace) b r.3)))) (abandoned-back trace e b i)

-- a first part begins a program that has no event yet
first-fresh : (trace : Trace) (x : Id) (kind : UnitKind) (b : Id) → Fits trace (Began x kind) → program_begun kind ≡ Some b → Old trace b → ⊥
first-fresh trace x (First s c n args) b f k o =
    old-not (phase trace) b f.1 (subst (OldAt (phase trace) b) (sym (let g : c ≡ b = cc in sym g ∙ f.2.1)) o)
first-fresh trace x (Acid s) b f k o = cc
first-fresh trace x (Call s n args) b f k o = cc
first-fresh trace x (Later c part) b f k o = cc

alone-step : (trace : Trace) (e : Event) → Sound trace → Fits trace e → Firsts trace → (b u v : Id) → is_open (trace says e) u ≡ true →
    first_of u (trace says e) ≡ Some b → program_of v (trace says e) ≡ Some b → v ≡ u
alone-step trace (Began x kind) s f h b u v o k p = by (is_same_id u x) refl (is_same_id v x) refl o k p
  where
    by : (t : Bool) → is_same_id u x ≡ t → (r : Bool) → is_same_id v x ≡ r → is_open_standing (cond t Running (standing u trace)) ≡ true →
        option_and_then program_begun (option_or (then_some t kind) (kind_of u trace)) ≡ Some b →
        option_and_then program_of_kind (option_or (then_some r kind) (kind_of v trace)) ≡ Some b → v ≡ u
    by true e true g o k p = is_same_id-true v x g ∙ sym (is_same_id-true u x e)
    by true e false g o k p = absurd (first-fresh trace x kind b f k (s.old_units b v (of-program trace v b p)))
    by false e true g o k p = absurd ((begins-new trace x kind b s f p).2 u o (of-program trace u b (first-program (kind_of u trace) b k)))
    by false e false g o k p = h.alone b u v o k p
alone-step trace e s f h b u v o k p = h.alone b u v (either (λ g. g) (λ i. absurd i) (open-back trace e u f o)) k p

new-step : (trace : Trace) (e : Event) → Sound trace → Fits trace e → Firsts trace → (b u : Id) → is_open (trace says e) u ≡ true →
    first_of u (trace says e) ≡ Some b → In b (accepted_in (trace says e)) → ⊥
new-step trace (Began x kind) s f h b u o k a = by (is_same_id u x) o k
  where
    by : (t : Bool) → is_open_standing (cond t Running (standing u trace)) ≡ true →
        option_and_then program_begun (option_or (then_some t kind) (kind_of u trace)) ≡ Some b → ⊥
    by true o k = first-fresh trace x kind b f k (s.old_programs b (h.accepted_known b a))
    by false o k = h.new b u o k a
new-step trace (Accepted c) s f h b u o k a = either (λ i. h.new b u o k i) (λ i. by (one-of b c i)) (in-cases b (accepted_in trace) (c ∷ []) a)
  where
    by : c ≡ b → ⊥
    by e =
        let j = just-committed trace b (subst (λ x. IsAcceptance x trace (last_said trace)) e f) in
        let same : j.0 ≡ u = h.alone b u j.0 o k (first-program (kind_of j.0 trace) b j.2) in
        not-both (standing u trace) o (subst (λ x. is_committed_standing (standing x trace) ≡ true) same j.1)
new-step trace e s f h b u o k a = h.new b u (either (λ g. g) (λ i. absurd i) (open-back trace e u f o)) k a

open-step : (trace : Trace) (e : Event) → Sound trace → Fits trace e → Firsts trace →
    ((u c : Id) (part : ℕ) → kind_of u (trace says e) ≡ Some (Later c part) → In c (accepted_in (trace says e))) →
    (b u : Id) → is_open (trace says e) u ≡ true → program_of u (trace says e) ≡ Some b → In b (abandoned_in (trace says e)) → ⊥
open-step trace (Began x kind) s f h later b u o p a = by (is_same_id u x) refl o p
  where
    begun : (kind : UnitKind) → Fits trace (Began x kind) → kind_of u (trace says Began x kind) ≡ Some kind →
        ((c : Id) (part : ℕ) → kind_of u (trace says Began x kind) ≡ Some (Later c part) → In c (accepted_in trace)) → program_of_kind kind ≡ Some b →
        ⊥
    begun (First z c n args) f q l p = first-fresh trace x (First z c n args) b f p (s.old_programs b (h.abandoned_known b a))
    begun (Later c part) f q l p = let g : c ≡ b = cc in h.accepted_kept b (subst (λ y. In y (accepted_in trace)) g (l c part q)) a
    begun (Acid z) f q l p = cc
    begun (Call z n args) f q l p = cc

    by : (t : Bool) → is_same_id u x ≡ t → is_open_standing (cond t Running (standing u trace)) ≡ true →
        option_and_then program_of_kind (option_or (then_some t kind) (kind_of u trace)) ≡ Some b → ⊥
    by true e o p = begun kind f (rw e refl) (λ c part q. later u c part q) p
    by false e o p = h.open_kept b u o p a
open-step trace (Ended v end) s f h later b u o p a = by (is_same_id u v) refl o
  where
    by : (t : Bool) → is_same_id u v ≡ t → is_open_standing (cond t (Over end) (standing u trace)) ≡ true → ⊥
    by true e o = cc
    by false e o =
        either (λ i. h.open_kept b u o p i) (λ i. apart (h.alone b v u f.0 (given-first end (first_of v trace) b i) p))
        (in-cases b (abandoned_in trace) _ a)
      where
        apart : u ≡ v → ⊥
        apart q = let x : true ≡ false = sym (is_same_id-refl v) ∙ subst (λ y. is_same_id y v ≡ false) q e in cc
open-step trace e s f h later b u o p a = h.open_kept b u (either (λ g. g) (λ i. absurd i) (open-back trace e u f o)) p a

ended-open : (trace : Trace) (e : Event) (v : Id) (end : End) → Fits trace e → e ≡ Ended v end → is_open trace v ≡ true
ended-open trace e v end f q = (subst (Fits trace) q f).0

committed-step : (trace : Trace) (e : Event) → Fits trace e → Firsts trace → (b u : Id) → is_committed_standing (standing u (trace says e)) ≡ true →
    program_of u (trace says e) ≡ Some b → In b (abandoned_in (trace says e)) → ⊥
committed-step trace e f h b u c p a = either was now (committed-back trace e u c)
  where
    before : program_of u trace ≡ Some b
    before = ap (option_and_then program_of_kind) (sym (kind-back trace e u c)) ∙ p

    was : is_committed_standing (standing u trace) ≡ true → ⊥
    was d = either (λ i. h.committed_kept b u d before i) (λ r. its r.0 r.1 r.2 r.3) (abandoned-back trace e b a)
      where
        its : (v : Id) (end : End) → e ≡ Ended v end → In b (given_up end (first_of v trace)) → ⊥
        its v end q i =
            let o = ended-open trace e v end f q in
            let same : u ≡ v = h.alone b v u o (given-first end (first_of v trace) b i) before in
            not-both (standing u trace) (subst (λ x. is_open trace x ≡ true) (sym same) o) d

    none-given : (v : Id) (end : End) (n : ℕ) → Ended v end ≡ Ended u (Committed n) → In b (given_up end (first_of v trace)) → ⊥
    none-given v (Committed m) n q i = i
    none-given v (Branched m x) n q i = cc
    none-given v (Failed x) n q i = cc
    none-given v RolledBack n q i = cc
    none-given v Victim n q i = cc
    none-given v Cut n q i = cc

    now : (n : ℕ) × (e ≡ Ended u (Committed n)) → ⊥
    now r =
        either (λ i. h.open_kept b u (ended-open trace e u (Committed r.0) f r.1) before i) (λ x. none-given x.0 x.1 r.0 (sym x.2 ∙ r.1) x.3)
        (abandoned-back trace e b a)

accepted-step : (trace : Trace) (e : Event) → Fits trace e → Firsts trace → (b : Id) → In b (accepted_in (trace says e)) →
    In b (abandoned_in (trace says e)) → ⊥
accepted-step trace e f h b i a =
    either
    (λ j. either (λ k. h.accepted_kept b j k) (λ r. h.new b r.0 (ended-open trace e r.0 r.1 f r.2) (given-first r.1 (first_of r.0 trace) b r.3) j) (abandoned-back trace e b a))
    (λ q. either (λ k. accepted q k) (λ r. two r.0 r.1 (sym r.2 ∙ q)) (abandoned-back trace e b a))
    (accepted-back trace e b i)
  where
    accepted : e ≡ Accepted b → In b (abandoned_in trace) → ⊥
    accepted q k = let u = just-committed trace b (subst (Fits trace) q f) in h.committed_kept b u.0 u.1 (first-program (kind_of u.0 trace) b u.2) k

    two : (v : Id) (end : End) → Ended v end ≡ Accepted b → ⊥
    two v end q = cc

pub firsts : (trace : Trace) → IsPlayed trace → OfBoots (start_of trace).kept → Firsts trace
firsts (from k) p w = record {
  accepted_known = λ b i. i;
  abandoned_known = λ b i. absurd i;
  alone = λ b u v o. cc;
  new = λ b u o. cc;
  open_kept = λ b u o. cc;
  committed_kept = λ b u o. cc;
  accepted_kept = λ b i a. a;
}
firsts (trace asks asked) p w =
    let h = firsts trace p.0 w in
    record {
      accepted_known = h.accepted_known;
      abandoned_known = h.abandoned_known;
      alone = h.alone;
      new = h.new;
      open_kept = h.open_kept;
      committed_kept = h.committed_kept;
      accepted_kept = h.accepted_kept;
    }
firsts (trace turns c) p w =
    let h = firsts trace p.0 w in
    record {
      accepted_known = h.accepted_known;
      abandoned_known = h.abandoned_known;
      alone = h.alone;
      new = h.new;
      open_kept = h.open_kept;
      committed_kept = h.committed_kept;
      accepted_kept = h.accepted_kept;
    }
firsts (trace says e) p w =
    let h = firsts trace p.0 w in
    let k = holds trace p.0 w in
    let f = may-fit trace e k.comes p.1 in
    record {
      accepted_known = firsts-accepted trace e f h;
      abandoned_known = firsts-abandoned trace e h;
      alone = alone-step trace e k.sound f h;
      new = new-step trace e k.sound f h;
      open_kept = open-step trace e k.sound f h (hides (trace says e) p w).later;
      committed_kept = committed-step trace e f h;
      accepted_kept = accepted-step trace e f h;
    }

-- a program that is finished is accepted
pub finished-accepted : (trace : Trace) → IsPlayed trace → OfBoots (start_of trace).kept → (b : Id) → In b (finished_in trace) →
    In b (accepted_in trace)
finished-accepted trace p w b i = (hides trace p w).finished b i
