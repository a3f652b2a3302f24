-- Accepted programs are finished, or have a continuation: each is accounted for.
use Rattle.law_story.proofs.Due.{accepts-asks, accepts-due, accepts-turns, finishes-asks, finishes-due, finishes-turns}
use Rattle.law_story.proofs.Ids.{is_same_id-refl, is_same_id-true}
use Rattle.law_story.proofs.Lists.{In, either, has-in, in-cases, in-has, in-left, in-right, order-again}
use Rattle.law_story.proofs.NextFits.{Fits}
use Rattle.law_story.proofs.Sound.{Sound, base-begun, base-kept-begun, base-moved, bases-named, bases_in, conts-kept, due-in, named-bases}
use Rattle.law_story.proofs.Upheld.{OfBoots, holds}
use Rattle.salt_ast.specs.declared.programs.ProgramDef.{ProgramDef}
use Rattle.salt_model.specs.After.{branched, conts_at, kept, run_of}
use Rattle.salt_model.specs.Continuing.{AcceptsDue, FinishesDue, GoesAlong, accepted_after, finished_after, if_ended, is_unfinished, last_said, program_continued}
use Rattle.salt_model.specs.Kept.{begun_cont, cont_of, kept_program, moved, tries_left, values_kept, parts_of}
use Rattle.salt_model.specs.Played.{IsPlayed}
use Rattle.salt_model.specs.Programs.{accepted_in, finished_in}
use Rattle.salt_model.specs.Trace.{Trace, from, start_of, ◌asks◌, ◌says◌, ◌turns◌}
use Rattle.salt_model.specs.Units.{kind_of, program_begun, program_of_kind}
use Rattle.salt_model.specs.declared.events.End.{End}
use Rattle.salt_model.specs.declared.events.End.TheVariants.{Branched, Committed}
use Rattle.salt_model.specs.declared.events.Event.{Event}
use Rattle.salt_model.specs.declared.events.Event.TheVariants.{Accepted, Began, Early, Ended, Finished, Ready}
use Rattle.salt_model.specs.declared.events.UnitKind.{UnitKind}
use Rattle.salt_model.specs.declared.events.UnitKind.TheVariants.{Acid, Call, First, Later}
use Rattle.salt_values.specs.Id.{has_id, in_order, is_same_id}
use Rattle.salt_values.specs.declared.cont.Cont.{Cont}
use Rattle.salt_values.specs.declared.id.Id.{Id}
use Rattle.salt_values.specs.declared.value.Value.{Value}
use Rattle.std.proofs.Common.{ap, inl, inr, subst, sym, ◌∙◌}
use Rattle.std.specs.Bool.{then_some}
use Rattle.std.specs.Prelude.{Bool, List, None, Option, Some, [], false, is_none, map, not, option_and_then, option_map, refl, true, ℕ, ◌&&◌, ◌∷◌, ◌≡◌, ◌⊎◌}
use Rattle.salt_ast.specs.Paths.{next_on_commit, next_on_failure}

abbrev bases : List Cont → List Id
bases cs = map (λ (c : Cont). c.base) cs

-- a program has a continuation, or has come to its end
ended-or : (trace : Trace) (c : Id) → In c (bases_in trace) ⊎ (if_ended trace (Some c) ≡ Some c)
ended-or trace c = by (cont_of c (kept trace)) refl
  where
    by : (o : Option Cont) → cont_of c (kept trace) ≡ o → In c (bases_in trace) ⊎ (if_ended trace (Some c) ≡ Some c)
    by None e = inr (ap (λ (o : Option Cont). then_some (is_none (option_map (λ (x : Cont). x.next) o)) c) e)
    by (Some x) e = inl (due-in c x.next (kept trace).conts (ap (option_map (λ (x : Cont). x.next)) e))

differ : (b c : Id) → is_same_id c b ≡ false → c ≡ b → ⊥
differ b c n e = let s : is_same_id b b ≡ false = subst (λ x. is_same_id x b ≡ false) e n in let t : true ≡ false = sym (is_same_id-refl b) ∙ s in cc

-- what an end leaves of the continuations, if the unit is of this kind
module _ (trace : Trace) (u : Id) (end : End) (b : Id) (there : In b (bases_in trace)) where
  abbrev here : Trace
  here = trace says Ended u end

  abbrev Left : Type 0
  Left = In b (bases_in here) ⊎ (if_ended here (option_and_then program_continued (kind_of u trace)) ≡ Some b)

  later-left : (c : Id) (part : ℕ) → kind_of u trace ≡ Some (Later c part) → Left
  later-left c part k = by (is_same_id c b) refl
    where
      by : (t : Bool) → is_same_id c b ≡ t → Left
      by false n = inl (conts-kept trace u end b (λ e. differ b c n (let g : Some c ≡ Some b = sym (ap (option_and_then program_of_kind) k) ∙ e in cc)) there)
      by true s =
          let e = is_same_id-true c b s in
          either (λ i. inl (subst (λ x. In x (bases_in here)) e i)) (λ g. inr (ap (λ (o : Option UnitKind). if_ended here (option_and_then program_continued o)) k ∙ g ∙ ap Some e)) (ended-or here c)

-- a continuation stays, or its program has come to its end
bases-forth : (trace : Trace) (u : Id) (end : End) (b : Id) → In b (bases_in trace) → In b (bases_in (trace says Ended u end)) ⊎ (finished_after (trace says Ended u end) (Some (Ended u end)) ≡ Some b)
bases-forth trace u (Committed n) b i = by (kind_of u trace) refl
  where
    begun : (c : Id) (args : List Value) (o : Option ProgramDef) → In b (bases (elim o [ None ↦ (kept trace).conts | Some p ↦ begun_cont c n p args (run_of u trace).vars (next_on_commit (parts_of p) 1) (kept trace).conts ]))
    begun c args None = i
    begun c args (Some p) = base-kept-begun b c n p args (run_of u trace).vars (next_on_commit (parts_of p) 1) (kept trace).conts i

    at : (o : Option UnitKind) → kind_of u trace ≡ o → In b (bases (conts_at (kept trace) n o (run_of u trace).vars)) → In b (bases_in (trace says Ended u (Committed n)))
    at o e h = subst (λ x. In b (bases (conts_at (kept trace) n x (run_of u trace).vars))) (sym e) h

    by : (o : Option UnitKind) → kind_of u trace ≡ o → In b (bases_in (trace says Ended u (Committed n))) ⊎ (finished_after (trace says Ended u (Committed n)) (Some (Ended u (Committed n))) ≡ Some b)
    by None e = inl (at None e i)
    by (Some (Acid s)) e = inl (at (Some (Acid s)) e i)
    by (Some (Call s name args)) e = inl (at (Some (Call s name args)) e i)
    by (Some (First s c name args)) e = inl (at (Some (First s c name args)) e (begun c args (kept_program name (kept trace))))
    by (Some (Later c part)) e = later-left trace u (Committed n) b i c part e
bases-forth trace u (Branched n cause) b i = by (kind_of u trace) refl
  where
    at : (o : Option UnitKind) → kind_of u trace ≡ o → In b (bases (branched (kept trace) n o).conts) → In b (bases_in (trace says Ended u (Branched n cause)))
    at o e h = subst (λ x. In b (bases (branched (kept trace) n x).conts)) (sym e) h

    by : (o : Option UnitKind) → kind_of u trace ≡ o → In b (bases_in (trace says Ended u (Branched n cause))) ⊎ (finished_after (trace says Ended u (Branched n cause)) (Some (Ended u (Branched n cause))) ≡ Some b)
    by None e = inl (at None e i)
    by (Some (Acid s)) e = inl (at (Some (Acid s)) e i)
    by (Some (Call s name args)) e = inl (at (Some (Call s name args)) e i)
    by (Some (First s c name args)) e = inl (at (Some (First s c name args)) e i)
    by (Some (Later c part)) e = later-left trace u (Branched n cause) b i c part e
bases-forth trace u end b i = inl i

-- a continuation was there before, or begins
bases-back : (trace : Trace) (u : Id) (end : End) (b : Id) → In b (bases_in (trace says Ended u end)) → In b (bases_in trace) ⊎ (accepted_after (trace says Ended u end) (Some (Ended u end)) ≡ Some b)
bases-back trace u (Committed n) b i = by (kind_of u trace) refl i
  where
    begun : (c : Id) (args : List Value) (o : Option ProgramDef) → In b (bases (elim o [ None ↦ (kept trace).conts | Some p ↦ begun_cont c n p args (run_of u trace).vars (next_on_commit (parts_of p) 1) (kept trace).conts ])) → In b (bases_in trace) ⊎ (c ≡ b)
    begun c args None h = inl h
    begun c args (Some p) h = base-begun b c n p args (run_of u trace).vars (next_on_commit (parts_of p) 1) (kept trace).conts h

    on : (c : Id) (part : ℕ) (o : Option ProgramDef) → In b (bases (elim o [ None ↦ (kept trace).conts | Some p ↦ moved c (next_on_commit (parts_of p) part) (λ x. record x { vars = values_kept p (run_of u trace).vars }) (kept trace).conts ])) → In b (bases_in trace)
    on c part None h = h
    on c part (Some p) h = base-moved b c (next_on_commit (parts_of p) part) _ (λ x. refl) (kept trace).conts h

    by : (o : Option UnitKind) → kind_of u trace ≡ o → In b (bases (conts_at (kept trace) n o (run_of u trace).vars)) → In b (bases_in trace) ⊎ (option_and_then program_begun o ≡ Some b)
    by None e h = inl h
    by (Some (Acid s)) e h = inl h
    by (Some (Call s name args)) e h = inl h
    by (Some (First s c name args)) e h = either (λ j. inl j) (λ s. inr (ap Some s)) (begun c args (kept_program name (kept trace)) h)
    by (Some (Later c part)) e h = inl (on c part _ h)
bases-back trace u (Branched n cause) b i = inl (by (kind_of u trace) i)
  where
    on : (c : Id) (part : ℕ) (o : Option ProgramDef) → In b (bases (elim o [ None ↦ (kept trace).conts | Some p ↦ moved c (next_on_failure (parts_of p) part (tries_left c (kept trace))) (λ x. x) (kept trace).conts ])) → In b (bases_in trace)
    on c part None h = h
    on c part (Some p) h = base-moved b c (next_on_failure (parts_of p) part (tries_left c (kept trace))) _ (λ x. refl) (kept trace).conts h

    by : (o : Option UnitKind) → In b (bases (branched (kept trace) n o).conts) → In b (bases_in trace)
    by None h = h
    by (Some (Acid s)) h = h
    by (Some (Call s name args)) h = h
    by (Some (First s c name args)) h = h
    by (Some (Later c part)) h = on c part _ h
bases-back trace u end b i = inl i

-- an accepted program is finished, or goes on, or is about to be finished; one that goes on is accepted, or about to be
pub record Accounts (trace : Trace) : Type 0 where
  pub ends : (b : Id) → In b (accepted_in trace) → In b (finished_in trace) ⊎ (In b (bases_in trace) ⊎ (finished_after trace (last_said trace) ≡ Some b))
  pub begins : (b : Id) → In b (bases_in trace) → In b (accepted_in trace) ⊎ (accepted_after trace (last_said trace) ≡ Some b)

pub none-some : {A : Type 0} {B : Type 0} (o : Option A) (x : A) → o ≡ Some x → o ≡ None → B
none-some o x e n = let g : Some x ≡ None = sym e ∙ n in cc

ends-step : (trace : Trace) (e : Event) → Accounts trace → FinishesDue trace e → (b : Id) → In b (accepted_in (trace says e)) → In b (finished_in (trace says e)) ⊎ (In b (bases_in (trace says e)) ⊎ (finished_after (trace says e) (Some e) ≡ Some b))
ends-step trace (Accepted c) r f b i = either (λ j. either (λ g. inl g) (λ g. inr (either (λ k. inl k) (λ d. none-some _ b d f) g)) (r.ends b j)) (λ j. either (λ s. new s) (λ x. absurd x) j) (in-cases b (accepted_in trace) (c ∷ []) i)
  where
    new : c ≡ b → In b (finished_in (trace says Accepted c)) ⊎ (In b (bases_in (trace says Accepted c)) ⊎ (finished_after (trace says Accepted c) (Some (Accepted c)) ≡ Some b))
    new s = subst (λ x. In x (finished_in (trace says Accepted c)) ⊎ (In x (bases_in (trace says Accepted c)) ⊎ (finished_after (trace says Accepted c) (Some (Accepted c)) ≡ Some x))) s (inr (ended-or (trace says Accepted c) c))
ends-step trace (Finished c) r f b i = either (λ g. inl (in-left b (finished_in trace) (c ∷ []) g)) (λ g. either (λ k. inr (inl k)) (λ d. let s : Some c ≡ Some b = sym f ∙ d in let t : c ≡ b = cc in inl (in-right b (finished_in trace) (c ∷ []) (inl t))) g) (r.ends b i)
ends-step trace (Ended u end) r f b i = either (λ g. inl g) (λ g. inr (either (λ k. bases-forth trace u end b k) (λ d. none-some _ b d f) g)) (r.ends b i)
ends-step trace e r f b i = either (λ g. inl g) (λ g. inr (either (λ k. inl k) (λ d. none-some _ b d f) g)) (r.ends b i)

begins-step : (trace : Trace) (e : Event) → Accounts trace → AcceptsDue trace e → (b : Id) → In b (bases_in (trace says e)) → In b (accepted_in (trace says e)) ⊎ (accepted_after (trace says e) (Some e) ≡ Some b)
begins-step trace (Accepted c) r a b i = inl (either (λ g. in-left b (accepted_in trace) (c ∷ []) g) (λ d. let s : Some c ≡ Some b = sym a ∙ d in let t : c ≡ b = cc in in-right b (accepted_in trace) (c ∷ []) (inl t)) (r.begins b i))
begins-step trace (Ended u end) r a b i = either (λ j. inl (either (λ g. g) (λ d. none-some _ b d a) (r.begins b j))) (λ g. inr g) (bases-back trace u end b i)
begins-step trace e r a b i = inl (either (λ g. g) (λ d. none-some _ b d a) (r.begins b i))

pub accounts : (trace : Trace) → IsPlayed trace → OfBoots (start_of trace).kept → Accounts trace
accounts (from k) p w = record { ends = λ b i. inr (inl i); begins = λ b i. inl i }
accounts (trace asks asked) p w =
    let r = accounts trace p.0 w in
    record {
      ends = λ b i. either (λ g. inl g) (λ g. inr (either (λ k. inl k) (λ d. inr (finishes-asks trace asked (last_said trace) ∙ d)) g)) (r.ends b i);
      begins = λ b i. either (λ g. inl g) (λ d. inr (accepts-asks trace asked (last_said trace) ∙ d)) (r.begins b i);
    }
accounts (trace turns c) p w =
    let r = accounts trace p.0 w in
    record {
      ends = λ b i. either (λ g. inl g) (λ g. inr (either (λ k. inl k) (λ d. inr (finishes-turns trace c (last_said trace) ∙ d)) g)) (r.ends b i);
      begins = λ b i. either (λ g. inl g) (λ d. inr (accepts-turns trace c (last_said trace) ∙ d)) (r.begins b i);
    }
accounts (trace says e) p w =
    let r = accounts trace p.0 w in
    let c = (holds trace p.0 w).comes in
    record { ends = ends-step trace e r (finishes-due trace e p.0 c p.1); begins = begins-step trace e r (accepts-due trace e p.0 c p.1) }

both : (p q : Bool) → p ≡ true → q ≡ true → (p && q) ≡ true
both p q a b = rw (a, b) refl

pub goes-along : (trace : Trace) (e : Event) → Accounts trace → Sound trace → Fits trace e → AcceptsDue trace e → FinishesDue trace e → GoesAlong trace e
goes-along trace (Began u (Later b part)) r s f a d = (f.2.1, both (has_id b (accepted_in trace)) (not (has_id b (finished_in trace))) (in-has b (accepted_in trace) (either (λ g. g) (λ x. none-some _ b x a) (r.begins b there))) (not-over (has_id b (finished_in trace)) refl))
  where
    there : In b (bases_in trace)
    there = due-in b part (kept trace).conts f.2.1

    not-over : (t : Bool) → has_id b (finished_in trace) ≡ t → not t ≡ true
    not-over false e = refl
    not-over true e = absurd (s.goes_on b there (inl (has-in b (finished_in trace) e)))
goes-along trace Ready r s f a d = λ b. by b (has_id b (accepted_in trace)) refl
  where
    over : (b : Id) → In b (accepted_in trace) → has_id b (finished_in trace) ≡ true
    over b i = either (λ g. in-has b (finished_in trace) g) (λ g. either (λ k. absurd (subst (λ (cs : List Cont). In b (map (λ (c : Cont). c.base) cs)) f.1 k)) (λ x. none-some _ b x d) g) (r.ends b i)

    by : (b : Id) (t : Bool) → has_id b (accepted_in trace) ≡ t → is_unfinished trace b ≡ false
    by b false e = rw e refl
    by b true e = rw (e, over b (has-in b (accepted_in trace) e)) refl
goes-along trace (Early bs) r s f a d = record { opening = f.0; allowed = f.4; names = λ b. by b (has_id b bs) refl; ordered = ap in_order f.1 ∙ order-again (bases_in trace) ∙ sym f.1 }
  where
    goes : (b : Id) → In b (bases_in trace) → is_unfinished trace b ≡ true
    goes b i = both (has_id b (accepted_in trace)) (not (has_id b (finished_in trace))) (in-has b (accepted_in trace) (either (λ g. g) (λ x. none-some _ b x a) (r.begins b i))) (not-over (has_id b (finished_in trace)) refl)
      where
        not-over : (t : Bool) → has_id b (finished_in trace) ≡ t → not t ≡ true
        not-over false e = refl
        not-over true e = absurd (s.goes_on b i (inl (has-in b (finished_in trace) e)))

    over : (b : Id) → has_id b bs ≡ false → (t : Bool) → has_id b (accepted_in trace) ≡ t → is_unfinished trace b ≡ false
    over b n false e = rw e refl
    over b n true e = rw (e, either (λ g. in-has b (finished_in trace) g) (λ g. either (λ k. let h : has_id b bs ≡ true = in-has b bs (bases-named trace bs f b k) in cc) (λ x. none-some _ b x d) g) (r.ends b (has-in b (accepted_in trace) e))) refl

    by : (b : Id) (t : Bool) → has_id b bs ≡ t → has_id b bs ≡ is_unfinished trace b
    by b true e = e ∙ sym (goes b (named-bases trace bs f b (has-in b bs e)))
    by b false e = e ∙ sym (over b e (has_id b (accepted_in trace)) refl)
goes-along trace e r s f a d = tt
