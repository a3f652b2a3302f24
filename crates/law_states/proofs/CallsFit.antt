-- The calls on what is kept of programs make of it what the events do.
use Rattle.salt_ast.specs.declared.trees.Statement.{Statement}
use Rattle.law_states.proofs.Closures.{same-bool}
use Rattle.law_states.specs.DependencyCalls.{HasAbandoned, HasFinished, HasRead, IsCommitted, WroteAll, marked}
use Rattle.law_states.specs.KeptSources.{Dependencies, WritesIn, given_up, unless_among}
use Rattle.law_states.specs.UnitFacts.{UnitFacts}
use Rattle.law_states.specs.WatchSteps.{DependenciesBy, base_by, first_by, writer_by}
use Rattle.law_story.proofs.Ids.{is_same_id-refl, is_same_id-true}
use Rattle.law_story.proofs.Lists.{either, has-in, in-has, in-order, into-order, or_cases}
use Rattle.salt_model.specs.Tables.{place_cmp}
use Rattle.salt_values.specs.Id.{has_id, in_order}
use Rattle.salt_model.specs.declared.events.Answer.{Answer}
use Rattle.salt_model.specs.declared.events.End.{End}
use Rattle.salt_model.specs.declared.events.End.TheVariants.{Branched, Committed, Cut, Failed, RolledBack, Victim}
use Rattle.salt_model.specs.declared.events.Event.TheVariants.{Did, Ended, Finished, Released}
use Rattle.salt_model.specs.declared.locks.Reach.{Reach}
use Rattle.salt_model.specs.declared.places.Place.{Place}
use Rattle.salt_values.specs.Id.{is_same_id}
use Rattle.salt_values.specs.declared.id.Id.{Id}
use Rattle.std.proofs.Common.{ap, inl, inr, subst, sym, ◌∙◌}
use Rattle.std.specs.Bool.{then_some}
use Rattle.std.specs.FinMap.Entries.{is_some-find}
use Rattle.std.specs.List.{list_any}
use Rattle.std.specs.Ordering.{is_eq}
use Rattle.std.specs.Prelude.{Bool, IsTrue, List, None, Option, Some, [], cond, false, map, not, refl, true, ℕ, ◌||◌, ◌↔◌, ◌∷◌, ◌≡◌, ◌⊎◌}

-- keys written one after another
wrote-writer : (base : Option Id) (ps : List Place) (old new : Dependencies) → WroteAll base ps old new → (q : Place) →
    new.writer q ≡ cond (list_any (λ p. is_eq (place_cmp q p)) ps) base (old.writer q)
wrote-writer base [] old new w q = w.writer q
wrote-writer base (p ∷ ps) old new w q =
    wrote-writer base ps w.0 new w.2 q ∙ ap (cond (list_any (λ p. is_eq (place_cmp q p)) ps) base) (w.1.writer q)
    ∙ by (list_any (λ p. is_eq (place_cmp q p)) ps) (is_eq (place_cmp q p))
  where
    by : (more first : Bool) → cond more base (cond first base (old.writer q)) ≡ cond (first || more) base (old.writer q)
    by true true = refl
    by true false = refl
    by false true = refl
    by false false = refl

both : {A B C : Type 0} → A ↔ B → B ↔ C → A ↔ C
both f g = ((λ a. g.0 (f.0 a)), (λ c. f.1 (g.1 c)))

pub wrote-reads : (base : Option Id) (ps : List Place) (old new : Dependencies) → WroteAll base ps old new → (x y : Id) →
    IsTrue (new.reads x y) ↔ IsTrue (old.reads x y)
wrote-reads base [] old new w x y = w.reads x y
wrote-reads base (p ∷ ps) old new w x y = both (wrote-reads base ps w.0 new w.2 x y) (w.1.reads x y)

pub wrote-finished : (base : Option Id) (ps : List Place) (old new : Dependencies) → WroteAll base ps old new → (b : Id) →
    IsTrue (new.finished b) ↔ IsTrue (old.finished b)
wrote-finished base [] old new w b = w.finished b
wrote-finished base (p ∷ ps) old new w b = both (wrote-finished base ps w.0 new w.2 b) (w.1.finished b)

-- a commit: each key that the unit's changes name is written by its program
pub commit-fits : (facts : UnitFacts) (u : Id) (n : ℕ) (old new : Dependencies) → WroteAll (base_by facts) (map (λ e. e.0) facts.changes) old new →
    DependenciesBy facts (Ended u (Committed n)) old new
commit-fits facts u n old new w = record {
  writer = λ q. wrote-writer (base_by facts) (map (λ e. e.0) facts.changes) old new w q ∙ ap (λ t. cond t (base_by facts) (old.writer q)) (sym (is_some-find place_cmp q facts.changes));
  reads = λ x y. let r = wrote-reads (base_by facts) (map (λ e. e.0) facts.changes) old new w x y in ((λ t. (r.0 t, refl)), (λ t. r.1 t.0));
  finished = λ b. wrote-finished (base_by facts) (map (λ e. e.0) facts.changes) old new w b;
}

-- a statement of a subtransaction
pub read-fits : (facts : UnitFacts) (u b : Id) (st : Statement) (a : Answer) (r : Reach) (old new : Dependencies) → base_by facts ≡ Some b →
    facts.reach ≡ Some r → HasRead b r old new → DependenciesBy facts (Did u st a) old new
read-fits facts u b st a r old new p h d = record {
  writer = d.writer;
  reads = λ x y. let q = d.reads x y in (
    (λ t. either (λ o. inl o) (λ m. inr (p ∙ ap Some m.0, m.1, subst (λ o. WritesIn old.writer o y) (sym h) m.2)) (q.0 t)),
    (λ t. q.1 (either (λ o. inl o) (λ m. let e : Some b ≡ Some x = sym p ∙ m.0 in inr (some-same b x e, m.1, subst (λ o. WritesIn old.writer o y) h m.2)) t)),
  );
  finished = d.finished;
}
  where
    some-same : (b x : Id) → Some b ≡ Some x → b ≡ x
    some-same b x e = cc

-- a statement of an ACID unit, or one that reaches nothing, changes nothing
pub unread-fits : (facts : UnitFacts) (u : Id) (st : Statement) (a : Answer) (old : Dependencies) → (base_by facts ≡ None) ⊎ (facts.reach ≡ None) →
    DependenciesBy facts (Did u st a) old old
unread-fits facts u st a old n = record {
  writer = λ q. refl;
  reads = λ x y. ((λ t. inl t), (λ t. either (λ o. o) (λ m. absurd (none x y m n)) t));
  finished = λ b. ((λ t. t), (λ t. t));
}
  where
    none : (x y : Id) → (base_by facts ≡ Some x) × (is_same_id y x ≡ false) × WritesIn old.writer (facts.reach) y →
        (base_by facts ≡ None) ⊎ (facts.reach ≡ None) → ⊥
    none x y m (inl e) = let q : None ≡ Some x = sym e ∙ m.0 in cc
    none x y m (inr e) = subst (λ o. WritesIn old.writer o y) e m.2

-- a first part that ends without a commit
abandon-given : (facts : UnitFacts) (u b : Id) (end : End) (old new : Dependencies) → (o : Option Id) → o ≡ Some b →
    ((x : Id) → has_id x (given_up end o) ≡ is_same_id x b) → HasAbandoned b old new → (x y : Id) →
    IsTrue (new.reads x y) ↔ (IsTrue (old.reads x y) × (has_id x (given_up end o) ≡ false))
abandon-given facts u b end old new o e g d x y = let q = d.reads x y in ((λ t. let r = q.0 t in (r.0, g x ∙ r.1)), (λ t. q.1 (t.0, sym (g x) ∙ t.1)))

pub abandon-fits : (facts : UnitFacts) (u b : Id) (end : End) (old new : Dependencies) → (IsCommitted end → ⊥) → first_by facts ≡ Some b →
    HasAbandoned b old new → DependenciesBy facts (Ended u end) old new
abandon-fits facts u b end old new c e d = record {
  writer = λ q. d.writer q ∙ kept end c q;
  reads = abandon-given facts u b end old new (first_by facts) e (given end c) d;
  finished = d.finished;
}
  where
    kept : (end : End) → (IsCommitted end → ⊥) → (q : Place) → old.writer q ≡ writer_by facts (Ended u end) old.writer q
    kept (Committed n) c q = absurd (c tt)
    kept (Failed x) c q = refl
    kept (Branched n x) c q = refl
    kept RolledBack c q = refl
    kept Victim c q = refl
    kept Cut c q = refl

    or-no : (t : Bool) → (t || false) ≡ t
    or-no true = refl
    or-no false = refl

    given : (end : End) → (IsCommitted end → ⊥) → (x : Id) → has_id x (given_up end (first_by facts)) ≡ is_same_id x b
    given (Committed n) c x = absurd (c tt)
    given (Failed z) c x = ap (λ o. has_id x (given_up (Failed z) o)) e ∙ or-no (is_same_id x b)
    given (Branched n z) c x = ap (λ o. has_id x (given_up (Branched n z) o)) e ∙ or-no (is_same_id x b)
    given RolledBack c x = ap (λ o. has_id x (given_up RolledBack o)) e ∙ or-no (is_same_id x b)
    given Victim c x = ap (λ o. has_id x (given_up Victim o)) e ∙ or-no (is_same_id x b)
    given Cut c x = ap (λ o. has_id x (given_up Cut o)) e ∙ or-no (is_same_id x b)

-- a program comes to its end
or-true : (p q : Bool) → (p ≡ true) ⊎ (q ≡ true) → (p || q) ≡ true
or-true true q h = refl
or-true false q (inl e) = cc
or-true false q (inr e) = e

mark-fits : (facts : UnitFacts) (c : Id) (old : Dependencies) → DependenciesBy facts (Finished c) old (marked c old)
mark-fits facts c old = record {
  writer = λ q. refl;
  reads = λ x y. ((λ t. t), (λ t. t));
  finished = λ b. (
    (λ t. either (λ e. inl (sym (is_same_id-true b c e))) (λ e. inr e) (or_cases (is_same_id b c) _ t)),
    (λ t. or-true (is_same_id b c) (old.finished b) (either (λ e. inl (subst (λ x. is_same_id x c ≡ true) e (is_same_id-refl c))) (λ e. inr e) t)),
  );
}

pub finish-marks : (facts : UnitFacts) (c : Id) (old : Dependencies) → DependenciesBy facts (Finished c) old (marked c old)
finish-marks facts c old = mark-fits facts c old

has-order : (b : Id) (bs : List Id) → has_id b (in_order bs) ≡ has_id b bs
has-order b bs =
    same-bool _ _ (λ e. in-has b bs (in-order b bs (has-in b (in_order bs) e))) (λ e. in-has b (in_order bs) (into-order b bs (has-in b bs e)))

-- what is kept after the release that follows
pub finish-leaves : (facts : UnitFacts) (c : Id) (bs : List Id) (old new : Dependencies) → HasFinished c bs old new →
    DependenciesBy facts (Released (in_order bs)) (marked c old) new
finish-leaves facts c bs old new h = record {
  writer = λ q. h.writer q ∙ among (old.writer q);
  reads = λ x y. (
    (λ t. let r = (h.reads x y).0 t in (r.0, has-order x bs ∙ r.1, has-order y bs ∙ r.2)),
    (λ t. (h.reads x y).1 (t.0, sym (has-order x bs) ∙ t.1, sym (has-order y bs) ∙ t.2)),
  );
  finished = λ b. ((λ t. let r = (h.finished b).0 t in (r.0, has-order b bs ∙ r.1)), (λ t. (h.finished b).1 (t.0, sym (has-order b bs) ∙ t.1)));
}
  where
    among : (o : Option Id) → unless_among bs o ≡ unless_among (in_order bs) o
    among None = refl
    among (Some b) = ap (λ t. then_some (not t) b) (sym (has-order b bs))

-- or where nothing is due
pub finish-none : (facts : UnitFacts) (c : Id) (old new : Dependencies) → HasFinished c [] old new → DependenciesBy facts (Finished c) old new
finish-none facts c old new h = record {
  writer = λ q. h.writer q ∙ none (old.writer q);
  reads = λ x y. ((λ t. ((h.reads x y).0 t).0), (λ t. (h.reads x y).1 (t, refl, refl)));
  finished = λ b. let m = (mark-fits facts c old).finished b in ((λ t. m.0 ((h.finished b).0 t).0), (λ t. (h.finished b).1 (m.1 t, refl)));
}
  where
    none : (o : Option Id) → unless_among [] o ≡ o
    none None = refl
    none (Some b) = refl
