-- The segment of a line that is refused is its Refused alone.
use Rattle.salt_ast.specs.declared.lines.Act.TheVariants.{Begin}
use Rattle.salt_ast.specs.declared.lines.Line.TheVariants.{Nothing, Session}
use Rattle.salt_ast.specs.declared.lines.Line.{Line}
use Rattle.salt_ast.specs.declared.trees.Statement.{Statement}
use Rattle.law_states.proofs.Askers.{waiting-asks, waiting-says}
use Rattle.law_states.proofs.KeptGraph.{served-kept, victim-kept}
use Rattle.law_states.proofs.KeptPrograms.{deps-asks}
use Rattle.law_states.proofs.LocksAfter.{held-asks, held-says}
use Rattle.law_states.proofs.Pairs.{deps-after}
use Rattle.law_states.proofs.PointsGoOn.{runs-point}
use Rattle.law_states.proofs.Settled.{settled}
use Rattle.law_states.specs.KeptSources.{Dependencies, KeepsDependencies, Through}
use Rattle.law_states.specs.KeptWaits.{Asker, IsSettled, served_in, victim_in, waiting}
use Rattle.law_states.specs.Members.{In, SameMembers}
use Rattle.law_states.specs.OpenUnits.{UnitState, next_turn_in}
use Rattle.law_states.specs.Points.{Ask, IsIdle, Moves, Point, Say}
use Rattle.law_states.specs.States.{State}
use Rattle.law_states.specs.Steps.{units_after}
use Rattle.law_story.proofs.Upheld.{OfBoots}
use Rattle.law_story.proofs.WellKept.{of-start}
use Rattle.salt_model.specs.After.{kept}
use Rattle.salt_model.specs.Kept.{WellKept, cont_of}
use Rattle.salt_model.specs.Locks.{clashing, held}
use Rattle.salt_model.specs.Next.{next, said_event, serving_event}
use Rattle.salt_model.specs.Phases.{Phase, Serving, phase}
use Rattle.salt_model.specs.Played.{IsPlayed}
use Rattle.salt_model.specs.Trace.{Asked, Rejected, Trace, from, line_of, start_of, ◌asks◌, ◌says◌, ◌turns◌}
use Rattle.salt_model.specs.Reads.{to_release}
use Rattle.salt_model.specs.Turns.{after_began, after_did, after_end, asks_for, begins, commits, does, fails, finishes, follow, go, goes_on, is_at_end, releases, settle, settle_by, turn}
use Rattle.salt_model.specs.Units.{kind_of, program_unit, wait_list}
use Rattle.salt_model.specs.Waiting.{WaitUnit, asked_by, block_of, clashing_now, is_on_cycle, names_of, next_unblocked, victim, wait_graph}
use Rattle.salt_model.specs.Words.{greatest, is_empty}
use Rattle.salt_model.specs.declared.events.Answer.TheVariants.{Failed}
use Rattle.salt_model.specs.declared.events.Answer.{Answer}
use Rattle.salt_model.specs.declared.events.Cause.{Cause}
use Rattle.salt_model.specs.declared.events.End.TheVariants.{Branched, Committed}
use Rattle.salt_model.specs.declared.events.End.{End}
use Rattle.salt_model.specs.declared.events.Event.TheVariants.{Accepted, Began, Did, Down, Early, Ended, Finished, Opened, Ready, Refused}
use Rattle.salt_model.specs.declared.events.Event.{Event}
use Rattle.salt_model.specs.declared.events.Owner.{Owner}
use Rattle.salt_model.specs.declared.events.Refusal.{Refusal}
use Rattle.salt_model.specs.declared.events.UnitKind.TheVariants.{Acid, First, Later}
use Rattle.salt_model.specs.declared.events.UnitKind.{UnitKind}
use Rattle.salt_model.specs.declared.locks.Lock.{Lock}
use Rattle.salt_driver.specs.Standing.{FinishesLine, IsAt, IsSoundPoint}
use Rattle.salt_values.specs.declared.cont.Cont.{Cont}
use Rattle.salt_values.specs.declared.id.Id.{Id}
use Rattle.std.proofs.Common.{ap, append-nil, inl, inr, subst, sym, ◌∙◌}
use Rattle.std.specs.List.{filter, filter_map, find}
use Rattle.std.specs.Bool.{then_some}
use Rattle.std.specs.Option.{option_or}
use Rattle.std.specs.Prelude.{Bool, List, None, Option, Some, [], cond, false, is_none, option_map, refl, true, ◌++◌, ◌↔◌, ◌∷◌, ◌≡◌}

none-kept : {A : Type 0} (p : A → Bool) (xs : List A) → ((x : A) → In x xs → p x ≡ false) → filter p xs ≡ []
none-kept p [] h = refl
none-kept p (x ∷ xs) h = ap (λ b. cond b (x ∷ filter p xs) (filter p xs)) (h x (inl refl)) ∙ none-kept p xs (λ y m. h y (inr m))

none-found : {A : Type 0} (p : A → Bool) (xs : List A) → ((x : A) → In x xs → p x ≡ false) → find p xs ≡ None
none-found p [] h = refl
none-found p (x ∷ xs) h = ap (λ b. cond b (Some x) (find p xs)) (h x (inl refl)) ∙ none-found p xs (λ y m. h y (inr m))

all-kept : {A : Type 0} (xs : List A) → filter_map (λ x. Some x) xs ≡ xs
all-kept [] = refl
all-kept (x ∷ xs) = ap (λ l. x ∷ l) (all-kept xs)

same-members : {A : Type 0} (xs : List A) → SameMembers xs xs
same-members xs = λ x. (λ h. h, λ h. h)

-- where settling has ended none is a victim, and none is served
settled-none : (trace : Trace) → IsSettled trace → (victim trace ≡ None) × (next_unblocked trace ≡ None)
settled-none trace s = (
  ap (λ (on : List WaitUnit). option_or (greatest (names_of (filter (λ w. w.acid) on))) (greatest (names_of on))) (none-kept (is_on_cycle (wait_graph trace)) (wait_graph trace) s.no_cycle),
  none-found (λ u. is_empty (clashing_now trace u)) (wait_list trace) s.clash,
)

-- such a line moves no lock, no wait and no program, so behind it there is nothing to settle
module _ (trace : Trace) (asked : Asked) (r : Refusal) (p : IsPlayed (trace asks asked says Refused r)) (w : WellKept (start_of trace).kept) where
  abbrev refused : Trace
  refused = trace asks asked says Refused r

  of-boots : OfBoots (start_of trace).kept
  of-boots = of-start (start_of trace).kept w

  held-same : held refused ≡ held trace
  held-same =
      held-says (trace asks asked) (Refused r) p w ∙ append-nil (filter_map (λ l. Some l) (held (trace asks asked))) ∙ all-kept (held (trace asks asked)) ∙ held-asks trace asked

  waiting-same : waiting refused ≡ waiting trace
  waiting-same = waiting-says (trace asks asked) (Refused r) p of-boots ∙ waiting-asks trace asked p.0.0 of-boots

  served-same : next_unblocked refused ≡ next_unblocked trace
  served-same =
      served-kept refused (held refused) (same-members (held refused)) ∙ ap (λ (ls : List Lock). served_in ls (waiting refused)) held-same
      ∙ ap (served_in (held trace)) waiting-same ∙ sym (served-kept trace (held trace) (same-members (held trace)))

  module _ (d : Dependencies) (sources : Id → List Id) (keeps : KeepsDependencies d trace) (closes : (c b : Id) → In b (sources c) ↔ Through d.reads c b) where
    depends-same : KeepsDependencies d refused
    depends-same =
        deps-after (trace asks asked) (Refused r) d d p w (deps-asks trace asked d keeps) (record { writer = λ q. refl; reads = λ x y. (λ h. h, λ h. h); finished = λ b. (λ h. h, λ h. h) })

    victim-same : victim refused ≡ victim trace
    victim-same =
        victim-kept refused d (held refused) sources p w depends-same (same-members (held refused)) (λ c known b. closes c b)
        ∙ ap (λ (ls : List Lock). victim_in d ls (waiting refused) sources) held-same ∙ ap (λ (ws : List Asker). victim_in d (held trace) ws sources) waiting-same
        ∙ sym (victim-kept trace d (held trace) sources p.0.0 w keeps (same-members (held trace)) (λ c known b. closes c b))

    none-behind : phase trace ≡ Serving → next trace ≡ None → next refused ≡ None
    none-behind serves none =
        let s = settled-none trace (settled trace p.0.0 of-boots serves none) in
        ap (λ (f : Phase). said_event f refused (Refused r)) serves ∙ ap (λ (v : Option Id). settle_by refused v (next_unblocked refused)) (victim-same ∙ s.0)
        ∙ ap (λ (u : Option Id). settle_by refused None u) (served-same ∙ s.1)

-- the line's first event is its Refused
pub refused-first : (r : Refusal) (event : Event) (p q : Point) → Moves (Ask (Rejected r)) p q → q.next ≡ Some event → event ≡ Refused r
refused-first r event p q a comes = same (sym comes ∙ a.next)
  where
    same : Some event ≡ Some (Refused r) → event ≡ Refused r
    same h = cc

-- and its last
refused-last : (r : Refusal) (p q s : Point) → IsSoundPoint p → Moves (Ask (Rejected r)) p q → Moves (Say (Refused r)) q s → IsIdle s
refused-last r p q s sound a m =
    let k = runs-point (Ask (Rejected r) ∷ Say (Refused r) ∷ []) p s sound.trace sound.keeps sound.sound (q, a, (s, m, refl)) in
    record {
      serves = ap (λ (x : UnitState). x.phase) m.0.after.units ∙ ap (λ (x : State). x.units.phase) a.state ∙ a.idle.serves;
      next = sym k.0.next ∙ none-behind sound.trace (Rejected r) r k.1.played sound.sound.well p.state.watch.dependencies a.read.sources sound.keeps.state.watch.dependencies a.read.closes
          (sound.keeps.state.units.phase ∙ a.idle.serves) (sound.keeps.next ∙ a.idle.next);
      turn = ap next_turn_in m.0.after.units ∙ ap (λ (x : State). next_turn_in (units_after (Refused r) x.units)) a.state;
    }

-- nothing is missing of it then
pub refused-done : (r : Refusal) (event : Event) (p q s : Point) → IsSoundPoint p → Moves (Ask (Rejected r)) p q → q.next ≡ Some event → Moves (Say event) q s → IsIdle s
refused-done r event p q s sound a comes m = refused-last r p q s sound a (subst (λ (f : Event). Moves (Say f) q s) (refused-first r event p q a comes) m)

pub refused-whole : {E : Type 0} (stands_for : E → Option Event → State → Type 0) (r : Refusal) (event : Event) (p q : Point) (story told : List Event) (e : E) (later : Option Event) → IsSoundPoint p →
    Moves (Ask (Rejected r)) p q → q.next ≡ Some event → ((s : Point) × Moves (Say event) q s × IsAt (stands_for e) Nothing later s) → told ≡ story ++ event ∷ [] → FinishesLine (stands_for e) Nothing q story told
refused-whole stands_for r event p q story told e later sound a comes x tells =
    let s = x.0 in
    let idle = refused-done r event p q s sound a comes x.1 in
    record {
      advances = record {
        moves = Say event ∷ [];
        point = s;
        runs = (s, x.1, refl);
        inside = (tt, tt);
        stands = subst (λ (o : Option Event). IsAt (stands_for e) Nothing o s) (sym x.2.comes ∙ idle.next) x.2;
        tells = tells;
      };
      idle = idle;
    }

-- ANY REFUSAL is the last event of its segment.

-- none follows an event, comes by a turn, or settles
abbrev is_refusal : Option Event → Bool
is_refusal (Some (Refused r)) = true
is_refusal e = false

else-none : (a b : Option Event) → is_refusal a ≡ false → is_refusal b ≡ false → is_refusal (option_or a b) ≡ false
else-none None b h k = k
else-none (Some e) b h k = h

mapped-none : {A : Type 0} (f : A → Event) → ((x : A) → is_refusal (Some (f x)) ≡ false) → (o : Option A) → is_refusal (option_map f o) ≡ false
mapped-none f h None = refl
mapped-none f h (Some x) = h x

then-none : (b : Bool) (e : Event) → is_refusal (Some e) ≡ false → is_refusal (then_some b e) ≡ false
then-none true e h = h
then-none false e h = refl

turn-none : (trace : Trace) (u : Id) → is_refusal (turn trace u) ≡ false
turn-none trace u = mapped-none (λ st. asks_for trace u st (clashing trace u st)) (λ st. by st (clashing trace u st)) (asked_by u trace)
  where
    by : (st : Statement) (owners : List Owner) → is_refusal (Some (asks_for trace u st owners)) ≡ false
    by st [] = refl
    by st (w ∷ ws) = refl

go-none : (trace : Trace) (b : Id) → is_refusal (go trace b) ≡ false
go-none trace b = by (program_unit b trace)
  where
    by : (o : Option Id) → is_refusal (goes_on trace b o) ≡ false
    by (Some u) = turn-none trace u
    by None = mapped-none (λ (c : Cont). begins trace (Later b c.next)) (λ c. refl) (cont_of b (kept trace))

began-none : (trace : Trace) (u : Id) (line : Line) (kind : UnitKind) → is_refusal (after_began trace u line kind) ≡ false
began-none trace u (Session s Begin) (Acid t) = refl
began-none trace u line kind = turn-none trace u

fails-none : (trace : Trace) (u : Id) (c : Cause) (kind : Option UnitKind) → is_refusal (Some (fails trace u c kind)) ≡ false
fails-none trace u c (Some (Later b part)) = refl
fails-none trace u c kind = refl

did-none : (trace : Trace) (u : Id) (answer : Answer) → is_refusal (after_did trace u answer) ≡ false
did-none trace u (Failed c) = fails-none trace u c (kind_of u trace)
did-none trace u answer = then-none (is_at_end trace u (block_of u trace)) (commits trace u) refl

finishes-none : (trace : Trace) (b : Id) → is_refusal (finishes trace b) ≡ false
finishes-none trace b = then-none (is_none (cont_of b (kept trace))) (Finished b) refl

end-none : (trace : Trace) (end : End) (kind : Option UnitKind) → is_refusal (after_end trace end kind) ≡ false
end-none trace (Committed n) (Some (First s b name args)) = refl
end-none trace (Committed n) (Some (Later b part)) = finishes-none trace b
end-none trace (Branched n c) (Some (Later b part)) = finishes-none trace b
end-none trace end kind = refl

releases-none : (bs : List Id) → is_refusal (releases bs) ≡ false
releases-none [] = refl
releases-none (b ∷ bs) = refl

follow-none : (trace : Trace) (e : Event) → is_refusal (follow trace e) ≡ false
follow-none trace (Began u kind) = began-none trace u (line_of trace) kind
follow-none trace (Did u st answer) = did-none trace u answer
follow-none trace (Ended u end) = end-none trace end (kind_of u trace)
follow-none trace (Accepted b) = finishes-none trace b
follow-none trace (Finished b) = releases-none (to_release trace)
follow-none trace e = refl

settle-none : (trace : Trace) → is_refusal (settle trace) ≡ false
settle-none trace = by (victim trace) (next_unblocked trace)
  where
    by : (v u : Option Id) → is_refusal (settle_by trace v u) ≡ false
    by (Some v) u = refl
    by None (Some u) = mapped-none (does trace u) (λ st. refl) (asked_by u trace)
    by None None = refl

serving-none : (trace : Trace) (e : Event) → is_refusal (serving_event trace e) ≡ false
serving-none trace Ready = refl
serving-none trace (Early bs) = refl
serving-none trace e = else-none (follow trace e) (settle trace) (follow-none trace e) (settle-none trace)

-- so it is of a line that was asked just now
pub refused-asked : (trace : Trace) (r : Refusal) → phase trace ≡ Serving → next trace ≡ Some (Refused r) → (before : Trace) × (asked : Asked) × (trace ≡ before asks asked)
refused-asked (from k) r serves comes = cc
refused-asked (trace asks asked) r serves comes = (trace, asked, refl)
refused-asked (trace turns b) r serves comes = let no : true ≡ false = ap is_refusal (sym comes) ∙ go-none (trace turns b) b in cc
refused-asked (trace says Down why) r serves comes = cc
refused-asked (trace says Opened boot n) r serves comes = cc
refused-asked (trace says e) r serves comes =
    let no : true ≡ false = ap is_refusal (sym comes) ∙ ap (λ (f : Phase). is_refusal (said_event f (trace says e) e)) serves ∙ serving-none (trace says e) e in cc

-- it leaves what is kept of programs
deps-before : (trace : Trace) (asked : Asked) (r : Refusal) (d : Dependencies) → KeepsDependencies d (trace asks asked says Refused r) → KeepsDependencies d trace
deps-before trace asked r d k = record {
  writer = k.writer;
  reads = λ x y. (
    (λ t. let h = (k.reads x y).0 t in record { reads = h.reads; reader = record { unreleased = h.reader.unreleased; kept = h.reader.kept }; source = h.source }),
    (λ h. (k.reads x y).1 (record { reads = h.reads; reader = record { unreleased = h.reader.unreleased; kept = h.reader.kept }; source = h.source })),
  );
  finished = λ b. (
    (λ t. let h = (k.finished b).0 t in record { finished = h.finished; unreleased = h.unreleased }),
    (λ h. (k.finished b).1 (record { finished = h.finished; unreleased = h.unreleased })),
  );
}

pub refused-rests : (r : Refusal) (p q : Point) → IsSoundPoint p → p.state.units.phase ≡ Serving → Moves (Say (Refused r)) p q → q.next ≡ None
refused-rests r p q sound serves m =
    let k = runs-point (Say (Refused r) ∷ []) p q sound.trace sound.keeps sound.sound (q, m, refl) in
    let a = refused-asked sound.trace r (sound.keeps.state.units.phase ∙ serves) (sound.keeps.next ∙ m.0.comes) in
    sym k.0.next ∙ by sound.trace a.0 a.1 a.2 k.1.played sound.sound.well (sound.keeps.state.units.phase ∙ serves) k.0.state.watch.dependencies
  where
    by : (trace before : Trace) (asked : Asked) → trace ≡ before asks asked → IsPlayed (trace says Refused r) → WellKept (start_of trace).kept → phase trace ≡ Serving →
        KeepsDependencies q.state.watch.dependencies (trace says Refused r) → next (trace says Refused r) ≡ None
    by trace before asked is played well up keeps =
        subst (λ (t : Trace). next (t says Refused r) ≡ None) (sym is)
        (let p : IsPlayed (before asks asked says Refused r) = subst (λ (t : Trace). IsPlayed (t says Refused r)) is played in
        none-behind before asked r p (subst (λ (t : Trace). WellKept (start_of t).kept) is well) q.state.watch.dependencies m.0.read.sources
        (deps-before before asked r q.state.watch.dependencies (subst (λ (t : Trace). KeepsDependencies q.state.watch.dependencies (t says Refused r)) is keeps)) m.0.read.closes
        p.0.1.0 p.0.1.1)
